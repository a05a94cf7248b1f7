-- Captured images as a value: a finite map from places to images, as a list in order of space and page.
use Rattle.std.specs.List.{AllByRecursion}
use Rattle.std.specs.Prelude.{Bool, List, None, Option, Some, [], filter, find, if◌then◌else◌, length, max, nat_lt, not, option_map, slice_get, suc, true, ℕ, ◌&&◌, ◌+◌, ◌-◌, ◌==◌, ◌||◌, ◌∷◌, ◌≡◌, ◌≤◌}

-- the image of a page
pub record Image : Type 0 where
  pub space : ℕ
  pub page : ℕ
  pub bytes : List ℕ

-- how many images there may be, those that are held, and for how many more memory was made
pub record Captures : Type 0 where
  pub limit : ℕ
  pub held : List Image
  pub spare : ℕ

-- ---- what is held

-- whether an image is of this place
abbrev pub is_of : ℕ → ℕ → Image → Bool
is_of space page i = (i.space == space) && (i.page == page)

-- whether an image is of this space
abbrev pub is_in_space : ℕ → Image → Bool
is_in_space space i = i.space == space

-- the image of a place
abbrev pub image_of : List Image → ℕ → ℕ → Option (List ℕ)
image_of held space page = option_map (λ (i : Image). i.bytes) (find (is_of space page) held)

-- ---- what calls leave

-- no image, and no memory for one
abbrev pub no_captures : ℕ → Captures
no_captures limit = record { limit = limit; held = []; spare = 0 }

-- whether an image's place stands before this one, in order of space and page
abbrev pub is_before : ℕ → ℕ → Image → Bool
is_before space page i = nat_lt i.space space || ((i.space == space) && nat_lt i.page page)

-- an image more, in its place of the order
abbrev pub with_image : Image → List Image → List Image
with_image i [] = i ∷ []
with_image i (j ∷ held) = if is_before i.space i.page j then j ∷ with_image i held else i ∷ j ∷ held

-- memory for an image, where there was none
abbrev pub with_room : Captures → Captures
with_room c = record { limit = c.limit; held = c.held; spare = max 1 c.spare }

-- an image is captured into spare memory
abbrev pub captured : Image → Captures → Captures
captured i c = record { limit = c.limit; held = with_image i c.held; spare = c.spare - 1 }

-- images that do not pass a test; the memory of those that do is spare
abbrev pub without : (Image → Bool) → Captures → Captures
without test c =
    let kept = filter (λ i. not (test i)) c.held in
    record { limit = c.limit; held = kept; spare = c.spare + (length c.held - length kept) }

-- ---- how images are stored

-- how many images at the front stand before a place
abbrev pub rank_of : ℕ → ℕ → List Image → ℕ
rank_of space page [] = 0
rank_of space page (i ∷ held) = if is_before space page i then suc (rank_of space page held) else 0

abbrev pub no_image : Image
no_image = record { space = 0; page = 0; bytes = [] }

-- the image at an index, if there is one
abbrev pub image_at : List Image → Option ℕ → Option Image
image_at held None = None
image_at held (Some at) = slice_get held at

-- each image stands before all later ones
abbrev pub Ascend : List Image → Type 0
Ascend [] = Unit {0}
Ascend (i ∷ held) = AllByRecursion (λ (j : Image). is_before j.space j.page i ≡ true) held × Ascend held

-- images in order, and lists with places for one more than there may be
pub record IsStored (limit : ℕ) (held : List Image) (spare room free : ℕ) : Type 0 where
  pub ascend : Ascend held
  pub few : limit ≤ 4096
  pub held_room : limit + 1 ≤ room
  pub free_room : limit + 1 ≤ free
  pub within : length held ≤ limit
  pub memory : length held + spare ≤ limit + 1
