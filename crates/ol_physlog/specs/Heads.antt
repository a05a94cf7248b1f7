-- The head of an entry: the gate, the mark, the place of the page that the entry is of, and the generation. Numbers are big-endian.
use Rattle.std.specs.Int.{from_be_bytes, to_be_bytes, w16, w64}
use Rattle.std.specs.Prelude.{Bool, List, [], bytes_eq, codes, drop, if◌then◌else◌, slice_index, take, ℕ, ◌&&◌, ◌++◌, ◌<◌, ◌==◌, ◌^◌, ◌∷◌, ◌≡◌, true}
use Rattle.ol_values.specs.Config.{Config, has_page}
use Rattle.ol_physlog.specs.declared.place.Place.{Place}
use Rattle.ol_physlog.specs.declared.head.Head.{Head}
use Rattle.ol_physlog.specs.declared.head.Head.TheVariants.{Bad, Counts, Idle}

-- what stands behind the gate
unfoldable pub body_bytes : Place → ℕ → List ℕ
body_bytes place generation = codes "PHY" ++ (place.space ∷ 0 ∷ []) ++ to_be_bytes w16 place.page ++ to_be_bytes w64 generation

-- a head with this gate byte
abbrev pub head_bytes : ℕ → Place → ℕ → List ℕ
head_bytes gate place generation = gate ∷ body_bytes place generation

-- a page that the configuration has
abbrev pub IsPage : Config → Place → Type 0
IsPage c place = (has_page c place.space place.page ≡ true) × (place.page < 2 ^ 16)

-- ---- reading

abbrev pub gate_in : List ℕ → ℕ
gate_in head = slice_index head 0

unfoldable pub generation_in : List ℕ → ℕ
generation_in head = from_be_bytes w64 (take 8 (drop 8 head))

unfoldable pub place_in : List ℕ → Place
place_in head = record { space = slice_index head 4; page = from_be_bytes w16 (take 2 (drop 6 head)) }

-- whether a head has the mark, zero in byte 5, and a page of the configuration
unfoldable pub is_spelled : Config → List ℕ → Bool
is_spelled c head = bytes_eq (take 3 (drop 1 head)) (codes "PHY") && ((slice_index head 5 == 0) && has_page c (place_in head).space (place_in head).page)

-- what a head says of its entry, for a generation
unfoldable pub head_in : Config → ℕ → List ℕ → Head
head_in c generation head =
    if (gate_in head == 1) && (generation_in head == generation) then (if is_spelled c head then Counts (place_in head) else Bad) else Idle
