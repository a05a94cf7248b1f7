-- Captured images are a finite map: what is found behind each call.
use Rattle.std.specs.Prelude.{Bool, List, None, Option, Some, [], cond, false, filter, find, if◌then◌else◌, length, not, option_map, true, ℕ, ◌&&◌, ◌+◌, ◌<◌, ◌==◌, ◌∷◌, ◌≡◌, refl}
use Rattle.std.proofs.Common.{ap, arith, sym, ◌∙◌}
use Rattle.std.proofs.lemmas.Bool.Decides.{nat_tests}
use Rattle.ol_before.specs.Images.{Captures, Image, captured, image_of, is_before, is_in_space, is_of, with_image, without}
use Rattle.ol_before.proofs.OrderLaws.{with_image_length}
use Rattle.ol_before.proofs.ValueLaws.{kept_length}

-- ---- an image more

apart : (space page : ℕ) (i j : Image) → is_before i.space i.page j ≡ true → is_of space page i ≡ true → is_of space page j ≡ false
apart space page i j before same = grind (arith, nat_tests)

found_with : (i : Image) (held : List Image) (space page : ℕ) → find (is_of space page) (with_image i held) ≡ (if is_of space page i then Some i else find (is_of space page) held)
found_with i [] space page = refl
found_with i (j ∷ held) space page = go (is_before i.space i.page j) refl (is_of space page i) refl (found_with i held space page)
  where
    rest : Option Image
    rest = find (is_of space page) held

    go : (b : Bool) → is_before i.space i.page j ≡ b → (o : Bool) → is_of space page i ≡ o → find (is_of space page) (with_image i held) ≡ (if is_of space page i then Some i else rest)
        → find (is_of space page) (with_image i (j ∷ held)) ≡ (if is_of space page i then Some i else find (is_of space page) (j ∷ held))
    go true is true same more =
        ap (λ (b : Bool). find (is_of space page) (if b then j ∷ with_image i held else i ∷ j ∷ held)) is
        ∙ ap (λ (b : Bool). if b then Some j else find (is_of space page) (with_image i held)) (apart space page i j is same)
        ∙ more
        ∙ ap (λ (b : Bool). if b then Some i else rest) same
        ∙ sym (ap (λ (b : Bool). if b then Some i else find (is_of space page) (j ∷ held)) same)
    go true is false other more =
        ap (λ (b : Bool). find (is_of space page) (if b then j ∷ with_image i held else i ∷ j ∷ held)) is
        ∙ ap (λ (o : Option Image). if is_of space page j then Some j else o) (more ∙ ap (λ (b : Bool). if b then Some i else rest) other)
        ∙ sym (ap (λ (b : Bool). if b then Some i else find (is_of space page) (j ∷ held)) other)
    go false is o same more = ap (λ (b : Bool). find (is_of space page) (if b then j ∷ with_image i held else i ∷ j ∷ held)) is

pub image_with : (i : Image) (c : Captures) (space page : ℕ) → image_of (captured i c).held space page ≡ (if is_of space page i then Some i.bytes else image_of c.held space page)
image_with i c space page =
    ap (λ (o : Option Image). option_map (λ (j : Image). j.bytes) o) (found_with i c.held space page)
    ∙ elim (is_of space page i) as (λ b. option_map (λ (j : Image). j.bytes) (if b then Some i else find (is_of space page) c.held) ≡ (if b then Some i.bytes else image_of c.held space page)) [ true ↦ refl | false ↦ refl ]

pub memory_with : (i : Image) (c : Captures) → 0 < c.spare → length (captured i c).held + (captured i c).spare ≡ length c.held + c.spare
memory_with i c some = omega (arith, some, with_image_length i c.held)

-- ---- images less

-- where all images that a test finds are dropped, or none of them is
found_without : (test drops : Image → Bool) (b : Bool) → ((i : Image) → test i ≡ true → drops i ≡ b) → (held : List Image)
    → find test (filter (λ i. not (drops i)) held) ≡ (if b then None else find test held)
found_without test drops true same [] = refl
found_without test drops false same [] = refl
found_without test drops b same (i ∷ held) = go b same (test i) refl (drops i) refl (found_without test drops b same held)
  where
    kept : List Image
    kept = filter (λ j. not (drops j)) held

    go : (b : Bool) → ((j : Image) → test j ≡ true → drops j ≡ b) → (t : Bool) → test i ≡ t → (d : Bool) → drops i ≡ d → find test kept ≡ (if b then None else find test held)
        → find test (filter (λ j. not (drops j)) (i ∷ held)) ≡ (if b then None else find test (i ∷ held))
    go true same t is true drop more = ap (λ (d : Bool). find test (cond (not d) (i ∷ kept) kept)) drop ∙ more
    go false same true is true drop more = absurd (cc (sym drop, same i is))
    go false same false is true drop more =
        ap (λ (d : Bool). find test (cond (not d) (i ∷ kept) kept)) drop ∙ more ∙ sym (ap (λ (t : Bool). if t then Some i else find test held) is)
    go true same true is false drop more = absurd (cc (sym drop, same i is))
    go true same false is false drop more =
        ap (λ (d : Bool). find test (cond (not d) (i ∷ kept) kept)) drop ∙ ap (λ (t : Bool). if t then Some i else find test kept) is ∙ more
    go false same t is false drop more =
        ap (λ (d : Bool). find test (cond (not d) (i ∷ kept) kept)) drop ∙ ap (λ (o : Option Image). if test i then Some i else o) more

image_without : (test drops : Image → Bool) (b : Bool) → ((i : Image) → test i ≡ true → drops i ≡ b) → (held : List Image)
    → option_map (λ (i : Image). i.bytes) (find test (filter (λ i. not (drops i)) held)) ≡ (if b then None else option_map (λ (i : Image). i.bytes) (find test held))
image_without test drops b same held =
    ap (λ (o : Option Image). option_map (λ (j : Image). j.bytes) o) (found_without test drops b same held)
    ∙ elim b as (λ b. option_map (λ (j : Image). j.bytes) (if b then None else find test held) ≡ (if b then None else option_map (λ (i : Image). i.bytes) (find test held))) [ true ↦ refl | false ↦ refl ]

same_place : (space page at_space at_page : ℕ) (i : Image) → is_of at_space at_page i ≡ true → is_of space page i ≡ ((at_space == space) && (at_page == page))
same_place space page at_space at_page i here = grind (arith, nat_tests)

same_space : (space at_space at_page : ℕ) (i : Image) → is_of at_space at_page i ≡ true → is_in_space space i ≡ (at_space == space)
same_space space at_space at_page i here = grind (arith, nat_tests)

pub image_taken : (c : Captures) (space page at_space at_page : ℕ) → image_of (without (is_of space page) c).held at_space at_page ≡ (if (at_space == space) && (at_page == page) then None else image_of c.held at_space at_page)
image_taken c space page at_space at_page =
    image_without (is_of at_space at_page) (is_of space page) ((at_space == space) && (at_page == page)) (same_place space page at_space at_page) c.held

pub image_dropped : (c : Captures) (space at_space at_page : ℕ) → image_of (without (is_in_space space) c).held at_space at_page ≡ (if at_space == space then None else image_of c.held at_space at_page)
image_dropped c space at_space at_page = image_without (is_of at_space at_page) (is_in_space space) (at_space == space) (same_space space at_space at_page) c.held

pub memory_without : (test : Image → Bool) (c : Captures) → length (without test c).held + (without test c).spare ≡ length c.held + c.spare
memory_without test c = omega (arith, kept_length (λ i. not (test i)) c.held)
