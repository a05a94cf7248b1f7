-- The items of pages: each has what was put there last.
use Rattle.std.specs.List.{range_with_len}
use Rattle.std.specs.Prelude.{List, None, Option, [], get_or, is_some, length, map, replicate, slice_index_or, slice_set, suc, true, zero, ℕ, ◌++◌, ◌+◌, ◌<◌, ◌∷◌, ◌≡◌, ◌⊎◌, refl}
use Rattle.std.proofs.Common.{ap, arith, get_or-set_same, inl, inr, length-set, sym, zero-add, ◌∙◌}
use Rattle.std.proofs.lemmas.List.{length-replicate}
use Rattle.std.proofs.lemmas.List.FromFn.{map-range_with_len_more}
use Rattle.ol_pool.specs.Frames.{item_at, with_item}
use Rattle.ol_pool.proofs.ListLaws.{replicated, set_either, some_within}

-- an item is the new one, in its place, or what it was
pub item_either : {X : Type 0} (d : X) (items : List (List X)) (space page : ℕ) (x : X) (at_space at_page : ℕ) → ((item_at d (with_item items space page x) at_space at_page ≡ x) × (at_space ≡ space) × (at_page ≡ page)) ⊎ (item_at d (with_item items space page x) at_space at_page ≡ item_at d items at_space at_page)
item_either {X} d items space page x at_space at_page =
    let row = slice_index_or items space [] in
    elim (set_either items space (slice_set row page x) at_space []) [
      | inl e ↦
          elim (set_either row page x at_page d) [
            | inl f ↦ inl (ap (λ (r : List X). get_or r at_page d) e.0 ∙ f.0, e.1, f.1)
            | inr f ↦ inr (ap (λ (r : List X). get_or r at_page d) e.0 ∙ f ∙ ap (λ (n : ℕ). get_or (get_or items n []) at_page d) (sym e.1))
          ]
      | inr e ↦ inr (ap (λ (r : List X). get_or r at_page d) e)
    ]

pub item_same : {X : Type 0} (d : X) (items : List (List X)) (space page : ℕ) (x : X) → space < length items → page < length (slice_index_or items space []) → item_at d (with_item items space page x) space page ≡ x
item_same {X} d items space page x there within =
    let row = slice_index_or items space [] in
    ap (λ (r : List X). get_or r page d) (get_or-set_same items space (slice_set row page x) [] there) ∙ get_or-set_same row page x d within

-- a space has as many pages as before
pub pages_stay : {X : Type 0} (items : List (List X)) (space page : ℕ) (x : X) (at : ℕ) → length (slice_index_or (with_item items space page x) at []) ≡ length (slice_index_or items at [])
pages_stay {X} items space page x at =
    let row = slice_index_or items space [] in
    elim (set_either items space (slice_set row page x) at []) [
      | inl e ↦ ap (λ (r : List X). length r) e.0 ∙ length-set row page x ∙ ap (λ (n : ℕ). length (get_or items n [])) (sym e.1)
      | inr e ↦ ap (λ (r : List X). length r) e
    ]

-- a space that has a page is there
pub space_there : {X : Type 0} (items : List (List X)) (space page : ℕ) → page < length (slice_index_or items space []) → space < length items
space_there [] space page within = absurd (omega (arith, within))
space_there (row ∷ items) zero page within = omega arith
space_there (row ∷ items) (suc space) page within = let there = space_there items space page within in omega (arith, there)

-- a page that is in memory is there
pub page_there : {X : Type 0} (items : List (List (Option X))) (space page : ℕ) → is_some (item_at None items space page) ≡ true → page < length (slice_index_or items space [])
page_there items space page some = some_within (slice_index_or items space []) page some

module _ (count : ℕ → ℕ) where
  -- where all items are the same, each is
  pub each_is : {X : Type 0} (x : X) (first n space page : ℕ) → item_at x (map (λ at. replicate (count at) x) (range_with_len first n)) space page ≡ x
  each_is x first zero space page = refl
  each_is x first (suc n) zero page = replicated (count first) page x
  each_is x first (suc n) (suc space) page = each_is x (first + 1) n space page

  -- as many items of one kind as of another
  pub each_alike : {X Y : Type 0} (x : X) (y : Y) (first n space : ℕ) → length (slice_index_or (map (λ at. replicate (count at) x) (range_with_len first n)) space []) ≡ length (slice_index_or (map (λ at. replicate (count at) y) (range_with_len first n)) space [])
  each_alike x y first zero space = refl
  each_alike x y first (suc n) zero = length-replicate (count first) x ∙ sym (length-replicate (count first) y)
  each_alike x y first (suc n) (suc space) = each_alike x y (first + 1) n space

  -- the items of one space more
  pub each_more : {X : Type 0} (x : X) (n : ℕ) {rows more : List (List X)} {row : List X} {pages : ℕ} → rows ≡ map (λ at. replicate (count at) x) (range_with_len 0 n) → row ≡ replicate pages x → pages ≡ count n → more ≡ rows ++ row ∷ [] → more ≡ map (λ at. replicate (count at) x) (range_with_len 0 (n + 1))
  each_more {X} x n {rows} {more} {row} {pages} is row_is pages_is more_is =
      more_is
      ∙ ap (λ (l : List (List X)). l ++ row ∷ []) is
      ∙ ap (λ (r : List X). map (λ at. replicate (count at) x) (range_with_len 0 n) ++ r ∷ []) (row_is ∙ ap (λ (k : ℕ). replicate k x) pages_is)
      ∙ sym (map-range_with_len_more (λ at. replicate (count at) x) 0 n n (zero-add n))
