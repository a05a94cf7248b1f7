-- Whether two places are one.
use Rattle.std.specs.Prelude.{Bool, List, false, if◌then◌else◌, length, slice_index_or, true, ℕ, [], ◌&&◌, ◌<◌, ◌==◌, ◌≡◌, ◌⊎◌, refl}
use Rattle.std.proofs.Common.{ap, inl, inr, sym, ◌∙◌}
use Rattle.std.proofs.lemmas.Bool.Decides.{eqb_tells}
use Rattle.ol_pool.specs.Frames.{item_at, same_place, with_item}
use Rattle.ol_pool.proofs.ItemLaws.{item_either, item_same}

true_not_false : true ≡ false → ⊥
true_not_false same = cc

-- they are one, or they are not
pub same_tells : (space page at_space at_page : ℕ) → ((same_place (space, page) (at_space, at_page) ≡ true) × (at_space ≡ space) × (at_page ≡ page)) ⊎ ((same_place (space, page) (at_space, at_page) ≡ false) × (at_space ≡ space → at_page ≡ page → ⊥))
same_tells space page at_space at_page =
    elim (eqb_tells space at_space) [
      | inl e ↦
          elim (eqb_tells page at_page) [
            | inl f ↦ inl (ap (λ (b : Bool). b && (page == at_page)) e.0 ∙ f.0, sym e.1, sym f.1)
            | inr f ↦ inr (ap (λ (b : Bool). b && (page == at_page)) e.0 ∙ f.0, λ _ same. f.1 (sym same))
          ]
      | inr e ↦ inr (ap (λ (b : Bool). b && (page == at_page)) e.0, λ same _. e.1 (sym same))
    ]

-- an item is the new one in its place, and else what it was
pub item_is : {X : Type 0} (d : X) (items : List (List X)) (space page : ℕ) (x : X) (at_space at_page : ℕ) → space < length items → page < length (slice_index_or items space []) → item_at d (with_item items space page x) at_space at_page ≡ (if same_place (space, page) (at_space, at_page) then x else item_at d items at_space at_page)
item_is {X} d items space page x at_space at_page there within =
    let new = with_item items space page x in
    let old = item_at d items at_space at_page in
    elim (same_tells space page at_space at_page) [
      | inl e ↦
          ap (λ (n : ℕ). item_at d new n at_page) e.1
          ∙ ap (λ (n : ℕ). item_at d new space n) e.2
          ∙ item_same d items space page x there within
          ∙ sym (ap (λ (b : Bool). if b then x else old) e.0)
      | inr e ↦
          elim (item_either d items space page x at_space at_page) [
            | inl f ↦ absurd (e.1 f.1 f.2)
            | inr f ↦ f ∙ sym (ap (λ (b : Bool). if b then x else old) e.0)
          ]
    ]

-- a place that is one with another is told as that one
pub same_along : (place : ℕ × ℕ) (at_space at_page : ℕ) (other : ℕ × ℕ) → same_place (at_space, at_page) other ≡ true → same_place place other ≡ same_place place (at_space, at_page)
same_along place at_space at_page other same =
    elim (same_tells at_space at_page other.0 other.1) [
      | inl e ↦ ap (λ (n : ℕ). (place.0 == n) && (place.1 == other.1)) e.1 ∙ ap (λ (n : ℕ). (place.0 == at_space) && (place.1 == n)) e.2
      | inr e ↦ absurd (true_not_false (sym same ∙ e.0))
    ]

pub same_self : (space page : ℕ) → same_place (space, page) (space, page) ≡ true
same_self space page =
    elim (same_tells space page space page) [ inl e ↦ e.0 | inr e ↦ absurd (e.1 refl refl) ]

pub same_turned : (space page at_space at_page : ℕ) → same_place (at_space, at_page) (space, page) ≡ same_place (space, page) (at_space, at_page)
same_turned space page at_space at_page =
    elim (same_tells space page at_space at_page) [
      | inl e ↦
          ap (λ (n : ℕ). same_place (n, at_page) (space, page)) e.1
          ∙ ap (λ (n : ℕ). same_place (space, n) (space, page)) e.2
          ∙ same_self space page
          ∙ sym e.0
      | inr e ↦ elim (same_tells at_space at_page space page) [ inl f ↦ absurd (e.1 (sym f.1) (sym f.2)) | inr f ↦ f.0 ∙ sym e.0 ]
    ]
