-- What an overlaid page has of the counting entries, by what was read of them.
use Rattle.std.proofs.Common.{◌≡◌, Bool, List, None, Option, Some, [], ap, arith, false, get_or, length, map, refl, true, zero, suc, ℕ, ◌*◌, ◌+◌, ◌<◌, ◌≤◌, ◌∙◌, ◌∷◌}
use Rattle.std.specs.List.{find, list_any, range_with_len}
use Rattle.std.specs.Prelude.{cond, ◌||◌}
use Rattle.std.proofs.lemmas.Bool.Decides.{nat_tests}
use Rattle.ol_values.specs.Config.{Config}
use Rattle.ol_chunks.specs.Places.{lies_in}
use Rattle.ol_chunks.specs.declared.table.Area.{Area}
use Rattle.ol_ports.specs.Disk.{Bytes, page_list}
use Rattle.ol_physlog.specs.Heads.{head_in}
use Rattle.ol_physlog.specs.Places.{EntryPlace, entry_at, entry_of, head_list, head_page, image_list}
use Rattle.ol_physlog.specs.Reading.{Entry, entries_below, entries_of, with_entry}
use Rattle.ol_physlog.specs.States.{no_place, same_page}
use Rattle.ol_physlog.specs.declared.place.Place.{Place}
use Rattle.ol_data_pages.specs.Overlays.{is_entry_of}

-- ---- entries of the same bytes

page_same : (d e : Bytes) (chunk page : ℕ) → ((i : ℕ) → d chunk page i ≡ e chunk page i) → page_list d chunk page ≡ page_list e chunk page
unfolding page_list
page_same d e chunk page same = ap (λ (b : ℕ → ℕ). map b (range_with_len 0 2048)) (λ t i. same i t)

module _ (c : Config) (a : Area) (two : a.pages ≡ 2) (generation : ℕ) (e d : Bytes) (same : (chunk page i : ℕ) → lies_in a chunk page ≡ true → d chunk page i ≡ e chunk page i) where
  inside : (k p : ℕ) → k < a.count → head_page a k ≤ p → p ≤ head_page a k + 1 → lies_in a a.chunk p ≡ true
  inside k p lt low high =
      let size : a.count * a.pages ≡ 2 * a.count = ap (λ (n : ℕ). a.count * n) two ∙ omega arith in
      let below : p < a.first + a.count * a.pages = omega (arith, size, lt, high) in
      let above : a.first ≤ p = omega (arith, low) in
      grind (arith, nat_tests)

  entry_same : (k : ℕ) → k < a.count → entry_at c a generation d k ≡ entry_at c a generation e k
  unfolding entry_at
  entry_same k lt =
      ap (λ (l : List ℕ). entry_of (head_in c generation l) (image_list a d k)) (page_same d e a.chunk (head_page a k) (λ i. same a.chunk (head_page a k) i (inside k (head_page a k) lt (omega arith) (omega arith))))
      ∙ ap (λ (l : List ℕ). entry_of (head_in c generation (head_list a e k)) l) (page_same d e a.chunk (head_page a k + 1) (λ i. same a.chunk (head_page a k + 1) i (inside k (head_page a k + 1) lt (omega arith) (omega arith))))

  pub entries_same : (n : ℕ) → n ≤ a.count → entries_below c a generation d n ≡ entries_below c a generation e n
  unfolding entries_below
  entries_same zero le = refl
  entries_same (suc n) le =
      ap (λ (p : EntryPlace). with_entry n p (entries_below c a generation d n)) (entry_same n (omega (arith, le)))
      ∙ ap (λ (l : List Entry). with_entry n (entry_at c a generation e n) l) (entries_same n (omega (arith, le)))

-- ---- the entry of a page

-- what the counting entries have of a page: the image of one of them, or none is of it
abbrev pub Gives : List Place → List (List ℕ) → ℕ → ℕ → Option Entry → Type 0
Gives places images space page (Some e) = (j : ℕ) × (j < length places) × (same_page (record { space = space; page = page }) (get_or places j no_place) ≡ true) × (e.image ≡ get_or images j [])
Gives places images space page None = list_any (same_page (record { space = space; page = page })) places ≡ false

gives_later : (q : Place) (places : List Place) (l : List ℕ) (images : List (List ℕ)) (space page : ℕ) → same_page (record { space = space; page = page }) q ≡ false → (o : Option Entry) → Gives places images space page o → Gives (q ∷ places) (l ∷ images) space page o
gives_later q places l images space page other (Some e) g = (suc g.0, omega (arith, g.1), g.2, g.3)
gives_later q places l images space page other None g = ap (λ (b : Bool). b || list_any (same_page (record { space = space; page = page })) places) other ∙ g

gives_first : (n : ℕ) (q : Place) (places : List Place) (l : List ℕ) (images : List (List ℕ)) (space page : ℕ) (o : Option Entry) → Gives places images space page o → (b : Bool) → same_page (record { space = space; page = page }) q ≡ b
    → Gives (q ∷ places) (l ∷ images) space page (cond b (Some (record { number = n; place = q; image = l })) o)
gives_first n q places l images space page o g true same = (0, omega arith, same, refl)
gives_first n q places l images space page o g false other = gives_later q places l images space page other o g

pub gives : (numbers : List ℕ) (places : List Place) (images : List (List ℕ)) → length places ≡ length numbers → length images ≡ length numbers → (space page : ℕ) → Gives places images space page (find (is_entry_of space page) (entries_of numbers places images))
unfolding entries_of
gives [] [] images one two space page = refl
gives [] (q ∷ places) images one two space page = absurd (omega (arith, one))
gives (n ∷ numbers) [] images one two space page = absurd (omega (arith, one))
gives (n ∷ numbers) (q ∷ places) [] one two space page = absurd (omega (arith, two))
gives (n ∷ numbers) (q ∷ places) (l ∷ images) one two space page =
    gives_first n q places l images space page (find (is_entry_of space page) (entries_of numbers places images)) (gives numbers places images (omega (arith, one)) (omega (arith, two)) space page) (same_page (record { space = space; page = page }) q) refl
