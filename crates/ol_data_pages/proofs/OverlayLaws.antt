-- What a reader has of a page is the page as it was kept.
use Rattle.std.proofs.Common.{◌≡◌, Bool, List, None, Option, Some, [], ap, arith, false, length, refl, subst, suc, sym, take, true, unwrap_or, zero, ⊎_elim, ℕ, ◌<◌, ◌≤◌, ◌==◌, ◌∙◌, ◌∷◌, ◌⊎◌}
use Rattle.std.specs.List.{find}
use Rattle.std.specs.Prelude.{cond, option_map}
use Rattle.std.specs.Option.{option_or}
use Rattle.std.proofs.lemmas.Bool.{and_parts, eqb-true}
use Rattle.std.proofs.lemmas.List.{get_or-map, get_or-take, get_or_default, length-take-le}
use Rattle.std.proofs.lemmas.List.Folds.{find-append, list_any_none}
use Rattle.ol_values.specs.Config.{Config}
use Rattle.ol_values.specs.Image.{page_bytes}
use Rattle.ol_values.specs.Pages.{Page}
use Rattle.ol_chunks.specs.Places.{physical_area}
use Rattle.ol_chunks.specs.declared.table.Area.{Area}
use Rattle.ol_ports.specs.Disk.{Bytes}
use Rattle.ol_physlog.specs.Places.{Bad, Counts, EntryPlace, Idle, entry_at}
use Rattle.ol_physlog.specs.Reading.{Entry, entries_below, with_entry}
use Rattle.ol_physlog.specs.States.{HoldsEntries, IsLog, Log, entry_number, image_at, no_place, place_at, same_page}
use Rattle.ol_physlog.specs.declared.place.Place.{Place}
use Rattle.ol_data_pages.specs.Overlays.{images_of, is_entry_of, is_settled, overlaid}
use Rattle.ol_data_pages.specs.Places.{standing_bytes}

-- each entry that counts is one of the added ones
abbrev pub CountsAdded : Config → Log → List (List ℕ) → Bytes → Type 0
CountsAdded c s images d =
    (k : ℕ) (place : Place) (image : List ℕ) → k < s.area.count → entry_at c s.area s.generation d k ≡ Counts place image → (j : ℕ) × (j < length s.places) × (entry_number s j ≡ k) × (place_at s j ≡ place) × (image_at images j ≡ image)

module _ (c : Config) (s : Log) (kept : ℕ → ℕ → Page) (d : Bytes) (space page : ℕ) (added : CountsAdded c s (images_of kept s.places) d) where
  abbrev here : Place
  here = record { space = space; page = page }

  abbrev below : ℕ → List Entry
  below n = entries_below c s.area s.generation d n

  -- the image of an entry is that of the page as it was kept
  pub image_kept : (k : ℕ) (place : Place) (image : List ℕ) → k < s.area.count → entry_at c s.area s.generation d k ≡ Counts place image → image ≡ page_bytes (kept place.space place.page)
  image_kept k place image lt counts =
      let a = added k place image lt counts in
      sym a.4 ∙ get_or-map (λ (q : Place). page_bytes (kept q.space q.page)) s.places a.0 no_place [] a.1 ∙ ap (λ (q : Place). page_bytes (kept q.space q.page)) a.3

  -- what the first entries have of this page: its image, or none of them is of it
  abbrev Seen : ℕ → Option Entry → Type 0
  Seen n (Some e) = e.image ≡ page_bytes (kept space page)
  Seen n None = (k : ℕ) → k < n → (place : Place) (image : List ℕ) → entry_at c s.area s.generation d k ≡ Counts place image → same_page here place ≡ false

  last_or_before : (k n : ℕ) → k < suc n → (k < n) ⊎ (k ≡ n)
  last_or_before k n lt = grind (arith, lt)

  -- an entry more, of another page or of none
  passed : (n : ℕ) → ((place : Place) (image : List ℕ) → entry_at c s.area s.generation d n ≡ Counts place image → same_page here place ≡ false) → (o : Option Entry) → Seen n o → Seen (suc n) o
  passed n other (Some e) seen = seen
  passed n other None seen = λ k lt place image counts.
      ⊎_elim (λ before. seen k before place image counts)
      (λ at. other place image (ap (λ (m : ℕ). entry_at c s.area s.generation d m) (sym at) ∙ counts)) (last_or_before k n lt)

  one_page : (place : Place) → same_page here place ≡ true → page_bytes (kept place.space place.page) ≡ page_bytes (kept space page)
  one_page place same =
      let both = and_parts (space == place.space) (page == place.page) same in
      sym (ap (λ (m : ℕ). page_bytes (kept m page)) (eqb-true space place.space both.0) ∙ ap (λ (m : ℕ). page_bytes (kept place.space m)) (eqb-true page place.page both.1))

  counts_parts : (p q : Place) (l m : List ℕ) → Counts p l ≡ Counts q m → (p ≡ q) × (l ≡ m)
  counts_parts p q l m e = (cc, cc)

  -- an entry more that counts
  counted : (n : ℕ) (place : Place) (image : List ℕ) → n < s.area.count → entry_at c s.area s.generation d n ≡ Counts place image → (o : Option Entry) → Seen n o
      → Seen (suc n) (option_or o (find (is_entry_of space page) (record { number = n; place = place; image = image } ∷ [])))
  counted n place image lt counts (Some e) seen = seen
  counted n place image lt counts None seen = by (same_page here place) refl
    where
      e : Entry
      e = record { number = n; place = place; image = image }

      by : (b : Bool) → same_page here place ≡ b → Seen (suc n) (cond b (Some e) None)
      by true same = image_kept n place image lt counts ∙ one_page place same
      by false other = passed n (λ q l is. ap (λ (r : Place). same_page here r) (counts_parts q place l image (sym is ∙ counts)).0 ∙ other) None seen

  step : (n : ℕ) → n < s.area.count → (entry : EntryPlace) → entry_at c s.area s.generation d n ≡ entry → Seen n (find (is_entry_of space page) (below n)) → Seen (suc n) (find (is_entry_of space page) (with_entry n entry (below n)))
  step n lt Idle is seen = passed n (λ q l e. absurd (let clash : Idle ≡ Counts q l = sym is ∙ e in cc)) _ seen
  step n lt Bad is seen = passed n (λ q l e. absurd (let clash : Bad ≡ Counts q l = sym is ∙ e in cc)) _ seen
  step n lt (Counts place image) is seen =
      subst (λ o. Seen (suc n) o) (sym (find-append (is_entry_of space page) (below n) (record { number = n; place = place; image = image } ∷ []))) (counted n place image lt is _ seen)

  all_seen : (n : ℕ) → n ≤ s.area.count → Seen n (find (is_entry_of space page) (below n))
  unfolding entries_below
  all_seen zero le = λ k lt place image counts. absurd (omega (arith, lt))
  all_seen (suc n) le = step n (omega (arith, le)) (entry_at c s.area s.generation d n) refl (all_seen n (omega (arith, le)))

  -- where no entry is of this page, none of it is settled
  none_settled : IsLog s → HoldsEntries c s (images_of kept s.places) d → Seen s.area.count None → is_settled s space page ≡ false
  none_settled is holds none = list_any_none (same_page here) (take s.settled s.places) (λ j q lt.
      let size = length-take-le s.settled s.places is.settled in
      let early : j < s.settled = omega (arith, lt, size) in
      let there : j < length s.places = omega (arith, early, is.settled) in
      let within : j < s.area.count = omega (arith, there, is.places) in
      ap (λ (p : Place). same_page here p) (get_or-take s.settled s.places j q early ∙ get_or_default s.places j q no_place there)
      ∙ none (entry_number s j) (is.below j within) (place_at s j) (image_at (images_of kept s.places) j) (holds.settled j early))

  pub overlaid_kept : IsLog s → s.area ≡ physical_area c → HoldsEntries c s (images_of kept s.places) d → (is_settled s space page ≡ false → standing_bytes c d space page ≡ page_bytes (kept space page))
      → overlaid c s.generation d space page ≡ page_bytes (kept space page)
  unfolding overlaid
  overlaid_kept is area holds stands =
      ap (λ (a : Area). unwrap_or (option_map (λ (e : Entry). e.image) (find (is_entry_of space page) (entries_below c a s.generation d a.count))) (standing_bytes c d space page)) (sym area)
      ∙ by (find (is_entry_of space page) (below s.area.count)) (all_seen s.area.count (omega arith))
    where
      by : (o : Option Entry) → Seen s.area.count o → unwrap_or (option_map (λ (e : Entry). e.image) o) (standing_bytes c d space page) ≡ page_bytes (kept space page)
      by (Some e) seen = seen
      by None seen = stands (none_settled is holds seen)
