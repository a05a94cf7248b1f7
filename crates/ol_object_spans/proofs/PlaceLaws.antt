-- The places of a stream with one more block.
use Rattle.std.proofs.Common.{◌≡◌, ℕ, ◌+◌, ◌-◌, ◌^◌, ◌<◌, ◌++◌, ◌∙◌, Some, None, Option, List, [], ◌∷◌, ap, arith, eqb, inl, inr, leb, length, min, refl, suc, sym, true, false}
use Rattle.std.specs.Prelude.{if◌then◌else◌, slice_get, ◌&&◌}
use Rattle.std.proofs.lemmas.Bool.{and_parts, cases_lt, eqb-true, le-leb, lt-leb}
use Rattle.std.proofs.lemmas.List.{length_push}
use Rattle.std.proofs.lemmas.List.Sums.{fold-append}
use Rattle.ol_rules.specs.Shelf.{Placed}
use Rattle.ol_object_spans.specs.declared.place.Place.{Place}
use Rattle.ol_object_spans.specs.declared.place.Run.{Run}
use Rattle.ol_object_spans.specs.Objects.{place_told}
use Rattle.ol_object_spans.specs.Places.{goes_on, moved, nowhere, place_in, runs_with, same_place}
use Rattle.ol_object_spans.specs.Scans.{block_at}
use Rattle.ol_object_spans.proofs.Streams.{block_last, block_left}

-- the places of these blocks stand in these runs
abbrev pub ArePlaces : List Placed → List Run → Type 0
ArePlaces l runs = (i : ℕ) → i < length l → place_in runs i ≡ place_told (block_at l i)

record Ends (runs : List Run) (r : Run) : Type 0 where
  pub front : List Run
  pub is : runs ≡ front ++ r ∷ []

last_run : (runs : List Run) (r : Run) → slice_get runs (length runs - 1) ≡ Some r → Ends runs r
last_run [] r e = absurd (cc)
last_run (x ∷ []) r e = record { front = []; is = let same : x ≡ r = (let zero_ : length {A = Run} (x ∷ []) - 1 ≡ 0 = omega arith in let both : Some x ≡ Some r = sym (ap (slice_get (x ∷ [])) zero_) ∙ e in cc) in ap (λ y. y ∷ []) same }
last_run (x ∷ y ∷ runs) r e =
    let less : length (x ∷ y ∷ runs) - 1 ≡ suc (length (y ∷ runs) - 1) = omega arith in
    let more = last_run (y ∷ runs) r (sym (ap (slice_get (x ∷ y ∷ runs)) less) ∙ e) in
    record { front = x ∷ more.front; is = ap (λ t. x ∷ t) more.is }

place_last : (front : List Run) (r : Run) (i : ℕ) → place_in (front ++ r ∷ []) i ≡ (if leb r.first i then moved r i else place_in front i)
place_last front r i = fold-append (λ (place : Place) (r : Run). if leb r.first i then moved r i else place) nowhere front (r ∷ [])

place_is : (p q : Place) → same_place p q ≡ true → p ≡ q
place_is p q e =
    let d = and_parts (eqb p.drive q.drive) (eqb p.volume q.volume && eqb p.block q.block) e in
    let v = and_parts (eqb p.volume q.volume) (eqb p.block q.block) d.1 in
    let drive = eqb-true p.drive q.drive d.0 in
    let volume = eqb-true p.volume q.volume v.0 in
    let block = eqb-true p.block q.block v.1 in
    λ i. record { drive = drive i; volume = volume i; block = block i }

-- a block that stands behind the last run is where that goes on
going_on : (runs : List Run) (last : Option Run) (index : ℕ) (place : Place) → slice_get runs (length runs - 1) ≡ last → goes_on last index place ≡ true
    → place_in runs index ≡ place
going_on runs None index place at e = absurd (cc)
going_on runs (Some r) index place at e =
    let both = and_parts (leb r.first index) (same_place (moved r index) place) e in
    let ends = last_run runs r at in
    ap (λ x. place_in x index) ends.is
    ∙ place_last ends.front r index
    ∙ ap (λ t. if t then moved r index else place_in ends.front index) both.0
    ∙ place_is (moved r index) place both.1

first_of_run : (index : ℕ) (place : Place) (r : Run) → r.first ≡ index → r.place ≡ place → moved r index ≡ place
first_of_run index place r first is =
    let none : r.place.block + min (index - r.first) (2 ^ 32 - 1 - r.place.block) ≡ r.place.block = omega arith in
    (λ i. record { drive = r.place.drive; volume = r.place.volume; block = none i }) ∙ is

pub places_push : (l : List Placed) (p : Placed) (runs : List Run) → ArePlaces l runs → ArePlaces (l ++ p ∷ []) (runs_with runs (length l) (place_told p))
places_push l p runs are =
    let n : ℕ = length l in
    let r : Run = record { first = n; place = place_told p } in
    let last : Option Run = slice_get runs (length runs - 1) in
    elim (goes_on last n (place_told p)) as (λ t. goes_on last n (place_told p) ≡ t → ArePlaces (l ++ p ∷ []) (if t then runs else runs ++ r ∷ [])) [
      | true ↦ λ on i below. elim (cases_lt i n) as (λ _. place_in runs i ≡ place_told (block_at (l ++ p ∷ []) i)) [
        | inl before ↦ are i before ∙ ap place_told (sym (block_left l (p ∷ []) i before))
        | inr behind ↦
            let same : n ≡ i = omega (arith, length_push l p, below, behind) in
            ap (place_in runs) (sym same) ∙ going_on runs last n (place_told p) refl on ∙ ap place_told (sym (block_last l p)) ∙ ap (λ k. place_told (block_at (l ++ p ∷ []) k)) same
      ]
      | false ↦ λ off i below. elim (cases_lt i n) as (λ _. place_in (runs ++ r ∷ []) i ≡ place_told (block_at (l ++ p ∷ []) i)) [
        | inl before ↦
            place_last runs r i ∙ ap (λ t. if t then moved r i else place_in runs i) (lt-leb n i before)
            ∙ are i before ∙ ap place_told (sym (block_left l (p ∷ []) i before))
        | inr behind ↦
            let same : n ≡ i = omega (arith, length_push l p, below, behind) in
            ap (place_in (runs ++ r ∷ [])) (sym same)
            ∙ place_last runs r n
            ∙ ap (λ t. if t then moved r n else place_in runs n) (le-leb n n (omega arith))
            ∙ first_of_run n (place_told p) r refl refl
            ∙ ap place_told (sym (block_last l p)) ∙ ap (λ k. place_told (block_at (l ++ p ∷ []) k)) same
      ]
    ] refl
