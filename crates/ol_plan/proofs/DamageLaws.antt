-- The first bad block of what a plan takes, on a shelf and as the code finds it.
use Rattle.std.proofs.Common.{◌≡◌, ℕ, ◌-◌, ◌++◌, ◌∙◌, Some, None, Option, List, [], ◌∷◌, ap, eqb, fold, length, map, refl, subst, sym, true, false}
use Rattle.std.specs.List.{flat_map}
use Rattle.std.specs.Prelude.{if◌then◌else◌, option_map, slice_get}
use Rattle.std.proofs.lemmas.Bool.{eqb-true}
use Rattle.std.proofs.lemmas.List.Concat.{flat_map-cons}
use Rattle.std.proofs.lemmas.List.Folds.{fold-map}
use Rattle.std.proofs.lemmas.List.Sums.{fold-append, fold_push}
use Rattle.ol_rules.specs.Plan as plans
use Rattle.ol_rules.specs.Plan.{earlier_of}
use Rattle.ol_rules.specs.Shelf.{Object, Placed, Shelf, bad_blocks, objects}
use Rattle.ol_object_spans.specs.declared.place.Place.{Place}
use Rattle.ol_object_spans.specs.Objects.{first_place, place_told}
use Rattle.ol_plan.specs.declared.archives.Link.{Link}
use Rattle.ol_plan.specs.declared.logs.LogSpan.{LogSpan}
use Rattle.ol_plan.specs.Damage.{bad_of_links, earlier, is_before}
use Rattle.ol_plan.specs.Logs.{goes_on, with_run}
use Rattle.ol_plan.proofs.LinkLaws.{as_pair}
use Rattle.ol_plan.proofs.LogLaws.{last_push}
use Rattle.ol_plan.proofs.PairLaws.{AllAt, Pair, value}
use Rattle.ol_plan.proofs.PlaceLaws.{AllAfter, AllRise, Rising, not_back, not_past, objects_rise, rise_at}
use Rattle.ol_plan.proofs.TakenLaws.{as_span}

-- ---- one object

same_best : (c : Placed) (q : Placed) (qs : List Placed) → plans.is_before q c ≡ false → fold earlier_of (Some c) (q ∷ qs) ≡ fold earlier_of (Some c) qs
same_best c q qs none = ap (λ t. fold earlier_of (if t then Some q else Some c) qs) none

behind_first : (b : Placed) (qs : List Placed) → AllAfter b qs → fold earlier_of (Some b) qs ≡ Some b
behind_first b [] all = refl
behind_first b (q ∷ qs) all = same_best b q qs (not_back b q all.0) ∙ behind_first b qs all.1

behind_best : (best b : Placed) (qs : List Placed) → plans.is_before b best ≡ false → AllAfter b qs → fold earlier_of (Some best) qs ≡ Some best
behind_best best b [] none all = refl
behind_best best b (q ∷ qs) none all = same_best best q qs (not_past b q best all.0 none) ∙ behind_best best b qs none all.1

-- of rising blocks only the first counts
first_counts : (o : Option Placed) (b : Placed) (qs : List Placed) → AllAfter b qs → fold earlier_of (earlier_of o b) qs ≡ earlier_of o b
first_counts None b qs all = behind_first b qs all
first_counts (Some best) b qs all =
    elim (plans.is_before b best) as (λ t. plans.is_before b best ≡ t → fold earlier_of (if t then Some b else Some best) qs ≡ (if t then Some b else Some best)) [
      | true ↦ λ _. behind_first b qs all
      | false ↦ λ none. behind_best best b qs none all
    ] refl

told_earlier : (o : Option Placed) (b : Placed) → option_map place_told (earlier_of o b) ≡ earlier (option_map place_told o) (Some (place_told b))
told_earlier None b = refl
told_earlier (Some best) b =
    elim (plans.is_before b best) as (λ t. option_map place_told (if t then Some b else Some best) ≡ (if t then Some (place_told b) else Some (place_told best))) [ true ↦ refl | false ↦ refl ]

one_object : (o : Option Placed) (bads : List Placed) → Rising bads → option_map place_told (fold earlier_of o bads) ≡ earlier (option_map place_told o) (first_place bads)
one_object o [] all = refl
one_object o (b ∷ qs) all = ap (option_map place_told) (first_counts o b qs all.0) ∙ told_earlier o b

-- ---- all objects

-- the first of a bad block and the first one of an object
abbrev pub with_object : Option Place → Object → Option Place
with_object best o = earlier best (first_place (bad_blocks o))

all_objects : (o : Option Placed) (os : List Object) → AllRise os → option_map place_told (fold earlier_of o (flat_map bad_blocks os)) ≡ fold with_object (option_map place_told o) os
all_objects o [] all = refl
all_objects o (x ∷ os) all =
    ap (λ l. option_map place_told (fold earlier_of o l)) (flat_map-cons bad_blocks x os)
    ∙ ap (option_map place_told) (fold-append earlier_of o (bad_blocks x) (flat_map bad_blocks os))
    ∙ all_objects (fold earlier_of o (bad_blocks x)) os all.1
    ∙ ap (λ b. fold with_object b os) (one_object o (bad_blocks x) all.0)

pub bad_told : (os : List Object) → AllRise os → option_map place_told (plans.first_bad os) ≡ fold with_object None os
bad_told os all = all_objects None os all

pub pairs_rise : (shelf : Shelf) (ps : List Pair) → AllAt (objects shelf) ps → AllRise (map value ps)
pairs_rise shelf [] at = tt
pairs_rise shelf (p ∷ ps) at = (rise_at (objects shelf) (objects_rise shelf) p.0 p.1 at.0, pairs_rise shelf ps at.1)

pub both_rise : (one two : List Object) → AllRise one → AllRise two → AllRise (one ++ two)
both_rise [] two a b = b
both_rise (o ∷ one) two a b = (a.0, both_rise one two a.1 b)

pub links_bad : (space : ℕ) (best : Option Place) (ps : List Pair) → bad_of_links best (map (as_pair space) ps) ≡ fold with_object best (map value ps)
links_bad space best ps =
    fold-map (λ b (k : Link). earlier b k.bad) (as_pair space) best ps ∙ sym (fold-map with_object value best ps)

-- ---- logs that are taken once

abbrev with_log : Option Place → LogSpan → Option Place
with_log b s = earlier b s.bad

twice_some : (y : Option Place) (p : Place) → earlier (earlier y (Some p)) (Some p) ≡ earlier y (Some p)
twice_some None p = elim (is_before p p) as (λ t. (if t then Some p else Some p) ≡ Some p) [ true ↦ refl | false ↦ refl ]
twice_some (Some best) p =
    elim (is_before p best) as (λ t. is_before p best ≡ t → earlier (if t then Some p else Some best) (Some p) ≡ (if t then Some p else Some best)) [
      | true ↦ λ _. elim (is_before p p) as (λ t. (if t then Some p else Some p) ≡ Some p) [ true ↦ refl | false ↦ refl ]
      | false ↦ λ none. ap (λ t. if t then Some p else Some best) none
    ] refl

twice : (y b : Option Place) → earlier (earlier y b) b ≡ earlier y b
twice y None = refl
twice y (Some p) = twice_some y p

abbrev bad_in : Option Object → Option Place
bad_in None = None
bad_in (Some o) = first_place (bad_blocks o)

-- the bad block is that of the object at its index
abbrev IsGood : List Object → LogSpan → Type 0
IsGood all s = s.bad ≡ bad_in (slice_get all s.index)

abbrev AreGood : List Object → List LogSpan → Type 0
AreGood all [] = Unit {0}
AreGood all (s ∷ ss) = IsGood all s × AreGood all ss

-- the last object that is taken has been counted
abbrev IsCounted : List Object → Option Place → List LogSpan → Type 0
IsCounted all x taken = (last : LogSpan) → slice_get taken (length taken - 1) ≡ Some last → IsGood all last × (earlier (fold with_log x taken) last.bad ≡ fold with_log x taken)

abbrev Next : List Object → Option Place → List LogSpan → LogSpan → List LogSpan → Type 0
Next all x taken s next = (fold with_log x next ≡ earlier (fold with_log x taken) s.bad) × IsCounted all x next

one_more : (all : List Object) (x : Option Place) (taken : List LogSpan) (s : LogSpan) → IsGood all s → Next all x taken s (taken ++ s ∷ [])
one_more all x taken s good =
    let pushed = fold_push with_log x taken s in (
      pushed,
      λ last e.
          let same : s ≡ last = (let both : Some s ≡ Some last = sym (last_push taken s) ∙ e in cc) in
          subst (λ (l : LogSpan). IsGood all l × (earlier (fold with_log x (taken ++ s ∷ [])) l.bad ≡ fold with_log x (taken ++ s ∷ []))) same
          (good, ap (λ y. earlier y s.bad) pushed ∙ twice (fold with_log x taken) s.bad ∙ sym pushed),
    )

next_with : (all : List Object) (x : Option Place) (taken : List LogSpan) (s : LogSpan) (last : Option LogSpan) → IsCounted all x taken → IsGood all s → slice_get taken (length taken - 1) ≡ last
    → Next all x taken s (if goes_on last s then taken else taken ++ s ∷ [])
next_with all x taken s None counted good e = one_more all x taken s good
next_with all x taken s (Some last) counted good e =
    elim (eqb last.index s.index) as (λ t. eqb last.index s.index ≡ t → Next all x taken s (if t then taken else taken ++ s ∷ [])) [
      | true ↦ λ on.
          let had = counted last e in
          let bad : last.bad ≡ s.bad = had.0 ∙ ap (λ i. bad_in (slice_get all i)) (eqb-true last.index s.index on) ∙ sym good in
          (sym had.1 ∙ ap (earlier (fold with_log x taken)) bad, counted)
      | false ↦ λ off. one_more all x taken s good
    ] refl

runs_bad : (all : List Object) (x : Option Place) (taken ss : List LogSpan) → IsCounted all x taken → AreGood all ss → fold with_log x (fold with_run taken ss) ≡ fold with_log (fold with_log x taken) ss
runs_bad all x taken [] counted good = refl
runs_bad all x taken (s ∷ ss) counted good =
    let next = next_with all x taken s (slice_get taken (length taken - 1)) counted good.0 refl in
    runs_bad all x (with_run taken s) ss next.1 good.1 ∙ ap (λ y. fold with_log y ss) next.0

spans_good : (shelf : Shelf) (all : List Object) (ps : List Pair) → AllAt all ps → AreGood all (map (as_span shelf) ps)
spans_good shelf all [] at = tt
spans_good shelf all (p ∷ ps) at = (sym (ap bad_in at.0), spans_good shelf all ps at.1)

pub logs_bad : (shelf : Shelf) (all : List Object) (x : Option Place) (ps : List Pair) → AllAt all ps
    → fold (λ b (s : LogSpan). earlier b s.bad) x (fold with_run [] (map (as_span shelf) ps)) ≡ fold with_object x (map value ps)
logs_bad shelf all x ps at =
    runs_bad all x [] (map (as_span shelf) ps) (λ last e. absurd (cc)) (spans_good shelf all ps at)
    ∙ fold-map with_log (as_span shelf) x ps
    ∙ sym (fold-map with_object value x ps)
