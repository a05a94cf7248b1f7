-- The log objects for needed positions on a shelf, and over its objects as they are told.
use Rattle.std.proofs.Common.{◌≡◌, ℕ, ◌-◌, ◌++◌, ◌∙◌, Some, None, Option, List, [], ◌∷◌, ap, eqb, filter, fold, length, ltb, map, refl, sym, true, false}
use Rattle.std.specs.List.{cons_option, take_while}
use Rattle.std.specs.Prelude.{filter_map, find, if◌then◌else◌, is_some, not, option_map, slice_get}
use Rattle.std.proofs.lemmas.List.{append-nil, map_push}
use Rattle.std.proofs.lemmas.List.Folds.{fold-map}
use Rattle.ol_values.specs.Blocks.{log_object}
use Rattle.ol_rules.specs.Shelf as rules
use Rattle.ol_rules.specs.Shelf.{Object, Shelf, bad_blocks, objects}
use Rattle.ol_rules.specs.Plan as plans
use Rattle.ol_rules.specs.Plan.{needed}
use Rattle.ol_object_spans.specs.declared.object.Object as told
use Rattle.ol_object_spans.specs.Objects.{first_place, object_told}
use Rattle.ol_plan.specs.declared.logs.LogSpan.{LogSpan}
use Rattle.ol_plan.specs.Logs.{as_log, further_of, goes_on, index_of_log, log_of, logs, runs, short, span_at, with_run, with_span}
use Rattle.ol_plan.specs.Planned.{AreLogs, differs, last_of, once}
use Rattle.ol_plan.proofs.CountingLaws.{reach_told, told_of}
use Rattle.ol_plan.proofs.Lists.{enumerate_of_map, filter_map_of_map, filter_of_map, filter_values, fold_hom, fold_of_filter, get_of_map, length_of_map, selected}
use Rattle.ol_plan.proofs.PairLaws.{AllAt, IfAt, IsAt, Pair, filter_at, fold_at, objects_at, pairs_at, pairs_of, picked_at, value}

-- the log objects of a shelf with their indexes
abbrev pub log_pairs : Shelf → List Pair
log_pairs shelf = filter (λ (p : Pair). rules.is_kind log_object p.1) (pairs_of shelf)

-- a log object as it is told
abbrev pub as_span : Shelf → Pair → LogSpan
as_span shelf p = record { index = p.0; first = p.1.head.a; reach = rules.reach_of shelf p.1; bad = first_place (bad_blocks p.1) }

span_told : (shelf : Shelf) (p : Pair) → as_log (told_of shelf) (p.0, object_told p.1) ≡ as_span shelf p
span_told shelf p = λ i. record { index = p.0; first = p.1.head.a; reach = reach_told shelf p.1 i; bad = first_place (bad_blocks p.1) }

logs_are : (shelf : Shelf) → logs (told_of shelf) ≡ map (as_span shelf) (log_pairs shelf)
logs_are shelf =
    ap (filter_map (log_of (told_of shelf))) (enumerate_of_map object_told 0 (objects shelf))
    ∙ filter_map_of_map (log_of (told_of shelf)) (λ (p : Pair). let q : ℕ × told.Object = (p.0, object_told p.1) in q) (pairs_of shelf)
    ∙ selected (λ (p : Pair). rules.is_kind log_object p.1) (λ (p : Pair). as_log (told_of shelf) (p.0, object_told p.1)) (pairs_of shelf)
    ∙ (λ i. map (λ (p : Pair). span_told shelf p i) (log_pairs shelf))

-- ---- the best at a position

abbrev further_pair : Shelf → Option Pair → Pair → Option Pair
further_pair shelf None p = Some p
further_pair shelf (Some b) p = if ltb (rules.reach_of shelf b.1) (rules.reach_of shelf p.1) then Some p else Some b

abbrev with_pair : Shelf → ℕ → Option Pair → Pair → Option Pair
with_pair shelf position b p = if rules.log_counts_at shelf position p.1 then further_pair shelf b p else b

abbrev pub best_at : Shelf → ℕ → Option Pair
best_at shelf position = fold (with_pair shelf position) None (log_pairs shelf)

span_step : (shelf : Shelf) (position : ℕ) (b : Option Pair) (p : Pair)
    → option_map (as_span shelf) (with_pair shelf position b p) ≡ with_span position (option_map (as_span shelf) b) (as_span shelf p)
span_step shelf position None p =
    elim (rules.log_counts_at shelf position p.1) as (λ t. option_map (as_span shelf) (if t then Some p else None) ≡ (if t then Some (as_span shelf p) else None)) [ true ↦ refl | false ↦ refl ]
span_step shelf position (Some b) p =
    elim (rules.log_counts_at shelf position p.1) as (λ t. option_map (as_span shelf) (if t then further_pair shelf (Some b) p else Some b)
    ≡ (if t then further_of (Some (as_span shelf b)) (as_span shelf p) else Some (as_span shelf b))) [
      | true ↦
          elim (ltb (rules.reach_of shelf b.1) (rules.reach_of shelf p.1)) as (λ t. option_map (as_span shelf) (if t then Some p else Some b) ≡ (if t then Some (as_span shelf p) else Some (as_span shelf b))) [
            | true ↦ refl
            | false ↦ refl
          ]
      | false ↦ refl
    ]

object_step : (shelf : Shelf) (position : ℕ) (b : Option Pair) (p : Pair)
    → option_map value (with_pair shelf position b p) ≡ (if rules.log_counts_at shelf position p.1 then plans.further_of shelf (option_map value b) p.1 else option_map value b)
object_step shelf position None p =
    elim (rules.log_counts_at shelf position p.1) as (λ t. option_map value (if t then Some p else None) ≡ (if t then Some p.1 else None)) [ true ↦ refl | false ↦ refl ]
object_step shelf position (Some b) p =
    elim (rules.log_counts_at shelf position p.1) as (λ t. option_map value (if t then further_pair shelf (Some b) p else Some b)
    ≡ (if t then plans.further_of shelf (Some b.1) p.1 else Some b.1)) [
      | true ↦
          elim (ltb (rules.reach_of shelf b.1) (rules.reach_of shelf p.1)) as (λ t. option_map value (if t then Some p else Some b) ≡ (if t then Some p.1 else Some b.1)) [
            | true ↦ refl
            | false ↦ refl
          ]
      | false ↦ refl
    ]

span_is : (shelf : Shelf) (position : ℕ) → span_at (logs (told_of shelf)) position ≡ option_map (as_span shelf) (best_at shelf position)
span_is shelf position =
    ap (fold (with_span position) None) (logs_are shelf)
    ∙ fold-map (with_span position) (as_span shelf) None (log_pairs shelf)
    ∙ sym (fold_hom (option_map (as_span shelf)) (with_pair shelf position) (λ b p. with_span position b (as_span shelf p)) (span_step shelf position) None (log_pairs shelf))

log_is : (shelf : Shelf) (position : ℕ) → plans.log_at shelf position ≡ option_map value (best_at shelf position)
log_is shelf position =
    ap (λ l. fold (plans.further_of shelf) None (filter (rules.log_counts_at shelf position) l)) (filter_values (rules.is_kind log_object) (objects shelf))
    ∙ ap (fold (plans.further_of shelf) None) (filter_of_map (rules.log_counts_at shelf position) value (log_pairs shelf))
    ∙ fold-map (plans.further_of shelf) value None (filter (λ (p : Pair). rules.log_counts_at shelf position p.1) (log_pairs shelf))
    ∙ fold_of_filter (λ b (p : Pair). plans.further_of shelf b p.1) (λ (p : Pair). rules.log_counts_at shelf position p.1) None (log_pairs shelf)
    ∙ sym (
    fold_hom (option_map value) (with_pair shelf position) (λ b p. if rules.log_counts_at shelf position p.1 then plans.further_of shelf b p.1 else b) (object_step shelf position) None
    (log_pairs shelf)
    )

best_step : (shelf : Shelf) (position : ℕ) (all : List Object) (b : Option Pair) (p : Pair) → IfAt all b → IsAt all p → IfAt all (with_pair shelf position b p)
best_step shelf position all None p has at = elim (rules.log_counts_at shelf position p.1) as (λ t. IfAt all (if t then Some p else None)) [ true ↦ at | false ↦ tt ]
best_step shelf position all (Some b) p has at =
    elim (rules.log_counts_at shelf position p.1) as (λ t. IfAt all (if t then further_pair shelf (Some b) p else Some b)) [
      | true ↦ elim (ltb (rules.reach_of shelf b.1) (rules.reach_of shelf p.1)) as (λ t. IfAt all (if t then Some p else Some b)) [ true ↦ at | false ↦ has ]
      | false ↦ has
    ]

best_is_at : (shelf : Shelf) (position : ℕ) → IfAt (objects shelf) (best_at shelf position)
best_is_at shelf position =
    fold_at (objects shelf) (with_pair shelf position) (best_step shelf position (objects shelf)) None (log_pairs shelf) tt
    (filter_at (objects shelf) (λ (p : Pair). rules.is_kind log_object p.1) (pairs_of shelf) (pairs_at shelf))

-- ---- all positions

some_of : {X Y : Type 0} (f : X → Y) (o : Option X) → is_some (option_map f o) ≡ is_some o
some_of f None = refl
some_of f (Some x) = refl

mapped : {X Y Z : Type 0} (f : Y → Z) (h : X → Option Y) (xs : List X) → filter_map (λ x. option_map f (h x)) xs ≡ map f (filter_map h xs)
mapped f h [] = refl
mapped f h (x ∷ xs) =
    ap (cons_option (option_map f (h x))) (mapped f h xs)
    ∙ elim (h x) as (λ o. cons_option (option_map f o) (map f (filter_map h xs)) ≡ map f (cons_option o (filter_map h xs))) [ None ↦ refl | Some y ↦ refl ]

-- the objects of the needed positions, position by position
abbrev pub best_of : Shelf → ℕ → ℕ → List Pair
best_of shelf low end_ = filter_map (best_at shelf) (take_while (λ p. is_some (best_at shelf p)) (needed low end_))

pub best_of_at : (shelf : Shelf) (low end_ : ℕ) → AllAt (objects shelf) (best_of shelf low end_)
best_of_at shelf low end_ = picked_at (objects shelf) (best_at shelf) (best_is_at shelf) (take_while (λ p. is_some (best_at shelf p)) (needed low end_))

-- what is found at positions by a function that agrees but for the form
found : {Y : Type 0} (f : Pair → Y) (at : ℕ → Option Y) (best : ℕ → Option Pair) → ((p : ℕ) → at p ≡ option_map f (best p)) → (ns : List ℕ)
    → filter_map at (take_while (λ p. is_some (at p)) ns) ≡ map f (filter_map best (take_while (λ p. is_some (best p)) ns))
found f at best same ns =
    (λ i. filter_map (λ p. same p i) (take_while (λ p. is_some (same p i)) ns))
    ∙ (λ i. filter_map (λ p. option_map f (best p)) (take_while (λ p. some_of f (best p) i) ns))
    ∙ mapped f best (take_while (λ p. is_some (best p)) ns)

missing : {Y : Type 0} (f : Pair → Y) (at : ℕ → Option Y) (best : ℕ → Option Pair) → ((p : ℕ) → at p ≡ option_map f (best p)) → (ns : List ℕ)
    → find (λ p. not (is_some (at p))) ns ≡ find (λ p. not (is_some (best p))) ns
missing f at best same ns =
    (λ i. find (λ p. not (is_some (same p i))) ns) ∙ (λ i. find (λ p. not (some_of f (best p) i)) ns)

pub short_is : (shelf : Shelf) (low end_ : ℕ) → short (logs (told_of shelf)) low end_ ≡ plans.short_of shelf low end_
short_is shelf low end_ =
    missing (as_span shelf) (span_at (logs (told_of shelf))) (best_at shelf) (span_is shelf) (needed low end_)
    ∙ sym (missing value (plans.log_at shelf) (best_at shelf) (log_is shelf) (needed low end_))

pub runs_are : (shelf : Shelf) (low end_ : ℕ) → runs (logs (told_of shelf)) low end_ ≡ fold with_run [] (map (as_span shelf) (best_of shelf low end_))
runs_are shelf low end_ = ap (fold with_run []) (found (as_span shelf) (span_at (logs (told_of shelf))) (best_at shelf) (span_is shelf) (needed low end_))

pub logs_for_are : (shelf : Shelf) (low end_ : ℕ) → plans.logs_for shelf low end_ ≡ map value (best_of shelf low end_)
logs_for_are shelf low end_ = found value (plans.log_at shelf) (best_at shelf) (log_is shelf) (needed low end_)

-- ---- each once

last_index : (taken : List LogSpan) → last_of (map index_of_log taken) ≡ option_map index_of_log (slice_get taken (length taken - 1))
last_index taken = ap (λ n. slice_get (map index_of_log taken) (n - 1)) (length_of_map index_of_log taken) ∙ get_of_map index_of_log taken (length taken - 1)

step_with : (taken : List LogSpan) (s : LogSpan) (last : Option LogSpan)
    → map index_of_log (if goes_on last s then taken else taken ++ s ∷ []) ≡ map index_of_log taken ++ differs (option_map index_of_log last) s.index
step_with taken s None = map_push index_of_log taken s
step_with taken s (Some last) =
    elim (eqb last.index s.index) as (λ t. map index_of_log (if t then taken else taken ++ s ∷ []) ≡ map index_of_log taken ++ (if t then [] else s.index ∷ [])) [
      | true ↦ sym (append-nil (map index_of_log taken))
      | false ↦ map_push index_of_log taken s
    ]

index_step : (taken : List LogSpan) (s : LogSpan) → map index_of_log (with_run taken s) ≡ map index_of_log taken ++ differs (last_of (map index_of_log taken)) s.index
index_step taken s =
    step_with taken s (slice_get taken (length taken - 1)) ∙ ap (λ o. map index_of_log taken ++ differs o s.index) (sym (last_index taken))

once_is : (shelf : Shelf) (ps : List Pair) → map index_of_log (fold with_run [] (map (as_span shelf) ps)) ≡ once (map (λ (p : Pair). p.0) ps)
once_is shelf ps =
    fold_hom (map index_of_log) with_run (λ l s. l ++ differs (last_of l) s.index) index_step [] (map (as_span shelf) ps)
    ∙ fold-map (λ l (s : LogSpan). l ++ differs (last_of l) s.index) (as_span shelf) [] ps
    ∙ sym (fold-map (λ l i. l ++ differs (last_of l) i) (λ (p : Pair). p.0) [] ps)

pub are_logs : (shelf : Shelf) (low end_ : ℕ) (taken : List ℕ) → taken ≡ map index_of_log (runs (logs (told_of shelf)) low end_) → AreLogs (objects shelf) taken (plans.logs_for shelf low end_)
are_logs shelf low end_ taken is = record {
  each = map (λ (p : Pair). p.0) (best_of shelf low end_);
  at = objects_at (objects shelf) (best_of shelf low end_) (best_of_at shelf low end_) ∙ ap (map (λ (o : Object). Some o)) (sym (logs_for_are shelf low end_));
  runs = is ∙ ap (map index_of_log) (runs_are shelf low end_) ∙ once_is shelf (best_of shelf low end_);
}
