-- What counts on a shelf, and over its objects as they are told.
use Rattle.std.proofs.Common.{◌≡◌, ℕ, ◌∙◌, Bool, List, [], ◌∷◌, ap, arith, filter, fold, leb, ltb, map, max, min, refl, sym, true, false}
use Rattle.std.specs.List.{list_all}
use Rattle.std.specs.Prelude.{if◌then◌else◌, ◌&&◌}
use Rattle.std.proofs.lemmas.Bool.{le-leb}
use Rattle.std.proofs.lemmas.List.Folds.{fold-map}
use Rattle.ol_values.specs.Blocks.{log_object, mark_object}
use Rattle.ol_rules.specs.Shelf as rules
use Rattle.ol_rules.specs.Shelf.{Object, Shelf, objects}
use Rattle.ol_object_spans.specs.declared.object.Object as told
use Rattle.ol_object_spans.specs.Objects.{object_told}
use Rattle.ol_plan.specs.Counting.{archive_counts, end_of, end_with, is_mark_above, least_end, reach_of}
use Rattle.ol_plan.proofs.Lists.{fold_of_filter, fold_same, filter_of_map, filter_twice, map_twice}

-- the objects of a shelf as they are told
abbrev pub told_of : Shelf → List told.Object
told_of shelf = map object_told (objects shelf)

pub ends_told : (shelf : Shelf) (incarnation : ℕ)
    → map (λ (m : told.Object). m.head.a) (filter (is_mark_above incarnation) (told_of shelf)) ≡ rules.ends_above shelf incarnation
ends_told shelf incarnation =
    ap (map (λ (m : told.Object). m.head.a)) (filter_of_map (is_mark_above incarnation) object_told (objects shelf))
    ∙ map_twice (λ (m : told.Object). m.head.a) object_told (filter (λ o. is_mark_above incarnation (object_told o)) (objects shelf))
    ∙ ap (map (λ (m : Object). m.head.a)) (sym (filter_twice (λ (m : Object). ltb incarnation m.head.incarnation) (rules.is_kind mark_object) (objects shelf)))

pub least_told : (shelf : Shelf) (incarnation from : ℕ) → least_end (told_of shelf) incarnation from ≡ fold min from (rules.ends_above shelf incarnation)
least_told shelf incarnation from = ap (fold min from) (ends_told shelf incarnation)

pub reach_told : (shelf : Shelf) (o : Object) → reach_of (told_of shelf) (object_told o) ≡ rules.reach_of shelf o
reach_told shelf o = least_told shelf o.head.incarnation o.head.b

le_min : (a m e : ℕ) → leb a (min m e) ≡ (leb a m && leb a e)
le_min a m e = grind arith

and_assoc : (a b c : Bool) → ((a && b) && c) ≡ (a && (b && c))
and_assoc true b c = refl
and_assoc false b c = refl

at_most_least : (a m : ℕ) (ends : List ℕ) → leb a (fold min m ends) ≡ (leb a m && list_all (λ e. leb a e) ends)
at_most_least a m [] = elim (leb a m) as (λ b. b ≡ (b && true)) [ true ↦ refl | false ↦ refl ]
at_most_least a m (e ∷ ends) =
    at_most_least a (min m e) ends
    ∙ ap (λ b. b && list_all (λ e. leb a e) ends) (le_min a m e)
    ∙ and_assoc (leb a m) (leb a e) (list_all (λ e. leb a e) ends)

both_tests : (s t : Bool) (a b : ℕ) → (if s && t then a else b) ≡ (if s then (if t then a else b) else b)
both_tests true t a b = refl
both_tests false t a b = refl

pub counts_told : (shelf : Shelf) (o : Object) → archive_counts (told_of shelf) (object_told o) ≡ rules.archive_counts shelf o
counts_told shelf o =
    ap (leb o.head.a) (least_told shelf o.head.incarnation o.head.a)
    ∙ at_most_least o.head.a o.head.a (rules.ends_above shelf o.head.incarnation)
    ∙ ap (λ b. b && list_all (λ e. leb o.head.a e) (rules.ends_above shelf o.head.incarnation)) (le-leb o.head.a o.head.a (omega arith))

end_with_told : (shelf : Shelf) (e : ℕ) (o : Object) → end_with (told_of shelf) e (object_told o)
    ≡ (if rules.is_kind log_object o then (if leb o.head.a (rules.reach_of shelf o) then max e (rules.reach_of shelf o) else e) else e)
end_with_told shelf e o =
    ap (λ r. if rules.is_kind log_object o && leb o.head.a r then max e r else e) (reach_told shelf o)
    ∙ both_tests (rules.is_kind log_object o) (leb o.head.a (rules.reach_of shelf o)) (max e (rules.reach_of shelf o)) e

pub end_told : (shelf : Shelf) (l : List told.Object) → l ≡ told_of shelf → end_of l ≡ rules.end_of shelf
end_told shelf l is =
    let step : ℕ → Object → ℕ = λ e o. if leb o.head.a (rules.reach_of shelf o) then max e (rules.reach_of shelf o) else e in
    ap end_of is
    ∙ fold-map (end_with (told_of shelf)) object_told 0 (objects shelf)
    ∙ fold_same (λ e o. end_with (told_of shelf) e (object_told o)) (λ e o. if rules.is_kind log_object o then step e o else e) (end_with_told shelf) 0 (objects shelf)
    ∙ sym (fold_of_filter step (rules.is_kind log_object) 0 (objects shelf))
