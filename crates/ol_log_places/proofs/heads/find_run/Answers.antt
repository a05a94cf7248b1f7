use Rattle.std.proofs.Common.{rules, subst, sym, List}
use Rattle.std.specs.List.Sorted.{IsPermutation}
use Rattle.std.proofs.lemmas.List.Sorted.{IsNonDecreasingBy-from_sort_by_key}
use Rattle.ol_log_places.specs.declared.heads.Stood.{Stood}
use Rattle.ol_log_places.specs.Heads.{AreApart, AreLow, BeginsRun, IsNotApart}
use Rattle.ol_log_places.proofs.Moves.{moved_by, moved_low, some_shares}
use Rattle.ol_log_places.proofs.heads.find_run.Goals as goal

pub are_apart-requires : goal.are_apart-requires
are_apart-requires c =
    subst AreLow (sym c.deref.ensures.value) (moved_low c.args.heads.now c.sort_unstable_by_key.new.self.items (moved_by _ _ (subst (λ (l : List Stood). IsPermutation l c.sort_unstable_by_key.new.self.items) c.in-Ok.ensures.items c.sort_unstable_by_key.ensures.permutation)) c.requires)

pub refuse_first-requires-clause-shares : goal.refuse_first-requires-clause-shares
refuse_first-requires-clause-shares c =
    let moved = moved_by _ _ (subst (λ (l : List Stood). IsPermutation l c.sort_unstable_by_key.new.self.items) c.in-Ok.ensures.items c.sort_unstable_by_key.ensures.permutation) in
    some_shares c.args.heads.now c.sort_unstable_by_key.new.self.items moved (moved_low _ _ moved c.requires) (IsNonDecreasingBy-from_sort_by_key (λ s. s.head.first) _ c.sort_unstable_by_key.ensures.sorted (λ a r q k. search rules))
    (subst IsNotApart c.deref.ensures.value c.if-not-are_apart.ensures)

pub start_of_run-start-requires : goal.start_of_run-start-requires
start_of_run-start-requires c =
    subst AreLow (sym c.deref-2.ensures.value) (moved_low c.args.heads.now c.sort_unstable_by_key.new.self.items (moved_by _ _ (subst (λ (l : List Stood). IsPermutation l c.sort_unstable_by_key.new.self.items) c.in-Ok.ensures.items c.sort_unstable_by_key.ensures.permutation)) c.requires)

pub returns-in-Ok-split_off-clause-run : goal.returns-in-Ok-split_off-clause-run
returns-in-Ok-split_off-clause-run c = record {
  sorted = c.sort_unstable_by_key.new.self.items;
  moved = subst (λ (l : List Stood). IsPermutation l c.sort_unstable_by_key.new.self.items) c.in-Ok.ensures.items c.sort_unstable_by_key.ensures.permutation;
  rising = IsNonDecreasingBy-from_sort_by_key (λ s. s.head.first) _ c.sort_unstable_by_key.ensures.sorted (λ a r q k. search rules);
  apart = subst AreApart c.deref.ensures.value c.if-not-are_apart.ensures;
  start = c.start_of_run-start.result;
  begins = subst (λ (l : List Stood). BeginsRun l c.start_of_run-start.result) c.deref-2.ensures.value c.start_of_run-start.ensures;
  is = c.in-Ok-split_off.ensures.tail;
}
