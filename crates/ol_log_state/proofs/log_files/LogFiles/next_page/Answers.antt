use Rattle.std.proofs.Common.{Bool, Some, ap, arith, map, subst, true, ◌<◌, ◌≡◌}
use Rattle.std.specs.List.{find}
use Rattle.ol_rules.specs.Ring.{Use, is_closed}
use Rattle.ol_log_state.specs.Files.{Files, log_config, next_page, ring_in}
use Rattle.ol_log_state.specs.Uses.{use_of}
use Rattle.ol_log_state.proofs.NextLaws.{closed_below, next_leaves, next_reuses}
use Rattle.ol_log_state.proofs.log_files.LogFiles.next_page.Goals as goal

pub returns-then-is_closed-clause-reuse : goal.returns-then-is_closed-clause-reuse
returns-then-is_closed-clause-reuse c = λ m some enters.
    next_reuses c.args.self.now m (omega (arith, c.self.invariant.uniq, ap (λ (f : Files). f.uniq) c.self.view_is)) (omega (arith, c.self.invariant.area.files, ap (λ (f : Files). f.area.count) c.self.view_is)) some enters

pub returns-then-is_closed-clause-leaves : goal.returns-then-is_closed-clause-leaves
returns-then-is_closed-clause-leaves c = λ there enters.
    next_leaves c.args.self.now (omega (arith, c.self.invariant.uniq, ap (λ (f : Files). f.uniq) c.self.view_is)) (omega (arith, c.self.invariant.area.files, ap (λ (f : Files). f.area.count) c.self.view_is)) there enters

pub returns-in-None-clause-closed : goal.returns-in-None-clause-closed
returns-in-None-clause-closed c =
    subst (λ (f : Files). (test : Use → Bool) (u : Use) → find test (map use_of f.uses) ≡ Some u → is_closed (log_config f.area) (ring_in f) u ≡ true → u.uniq < (next_page f).uniq) c.self.view_is
    (λ test u found closed. closed_below c.self.inside c.self.invariant test u found closed)

pub returns-then-is_closed-clause-closed : goal.returns-then-is_closed-clause-closed
returns-then-is_closed-clause-closed c =
    subst (λ (f : Files). (test : Use → Bool) (u : Use) → find test (map use_of f.uses) ≡ Some u → is_closed (log_config f.area) (ring_in f) u ≡ true → u.uniq < (next_page f).uniq) c.self.view_is
    (λ test u found closed. closed_below c.self.inside c.self.invariant test u found closed)

pub returns-else-is_closed-clause-closed : goal.returns-else-is_closed-clause-closed
returns-else-is_closed-clause-closed c =
    subst (λ (f : Files). (test : Use → Bool) (u : Use) → find test (map use_of f.uses) ≡ Some u → is_closed (log_config f.area) (ring_in f) u ≡ true → u.uniq < (next_page f).uniq) c.self.view_is
    (λ test u found closed. closed_below c.self.inside c.self.invariant test u found closed)
