use Rattle.std.specs.List.{list_any}
use Rattle.std.proofs.Common.{arith, false, ◌==◌}
use Rattle.std.proofs.lemmas.List.FromFn.{fill_by_all}
use Rattle.ol_archive_start.specs.Starting.{named_of}
use Rattle.ol_archive_start.proofs.cursors.named.Goals as goal

pub returns : goal.returns
unfolding named_of
returns c =
    fill_by_all (λ i. list_any (λ s. s == i) c.args.spaces.now) c.loop-space.named 16 false c.loop-space.invariant.0
    (λ i within. c.loop-space.invariant.1 i (omega (arith, within, c.loop-space.auto.space-end, c.loop-space-test.false)))
