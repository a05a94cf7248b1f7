use Rattle.std.proofs.Common.{arith}
use Rattle.std.proofs.lemmas.List.FromFn.{fill_by_all}
use Rattle.ol_archive_start.specs.Refusing.{parent_of}
use Rattle.ol_archive_start.specs.Starting.{bases_of}
use Rattle.ol_archive_start.proofs.cursors.bases.Goals as goal

pub returns : goal.returns
unfolding bases_of
returns c =
    fill_by_all (λ i. (parent_of c.args.anchor.now c.args.level i).1) c.loop-space.bases 16 0 c.loop-space.invariant.0
    (λ i within. c.loop-space.invariant.1 i (omega (arith, within, c.loop-space.auto.space-end, c.loop-space-test.false)))
