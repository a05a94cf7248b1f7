use Rattle.std.proofs.Common.{arith}
use Rattle.std.proofs.lemmas.List.FromFn.{fill_by_all}
use Rattle.ol_archive_turns.specs.Ending.{known_in, known_with}
use Rattle.ol_archive_turns.proofs.known.known_with.Goals as goal

pub returns : goal.returns
unfolding known_with
returns c =
    fill_by_all (known_in c.args.cursor.now c.args.kept c.args.known.now) c.loop-space.after 16 (0, 0) c.loop-space.invariant.0
    (λ i within. c.loop-space.invariant.1 i (omega (arith, within, c.loop-space.auto.space-end, c.loop-space-test.false)))
