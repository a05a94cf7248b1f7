use Rattle.std.proofs.Common.{arith, ◌∙◌}
use Rattle.ol_bytes.proofs.Tail.{written_to_end}
use Rattle.ol_object.proofs.block.seal.Goals as goal

pub returns : goal.returns
returns c =
    written_to_end 2112 32 c.args.out.now c.copy_from_slice.new.self (omega (arith, c.told-out))
    ∙ rw (c.copy_from_slice.ensures.after, c.digest-digest.ensures)
