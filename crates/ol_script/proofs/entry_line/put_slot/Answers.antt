use Rattle.std.proofs.Common.{ap, arith, decimal, length, ℕ}
use Rattle.ol_script.proofs.SlotLaws.{two_digits}
use Rattle.ol_script.proofs.entry_line.put_slot.Goals as goal

pub returns-clause-next : goal.returns-clause-next
returns-clause-next c =
    omega (arith, two_digits c.args.slot c.requires.slot, c.put_number.ensures.length, c.put-at.ensures.next, ap (λ (n : ℕ). length (decimal n)) c.from.ensures)
