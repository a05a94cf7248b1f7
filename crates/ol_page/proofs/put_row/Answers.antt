use Rattle.ol_page.proofs.Slots.{slot_written}
use Rattle.ol_page.proofs.put_row.Goals as goal

pub returns-clause-value : goal.returns-clause-value
returns-clause-value c =
    rw (c.put-2.ensures, c.put.ensures, c.as_slice-bytes.ensures.value)
    (slot_written c.args.row.now c.args.slot.now c.requires c.as_slice-bytes.ensures.limit)
