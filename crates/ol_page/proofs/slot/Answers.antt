use Rattle.std.proofs.Common.{ap, arith, get_or, length, None, take, ◌∙◌, ◌<◌}
use Rattle.ol_page.proofs.Reading.{slot_bytes_at}
use Rattle.ol_page.proofs.slot.Goals as goal

pub returns : goal.returns
returns c p is e =
    let there : c.args.slot < length p.slots = omega (arith, is.whole, c.requires.there) in
    c.row_of.ensures (get_or p.slots c.args.slot None) (is.rows c.args.slot None there)
    (c.split_at-2.ensures.front ∙ ap (take 64) c.split_at.ensures.back ∙ slot_bytes_at p c.args.page.now c.args.slot is e c.requires.there)
