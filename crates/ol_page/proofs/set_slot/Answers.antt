use Rattle.ol_page.proofs.Slots.{overwritten-page_bytes}
use Rattle.ol_page.proofs.set_slot.Goals as goal

pub returns-clause-page : goal.returns-clause-page
returns-clause-page c = λ p is whole.
    let image = c.slot_image-image.ensures in
    rw (c.put-3.ensures, c.to_be_bytes-2.ensures, c.put-2.ensures, image.value, c.put.ensures, c.to_be_bytes.ensures, whole)
    (overwritten-page_bytes p c.args.slot c.args.row c.args.stamp is c.requires.there image.fits)
