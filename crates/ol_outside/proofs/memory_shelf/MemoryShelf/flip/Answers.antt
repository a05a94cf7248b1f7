use Rattle.std.proofs.Common.{◌≡◌, ◌-◌, [], length, get_or, ap, ◌∙◌, arith}
use Rattle.std.proofs.lemmas.List.{length-set, get_or_read}
use Rattle.ol_outside.proofs.ShelfLaws.{volumes-fit-set, volumes-fit-at}
use Rattle.ol_outside.proofs.memory_shelf.MemoryShelf.flip.Goals as goal

pub invariant_of-self : goal.invariant_of-self
invariant_of-self c =
    let tapes = c.self.inside.drives.items in
    let old = c.index_mut-of_drive.result.now in
    let is : old ≡ get_or tapes c.args.drive [] = get_or_read tapes c.args.drive old (omega (arith, c.self.invariant.0, c.requires.drive)) c.index_mut-of_drive.ensures.value [] in
    let same : length c.flip.new.self ≡ length old = ap length c.flip.ensures ∙ length-set old (c.args.volume - 1) _ in (
      length-set tapes c.args.drive c.flip.new.self ∙ c.self.invariant.0,
      volumes-fit-set tapes c.args.drive c.flip.new.self c.self.invariant.1 (omega (arith, same, ap length is, volumes-fit-at tapes c.args.drive c.self.invariant.1)),
    )
