use Rattle.std.proofs.Common.{◌≡◌, ◌+◌, ◌^◌, ◌<◌, ℕ, List, [], ◌++◌, length, get_or, ap, ◌∙◌, arith, length-append, Result, Ok, Err, OnOk, OnErr}
use Rattle.std.proofs.lemmas.List.{length-set, get_or_read}
use Rattle.ol_ports.specs.Shelf.{volumes_at}
use Rattle.ol_outside.specs.Devices.{ShelfState}
use Rattle.ol_outside.proofs.ShelfLaws.{volumes-fit-set}
use Rattle.ol_outside.proofs.memory_shelf.MemoryShelf.add.Goals as goal

-- the volumes of the drive are as before, or these more
joined-count : {T E : Type 0} (r : Result T E) (old new more : List (List (List ℕ))) → OnOk r (new ≡ old ++ more) → OnErr r (new ≡ old) → length old + length more < 2 ^ 32 → length new < 2 ^ 32
joined-count (Ok x) old new more ok err lt = omega (arith, ap length ok, length-append old more)
joined-count (Err e) old new more ok err lt = omega (arith, ap length err)

pub invariant_of-self : goal.invariant_of-self
invariant_of-self c =
    let tapes = c.self.inside.drives.items in
    let old = c.index_mut-of_drive.result.now in
    let is : old ≡ get_or tapes c.args.drive [] = get_or_read tapes c.args.drive old (omega (arith, c.self.invariant.0, c.requires.drive)) c.index_mut-of_drive.ensures.value [] in
    let seen = ap (λ (s : ShelfState). length (volumes_at s.tapes c.args.drive)) c.self.view_is in
    let count : length (volumes_at c.args.self.now.tapes c.args.drive) + length c.args.volumes < 2 ^ 32 = c.requires.count in (
      length-set tapes c.args.drive c.join.new.self ∙ c.self.invariant.0,
      volumes-fit-set tapes c.args.drive c.join.new.self c.self.invariant.1 (joined-count c.join.result old c.join.new.self c.args.volumes c.join.ensures.ok c.join.ensures.err (omega (arith, ap length is, seen, count))),
    )
