use Rattle.std.proofs.Common.{subst, sym, ◌≡◌, ℕ}
use Rattle.ol_storage.specs.Behind.{Behind}
use Rattle.ol_storage.specs.Installation.{Held}
use Rattle.ol_storage.specs.Storing.{IsStored}
use Rattle.ol_row_turns.proofs.images.ask_images.Goals as goal
use Rattle.ol_row_turns.proofs.images.ask_images.Goals.{else-eq-via-then-eq+else-is_err, else-eq-via-else-eq}

pub returns-clause-stored : goal.returns-clause-stored
returns-clause-stored g c tells b stored never =
    let read = c.in-Ok.ensures.stored tells b stored c.requires.up in
    elim c.else-eq.branch [
      | else-eq-via-then-eq+else-is_err w ↦ subst (λ (h : Held _). IsStored (g.D.Disk.past h.disk) h.now b) (sym w.storage-is) (w.make_room.ensures.stored tells b read)
      | else-eq-via-else-eq w ↦ subst (λ (h : Held _). IsStored (g.D.Disk.past h.disk) h.now b) (sym w.storage-is) read
    ]
