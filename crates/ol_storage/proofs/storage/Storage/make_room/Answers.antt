use Rattle.std.specs.Prelude.{Err, IfOk, IsErrOf, None, Ok, OnErr, OnOk, Option, Some, [], false, true, slice_index_or, ℕ, ◌+◌, ◌<◌, ◌^◌, ◌≡◌}
use Rattle.std.proofs.Common.{ap, arith, inl, refl, subst, sym, ◌∙◌}
use Rattle.ol_before.specs.Images.{with_room}
use Rattle.ol_storage.specs.Behind.{Behind, is_up, pages_of}
use Rattle.ol_storage.specs.Causes.{HasStorageCause}
use Rattle.ol_storage.specs.declared.storage.StorageFault.TheVariants.{Bad, Failed}
use Rattle.ol_storage.specs.Installation.{HasAll, Held, Installation, IsInstallation, config_of, flushed_of, marked, next_to_back, with_ring, with_store}
use Rattle.ol_storage.specs.Standing.{StandsBetween}
use Rattle.ol_storage.specs.Storing.{IsStored}
use Rattle.ol_storage.proofs.Images.{Known}
use Rattle.ol_storage.proofs.Quiet.{before_stored, loaded_stored, passed_stored, room_stored, stored_stands, switched_going, switched_stored}
use Rattle.ol_storage.proofs.storage.Storage.make_room.Goals as goal

pub returns-clause-stored : goal.returns-clause-stored
returns-clause-stored g c =
    let v : Installation = record { ring = c.self.inside.ring; store = c.self.inside.store; anchor = c.self.inside.anchor; reached = c.self.inside.reached; stopped = c.self.inside.stopped } in
    subst (λ (h : Held _). g.D.Disk.tells → (b : Behind) → IsStored (g.D.Disk.past h.disk) h.now b
    → IsStored (g.D.Disk.past c.self.inside.disk) (record { ring = c.self.inside.ring; store = c.make_room.new.self; anchor = c.self.inside.anchor; reached = c.self.inside.reached; stopped = c.self.inside.stopped }) b) c.self.view_is
    (λ tells b is. room_stored (g.D.Disk.past c.self.inside.disk) v c.make_room.new.self (with_room c.self.inside.store.before) b c.make_room.result c.make_room.ensures.ok c.make_room.ensures.unchanged is)
