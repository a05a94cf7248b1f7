use Rattle.std.specs.Prelude.{Err, IfOk, IsErrOf, None, Ok, OnOk, Option, Some, [], false, true, slice_index_or, ℕ, ◌+◌, ◌<◌, ◌^◌, ◌≡◌}
use Rattle.std.proofs.Common.{ap, arith, inl, refl, subst, sym, ◌∙◌}
use Rattle.ol_loglog.specs.RingValue.{RingValue}
use Rattle.ol_storage.specs.Behind.{Behind, is_up, pages_of}
use Rattle.ol_storage.specs.Causes.{HasStorageCause}
use Rattle.ol_storage.specs.declared.storage.StorageFault.TheVariants.{Bad, Failed}
use Rattle.ol_storage.specs.Installation.{HasAll, Held, Installation, IsInstallation, config_of, flushed_of, marked, with_ring, with_store}
use Rattle.ol_storage.specs.Standing.{StandsBetween}
use Rattle.ol_storage.specs.Storing.{IsStored}
use Rattle.ol_storage.proofs.Images.{Known}
use Rattle.ol_storage.proofs.Quiet.{before_stored, loaded_stored, passed_stored, stored_stands, switched_going, switched_stored}
use Rattle.ol_storage.proofs.storage.Storage.close_file.Goals as goal

pub invariant_of-self : goal.invariant_of-self
invariant_of-self g c =
    let v : Installation = record { ring = c.self.inside.ring; store = c.self.inside.store; anchor = c.self.inside.anchor; reached = c.self.inside.reached; stopped = c.self.inside.stopped } in
    let stopped : c.self.inside.stopped ≡ false = ap (λ (h : Held _). h.now.stopped) c.self.view_is ∙ c.requires.going in
    subst (λ (r : RingValue). IsInstallation (g.D.Disk.sizes c.self.inside.disk) (record { ring = r; store = c.self.inside.store; anchor = c.self.inside.anchor; reached = c.self.inside.reached; stopped = c.self.inside.stopped })) (sym c.switch.ensures.value) (record {
      disk = c.self.invariant.disk;
      going = λ going_on. switched_going v (c.self.invariant.going stopped);
      stamps = λ going_on. c.self.invariant.stamps stopped;
    })

pub returns-clause-stored : goal.returns-clause-stored
returns-clause-stored g c =
    let v : Installation = record { ring = c.self.inside.ring; store = c.self.inside.store; anchor = c.self.inside.anchor; reached = c.self.inside.reached; stopped = c.self.inside.stopped } in
    subst (λ (h : Held _). g.D.Disk.tells → (b : Behind) → IsStored (g.D.Disk.past h.disk) h.now b
    → IsStored (g.D.Disk.past c.self.inside.disk) (record { ring = c.switch.new.self; store = c.self.inside.store; anchor = c.self.inside.anchor; reached = c.self.inside.reached; stopped = c.self.inside.stopped }) b) c.self.view_is (λ tells b is.
    subst (λ (r : RingValue). IsStored (g.D.Disk.past c.self.inside.disk) (record { ring = r; store = c.self.inside.store; anchor = c.self.inside.anchor; reached = c.self.inside.reached; stopped = c.self.inside.stopped }) b) (sym c.switch.ensures.value)
    (switched_stored (g.D.Disk.past c.self.inside.disk) v b is))
