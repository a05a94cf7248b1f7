use Rattle.std.specs.Prelude.{Err, IfOk, IsErrOf, None, Ok, OnOk, Option, Some, [], false, true, slice_index_or, ℕ, ◌+◌, ◌<◌, ◌^◌, ◌≡◌}
use Rattle.std.proofs.Common.{ap, arith, inl, refl, subst, sym, ◌∙◌}
use Rattle.ol_values.specs.declared.row.Row.{Row}
use Rattle.ol_storage.specs.Behind.{Behind, is_up, pages_of}
use Rattle.ol_storage.specs.Causes.{HasStorageCause}
use Rattle.ol_storage.specs.declared.storage.StorageFault.TheVariants.{Bad, Failed}
use Rattle.ol_storage.specs.Installation.{HasAll, Held, Installation, IsInstallation, config_of, flushed_of, marked, with_ring, with_store}
use Rattle.ol_storage.specs.Standing.{StandsBetween}
use Rattle.ol_storage.specs.Storing.{IsStored}
use Rattle.ol_storage.proofs.Images.{Known}
use Rattle.ol_storage.proofs.Quiet.{before_stored, loaded_stored, passed_stored, stored_stands, switched_going, switched_stored}
use Rattle.ol_storage.proofs.storage.Storage.stamp.Goals as goal

pub returns-in-Ok-clause-stamp : goal.returns-in-Ok-clause-stamp
returns-in-Ok-clause-stamp g c =
    subst (λ (h : Held _). g.D.Disk.tells → (b : Behind) → IsStored (g.D.Disk.past h.disk) h.now b → is_up h.now.anchor c.args.space ≡ true → c.in-Ok.stamp ≡ ((pages_of h.now.anchor b).now c.args.space c.args.page).stamp) c.self.view_is
    (λ tells b is up. c.in-Ok.ensures.stamp tells (pages_of c.self.inside.anchor b) is.pages.on_disk up)

pub returns-in-Ok-clause-stored : goal.returns-in-Ok-clause-stored
returns-in-Ok-clause-stored g c =
    let v : Installation = record { ring = c.self.inside.ring; store = c.self.inside.store; anchor = c.self.inside.anchor; reached = c.self.inside.reached; stopped = c.self.inside.stopped } in
    subst (λ (h : Held _). g.D.Disk.tells → (b : Behind) → IsStored (g.D.Disk.past h.disk) h.now b → is_up h.now.anchor c.args.space ≡ true
    → IsStored (g.D.Disk.past c.stamp.new.disk) (record { ring = c.self.inside.ring; store = c.stamp.new.self; anchor = c.self.inside.anchor; reached = c.self.inside.reached; stopped = c.self.inside.stopped }) b) c.self.view_is
    (λ tells b is up. loaded_stored (g.D.Disk.past c.stamp.new.disk) v c.stamp.new.self b c.args.space c.args.page c.in-Ok.ensures.loaded (c.in-Ok.ensures.stored tells (pages_of c.self.inside.anchor b) is.pages.on_disk up)
    (subst (λ past. IsStored past v b) (sym (c.stamp.ensures.past tells)) is))

pub returns-in-Err-Bad-clause-good : goal.returns-in-Err-Bad-clause-good
returns-in-Err-Bad-clause-good g c =
    subst (λ (h : Held _). g.D.Disk.tells → (b : Behind) → IsStored (g.D.Disk.past h.disk) h.now b → is_up h.now.anchor c.args.space ≡ true → (chunk at : ℕ) → IsErrOf {T = ℕ} (Err (Bad c.in-Err-Bad.chunk c.in-Err-Bad.page)) (Bad chunk at) → ⊥) c.self.view_is
    (λ tells b is up chunk at same. c.stamp.ensures.good tells (pages_of c.self.inside.anchor b) is.pages.on_disk is.pages.flushed up c.in-Err-Bad.chunk c.in-Err-Bad.page (c.in-Err-Bad.is ∙ ap Err c.in-Err-Bad.field-0-is))
