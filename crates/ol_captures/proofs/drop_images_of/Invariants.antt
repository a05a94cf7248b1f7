use Rattle.std.proofs.Common.{◌≡◌, ℕ}
use Rattle.ol_before.specs.Images.{without}
use Rattle.ol_running.specs.Running.{dropped_upto}
use Rattle.ol_storage.specs.Behind.{Behind}
use Rattle.ol_storage.specs.Installation.{with_store}
use Rattle.ol_storage.specs.Storing.{IsStored}
use Rattle.ol_store.specs.Stores.{with_before}
use Rattle.ol_captures.proofs.drop_images_of.Given as goal

abbrev pub invariant-loop-space : goal.invariant-loop-space
invariant-loop-space g l =
    (l.storage.now ≡ with_store l.initial.storage.now (with_before l.initial.storage.now.store (dropped_upto l.cursor l.initial.storage.now.store.before l.space)))
    × (l.storage.disk ≡ l.initial.storage.disk)
    × (g.D.Disk.tells → (b : Behind) → IsStored (g.D.Disk.past l.initial.storage.disk) l.initial.storage.now b → IsStored (g.D.Disk.past l.storage.disk) l.storage.now b)
