-- What the disk of a storage holds between two calls.
use Rattle.std.specs.Prelude.{Some, false, ℕ, ◌+◌, ◌<◌, ◌≡◌, ◌≤◌}
use Rattle.ol_ports.specs.Disk.{Past}
use Rattle.ol_reserve.specs.Pair.{IsReady}
use Rattle.ol_log_places.specs.Places.{Place}
use Rattle.ol_loglog.specs.Ready.{IsFloor, IsInOrder}
use Rattle.ol_loglog.specs.Ready.{IsReady as IsRingReady}
use Rattle.ol_loglog.specs.RingValue.{first_unwritten}
use Rattle.ol_store.specs.Holding.{CleanAreFlushed, IsOnDisk}
use Rattle.ol_storage.specs.Behind.{Behind, IsBehind, pages_of, record_at}
use Rattle.ol_storage.specs.Behind.{last_of as last_behind}
use Rattle.ol_storage.specs.Installation.{Installation, config_of}
use Rattle.ol_storage.specs.Standing.{IsAnchorOf}

-- the log files: they are as the ring has them, with the records from a position on that is at most the need
pub record IsLogStored (past : Past) (v : Installation) (g : Behind) : Type 0 where
  pub places : ℕ → Place
  pub floor : ℕ
  pub low : floor ≤ v.anchor.need
  pub is_floor : IsFloor v.ring.state floor
  pub ready : IsRingReady past v.ring places floor (record_at g)
  pub order : IsInOrder v.ring.config v.ring.state

-- the pages and the physical log: they are as the store has them, and no written page is ahead of the log
pub record ArePagesStored (past : Past) (v : Installation) (g : Behind) : Type 0 where
  pub on_disk : IsOnDisk past v.store (pages_of v.anchor g)
  pub flushed : CleanAreFlushed v.store (pages_of v.anchor g)

-- an installation stands on its disk, for what was read and the records behind it
pub record IsStored (past : Past) (v : Installation) (g : Behind) : Type 0 where
  pub going : v.stopped ≡ false
  pub behind : IsBehind g
  pub reached : v.reached ≡ g.reached
  pub next : v.ring.state.next ≡ last_behind g + 1
  pub checkpoint : IsAnchorOf (config_of v) g v.anchor
  pub written : v.anchor.position < first_unwritten v.ring.state
  pub anchor : IsReady past (Some v.anchor)
  pub log : IsLogStored past v g
  pub pages : ArePagesStored past v g
