-- The ring over a disk as a value, and the steps that calls make of its state.
use Rattle.std.specs.Prelude.{Bool, List, if◌then◌else◌, is_some, length, nat_le, slice_get, ℕ, ◌+◌, ◌-◌, ◌<◌, ◌^◌, ◌≡◌, ◌≤◌}
use Rattle.ol_chunks.specs.Limits.{IsConfig}
use Rattle.ol_chunks.specs.Places.{log_area}
use Rattle.ol_rules.specs.Ring.{held, room}
use Rattle.ol_values.specs.Config.{Config, log_pages}
use Rattle.ol_values.specs.LogPages.{log_room, record_length, records_length}
use Rattle.ol_values.specs.declared.record.Record.{Record}
use Rattle.ol_log_state.specs.RingState.{RingState, buffered, ring_of, turned}
use Rattle.ol_log_places.specs.Heads.{IsUniq}

-- the configuration, the ring in memory, and of each place of the log whether its gate is open
pub record RingValue : Type 0 where
  pub config : Config
  pub state : RingState
  pub gates : List Bool

abbrev pub ring_value : Config → RingState → List Bool → RingValue
ring_value c s gates = record { config = c; state = s; gates = gates }

-- the first position that is not written
abbrev pub first_unwritten : RingState → ℕ
first_unwritten s = s.next - length s.buffer

-- ---- limits

-- the current unique number and the incarnation are from 1 to 2^62, and positions from 1 to below 2^62
pub record IsInLimits (s : RingState) : Type 0 where
  pub uniq : IsUniq s.files.uniq
  pub incarnation : IsUniq s.incarnation
  pub first : length s.buffer < s.next
  pub next : s.next ≤ 2 ^ 62

-- the ring is one of the installation's log files, in limits, with a gate for each place
pub record IsLogRing (v : RingValue) : Type 0 where
  pub config : IsConfig v.config
  pub area : v.state.files.area ≡ log_area v.config
  pub gates : length v.gates ≡ log_pages v.config
  pub limits : IsInLimits v.state

-- a page may be written for the buffered records, where there are some
abbrev pub HasRoom : Config → RingState → Type 0
HasRoom c s = held (ring_of s) ≤ room c s.reuse (ring_of s)

-- ---- steps

-- the buffered records, where there are some, have become a written page
abbrev pub flushed_state : RingState → RingState
flushed_state s = if is_some (slice_get s.buffer 0) then turned s else s

-- a record is buffered, behind the others where it has room there
abbrev pub logged_state : Record → RingState → RingState
logged_state rec s = buffered rec (if nat_le (records_length s.buffer + record_length rec) log_room then s else flushed_state s)

-- the ring with another state
abbrev pub with_state : RingState → RingValue → RingValue
with_state s v = ring_value v.config s v.gates
