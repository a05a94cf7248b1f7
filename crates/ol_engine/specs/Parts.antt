-- What the parts of the engine, the storage and the lock table, tell of the machine.
use Rattle.std.specs.List.{range_with_len}
use Rattle.std.specs.Option.{option_map}
use Rattle.std.specs.Prelude.{if◌then◌else◌, List, None, Option, Some, [], length, map, replicate, slice_index, slice_index_or, unwrap_or, false, true, ℕ, ◌+◌, ◌-◌, ◌<◌, ◌⊎◌, ◌==◌, ◌^◌, ◌≡◌, ◌≤◌}
use Rattle.ol_values.specs.declared.record.Record.{Record}
use Rattle.ol_values.specs.declared.record.Rid.{Rid}
use Rattle.ol_values.specs.Config.{Config}
use Rattle.ol_rules.specs.Lasting.{Kept, Lasting, SpaceState}
use Rattle.ol_rules.specs.Locks.{Holding, is_among, low_in, owed_in}
use Rattle.ol_rules.specs.Ring.{free}
use Rattle.ol_model.specs.Machine.{Machine, config_of, last_of, seat_of, txns_in}
use Rattle.ol_model.specs.Steps.{make_checkpoint, needs_checkpoint}
use Rattle.ol_store.specs.Stores.{Store, is_touched}
use Rattle.ol_reserve.specs.declared.anchor.Anchor.{Anchor}
use Rattle.ol_log_state.specs.RingState.{ring_of}
use Rattle.ol_loglog.specs.RingValue.{HasRoom}
use Rattle.ol_physlog.specs.declared.place.Place.{Place}
use Rattle.ol_storage.specs.Behind.{Behind}
use Rattle.ol_storage.specs.Installation.{Installation, checkpointed, flushed_of}
use Rattle.ol_txn.specs.Seats.{Seat, table_of}
use Rattle.ol_txn.specs.Seats.{seat_of as locks_of}
use Rattle.ol_txn.specs.Telling.{Tells, held}

-- ---- the storage

-- a known archive, from its number and cut
abbrev pub kept_in : ℕ × ℕ → Kept
kept_in k = record { number = k.0; cut = k.1 }

-- what an anchor keeps of a space
abbrev pub space_in : Anchor → ℕ → SpaceState
space_in a space = record {
  up = slice_index a.states space == 1;
  down_at = slice_index a.down_at space;
  zero = kept_in (slice_index_or a.zero space (0, 0));
  one = kept_in (slice_index_or a.one space (0, 0));
}

-- the lasting state that an anchor keeps
abbrev pub lasting_in : Config → Anchor → Lasting
lasting_in c a = record {
  spaces = map (space_in a) (range_with_len 0 (length c.spaces));
  next_archive = a.next_archive;
  incarnation = a.incarnation;
  backed = a.backed;
}

-- the pages of entries of the physical log
abbrev pub touched_in : List Place → List (ℕ × ℕ)
touched_in places = map (λ (p : Place). let q : ℕ × ℕ = (p.space, p.page) in q) places

-- the storage is where the machine is: its log, its last position, its checkpoint and its lasting state
pub record ShowsStorage (v : Installation) (m : Machine) : Type 0 where
  pub config : v.ring.config ≡ config_of m
  pub ring : ring_of v.ring.state ≡ m.log.ring
  pub next : v.ring.state.next ≡ last_of m + 1
  pub reached : v.reached ≡ last_of m
  pub position : v.anchor.position ≡ m.checkpoint.position
  pub need : v.anchor.need ≡ m.checkpoint.need
  pub touched : touched_in v.store.log.places ≡ m.checkpoint.touched
  pub lasting : lasting_in (config_of m) v.anchor ≡ m.lasting

-- ---- the sessions

-- the number of the transaction that is held, and the slots that are shared
abbrev pub number_in : Option Holding → Option ℕ
number_in held = option_map (λ (h : Holding). h.number) held

abbrev pub shared_in : Option Holding → List Rid
shared_in None = []
shared_in (Some h) = h.shared

-- the registers of each session
abbrev pub Registers : Type 0
Registers = List (List (Option Rid))

-- those of session k, from 1
abbrev pub registers_of : Registers → ℕ → List (Option Rid)
registers_of registers k = slice_index_or registers (k - 1) (replicate 10 None)

-- the lock table has the open transactions, and each session its transaction, its shared slots and its registers
pub record ShowsSeats (seats : List Seat) (registers : Registers) (m : Machine) : Type 0 where
  pub sixteen : length seats ≡ 16
  pub seated : length m.work.sessions ≡ 16
  pub tells : Tells (txns_in m) (table_of seats)
  pub numbers : (k : ℕ) → 1 ≤ k → k ≤ 16 → number_in (locks_of seats k).holding ≡ (seat_of m k).txn
  pub shares : (k : ℕ) (rid : Rid) → 1 ≤ k → k ≤ 16 → is_among rid (shared_in (locks_of seats k).holding) ≡ is_among rid (seat_of m k).shares
  pub registered : (k : ℕ) → 1 ≤ k → k ≤ 16 → registers_of registers k ≡ (seat_of m k).registers

-- the parts show the machine; the journal had so many records as the opening ended
pub record Shows (opened : ℕ) (v : Installation) (seats : List Seat) (registers : Registers) (m : Machine) : Type 0 where
  pub storage : ShowsStorage v m
  pub sessions : ShowsSeats seats registers m
  pub since : m.fixed.opened ≡ opened

-- what the disk of the machine holds: the pages have all records
abbrev pub behind_of : (ℕ → Record) → Machine → Behind
behind_of before m = record { before = before; start = m.work.start; records = m.work.records; reached = last_of m }

-- ---- the parts alone

-- what the open transactions owe
abbrev pub owed_of : List Seat → ℕ
owed_of seats = owed_in (table_of seats)

-- the log pages that may still be written
abbrev pub free_of : Installation → ℕ
free_of v = free v.ring.config v.ring.state.reuse (ring_of v.ring.state)

-- the position of the last record
abbrev pub last_in : Installation → ℕ
last_in v = v.ring.state.next - 1

-- the log has pages and the journal positions for what is buffered and owed; each open transaction began between the need of the last checkpoint and the last record
pub record HasTurns (opened : ℕ) (v : Installation) (seats : List Seat) : Type 0 where
  pub room : HasRoom v.ring.config v.ring.state
  pub log : owed_of seats ≤ free_of v
  pub records : last_in v - opened + owed_of seats ≤ 1048576
  pub positions : last_in v + 1 + owed_of seats ≤ 2 ^ 62
  pub at_end : v.reached + 1 ≡ v.ring.state.next
  pub need : v.anchor.need ≤ v.ring.state.next
  pub numbers : (i : ℕ) (h : Holding) → held (table_of seats) i ≡ Some h → (v.anchor.need ≤ h.number) × (h.number ≤ last_in v)

-- the numbers of the storage may rise by so much
pub record MayRise (by : ℕ) (v : Installation) : Type 0 where
  pub uniq : v.ring.state.files.uniq + by ≤ 2 ^ 62
  pub serial : v.anchor.serial + by ≤ 2 ^ 62
  pub generation : v.anchor.generation + by ≤ 2 ^ 62
  pub archive : v.anchor.next_archive + by ≤ 2 ^ 62

-- they have risen by at most so much
pub record HasRisen (by : ℕ) (v w : Installation) : Type 0 where
  pub uniq : w.ring.state.files.uniq ≤ v.ring.state.files.uniq + by
  pub serial : w.anchor.serial ≤ v.anchor.serial + by
  pub generation : w.anchor.generation ≤ v.anchor.generation + by
  pub archive : w.anchor.next_archive ≤ v.anchor.next_archive + by

-- the need of a checkpoint that is made now: the least number of an open transaction, else the position behind the last
abbrev pub need_of : Installation → List Seat → ℕ
need_of v seats = unwrap_or (low_in (table_of seats)) v.ring.state.next

-- the anchor of that checkpoint
abbrev pub anchor_made : Installation → List Seat → Anchor
anchor_made v seats = (checkpointed v (need_of v seats) v.anchor.next_archive []).anchor

-- ---- pages that change

-- a page has an entry of the physical log, or one is unused
abbrev pub HasEntry : Store → ℕ → ℕ → Type 0
HasEntry s space page = (is_touched s.log space page ≡ true) ⊎ (length s.log.places < s.log.area.count)

-- neither is so
abbrev pub HasNoEntry : Store → ℕ → ℕ → Type 0
HasNoEntry s space page = (is_touched s.log space page ≡ false) × (s.log.area.count ≤ length s.log.places)

-- the machine with a checkpoint where a change of the page needs one before it
abbrev pub ready_for : ℕ × ℕ → Machine → Machine
ready_for p m = if needs_checkpoint m p then make_checkpoint m else m

-- the configuration, the spaces that are up, the pages in memory, the captured images and the last position are the same, and no less is free and flushed
pub record IsBeside (v w : Installation) : Type 0 where
  pub config : w.ring.config ≡ v.ring.config
  pub states : w.anchor.states ≡ v.anchor.states
  pub frames : w.store.pool.spaces ≡ v.store.pool.spaces
  pub before : w.store.before ≡ v.store.before
  pub next : w.ring.state.next ≡ v.ring.state.next
  pub free : free_of v ≤ free_of w
  pub flushed : flushed_of v ≤ flushed_of w

-- no call has failed, and the configuration and the spaces that are up are the same
pub record GoesOn (v w : Installation) : Type 0 where
  pub going : w.stopped ≡ false
  pub config : w.ring.config ≡ v.ring.config
  pub states : w.anchor.states ≡ v.anchor.states

-- an anchor is the one before or that of a checkpoint made then
abbrev pub IsEither : Installation → List Seat → Anchor → Type 0
IsEither v seats a = (a ≡ v.anchor) ⊎ (a ≡ anchor_made v seats)

-- a table that may stand behind a record: it owes what there is room for, and its open transactions were open before
pub record MayFollow (opened : ℕ) (v : Installation) (seats now : List Seat) : Type 0 where
  pub log : owed_of now + 1 ≤ free_of v
  pub records : last_in v - opened + 1 + owed_of now ≤ 1048576
  pub positions : last_in v + 2 + owed_of now ≤ 2 ^ 62
  pub numbers : (i : ℕ) (h : Holding) → held (table_of now) i ≡ Some h → (j : ℕ) × (g : Holding) × (held (table_of seats) j ≡ Some g) × (g.number ≡ h.number)
