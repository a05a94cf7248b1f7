-- How turns over the parts answer.
use Rattle.std.specs.Prelude.{Bool, Err, None, Ok, Option, Result, Some, false, if◌then◌else◌, nat_lt, ℕ, ◌+◌, ◌-◌, ◌^◌, ◌||◌, ◌≡◌, ◌≤◌, List}
use Rattle.ol_values.specs.declared.event.Reply.{Reply}
use Rattle.ol_values.specs.declared.event.Reply.TheVariants.{JournalFull, LogsFull}
use Rattle.ol_values.specs.declared.record.Record.{Record}
use Rattle.ol_rules.specs.Ring.{blocker}
use Rattle.ol_model.specs.Machine.{Machine}
use Rattle.ol_model.specs.Turns.{comes_first}
use Rattle.ol_ports.specs.Disk.{Bytes}
use Rattle.ol_reserve.specs.declared.anchor.Anchor.{Anchor}
use Rattle.ol_log_state.specs.RingState.{ring_of}
use Rattle.ol_model.specs.Machine.{last_of as last_record}
use Rattle.ol_storage.specs.declared.storage.StorageFault.{StorageFault}
use Rattle.ol_storage.specs.declared.storage.StorageFault.TheVariants.{Bad, Failed, NoMemory, Stopped}
use Rattle.ol_storage.specs.Installation.{Installation, config_of, flushed_of}
use Rattle.ol_storage.specs.Standing.{StandsBetween, StandsFrom}
use Rattle.ol_txn.specs.Seats.{Seat}
use Rattle.ol_engine.specs.Parts.{behind_of, free_of, last_in, owed_of}

-- ---- refusals for want of room

-- the journal has no room for a record more, what that owes, and what is owed: at most 2^20 records since the opening, and positions up to 2^62
abbrev pub is_journal_full : ℕ → Installation → List Seat → Bool
is_journal_full opened v seats = nat_lt 1048576 (last_in v - opened + owed_of seats + 2) || nat_lt (2 ^ 62) (last_in v + 1 + owed_of seats + 2)

-- the log has none
abbrev pub is_log_full : Installation → List Seat → Bool
is_log_full v seats = nat_lt (free_of v) (owed_of seats + 2)

-- the refusal for want of room, if there is one
abbrev pub no_room_of : ℕ → Installation → List Seat → Option Reply
no_room_of opened v seats =
    if is_journal_full opened v seats then Some JournalFull
    else if is_log_full v seats then Some (LogsFull (blocker (config_of v) v.ring.state.reuse (ring_of v.ring.state)))
    else None

-- the log and the journal have room for a record more and what that owes
pub record HasMore (opened : ℕ) (v : Installation) (seats : List Seat) : Type 0 where
  pub log : owed_of seats + 2 ≤ free_of v
  pub records : last_in v - opened + owed_of seats + 2 ≤ 1048576
  pub positions : last_in v + 1 + owed_of seats + 2 ≤ 2 ^ 62

-- ---- answers

-- the reply is the machine's, and the parts show the state that it leaves; a failed call, or a bad page, comes only where no refusal comes first; at want of memory the parts show the state as it was
abbrev pub Answers : Machine → (Machine → Type 0) → Reply × Machine → Result Reply StorageFault → Type 0
Answers m shown r (Ok reply) = (reply ≡ r.0) × shown r.1
Answers m shown r (Err Failed) = comes_first r.0 ≡ false
Answers m shown r (Err (Bad chunk page)) = comes_first r.0 ≡ false
Answers m shown r (Err NoMemory) = shown m
Answers m shown r (Err Stopped) = ⊥

-- ---- stops

-- what a stop within a turn leaves stands for the records that were flushed as it began, perhaps for more of those that it ends with, by the anchor that it began with
abbrev pub StandsWithinTurn : Installation → (ℕ → Record) → Machine → Bytes → Type 0
StandsWithinTurn v before n d = StandsFrom (config_of v) (behind_of before n) v.anchor (flushed_of v) (last_record n) d

-- the same, by that anchor or another
abbrev pub StandsWithinEither : Installation → Anchor → (ℕ → Record) → Machine → Bytes → Type 0
StandsWithinEither v a before n d = StandsBetween (config_of v) (behind_of before n) v.anchor a (flushed_of v) (last_record n) d
