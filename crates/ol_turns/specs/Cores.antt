-- What stands in the engine's core, and what it tells of the machine.
use Rattle.std.specs.Prelude.{Bool, Err, List, None, Ok, Option, Result, Some, [], if◌then◌else◌, false, length, replicate, slice_index_or, ℕ, ◌&&◌, ◌*◌, ◌++◌, ◌+◌, ◌-◌, ◌<◌, ◌∷◌, ◌^◌, ◌≡◌, ◌≤◌}
use Rattle.ol_values.specs.declared.event.Event.{Event}
use Rattle.ol_values.specs.declared.event.Reply.{Reply}
use Rattle.ol_values.specs.declared.event.Reply.TheVariants.{BadRead, DiskFault}
use Rattle.ol_values.specs.declared.history.Actor.{Actor}
use Rattle.ol_values.specs.declared.history.Actor.TheVariants.{Session}
use Rattle.ol_values.specs.declared.history.By.{By}
use Rattle.ol_values.specs.declared.history.Entry.{Entry}
use Rattle.ol_values.specs.declared.record.Record.{Record}
use Rattle.ol_values.specs.declared.record.Rid.{Rid}
use Rattle.ol_values.specs.Config.{has_place}
use Rattle.ol_model.specs.History.{Steps, is_faulted, state_at}
use Rattle.ol_model.specs.Machine.{Machine}
use Rattle.ol_ports.specs.Causes.{HasFailed}
use Rattle.ol_ports.specs.Disk.{Past}
use Rattle.ol_archive_turns.specs.Ending.{AreNumbered}
use Rattle.ol_archive_turns.specs.Turns.{AreAllUp}
use Rattle.ol_engine.specs.Parts.{HasTurns, Shows, behind_of}
use Rattle.ol_free_slots.specs.Filled.{AreFull}
use Rattle.ol_running.specs.Running.{ShowsArchives}
use Rattle.ol_session_turns.specs.Pending.{ArePending}
use Rattle.ol_storage.specs.Behind.{is_up}
use Rattle.ol_storage.specs.Installation.{Installation, config_of}
use Rattle.ol_storage.specs.Storing.{IsStored}
use Rattle.ol_storage.specs.declared.storage.StorageFault.{StorageFault}
use Rattle.ol_storage.specs.declared.storage.StorageFault.TheVariants.{Bad, Failed, NoMemory}
use Rattle.ol_turn_laws.specs.Room.{Regular, Roomy}
use Rattle.ol_txn.specs.Seats.{IsSession}
use Rattle.ol_turns.specs.declared.state.State.{State}

abbrev pub history_of : State → List Entry
history_of s = s.entries.entries

-- all registers are empty
abbrev pub no_registers : List (List (Option Rid))
no_registers = replicate 16 (replicate 10 None)

-- ---- the parts are in order

-- behind so many entries the numbers that each raises by at most two are far below their limits
pub record IsLow (n : ℕ) (v : Installation) : Type 0 where
  pub uniq : v.ring.state.files.uniq ≤ 2 ^ 60 + 2 * n
  pub serial : v.anchor.serial ≤ 2 ^ 60 + 2 * n
  pub generation : v.anchor.generation ≤ 2 ^ 60 + 2 * n
  pub archive : v.anchor.next_archive ≤ 2 ^ 60 + 2 * n

-- whether a place is there, in a space that is up
abbrev pub is_there : Installation → Rid → Bool
is_there v rid = has_place (config_of v) rid && is_up v.anchor rid.space

-- these are the counts of faults of the chunks
abbrev pub AreCounts : (ℕ → ℕ) → List ℕ → Type 0
AreCounts faults counts = (chunk : ℕ) → chunk < 32 → slice_index_or counts chunk 0 ≡ faults chunk

-- the parts of an engine that goes on are in order behind n entries: what each turn counts on, over any disk
pub record IsGoing (n : ℕ) (faults : ℕ → ℕ) (v : Installation) (s : State) : Type 0 where
  pub going : v.stopped ≡ false
  pub turns : HasTurns s.opened v s.locks
  pub places : ArePending (is_there v) s.locks
  pub up : AreAllUp v.anchor s.archives
  pub numbers : AreNumbered s.archives
  pub low : IsLow n v
  pub table : s.table ≡ config_of v
  pub counts : AreCounts faults s.counts

-- of a stopped engine nothing is counted on
abbrev pub IsWhole : (ℕ → ℕ) → Installation → State → Type 0
IsWhole faults v s = s.stopped ≡ None → IsGoing (length (history_of s)) faults v s

-- ---- what they tell of the machine

-- the parts show the machine, and the disk holds its journal and its pages
pub record IsShown (earlier : ℕ → Record) (past : Past) (v : Installation) (s : State) (m : Machine) : Type 0 where
  pub shows : Shows s.opened v s.locks s.registers m
  pub archives : ShowsArchives s.archives v.store.before m
  pub stored : IsStored past v (behind_of earlier m)
  pub full : AreFull s.hints m
  pub going : m.stopped ≡ None

-- the machine is one of which turns leave such, too
pub record IsTold (earlier : ℕ → Record) (past : Past) (v : Installation) (s : State) (m : Machine) : Type 0 where
  pub shown : IsShown earlier past v s m
  pub regular : Regular m
  pub roomy : Roomy m

-- the machine behind the history
abbrev pub machine_of : Machine → State → Machine
machine_of begun s = state_at [] begun (history_of s)

-- each entry is the machine's step from the one that it began with, and the parts tell the machine behind them; an engine that an entry stopped tells that entry
pub record Runs (earlier : ℕ → Record) (begun : Machine) (past : Past) (v : Installation) (s : State) : Type 0 where
  pub steps : Steps [] begun 1 (history_of s)
  pub stopped : (machine_of begun s).stopped ≡ s.stopped
  pub told : s.stopped ≡ None → IsTold earlier past v s (machine_of begun s)

-- ---- entries

-- the next entry
abbrev pub entry_of : State → By → Event → ℕ → ℕ → Reply → Entry
entry_of s by event start calls reply = record { number = length (history_of s) + 1; actor = by.actor; line = by.line; event = event; reply = reply; start = start; calls = calls }

-- the state with an entry more; a fault that it tells stops the engine
abbrev pub with_entry : State → Entry → State
with_entry s e = record s { stopped = if is_faulted e.reply then Some e.number else s.stopped; entries = record { entries = history_of s ++ e ∷ []; spare = s.entries.spare - 1 } }

-- how a turn that the parts answered is told: a failed call by the chunk, a bad page by its place; at want of memory nothing is told
abbrev pub IsToldAs : {E : Type 0} → Result Reply StorageFault → Result Reply E → Type 0
IsToldAs (Ok reply) (Ok told) = told ≡ reply
IsToldAs (Err Failed) (Ok told) = (chunk : ℕ) × (told ≡ DiskFault chunk)
IsToldAs (Err (Bad chunk page)) (Ok told) = told ≡ BadRead chunk page
IsToldAs (Err NoMemory) (Err e) = Unit {0}
IsToldAs _ _ = ⊥

-- the same of a turn to which memory is never refused
abbrev pub surely : Reply → Result Reply ℕ
surely told = Ok told

abbrev pub IsToldSurely : Result Reply StorageFault → Reply → Type 0
IsToldSurely answered told = IsToldAs answered (surely told)

-- where a failed call is told, the chunk's count of faults rose
abbrev pub HasReplyCause : (ℕ → ℕ) → (ℕ → ℕ) → Reply → Type 0
HasReplyCause before now (DiskFault chunk) = HasFailed chunk before now
HasReplyCause before now _ = Unit {0}

-- ---- actors

-- sessions are numbered from 1 to 16
abbrev pub IsOfSession : Actor → Type 0
IsOfSession (Session k) = IsSession k
IsOfSession _ = ⊥
