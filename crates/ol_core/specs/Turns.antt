-- The table of turns. What no state holds, the devices give.
use Rattle.std.specs.Prelude.{ℕ}
use Rattle.ol_values.specs.declared.event.Event.{Event}
use Rattle.ol_values.specs.declared.event.Event.TheVariants.{ArchiveCancel, ArchiveEnd, ArchiveStart, ArchiveTurn, Begin as BeginTurn, Commit as CommitTurn, Insert as InsertTurn}
use Rattle.ol_values.specs.declared.event.Reply.{Reply}
use Rattle.ol_values.specs.declared.event.Reply.TheVariants.{NoTxn, TapeFault}
use Rattle.ol_values.specs.declared.history.Actor.{Actor}
use Rattle.ol_values.specs.declared.history.Actor.TheVariants.{Archiver, Session}
use Rattle.ol_core.specs.Archivers.{cancel_turn, end_turn, start_turn, take_turn}
use Rattle.ol_core.specs.Machine.{Machine}
use Rattle.ol_core.specs.Sessions.{begin_turn, commit_turn, insert_turn}

-- what the devices give in a turn: the count of faults that the actor's drive shows
pub record Given : Type 0 where
  pub count : ℕ

abbrev pub quiet : Given
quiet = record { count = 0 }

-- what the devices gave, as a reply tells it
abbrev pub given_by : Reply → Given
given_by (TapeFault drive count) = record { count = count }
given_by _ = quiet

-- the number of an actor among those of its kind, and of its drive
abbrev pub number_of : Actor → ℕ
number_of (Session k) = k
number_of (Archiver k) = k
number_of _ = 0

-- the reply to an event of actor number k, and the state after it
abbrev pub turn_of : Given → Machine → ℕ → Event → Reply × Machine
turn_of d m k BeginTurn = begin_turn m k
turn_of d m k (InsertTurn reg space row) = insert_turn m k reg space row
turn_of d m k CommitTurn = commit_turn m k
turn_of d m k (ArchiveStart level spaces) = start_turn m k level spaces
turn_of d m k ArchiveTurn = take_turn m k
turn_of d m k ArchiveEnd = end_turn m k
turn_of d m k (ArchiveCancel why) = cancel_turn d.count m k why
-- no line gives any other event
turn_of d m k _ = (NoTxn, m)

abbrev pub turn : Given → Machine → Actor → Event → Reply × Machine
turn d m actor event = turn_of d m (number_of actor) event
