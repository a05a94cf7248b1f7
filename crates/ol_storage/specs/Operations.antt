-- Operations of a storage in a list, and what a stop within them leaves.
use Rattle.std.specs.Prelude.{List, None, Option, Some, [], false, length, slice_get, true, ℕ, ◌+◌, ◌<◌, ◌∷◌, ◌^◌, ◌≡◌, ◌≤◌, ◌⊎◌}
use Rattle.ol_values.specs.Config.{has_place}
use Rattle.ol_values.specs.Spelling.{KeepsRules}
use Rattle.ol_loglog.specs.RingValue.{HasRoom}
use Rattle.ol_store.specs.Stores.{is_touched}
use Rattle.ol_values.specs.declared.record.Record.{Record}
use Rattle.ol_values.specs.declared.record.Record.TheVariants.{Begin, Change as ChangeRecord, Commit, Rolled, Undo}
use Rattle.ol_values.specs.declared.record.Rid.{Rid}
use Rattle.ol_values.specs.declared.row.Row.{Row}
use Rattle.ol_rules.specs.Start.{low_behind, upto}
use Rattle.ol_ports.specs.Disk.{Bytes}
use Rattle.ol_reserve.specs.declared.anchor.Anchor.{Anchor}
use Rattle.ol_storage.specs.declared.operations.Operation.{Operation}
use Rattle.ol_storage.specs.declared.operations.Operation.TheVariants.{Append, Change, Checkpoint, Clean, Flush, MarkBacked, Pass, Redo, Switch}
use Rattle.ol_storage.specs.Behind.{Behind, TouchesNone, is_up, record_at, with_record, with_redone}
use Rattle.ol_storage.specs.Installation.{Installation, appended, checkpointed, cleaned, closed, config_of, flushed, flushed_of, last_of, marked, next_to_back, with_reached, with_store}
use Rattle.ol_storage.specs.Standing.{StandsBetween, StandsFrom}

-- the place that a record moves, and what it leaves there
abbrev pub moved_by : Record → Option (Rid × Option Row)
moved_by (ChangeRecord txn rid before after) = Some (rid, after)
moved_by (Undo txn rid value) = Some (rid, value)
moved_by _ = None

-- ---- when an operation can be carried out

-- no call has failed, there is room for the page of the buffered records, and numbers may still rise
pub record MayGoOn (v : Installation) : Type 0 where
  pub going : v.stopped ≡ false
  pub room : HasRoom v.ring.config v.ring.state
  pub uniq : v.ring.state.files.uniq < 2 ^ 62
  pub next : v.ring.state.next < 2 ^ 62
  pub serial : v.anchor.serial < 2 ^ 62
  pub generation : v.anchor.generation < 2 ^ 62

-- the record moves a place of a space that is up, and its page has an entry of the physical log or may have one
pub record MayMove (v : Installation) (r : Record) : Type 0 where
  pub rid : Rid
  pub row : Option Row
  pub moved : moved_by r ≡ Some (rid, row)
  pub place : has_place (config_of v) rid ≡ true
  pub up : is_up v.anchor rid.space ≡ true
  pub spare : (is_touched v.store.log rid.space rid.page ≡ true) ⊎ (length v.store.log.places < v.store.log.area.count)

-- the pages have all records
abbrev pub IsAtEnd : Installation → Type 0
IsAtEnd v = v.reached + 1 ≡ v.ring.state.next

-- the log has a record that the pages do not have
abbrev pub IsNotAtEnd : Installation → Type 0
IsNotAtEnd v = v.reached + 1 < v.ring.state.next

-- what an operation asks for
abbrev pub CanCarryOut : Operation → Installation → Type 0
CanCarryOut (Append r) v = MayGoOn v × (KeepsRules r × IsAtEnd v)
CanCarryOut (Change r) v = MayGoOn v × (KeepsRules r × (IsAtEnd v × MayMove v r))
CanCarryOut (Redo r) v = MayGoOn v × (IsNotAtEnd v × MayMove v r)
CanCarryOut Pass v = MayGoOn v × IsNotAtEnd v
CanCarryOut (Checkpoint need archive) v = MayGoOn v × ((v.anchor.need ≤ need) × ((need ≤ v.reached + 1) × (archive ≤ 2 ^ 62)))
CanCarryOut _ v = MayGoOn v

-- ---- what it does

-- the installation behind an operation
abbrev pub IsStep : Operation → Installation → Installation → Type 0
IsStep (Append r) v w = w ≡ appended v r w.ring.gates
IsStep (Change r) v w = w ≡ with_store (appended v r w.ring.gates) w.store
IsStep (Redo r) v w = w ≡ with_reached (with_store v w.store) (v.reached + 1)
IsStep Pass v w = w ≡ with_reached v (v.reached + 1)
IsStep Flush v w = w ≡ flushed v w.ring.gates
IsStep Clean v w = w ≡ cleaned v w.ring.gates (slice_get v.store.pool.dirty 0)
IsStep (Checkpoint need archive) v w = w ≡ checkpointed v need archive w.ring.gates
IsStep Switch v w = w ≡ closed v w.ring.gates
IsStep MarkBacked v w = w ≡ marked v (next_to_back v)

-- the records and pages behind it
abbrev pub behind_after : Operation → Behind → Behind
behind_after (Append r) g = with_record r g
behind_after (Change r) g = with_record r g
behind_after (Redo r) g = with_redone g
behind_after Pass g = with_redone g
behind_after _ g = g

-- the same behind a list of them
abbrev pub behind_all : List Operation → Behind → Behind
behind_all [] g = g
behind_all (o ∷ rest) g = behind_all rest (behind_after o g)

-- the anchor that it ends with
abbrev pub anchor_after : Operation → Installation → Anchor
anchor_after (Checkpoint need archive) v = (checkpointed v need archive []).anchor
anchor_after MarkBacked v = (marked v (next_to_back v)).anchor
anchor_after _ v = v.anchor

-- what it is given is what the records say: a record that is appended or passed over changes no page of a space that is up, one that is redone is the next that the log has, and a checkpoint has its need
abbrev pub IsRight : Operation → Installation → Behind → Type 0
IsRight (Append r) v g = TouchesNone (config_of v) v.anchor r
IsRight (Redo r) v g = record_at g (v.reached + 1) ≡ r
IsRight Pass v g = TouchesNone (config_of v) v.anchor (record_at g (v.reached + 1))
IsRight (Checkpoint need archive) v g = need ≡ low_behind g.start (upto g.start g.records g.reached)
IsRight _ v g = Unit {0}

-- the same of each of a list
abbrev pub AreRight : List Operation → Installation → Behind → Type 0
AreRight [] v g = Unit {0}
AreRight (o ∷ rest) v g = IsRight o v g × ((w : Installation) → IsStep o v w → AreRight rest w (behind_after o g))

-- what a stop within an operation leaves stands for the records that were flushed as it began, perhaps for more, by the anchor that it began with or the one that it ends with
abbrev pub StandsWithin : Operation → Installation → Behind → Bytes → Type 0
StandsWithin o v g d = StandsBetween (config_of v) g v.anchor (anchor_after o v) (flushed_of v) (last_of v) d

-- what a stop within a list of operations leaves stands so for the one that is under way
abbrev pub StandsWithinOne : List Operation → Installation → Behind → Bytes → Type 0
StandsWithinOne [] v g d = StandsFrom (config_of v) g v.anchor (flushed_of v) (flushed_of v) d
StandsWithinOne (o ∷ rest) v g d = StandsWithin o v g d ⊎ ((w : Installation) × IsStep o v w × StandsWithinOne rest w (behind_after o g) d)
