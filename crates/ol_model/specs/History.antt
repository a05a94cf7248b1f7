-- Histories: states along them, the lines that they carry out, and what they append.
use Rattle.std.specs.List.{list_all, range_with_len}
use Rattle.std.specs.Prelude.{Bool, List, None, Option, Some, [], drop, false, filter, fold, if◌then◌else◌, length, max, nat_le, nat_lt, not, option_map, position, slice_get, suc, sum_by, true, unwrap_or, zero, ℕ, ◌++◌, ◌+◌, ◌-◌, ◌<◌, ◌∷◌, ◌≡◌, ◌⊎◌}
use Rattle.ol_values.specs.declared.event.Event.{Event}
use Rattle.ol_values.specs.declared.event.Reply.{Reply}
use Rattle.ol_values.specs.declared.event.Reply.TheVariants.{Archived, At, Backed, BadRead, Changed, Checkpointed, Cleaned, Committed, DiskFault, NothingDirty, Picked, Started, Switched, Undone, Up}
use Rattle.ol_values.specs.declared.history.Actor.{Actor}
use Rattle.ol_values.specs.declared.history.Entry.{Entry}
use Rattle.ol_values.specs.declared.line.Line.{Line}
use Rattle.ol_values.specs.declared.record.Record.{Record}
use Rattle.ol_values.specs.declared.record.Rid.{Rid}
use Rattle.ol_values.specs.Config.{data_pages}
use Rattle.ol_model.specs.Lines.{First, Outside, Stage, all_well, event_at, stage_after, stage_before}
use Rattle.ol_rules.specs.Lasting.{is_up}
use Rattle.ol_model.specs.Machine.{Machine, config_of, last_of, stamp_in}
use Rattle.ol_rules.specs.Ring.{last_position, use_numbered}
use Rattle.ol_rules.specs.Shelf.{Shelf}
use Rattle.ol_model.specs.Steps.{is_page_in, needs_checkpoint}
use Rattle.ol_values.specs.Text.{same_actor}
use Rattle.ol_rules.specs.Scripts.{lines_of}
use Rattle.ol_model.specs.Turns.{Given, given_by, number_of, quiet, turn}

-- an entry, with the state before it
pub record Turned : Type 0 where
  pub machine : Machine
  pub entry : Entry

-- the state after an entry, and after a history
abbrev pub state_after : Shelf → Machine → Entry → Machine
state_after shelf m e = (turn shelf (given_by e.reply) m e.number e.actor e.event).1

abbrev pub state_at : Shelf → Machine → List Entry → Machine
state_at shelf m h = fold (state_after shelf) m h

abbrev pub turned : Shelf → Machine → List Entry → List Turned
turned shelf m [] = []
turned shelf m (e ∷ h) = record { machine = m; entry = e } ∷ turned shelf (state_after shelf m e) h

-- each entry has its number, and its reply is what the machine gives
abbrev pub Steps : Shelf → Machine → ℕ → List Entry → Type 0
Steps shelf m n [] = Unit {0}
Steps shelf m n (e ∷ h) =
    (e.number ≡ n) × (e.reply ≡ (turn shelf (given_by e.reply) m n e.actor e.event).0) × Steps shelf (state_after shelf m e) (n + 1) h

-- ---- the list of dirty pages, beside the state

-- a page that becomes dirty stands last, where it is not there yet
abbrev pub add_page : ℕ × ℕ → List (ℕ × ℕ) → List (ℕ × ℕ)
add_page p dirty = if is_page_in p dirty then dirty else dirty ++ p ∷ []

-- a page that is changed becomes dirty last; a checkpoint before it leaves none
abbrev pub dirtied : Machine → Rid → List (ℕ × ℕ) → List (ℕ × ℕ)
dirtied m rid dirty = let p : ℕ × ℕ = (rid.space, rid.page) in add_page p (if needs_checkpoint m p then [] else dirty)

-- the list after a reply
abbrev pub dirty_after : Machine → Reply → List (ℕ × ℕ) → List (ℕ × ℕ)
dirty_after m (At rid) dirty = dirtied m rid dirty
dirty_after m (Changed rid) dirty = dirtied m rid dirty
dirty_after m (Undone rid) dirty = dirtied m rid dirty
dirty_after m (Cleaned space page) dirty = drop 1 dirty
dirty_after m (Checkpointed position) dirty = []
dirty_after m (Started number cut pages) dirty = []
dirty_after m _ dirty = dirty

-- what a reply says of the list
abbrev pub ShowsDirty : List (ℕ × ℕ) → Reply → Type 0
ShowsDirty dirty (Cleaned space page) = slice_get dirty 0 ≡ Some (space, page)
ShowsDirty dirty NothingDirty = dirty ≡ []
ShowsDirty dirty _ = Unit {0}

-- the greatest position that stands on written log pages
abbrev pub flushed_to : Machine → ℕ
flushed_to m = last_of m - length m.log.ring.buffer

abbrev pub all_pages : Machine → ℕ
all_pages m = sum_by (λ s. if is_up m.lasting s then data_pages (config_of m) s else 0) (range_with_len 0 (length (config_of m).spaces))

-- pages that a turn may have written to their places: none where all fit into the frames, else such as the log is flushed to
abbrev pub MayWrite : Machine → List (ℕ × ℕ) → Type 0
MayWrite m out =
    (out ≡ []) ⊎ ((64 < all_pages m) × (list_all (λ (p : ℕ × ℕ). nat_le (stamp_in m p.0 p.1) (flushed_to m)) out ≡ true))

abbrev pub without_pages : List (ℕ × ℕ) → List (ℕ × ℕ) → List (ℕ × ℕ)
without_pages out dirty = filter (λ p. not (is_page_in p out)) dirty

-- the list of dirty pages goes with the entries
abbrev pub Dirties : Shelf → Machine → List (ℕ × ℕ) → List Entry → Type 0
Dirties shelf m dirty [] = Unit {0}
Dirties shelf m dirty (e ∷ h) =
    ShowsDirty dirty e.reply
    × ((out : List (ℕ × ℕ)) × MayWrite m out × Dirties shelf (state_after shelf m e) (dirty_after m e.reply (without_pages out dirty)) h)

-- ---- lines

abbrev pub first_or : Option Stage → Stage
first_or None = First
first_or (Some stage) = stage

abbrev pub lines_after : Option Stage → List Line → List Line
lines_after None lines = drop 1 lines
lines_after (Some stage) lines = lines

-- these entries carry out these lines, of which the first has come to this stage; where the work may stop, a first part of them
abbrev pub Carries : Shelf → Bool → List Line → Stage → List Turned → Type 0
Carries shelf may_stop [] stage [] = Unit {0}
Carries shelf may_stop [] stage (t ∷ h) = ⊥
Carries shelf may_stop (line ∷ lines) stage [] = may_stop ≡ true
Carries shelf may_stop (line ∷ lines) stage (t ∷ h) =
    (t.entry.actor ≡ line.actor) × (t.entry.line ≡ line.number)
    × ((o : Outside)
    × (t.entry.event ≡ event_at shelf t.machine (number_of line.actor) line.form (stage_before t.machine (number_of line.actor) line.form stage o))
    × (let next = stage_after shelf t.machine line.form (stage_before t.machine (number_of line.actor) line.form stage o) t.entry.reply o in
    Carries shelf may_stop (lines_after next (line ∷ lines)) (first_or next) h))

abbrev pub turns_of : Actor → List Turned → List Turned
turns_of actor h = filter (λ (t : Turned). same_actor t.entry.actor actor) h

-- each entry is a step, and each actor's entries carry out its lines in order; after want of memory a part of them
pub record Legal (shelf : Shelf) (m : Machine) (starved : Bool) (lines : List Line) (h : List Entry) : Type 0 where
  pub steps : Steps shelf m 1 h
  pub dirty : Dirties shelf m [] h
  pub carries : (actor : Actor) → Carries shelf starved (lines_of actor lines) First (turns_of actor (turned shelf m h))

-- ---- a play

-- where a play stands
pub record Position : Type 0 where
  pub machine : Machine
  pub dirty : List (ℕ × ℕ)
  pub number : ℕ
  pub lines : List Line
  pub stage : Stage

abbrev pub start_of : Machine → List Line → Position
start_of m lines = record { machine = m; dirty = []; number = 1; lines = lines; stage = First }

abbrev pub given_in : Position → Given
given_in p = record quiet { dirty = slice_get p.dirty 0 }

-- the event of the first line
abbrev pub next_event : Shelf → Position → Line → Event
next_event shelf p line = event_at shelf p.machine (number_of line.actor) line.form p.stage

-- the entry that a line makes, with all well
abbrev pub next_entry : Shelf → Position → Line → Entry
next_entry shelf p line = record {
  number = p.number;
  actor = line.actor;
  line = line.number;
  event = next_event shelf p line;
  reply = (turn shelf (given_in p) p.machine p.number line.actor (next_event shelf p line)).0;
  start = 0;
  calls = 0;
}

abbrev pub next_position : Shelf → Position → Line → Entry → Position
next_position shelf p line e =
    let next = stage_after shelf p.machine line.form p.stage e.reply all_well in record {
      machine = state_after shelf p.machine e;
      dirty = dirty_after p.machine e.reply p.dirty;
      number = p.number + 1;
      lines = lines_after next p.lines;
      stage = first_or next;
    }

-- but for the moments of the disk, which a play does not know
abbrev pub same_entry : Entry → Entry → Type 0
same_entry e f = record e { start = 0; calls = 0 } ≡ f

abbrev pub PlaysFrom : Shelf → Position → List Line → List Entry → Type 0
PlaysFrom shelf p [] [] = Unit {0}
PlaysFrom shelf p [] (e ∷ h) = ⊥
PlaysFrom shelf p (line ∷ lines) [] = ⊥
PlaysFrom shelf p (line ∷ lines) (e ∷ h) = same_entry e (next_entry shelf p line) × PlaysFrom shelf (next_position shelf p line e) (next_position shelf p line e).lines h

-- the lines are taken in file order, and no device fails
abbrev pub Plays : Shelf → Machine → List Line → List Entry → Type 0
Plays shelf m lines h = PlaysFrom shelf (start_of m lines) lines h

-- the history of a play, up to so many entries
abbrev pub entries_from : ℕ → Shelf → Position → List Line → List Entry
entries_from zero shelf p lines = []
entries_from (suc n) shelf p [] = []
entries_from (suc n) shelf p (line ∷ lines) =
    let e = next_entry shelf p line in
    let q = next_position shelf p line e in
    e ∷ entries_from n shelf q q.lines

unfoldable pub played : ℕ → Shelf → Machine → List Line → List Entry
played n shelf m lines = entries_from n shelf (start_of m lines) lines

-- ---- what a history leaves

-- the records that its turns append
abbrev pub journal_of : Shelf → Machine → List Entry → List Record
journal_of shelf m h = drop (length m.work.records) (state_at shelf m h).work.records

abbrev pub is_faulted : Reply → Bool
is_faulted (DiskFault chunk) = true
is_faulted (BadRead chunk page) = true
is_faulted _ = false

-- the history up to a fault, with the reply that the machine gives without it
abbrev pub mended_from : Shelf → Machine → List (ℕ × ℕ) → List Entry → List Entry
mended_from shelf m dirty [] = []
mended_from shelf m dirty (e ∷ h) =
    if is_faulted e.reply then
    record e { reply = (turn shelf (record quiet { dirty = slice_get dirty 0 }) m e.number e.actor e.event).0 } ∷ []
    else e ∷ mended_from shelf (state_after shelf m e) (dirty_after m e.reply dirty) h

abbrev pub mended : Shelf → Machine → List Entry → List Entry
mended shelf m h = mended_from shelf m [] h

-- the last position of a use
abbrev pub last_in : Machine → ℕ → ℕ
last_in m uniq = unwrap_or (option_map last_position (use_numbered m.log.ring uniq)) 0

-- what an entry settles: the journal up to a commit, a checkpoint or a switch, and the records of a picked use
abbrev pub settled_by : Machine → Machine → Reply → ℕ
settled_by old new (Committed position) = last_of new
settled_by old new (Checkpointed position) = last_of new
settled_by old new (Started number cut pages) = last_of new
settled_by old new (Switched uniq) = last_of new
settled_by old new (Picked uniq pages) = last_in old uniq
settled_by old new _ = 0

-- the greatest position that is settled before moment m of the disk
abbrev pub settled : Shelf → Machine → List Entry → ℕ → ℕ
settled shelf m h moment =
    fold (λ most (t : Turned). if nat_lt t.entry.calls moment then max most (settled_by t.machine (state_after shelf t.machine t.entry) t.entry.reply) else most) 0 (turned shelf m h)

-- whether a reply tells that the anchor was written
abbrev pub is_lasting : Reply → Bool
is_lasting (Started number cut pages) = true
is_lasting (Archived number cut pages) = true
is_lasting (Backed uniq) = true
is_lasting (Up space) = true
is_lasting (Checkpointed position) = true
is_lasting _ = false
