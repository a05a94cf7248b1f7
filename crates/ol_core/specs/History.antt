-- Histories: the states along them, the lines that they carry out, and the records that they append.
use Rattle.std.specs.Prelude.{Bool, List, None, Option, Some, [], drop, filter, fold, map, true, ℕ, ◌+◌, ◌∷◌, ◌≡◌}
use Rattle.ol_values.specs.declared.history.Actor.{Actor}
use Rattle.ol_values.specs.declared.history.Entry.{Entry}
use Rattle.ol_values.specs.declared.line.Line.{Line}
use Rattle.ol_values.specs.declared.record.Record.{Record}
use Rattle.ol_values.specs.Text.{same_actor}
use Rattle.ol_rules.specs.Scripts.{lines_of}
use Rattle.ol_core.specs.Lines.{First, Outside, Stage, all_well, event_at, stage_after}
use Rattle.ol_core.specs.Machine.{Machine, journal_in, last_of}
use Rattle.ol_core.specs.Turns.{given_by, turn}

-- ---- states

abbrev pub state_after : Machine → Entry → Machine
state_after m e = (turn (given_by e.reply) m e.actor e.event).1

abbrev pub state_at : Machine → List Entry → Machine
state_at m h = fold state_after m h

-- an entry, with the state before it
pub record Turned : Type 0 where
  pub machine : Machine
  pub entry : Entry

abbrev pub turned : Machine → List Entry → List Turned
turned m [] = []
turned m (e ∷ h) = record { machine = m; entry = e } ∷ turned (state_after m e) h

-- each entry has its number, and its reply is what the machine gives
abbrev pub Steps : Machine → ℕ → List Entry → Type 0
Steps m n [] = Unit {0}
Steps m n (e ∷ h) =
    (e.number ≡ n) × (e.reply ≡ (turn (given_by e.reply) m e.actor e.event).0) × Steps (state_after m e) (n + 1) h

-- the records that the turns of a history append
abbrev pub journal_of : Machine → List Entry → List Record
journal_of m h = drop (last_of m) (journal_in (state_at m h))

-- ---- lines

abbrev pub first_or : Option Stage → Stage
first_or None = First
first_or (Some stage) = stage

-- the lines that are left as the first of them comes to a stage, or ends
abbrev pub lines_after : Option Stage → List Line → List Line
lines_after None lines = drop 1 lines
lines_after (Some stage) lines = lines

-- these entries carry out these lines in order, of which the first has come to this stage; where the work may stop, a first part of them
abbrev pub Carries : Bool → List Line → Stage → List Entry → Type 0
Carries may_stop [] stage [] = Unit {0}
Carries may_stop [] stage (e ∷ h) = ⊥
Carries may_stop (line ∷ lines) stage [] = may_stop ≡ true
Carries may_stop (line ∷ lines) stage (e ∷ h) =
    (e.actor ≡ line.actor) × (e.line ≡ line.number) × (Some e.event ≡ event_at line.form stage)
    × ((o : Outside)
    × (let next = stage_after line.form stage e.reply o in
    Carries may_stop (lines_after next (line ∷ lines)) (first_or next) h))

abbrev pub entries_of : Actor → List Entry → List Entry
entries_of actor h = filter (λ (e : Entry). same_actor e.actor actor) h

-- each entry is a step from the state before it, and each actor's entries carry out its lines in order; after want of memory a first part of them
pub record Legal (m : Machine) (starved : Bool) (lines : List Line) (h : List Entry) : Type 0 where
  pub steps : Steps m 1 h
  pub carries : (actor : Actor) → Carries starved (lines_of actor lines) First (entries_of actor h)

-- ---- lines taken in file order

-- where such a run stands: the machine, the number of the next entry, the lines that are left, and the stage of the first of them
pub record Position : Type 0 where
  pub machine : Machine
  pub number : ℕ
  pub lines : List Line
  pub stage : Stage

abbrev pub start_of : Machine → List Line → Position
start_of m lines = record { machine = m; number = 1; lines = lines; stage = First }

-- an entry, and what came from outside after it
pub record Happening : Type 0 where
  pub entry : Entry
  pub outside : Outside

-- the entry is the turn that the first line comes to
pub record IsTurnOf (p : Position) (line : Line) (e : Entry) : Type 0 where
  pub number : e.number ≡ p.number
  pub actor : e.actor ≡ line.actor
  pub line_is : e.line ≡ line.number
  pub event : Some e.event ≡ event_at line.form p.stage
  pub reply : e.reply ≡ (turn (given_by e.reply) p.machine e.actor e.event).0

abbrev pub IsNext : Position → List Line → Entry → Type 0
IsNext p [] e = ⊥
IsNext p (line ∷ lines) e = IsTurnOf p line e

abbrev pub position_at : Position → Option Stage → Entry → List Line → Position
position_at p next e lines = record {
  machine = state_after p.machine e;
  number = p.number + 1;
  lines = lines_after next lines;
  stage = first_or next;
}

abbrev pub position_after : Position → List Line → Happening → Position
position_after p [] h = p
position_after p (line ∷ lines) h =
    position_at p (stage_after line.form p.stage h.entry.reply h.outside) h.entry (line ∷ lines)

-- what happens leads from one position to another
abbrev pub Leads : Position → List Happening → Position → Type 0
Leads p [] q = p ≡ q
Leads p (h ∷ hs) q = IsNext p p.lines h.entry × Leads (position_after p p.lines h) hs q

-- the entry, with all well after it
abbrev pub well : Entry → Happening
well e = record { entry = e; outside = all_well }

-- the history of a play: the lines are taken in file order to the last one's end, and no device fails
abbrev pub Plays : Machine → List Line → List Entry → Type 0
Plays m lines h = (q : Position) × (q.lines ≡ []) × Leads (start_of m lines) (map well h) q
