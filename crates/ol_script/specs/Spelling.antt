-- The one spelling of a line, and which lines there are.
use Rattle.std.specs.List.{AllPairs, join_with_byte, list_all}
use Rattle.std.specs.Prelude.{IsTrue, List, [], codes, decimal, flat_map, length, ℕ, ◌++◌, ◌+◌, ◌∷◌, ◌≡◌, ◌≢◌, ◌≤◌}
use Rattle.ol_values.specs.declared.event.Target.{Target}
use Rattle.ol_values.specs.declared.event.Target.TheVariants.{At, Reg}
use Rattle.ol_values.specs.declared.history.Actor.{Actor}
use Rattle.ol_values.specs.declared.history.Actor.TheVariants.{Archiver, Backer, Checkpointer, Flusher, Session, Warmer}
use Rattle.ol_values.specs.declared.line.Form.{Form}
use Rattle.ol_values.specs.declared.line.Form.TheVariants.{Archive, Backup, Begin, Cancel, Checkpoint, Clean, Commit, Delete, End, Insert, List as ListForm, Read, Restore, Rollback, Start, Switch, Turn, Update}
use Rattle.ol_values.specs.declared.line.Line.{Line}
use Rattle.ol_values.specs.declared.row.Row.{Row}
use Rattle.ol_values.specs.Config.{is_name}
use Rattle.ol_values.specs.Text.{actor_text, is_plain}

abbrev pub register_text : ℕ → List ℕ
register_text reg = 114 ∷ decimal reg

-- a register, or a place as SPACE:PAGE:SLOT
abbrev pub target_text : Target → List ℕ
target_text (Reg reg) = register_text reg
target_text (At space page slot) = join_with_byte 58 (space ∷ decimal page ∷ decimal slot ∷ [])

-- the verb of a form
abbrev pub verb_text : Form → List ℕ
verb_text Begin = codes "begin"
verb_text (Insert reg space row) = codes "insert"
verb_text (Update target row) = codes "update"
verb_text (Delete target) = codes "delete"
verb_text (Read target) = codes "read"
verb_text (ListForm space page) = codes "list"
verb_text Commit = codes "commit"
verb_text Rollback = codes "rollback"
verb_text (Start level spaces) = codes "start"
verb_text (Turn count) = codes "turn"
verb_text End = codes "end"
verb_text Cancel = codes "cancel"
verb_text (Archive level spaces) = codes "archive"
verb_text (Backup count) = codes "backup"
verb_text Switch = codes "switch"
verb_text (Clean count) = codes "clean"
verb_text Checkpoint = codes "checkpoint"
verb_text (Restore space) = codes "restore"

-- the words behind the verb
abbrev pub words_text : Form → List (List ℕ)
words_text (Insert reg space row) = register_text reg ∷ space ∷ (61 ∷ row) ∷ []
words_text (Update target row) = target_text target ∷ (61 ∷ row) ∷ []
words_text (Delete target) = target_text target ∷ []
words_text (Read target) = target_text target ∷ []
words_text (ListForm space page) = space ∷ decimal page ∷ []
words_text (Start level spaces) = decimal level ∷ spaces
words_text (Turn count) = decimal count ∷ []
words_text (Archive level spaces) = decimal level ∷ spaces
words_text (Backup count) = decimal count ∷ []
words_text (Clean count) = decimal count ∷ []
words_text (Restore space) = space ∷ []
words_text _ = []

-- the one spelling of a line: its words, with single blanks between them
abbrev pub line_text : Actor → Form → List ℕ
line_text actor form = join_with_byte 32 (actor_text actor ∷ verb_text form ∷ words_text form)

abbrev pub IsName : List ℕ → Type 0
IsName name = IsTrue (is_name name)

-- at most 63 printed bytes, none of them a blank or the backslash
abbrev pub IsPlainRow : Row → Type 0
IsPlainRow row = (length row ≤ 63) × IsTrue (list_all is_plain row)

-- the register is one of ten; the page and the slot have at most five digits
abbrev pub IsScriptTarget : Target → Type 0
IsScriptTarget (Reg reg) = reg ≤ 9
IsScriptTarget (At space page slot) = IsName space × (page ≤ 99999) × (slot ≤ 99999)

-- 1 to 16 names, no two of them the same
pub record AreNames (names : List (List ℕ)) : Type 0 where
  pub some : 1 ≤ length names
  pub few : length names ≤ 16
  pub each : IsTrue (list_all is_name names)
  pub different : AllPairs (λ (a b : List ℕ). a ≢ b) names

-- an archive of level 0, 1 or 2
abbrev pub IsArchive : ℕ → List (List ℕ) → Type 0
IsArchive level spaces = (level ≤ 2) × AreNames spaces

-- a number of turns
abbrev pub IsCount : ℕ → Type 0
IsCount n = (1 ≤ n) × (n ≤ 65535)

abbrev pub IsSessionForm : Form → Type 0
IsSessionForm Begin = Unit {0}
IsSessionForm (Insert reg space row) = (reg ≤ 9) × IsName space × IsPlainRow row
IsSessionForm (Update target row) = IsScriptTarget target × IsPlainRow row
IsSessionForm (Delete target) = IsScriptTarget target
IsSessionForm (Read target) = IsScriptTarget target
IsSessionForm (ListForm space page) = IsName space × (page ≤ 99999)
IsSessionForm Commit = Unit {0}
IsSessionForm Rollback = Unit {0}
IsSessionForm _ = ⊥

abbrev pub IsArchiverForm : Form → Type 0
IsArchiverForm (Start level spaces) = IsArchive level spaces
IsArchiverForm (Turn count) = IsCount count
IsArchiverForm End = Unit {0}
IsArchiverForm Cancel = Unit {0}
IsArchiverForm (Archive level spaces) = IsArchive level spaces
IsArchiverForm _ = ⊥

abbrev pub IsBackerForm : Form → Type 0
IsBackerForm (Backup count) = IsCount count
IsBackerForm Switch = Unit {0}
IsBackerForm _ = ⊥

abbrev pub IsFlusherForm : Form → Type 0
IsFlusherForm (Clean count) = IsCount count
IsFlusherForm _ = ⊥

abbrev pub IsCheckpointerForm : Form → Type 0
IsCheckpointerForm Checkpoint = Unit {0}
IsCheckpointerForm _ = ⊥

abbrev pub IsWarmerForm : Form → Type 0
IsWarmerForm (Restore space) = IsName space
IsWarmerForm _ = ⊥

-- sessions 1 to 16, archivers 1 to 4, and four actors that there is one of
abbrev pub IsActor : Actor → Type 0
IsActor (Session k) = (1 ≤ k) × (k ≤ 16)
IsActor (Archiver k) = (1 ≤ k) × (k ≤ 4)
IsActor _ = Unit {0}

-- which forms an actor has
abbrev pub IsFormOf : Actor → Form → Type 0
IsFormOf (Session k) form = IsSessionForm form
IsFormOf (Archiver k) form = IsArchiverForm form
IsFormOf Backer form = IsBackerForm form
IsFormOf Flusher form = IsFlusherForm form
IsFormOf Checkpointer form = IsCheckpointerForm form
IsFormOf Warmer form = IsWarmerForm form

-- an actor, and a form that it has
abbrev pub IsLineForm : Actor → Form → Type 0
IsLineForm actor form = IsActor actor × IsFormOf actor form

-- a line that an actor has
abbrev pub IsLine : Line → Type 0
IsLine line = IsLineForm line.actor line.form

-- the one spelling of a script: its lines, each with its line feed
abbrev pub script_text : List Line → List ℕ
script_text lines = flat_map (λ (l : Line). line_text l.actor l.form ++ (10 ∷ [])) lines

-- lines that a script may have from number k on: of 255 bytes at most, with the numbers from k to at most 65,535
abbrev pub AreLinesFrom : ℕ → List Line → Type 0
AreLinesFrom k [] = Unit {0}
AreLinesFrom k (line ∷ lines) = IsLine line × (length (line_text line.actor line.form) ≤ 255) × (line.number ≡ k) × (k ≤ 65535) × AreLinesFrom (k + 1) lines
