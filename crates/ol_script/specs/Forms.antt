-- The lines that each actor has, by the words behind the actor.
use Rattle.std.specs.Prelude.{List, None, Option, Some, [], bytes_eq, codes, if◌then◌else◌, option_map, ℕ, ◌∷◌}
use Rattle.ol_values.specs.declared.history.Actor.{Actor}
use Rattle.ol_values.specs.declared.history.Actor.TheVariants.{Archiver, Backer, Checkpointer, Flusher, Session, Warmer}
use Rattle.ol_values.specs.declared.line.Form.{Form}
use Rattle.ol_values.specs.declared.line.Form.TheVariants.{Archive, Backup, Begin, Cancel, Checkpoint, Clean, Commit, Delete, End, Insert, List as ListForm, Read, Restore, Rollback, Start, Switch, Turn, Update}
use Rattle.ol_script.specs.Pieces.{first_piece, one_of, three_of, two_of}
use Rattle.ol_bytes.specs.Reading.{◌>>=◌}
use Rattle.ol_script.specs.Words.{name_of, names_in_words, number_between, place_number, register_of, row_of, target_in_text}

-- a form of one word
abbrev pub bare : Form → List (List ℕ) → Option Form
bare form [] = Some form
bare form (word ∷ words) = None

unfoldable pub insert_of : List (List ℕ) → Option Form
insert_of words = do
  w ← three_of words
  reg ← register_of w.0
  space ← name_of w.1
  row ← row_of w.2
  Some (Insert reg space row)

unfoldable pub update_of : List (List ℕ) → Option Form
update_of words = do
  w ← two_of words
  target ← target_in_text w.0
  row ← row_of w.1
  Some (Update target row)

unfoldable pub delete_of : List (List ℕ) → Option Form
delete_of words = do
  word ← one_of words
  target ← target_in_text word
  Some (Delete target)

unfoldable pub read_of : List (List ℕ) → Option Form
read_of words = do
  word ← one_of words
  target ← target_in_text word
  Some (Read target)

unfoldable pub list_of : List (List ℕ) → Option Form
list_of words = do
  w ← two_of words
  space ← name_of w.0
  page ← place_number w.1
  Some (ListForm space page)

-- what a session's line asks for: a verb, and its arguments
unfoldable pub session_form : List ℕ → List (List ℕ) → Option Form
session_form verb words =
    if bytes_eq verb (codes "begin") then bare Begin words
    else (if bytes_eq verb (codes "insert") then insert_of words
    else (if bytes_eq verb (codes "update") then update_of words
    else (if bytes_eq verb (codes "delete") then delete_of words
    else (if bytes_eq verb (codes "read") then read_of words
    else (if bytes_eq verb (codes "list") then list_of words
    else (if bytes_eq verb (codes "commit") then bare Commit words
    else (if bytes_eq verb (codes "rollback") then bare Rollback words else None)))))))

-- the level of an archive and its spaces
unfoldable pub level_and_spaces : List (List ℕ) → Option (ℕ × List (List ℕ))
level_and_spaces words = do
  w ← first_piece words
  level ← number_between 0 2 w.0
  spaces ← names_in_words w.1
  Some (level, spaces)

-- a number of turns
unfoldable pub count_of : List (List ℕ) → Option ℕ
count_of words = do
  word ← one_of words
  number_between 1 65535 word

unfoldable pub archiver_form : List ℕ → List (List ℕ) → Option Form
archiver_form verb words =
    if bytes_eq verb (codes "start") then option_map (λ (p : ℕ × List (List ℕ)). Start p.0 p.1) (level_and_spaces words)
    else (if bytes_eq verb (codes "turn") then option_map (λ n. Turn n) (count_of words)
    else (if bytes_eq verb (codes "end") then bare End words
    else (if bytes_eq verb (codes "cancel") then bare Cancel words
    else (if bytes_eq verb (codes "archive") then option_map (λ (p : ℕ × List (List ℕ)). Archive p.0 p.1) (level_and_spaces words) else None))))

unfoldable pub backer_form : List ℕ → List (List ℕ) → Option Form
backer_form verb words =
    if bytes_eq verb (codes "backup") then option_map (λ n. Backup n) (count_of words)
    else (if bytes_eq verb (codes "switch") then bare Switch words else None)

unfoldable pub flusher_form : List ℕ → List (List ℕ) → Option Form
flusher_form verb words =
    if bytes_eq verb (codes "clean") then option_map (λ n. Clean n) (count_of words) else None

unfoldable pub checkpointer_form : List ℕ → List (List ℕ) → Option Form
checkpointer_form verb words = if bytes_eq verb (codes "checkpoint") then bare Checkpoint words else None

unfoldable pub restore_of : List (List ℕ) → Option Form
restore_of words = do
  word ← one_of words
  space ← name_of word
  Some (Restore space)

unfoldable pub warmer_form : List ℕ → List (List ℕ) → Option Form
warmer_form verb words = if bytes_eq verb (codes "restore") then restore_of words else None

-- what a line asks for, by its actor, its verb and the words behind it
unfoldable pub form_of : Actor → List ℕ → List (List ℕ) → Option Form
form_of (Session k) verb words = session_form verb words
form_of (Archiver k) verb words = archiver_form verb words
form_of Backer verb words = backer_form verb words
form_of Flusher verb words = flusher_form verb words
form_of Checkpointer verb words = checkpointer_form verb words
form_of Warmer verb words = warmer_form verb words
