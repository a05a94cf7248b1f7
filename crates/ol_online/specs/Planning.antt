-- Which lines of a script are built so far: those of session 1, and a last line of archiver 1.
use Rattle.std.specs.List.{list_all}
use Rattle.std.specs.Prelude.{Bool, Err, List, None, Ok, Option, Result, Some, [], drop, false, if◌then◌else◌, length, not, position, true, unwrap_or, ℕ, ◌&&◌, ◌==◌, ◌∷◌}
use Rattle.ol_values.specs.declared.history.Actor.{Actor}
use Rattle.ol_values.specs.declared.history.Actor.TheVariants.{Archiver, Session}
use Rattle.ol_values.specs.declared.line.Form.{Form}
use Rattle.ol_values.specs.declared.line.Form.TheVariants.{Archive, Begin, Commit, Insert}
use Rattle.ol_values.specs.declared.line.Line.{Line}
use Rattle.ol_values.specs.Config.{Config, is_name, space_named}

abbrev pub is_session_1 : Actor → Bool
is_session_1 (Session k) = k == 1
is_session_1 _ = false

abbrev pub is_archiver_1 : Actor → Bool
is_archiver_1 (Archiver k) = k == 1
is_archiver_1 _ = false

abbrev pub is_session_form : Form → Bool
is_session_form Begin = true
is_session_form (Insert reg space row) = true
is_session_form Commit = true
is_session_form _ = false

-- a begin, an insert or a commit of session 1
abbrev pub is_session_line : Line → Bool
is_session_line line = is_session_1 line.actor && is_session_form line.form

abbrev pub is_there : Option ℕ → Bool
is_there None = false
is_there (Some space) = true

-- the name of a space
abbrev pub is_space : Config → List ℕ → Bool
is_space c name = is_name name && is_there (space_named c name)

abbrev pub is_archive_form : Config → Form → Bool
is_archive_form c (Archive level names) = (level == 0) && list_all (is_space c) names
is_archive_form c _ = false

-- an archive of spaces at level 0, of archiver 1
abbrev pub is_archive_line : Config → Line → Bool
is_archive_line c line = is_archiver_1 line.actor && is_archive_form c line.form

-- how many lines of the session stand at the front
abbrev pub session_count : List Line → ℕ
session_count lines = unwrap_or (position (λ line. not (is_session_line line)) lines) (length lines)

abbrev pub planned_behind : Config → ℕ → List Line → Result ℕ ℕ
planned_behind c n [] = Ok n
planned_behind c n (line ∷ []) = if is_archive_line c line then Ok n else Err line.number
planned_behind c n (line ∷ next ∷ lines) = if is_archive_line c line then Err next.number else Err line.number

-- how many lines of the session stand in front of the archive line or the end, or the number of the first line that is not built
abbrev pub lines_planned : Config → List Line → Result ℕ ℕ
lines_planned c lines = planned_behind c (session_count lines) (drop (session_count lines) lines)
