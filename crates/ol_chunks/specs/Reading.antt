-- The configuration that a text gives, line by line.
use Rattle.std.specs.List.{list_any, slice_split}
use Rattle.std.specs.Prelude.{Bool, Err, List, None, Ok, Option, Result, Some, [], bytes_eq, codes, false, if◌then◌else◌, length, nat_le, nat_lt, not, slice_index, sum, take, ℕ, ◌&&◌, ◌++◌, ◌+◌, ◌==◌, ◌∷◌, ◌||◌}
use Rattle.ol_values.specs.Config.{Config, SpaceConfig, area_pages, is_name, space_at, space_named}
use Rattle.ol_chunks.specs.Limits.{chunk_count, first_chunk, reserved_pages}
use Rattle.ol_words.specs.Words.{number_up_to, numbers_up_to}
use Rattle.ol_chunks.specs.declared.draft.Due.{Due}
use Rattle.ol_chunks.specs.declared.draft.Due.TheVariants.{Before, Logs, Nothing, Spaces}

-- ---- words

-- the lines of a text; what stands behind the last line feed is the last piece
abbrev pub lines_in_text : List ℕ → List (List ℕ)
lines_in_text text = slice_split (λ b. b == 10) text

-- the words of a line, with one blank between two
abbrev pub words_of : List ℕ → List (List ℕ)
words_of line = slice_split (λ b. b == 32) line

-- the number from 1 to 65,535 that a word is in decimal
abbrev pub number_in_word : List ℕ → Option ℕ
number_in_word word = number_up_to 65535 word

-- the numbers that words are, where each is one
abbrev pub numbers_in_words : List (List ℕ) → Option (List ℕ)
numbers_in_words words = numbers_up_to 65535 words

-- ---- what was read

-- what lines gave so far, where what isn't read yet is zero, and what may follow
pub record Reading : Type 0 where
  pub due : Due
  pub config : Config

-- before the first line
abbrev pub nothing_read : Reading
nothing_read = record {
  due = Spaces;
  config = record { spaces = []; physical_space = 0; physical_entries = 0; log_space = 0; log_files = 0; log_file_pages = 0; image_limit = 0 };
}

-- a configuration with one space more
abbrev pub with_space_read : Config → SpaceConfig → Config
with_space_read c s = record {
  spaces = c.spaces ++ s ∷ [];
  physical_space = c.physical_space;
  physical_entries = c.physical_entries;
  log_space = c.log_space;
  log_files = c.log_files;
  log_file_pages = c.log_file_pages;
  image_limit = c.image_limit;
}

-- a configuration with this physical log
abbrev pub with_physical : Config → ℕ → ℕ → Config
with_physical c space entries = record {
  spaces = c.spaces;
  physical_space = space;
  physical_entries = entries;
  log_space = c.log_space;
  log_files = c.log_files;
  log_file_pages = c.log_file_pages;
  image_limit = c.image_limit;
}

-- a configuration with these log files
abbrev pub with_logs : Config → ℕ → ℕ → ℕ → Config
with_logs c space files pages = record {
  spaces = c.spaces;
  physical_space = c.physical_space;
  physical_entries = c.physical_entries;
  log_space = space;
  log_files = files;
  log_file_pages = pages;
  image_limit = c.image_limit;
}

-- a configuration with room for so many captured images
abbrev pub with_limit : Config → ℕ → Config
with_limit c limit = record {
  spaces = c.spaces;
  physical_space = c.physical_space;
  physical_entries = c.physical_entries;
  log_space = c.log_space;
  log_files = c.log_files;
  log_file_pages = c.log_file_pages;
  image_limit = limit;
}

-- a space leaves room for one data page in its first chunk
abbrev pub has_room : Config → ℕ → Bool
has_room c space = nat_lt (area_pages c space) (first_chunk (space_at c space))

-- the pages of one space more fit: those of its first chunk and all of them
abbrev pub has_pages : ℕ → List ℕ → Bool
has_pages space chunks = nat_lt (reserved_pages space) (slice_index chunks 0) && nat_le (sum chunks) (65535 + reserved_pages space)

-- the name of one space more: the first is root, and none comes twice
abbrev pub is_new_name : List SpaceConfig → List ℕ → Bool
is_new_name spaces name = is_name name && ((not (length spaces == 0) || bytes_eq name (codes "root")) && not (list_any (λ (s : SpaceConfig). bytes_eq name s.name) spaces))

-- at most 16 spaces, and at most 31 chunks in all
abbrev pub has_place_left : List SpaceConfig → ℕ → Bool
has_place_left spaces chunks = nat_lt (length spaces) 16 && nat_le (chunk_count spaces + chunks) 31

-- ---- a line

-- behind a space's line, of this name and these chunks
abbrev pub space_read : Config → List ℕ → Option (List ℕ) → Option Reading
space_read c name None = None
space_read c name (Some chunks) =
    if has_place_left c.spaces (length chunks) && (is_new_name c.spaces name && has_pages (length c.spaces) chunks)
    then Some (record { due = Spaces; config = with_space_read c (record { name = name; chunks = chunks }) }) else None

-- behind the physical log's line: its space, and one number of at most 4,096 entries
abbrev pub physical_read : Config → Option ℕ → Option (List ℕ) → Option Reading
physical_read c (Some space) (Some (entries ∷ [])) =
    if nat_le entries 4096 && has_room (with_physical c space entries) space
    then Some (record { due = Logs; config = with_physical c space entries }) else None
physical_read c _ _ = None

-- behind the log files' line: their space, 3 to 64 files, and 4 to 1,000 pages
abbrev pub logs_read : Config → Option ℕ → Option (List ℕ) → Option Reading
logs_read c (Some space) (Some (files ∷ pages ∷ [])) =
    if (nat_le 3 files && nat_le files 64) && ((nat_le 4 pages && nat_le pages 1000) && has_room (with_logs c space files pages) space)
    then Some (record { due = Before; config = with_logs c space files pages }) else None
logs_read c _ _ = None

-- behind the last line: at most 4,096 captured images
abbrev pub before_read : Config → Option (List ℕ) → Option Reading
before_read c (Some (limit ∷ [])) = if nat_le limit 4096 then Some (record { due = Nothing; config = with_limit c limit }) else None
before_read c _ = None

-- a line by its first word; None where it isn't one that may stand here
abbrev pub words_read : Due → Config → List (List ℕ) → Option Reading
words_read Spaces c (word ∷ name ∷ words) =
    if bytes_eq word (codes "space") then space_read c name (numbers_in_words words)
    else (if bytes_eq word (codes "physlog") then physical_read c (space_named c name) (numbers_in_words words) else None)
words_read Logs c (word ∷ name ∷ words) = if bytes_eq word (codes "logs") then logs_read c (space_named c name) (numbers_in_words words) else None
words_read Before c (word ∷ words) = if bytes_eq word (codes "before") then before_read c (numbers_in_words words) else None
words_read _ c _ = None

-- what was read behind one line more; None where it is bad
abbrev pub after_line : Reading → List ℕ → Option Reading
after_line r line = words_read r.due r.config (words_of line)

-- ---- a text

-- a text may end behind the last line, where nothing follows what was looked at
abbrev pub may_end : Bool → Due → List ℕ → Bool
may_end more Nothing [] = not more
may_end more _ piece = false

-- the rest behind a line, where it isn't bad
abbrev pub line_then : ℕ → Option Reading → (Reading → Result Config ℕ) → Result Config ℕ
line_then number None rest = Err number
line_then number (Some r) rest = rest r

-- what the lines from this number on give, or the first that is bad or missing
abbrev pub config_from : Bool → ℕ → Reading → List (List ℕ) → Result Config ℕ
config_from more number r [] = Err number
config_from more number r (piece ∷ []) = if may_end more r.due piece then Ok r.config else Err number
config_from more number r (line ∷ next ∷ lines) = line_then number (after_line r line) (λ read. config_from more (number + 1) read (next ∷ lines))

-- the configuration of a text, or the number of its first bad line. What stands behind the first 1,024 bytes is bad where it begins
abbrev pub config_in_text : List ℕ → Result Config ℕ
config_in_text text = config_from (nat_lt 1024 (length text)) 1 nothing_read (lines_in_text (take 1024 text))
