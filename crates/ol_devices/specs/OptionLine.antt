-- The options of a command line: `--dir DIR [--chunks P0,P1,..] [--blocks N] [--volumes N] WORD..`
use Rattle.std.specs.Global.{Global}
use Rattle.std.specs.List.{slice_split}
use Rattle.std.specs.Option.{option_and_then, option_map}
use Rattle.std.specs.Prelude.{Bool, Err, List, None, Ok, Option, Result, Some, String, [], bytes_eq, codes, false, if◌then◌else◌, length, map, nat_le, string_bytes, ℕ, ◌==◌, ◌||◌, ◌∷◌, ◌≡◌}
use Rattle.ol_words.specs.Words.{number_up_to, numbers_up_to}
use Rattle.ol_devices.specs.declared.options.OptionFault.{OptionFault}
use Rattle.ol_devices.specs.declared.options.OptionFault.TheVariants.{BadOptions, NoMemory}
use Rattle.ol_devices.specs.declared.options.Options.{Options}

pub record OptionLine : Type 0 where
  -- the folder of the files
  pub dir : List ℕ
  -- the pages of the chunk files that are to be made where they are missing
  pub chunks : List ℕ
  -- how many blocks a volume takes
  pub blocks : ℕ
  -- how many further volumes a drive mounts
  pub volumes : ℕ
  -- the words of the command
  pub words : List (List ℕ)

-- ---- values

-- the number from 1 to 4,294,967,295 that a word is in decimal
abbrev pub option_number : List ℕ → Option ℕ
option_number word = number_up_to 4294967295 word

-- the numbers that words are, where each is one
abbrev pub option_numbers : List (List ℕ) → Option (List ℕ)
option_numbers words = numbers_up_to 4294967295 words

-- at most 32 numbers, with one comma between two
abbrev pub chunk_list : List ℕ → Option (List ℕ)
chunk_list word = option_and_then (λ numbers. if nat_le (length numbers) 32 then Some numbers else None) (option_numbers (slice_split (λ b. b == 44) word))

-- ---- options

-- a number as the first word, and the words behind it
abbrev pub number_then : List (List ℕ) → Option (ℕ × List (List ℕ))
number_then [] = None
number_then (value ∷ words) = option_map (λ n. (n, words)) (option_number value)

-- the value of an option of this name and the words behind it, or where it isn't next the value that then counts
abbrev pub number_option : List ℕ → ℕ → List (List ℕ) → Option (ℕ × List (List ℕ))
number_option name default [] = Some (default, [])
number_option name default (word ∷ words) = if bytes_eq word name then number_then words else Some (default, word ∷ words)

-- likewise of a list of numbers
abbrev pub list_then : List (List ℕ) → Option (List ℕ × List (List ℕ))
list_then [] = None
list_then (value ∷ words) = option_map (λ numbers. (numbers, words)) (chunk_list value)

abbrev pub list_option : List (List ℕ) → Option (List ℕ × List (List ℕ))
list_option [] = Some ([], [])
list_option (word ∷ words) = if bytes_eq word (codes "--chunks") then list_then words else Some ([], word ∷ words)

-- the name of an option
abbrev pub is_option : List ℕ → Bool
is_option word = (bytes_eq word (codes "--dir") || bytes_eq word (codes "--chunks")) || (bytes_eq word (codes "--blocks") || bytes_eq word (codes "--volumes"))

-- an option is next, which has no place any more
abbrev pub is_option_next : List (List ℕ) → Bool
is_option_next [] = false
is_option_next (word ∷ words) = is_option word

-- ---- a line

-- the line of these options, where none comes twice or behind its place
abbrev pub ended_line : List ℕ → List ℕ → ℕ → ℕ × List (List ℕ) → Option OptionLine
ended_line dir chunks blocks last =
    if is_option_next last.1 then None
    else Some (record { dir = dir; chunks = chunks; blocks = blocks; volumes = last.0; words = last.1 })

abbrev pub volumes_next : List ℕ → List ℕ → ℕ × List (List ℕ) → Option OptionLine
volumes_next dir chunks blocks = option_and_then (ended_line dir chunks blocks.0) (number_option (codes "--volumes") 1000 blocks.1)

abbrev pub blocks_next : List ℕ → List ℕ × List (List ℕ) → Option OptionLine
blocks_next dir chunks = option_and_then (volumes_next dir chunks.0) (number_option (codes "--blocks") 100000 chunks.1)

-- the folder's name, which is not empty, and the words behind it
abbrev pub folder_next : List ℕ → List (List ℕ) → Option OptionLine
folder_next dir words = if bytes_eq dir (codes "") then None else option_and_then (blocks_next dir) (list_option words)

-- what the words of a command line give, where they are of the form
abbrev pub options_of : List (List ℕ) → Option OptionLine
options_of [] = None
options_of (word ∷ []) = None
options_of (word ∷ dir ∷ words) = if bytes_eq word (codes "--dir") then folder_next dir words else None

-- ---- what the parser gives

-- the bytes of words
abbrev pub texts : List (String Global) → List (List ℕ)
texts words = map (λ word. string_bytes word) words

-- the line that options stand for
abbrev pub line_of_options : Options → OptionLine
line_of_options o = record { dir = o.dir.now; chunks = o.chunks.items; blocks = o.blocks; volumes = o.volumes; words = texts o.words.now }

-- the options are those of the line, and are refused exactly where the line has none; want of memory tells nothing
abbrev pub AnswersLine : Option OptionLine → Result Options OptionFault → Type 0
AnswersLine line (Ok o) = line ≡ Some (line_of_options o)
AnswersLine line (Err BadOptions) = line ≡ None
AnswersLine line (Err NoMemory) = Unit {0}
