-- The configuration of an installation: its spaces with their chunks, and what stands in them beside data.
use Rattle.std.specs.List.{list_all}
use Rattle.std.specs.Prelude.{Bool, List, Option, [], bytes_eq, codes, decimal, flat_map, false, if◌then◌else◌, length, nat_le, nat_lt, position, slice_index_or, sum, ℕ, ◌&&◌, ◌*◌, ◌++◌, ◌+◌, ◌-◌, ◌==◌, ◌||◌, ◌∷◌}
use Rattle.ol_values.specs.declared.record.Rid.{Rid}

-- a space: its name, and the pages of each of its chunks
pub record SpaceConfig : Type 0 where
  pub name : List ℕ
  pub chunks : List ℕ

pub record Config : Type 0 where
  pub spaces : List SpaceConfig
  -- the space of the physical log, and its entries of two pages each
  pub physical_space : ℕ
  pub physical_entries : ℕ
  -- the space of the log files, their number, and the pages of each
  pub log_space : ℕ
  pub log_files : ℕ
  pub log_file_pages : ℕ
  -- how many captured images are held at most
  pub image_limit : ℕ

-- a configuration without a space
abbrev pub no_config : Config
no_config = record { spaces = []; physical_space = 0; physical_entries = 0; log_space = 0; log_files = 0; log_file_pages = 0; image_limit = 0 }

abbrev pub unnamed : SpaceConfig
unnamed = record { name = []; chunks = [] }

abbrev pub space_at : Config → ℕ → SpaceConfig
space_at c space = slice_index_or c.spaces space unnamed

-- the pages of a space that hold no data: 12 reserved ones of the first space, the physical log and the log files
abbrev pub area_pages : Config → ℕ → ℕ
area_pages c space =
    (if space == 0 then 12 else 0)
    + (if space == c.physical_space then 2 * c.physical_entries else 0)
    + (if space == c.log_space then c.log_files * c.log_file_pages else 0)

-- the number of data pages of a space
abbrev pub data_pages : Config → ℕ → ℕ
data_pages c space = sum (space_at c space).chunks - area_pages c space

-- the number of all log pages
abbrev pub log_pages : Config → ℕ
log_pages c = c.log_files * c.log_file_pages

-- whether there is this data page
abbrev pub has_page : Config → ℕ → ℕ → Bool
has_page c space page = nat_lt space (length c.spaces) && nat_lt page (data_pages c space)

-- whether there is this place
abbrev pub has_place : Config → Rid → Bool
has_place c rid = has_page c rid.space rid.page && nat_lt rid.slot 31

abbrev pub is_small_letter : ℕ → Bool
is_small_letter b = nat_le 97 b && nat_le b 122

abbrev pub is_digit : ℕ → Bool
is_digit b = nat_le 48 b && nat_le b 57

-- a small letter first
abbrev pub begins_small : List ℕ → Bool
begins_small [] = false
begins_small (b ∷ bytes) = is_small_letter b

-- the name of a space: a small letter, and up to seven small letters or digits behind it
abbrev pub is_name : List ℕ → Bool
is_name bytes = begins_small bytes && (nat_le (length bytes) 8 && list_all (λ b. is_small_letter b || is_digit b) bytes)

-- the space of a name
abbrev pub space_named : Config → List ℕ → Option ℕ
space_named c name = position (λ (s : SpaceConfig). bytes_eq s.name name) c.spaces

-- numbers in decimal, each after a blank
abbrev pub number_words : List ℕ → List ℕ
number_words [] = []
number_words (n ∷ numbers) = 32 ∷ decimal n ++ number_words numbers

abbrev pub space_line : SpaceConfig → List ℕ
space_line s = codes "space " ++ s.name ++ number_words s.chunks ++ (10 ∷ [])

-- the text of a configuration, a line for each space, and one each for the physical log, the log files and the captured images
unfoldable pub config_text : Config → List ℕ
config_text c =
    flat_map space_line c.spaces
    ++ codes "physlog " ++ (space_at c c.physical_space).name ++ number_words (c.physical_entries ∷ []) ++ (10 ∷ [])
    ++ codes "logs " ++ (space_at c c.log_space).name ++ number_words (c.log_files ∷ c.log_file_pages ∷ []) ++ (10 ∷ [])
    ++ codes "before" ++ number_words (c.image_limit ∷ []) ++ (10 ∷ [])
