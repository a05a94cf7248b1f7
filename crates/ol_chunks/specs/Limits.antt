-- The configurations that an installation may have, whatever their text.
use Rattle.std.specs.List.{AllByRecursion, IsDistinct, sum_by}
use Rattle.std.specs.Prelude.{List, [], bytes_eq, codes, if◌then◌else◌, length, map, slice_index, sum, true, ℕ, ◌+◌, ◌<◌, ◌==◌, ◌∷◌, ◌≡◌, ◌≤◌}
use Rattle.ol_values.specs.Config.{Config, SpaceConfig, area_pages, is_name, space_at}

-- the reserved pages at the front of a space's first chunk: 12 in the first space, none in others
abbrev pub reserved_pages : ℕ → ℕ
reserved_pages space = if space == 0 then 12 else 0

-- the pages of a space's first chunk
abbrev pub first_chunk : SpaceConfig → ℕ
first_chunk s = slice_index s.chunks 0

-- how many chunks spaces have
abbrev pub chunk_count : List SpaceConfig → ℕ
chunk_count spaces = sum_by (λ (s : SpaceConfig). length s.chunks) spaces

-- the names of spaces, in order
abbrev pub names_of : List SpaceConfig → List (List ℕ)
names_of spaces = map (λ (s : SpaceConfig). s.name) spaces

-- numbers from 1 to 65,535
abbrev pub AreInLimits : List ℕ → Type 0
AreInLimits numbers = AllByRecursion (λ n. (1 ≤ n) × (n ≤ 65535)) numbers

-- the space of a number: the first is root, and its name, its chunks and its pages, less the reserved ones, are within their limits
pub record IsSpace (space : ℕ) (s : SpaceConfig) : Type 0 where
  pub name : is_name s.name ≡ true
  pub root : space ≡ 0 → s.name ≡ codes "root"
  pub chunks : AreInLimits s.chunks
  pub pages : sum s.chunks ≤ 65535 + reserved_pages space

-- spaces whose numbers begin with this one
abbrev pub AreSpaces : ℕ → List SpaceConfig → Type 0
AreSpaces space [] = Unit {0}
AreSpaces space (s ∷ spaces) = IsSpace space s × AreSpaces (space + 1) spaces

-- what stands in front of a space's data pages leaves one of them in the first chunk
abbrev pub HasDataRoom : Config → ℕ → Type 0
HasDataRoom c space = area_pages c space < first_chunk (space_at c space)

-- all spaces, areas and numbers are within their limits, no name comes twice, and the areas fit
pub record IsConfig (c : Config) : Type 0 where
  pub spaces : AreSpaces 0 c.spaces
  pub distinct : IsDistinct bytes_eq (names_of c.spaces)
  pub few : length c.spaces ≤ 16
  pub chunks : chunk_count c.spaces ≤ 31
  pub room : (space : ℕ) → space < length c.spaces → HasDataRoom c space
  pub physical_space : c.physical_space < length c.spaces
  pub physical_entries : (1 ≤ c.physical_entries) × (c.physical_entries ≤ 4096)
  pub log_space : c.log_space < length c.spaces
  pub log_files : (3 ≤ c.log_files) × (c.log_files ≤ 64)
  pub log_file_pages : (4 ≤ c.log_file_pages) × (c.log_file_pages ≤ 1000)
  pub image_limit : (1 ≤ c.image_limit) × (c.image_limit ≤ 4096)
