-- A disk that holds a newly formatted installation.
use Rattle.std.specs.Prelude.{Bool, None, Some, nat_lt, suc, zero, ℕ, ◌&&◌, ◌*◌, ◌+◌, ◌<◌, ◌==◌, ◌≡◌, ◌≢◌, ◌≤◌, ◌⊎◌}
use Rattle.ol_chunks.specs.Limits.{chunk_count}
use Rattle.ol_chunks.specs.Places.{chunk_pages, log_area, physical_area, place_in_chunks}
use Rattle.ol_values.specs.Config.{Config}
use Rattle.ol_ports.specs.Disk.{Bytes, Past, Rest}
use Rattle.ol_ports.specs.Frames.{FramedAt, IsSettledIn, ReadsAs, in_pages}
use Rattle.ol_reserve.specs.Pair.{IsShut, Newest, is_pair}
use Rattle.ol_format.specs.First.{first_anchor}

-- a page of zeros
abbrev pub IsZero : Bytes → ℕ → ℕ → Type 0
IsZero d chunk page = (i : ℕ) → i < 2048 → d chunk page i ≡ 0

-- the first anchor is the newest; no gate of the logs is open; the other reserved pages and all data pages are zero
pub record IsFormatted (d : Bytes) (c : Config) : Type 0 where
  pub anchor : Newest d (Some (first_anchor c))
  pub reserved : (page : ℕ) → 2 ≤ page → page < 12 → IsZero d 0 page
  pub logs : (k : ℕ) → k < (log_area c).count * (log_area c).pages → d (log_area c).chunk ((log_area c).first + k) 0 ≢ 1
  pub physical : (k : ℕ) → k < (physical_area c).count → d (physical_area c).chunk ((physical_area c).first + 2 * k) 0 ≢ 1
  pub rows : (space page : ℕ) (place : ℕ × ℕ) → place_in_chunks c space page ≡ Some place → IsZero d place.0 place.1

-- ---- what a stop within a formatting leaves

-- whether a byte is a gate of the pair
abbrev pub is_gate : ℕ → ℕ → ℕ → Bool
is_gate chunk page i = is_pair chunk page && (i == 0)

-- nothing but the gates has changed yet, or there is no anchor
abbrev pub IsClosing : Past → Bytes → Type 0
IsClosing past d = FramedAt past is_gate d ⊎ Newest d None

-- there is no anchor, or the disk is formatted
abbrev pub IsBlankOrFormatted : Config → Bytes → Type 0
IsBlankOrFormatted c d = Newest d None ⊎ IsFormatted d c

-- nothing but the gates has changed yet, or one of these
abbrev pub IsBetween : Past → Config → Bytes → Type 0
IsBetween past c d = FramedAt past is_gate d ⊎ IsBlankOrFormatted c d

-- ---- on the way

abbrev pub zeros : Bytes
zeros chunk page i = 0

-- the first page of a chunk that is zeroed: not those of the anchor pair
abbrev pub first_page : ℕ → ℕ
first_page zero = 2
first_page (suc chunk) = 0

-- whatever a stop leaves, these pages of a chunk are zero
abbrev pub IsZeroed : Past → ℕ → ℕ → ℕ → Type 0
IsZeroed past chunk from end = (d : Bytes) → Rest past d → ReadsAs (λ c p i. in_pages chunk from end c p) zeros d

-- whatever a stop leaves, no page of the pair is open
abbrev pub IsBlank : Past → Type 0
IsBlank past = (d : Bytes) → Rest past d → (page : ℕ) → page < 2 → IsShut d page

-- all of the chunks below this number
abbrev pub in_first : ℕ → ℕ → ℕ → Bool
in_first n chunk page = nat_lt chunk n

-- so many of the first chunks are zeroed, and as they read whatever a stop leaves
pub record AreZeroed (past : Past) (c : Config) (n : ℕ) : Type 0 where
  pub blank : IsBlank past
  pub settled : IsSettledIn past (in_first n)
  pub chunks : (chunk : ℕ) → chunk < n → IsZeroed past chunk (first_page chunk) (chunk_pages c chunk)
