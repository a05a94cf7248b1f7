-- Parts of a disk, and what calls on one part leave of the others.
use Rattle.std.specs.Prelude.{Bool, List, false, length, nat_le, nat_lt, true, ℕ, ◌&&◌, ◌+◌, ◌<◌, ◌==◌, ◌≡◌}
use Rattle.std.proofs.Common.{get_or}
use Rattle.ol_ports.specs.Disk.{Bytes, Past, Rest, is_within, seen}

-- all of one chunk
abbrev pub in_chunk : ℕ → ℕ → ℕ → Bool
in_chunk chunk c p = c == chunk

-- the pages of a chunk from one page on, up to another
abbrev pub in_pages : ℕ → ℕ → ℕ → ℕ → ℕ → Bool
in_pages chunk from end c p = (c == chunk) && nat_le from p && nat_lt p end

-- two disks have the same bytes, but for those that is_part names by chunk, page and offset
abbrev pub SameBut : (ℕ → ℕ → ℕ → Bool) → Bytes → Bytes → Type 0
SameBut is_part old new = (c p i : ℕ) → is_part c p i ≡ false → new c p i ≡ old c p i

-- the bytes of a part are those that are wanted
abbrev pub ReadsAs : (ℕ → ℕ → ℕ → Bool) → Bytes → Bytes → Type 0
ReadsAs is_part wanted d = (c p i : ℕ) → is_part c p i ≡ true → i < 2048 → d c p i ≡ wanted c p i

-- all pages that is_in does not name, by chunk and page, read as before
abbrev pub ReadsOutside : Past → Past → (ℕ → ℕ → Bool) → Type 0
ReadsOutside old new is_in = SameBut (λ c p i. is_in c p) (seen old) (seen new)

-- what a stop before might have left, but for the bytes that is_part names
pub record FramedAt (past : Past) (is_part : ℕ → ℕ → ℕ → Bool) (d : Bytes) : Type 0 where
  pub origin : Bytes
  pub rest : Rest past origin
  pub same : SameBut is_part origin d

-- the same, but for the pages that is_in names by chunk and page
abbrev pub FramedIn : Past → (ℕ → ℕ → Bool) → Bytes → Type 0
FramedIn past is_in d = FramedAt past (λ c p i. is_in c p) d

-- what a stop before might have left, torn in a range of a page
abbrev pub TornFrom : Past → ℕ → ℕ → ℕ → ℕ → Bytes → Type 0
TornFrom past chunk page offset size d = FramedAt past (is_within chunk page offset size) d

-- whatever a stop leaves, these pages are as they read
abbrev pub IsSettledIn : Past → (ℕ → ℕ → Bool) → Type 0
IsSettledIn past is_in = (d : Bytes) → Rest past d → (c p i : ℕ) → is_in c p ≡ true → d c p i ≡ seen past c p i

-- nothing is unsynced: whatever a stop leaves, all is as it reads
abbrev pub IsQuiet : Past → Type 0
IsQuiet past = IsSettledIn past (λ c p. true)

-- the bytes stand in their range, all else reads as before, and a stop leaves the chunk as it reads
pub record IsDurable (old new : Past) (chunk page offset : ℕ) (bytes : List ℕ) : Type 0 where
  pub elsewhere : SameBut (is_within chunk page offset (length bytes)) (seen old) (seen new)
  pub written : (i : ℕ) → i < length bytes → seen new chunk page (offset + i) ≡ get_or bytes i 0
  pub settled : IsSettledIn new (in_chunk chunk)
