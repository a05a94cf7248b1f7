-- Where data pages stand on a disk, and what calls on them leave.
use Rattle.std.specs.Prelude.{Bool, IsErrOf, List, OnErr, OnOk, Result, false, slice_index_or, true, unwrap_or, ℕ, ◌&&◌, ◌<◌, ◌==◌, ◌≡◌, ◌≤◌}
use Rattle.ol_values.specs.Config.{Config}
use Rattle.ol_values.specs.Image.{IsDataPage, page_bytes, page_in}
use Rattle.ol_values.specs.Pages.{Page}
use Rattle.ol_chunks.specs.Limits.{chunk_count}
use Rattle.ol_chunks.specs.Places.{chunk_pages, place_in_chunks}
use Rattle.ol_ports.specs.Causes.{HasFailed}
use Rattle.ol_ports.specs.Disk.{Bytes, Past, Rest, page_list, seen}
use Rattle.ol_data_pages.specs.declared.pages.PageFault.{PageFault}
use Rattle.ol_data_pages.specs.declared.pages.PageFault.TheVariants.{Failed}

-- ---- places

-- chunk and page of a data page; (0, 0) where there is none
abbrev pub place_of : Config → ℕ → ℕ → ℕ × ℕ
place_of c space page = unwrap_or (place_in_chunks c space page) (let none : ℕ × ℕ = (0, 0) in none)

-- the bytes that stand at a data page's place
abbrev pub standing_bytes : Config → Bytes → ℕ → ℕ → List ℕ
standing_bytes c d space page = page_list d (place_of c space page).0 (place_of c space page).1

-- whether a page of a chunk is the place of this data page
abbrev pub is_place : Config → ℕ → ℕ → ℕ → ℕ → Bool
is_place c space page chunk at = (chunk == (place_of c space page).0) && (at == (place_of c space page).1)

-- the disk has all chunks of spaces whole
abbrev pub HasSpaces : Config → (ℕ → ℕ) → Type 0
HasSpaces c sizes = (chunk : ℕ) → chunk < chunk_count c.spaces → chunk_pages c chunk ≤ sizes chunk

-- ---- reading

-- bytes are those of a data page, and its stamp is at most this
abbrev pub IsGood : ℕ → List ℕ → Type 0
IsGood limit bytes = IsDataPage (page_in bytes) × (bytes ≡ page_bytes (page_in bytes)) × ((page_in bytes).stamp ≤ limit)

-- bytes are no data page, or one with a stamp above a limit
abbrev pub IsWrong : ℕ → List ℕ → Type 0
IsWrong limit bytes = (p : Page) → IsDataPage p → bytes ≡ page_bytes p → p.stamp ≤ limit → ⊥

-- the counts of faults never fall; a failed read raises that of the page's chunk alone, and no other answer changes any
pub record HasPageCause {T : Type 0} (chunk : ℕ) (before now : ℕ → ℕ) (result : Result T PageFault) : Type 0 where
  pub later : (k : ℕ) → before k ≤ now k
  pub failed : IsErrOf result Failed → HasFailed chunk before now
  pub kept : (IsErrOf result Failed → ⊥) → now ≡ before

-- ---- syncing

-- the calls of several chunks: a failed one has raised the count of one chunk of a space, and no other's; on Ok none has changed
pub record HasSpaceCause {T E : Type 0} (c : Config) (before now : ℕ → ℕ) (result : Result T E) : Type 0 where
  pub later : (chunk : ℕ) → before chunk ≤ now chunk
  pub failed : OnErr result ((chunk : ℕ) × (chunk < chunk_count c.spaces) × HasFailed chunk before now)
  pub kept : OnOk result (now ≡ before)

-- a chunk is marked
abbrev pub IsMarked : List Bool → ℕ → Type 0
IsMarked marks chunk = slice_index_or marks chunk false ≡ true

-- all marked chunks are among those of spaces
abbrev pub MarkSpaces : Config → List Bool → Type 0
MarkSpaces c marks = (chunk : ℕ) → IsMarked marks chunk → chunk < chunk_count c.spaces

-- no chunk is marked
abbrev pub HasNoMark : List Bool → Type 0
HasNoMark marks = (chunk : ℕ) → slice_index_or marks chunk false ≡ false

-- marked chunks were synced: all reads as before, and whatever a stop leaves has the marked chunks as they read
pub record IsSynced (old new : Past) (marks : List Bool) : Type 0 where
  pub reads : seen new ≡ seen old
  pub durable : (d : Bytes) → Rest new d → (chunk page i : ℕ) → slice_index_or marks chunk false ≡ true → d chunk page i ≡ seen old chunk page i
