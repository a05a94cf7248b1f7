-- What stands at the entries of the physical log on a disk. Entry k has its head at page 2k of the area, and its image behind it.
use Rattle.std.proofs.Common.{get_or}
use Rattle.std.specs.Prelude.{Bool, List, length, ℕ, ◌*◌, ◌+◌, ◌<◌, ◌==◌, ◌≡◌, ◌≤◌, false, true}
use Rattle.ol_values.specs.Config.{Config}
use Rattle.ol_chunks.specs.Places.{lies_in, physical_area}
use Rattle.ol_chunks.specs.declared.table.Area.{Area}
use Rattle.ol_ports.specs.Disk.{Bytes, page_list}
use Rattle.ol_physlog.specs.Heads.{body_bytes, generation_in, head_in}
use Rattle.ol_physlog.specs.declared.place.Place.{Place}
use Rattle.ol_physlog.specs.declared.head.Head.{Head}
use Rattle.ol_physlog.specs.declared.head.Head.TheVariants.{Bad as BadHead, Counts as CountsHead, Idle as IdleHead}

-- what an entry is, for a generation
pub data EntryPlace : Type 0 where
  -- its gate is not open, or it is of another generation
  Idle : EntryPlace
  -- it is open and of this generation, and its head is off the grammar
  Bad : EntryPlace
  -- it counts, with the place of its page and the image of that
  Counts : (place : Place) (image : List ℕ) → EntryPlace

-- the entry of this head and image
abbrev pub entry_of : Head → List ℕ → EntryPlace
entry_of IdleHead image = Idle
entry_of BadHead image = Bad
entry_of (CountsHead place) image = Counts place image

abbrev pub head_page : Area → ℕ → ℕ
head_page a k = a.first + 2 * k

-- the head and the image of an entry, as their pages
abbrev pub head_list : Area → Bytes → ℕ → List ℕ
head_list a d k = page_list d a.chunk (head_page a k)

abbrev pub image_list : Area → Bytes → ℕ → List ℕ
image_list a d k = page_list d a.chunk (head_page a k + 1)

-- what stands at entry k of an area
unfoldable pub entry_at : Config → Area → ℕ → Bytes → ℕ → EntryPlace
entry_at c a generation d k = entry_of (head_in c generation (head_list a d k)) (image_list a d k)

-- the gate byte of an entry
abbrev pub gate_at : Area → Bytes → ℕ → ℕ
gate_at a d k = d a.chunk (head_page a k) 0

abbrev pub is_open_at : Area → Bytes → ℕ → Bool
is_open_at a d k = gate_at a d k == 1

abbrev pub generation_at : Area → Bytes → ℕ → ℕ
generation_at a d k = generation_in (head_list a d k)

-- an entry stands there whole, but for its gate
pub record HasBody (a : Area) (generation : ℕ) (d : Bytes) (k : ℕ) (place : Place) (image : List ℕ) : Type 0 where
  pub behind_gate : (i : ℕ) → i < 15 → d a.chunk (head_page a k) (1 + i) ≡ get_or (body_bytes place generation) i 0
  pub next_page : (i : ℕ) → i < 2048 → d a.chunk (head_page a k + 1) i ≡ get_or image i 0
  pub long : length image ≡ 2048

-- whether a page of a chunk is one of the physical log's
abbrev pub in_physical : Config → ℕ → ℕ → Bool
in_physical c chunk page = lies_in (physical_area c) chunk page

-- the disk has all pages of an area
abbrev pub HasArea : Area → (ℕ → ℕ) → Type 0
HasArea a sizes = a.first + a.count * a.pages ≤ sizes a.chunk

-- no byte of a part is in an area
abbrev pub AreApart : Area → (ℕ → ℕ → ℕ → Bool) → Type 0
AreApart a is_part = (chunk page i : ℕ) → lies_in a chunk page ≡ true → is_part chunk page i ≡ false
