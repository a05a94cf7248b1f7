-- The 2,144 bytes of a tape block: 64 of head, 2,048 of payload, and the SHA-256 digest of these. Numbers are big-endian.
use Rattle.std.specs.Prelude.{ℕ, List, [], ◌∷◌, ◌++◌, ◌-◌, codes, flat_map, length, replicate}
use Rattle.std.specs.Int.{w16, w32, w64, to_be_bytes}
use Rattle.sha2.specs.Sha256.{sha256}
use Rattle.ol_values.specs.Blocks.{ArchiveHead, Empty, HeadHeld, LogHeld, PageHeld, Payload}
use Rattle.ol_values.specs.Blocks.{Block as BlockValue}
use Rattle.ol_values.specs.Image.{page_bytes}
use Rattle.ol_record.specs.LogPages.{log_page_bytes}
use Rattle.ol_values.specs.Blocks.{Saved}
use Rattle.ol_object.specs.declared.block.Block.{Block}

-- the head: a mark of the format, kind, object and two zeros, and the fields, then eight zeros
abbrev pub head_bytes : Block → List ℕ
head_bytes h =
    codes "OLB1"
    ++ (h.kind ∷ h.object ∷ 0 ∷ 0 ∷ [])
    ++ to_be_bytes w64 h.incarnation
    ++ to_be_bytes w64 h.number
    ++ to_be_bytes w32 h.index
    ++ to_be_bytes w32 h.used
    ++ to_be_bytes w64 h.a
    ++ to_be_bytes w64 h.b
    ++ to_be_bytes w64 h.c
    ++ replicate 8 0

abbrev pub block_bytes : Block → List ℕ → List ℕ
block_bytes h payload = head_bytes h ++ payload ++ sha256 (head_bytes h ++ payload)

-- a space of an archive: its number, its parent's number and its base
abbrev pub saved_bytes : Saved → List ℕ
saved_bytes s = s.space ∷ to_be_bytes w64 s.parent ++ to_be_bytes w64 s.base

-- an archive head: the number of its spaces, these, and the configuration's length and text
abbrev pub archive_head_bytes : ArchiveHead → List ℕ
archive_head_bytes h = length h.spaces ∷ flat_map saved_bytes h.spaces ++ (to_be_bytes w16 (length h.text) ++ h.text)

-- the used bytes of a payload
abbrev pub payload_bytes : Payload → List ℕ
payload_bytes Empty = []
payload_bytes (HeadHeld head _) = archive_head_bytes head
payload_bytes (PageHeld page) = page_bytes page
payload_bytes (LogHeld page) = log_page_bytes 1 page

-- zeros behind these bytes, up to so many in all
unfoldable pub padded_to : ℕ → List ℕ → List ℕ
padded_to n bytes = bytes ++ replicate (n - length bytes) 0

-- the head of a block that is given as a value
abbrev pub head_of : BlockValue → Block
head_of b = record {
  kind = b.kind;
  object = b.object;
  incarnation = b.incarnation;
  number = b.number;
  index = b.index;
  used = length (payload_bytes b.payload);
  a = b.a;
  b = b.b;
  c = b.c;
}

-- its bytes
abbrev pub bytes_of : BlockValue → List ℕ
bytes_of b = block_bytes (head_of b) (padded_to 2048 (payload_bytes b.payload))
