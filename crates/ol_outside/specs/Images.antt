-- What is chosen of all that a stop may leave of a disk in memory.
use Rattle.std.specs.Prelude.{ℕ, ◌+◌, ◌*◌, ◌==◌, ◌≡◌, Bool, nat_lt, nat_le, if◌then◌else◌, List, [], ◌∷◌, length, replicate}
use Rattle.ol_ports.specs.Disk.{Bytes, Call, Wrote, Synced, Passed, first_bytes, bytes_after, is_open}
use Rattle.ol_outside.specs.Chunks.{chunk_bytes, with_piece, with_chunk}
use Rattle.ol_outside.specs.declared.memory_disk.Choice.{Choice}
use Rattle.ol_outside.specs.declared.memory_disk.Choice.TheVariants.{Old, New, Fill}

-- the bytes of each chunk as its last sync left them
unfoldable pub last_synced : List (List ℕ) → List Call → Bytes
last_synced base [] c p i = first_bytes base c p i
last_synced base (Wrote chunk page offset bytes ∷ calls) c p i = last_synced base calls c p i
last_synced base (Synced chunk ∷ calls) c p i = if c == chunk then bytes_after base calls c p i else last_synced base calls c p i
last_synced base (Passed ∷ calls) c p i = last_synced base calls c p i

-- one byte in each open place, and all else as written
unfoldable pub filled_image : List (List ℕ) → List Call → ℕ → Bytes
filled_image base calls byte c p i = if is_open calls c p i then byte else bytes_after base calls c p i

-- the bytes that a choice gives after these calls
unfoldable pub chosen : Choice → List (List ℕ) → List Call → Bytes
chosen Old base calls = last_synced base calls
chosen New base calls = bytes_after base calls
chosen (Fill byte) base calls = filled_image base calls byte

-- the calls that have left their bytes, perhaps in part, at a stop within this one
abbrev pub begun_calls : Call → List Call → List Call
begun_calls (Wrote chunk page offset bytes) calls = Wrote chunk page offset bytes ∷ calls
begun_calls (Synced chunk) calls = calls
begun_calls Passed calls = calls

-- those at a stop within the call of number m
unfoldable pub stopped_within : List Call → ℕ → List Call
stopped_within [] m = []
stopped_within (call ∷ calls) m = if m == length calls + 1 then begun_calls call calls else stopped_within calls m

-- whether a stop within the call of number m leaves nothing of this one, whose number is n
abbrev pub is_after_stop : Call → ℕ → ℕ → Bool
is_after_stop (Wrote chunk page offset bytes) n m = nat_lt m n
is_after_stop (Synced chunk) n m = nat_le m n
is_after_stop Passed n m = nat_le m n

-- after these calls and after those each choice gives the same bytes
pub record SameImages (calls others : List Call) : Type 0 where
  pub each : (choice : Choice) (base : List (List ℕ)) (c p i : ℕ) → chosen choice base calls c p i ≡ chosen choice base others c p i

-- a write done to the chunks as written
abbrev pub redone : Call → List (List ℕ) → List (List ℕ)
redone (Wrote chunk page offset bytes) chunks = with_piece chunks chunk (2048 * page + offset) bytes
redone (Synced chunk) chunks = chunks
redone Passed chunks = chunks

-- a write that may be torn, done to the image of a choice
abbrev pub torn_image : Choice → List (List ℕ) → ℕ → ℕ → List ℕ → List (List ℕ)
torn_image Old image chunk at bytes = image
torn_image New image chunk at bytes = with_piece image chunk at bytes
torn_image (Fill byte) image chunk at bytes = with_piece image chunk at (replicate (length bytes) byte)

-- a call done to the image of a choice, beside the chunks as written
abbrev pub image_after : Choice → Call → List (List ℕ) → List (List ℕ) → List (List ℕ)
image_after choice (Wrote chunk page offset bytes) written image = torn_image choice image chunk (2048 * page + offset) bytes
image_after choice (Synced chunk) written image = with_chunk image chunk (chunk_bytes written chunk)
image_after choice Passed written image = image
