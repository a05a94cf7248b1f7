-- What a disk was asked so far, what it reads, and what a stop may leave of it.
use Rattle.std.specs.Prelude.{ℕ, ◌+◌, ◌-◌, ◌*◌, ◌<◌, ◌≤◌, ◌≡◌, ◌⊎◌, Bool, false, ◌&&◌, ◌||◌, ◌==◌, nat_lt, nat_le, if◌then◌else◌, List, [], ◌∷◌, length, map, Result, OnOk, OnErr}
use Rattle.std.specs.List.{range_with_len}
use Rattle.std.proofs.Common.{get_or}

-- the bytes of a disk, by chunk, page and offset; an offset from 2,048 on has 0
abbrev pub Bytes : Type 0
Bytes = ℕ → ℕ → ℕ → ℕ

-- a call that has a moment
pub data Call : Type 0 where
  -- the range reads these bytes since, whether or not the write succeeded
  Wrote : (chunk page offset : ℕ) (bytes : List ℕ) → Call
  -- a sync that succeeded
  Synced : (chunk : ℕ) → Call
  -- a sync or a write that failed and left nothing
  Passed : Call

pub record Past : Type 0 where
  -- the bytes of each chunk as the disk began
  pub base : List (List ℕ)
  -- its calls since, the newest first
  pub calls : List Call

-- whether the byte of chunk c, page p and offset i is one of those that a write took
unfoldable pub is_within : ℕ → ℕ → ℕ → ℕ → ℕ → ℕ → ℕ → Bool
is_within chunk page offset size c p i = (c == chunk) && (p == page) && nat_le offset i && nat_lt i (offset + size)

-- the bytes that the disk began with
unfoldable pub first_bytes : List (List ℕ) → Bytes
first_bytes base c p i = if nat_lt i 2048 then get_or (get_or base c []) (2048 * p + i) 0 else 0

-- the bytes after these calls
unfoldable pub bytes_after : List (List ℕ) → List Call → Bytes
bytes_after base [] c p i = first_bytes base c p i
bytes_after base (Wrote chunk page offset bytes ∷ calls) c p i =
    if is_within chunk page offset (length bytes) c p i then get_or bytes (i - offset) 0 else bytes_after base calls c p i
bytes_after base (Synced chunk ∷ calls) c p i = bytes_after base calls c p i
bytes_after base (Passed ∷ calls) c p i = bytes_after base calls c p i

-- whether the byte was written since the last sync of its chunk that succeeded
unfoldable pub is_open : List Call → ℕ → ℕ → ℕ → Bool
is_open [] c p i = false
is_open (Wrote chunk page offset bytes ∷ calls) c p i =
    is_within chunk page offset (length bytes) c p i || is_open calls c p i
is_open (Synced chunk ∷ calls) c p i = if c == chunk then false else is_open calls c p i
is_open (Passed ∷ calls) c p i = is_open calls c p i

-- what the disk reads
unfoldable pub seen : Past → Bytes
seen past = bytes_after past.base past.calls

-- what a stop after the last call may leave: an open byte may be anything
pub record Rest (past : Past) (d : Bytes) : Type 0 where
  pub as_written : (c p i : ℕ) → is_open past.calls c p i ≡ false → d c p i ≡ seen past c p i

-- the number of the last call
abbrev pub moments : Past → ℕ
moments past = length past.calls

-- a call more
abbrev pub with_call : Past → Call → Past
with_call past call = record { base = past.base; calls = call ∷ past.calls }

-- what a stop within a call may leave: a write may have begun, a sync has not ended
unfoldable pub Within : Past → Call → Bytes → Type 0
Within past (Wrote chunk page offset bytes) d = Rest (with_call past (Wrote chunk page offset bytes)) d
Within past (Synced chunk) d = Rest past d
Within past Passed d = Rest past d

-- some one of these calls has that number, and a stop within it may leave these bytes; before the first call, number 0, the disk is as it began
unfoldable pub LeftOf : List (List ℕ) → List Call → ℕ → Bytes → Type 0
LeftOf base [] m d = (m ≡ 0) × ((c p i : ℕ) → d c p i ≡ first_bytes base c p i)
LeftOf base (call ∷ calls) m d =
    ((m ≡ length calls + 1) × Within (record { base = base; calls = calls }) call d) ⊎ LeftOf base calls m d

-- what a stop within the call of number m may leave; a stop between two calls is one within the later
unfoldable pub Left : Past → ℕ → Bytes → Type 0
Left past = LeftOf past.base past.calls

-- a stop within any call since then leaves bytes that have P, and earlier stops are as they were
pub record Leaves (old new : Past) (P : Bytes → Type 0) : Type 0 where
  pub later : moments old ≤ moments new
  pub each : (m : ℕ) (d : Bytes) → moments old < m → Left new m d → P d
  pub before : (m : ℕ) (d : Bytes) → m ≤ moments old → Left new m d → Left old m d

-- the 2,048 bytes of a page, as a read gives them
unfoldable pub page_list : Bytes → ℕ → ℕ → List ℕ
page_list d chunk page = map (d chunk page) (range_with_len 0 2048)

-- what a write leaves: its bytes, or where it failed any bytes in their place or none; a failed one that
-- left none may have no number where the numbers have come to their end
pub record Writes {E : Type 0} (old new : Past) (chunk page offset : ℕ) (bytes : List ℕ) (result : Result Unit E) : Type 0 where
  pub left : List ℕ
  pub size : length left ≡ length bytes
  pub ok : OnOk result ((left ≡ bytes) × (new ≡ with_call old (Wrote chunk page offset left)))
  pub past : (new ≡ with_call old (Wrote chunk page offset left)) ⊎ ((new ≡ with_call old Passed) ⊎ (new ≡ old))

-- what a sync leaves: all bytes of its chunk are durable, or nothing has changed
pub record Syncs {E : Type 0} (old new : Past) (chunk : ℕ) (result : Result Unit E) : Type 0 where
  pub ok : OnOk result (new ≡ with_call old (Synced chunk))
  pub err : OnErr result ((new ≡ with_call old Passed) ⊎ (new ≡ old))
