-- The bytes of chunks that stand in memory, each chunk's pages laid end to end.
use Rattle.std.specs.Prelude.{ℕ, ◌+◌, ◌*◌, ◌≤◌, ◌≡◌, List, [], ◌++◌, length, map, take, drop, replicate, slice_set}
use Rattle.std.proofs.Common.{get_or}
use Rattle.ol_ports.specs.Disk.{Bytes, first_bytes}

-- the bytes of one chunk, none for a chunk that is not there
abbrev pub chunk_bytes : List (List ℕ) → ℕ → List ℕ
chunk_bytes chunks c = get_or chunks c []

-- how many bytes each chunk has
abbrev pub lengths : List (List ℕ) → List ℕ
lengths chunks = map (λ chunk. length chunk) chunks

-- chunks of so many pages each, all zero
abbrev pub zero_chunks : List ℕ → List (List ℕ)
zero_chunks sizes = map (λ pages. replicate (2048 * pages) 0) sizes

-- a piece in the place of the bytes that are there
abbrev pub spliced : List ℕ → ℕ → List ℕ → List ℕ
spliced bytes at piece = take at bytes ++ piece ++ drop (at + length piece) bytes

-- the same within one chunk
abbrev pub with_piece : List (List ℕ) → ℕ → ℕ → List ℕ → List (List ℕ)
with_piece chunks c at piece = slice_set chunks c (spliced (chunk_bytes chunks c) at piece)

-- all of one chunk replaced
abbrev pub with_chunk : List (List ℕ) → ℕ → List ℕ → List (List ℕ)
with_chunk chunks c bytes = slice_set chunks c bytes

-- the page is there
abbrev pub HasPage : List (List ℕ) → ℕ → ℕ → Type 0
HasPage chunks c page = 2048 * page + 2048 ≤ length (chunk_bytes chunks c)

-- the chunks hold these bytes
pub record ChunksHold (chunks : List (List ℕ)) (d : Bytes) : Type 0 where
  pub each : (c p i : ℕ) → first_bytes chunks c p i ≡ d c p i
