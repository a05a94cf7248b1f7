-- The first anchor of an installation, and the sizes that it asks for.
use Rattle.std.specs.Prelude.{length, replicate, ℕ, ◌++◌, ◌+◌, ◌-◌, ◌<◌, ◌≡◌, ◌≤◌}
use Rattle.ol_chunks.specs.Limits.{IsConfig, chunk_count}
use Rattle.ol_chunks.specs.Places.{chunk_pages}
use Rattle.ol_values.specs.Config.{Config, config_text}
use Rattle.ol_reserve.specs.declared.anchor.Anchor.{Anchor}

-- on line, with incarnation 1, the empty journal, no known archive, and all spaces up
abbrev pub first_anchor : Config → Anchor
first_anchor c = record {
  state = 1;
  serial = 1;
  incarnation = 1;
  position = 0;
  generation = 1;
  next_archive = 1;
  backed = 0;
  uniq = 1;
  need = 1;
  states = replicate (length c.spaces) 1 ++ replicate (16 - length c.spaces) 0;
  down_at = replicate 16 0;
  zero = replicate 16 (0, 0);
  one = replicate 16 (0, 0);
  text = config_text c;
}

-- an anchor is the first one of a configuration that an installation may have
abbrev pub IsFirstOf : Config → Anchor → Type 0
IsFirstOf c a = IsConfig c × (a ≡ first_anchor c)

-- the number of all chunks, the temporary one among them
abbrev pub chunks_of : Config → ℕ
chunks_of c = chunk_count c.spaces + 1

-- no chunk below this number has fewer pages than the configuration says
abbrev pub AreLarge : (ℕ → ℕ) → Config → ℕ → Type 0
AreLarge sizes c n = (chunk : ℕ) → chunk < n → chunk_pages c chunk ≤ sizes chunk

-- the chunk is the first that has fewer
pub record IsFirstSmall (sizes : ℕ → ℕ) (c : Config) (chunk : ℕ) : Type 0 where
  pub there : chunk < chunks_of c
  pub small : sizes chunk < chunk_pages c chunk
  pub before : AreLarge sizes c chunk
