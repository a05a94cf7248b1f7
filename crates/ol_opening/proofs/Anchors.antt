-- The anchor that is read, and what follows of it and its configuration.
use Rattle.std.specs.Prelude.{Ok, Some, length, refl, suc, true, zero, ℕ, ◌<◌, ◌≡◌, ◌≤◌, ◌^◌}
use Rattle.std.proofs.Common.{ap, arith, ◌∙◌}
use Rattle.std.proofs.lemmas.Bool.Decides.{nat_tests}
use Rattle.ol_values.specs.Config.{Config, config_text}
use Rattle.ol_anchor_opening.specs.Opening.{IsNewestRead, IsOnline}
use Rattle.ol_chunks.proofs.AgainLaws.{read_again}
use Rattle.ol_chunks.proofs.Chunks.{first_pages, has_chunk, logs_inside, up_to}
use Rattle.ol_chunks.specs.Limits.{IsConfig, chunk_count}
use Rattle.ol_chunks.specs.Places.{chunk_pages, first_chunk_number}
use Rattle.ol_chunks.specs.Reading.{config_in_text}
use Rattle.ol_format.specs.First.{AreLarge, chunks_of}
use Rattle.ol_log_places.specs.Places.{HasLog}
use Rattle.ol_ports.specs.Disk.{Bytes}
use Rattle.ol_reserve.specs.Anchor.{is_low}
use Rattle.ol_reserve.specs.Pair.{Newest, there}
use Rattle.ol_reserve.specs.declared.anchor.Anchor.{Anchor}
use Rattle.ol_reserve.proofs.PairLaws.{newest_kept, newest_one}
use Rattle.ol_storage.specs.Installation.{HasAll}

-- the anchor that was read is the newest
pub anchor_is : (sizes : ℕ → ℕ) (d : Bytes) (x a : Anchor) → IsNewestRead (there sizes d) d x → Newest d (Some a) → x ≡ a
anchor_is sizes d x a read newest = let one = newest_one d (Some x) (Some a) read.whole newest in cc

-- its configuration is the one of its text
pub config_is : (sizes : ℕ → ℕ) (x : Anchor) (c t : Config) → IsConfig c → IsOnline sizes x t → x.text ≡ config_text c → t ≡ c
config_is sizes x c t is online text =
    let again : config_in_text x.text ≡ Ok c = ap config_in_text text ∙ read_again c is in
    let read = online.read in cc

-- the numbers of an anchor that an opening takes are far from their bound
pub numbers_low : (a : Anchor) → is_low a ≡ true → (a.incarnation ≤ 2 ^ 62) × (a.uniq ≤ 2 ^ 62) × (a.backed < 2 ^ 62)
unfolding is_low
numbers_low a low = (grind (arith, nat_tests, low), grind (arith, nat_tests, low), grind (arith, nat_tests, low))

module _ (sizes : ℕ → ℕ) (c : Config) (is : IsConfig c) (large : AreLarge sizes c (chunks_of c)) where
  pub log_there : HasLog c sizes
  log_there =
      let chunk : first_chunk_number c c.log_space < chunk_count c.spaces = omega (arith, up_to c c.log_space is.log_space, has_chunk c is c.log_space is.log_space) in
      omega (arith, logs_inside c is, large (first_chunk_number c c.log_space) (omega (arith, chunk)))

pub all_there : (sizes : ℕ → ℕ) (a : Anchor) (c : Config) → IsOnline sizes a c → HasAll c sizes
all_there sizes a c online = record {
  log = log_there sizes c online.config online.large;
  spaces = λ chunk lt. online.large chunk (omega (arith, lt));
  pair = online.pair;
}

-- the newest anchor of all bytes is that of the pages that the disk has
pub newest_there : (sizes : ℕ → ℕ) (d : Bytes) (a : Anchor) → 2 ≤ sizes 0 → Newest d (Some a) → Newest (there sizes d) (Some a)
newest_there sizes d a pair newest = newest_kept (there sizes d) d (Some a) same newest
  where
    same : (page i : ℕ) → page < 2 → there sizes d 0 page i ≡ d 0 page i
    same page i lt = let in_pair : page < sizes 0 = omega (arith, pair, lt) in grind (arith, nat_tests)

-- a disk that has the chunks of a configuration has the pair
pub pair_there : (sizes : ℕ → ℕ) (c : Config) → IsConfig c → AreLarge sizes c (chunks_of c) → 2 ≤ sizes 0
pair_there sizes c is large =
    let some : 0 < length c.spaces = omega (arith, is.log_space) in
    let whole : 12 < chunk_pages c 0 = omega (arith, is.room 0 some, first_pages c is 0 some) in
    omega (arith, whole, large 0 (omega arith))

-- a number that is not 0
pub some_number : (n : ℕ) → (n ≡ 0 → ⊥) → 1 ≤ n
some_number zero other = absurd (other refl)
some_number (suc n) other = omega arith
