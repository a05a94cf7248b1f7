-- Why calls on the parts of an installation failed, as the storage tells it.
use Rattle.std.specs.Prelude.{Err, nat_le, nat_lt, true, ℕ, ◌&&◌, ◌*◌, ◌+◌, ◌<◌, ◌==◌, ◌≡◌}
use Rattle.std.proofs.Common.{arith, refl, subst}
use Rattle.std.proofs.lemmas.Bool.{and_from, and_parts}
use Rattle.std.proofs.lemmas.Bool.Decides.{nat_tests}
use Rattle.ol_values.specs.Config.{Config}
use Rattle.ol_chunks.proofs.PartLaws.{part_inside}
use Rattle.ol_chunks.specs.Limits.{IsConfig, chunk_count}
use Rattle.ol_chunks.specs.Places.{chunk_pages, lies_in, log_area}
use Rattle.ol_chunks.specs.Places.Part.{Logs}
use Rattle.ol_chunks.specs.declared.table.Area.{Area}
use Rattle.ol_ports.specs.Causes.{HasChunkCause}
use Rattle.ol_store.specs.Causes.{HasStoreCause}
use Rattle.ol_store.specs.declared.store.StoreFault.TheVariants.{Failed as StoreFailed}
use Rattle.ol_storage.specs.Causes.{HasStorageCause}
use Rattle.ol_storage.specs.declared.storage.StorageFault.TheVariants.{Failed}

-- the first page of an area that has some lies in it
first_lies : (a : Area) → 0 < a.count * a.pages → lies_in a a.chunk a.first ≡ true
first_lies a some =
    and_from (a.chunk == a.chunk) (nat_le a.first a.first && nat_lt a.first (a.first + a.count * a.pages)) (grind (arith, nat_tests))
    (and_from (nat_le a.first a.first) (nat_lt a.first (a.first + a.count * a.pages)) (grind (arith, nat_tests)) (grind (arith, nat_tests, some)))

-- the log's chunk is one of a space
log_chunk : (c : Config) → IsConfig c → (log_area c).chunk < chunk_count c.spaces
log_chunk c is =
    let some : 0 < (log_area c).count * (log_area c).pages = grind (arith, is.log_files.0, is.log_file_pages.0) in
    let inside = part_inside c is Logs (λ e. cc) (log_area c).chunk (log_area c).first (first_lies (log_area c) some) in
    grind (arith, nat_tests, and_parts (nat_lt (log_area c).chunk (chunk_count c.spaces)) (nat_lt (log_area c).first (chunk_pages c (log_area c).chunk)) inside)

-- a call on the log failed
pub log_failed : {T U E : Type 0} (c : Config) → IsConfig c → (before now : ℕ → ℕ) (e : E) → HasChunkCause {T = T} (log_area c).chunk before now (Err e) → HasStorageCause {T = U} c before now (Err Failed)
log_failed c is before now e cause = record {
  later = cause.later;
  failed = λ same. ((log_area c).chunk, log_chunk c is, record { later = cause.later (log_area c).chunk; rose = cause.failed; others = cause.others });
  kept = λ none. absurd (none refl);
}

-- a call on the pages failed
pub store_failed : {T U : Type 0} (c d : Config) → c ≡ d → (before now : ℕ → ℕ) → HasStoreCause {T = T} c before now (Err StoreFailed) → HasStorageCause {T = U} d before now (Err Failed)
store_failed {T} {U} c d same before now cause =
    let here : HasStorageCause {T = U} c before now (Err Failed) = record { later = cause.later; failed = λ is. cause.failed refl; kept = λ none. absurd (none refl) } in
    subst (λ (k : Config). HasStorageCause {T = U} k before now (Err Failed)) same here

-- a call on the anchor pair failed
pub pair_failed : {T U E : Type 0} (c : Config) → IsConfig c → (before now : ℕ → ℕ) (e : E) → HasChunkCause {T = T} 0 before now (Err e) → HasStorageCause {T = U} c before now (Err Failed)
pair_failed c is before now e cause =
    let chunk : 0 < chunk_count c.spaces = omega (arith, log_chunk c is) in
    record {
      later = cause.later;
      failed = λ same. (0, chunk, record { later = cause.later 0; rose = cause.failed; others = cause.others });
      kept = λ none. absurd (none refl);
    }
