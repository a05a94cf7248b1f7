-- What was read of the entries, and their images.
use Rattle.std.proofs.Common.{◌≡◌, ◌⊎◌, ⊎_elim, Err, List, Result, ap, arith, length, refl, subst, sym, ℕ, ◌+◌, ◌<◌, ◌≤◌, ◌∙◌}
use Rattle.std.specs.Prelude.{IsErrOf}
use Rattle.ol_values.specs.Config.{Config}
use Rattle.ol_chunks.specs.Limits.{IsConfig, chunk_count}
use Rattle.ol_chunks.specs.Places.{physical_area}
use Rattle.ol_chunks.proofs.Chunks.{has_chunk, physical_inside, up_to}
use Rattle.ol_ports.specs.Disk.{Bytes}
use Rattle.ol_physlog.specs.Places.{Counts, HasArea, entry_at}
use Rattle.ol_physlog.specs.Reading.{Found, HasReadCause, IsFound, IsRefused, Tells, found_place}
use Rattle.ol_physlog.specs.States.{image_at}
use Rattle.ol_physlog.specs.declared.place.Place.{Place}
use Rattle.ol_physlog.specs.declared.reading.PhysFault.{PhysFault}
use Rattle.ol_physlog.specs.declared.reading.PhysFault.TheVariants.{DiskFault as LogFault}
use Rattle.ol_data_pages.specs.Places.{HasSpaces}
use Rattle.ol_store.specs.Stores.{IsImage}
use Rattle.ol_page_opening.specs.Opening.{AreGood, AreImages, HasPageOpenCause}
use Rattle.ol_page_opening.specs.declared.pages.PageOpenFault.{PageOpenFault}
use Rattle.ol_page_opening.specs.declared.pages.PageOpenFault.TheVariants.{DiskFault, Failed}

-- ---- one image after another

last_or_before : (j n : ℕ) → j < n + 1 → (j < n) ⊎ (j ≡ n)
last_or_before j n lt = grind (arith, lt)

pub none_before : (f : Found) → AreImages f 0
none_before f i lt = absurd (omega (arith, lt))

pub one_more : (f : Found) (n : ℕ) → AreImages f n → IsImage (image_at f.images n) → AreImages f (n + 1)
one_more f n before here i lt = ⊎_elim (λ earlier. before i earlier) (λ same. subst (λ (k : ℕ). IsImage (image_at f.images k)) (sym same) here) (last_or_before i n lt)

pub all_of : (f : Found) (n : ℕ) → length f.numbers ≤ n → AreImages f n → AreImages f (length f.numbers)
all_of f n le are i lt = are i (omega (arith, le, lt))

-- ---- the area

-- the physical log lies in a chunk of a space
pub log_chunk : (c : Config) → IsConfig c → (physical_area c).chunk < chunk_count c.spaces
log_chunk c is = omega (arith, up_to c c.physical_space is.physical_space, has_chunk c is c.physical_space is.physical_space)

-- and the disk has all of it
pub has_area : (c : Config) → IsConfig c → (sizes : ℕ → ℕ) → HasSpaces c sizes → HasArea (physical_area c) sizes
has_area c is sizes has = omega (arith, has (physical_area c).chunk (log_chunk c is), physical_inside c is)

-- ---- what counts

counts_parts : (p q : Place) (l m : List ℕ) → Counts p l ≡ Counts q m → (p ≡ q) × (l ≡ m)
counts_parts p q l m e = (cc, cc)

module _ (c : Config) (g : ℕ) (d : Bytes) (f : Found) (found : IsFound f) (tells : Tells c (physical_area c) g d f) (all : length f.gates ≡ (physical_area c).count) where
  -- where each image that was read is one, each entry is good
  pub are_good : ((k : ℕ) → k < (physical_area c).count → IsRefused c (physical_area c) g d k → ⊥) → AreImages f (length f.numbers) → AreGood c g d
  are_good heads images = record {
    heads = heads;
    images = λ k lt bad.
        ⊎_elim
        (λ h.
        let here = ap (λ (n : ℕ). entry_at c (physical_area c) g d n) h.2 ∙ bad.counts in
        let same = (counts_parts (found_place f h.0) bad.place (image_at f.images h.0) bad.bytes (sym (tells.counts h.0 h.1) ∙ here)).1 in
        let image = images h.0 h.1 in
        bad.none image.0 image.1 (sym same ∙ image.2))
        (λ h.
        let here = ap (λ (n : ℕ). entry_at c (physical_area c) g d n) h.2 ∙ bad.counts in
        let clash = sym (tells.idle h.0 h.1) ∙ here in
        cc)
        (found.all k (omega (arith, lt, all)));
  }

-- ---- faults

-- a failed read of the log
pub read_fault : {S T : Type 0} (c : Config) → IsConfig c → (before now : ℕ → ℕ) (chunk : ℕ) → HasReadCause {T = S} c before now (Err (LogFault chunk)) → HasPageOpenCause {T = T} c before now (Err (DiskFault chunk))
read_fault {S = S} c is before now chunk cause = record {
  later = cause.later;
  fault = λ k e.
      let same : chunk ≡ k = cc in
      let here = cause.fault k (ap (λ (n : ℕ). let r : Result S PhysFault = Err (LogFault n) in r) same) in
      (here.0, subst (λ (n : ℕ). n < chunk_count c.spaces) (sym here.0) (log_chunk c is), here.1);
  failed = λ e. absurd (cc);
  kept = λ none failed. absurd (none chunk refl);
}

other_answer : {S T : Type 0} (e x : PageOpenFault) → IsErrOf {T = S} (Err e) x → IsErrOf {T = T} (Err e) x
other_answer {T = T} e x is = let same : e ≡ x = cc in ap (λ (y : PageOpenFault). let r : Result T PageOpenFault = Err y in r) same

-- the same fault as another answer
pub same_fault : {S T : Type 0} (c : Config) (before now : ℕ → ℕ) (e : PageOpenFault) → HasPageOpenCause {T = S} c before now (Err e) → HasPageOpenCause {T = T} c before now (Err e)
same_fault {S = S} {T = T} c before now e cause = record {
  later = cause.later;
  fault = λ chunk is. cause.fault chunk (other_answer {S = T} {T = S} e (DiskFault chunk) is);
  failed = λ is. cause.failed (other_answer {S = T} {T = S} e Failed is);
  kept = λ none failed. cause.kept (λ chunk is. none chunk (other_answer {S = S} {T = T} e (DiskFault chunk) is)) (λ is. failed (other_answer {S = S} {T = T} e Failed is));
}
