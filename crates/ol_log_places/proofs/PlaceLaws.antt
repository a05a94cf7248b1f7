-- What stands at a place, by its gate and its bytes.
use Rattle.std.proofs.Common.{◌≡◌, ◌≢◌, ℕ, zero, suc, ◌+◌, ◌<◌, Bool, true, false, ◌==◌, nat_lt, if◌then◌else◌, List, get_or, drop, refl, sym, ◌∙◌, ap, subst, arith}
use Rattle.std.specs.Prelude.{◌&&◌, is_some, map, slice_index}
use Rattle.std.specs.List.{range_with_len}
use Rattle.std.proofs.lemmas.Bool.{and_parts}
use Rattle.std.proofs.lemmas.Bool.Decides.{nat_tests}
use Rattle.std.proofs.lemmas.List.{get_or-drop}
use Rattle.ol_values.specs.Config.{Config, log_pages}
use Rattle.ol_values.specs.LogPages.{LogPage}
use Rattle.ol_record.specs.LogPages.{IsImage, IsLogPage, log_page_bytes, page_in}
use Rattle.ol_record.specs.PageReading.{page_at}
use Rattle.ol_record.proofs.Filled.{gate_first, length_page}
use Rattle.ol_record.proofs.Pages.{filling_from, page_in_back}
use Rattle.ol_record.proofs.Whole.{page_again}
use Rattle.ol_chunks.specs.Places.{log_area}
use Rattle.ol_ports.specs.Disk.{Bytes, is_within, page_list}
use Rattle.ol_ports.specs.Frames.{SameBut}
use Rattle.ol_ports.proofs.DiskLaws.{page_list-at, page_list-is, within-elsewhere, within-place}
use Rattle.ol_log_places.specs.Places.{Bad, Closed, Open, in_log, is_of_place, place_in, place_number, places}

-- ---- by the bytes

pub place_shut : (c : Config) (k : ℕ) (bytes : List ℕ) → slice_index bytes 0 ≢ 1 → place_in c k bytes ≡ Closed
unfolding place_in
place_shut c k bytes shut = let gate : (slice_index bytes 0 == 1) ≡ false = grind (arith, nat_tests) in rw gate refl

never_closed : (b : Bool) (p : LogPage) → (if b then Open p else Bad) ≡ Closed → ⊥
never_closed true p e = cc
never_closed false p e = cc

pub shut_place : (c : Config) (k : ℕ) (bytes : List ℕ) → place_in c k bytes ≡ Closed → slice_index bytes 0 ≢ 1
unfolding place_in
shut_place c k bytes is gate =
    let opened : (slice_index bytes 0 == 1) ≡ true = grind (arith, nat_tests) in
    never_closed (is_some (page_at bytes) && is_of_place c k (page_in bytes)) (page_in bytes) (rw opened at is)

pub place_open : (c : Config) (k : ℕ) (bytes : List ℕ) → slice_index bytes 0 ≡ 1 → is_some (page_at bytes) ≡ true → is_of_place c k (page_in bytes) ≡ true → place_in c k bytes ≡ Open (page_in bytes)
unfolding place_in
place_open c k bytes gate found here = let opened : (slice_index bytes 0 == 1) ≡ true = grind (arith, nat_tests) in rw (opened, found, here) refl

pub place_bad : (c : Config) (k : ℕ) (bytes : List ℕ) → slice_index bytes 0 ≡ 1 → (is_some (page_at bytes) && is_of_place c k (page_in bytes)) ≡ false → place_in c k bytes ≡ Bad
unfolding place_in
place_bad c k bytes gate not_found = let opened : (slice_index bytes 0 == 1) ≡ true = grind (arith, nat_tests) in rw (opened, not_found) refl

open_is : (b : Bool) (p q : LogPage) → (if b then Open q else Bad) ≡ Open p → (b ≡ true) × (q ≡ p)
open_is true p q e = (refl, cc)
open_is false p q e = absurd (cc)

pub open_parts : (c : Config) (k : ℕ) (bytes : List ℕ) (p : LogPage) → place_in c k bytes ≡ Open p → (page_in bytes ≡ p) × (is_some (page_at bytes) ≡ true) × (is_of_place c k p ≡ true)
unfolding place_in
open_parts c k bytes p is = by_gate (slice_index bytes 0 == 1) is
  where
    by_gate : (g : Bool) → (if g then (if is_some (page_at bytes) && is_of_place c k (page_in bytes) then Open (page_in bytes) else Bad) else Closed) ≡ Open p → (page_in bytes ≡ p) × (is_some (page_at bytes) ≡ true) × (is_of_place c k p ≡ true)
    by_gate false e = absurd (cc)
    by_gate true e =
        let o = open_is (is_some (page_at bytes) && is_of_place c k (page_in bytes)) p (page_in bytes) e in
        let both = and_parts (is_some (page_at bytes)) (is_of_place c k (page_in bytes)) o.0 in
        (o.1, both.0, subst (λ (q : LogPage). is_of_place c k q ≡ true) o.1 both.1)

-- a page stands at its place
pub place_of : (c : Config) (k : ℕ) (p : LogPage) → is_of_place c k p ≡ true → (p.index < c.log_file_pages) × (k ≡ place_number c p.uniq p.index)
unfolding is_of_place
place_of c k p is =
    let both = and_parts (nat_lt p.index c.log_file_pages) (k == place_number c p.uniq p.index) is in
    let below = both.0 in
    let same = both.1 in
    (grind (arith, nat_tests), grind (arith, nat_tests))

pub open_place : (c : Config) (d : Bytes) (k : ℕ) (p : LogPage) → places c d k ≡ Open p → (p.index < c.log_file_pages) × (k ≡ place_number c p.uniq p.index)
unfolding places
open_place c d k p is = place_of c k p (open_parts c k _ p is).2

pub page_there : (c : Config) (d : Bytes) (k : ℕ) (p : LogPage) → places c d k ≡ Open p → page_in (page_list d (log_area c).chunk ((log_area c).first + k)) ≡ p
unfolding places
page_there c d k p is = (open_parts c k _ p is).0

-- ---- by the disk

pub gate_of : (d : Bytes) (chunk page : ℕ) → slice_index (page_list d chunk page) 0 ≡ d chunk page 0
gate_of d chunk page = page_list-at d chunk page 0 (omega arith)

pub page_same : (d e : Bytes) (chunk page : ℕ) → ((i : ℕ) → d chunk page i ≡ e chunk page i) → page_list d chunk page ≡ page_list e chunk page
unfolding page_list
page_same d e chunk page same = ap (λ (b : ℕ → ℕ). map b (range_with_len 0 2048)) (λ t i. same i t)

module _ (c : Config) where
  abbrev chunk : ℕ
  chunk = (log_area c).chunk

  abbrev page : ℕ → ℕ
  page k = (log_area c).first + k

  pub gate_closed : (d : Bytes) (k : ℕ) → d (log_area c).chunk ((log_area c).first + k) 0 ≢ 1 → places c d k ≡ Closed
  unfolding places
  gate_closed d k shut = place_shut c k _ (λ gate. shut (sym (gate_of d (log_area c).chunk ((log_area c).first + k)) ∙ gate))

  pub closed_gate : (d : Bytes) (k : ℕ) → places c d k ≡ Closed → d (log_area c).chunk ((log_area c).first + k) 0 ≢ 1
  unfolding places
  closed_gate d k is gate = shut_place c k _ is (gate_of d (log_area c).chunk ((log_area c).first + k) ∙ gate)

  pub place_same : (d e : Bytes) (k : ℕ) → ((i : ℕ) → d (log_area c).chunk ((log_area c).first + k) i ≡ e (log_area c).chunk ((log_area c).first + k) i) → places c d k ≡ places c e k
  unfolding places
  place_same d e k same = ap (place_in c k) (page_same d e (log_area c).chunk ((log_area c).first + k) same)

  -- a write to one place leaves the others
  pub other_place : (k j at n : ℕ) (e d : Bytes) → SameBut (is_within (log_area c).chunk ((log_area c).first + k) at n) e d → j ≢ k → places c d j ≡ places c e j
  other_place k j at n e d same other =
      place_same d e j (λ i. same (log_area c).chunk ((log_area c).first + j) i (within-elsewhere (log_area c).chunk ((log_area c).first + k) at n (log_area c).chunk ((log_area c).first + j) i (λ _ is. other (omega arith))))

  -- a page written behind an open gate stands
  pub written : (d : Bytes) (k : ℕ) (bytes : List ℕ) → IsLogPage (page_in bytes) → IsImage bytes → is_of_place c k (page_in bytes) ≡ true → d (log_area c).chunk ((log_area c).first + k) 0 ≡ 1
      → ((i : ℕ) → i < 2047 → d (log_area c).chunk ((log_area c).first + k) (1 + i) ≡ get_or (drop 1 bytes) i 0) → places c d k ≡ Open (page_in bytes)
  unfolding places
  written d k bytes is image here gate body =
      let p : LogPage = page_in bytes in
      let whole : log_page_bytes 1 p ≡ page_list d (log_area c).chunk ((log_area c).first + k) = page_list-is d (log_area c).chunk ((log_area c).first + k) (log_page_bytes 1 p) (length_page 1 p (filling_from p is)) each in
      let back : page_in (log_page_bytes 1 p) ≡ p = page_in_back 1 p (filling_from p is) in
      let first : slice_index (page_list d (log_area c).chunk ((log_area c).first + k)) 0 ≡ 1 = gate_of d (log_area c).chunk ((log_area c).first + k) ∙ gate in
      subst (λ (l : List ℕ). slice_index l 0 ≡ 1 → place_in c k l ≡ Open p) whole
      (λ one. place_open c k (log_page_bytes 1 p) one (ap is_some (page_again 1 p is)) (subst (λ (q : LogPage). is_of_place c k q ≡ true) (sym back) here) ∙ ap Open back) first
    where
      gate_byte : ℕ
      gate_byte = slice_index bytes 0

      bodies : drop 1 bytes ≡ drop 1 (log_page_bytes 1 (page_in bytes))
      bodies = ap (drop 1) (image ∙ gate_first gate_byte (page_in bytes)) ∙ sym (ap (drop 1) (gate_first 1 (page_in bytes)))

      each : (i : ℕ) → i < 2048 → get_or (log_page_bytes 1 (page_in bytes)) i 0 ≡ d (log_area c).chunk ((log_area c).first + k) i
      each zero lt = ap (λ (l : List ℕ). get_or l 0 0) (gate_first 1 (page_in bytes)) ∙ sym gate
      each (suc i) lt =
          let at : 1 + i ≡ suc i = omega arith in
          sym (subst (λ (n : ℕ). d (log_area c).chunk ((log_area c).first + k) n ≡ get_or (log_page_bytes 1 (page_in bytes)) n 0) at
          (body i (omega arith) ∙ ap (λ (l : List ℕ). get_or l i 0) bodies ∙ get_or-drop 1 (log_page_bytes 1 (page_in bytes)) i 0))

  -- a page of a place is one of the log's
  pub in_the_log : (k at n : ℕ) → k < log_pages c → (b p i : ℕ) → in_log c b p ≡ false → is_within (log_area c).chunk ((log_area c).first + k) at n b p i ≡ false
  in_the_log k at n below b p i out = by_test (is_within (log_area c).chunk ((log_area c).first + k) at n b p i) refl
    where
      by_test : (t : Bool) → is_within (log_area c).chunk ((log_area c).first + k) at n b p i ≡ t → t ≡ false
      by_test false e = refl
      by_test true e =
          let place = within-place (log_area c).chunk ((log_area c).first + k) at n b p i e in
          let first = place.0 in
          let second = place.1 in
          let inside : in_log c b p ≡ true = grind (arith, nat_tests) in
          absurd (cc)
