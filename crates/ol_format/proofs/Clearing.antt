-- What the closing of the pair and the writes of zeros leave of a disk.
use Rattle.std.specs.Prelude.{◌≢◌, None}
use Rattle.std.proofs.Common.{◌≡◌, inl, inr, Bool, false, true, ℕ, zero, suc, ◌+◌, ◌==◌, ◌&&◌, ◌<◌, ◌≤◌, ◌∙◌, [], ◌∷◌, get_or, length, replicate, Result, Ok, Err, OnOk, is_ok, refl, sym, ap, subst, arith}
use Rattle.std.proofs.lemmas.Bool.{cases_eq}
use Rattle.std.proofs.lemmas.Bool.Decides.{nat_tests}
use Rattle.std.proofs.lemmas.List.{get_or-replicate, length-replicate}
use Rattle.ol_chunks.specs.Places.{chunk_pages}
use Rattle.ol_values.specs.Config.{Config}
use Rattle.ol_ports.specs.Disk.{Bytes, Past, Rest, Syncs, Writes, is_within, seen}
use Rattle.ol_ports.specs.Frames.{FramedAt, FramedIn, IsSettledIn, ReadsAs, in_chunk, in_pages}
use Rattle.ol_ports.specs.Stops.{Stops}
use Rattle.ol_ports.proofs.DiskLaws.{within-inside, within-place}
use Rattle.ol_ports.proofs.DiskSteps.{sync_settled, sync_shut}
use Rattle.ol_ports.proofs.FrameLaws.{framed_none, outside, settled_kept}
use Rattle.ol_ports.proofs.StopLaws.{reads_more, reads_synced, stops_both, stops_more, stops_none, stops_weaker}
use Rattle.ol_reserve.specs.Pair.{Newest}
use Rattle.ol_format.specs.Formatted.{AreZeroed, IsBlank, IsZeroed, first_page, in_first, is_gate, zeros}

-- ---- the gates of the pair

abbrev gate_of : ℕ → ℕ → ℕ → ℕ → Bool
gate_of page c p i = (c == 0) && (p == page) && (i == 0)

gate_inside : (page : ℕ) → page < 2 → (c p i : ℕ) → is_gate c p i ≡ false → is_within 0 page 0 1 c p i ≡ false
gate_inside page lt c p i out = outside (is_within 0 page 0 1 c p i) (is_gate c p i) inner out
  where
    inner : is_within 0 page 0 1 c p i ≡ true → is_gate c p i ≡ true
    inner w =
        let place = within-place 0 page 0 1 c p i w in
        let low : p < 2 = omega (arith, place.1, lt) in
        let first : i ≡ 0 = omega (arith, place.3) in
        let chunk : c ≡ 0 = place.0 in
        grind (arith, nat_tests)

-- a gate more is shut, whether or not the write succeeded
pub stops_gate : {E : Type 0} (old mid new : Past) (page : ℕ) (result : Result Unit E) → page < 2 → Stops old mid (FramedAt old is_gate) → Writes mid new 0 page 0 (0 ∷ []) result → Stops old new (FramedAt old is_gate)
stops_gate old mid new page result lt before w = stops_more old mid new 0 page 0 (0 ∷ []) result is_gate w (gate_inside page lt) before

pub gates_none : (past : Past) → Stops past past (FramedAt past is_gate)
gates_none past = stops_none past (FramedAt past is_gate) (λ d rest. framed_none past is_gate d rest)

zero_gate : (page i : ℕ) → i < length {A = ℕ} (0 ∷ []) → get_or (0 ∷ []) i 0 ≡ zeros 0 page (0 + i)
zero_gate page zero lt = refl
zero_gate page (suc i) lt = absurd (omega arith)

pub shut_both : {E F : Type 0} (old mid new : Past) (first : Result Unit E) (second : Result Unit F) → Writes old mid 0 0 0 (0 ∷ []) first → is_ok first ≡ true → Writes mid new 0 1 0 (0 ∷ []) second
    → OnOk second (ReadsAs is_gate zeros (seen new))
shut_both old mid new first (Err e) w good v = tt
shut_both old mid new first (Ok u) w good v =
    reads_more mid new 0 1 0 (0 ∷ []) (Ok u) (gate_of 0) is_gate zeros v refl (zero_gate 1) second_grown
    (reads_more old mid 0 0 0 (0 ∷ []) first (λ c p i. false) (gate_of 0) zeros w good (zero_gate 0) first_grown (λ c p i is lt. absurd (cc)))
  where
    first_grown : (c p i : ℕ) → gate_of 0 c p i ≡ true → i < 2048 → is_within 0 0 0 1 c p i ≡ false → false ≡ true
    first_grown c p i is lt out =
        let chunk : c ≡ 0 = grind (arith, nat_tests) in
        let page : p ≡ 0 = grind (arith, nat_tests) in
        let first : i ≡ 0 = grind (arith, nat_tests) in
        let here : is_within 0 0 0 1 c p i ≡ true = rw (chunk, page, first) (within-inside 0 0 0 1 0 (omega arith) (omega arith)) in
        sym out ∙ here

    second_grown : (c p i : ℕ) → is_gate c p i ≡ true → i < 2048 → is_within 0 1 0 1 c p i ≡ false → gate_of 0 c p i ≡ true
    second_grown c p i is lt out = elim (cases_eq p 1) [
      | inr differs ↦
          let chunk : c ≡ 0 = grind (arith, nat_tests) in
          let low : p < 2 = grind (arith, nat_tests) in
          let page : p ≡ 0 = omega (arith, low, differs) in
          let first : i ≡ 0 = grind (arith, nat_tests) in
          grind (arith, nat_tests)
      | inl page ↦
          let chunk : c ≡ 0 = grind (arith, nat_tests) in
          let first : i ≡ 0 = grind (arith, nat_tests) in
          let here : is_within 0 1 0 1 c p i ≡ true = rw (chunk, page, first) (within-inside 0 1 0 1 0 (omega arith) (omega arith)) in
          let never : false ≡ true = sym out ∙ here in
          absurd (cc)
    ]

pub blank_synced : {E : Type 0} (mid new : Past) (result : Result Unit E) → Syncs mid new 0 result → ReadsAs is_gate zeros (seen mid) → OnOk result (IsBlank new)
blank_synced mid new (Err e) s shut = tt
blank_synced mid new (Ok u) s shut = λ d rest page lt opened.
    let gate : is_gate 0 page 0 ≡ true = grind (arith, nat_tests) in
    let e : d 0 page 0 ≡ 0 = sync_shut mid new 0 (Ok u) s refl d rest page 0 ∙ shut 0 page 0 gate (omega arith) in
    omega (arith, e, opened)

-- ---- one page after another

page_inside : (chunk from page end c p i : ℕ) → from ≤ page → page < end → in_pages chunk from end c p ≡ false → is_within chunk page 0 (length {A = ℕ} (replicate 2048 0)) c p i ≡ false
page_inside chunk from page end c p i le lt out = outside (is_within chunk page 0 (length {A = ℕ} (replicate 2048 0)) c p i) (in_pages chunk from end c p) inner out
  where
    inner : is_within chunk page 0 (length {A = ℕ} (replicate 2048 0)) c p i ≡ true → in_pages chunk from end c p ≡ true
    inner w =
        let place = within-place chunk page 0 (length {A = ℕ} (replicate 2048 0)) c p i w in
        let at : c ≡ chunk = place.0 in
        let above : from ≤ p = omega (arith, place.1, le) in
        let below : p < end = omega (arith, place.1, lt) in
        grind (arith, nat_tests)

pub stops_page : {E : Type 0} (old mid new : Past) (chunk from page end : ℕ) (result : Result Unit E) → Writes mid new chunk page 0 (replicate 2048 0) result → from ≤ page → page < end
    → Stops old mid (FramedIn old (in_pages chunk from end)) → Stops old new (FramedIn old (in_pages chunk from end))
stops_page old mid new chunk from page end result w le lt before =
    stops_more old mid new chunk page 0 (replicate 2048 0) result (λ c p i. in_pages chunk from end c p) w (λ c p i out. page_inside chunk from page end c p i le lt out) before

pub pages_none : (past : Past) (is_in : ℕ → ℕ → Bool) → Stops past past (FramedIn past is_in)
pages_none past is_in = stops_none past (FramedIn past is_in) (λ d rest. framed_none past (λ c p i. is_in c p) d rest)

pub zeros_none : (chunk from : ℕ) (d : Bytes) → ReadsAs (λ c p i. in_pages chunk from from c p) zeros d
zeros_none chunk from d c p i is lt =
    let above : from ≤ p = grind (arith, nat_tests) in
    let below : p < from = grind (arith, nat_tests) in
    absurd (omega (arith, above, below))

pub zeros_more : {E : Type 0} (mid new : Past) (chunk from page : ℕ) (result : Result Unit E) → Writes mid new chunk page 0 (replicate 2048 0) result → is_ok result ≡ true
    → ReadsAs (λ c p i. in_pages chunk from page c p) zeros (seen mid) → ReadsAs (λ c p i. in_pages chunk from (page + 1) c p) zeros (seen new)
zeros_more mid new chunk from page result w good before =
    reads_more mid new chunk page 0 (replicate 2048 0) result (λ c p i. in_pages chunk from page c p) (λ c p i. in_pages chunk from (page + 1) c p) zeros w good
    (λ i lt. get_or-replicate 2048 i 0 0 (omega (arith, lt, long))) grown before
  where
    long : length {A = ℕ} (replicate 2048 0) ≡ 2048
    long = length-replicate {A = ℕ} 2048 0

    grown : (c p i : ℕ) → in_pages chunk from (page + 1) c p ≡ true → i < 2048 → is_within chunk page 0 (length {A = ℕ} (replicate 2048 0)) c p i ≡ false → in_pages chunk from page c p ≡ true
    grown c p i is lt out =
        let at : c ≡ chunk = grind (arith, nat_tests) in
        let above : from ≤ p = grind (arith, nat_tests) in
        let below : p < page + 1 = grind (arith, nat_tests) in
        elim (cases_eq p page) [
          | inr differs ↦ let earlier : p < page = omega (arith, below, differs) in grind (arith, nat_tests)
          | inl same ↦
              let here : is_within chunk page 0 (length {A = ℕ} (replicate 2048 0)) c p i ≡ true = rw (at, same) (within-inside chunk page 0 (length {A = ℕ} (replicate 2048 0)) i (omega arith) (omega (arith, lt, long))) in
              let never : false ≡ true = sym out ∙ here in
              absurd (cc)
        ]

pub zeros_upto : (chunk from page end : ℕ) (d : Bytes) → end ≤ page → ReadsAs (λ c p i. in_pages chunk from page c p) zeros d → ReadsAs (λ c p i. in_pages chunk from end c p) zeros d
zeros_upto chunk from page end d le reads c p i is lt =
    let at : c ≡ chunk = grind (arith, nat_tests) in
    let above : from ≤ p = grind (arith, nat_tests) in
    let below : p < end = grind (arith, nat_tests) in
    let earlier : p < page = omega (arith, below, le) in
    let wider : in_pages chunk from page c p ≡ true = grind (arith, nat_tests) in
    reads c p i wider lt

-- ---- a sync behind them

pub zeroed_synced : {E : Type 0} (mid new : Past) (chunk from end : ℕ) (result : Result Unit E) → Syncs mid new chunk result → ReadsAs (λ c p i. in_pages chunk from end c p) zeros (seen mid) → OnOk result (IsZeroed new chunk from end)
zeroed_synced mid new chunk from end result s reads = reads_synced mid new chunk result (λ c p i. in_pages chunk from end c p) zeros s one reads
  where
    one : (c p i : ℕ) → in_pages chunk from end c p ≡ true → c ≡ chunk
    one c p i is = grind (arith, nat_tests)

pub settled_synced : {E : Type 0} (mid new : Past) (chunk : ℕ) (result : Result Unit E) → Syncs mid new chunk result → OnOk result (IsSettledIn new (in_chunk chunk))
settled_synced mid new chunk (Err e) s = tt
settled_synced mid new chunk (Ok u) s = sync_settled mid new chunk (Ok u) s refl

-- ---- one chunk after another

pub zeroed_none : (past : Past) (c : Config) → IsBlank past → AreZeroed past c 0
zeroed_none past c blank = record { blank = blank; settled = λ d rest chunk p i is. absurd (let lt : chunk < 0 = grind (arith, nat_tests) in omega (arith, lt)); chunks = λ chunk lt. absurd (omega arith) }

behind_pair : (chunk end page : ℕ) → page < 2 → in_pages chunk (first_page chunk) end 0 page ≡ false
behind_pair zero end page lt = grind (arith, nat_tests)
behind_pair (suc chunk) end page lt = grind (arith, nat_tests)

-- what is zeroed of a blank disk leaves it blank
blank_framed : (past : Past) (chunk end : ℕ) (d : Bytes) → IsBlank past → FramedIn past (in_pages chunk (first_page chunk) end) d → (page : ℕ) → page < 2 → d 0 page 0 ≢ 1
blank_framed past chunk end d blank f page lt opened = blank f.origin f.rest page lt (sym (f.same 0 page 0 (behind_pair chunk end page lt)) ∙ opened)

zeroed_more : (old new : Past) (c : Config) (chunk : ℕ) → IsZeroed new chunk (first_page chunk) (chunk_pages c chunk) → IsSettledIn new (in_chunk chunk)
    → ((d : Bytes) → Rest new d → FramedIn old (in_pages chunk (first_page chunk) (chunk_pages c chunk)) d) → AreZeroed old c chunk → AreZeroed new c (chunk + 1)
zeroed_more old new c chunk now_zero settled frame before = record {
  blank = λ d rest page lt. blank_framed old chunk (chunk_pages c chunk) d before.blank (frame d rest) page lt;
  settled = all_settled;
  chunks = chunks;
}
  where
    elsewhere : (k p : ℕ) → (k ≡ chunk → ⊥) → in_pages chunk (first_page chunk) (chunk_pages c chunk) k p ≡ false
    elsewhere k p differs = grind (arith, nat_tests)

    all_settled : IsSettledIn new (in_first (chunk + 1))
    all_settled d rest k p i is = elim (cases_eq k chunk) [
      | inl same ↦ let here : (k == chunk) ≡ true = grind (arith, nat_tests) in settled d rest k p i here
      | inr differs ↦
          let lt : k < chunk + 1 = grind (arith, nat_tests) in
          let below : k < chunk = omega (arith, lt, differs) in
          let in_front : in_first chunk k p ≡ true = grind (arith, nat_tests) in
          (settled_kept old new (in_first chunk) (λ a b i. in_pages chunk (first_page chunk) (chunk_pages c chunk) a b) apart before.settled frame).0 d rest k p i in_front
    ]
      where
        apart : (a b i : ℕ) → in_first chunk a b ≡ true → in_pages chunk (first_page chunk) (chunk_pages c chunk) a b ≡ false
        apart a b i is =
            let lt : a < chunk = grind (arith, nat_tests) in
            let differs : a ≡ chunk → ⊥ = λ same. omega (arith, lt, same) in
            elsewhere a b differs

    chunks : (k : ℕ) → k < chunk + 1 → IsZeroed new k (first_page k) (chunk_pages c k)
    chunks k lt = elim (cases_eq k chunk) [
      | inl same ↦ subst (λ (n : ℕ). IsZeroed new n (first_page n) (chunk_pages c n)) (sym same) now_zero
      | inr differs ↦ λ d rest a p i is inside.
          let f = frame d rest in
          let at : a ≡ k = grind (arith, nat_tests) in
          let away : a ≡ chunk → ⊥ = λ same. differs (sym at ∙ same) in
          f.same a p i (elsewhere a p away) ∙ before.chunks k (omega (arith, lt, differs)) f.origin f.rest a p i is inside
    ]

pub zeroed_next : (old new : Past) (c : Config) (chunk from end : ℕ) → from ≡ first_page chunk → end ≡ chunk_pages c chunk → IsZeroed new chunk from end → IsSettledIn new (in_chunk chunk)
    → ((d : Bytes) → Rest new d → FramedIn old (in_pages chunk from end) d) → AreZeroed old c chunk → AreZeroed new c (chunk + 1)
zeroed_next old new c chunk from end begins ends now_zero settled frame before =
    zeroed_more old new c chunk (subst (λ (n : ℕ). IsZeroed new chunk n (chunk_pages c chunk)) begins (subst (λ (n : ℕ). IsZeroed new chunk from n) ends now_zero)) settled
    (λ d rest. subst (λ (n : ℕ). FramedIn old (in_pages chunk n (chunk_pages c chunk)) d) begins (subst (λ (n : ℕ). FramedIn old (in_pages chunk from n) d) ends (frame d rest)))
    before

-- ---- no anchor is there meanwhile

pub stops_blank : (past : Past) → IsBlank past → Stops past past (λ d. Newest d None)
stops_blank past blank = stops_none past (λ d. Newest d None) (λ d rest. (blank d rest 0 (omega arith), blank d rest 1 (omega arith)))

pub stops_chunk : (old mid new : Past) (chunk from end : ℕ) → from ≡ first_page chunk → IsBlank mid → Stops old mid (λ d. Newest d None) → Stops mid new (FramedIn mid (in_pages chunk from end)) → Stops old new (λ d. Newest d None)
stops_chunk old mid new chunk from end begins blank before frame =
    stops_both old mid new (λ d. Newest d None) before (stops_weaker mid new (FramedIn mid (in_pages chunk from end)) (λ d. Newest d None) none frame)
  where
    none : (d : Bytes) → FramedIn mid (in_pages chunk from end) d → Newest d None
    none d f =
        let g = subst (λ (n : ℕ). FramedIn mid (in_pages chunk n end) d) begins f in
        (blank_framed mid chunk end d blank g 0 (omega arith), blank_framed mid chunk end d blank g 1 (omega arith))
