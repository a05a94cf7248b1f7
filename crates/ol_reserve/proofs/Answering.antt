-- What reading the pair answers.
use Rattle.std.proofs.Common.{◌≡◌, inl, inr, ⊎_elim, ℕ, zero, suc, ◌-◌, ◌<◌, ◌≤◌, ◌∙◌, List, length, get_or, Err, Ok, OnOk, Result, None, Option, Some, ap, arith, false, true, refl, subst, sym}
use Rattle.std.specs.Prelude.{IsErrOf}
use Rattle.std.proofs.lemmas.Bool.{lt-ltb}
use Rattle.ol_ports.specs.Causes.{HasChunkCause}
use Rattle.ol_ports.specs.Disk.{Bytes, page_list}
use Rattle.ol_ports.proofs.DiskLaws.{length-page_list, page_list-at, page_list-is}
use Rattle.ol_reserve.specs.Anchor.{IsAnchor, anchor_bytes, is_low}
use Rattle.ol_reserve.specs.Pair.{AreLow, HasFaultCause, Holds, IsAnswer, IsDamaged, IsNewestAt, IsSpoilt, IsTold, Newest, TellsPage, there}
use Rattle.ol_reserve.specs.declared.anchor.Anchor.{Anchor}
use Rattle.ol_reserve.specs.declared.pair.ReserveFault.{ReserveFault}
use Rattle.ol_reserve.specs.declared.pair.ReserveFault.TheVariants.{BadDisk, Blank, DiskFault}
use Rattle.ol_reserve.proofs.PairLaws.{holds_open, lower, newest_one, one_held, shut_holds}
use Rattle.ol_reserve.proofs.Results.{anchor_is}
use Rattle.ol_reserve.proofs.Targets.{bytes_of_holder, gate_is}

-- ---- one page

pub list_there : (sizes : ℕ → ℕ) (d : Bytes) (page : ℕ) (buf : List ℕ) → page < sizes 0 → buf ≡ page_list d 0 page → buf ≡ page_list (there sizes d) 0 page
list_there sizes d page buf lt shows =
    page_list-is (there sizes d) 0 page buf (ap length shows ∙ length-page_list d 0 page) (λ i small. ap (λ (l : List ℕ). get_or l i 0) shows ∙ page_list-at d 0 page i small ∙ rw (lt-ltb page (sizes 0) lt) refl)

pub spoilt : (d : Bytes) (page : ℕ) (bytes : List ℕ) → bytes ≡ page_list d 0 page → get_or bytes 0 0 ≡ 1 → ((a : Anchor) → IsAnchor a → bytes ≡ anchor_bytes 1 a → is_low a ≡ false) → IsSpoilt d page
spoilt d page bytes shows open_gate high = (sym (gate_is d page bytes shows) ∙ open_gate, λ a holds. high a holds.anchor (bytes_of_holder d page bytes a shows holds))

-- a page that was told is not spoilt, and its anchor is one that an opening takes
pub not_spoilt : (d : Bytes) (page : ℕ) (bytes : List ℕ) (serial : Option ℕ) → TellsPage d page bytes serial → IsSpoilt d page → ⊥
not_spoilt d page bytes None shut bad = shut bad.0
not_spoilt d page bytes (Some x) p bad = let high : false ≡ true = sym (bad.1 p.0 p.1) ∙ p.4 in absurd (cc)

low_page : (d : Bytes) (page : ℕ) (bytes : List ℕ) (serial : Option ℕ) → TellsPage d page bytes serial → (a : Anchor) → Holds d page a → is_low a ≡ true
low_page d page bytes None shut a holds = absurd (holds_open d page a holds shut)
low_page d page bytes (Some x) p a holds = ap is_low (one_held d page a p.0 holds p.1) ∙ p.4

pub are_low : (d : Bytes) (b0 b1 : List ℕ) (x y : Option ℕ) → TellsPage d 0 b0 x → TellsPage d 1 b1 y → AreLow d
are_low d b0 b1 x y p q zero a lt holds = low_page d 0 b0 x p a holds
are_low d b0 b1 x y p q (suc zero) a lt holds = low_page d 1 b1 y q a holds
are_low d b0 b1 x y p q (suc (suc n)) a lt holds = absurd (omega arith)

-- ---- both pages

pub first_newest : (d : Bytes) (b0 b1 : List ℕ) (x y : ℕ) → y < x → TellsPage d 0 b0 (Some x) → TellsPage d 1 b1 (Some y) → IsTold d b0
first_newest d b0 b1 x y lt p q = (p.0, (0, record { pair = omega arith; holds = p.1; other = inr (q.0, q.1, omega (arith, p.2, q.2)) }), p.3, are_low d b0 b1 (Some x) (Some y) p q)

pub second_newest : (d : Bytes) (b0 b1 : List ℕ) (x y : ℕ) → x ≤ y → (x ≡ y → ⊥) → TellsPage d 0 b0 (Some x) → TellsPage d 1 b1 (Some y) → IsTold d b1
second_newest d b0 b1 x y le ne p q =
    let lt : x < y = omega (arith, le, ne) in
    (q.0, (1, record { pair = omega arith; holds = q.1; other = inr (p.0, p.1, omega (arith, p.2, q.2)) }), q.3, are_low d b0 b1 (Some x) (Some y) p q)

pub same_serials : (d : Bytes) (b0 b1 : List ℕ) (x y : ℕ) → x ≡ y → TellsPage d 0 b0 (Some x) → TellsPage d 1 b1 (Some y) → IsDamaged d 1
same_serials d b0 b1 x y same p q = inr (refl, (p.0, q.0, p.1, q.1, p.2 ∙ same ∙ sym q.2))

-- one page is open alone
pub first_alone : (d : Bytes) (b0 b1 : List ℕ) (x : ℕ) → TellsPage d 0 b0 (Some x) → TellsPage d 1 b1 None → IsTold d b0
first_alone d b0 b1 x p shut = (p.0, (0, record { pair = omega arith; holds = p.1; other = inl shut }), p.3, are_low d b0 b1 (Some x) None p shut)

pub second_alone : (d : Bytes) (b0 b1 : List ℕ) (y : ℕ) → TellsPage d 0 b0 None → TellsPage d 1 b1 (Some y) → IsTold d b1
second_alone d b0 b1 y shut q = (q.0, (1, record { pair = omega arith; holds = q.1; other = inl shut }), q.3, are_low d b0 b1 None (Some y) shut q)

-- ---- counts of faults

pub fault_cause : {T E : Type 0} (before now : ℕ → ℕ) (e : E) → HasChunkCause {T = Unit {0}} {E = E} 0 before now (Err e) → HasFaultCause {T = T} before now (Err (DiskFault 0))
fault_cause before now e cause = record {
  later = cause.later;
  fault = λ chunk is. (let zero_chunk : chunk ≡ 0 = cc in zero_chunk, record { later = cause.later 0; rose = cause.failed; others = cause.others });
  kept = λ none. absurd (none 0 refl);
}

-- ---- a pair that is not damaged has one answer

newest_bytes : (d : Bytes) (a : Anchor) (bytes : List ℕ) → Newest d (Some a) → IsTold d bytes → bytes ≡ anchor_bytes 1 a
newest_bytes d a bytes is told =
    let found : Option Anchor = Some told.0 in
    let wanted : Option Anchor = Some a in
    let same : found ≡ wanted = newest_one d (Some told.0) (Some a) told.1 is in
    told.2 ∙ ap (λ (x : Anchor). anchor_bytes 1 x) (anchor_is told.0 a same)

-- a damaged page is not beside or at a newest anchor
damaged_none : (d : Bytes) (page : ℕ) → page < 2 → IsDamaged d page → Newest d None → ⊥
damaged_none d zero lt (inl bad) none = none.0 bad.0
damaged_none d (suc zero) lt (inl bad) none = none.1 bad.0
damaged_none d (suc (suc n)) lt (inl bad) none = omega arith
damaged_none d page lt (inr same) none = holds_open d 0 same.1.0 same.1.2 none.0

at_or_beside : (d : Bytes) (page q : ℕ) (a : Anchor) → page < 2 → IsNewestAt d q a → d 0 page 0 ≡ 1 → (b : Anchor) × Holds d page b
at_or_beside d zero zero a lt is opened = (a, is.holds)
at_or_beside d (suc zero) (suc zero) a lt is opened = (a, is.holds)
at_or_beside d zero (suc zero) a lt is opened = ⊎_elim (λ shut. absurd (shut opened)) (λ older. (older.0, older.1)) is.other
at_or_beside d (suc zero) zero a lt is opened = ⊎_elim (λ shut. absurd (shut opened)) (λ older. (older.0, older.1)) is.other
at_or_beside d (suc (suc n)) q a lt is opened = absurd (omega arith)
at_or_beside d page (suc (suc n)) a lt is opened = absurd (let p = is.pair in omega arith)

serials_differ : (d : Bytes) (q : ℕ) (a x y : Anchor) → IsNewestAt d q a → Holds d 0 x → Holds d 1 y → x.serial ≡ y.serial → ⊥
serials_differ d zero a x y is p r same = omega (arith, lower d 0 a y is r, ap (λ (b : Anchor). b.serial) (one_held d 0 a x is.holds p))
serials_differ d (suc zero) a x y is p r same = omega (arith, lower d 1 a x is p, ap (λ (b : Anchor). b.serial) (one_held d 1 a y is.holds r))
serials_differ d (suc (suc n)) a x y is p r same = let q = is.pair in omega arith

damaged_some : (d : Bytes) (page : ℕ) (a : Anchor) → AreLow d → page < 2 → IsDamaged d page → Newest d (Some a) → ⊥
damaged_some d page a low lt (inl bad) is =
    let b = at_or_beside d page is.0 a lt is.1 bad.0 in
    let high : false ≡ true = sym (bad.1 b.0 b.1) ∙ low page b.0 lt b.1 in
    absurd (cc)
damaged_some d page a low lt (inr same) is = serials_differ d is.0 a same.1.0 same.1.1 is.1 same.1.2 same.1.3 same.1.4

pub answer_from : (d : Bytes) (now : Option Anchor) (bytes : List ℕ) (result : Result (Unit {0}) ReserveFault) → AreLow d → Newest d now → OnOk result (IsTold d bytes)
    → (IsErrOf result Blank → Newest d None) → ((chunk page : ℕ) → IsErrOf result (BadDisk chunk page) → IsDamaged d page) → ((chunk page : ℕ) → IsErrOf result (BadDisk chunk page) → (chunk ≡ 0) × (page < 2)) → ((chunk : ℕ) → IsErrOf result (DiskFault chunk) → chunk ≡ 0)
    → IsAnswer now bytes result
answer_from d None bytes (Ok u) low is told blank bad place fault = shut_holds d told.0 told.1.0 told.1.1 is
answer_from d (Some a) bytes (Ok u) low is told blank bad place fault = newest_bytes d a bytes is told
answer_from d None bytes (Err Blank) low is told blank bad place fault = tt
answer_from d (Some a) bytes (Err Blank) low is told blank bad place fault = shut_holds d a is.0 is.1 (blank refl)
answer_from d None bytes (Err (BadDisk chunk page)) low is told blank bad place fault = damaged_none d page (place chunk page refl).1 (bad chunk page refl) is
answer_from d (Some a) bytes (Err (BadDisk chunk page)) low is told blank bad place fault = damaged_some d page a low (place chunk page refl).1 (bad chunk page refl) is
answer_from d None bytes (Err (DiskFault chunk)) low is told blank bad place fault = fault chunk refl
answer_from d (Some a) bytes (Err (DiskFault chunk)) low is told blank bad place fault = fault chunk refl

-- the same of a page that could not be told
pub answer_fault : {T : Type 0} (d : Bytes) (now : Option Anchor) (bytes : List ℕ) (fault : ReserveFault) → AreLow d → Newest d now → (IsErrOf {T = T} (Err fault) Blank → ⊥) → ((chunk page : ℕ) → IsErrOf {T = T} (Err fault) (BadDisk chunk page) → IsDamaged d page)
    → ((chunk page : ℕ) → IsErrOf {T = T} (Err fault) (BadDisk chunk page) → page < 2) → ((chunk : ℕ) → IsErrOf {T = T} (Err fault) (DiskFault chunk) → chunk ≡ 0) → IsAnswer now bytes (Err fault)
answer_fault d now bytes Blank low is blank bad place fault = absurd (blank refl)
answer_fault d None bytes (BadDisk chunk page) low is blank bad place fault = damaged_none d page (place chunk page refl) (bad chunk page refl) is
answer_fault d (Some a) bytes (BadDisk chunk page) low is blank bad place fault = damaged_some d page a low (place chunk page refl) (bad chunk page refl) is
answer_fault d None bytes (DiskFault chunk) low is blank bad place fault = fault chunk refl
answer_fault d (Some a) bytes (DiskFault chunk) low is blank bad place fault = fault chunk refl
