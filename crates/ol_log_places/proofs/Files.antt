-- How pages stand in their files, and what tells of their gates.
use Rattle.std.proofs.Common.{◌≡◌, ◌≢◌, ◌⊎◌, inl, inr, ⊎_elim, ℕ, ◌+◌, ◌-◌, ◌*◌, ◌<◌, ◌≤◌, Bool, true, false, List, length, get_or, refl, sym, ◌∙◌, ap, subst, arith}
use Rattle.std.proofs.lemmas.Bool.{cases_eq}
use Rattle.std.proofs.Math.Nat.{mul-le-mul_right}
use Rattle.ol_values.specs.declared.record.Record.{Record}
use Rattle.ol_values.specs.Config.{Config, log_pages}
use Rattle.ol_values.specs.LogPages.{LogPage}
use Rattle.ol_rules.specs.Ring.{file_of}
use Rattle.ol_ports.specs.Disk.{Bytes}
use Rattle.ol_log_places.specs.Places.{Bad, Closed, Open, Place, Shows, place_number, places}
use Rattle.ol_log_places.specs.Runs.{HoldsLog, IsLogged, IsNear, StandAtPlaces, Stands, end_of}
use Rattle.ol_log_places.specs.Writes.{GatesAre, IsFreeFile, IsGate, IsNext, IsShutFile, IsThinned, MayBeClosed, MayHavePage, is_in_file, with_page, without_file}
use Rattle.ol_log_places.proofs.Journals.{put_logged, put_near, thinned_logged, thinned_near}
use Rattle.ol_log_places.proofs.PlaceLaws.{open_place}
use Rattle.ol_log_places.proofs.WriteLaws.{file_in, in_file, with_other, with_same, without_in, without_out}

-- ---- a place is of one file and one index

decompose : (x y n i j : ℕ) → i < n → j < n → x * n + i ≡ y * n + j → (x ≡ y) × (i ≡ j)
decompose x y n i j li lj same = ⊎_elim (λ lt. absurd (less x y n i j li same lt)) (⊎_elim (λ e. (e, (let f = ap (λ z. z * n) e in omega (arith, f)))) (λ gt. absurd (less y x n j i lj (sym same) gt))) (split x y)
  where
    split : (a b : ℕ) → (a < b) ⊎ ((a ≡ b) ⊎ (b < a))
    split a b = grind arith

    less : (a b m k l : ℕ) → k < m → a * m + k ≡ b * m + l → a < b → ⊥
    less a b m k l lk e lt = let p : (a + 1) * m ≤ b * m = mul-le-mul_right m (omega arith) in omega (arith, p)

pub places_stand : (c : Config) (d : Bytes) → StandAtPlaces c (places c d)
places_stand c d place p lt is = open_place c d place p is

pub file_there : (c : Config) (place file : ℕ) (p : LogPage) → p.index < c.log_file_pages → place ≡ place_number c p.uniq p.index → file_of c p.uniq ≡ file → is_in_file c file place ≡ true
file_there c place file p below at same = let e = ap (λ (f : ℕ). f * c.log_file_pages) same in file_in c file place (omega (arith, at, e)) (omega (arith, at, e, below))

pub there_file : (c : Config) (place file : ℕ) (p : LogPage) → p.index < c.log_file_pages → place ≡ place_number c p.uniq p.index → is_in_file c file place ≡ true → file_of c p.uniq ≡ file
there_file c place file p below at in_it =
    let both = in_file c file place in_it in
    (decompose (file_of c p.uniq) file c.log_file_pages p.index (place - file * c.log_file_pages) below (omega (arith, both.0, both.1)) (omega (arith, at, both.0))).0

-- behind the last page of a file
pub closed_behind : (c : Config) (r : ℕ → Place) (j : ℕ → Record) (need upto : ℕ) (p : LogPage) → IsLogged c r j need upto → StandAtPlaces c r → Stands r (log_pages c) p → end_of p ≡ upto
    → (place : ℕ) → place < log_pages c → is_in_file c (file_of c p.uniq) place ≡ true → place_number c p.uniq p.index < place → r place ≡ Closed
closed_behind c r j need upto p log stand s end place below in_it behind = by_place (r place) refl
  where
    by_place : (here : Place) → r place ≡ here → here ≡ Closed
    by_place Closed is = refl
    by_place Bad is = absurd (log.orderly.good place below is)
    by_place (Open q) is =
        let t : Stands r (log_pages c) q = record { place = place; within = below; is = is } in
        let mine = stand s.place p s.within s.is in
        let its = stand place q below is in
        let file : file_of c q.uniq ≡ file_of c p.uniq = there_file c place (file_of c p.uniq) q its.0 its.1 in_it in
        let uniq = log.one_use q p t s file in
        let start = ap (λ (f : ℕ). f * c.log_file_pages) file in
        let order = log.order p q s t (inr (sym uniq, omega (arith, its.1, behind, start))) in
        let some = log.orderly.some place q below is in
        let last = log.covers.last q t in
        absurd (omega (arith, order, some, last, end))

-- ---- what a stop leaves

pub shown_logged : (c : Config) (r : ℕ → Place) (j : ℕ → Record) (need upto : ℕ) (d : Bytes) → IsLogged c r j need upto → Shows c d r → IsLogged c (places c d) j need upto
shown_logged c r j need upto d log shows = thinned_logged c need r (places c d) (λ k lt. inl (shows k lt)) j upto log

shown_near : (c : Config) (r : ℕ → Place) (uniq upto : ℕ) (d : Bytes) → IsNear c r uniq upto → Shows c d r → IsNear c (places c d) uniq upto
shown_near c r uniq upto d near shows = thinned_near c 0 r (places c d) (λ k lt. inl (shows k lt)) uniq upto near

pub holds_none : (c : Config) (r : ℕ → Place) (j : ℕ → Record) (need upto uniq : ℕ) (d : Bytes) → IsLogged c r j need upto → IsNear c r uniq upto → Shows c d r → HoldsLog c j need upto upto uniq d
holds_none c r j need upto uniq d log near shows = record { upto = upto; from = omega arith; to = omega arith; logged = shown_logged c r j need upto d log shows; near = shown_near c r uniq upto d near shows }

pub holds_page : (c : Config) (r : ℕ → Place) (j : ℕ → Record) (need place : ℕ) (p : LogPage) (uniq : ℕ) (d : Bytes) → IsNext c r j place p → IsLogged c r j need p.first → IsNear c r uniq p.first → uniq ≤ p.uniq + 1 → MayHavePage c r place p d
    → HoldsLog c j need p.first (end_of p) uniq d
holds_page c r j need place p uniq d next log near low (inl shows) = record { upto = p.first; from = omega arith; to = omega arith; logged = shown_logged c r j need p.first d log shows; near = shown_near c r uniq p.first d near shows }
holds_page c r j need place p uniq d next log near low (inr shows) = record {
  upto = end_of p;
  from = omega arith;
  to = omega arith;
  logged = shown_logged c (with_page r place p) j need (end_of p) d (put_logged c r j need place p next log) shows;
  near = shown_near c (with_page r place p) uniq (end_of p) d (put_near c r j need place p uniq next log low) shows;
}

pub holds_file : (c : Config) (r : ℕ → Place) (j : ℕ → Record) (need upto uniq file : ℕ) (d : Bytes) → IsFreeFile c need file r → IsLogged c r j need upto → IsNear c r uniq upto → MayBeClosed c r file d → HoldsLog c j need upto upto uniq d
holds_file c r j need upto uniq file d free log near may = record {
  upto = upto;
  from = omega arith;
  to = omega arith;
  logged = thinned_logged c need r (places c d) thin j upto log;
  near = thinned_near c need r (places c d) thin uniq upto near;
}
  where
    thin : IsThinned c need r (places c d)
    thin k lt = ⊎_elim (λ same. inl same) (λ shut. inr (shut.1, λ p is. free k p lt shut.0 is)) (may k lt)

pub holds_lower : (c : Config) (j : ℕ → Record) (need flushed total uniq lower : ℕ) (d : Bytes) → lower ≤ uniq → HoldsLog c j need flushed total uniq d → HoldsLog c j need flushed total lower d
holds_lower c j need flushed total uniq lower d le holds = record { upto = holds.upto; from = holds.from; to = holds.to; logged = holds.logged; near = λ p s end. let at = holds.near p s end in omega (arith, at, le) }

pub free_thinned : (c : Config) (need file : ℕ) (r : ℕ → Place) → IsFreeFile c need file r → IsThinned c need r (without_file c file r)
free_thinned c need file r free k lt = by_file (is_in_file c file k) refl
  where
    by_file : (b : Bool) → is_in_file c file k ≡ b → (without_file c file r k ≡ r k) ⊎ ((without_file c file r k ≡ Closed) × ((p : LogPage) → r k ≡ Open p → end_of p ≤ need))
    by_file true in_it = inr (without_in c file r k in_it, λ p is. free k p lt in_it is)
    by_file false out = inl (without_out c file r k out)

-- ---- gates

pub gates_page : (gates now : List Bool) (r : ℕ → Place) (place : ℕ) (p : LogPage) → GatesAre gates r → length now ≡ length gates → get_or now place false ≡ true → ((k : ℕ) → k ≢ place → get_or now k false ≡ get_or gates k false) → GatesAre now (with_page r place p)
gates_page gates now r place p are size here others k lt = elim (cases_eq k place) [
  | inl same ↦ subst (λ (x : ℕ). IsGate (get_or now x false) (with_page r place p x)) (sym same) (subst (λ (b : Bool). IsGate b (with_page r place p place)) (sym here) (λ shut. let clash : Open p ≡ Closed = sym (with_same r place p) ∙ shut in cc))
  | inr other ↦ subst (λ (b : Bool). IsGate b (with_page r place p k)) (sym (others k other)) (subst (IsGate (get_or gates k false)) (sym (with_other r place p k other)) (are k (omega (arith, lt, size))))
]

pub gates_file : (c : Config) (file : ℕ) (gates now : List Bool) (r : ℕ → Place) → GatesAre gates r → length now ≡ length gates → IsShutFile c file now → ((k : ℕ) → is_in_file c file k ≡ false → get_or now k false ≡ get_or gates k false) → GatesAre now (without_file c file r)
gates_file c file gates now r are size shut others k lt = by_file (is_in_file c file k) refl
  where
    by_file : (b : Bool) → is_in_file c file k ≡ b → IsGate (get_or now k false) (without_file c file r k)
    by_file true in_it = subst (λ (b : Bool). IsGate b (without_file c file r k)) (sym (shut k in_it)) (without_in c file r k in_it)
    by_file false out = subst (λ (b : Bool). IsGate b (without_file c file r k)) (sym (others k out)) (subst (IsGate (get_or gates k false)) (sym (without_out c file r k out)) (are k (omega (arith, lt, size))))
