-- The log objects of needed positions by runs.
use Rattle.std.proofs.Common.{◌≡◌, ℕ, ◌+◌, ◌-◌, ◌<◌, ◌≤◌, ◌++◌, ◌∙◌, ◌⊎◌, Bool, Some, None, Option, List, [], ◌∷◌, ap, arith, cond, fold, inl, inr, leb, length, ltb, min, refl, subst, suc, sym, zero, true, false}
use Rattle.std.specs.List.{cons_option, range_with_len, take_while}
use Rattle.std.specs.Prelude.{filter_map, find, if◌then◌else◌, is_some, not, slice_get, ◌&&◌}
use Rattle.std.proofs.lemmas.Bool.{and_parts, cases_lt, eq-eqb, le-leb, le-ltb, leb-true, lt-leb, lt-ltb}
use Rattle.std.proofs.lemmas.List.{length_push}
use Rattle.std.proofs.lemmas.List.Sums.{take_while-cons}
use Rattle.ol_rules.specs.Plan.{needed}
use Rattle.ol_plan.specs.declared.logs.LogSpan.{LogSpan}
use Rattle.ol_plan.specs.Logs.{before_start, counts_at, further_of, goes_on, run_end, runs, short, span_at, with_run, with_span}

-- ---- one object stays the best

-- what stays of the best object at a later position
abbrev pub kept : ℕ → Option LogSpan → Option LogSpan
kept r None = None
kept r (Some b) = if leb r b.reach then Some b else None

-- no object begins between two positions
abbrev pub AreApart : ℕ → ℕ → List LogSpan → Type 0
AreApart p r [] = Unit {0}
AreApart p r (s ∷ logs) = ((s.first ≤ p) ⊎ (r < s.first)) × AreApart p r logs

stays : (r : ℕ) (b : LogSpan) → r ≤ b.reach → kept r (Some b) ≡ Some b
stays r b le = ap (λ t. if t then Some b else None) (le-leb r b.reach le)

gone : (r : ℕ) (b : LogSpan) → b.reach < r → kept r (Some b) ≡ None
gone r b lt = ap (λ t. if t then Some b else None) (lt-leb r b.reach lt)

skip : (q : ℕ) (y : Option LogSpan) (s : LogSpan) → q < s.first → with_span q y s ≡ y
skip q y s lt = ap (λ t. if t && leb q s.reach then further_of y s else y) (lt-leb s.first q lt)

counted : (q : ℕ) (y : Option LogSpan) (s : LogSpan) → s.first ≤ q → with_span q y s ≡ (if leb q s.reach then further_of y s else y)
counted q y s le = ap (λ t. if t && leb q s.reach then further_of y s else y) (le-leb s.first q le)

picked : (r : ℕ) (t : Bool) (s b : LogSpan) → r ≤ s.reach → r ≤ b.reach → kept r (if t then Some s else Some b) ≡ (if t then Some s else Some b)
picked r true s b one two = stays r s one
picked r false s b one two = stays r b two

further_kept : (r : ℕ) (x : Option LogSpan) (s : LogSpan) → r ≤ s.reach → further_of (kept r x) s ≡ kept r (further_of x s)
further_kept r None s le = sym (stays r s le)
further_kept r (Some b) s le =
    elim (cases_lt b.reach r) as (λ _. further_of (kept r (Some b)) s ≡ kept r (further_of (Some b) s)) [
      | inl low ↦
          ap (λ t. further_of (if t then Some b else None) s) (lt-leb r b.reach low)
          ∙ sym (ap (λ t. kept r (if t then Some s else Some b)) (lt-ltb b.reach s.reach (omega arith)) ∙ stays r s le)
      | inr high ↦
          ap (λ t. further_of (if t then Some b else None) s) (le-leb r b.reach high)
          ∙ sym (picked r (ltb b.reach s.reach) s b le high)
    ]

dropped : (r : ℕ) (x : Option LogSpan) (s : LogSpan) → s.reach < r → kept r (further_of x s) ≡ kept r x
dropped r None s lt = gone r s lt
dropped r (Some b) s lt =
    elim (cases_lt b.reach s.reach) as (λ _. kept r (further_of (Some b) s) ≡ kept r (Some b)) [
      | inl low ↦ ap (λ t. kept r (if t then Some s else Some b)) (lt-ltb b.reach s.reach low) ∙ gone r s lt ∙ sym (gone r b (omega arith))
      | inr high ↦ ap (λ t. kept r (if t then Some s else Some b)) (le-ltb b.reach s.reach high)
    ]

-- one step at both positions
kept_step : (p r : ℕ) (x : Option LogSpan) (s : LogSpan) → p ≤ r → (s.first ≤ p) ⊎ (r < s.first) → with_span r (kept r x) s ≡ kept r (with_span p x s)
kept_step p r x s le (inl first) =
    counted r (kept r x) s (omega arith)
    ∙ elim (cases_lt s.reach r) as (λ _. (if leb r s.reach then further_of (kept r x) s else kept r x) ≡ kept r (if leb p s.reach then further_of x s else x)) [
      | inl low ↦
          ap (λ t. if t then further_of (kept r x) s else kept r x) (lt-leb r s.reach low)
          ∙ elim (cases_lt s.reach p) as (λ _. kept r x ≡ kept r (if leb p s.reach then further_of x s else x)) [
            | inl below ↦ sym (ap (λ t. kept r (if t then further_of x s else x)) (lt-leb p s.reach below))
            | inr above ↦ sym (ap (λ t. kept r (if t then further_of x s else x)) (le-leb p s.reach above) ∙ dropped r x s low)
          ]
      | inr high ↦
          ap (λ t. if t then further_of (kept r x) s else kept r x) (le-leb r s.reach high)
          ∙ further_kept r x s high
          ∙ sym (ap (λ t. kept r (if t then further_of x s else x)) (le-leb p s.reach (omega arith)))
    ]
    ∙ sym (ap (kept r) (counted p x s first))
kept_step p r x s le (inr later) = skip r (kept r x) s later ∙ sym (ap (kept r) (skip p x s (omega arith)))

kept_all : (p r : ℕ) (x : Option LogSpan) (logs : List LogSpan) → p ≤ r → AreApart p r logs → fold (with_span r) (kept r x) logs ≡ kept r (fold (with_span p) x logs)
kept_all p r x [] le apart = refl
kept_all p r x (s ∷ logs) le apart =
    ap (λ y. fold (with_span r) y logs) (kept_step p r x s le apart.0) ∙ kept_all p r (with_span p x s) logs le apart.1

-- up to a run's end no object begins
apart_until : (p r limit : ℕ) (logs : List LogSpan) → r ≤ run_end logs p limit → (r ≤ limit) × AreApart p r logs
apart_until p r limit [] le = (le, tt)
apart_until p r limit (s ∷ logs) le =
    let rest = apart_until p r (before_start p limit s) logs le in
    let before : r ≤ before_start p limit s = rest.0 in
    elim (cases_lt p s.first) as (λ _. (r ≤ limit) × (((s.first ≤ p) ⊎ (r < s.first)) × AreApart p r logs)) [
      | inl lt ↦
          let e : before_start p limit s ≡ min limit (s.first - 1) = ap (λ t. if t then min limit (s.first - 1) else limit) (lt-ltb p s.first lt) in
          let both : r ≤ min limit (s.first - 1) = subst (λ n. r ≤ n) e before in
          (omega arith, (inr (omega arith), rest.1))
      | inr ge ↦
          let e : before_start p limit s ≡ limit = ap (λ t. if t then min limit (s.first - 1) else limit) (le-ltb p s.first ge) in
          (subst (λ n. r ≤ n) e before, (inl ge, rest.1))
    ]

-- a run goes on from its position
from_position : (p limit : ℕ) (logs : List LogSpan) → p ≤ limit → p ≤ run_end logs p limit
from_position p limit [] le = le
from_position p limit (s ∷ logs) le =
    from_position p (before_start p limit s) logs (
    elim (cases_lt p s.first) as (λ _. p ≤ before_start p limit s) [
      | inl lt ↦
          let both : p ≤ min limit (s.first - 1) = omega arith in
          subst (λ n. p ≤ n) (sym (ap (λ t. if t then min limit (s.first - 1) else limit) (lt-ltb p s.first lt))) both
      | inr ge ↦ subst (λ n. p ≤ n) (sym (ap (λ t. if t then min limit (s.first - 1) else limit) (le-ltb p s.first ge))) le
    ]
    )

-- what is best at a position counts there
abbrev Reaches : ℕ → Option LogSpan → Type 0
Reaches p None = Unit {0}
Reaches p (Some b) = p ≤ b.reach

reaches_further : (p : ℕ) (x : Option LogSpan) (s : LogSpan) → Reaches p x → p ≤ s.reach → Reaches p (further_of x s)
reaches_further p None s has le = le
reaches_further p (Some b) s has le = elim (ltb b.reach s.reach) as (λ t. Reaches p (if t then Some s else Some b)) [ true ↦ le | false ↦ has ]

reaches_step : (p : ℕ) (x : Option LogSpan) (s : LogSpan) → Reaches p x → Reaches p (with_span p x s)
reaches_step p x s has =
    elim (counts_at p s) as (λ t. counts_at p s ≡ t → Reaches p (if t then further_of x s else x)) [
      | true ↦ λ on. reaches_further p x s has (leb-true p s.reach ((and_parts (leb s.first p) (leb p s.reach) on).1))
      | false ↦ λ off. has
    ] refl

reaches_all : (p : ℕ) (x : Option LogSpan) (logs : List LogSpan) → Reaches p x → Reaches p (fold (with_span p) x logs)
reaches_all p x [] has = has
reaches_all p x (s ∷ logs) has = reaches_all p (with_span p x s) logs (reaches_step p x s has)

pub reaches : (logs : List LogSpan) (p : ℕ) (s : LogSpan) → span_at logs p ≡ Some s → p ≤ s.reach
reaches logs p s is = subst (Reaches p) is (reaches_all p None logs tt)

-- the best at a position is the best up to the end of its run
best_on : (logs : List LogSpan) (p r limit : ℕ) (s : LogSpan) → p ≤ r → r ≤ run_end logs p limit → limit ≤ s.reach → span_at logs p ≡ Some s → span_at logs r ≡ Some s
best_on logs p r limit s le inside within is =
    let parts = apart_until p r limit logs inside in
    let far : r ≤ limit = parts.0 in
    kept_all p r None logs le parts.1 ∙ ap (kept r) is ∙ stays r s (omega arith)

-- ---- the positions one by one

abbrev walked : (ℕ → Option LogSpan) → List LogSpan → List ℕ → List LogSpan
walked at taken positions = fold with_run taken (filter_map at (take_while (λ p. is_some (at p)) positions))

abbrev missed : (ℕ → Option LogSpan) → List ℕ → Option ℕ
missed at positions = find (λ p. not (is_some (at p))) positions

walked_one : (at : ℕ → Option LogSpan) (taken : List LogSpan) (p : ℕ) (positions : List ℕ) (s : LogSpan) → at p ≡ Some s → walked at taken (p ∷ positions) ≡ walked at (with_run taken s) positions
walked_one at taken p positions s is =
    ap (λ t. fold with_run taken (filter_map at t)) (take_while-cons (λ p. is_some (at p)) p positions ∙ ap (λ o. cond (is_some o) (p ∷ take_while (λ p. is_some (at p)) positions) []) is)
    ∙ ap (λ o. fold with_run taken (cons_option o (filter_map at (take_while (λ p. is_some (at p)) positions)))) is

missed_one : (at : ℕ → Option LogSpan) (p : ℕ) (positions : List ℕ) (s : LogSpan) → at p ≡ Some s → missed at (p ∷ positions) ≡ missed at positions
missed_one at p positions s is = ap (λ o. cond (not (is_some o)) (Some p) (missed at positions)) is

at_end : (l : List LogSpan) (s : LogSpan) → slice_get (l ++ s ∷ []) (length l) ≡ Some s
at_end [] s = refl
at_end (x ∷ l) s = at_end l s

pub last_push : (l : List LogSpan) (s : LogSpan) → slice_get (l ++ s ∷ []) (length (l ++ s ∷ []) - 1) ≡ Some s
last_push l s =
    let n : length (l ++ s ∷ []) - 1 ≡ length l = omega (arith, length_push l s) in
    ap (slice_get (l ++ s ∷ [])) n ∙ at_end l s

-- the same object once more is not taken again
again : (taken : List LogSpan) (s : LogSpan) → with_run (with_run taken s) s ≡ with_run taken s
again taken s =
    elim (goes_on (slice_get taken (length taken - 1)) s) as (λ t. goes_on (slice_get taken (length taken - 1)) s ≡ t
    → with_run (if t then taken else taken ++ s ∷ []) s ≡ (if t then taken else taken ++ s ∷ [])) [
      | true ↦ λ on. ap (λ t. if t then taken else taken ++ s ∷ []) on
      | false ↦ λ off.
          ap (λ o. if goes_on o s then taken ++ s ∷ [] else (taken ++ s ∷ []) ++ s ∷ []) (last_push taken s)
          ∙ ap (λ t. if t then taken ++ s ∷ [] else (taken ++ s ∷ []) ++ s ∷ []) (eq-eqb s.index s.index refl)
    ] refl

range_first : (p m n : ℕ) → m ≡ suc n → range_with_len p m ≡ p ∷ range_with_len (p + 1) n
range_first p m n e = ap (range_with_len p) e

same_range : (p q m n : ℕ) → p ≡ q → m ≡ n → range_with_len p m ≡ range_with_len q n
same_range p q m n e f = (ap (λ k. range_with_len k m) e) ∙ ap (range_with_len q) f

-- a run of positions that have one object
pub walked_run : (at : ℕ → Option LogSpan) (taken : List LogSpan) (p k n : ℕ) (s : LogSpan) → ((r : ℕ) → p ≤ r → r ≤ p + k → at r ≡ Some s)
    → walked at taken (range_with_len p (suc k + n)) ≡ walked at (with_run taken s) (range_with_len (p + suc k) n)
walked_run at taken p zero n s all =
    ap (walked at taken) (range_first p (suc zero + n) n (omega arith))
    ∙ walked_one at taken p (range_with_len (p + 1) n) s (all p (omega arith) (omega arith))
walked_run at taken p (suc k) n s all =
    ap (walked at taken) (range_first p (suc (suc k) + n) (suc k + n) (omega arith))
    ∙ walked_one at taken p (range_with_len (p + 1) (suc k + n)) s (all p (omega arith) (omega arith))
    ∙ walked_run at (with_run taken s) (p + 1) k n s (λ r from to. all r (omega arith) (omega arith))
    ∙ ap (λ t. walked at t (range_with_len (p + 1 + suc k) n)) (again taken s)
    ∙ ap (walked at (with_run taken s)) (same_range (p + 1 + suc k) (p + suc (suc k)) n n (omega arith) refl)

pub missed_run : (at : ℕ → Option LogSpan) (p k n : ℕ) (s : LogSpan) → ((r : ℕ) → p ≤ r → r ≤ p + k → at r ≡ Some s)
    → missed at (range_with_len p (suc k + n)) ≡ missed at (range_with_len (p + suc k) n)
missed_run at p zero n s all =
    ap (missed at) (range_first p (suc zero + n) n (omega arith))
    ∙ missed_one at p (range_with_len (p + 1) n) s (all p (omega arith) (omega arith))
missed_run at p (suc k) n s all =
    ap (missed at) (range_first p (suc (suc k) + n) (suc k + n) (omega arith))
    ∙ missed_one at p (range_with_len (p + 1) (suc k + n)) s (all p (omega arith) (omega arith))
    ∙ missed_run at (p + 1) k n s (λ r from to. all r (omega arith) (omega arith))
    ∙ ap (missed at) (same_range (p + 1 + suc k) (p + suc (suc k)) n n (omega arith) refl)

-- ---- the loop

-- what is taken up to a position, with what is needed from there on
pub record IsPart (logs : List LogSpan) (low end_ : ℕ) (taken : List LogSpan) (position : ℕ) : Type 0 where
  pub rest : walked (span_at logs) taken (needed position end_) ≡ runs logs low end_
  pub behind : missed (span_at logs) (needed position end_) ≡ short logs low end_

-- a run ends at its position or behind it, and by the end
pub ahead : (logs : List LogSpan) (p end_ : ℕ) (s : LogSpan) → span_at logs p ≡ Some s → p ≤ end_ → p ≤ run_end logs p (min s.reach end_)
ahead logs p end_ s is le =
    let far : p ≤ s.reach = reaches logs p s is in
    from_position p (min s.reach end_) logs (omega arith)

pub by_end : (logs : List LogSpan) (p limit : ℕ) → run_end logs p limit ≤ limit
by_end logs p limit = (apart_until p (run_end logs p limit) limit logs (omega arith)).0

run_from : (logs : List LogSpan) (low end_ : ℕ) (taken : List LogSpan) (p : ℕ) (s : LogSpan) (q : ℕ) → p ≤ q → q ≤ min s.reach end_ → ((r : ℕ) → p ≤ r → r ≤ q → span_at logs r ≡ Some s)
    → IsPart logs low end_ taken p → IsPart logs low end_ (with_run taken s) (q + 1)
run_from logs low end_ taken p s q on to all part =
    let first : range_with_len p (end_ + 1 - p) ≡ range_with_len p (suc (q - p) + (end_ - q)) = same_range p p _ _ refl (omega arith) in
    let rest : range_with_len (p + suc (q - p)) (end_ - q) ≡ range_with_len (q + 1) (end_ + 1 - (q + 1)) = same_range _ _ _ _ (omega arith) (omega arith) in
    let each : (r : ℕ) → p ≤ r → r ≤ p + (q - p) → span_at logs r ≡ Some s = λ r from until. all r from (omega arith) in
    record {
      rest =
          sym (ap (walked (span_at logs) taken) first ∙ walked_run (span_at logs) taken p (q - p) (end_ - q) s each ∙ ap (walked (span_at logs) (with_run taken s)) rest)
          ∙ part.rest;
      behind =
          sym (ap (missed (span_at logs)) first ∙ missed_run (span_at logs) p (q - p) (end_ - q) s each ∙ ap (missed (span_at logs)) rest)
          ∙ part.behind;
    }

pub one_run : (logs : List LogSpan) (low end_ : ℕ) (taken : List LogSpan) (p : ℕ) (s : LogSpan) → p ≤ end_ → span_at logs p ≡ Some s → IsPart logs low end_ taken p
    → IsPart logs low end_ (with_run taken s) (run_end logs p (min s.reach end_) + 1)
one_run logs low end_ taken p s le is part =
    let q : ℕ = run_end logs p (min s.reach end_) in
    let on : p ≤ q = ahead logs p end_ s is le in
    let to : q ≤ min s.reach end_ = by_end logs p (min s.reach end_) in
    run_from logs low end_ taken p s q on to (λ r from until. best_on logs p r (min s.reach end_) s from until (omega arith) is) part
