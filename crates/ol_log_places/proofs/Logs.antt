-- The open pages as a list: which stand in it, the one that ends last, the one that ends just before another, and the way back.
use Rattle.std.proofs.Common.{◌≡◌, ◌≢◌, ◌⊎◌, inl, inr, ⊎_elim, ℕ, zero, suc, ◌+◌, ◌<◌, ◌≤◌, Bool, true, false, ◌==◌, nat_lt, if◌then◌else◌, List, [], ◌∷◌, ◌++◌, length, Option, Some, None, refl, sym, ◌∙◌, ap, subst, arith}
use Rattle.std.specs.Prelude.{find, fold}
use Rattle.std.proofs.lemmas.Bool.Decides.{nat_tests}
use Rattle.ol_values.specs.Config.{Config}
use Rattle.ol_values.specs.LogPages.{LogPage, last_in}
use Rattle.ol_rules.specs.DiskValue.{OpenLog, before_log, later_log, run_to}
use Rattle.ol_log_places.specs.Places.{Bad, Closed, Open, Place}
use Rattle.ol_log_places.specs.Runs.{Chain, Stands, end_of, log_of, logs_below, with_place}

pub compare : (m k : ℕ) → (m < k) ⊎ (k ≤ m)
compare m k = grind arith

-- ---- membership

unfoldable pub In : OpenLog → List OpenLog → Type 0
In l [] = ⊥
In l (x ∷ xs) = (x ≡ l) ⊎ In l xs

pub in_left : (l : OpenLog) (xs ys : List OpenLog) → In l xs → In l (xs ++ ys)
unfolding In
in_left l [] ys i = absurd i
in_left l (x ∷ xs) ys i = ⊎_elim (λ e. inl e) (λ j. inr (in_left l xs ys j)) i

pub in_last : (l : OpenLog) (xs : List OpenLog) → In l (xs ++ l ∷ [])
unfolding In
in_last l [] = inl refl
in_last l (x ∷ xs) = inr (in_last l xs)

pub in_either : (l m : OpenLog) (xs : List OpenLog) → In l (xs ++ m ∷ []) → (m ≡ l) ⊎ In l xs
unfolding In
in_either l m [] i = ⊎_elim (λ e. inl e) (λ no_. absurd no_) i
in_either l m (x ∷ xs) i = ⊎_elim (λ e. inr (inl e)) (λ j. ⊎_elim (λ e. inl e) (λ k. inr (inr k)) (in_either l m xs j)) i

-- a page stands where its log is in the list, and the other way round
module _ (c : Config) (r : ℕ → Place) where
  last_place : (n k : ℕ) → k < suc n → (k ≡ n) ⊎ (k < n)
  last_place n k lt = grind arith

  in_below : (n : ℕ) (p : LogPage) (here : Place) → r n ≡ here → Stands r (suc n) p → (Stands r n p → In (log_of c p) (logs_below c r n)) → In (log_of c p) (with_place c here (logs_below c r n))
  in_below n p Closed is s before = ⊎_elim (λ same. absurd (let clash : Closed ≡ Open p = sym is ∙ subst (λ (k : ℕ). r k ≡ Open p) same s.is in cc)) (λ lt. before (record { place = s.place; within = lt; is = s.is })) (last_place n s.place s.within)
  in_below n p Bad is s before = ⊎_elim (λ same. absurd (let clash : Bad ≡ Open p = sym is ∙ subst (λ (k : ℕ). r k ≡ Open p) same s.is in cc)) (λ lt. before (record { place = s.place; within = lt; is = s.is })) (last_place n s.place s.within)
  in_below n p (Open q) is s before = ⊎_elim
      (λ same. let e : q ≡ p = (let o : Open q ≡ Open p = sym is ∙ subst (λ (k : ℕ). r k ≡ Open p) same s.is in cc) in subst (λ (x : LogPage). In (log_of c p) (logs_below c r n ++ log_of c x ∷ [])) (sym e) (in_last (log_of c p) (logs_below c r n)))
      (λ lt. in_left (log_of c p) (logs_below c r n) (log_of c q ∷ []) (before (record { place = s.place; within = lt; is = s.is })))
      (last_place n s.place s.within)

  pub stands_in : (n : ℕ) (p : LogPage) → Stands r n p → In (log_of c p) (logs_below c r n)
  unfolding logs_below
  stands_in zero p s = absurd (omega (arith, s.within))
  stands_in (suc n) p s = in_below n p (r n) refl s (stands_in n p)

  wider : (n : ℕ) (p : LogPage) → Stands r n p → Stands r (suc n) p
  wider n p s = record { place = s.place; within = omega (arith, s.within); is = s.is }

  below_in : (n : ℕ) (l : OpenLog) (here : Place) → r n ≡ here → In l (with_place c here (logs_below c r n)) → (In l (logs_below c r n) → Stands r n l.page × (l ≡ log_of c l.page)) → Stands r (suc n) l.page × (l ≡ log_of c l.page)
  below_in n l Closed is i before = let b = before i in (wider n l.page b.0, b.1)
  below_in n l Bad is i before = let b = before i in (wider n l.page b.0, b.1)
  below_in n l (Open q) is i before = ⊎_elim
      (λ e. let page : q ≡ l.page = ap (λ (x : OpenLog). x.page) e in (subst (λ (x : LogPage). Stands r (suc n) x) page (record { place = n; within = omega arith; is = is }), sym e ∙ ap (log_of c) page))
      (λ j. let b = before j in (wider n l.page b.0, b.1))
      (in_either l (log_of c q) (logs_below c r n) i)

  pub in_stands : (n : ℕ) (l : OpenLog) → In l (logs_below c r n) → Stands r n l.page × (l ≡ log_of c l.page)
  unfolding logs_below In
  in_stands zero l i = absurd i
  in_stands (suc n) l i = below_in n l (r n) refl i (in_stands n l)

-- the list depends on the first n places alone
pub logs_same : (c : Config) (r s : ℕ → Place) (n : ℕ) → ((k : ℕ) → k < n → s k ≡ r k) → logs_below c s n ≡ logs_below c r n
unfolding logs_below
logs_same c r s zero same = refl
logs_same c r s (suc n) same = ap (λ (x : Place). with_place c x (logs_below c s n)) (same n (omega arith)) ∙ ap (with_place c (r n)) (logs_same c r s n (λ k lt. same k (omega arith)))

-- ---- the one that ends last

record Later (o : Option OpenLog) (x : OpenLog) : Type 0 where
  which : OpenLog
  is : later_log o x ≡ Some which
  from : (o ≡ Some which) ⊎ (x ≡ which)
  above : last_in x.page ≤ last_in which.page
  over : (m : OpenLog) → o ≡ Some m → last_in m.page ≤ last_in which.page

later_is : (o : Option OpenLog) (x : OpenLog) → Later o x
later_is None x = record { which = x; is = refl; from = inr refl; above = omega arith; over = λ m e. absurd (cc) }
later_is (Some best) x = elim (compare (last_in best.page) (last_in x.page)) [
  | inl lt ↦ let t : nat_lt (last_in best.page) (last_in x.page) ≡ true = grind (arith, nat_tests) in
      record { which = x; is = rw t refl; from = inr refl; above = omega arith; over = λ m e. let same : best ≡ m = cc in omega (arith, lt, ap (λ (y : OpenLog). last_in y.page) same) }
  | inr le ↦ let t : nat_lt (last_in best.page) (last_in x.page) ≡ false = grind (arith, nat_tests) in
      record { which = best; is = rw t refl; from = inl refl; above = le; over = λ m e. let same : best ≡ m = cc in omega (arith, ap (λ (y : OpenLog). last_in y.page) same) }
]

pub record Best (o : Option OpenLog) (xs : List OpenLog) (result : Option OpenLog) : Type 0 where
  pub found : (l : OpenLog) → result ≡ Some l → ((o ≡ Some l) ⊎ In l xs) × ((m : OpenLog) → (o ≡ Some m) ⊎ In m xs → last_in m.page ≤ last_in l.page)
  pub none : result ≡ None → (m : OpenLog) → (o ≡ Some m) ⊎ In m xs → ⊥

pub best_is : (xs : List OpenLog) (o : Option OpenLog) → Best o xs (fold later_log o xs)
unfolding In
best_is [] o = record {
  found = λ l e. (inl e, λ m i. ⊎_elim (λ f. let same : m ≡ l = (let s : Some m ≡ Some l = sym f ∙ e in cc) in omega (arith, ap (λ (y : OpenLog). last_in y.page) same)) (λ no_. absurd no_) i);
  none = λ e m i. ⊎_elim (λ f. let clash : None ≡ Some m = sym e ∙ f in cc) (λ no_. absurd no_) i;
}
best_is (x ∷ xs) o =
    let k = later_is o x in
    let b = best_is xs (later_log o x) in
    record {
      found = λ l e.
          let f = b.found l e in
          let top = f.1 k.which (inl k.is) in (
            ⊎_elim (λ here. let same : k.which ≡ l = (let s : Some k.which ≡ Some l = sym k.is ∙ here in cc) in ⊎_elim (λ old. inl (old ∙ ap Some same)) (λ new. inr (inl (new ∙ same))) k.from) (λ later. inr (inr later)) f.0,
            λ m i. ⊎_elim (λ old. let le = k.over m old in omega (arith, le, top)) (λ here. ⊎_elim (λ new. omega (arith, k.above, top, ap (λ (y : OpenLog). last_in y.page) new)) (λ later. f.1 m (inr later)) here) i,
          );
      none = λ e m i. b.none e k.which (inl k.is);
    }

-- ---- the one just before

pub record Before (logs : List OpenLog) (first : ℕ) (result : Option OpenLog) : Type 0 where
  pub found : (o : OpenLog) → result ≡ Some o → In o logs × (last_in o.page + 1 ≡ first)
  pub none : result ≡ None → (m : OpenLog) → In m logs → last_in m.page + 1 ≢ first

before_more : (x : OpenLog) (xs : List OpenLog) (first : ℕ) (t : Bool) → (last_in x.page + 1 == first) ≡ t → (o : Option OpenLog) → Before xs first o → Before (x ∷ xs) first (if t then Some x else o)
unfolding In
before_more x xs first true test o b = record {
  found = λ l e. let same : x ≡ l = cc in (inl same, let hit : last_in x.page + 1 ≡ first = grind (arith, nat_tests) in ap (λ (y : OpenLog). last_in y.page + 1) (sym same) ∙ hit);
  none = λ e. absurd (cc);
}
before_more x xs first false test o b = record {
  found = λ l e. let f = b.found l e in (inr f.0, f.1);
  none = λ e m i. ⊎_elim (λ same hit. let here : last_in x.page + 1 ≡ first = ap (λ (y : OpenLog). last_in y.page + 1) same ∙ hit in absurd (grind (arith, nat_tests))) (λ j. b.none e m j) i;
}

pub before_is : (xs : List OpenLog) (first : ℕ) → Before xs first (find (λ (o : OpenLog). (last_in o.page + 1) == first) xs)
unfolding In
before_is [] first = record { found = λ o e. absurd (cc); none = λ e m i. absurd i }
before_is (x ∷ xs) first = before_more x xs first (last_in x.page + 1 == first) refl _ (before_is xs first)

-- ---- how many begin below a position

unfoldable pub below : ℕ → List OpenLog → ℕ
below first [] = 0
below first (x ∷ xs) = (if nat_lt x.page.first first then 1 else 0) + below first xs

one_or_none : (b : Bool) (n m : ℕ) → n ≤ m → (if b then 1 else 0) + n ≤ suc m
one_or_none true n m le = omega (arith, le)
one_or_none false n m le = omega (arith, le)

pub below_length : (first : ℕ) (xs : List OpenLog) → below first xs ≤ length xs
unfolding below
below_length first [] = omega arith
below_length first (x ∷ xs) = one_or_none (nat_lt x.page.first first) (below first xs) (length xs) (below_length first xs)

below_more : (low high : ℕ) → low ≤ high → (xs : List OpenLog) → below low xs ≤ below high xs
unfolding below
below_more low high le [] = omega arith
below_more low high le (x ∷ xs) = elim (compare x.page.first low) [
  | inl lt ↦ let a : nat_lt x.page.first low ≡ true = grind (arith, nat_tests) in let b : nat_lt x.page.first high ≡ true = grind (arith, nat_tests) in
      rw (a, b) (let rest = below_more low high le xs in omega (arith, rest))
  | inr ge ↦ let a : nat_lt x.page.first low ≡ false = grind (arith, nat_tests) in
      rw a (let rest = below_more low high le xs in any (nat_lt x.page.first high) rest)
]
  where
    any : (b : Bool) → below low xs ≤ below high xs → 0 + below low xs ≤ (if b then 1 else 0) + below high xs
    any true rest = omega (arith, rest)
    any false rest = omega (arith, rest)

some_fewer : (b : Bool) (n m : ℕ) → n < m → 0 + n < (if b then 1 else 0) + m
some_fewer true n m lt = omega (arith, lt)
some_fewer false n m lt = omega (arith, lt)

fewer_here : (low high : ℕ) → low < high → (x : OpenLog) (xs : List OpenLog) → x.page.first ≡ low → (if nat_lt x.page.first low then 1 else 0) + below low xs < (if nat_lt x.page.first high then 1 else 0) + below high xs
fewer_here low high lt x xs first =
    let a : nat_lt x.page.first low ≡ false = grind (arith, nat_tests) in
    let b : nat_lt x.page.first high ≡ true = grind (arith, nat_tests) in
    rw (a, b) (let rest = below_more low high (omega arith) xs in omega (arith, rest))

fewer_behind : (low high : ℕ) → low < high → (x : OpenLog) (xs : List OpenLog) → below low xs < below high xs → (t : Bool) → nat_lt x.page.first low ≡ t → (if nat_lt x.page.first low then 1 else 0) + below low xs < (if nat_lt x.page.first high then 1 else 0) + below high xs
fewer_behind low high lt x xs rest true is = let b : nat_lt x.page.first high ≡ true = grind (arith, nat_tests) in rw (is, b) (omega (arith, rest))
fewer_behind low high lt x xs rest false is = rw is (some_fewer (nat_lt x.page.first high) (below low xs) (below high xs) rest)

below_fewer : (low high : ℕ) → low < high → (o : OpenLog) → o.page.first ≡ low → (xs : List OpenLog) → In o xs → below low xs < below high xs
unfolding below In
below_fewer low high lt o at [] i = absurd i
below_fewer low high lt o at (x ∷ xs) i =
    ⊎_elim (λ same. fewer_here low high lt x xs (ap (λ (y : OpenLog). y.page.first) same ∙ at)) (λ j. fewer_behind low high lt x xs (below_fewer low high lt o at xs j) (nat_lt x.page.first low) refl) i

-- ---- the way back

-- each of a run is in the list
unfoldable pub AllIn : List OpenLog → List OpenLog → Type 0
AllIn logs [] = Unit {0}
AllIn logs (l ∷ run) = In l logs × AllIn logs run

pub all_snoc : (logs run : List OpenLog) (l : OpenLog) → AllIn logs run → In l logs → AllIn logs (run ++ l ∷ [])
unfolding AllIn
all_snoc logs [] l all i = (i, tt)
all_snoc logs (x ∷ run) l all i = (all.0, all_snoc logs run l all.1 i)

pub chain_snoc : (run : List OpenLog) (l : OpenLog) (a b : ℕ) → Chain run a b → l.page.first ≡ b → Chain (run ++ l ∷ []) a (end_of l.page)
unfolding Chain
chain_snoc [] l a b c at = (at ∙ sym c, refl)
chain_snoc (x ∷ run) l a b c at = (c.0, chain_snoc run l (end_of x.page) b c.1 at)

pub record Backed (logs run : List OpenLog) (b : ℕ) : Type 0 where
  pub first : ℕ
  pub chain : Chain run first b
  pub all : AllIn logs run
  pub ends : (m : OpenLog) → In m logs → end_of m.page ≢ first

module _ (logs : List OpenLog) (some : (l : OpenLog) → In l logs → 0 < length l.page.records) where
  no_page : (n : ℕ) (l : OpenLog) → before_log logs l ≡ None → run_to n logs (before_log logs l) ≡ []
  no_page n l none = ap (run_to n logs) none

  alone : (run : List OpenLog) (l : OpenLog) → run ≡ [] → In l logs → ((m : OpenLog) → In m logs → end_of m.page ≢ l.page.first) → Backed logs (run ++ l ∷ []) (end_of l.page)
  unfolding Chain AllIn
  alone run l none i ends = subst (λ (x : List OpenLog). Backed logs (x ++ l ∷ []) (end_of l.page)) (sym none) (record { first = l.page.first; chain = (refl, refl); all = (i, tt); ends = ends })

  behind : (run : List OpenLog) (l o : OpenLog) → In l logs → end_of o.page ≡ l.page.first → Backed logs run (end_of o.page) → Backed logs (run ++ l ∷ []) (end_of l.page)
  behind run l o i at b = record { first = b.first; chain = chain_snoc run l b.first (end_of o.page) b.chain (sym at); all = all_snoc logs run l b.all i; ends = b.ends }

  by_before : (n : ℕ) (l : OpenLog) → In l logs → below l.page.first logs ≤ suc n → ((o : OpenLog) → In o logs → below o.page.first logs ≤ n → Backed logs (run_to n logs (Some o)) (end_of o.page))
      → (o : Option OpenLog) → before_log logs l ≡ o → Before logs l.page.first o → Backed logs (run_to n logs (before_log logs l) ++ l ∷ []) (end_of l.page)
  by_before n l i few again None is b = alone (run_to n logs (before_log logs l)) l (no_page n l is) i (λ m j e. b.none refl m j (let size = some m j in omega (arith, size, e)))
  by_before n l i few again (Some o) is b =
      let f = b.found o refl in
      let size = some o f.0 in
      let at : end_of o.page ≡ l.page.first = omega (arith, size, f.1) in
      let fewer = below_fewer o.page.first l.page.first (omega (arith, size, at)) o refl logs f.0 in
      behind (run_to n logs (before_log logs l)) l o i at
      (subst (λ (x : Option OpenLog). Backed logs (run_to n logs x) (end_of o.page)) (sym is) (again o f.0 (omega (arith, fewer, few))))

  pub back_is : (n : ℕ) (l : OpenLog) → In l logs → below l.page.first logs ≤ n → Backed logs (run_to n logs (Some l)) (end_of l.page)
  unfolding Chain AllIn
  back_is zero l i few = record {
    first = l.page.first;
    chain = (refl, refl);
    all = (i, tt);
    ends = λ m j e. let size = some m j in let fewer = below_fewer m.page.first l.page.first (omega (arith, size, e)) m refl logs j in omega (arith, fewer, few);
  }
  back_is (suc n) l i few = by_before n l i few (λ o. back_is n o) (before_log logs l) refl (before_is logs l.page.first)

-- one place more
pub logs_more : (c : Config) (r : ℕ → Place) (n : ℕ) → logs_below c r (n + 1) ≡ with_place c (r n) (logs_below c r n)
unfolding logs_below
logs_more c r n = ap (logs_below c r) (let e : n + 1 ≡ suc n = omega arith in e)
