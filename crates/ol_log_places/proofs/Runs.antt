-- The standing run is found, and is what the positions that stand make it.
use Rattle.std.proofs.Common.{◌≡◌, ◌≢◌, inl, inr, ⊎_elim, ℕ, ◌-◌, ◌<◌, ◌≤◌, List, [], ◌∷◌, length, Option, Some, None, refl, sym, ◌∙◌, ap, subst, arith, ◌⊎◌}
use Rattle.std.specs.Prelude.{fold}
use Rattle.ol_values.specs.Config.{Config}
use Rattle.ol_values.specs.LogPages.{LogPage}
use Rattle.ol_rules.specs.DiskValue.{DiskValue, OpenLog, later_log, run_of, run_to}
use Rattle.ol_log_places.specs.Places.{Open, Place}
use Rattle.ol_log_places.specs.Runs.{AllStand, Chain, Covers, Has, IsOrderly, IsRun, Stands, end_of, log_of, logs_below, run_in}
use Rattle.ol_log_places.proofs.Logs.{AllIn, Best, In, back_is, below_length, best_is, compare, in_stands, stands_in}

pub open_page : (p q : LogPage) → Open p ≡ Open q → p ≡ q
open_page p q same = cc

module _ (c : Config) (r : ℕ → Place) (n : ℕ) where
  abbrev logs : List OpenLog
  logs = logs_below c r n

  module _ (orderly : IsOrderly r n) where
    pub stands_some : (p : LogPage) → Stands r n p → p.first < end_of p
    stands_some p s = omega (arith, orderly.some s.place p s.within s.is)

    in_some : (l : OpenLog) → In l (logs_below c r n) → 0 < length l.page.records
    in_some l i = let s = (in_stands c r n l i).0 in orderly.some s.place l.page s.within s.is

    all_stand : (run : List OpenLog) → AllIn (logs_below c r n) run → AllStand c r n run
    unfolding AllIn AllStand
    all_stand [] all = tt
    all_stand (l ∷ run) all = (in_stands c r n l all.0, all_stand run all.1)

    pub chain_le : (run : List OpenLog) (a b : ℕ) → Chain run a b → a ≤ b
    unfolding Chain
    chain_le [] a b is = omega (arith, is)
    chain_le (l ∷ run) a b is = omega (arith, is.0, chain_le run (end_of l.page) b is.1)

    -- a page of a chain has each of its positions
    pub chain_has : (run : List OpenLog) (a b x : ℕ) → Chain run a b → AllStand c r n run → a ≤ x → x < b → (p : LogPage) × Stands r n p × Has p x × (a ≤ p.first)
    unfolding Chain AllStand
    chain_has [] a b x is s le lt = absurd (omega (arith, is))
    chain_has (l ∷ run) a b x is s le lt = elim (compare x (end_of l.page)) [
      | inl below_ ↦ (l.page, s.0.0, (omega (arith, is.0), below_), omega (arith, is.0))
      | inr above ↦ let h = chain_has run (end_of l.page) b x is.1 s.1 above lt in (h.0, h.1, h.2, omega (arith, h.3, is.0))
    ]

    same_page : (p q : LogPage) (x : ℕ) → Stands r n p → Stands r n q → Has p x → Has q x → p ≡ q
    same_page p q x s t hp hq = open_page p q (sym s.is ∙ subst (λ (k : ℕ). r k ≡ Open q) (sym (orderly.apart s.place t.place x p q s.within t.within s.is t.is hp hq)) t.is)

    -- the run reaches as far back as the positions stand
    pub run_reaches : (run : List OpenLog) (a b low : ℕ) → IsRun c r n run a b → Covers r n low b → a ≤ low
    run_reaches run a b low is covers = elim (compare low a) [
      | inl lt ↦ reaches lt (covers.each (a - 1) (omega arith) (omega (arith, is.some)))
      | inr le ↦ le
    ]
      where
        reaches : low < a → (p : LogPage) × Stands r n p × Has p (a - 1) → a ≤ low
        reaches lt h = elim (compare a (end_of h.0)) [
          | inl over ↦
              let g = chain_has run a b a is.chain is.stand (omega arith) is.some in
              let same : h.0 ≡ g.0 = same_page h.0 g.0 a h.1 g.1 (omega (arith, h.2.0), over) g.2 in
              absurd (omega (arith, h.2.0, g.3, ap (λ (p : LogPage). p.first) same, is.some))
          | inr le ↦ absurd (is.first h.0 h.1 (omega (arith, h.2.1)))
        ]

    pub run_covers : (run : List OpenLog) (a b : ℕ) → IsRun c r n run a b → Covers r n a b
    run_covers run a b is = record { each = λ x le lt. let h = chain_has run a b x is.chain is.stand le lt in (h.0, h.1, h.2); last = is.last }

    -- what goes back from a last page is a run
    pub run_is : (low b : ℕ) → low < b → Covers r n low b → (a : ℕ) × (a ≤ low) × IsRun c r n (run_in (logs_below c r n)) a b
    unfolding run_in
    run_is low b lt covers = found (fold later_log None (logs_below c r n)) (best_is (logs_below c r n) None)
      where
        at_end : (p : LogPage) × Stands r n p × Has p (b - 1)
        at_end = covers.each (b - 1) (omega arith) (omega arith)

        nonempty : (run : List OpenLog) (a : ℕ) → Chain run a b → ((p : LogPage) → Stands r n p → end_of p ≢ a) → a < b
        nonempty run a chain ends = ⊎_elim (λ l. l) (λ ge. absurd (ends at_end.0 at_end.1 (let le = chain_le run a b chain in let most = covers.last at_end.0 at_end.1 in omega (arith, le, most, at_end.2.1)))) (compare a b)

        found : (o : Option OpenLog) → Best None (logs_below c r n) o → (a : ℕ) × (a ≤ low) × IsRun c r n (run_to (length (logs_below c r n)) (logs_below c r n) o) a b
        found None best = absurd (best.none refl (log_of c at_end.0) (inr (stands_in c r n at_end.0 at_end.1)))
        found (Some l) best =
            let g = best.found l refl in
            let here : In l (logs_below c r n) = ⊎_elim (λ none. absurd (cc)) (λ i. i) g.0 in
            let s = (in_stands c r n l here).0 in
            let size = in_some l here in
            let other = orderly.some at_end.1.place at_end.0 at_end.1.within at_end.1.is in
            let ends : end_of l.page ≡ b = (let le = covers.last l.page s in let ge = g.1 (log_of c at_end.0) (inr (stands_in c r n at_end.0 at_end.1)) in omega (arith, le, ge, at_end.2.1, size, other)) in
            let k = back_is (logs_below c r n) in_some (length (logs_below c r n)) l here (below_length l.page.first (logs_below c r n)) in
            let run : List OpenLog = run_to (length (logs_below c r n)) (logs_below c r n) (Some l) in
            let chain : Chain run k.first b = subst (λ (x : ℕ). Chain run k.first x) ends k.chain in
            let stops : (p : LogPage) → Stands r n p → end_of p ≢ k.first = λ p t. k.ends (log_of c p) (stands_in c r n p t) in
            let is : IsRun c r n run k.first b = record { some = nonempty run k.first chain stops; chain = chain; stand = all_stand run k.all; last = covers.last; first = stops } in
            (k.first, run_reaches run k.first b low is covers, is)

    -- there is one run
    pub one_chain : (run other : List OpenLog) (a b : ℕ) → Chain run a b → Chain other a b → AllStand c r n run → AllStand c r n other → run ≡ other
    unfolding Chain AllStand
    one_chain [] [] a b x y s t = refl
    one_chain [] (m ∷ other) a b x y s t = absurd (omega (arith, x, y.0, chain_le other (end_of m.page) b y.1, stands_some m.page t.0.0))
    one_chain (l ∷ run) [] a b x y s t = absurd (omega (arith, y, x.0, chain_le run (end_of l.page) b x.1, stands_some l.page s.0.0))
    one_chain (l ∷ run) (m ∷ other) a b x y s t =
        let page : l.page ≡ m.page = same_page l.page m.page a s.0.0 t.0.0 (omega (arith, x.0), omega (arith, x.0, stands_some l.page s.0.0)) (omega (arith, y.0), omega (arith, y.0, stands_some m.page t.0.0)) in
        let same : l ≡ m = s.0.1 ∙ ap (log_of c) page ∙ sym t.0.1 in
        let rest = one_chain run other (end_of l.page) b x.1 (subst (λ (p : LogPage). Chain other (end_of p) b) (sym page) y.1) s.1 t.1 in
        cc

    pub run_end : (run : List OpenLog) (a b : ℕ) → IsRun c r n run a b → (p : LogPage) × Stands r n p × (end_of p ≡ b)
    run_end run a b is = let h = chain_has run a b (b - 1) is.chain is.stand (omega (arith, is.some)) (omega (arith, is.some)) in (h.0, h.1, let le = is.last h.0 h.1 in omega (arith, h.2.1, le))

    pub one_run : (run other : List OpenLog) (a b x y : ℕ) → IsRun c r n run a b → IsRun c r n other x y → run ≡ other
    one_run run other a b x y is also =
        let e = run_end run a b is in
        let f = run_end other x y also in
        let ends : b ≡ y = (let p = is.last f.0 f.1 in let q = also.last e.0 e.1 in omega (arith, p, q, e.2, f.2)) in
        let moved = subst (λ (z : ℕ). IsRun c r n run a z) ends is in
        let p = run_reaches run a y x moved (run_covers other x y also) in
        let q = run_reaches other x y a also (run_covers run a y moved) in
        let starts : a ≡ x = omega (arith, p, q) in
        one_chain run other x y (subst (λ (z : ℕ). Chain run z y) starts moved.chain) also.chain moved.stand also.stand

    -- and it is the one that is found
    pub run_found : (run : List OpenLog) (a b : ℕ) → IsRun c r n run a b → run_in (logs_below c r n) ≡ run
    run_found run a b is =
        let found = run_is a b is.some (run_covers run a b is) in
        one_run (run_in (logs_below c r n)) run found.0 b a b found.2 is

    -- where no page is open there is none
    pub run_none : ((p : LogPage) → Stands r n p → ⊥) → run_in (logs_below c r n) ≡ []
    unfolding run_in
    run_none none = by_best (fold later_log None (logs_below c r n)) (best_is (logs_below c r n) None)
      where
        by_best : (o : Option OpenLog) → Best None (logs_below c r n) o → run_to (length (logs_below c r n)) (logs_below c r n) o ≡ []
        by_best None best = refl
        by_best (Some l) best = absurd (none l.page (in_stands c r n l (⊎_elim (λ no_. absurd (cc)) (λ i. i) (best.found l refl).0)).0)

    -- there is one, or no page stands
    pub run_or_none : ((run_in (logs_below c r n) ≡ []) × ((p : LogPage) → Stands r n p → ⊥)) ⊎ ((a b : ℕ) × IsRun c r n (run_in (logs_below c r n)) a b)
    run_or_none = by_best (fold later_log None (logs_below c r n)) (best_is (logs_below c r n) None)
      where
        covers : (l : OpenLog) → Stands r n l.page → ((p : LogPage) → Stands r n p → end_of p ≤ end_of l.page) → Covers r n (end_of l.page - 1) (end_of l.page)
        covers l s top = record { each = λ x le lt. (l.page, s, (let lo = stands_some l.page s in omega (arith, lo, le), lt)); last = top }

        by_best : (o : Option OpenLog) → Best None (logs_below c r n) o → ((run_in (logs_below c r n) ≡ []) × ((p : LogPage) → Stands r n p → ⊥)) ⊎ ((a b : ℕ) × IsRun c r n (run_in (logs_below c r n)) a b)
        by_best None best = let none = λ (p : LogPage) (s : Stands r n p). best.none refl (log_of c p) (inr (stands_in c r n p s)) in inl (run_none none, none)
        by_best (Some l) best =
            let g = best.found l refl in
            let here : In l (logs_below c r n) = ⊎_elim (λ none. absurd (cc)) (λ i. i) g.0 in
            let s = (in_stands c r n l here).0 in
            let size = in_some l here in
            let top = λ (p : LogPage) (t : Stands r n p). (let le = g.1 (log_of c p) (inr (stands_in c r n p t)) in let e : end_of p ≤ end_of l.page = omega (arith, le, size) in e) in
            let f = run_is (end_of l.page - 1) (end_of l.page) (omega (arith, size)) (covers l s top) in
            inr (f.0, end_of l.page, f.2)

pub value_run : (d : DiskValue) → run_of d ≡ run_in d.logs
unfolding run_of run_in
value_run d = refl
