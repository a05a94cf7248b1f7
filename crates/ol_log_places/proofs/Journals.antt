-- What places hold of a journal.
use Rattle.std.proofs.Common.{◌≡◌, ◌≢◌, ◌⊎◌, inl, inr, ⊎_elim, ℕ, zero, suc, ◌+◌, ◌-◌, ◌<◌, ◌≤◌, List, [], ◌∷◌, ◌++◌, length, refl, sym, ◌∙◌, ap, subst, arith}
use Rattle.std.proofs.lemmas.Bool.{cases_eq}
use Rattle.std.proofs.lemmas.List.Concat.{flat_map-cons}
use Rattle.ol_values.specs.declared.record.Record.{Record}
use Rattle.ol_values.specs.Config.{Config, log_pages}
use Rattle.ol_values.specs.LogPages.{LogPage}
use Rattle.ol_rules.specs.DiskValue.{OpenLog, run_records}
use Rattle.ol_rules.specs.Ring.{file_of}
use Rattle.ol_ports.specs.Disk.{Bytes}
use Rattle.ol_log_places.specs.Places.{Bad, Closed, Open, Place, places}
use Rattle.ol_log_places.specs.Runs.{AllStand, Chain, Covers, Has, IsLogged, IsNear, IsOrderly, IsRun, Precedes, Stands, end_of, journal_at, log_of, open_logs, run_in}
use Rattle.ol_log_places.specs.Writes.{IsNext, IsThinned, MayHavePage, with_page}
use Rattle.ol_log_places.proofs.Logs.{chain_snoc, compare, logs_same}
use Rattle.ol_log_places.proofs.Runs.{chain_le, open_page, run_found, run_is, run_none}
use Rattle.ol_log_places.proofs.WriteLaws.{with_other, with_same}

-- ---- the records of a run

journal_both : (j : ℕ → Record) (a m k : ℕ) → journal_at j a m ++ journal_at j (a + m) k ≡ journal_at j a (m + k)
journal_both j a zero k = ap (λ (x : ℕ). journal_at j x k) (let e : a + 0 ≡ a = omega arith in e) ∙ ap (journal_at j a) (let e : k ≡ 0 + k = omega arith in e)
journal_both j a (suc m) k =
    let rest : journal_at j (a + 1) m ++ journal_at j (a + suc m) k ≡ journal_at j (a + 1) (m + k) = ap (λ (x : ℕ). journal_at j (a + 1) m ++ journal_at j x k) (let e : a + suc m ≡ a + 1 + m = omega arith in e) ∙ journal_both j (a + 1) m k in
    ap (λ (l : List Record). j a ∷ l) rest ∙ ap (journal_at j a) (let e : suc (m + k) ≡ suc m + k = omega arith in e)

module _ (c : Config) (r : ℕ → Place) (j : ℕ → Record) (n : ℕ) (orderly : IsOrderly r n) (agrees : (p : LogPage) → Stands r n p → p.records ≡ journal_at j p.first (length p.records)) where
  pub run_agrees : (run : List OpenLog) (a b : ℕ) → Chain run a b → AllStand c r n run → run_records run ≡ journal_at j a (b - a)
  unfolding Chain AllStand
  run_agrees [] a b is s = ap (journal_at j a) (let e : 0 ≡ b - a = omega (arith, is) in e)
  run_agrees (l ∷ run) a b is s =
      let le = chain_le c r n orderly run (end_of l.page) b is.1 in
      let size : ℕ = length l.page.records in
      let mine : l.page.records ≡ journal_at j a size = agrees l.page s.0.0 ∙ ap (λ (x : ℕ). journal_at j x size) is.0 in
      let rest : run_records run ≡ journal_at j (a + size) (b - (a + size)) = run_agrees run (end_of l.page) b is.1 s.1 ∙ ap (λ (x : ℕ). journal_at j (x + size) (b - (x + size))) is.0 in
      flat_map-cons (λ (o : OpenLog). o.page.records) l run
      ∙ ap (λ (x : List Record). x ++ run_records run) mine
      ∙ ap (λ (x : List Record). journal_at j a size ++ x) rest
      ∙ journal_both j a size (b - (a + size))
      ∙ ap (journal_at j a) (let e : size + (b - (a + size)) ≡ b - a = omega (arith, le, is.0) in e)

pub logged_run : (c : Config) (r : ℕ → Place) (j : ℕ → Record) (need upto : ℕ) → need < upto → IsLogged c r j need upto
    → (a : ℕ) × (a ≤ need) × IsRun c r (log_pages c) (run_in (open_logs c r)) a upto × (run_records (run_in (open_logs c r)) ≡ journal_at j a (upto - a))
logged_run c r j need upto lt log =
    let found = run_is c r (log_pages c) log.orderly need upto lt log.covers in
    (found.0, found.1, found.2, run_agrees c r j (log_pages c) log.orderly log.agrees (run_in (open_logs c r)) found.0 upto found.2.chain found.2.stand)

-- a page does not go before itself
not_itself : (p q : LogPage) → p ≡ q → Precedes p q → ⊥
not_itself p q same (inl lower) = omega (arith, lower, ap (λ (z : LogPage). z.uniq) same)
not_itself p q same (inr both) = omega (arith, both.1, ap (λ (z : LogPage). z.index) same)

-- ---- pages below need are closed

module _ (c : Config) (need : ℕ) (old new : ℕ → Place) (thin : IsThinned c need old new) where
  open_of : (k : ℕ) (p : LogPage) → k < log_pages c → new k ≡ Open p → old k ≡ Open p
  open_of k p lt is = ⊎_elim (λ same. sym same ∙ is) (λ shut. absurd (let clash : Closed ≡ Open p = sym shut.0 ∙ is in cc)) (thin k lt)

  still : (p : LogPage) → Stands new (log_pages c) p → Stands old (log_pages c) p
  still p s = record { place = s.place; within = s.within; is = open_of s.place p s.within s.is }

  thinned_orderly : IsOrderly old (log_pages c) → IsOrderly new (log_pages c)
  thinned_orderly o = record {
    good = λ k lt bad. ⊎_elim (λ same. o.good k lt (sym same ∙ bad)) (λ shut. let clash : Closed ≡ Bad = sym shut.0 ∙ bad in cc) (thin k lt);
    some = λ k p lt is. o.some k p lt (open_of k p lt is);
    apart = λ k l x p q lk ll kp lq hp hq. o.apart k l x p q lk ll (open_of k p lk kp) (open_of l q ll lq) hp hq;
  }

  thinned_covers : (b : ℕ) → Covers old (log_pages c) need b → Covers new (log_pages c) need b
  thinned_covers b covers = record {
    each = λ x le lt. let h = covers.each x le lt in
        ⊎_elim (λ same. let s : Stands new (log_pages c) h.0 = record { place = h.1.place; within = h.1.within; is = same ∙ h.1.is } in let t : (p : LogPage) × Stands new (log_pages c) p × Has p x = (h.0, s, h.2) in t) (λ shut. absurd (let low = shut.1 h.0 h.1.is in omega (arith, le, low, h.2.1))) (thin h.1.place h.1.within);
    last = λ p s. covers.last p (still p s);
  }

  pub thinned_logged : (j : ℕ → Record) (upto : ℕ) → IsLogged c old j need upto → IsLogged c new j need upto
  thinned_logged j upto log = record {
    orderly = thinned_orderly log.orderly;
    covers = thinned_covers upto log.covers;
    agrees = λ p s. log.agrees p (still p s);
    one_use = λ p q s t. log.one_use p q (still p s) (still q t);
    order = λ p q s t. log.order p q (still p s) (still q t);
  }

  pub thinned_near : (uniq upto : ℕ) → IsNear c old uniq upto → IsNear c new uniq upto
  thinned_near uniq upto near p s end = near p (still p s) end

-- ---- a page is put behind the last

module _ (c : Config) (r : ℕ → Place) (k : ℕ) (p : LogPage) (within : k < log_pages c) (shut : r k ≡ Closed) (some : 0 < length p.records) where
  abbrev new : ℕ → Place
  new = with_page r k p

  either : (q : LogPage) → Stands (with_page r k p) (log_pages c) q → (q ≡ p) ⊎ Stands r (log_pages c) q
  either q s = elim (cases_eq s.place k) [
    | inl same ↦ inl (open_page q p (sym s.is ∙ subst (λ (i : ℕ). with_page r k p i ≡ Open p) (sym same) (with_same r k p)))
    | inr other ↦ inr (record { place = s.place; within = s.within; is = sym (with_other r k p s.place other) ∙ s.is })
  ]

  kept : (q : LogPage) → Stands r (log_pages c) q → Stands (with_page r k p) (log_pages c) q
  kept q s = elim (cases_eq s.place k) [
    | inl same ↦ absurd (let clash : Closed ≡ Open q = sym shut ∙ subst (λ (i : ℕ). r i ≡ Open q) same s.is in cc)
    | inr other ↦ record { place = s.place; within = s.within; is = with_other r k p s.place other ∙ s.is }
  ]

  mine : Stands (with_page r k p) (log_pages c) p
  mine = record { place = k; within = within; is = with_same r k p }

  module _ (orderly : IsOrderly r (log_pages c)) (need upto : ℕ) (covers : Covers r (log_pages c) need upto) (from : p.first ≡ upto) where
    put_covers : Covers (with_page r k p) (log_pages c) need (end_of p)
    put_covers = record {
      each = λ x le lt. elim (compare x upto) [ inl lo ↦ let h = covers.each x le lo in (h.0, kept h.0 h.1, h.2) | inr hi ↦ (p, mine, (omega (arith, from), lt)) ];
      last = λ q s. ⊎_elim (λ same. omega (arith, ap end_of same)) (λ t. let le = covers.last q t in omega (arith, le, from)) (either q s);
    }

    put_orderly : IsOrderly (with_page r k p) (log_pages c)
    put_orderly = record {
      good = λ i lt bad. elim (cases_eq i k) [
        | inl same ↦ let clash : Open p ≡ Bad = sym (with_same r k p) ∙ subst (λ (x : ℕ). with_page r k p x ≡ Bad) same bad in cc
        | inr other ↦ orderly.good i lt (sym (with_other r k p i other) ∙ bad)
      ];
      some = λ i q lt is. ⊎_elim (λ same. omega (arith, some, ap (λ (z : LogPage). length z.records) same)) (λ t. orderly.some t.place q t.within t.is) (either q (record { place = i; within = lt; is = is }));
      apart = λ i m x q s li lm iq ms hq hs. elim (cases_eq i k) [
        | inl same ↦ elim (cases_eq m k) [
          | inl same2 ↦ same ∙ sym same2
          | inr other ↦ absurd (clash m s x q lm other ms iq same hs hq)
        ]
        | inr other ↦ elim (cases_eq m k) [
          | inl same2 ↦ absurd (clash i q x s li other iq ms same2 hq hs)
          | inr other2 ↦ orderly.apart i m x q s li lm (sym (with_other r k p i other) ∙ iq) (sym (with_other r k p m other2) ∙ ms) hq hs
        ]
      ];
    }
      where
        clash : (m : ℕ) (s : LogPage) (x : ℕ) (q : LogPage) → m < log_pages c → m ≢ k → with_page r k p m ≡ Open s → {i : ℕ} → with_page r k p i ≡ Open q → i ≡ k → Has s x → Has q x → ⊥
        clash m s x q lm other ms iq same hs hq =
            let e : q ≡ p = open_page q p (sym iq ∙ subst (λ (z : ℕ). with_page r k p z ≡ Open p) (sym same) (with_same r k p)) in
            let le = covers.last s (record { place = m; within = lm; is = sym (with_other r k p m other) ∙ ms }) in
            omega (arith, le, hs.1, hq.0, from, ap (λ (z : LogPage). z.first) e)

    -- the run is the old one and this page
    run_more : (run : List OpenLog) (a : ℕ) → IsRun c r (log_pages c) run a upto → IsRun c (with_page r k p) (log_pages c) (run ++ log_of c p ∷ []) a (end_of p)
    unfolding AllStand
    run_more run a is = record {
      some = omega (arith, is.some, from);
      chain = chain_snoc run (log_of c p) a upto is.chain from;
      stand = all run is.stand;
      last = put_covers.last;
      first = λ q s e. ⊎_elim (λ same. omega (arith, ap end_of same, e, from, is.some)) (λ t. is.first q t e) (either q s);
    }
      where
        all : (run : List OpenLog) → AllStand c r (log_pages c) run → AllStand c (with_page r k p) (log_pages c) (run ++ log_of c p ∷ [])
        all [] s = ((mine, refl), tt)
        all (q ∷ run) s = ((kept q.page s.0.0, s.0.1), all run s.1)

    -- where none stood, it is this page alone
    run_first : ((q : LogPage) → Stands r (log_pages c) q → ⊥) → IsRun c (with_page r k p) (log_pages c) (log_of c p ∷ []) p.first (end_of p)
    unfolding Chain AllStand
    run_first none = record {
      some = omega (arith, some);
      chain = (refl, refl);
      stand = ((mine, refl), tt);
      last = put_covers.last;
      first = λ q s e. ⊎_elim (λ same. omega (arith, ap end_of same, e, some)) (λ t. none q t) (either q s);
    }

    pub put_run : (need < upto) ⊎ ((q : LogPage) → Stands r (log_pages c) q → ⊥) → run_in (open_logs c (with_page r k p)) ≡ run_in (open_logs c r) ++ log_of c p ∷ []
    put_run (inl lt) =
        let f = run_is c r (log_pages c) orderly need upto lt covers in
        run_found c (with_page r k p) (log_pages c) put_orderly (run_in (open_logs c r) ++ log_of c p ∷ []) f.0 (end_of p) (run_more (run_in (open_logs c r)) f.0 f.2)
    put_run (inr none) =
        run_found c (with_page r k p) (log_pages c) put_orderly (log_of c p ∷ []) p.first (end_of p) (run_first none) ∙ ap (λ (x : List OpenLog). x ++ log_of c p ∷ []) (sym (run_none c r (log_pages c) orderly none))

    pub either_run : (d : Bytes) → (need < upto) ⊎ ((q : LogPage) → Stands r (log_pages c) q → ⊥) → MayHavePage c r k p d
        → (run_in (open_logs c (places c d)) ≡ run_in (open_logs c r)) ⊎ (run_in (open_logs c (places c d)) ≡ run_in (open_logs c r) ++ log_of c p ∷ [])
    either_run d reach (inl shows) = inl (ap run_in (logs_same c r (places c d) (log_pages c) shows))
    either_run d reach (inr shows) = inr (ap run_in (logs_same c (with_page r k p) (places c d) (log_pages c) shows) ∙ put_run reach)

pub put_logged : (c : Config) (r : ℕ → Place) (j : ℕ → Record) (need : ℕ) (k : ℕ) (p : LogPage) → IsNext c r j k p → IsLogged c r j need p.first → IsLogged c (with_page r k p) j need (end_of p)
put_logged c r j need k p next log = record {
  orderly = put_orderly c r k p next.within next.shut next.some log.orderly need p.first log.covers refl;
  covers = put_covers c r k p next.within next.shut next.some log.orderly need p.first log.covers refl;
  agrees = λ q s. ⊎_elim (λ same. subst (λ (z : LogPage). z.records ≡ journal_at j z.first (length z.records)) (sym same) next.agrees) (λ t. log.agrees q t) (split q s);
  one_use = λ q s t u file. ⊎_elim
      (λ qp. ⊎_elim (λ sp. ap (λ (z : LogPage). z.uniq) (qp ∙ sym sp)) (λ old. ap (λ (z : LogPage). z.uniq) qp ∙ sym (next.behind s old (sym file ∙ ap (λ (z : LogPage). file_of c z.uniq) qp)).0) (split s u))
      (λ old. ⊎_elim (λ sp. (next.behind q old (file ∙ ap (λ (z : LogPage). file_of c z.uniq) sp)).0 ∙ sym (ap (λ (z : LogPage). z.uniq) sp)) (λ older. log.one_use q s old older file) (split s u))
      (split q t);
  order = λ q s t u before. ⊎_elim
      (λ qp. absurd (⊎_elim (λ sp. not_itself q s (qp ∙ sym sp) before) (λ old. not_old s old (subst (λ (z : LogPage). Precedes z s) qp before)) (split s u)))
      (λ old. ⊎_elim (λ sp. let le = log.covers.last q old in omega (arith, le, ap (λ (z : LogPage). z.first) sp)) (λ older. log.order q s old older before) (split s u))
      (split q t);
}
  where
    -- the page goes before no page that stood
    not_old : (s : LogPage) → Stands r (log_pages c) s → Precedes p s → ⊥
    not_old s old (inl lower) = let le = next.newest s old in omega (arith, le, lower)
    not_old s old (inr same) = let high = (next.behind s old (ap (file_of c) (sym same.0))).1 in omega (arith, high, same.1)

    split : (q : LogPage) → Stands (with_page r k p) (log_pages c) q → (q ≡ p) ⊎ Stands r (log_pages c) q
    split q s = either c r k p next.within next.shut next.some q s

-- a number that is at most one above the page's is near, as the page alone ends last
pub put_near : (c : Config) (r : ℕ → Place) (j : ℕ → Record) (need : ℕ) (k : ℕ) (p : LogPage) (uniq : ℕ) → IsNext c r j k p → IsLogged c r j need p.first → uniq ≤ p.uniq + 1 → IsNear c (with_page r k p) uniq (end_of p)
put_near c r j need k p uniq next log low q s end = ⊎_elim
    (λ same. let e = ap (λ (z : LogPage). z.uniq) same in omega (arith, low, e))
    (λ old. absurd (let le = log.covers.last q old in let some = next.some in omega (arith, le, end, some)))
    (either c r k p next.within next.shut next.some q s)
