-- The heads of all open pages: what they say of the places, and the run that is cut from them.
use Rattle.std.proofs.Common.{◌≡◌, ◌⊎◌, inl, inr, ⊎_elim, ℕ, zero, suc, ◌+◌, ◌-◌, ◌<◌, ◌≤◌, List, [], ◌∷◌, ◌++◌, length, map, drop, length-append, length-drop, refl, sym, ◌∙◌, ap, subst, arith}
use Rattle.std.proofs.lemmas.Bool.{cases_eq}
use Rattle.std.proofs.lemmas.List.{get_or-append_right, get_or-drop, get_or_append_left, map-append}
use Rattle.std.proofs.lemmas.List.Sorted.{IsPermutation-sym}
use Rattle.ol_values.specs.Config.{Config, log_pages}
use Rattle.ol_values.specs.LogPages.{LogPage}
use Rattle.ol_rules.specs.DiskValue.{OpenLog}
use Rattle.ol_chunks.specs.Places.{log_area}
use Rattle.ol_log_places.specs.declared.heads.Stood.{Stood}
use Rattle.ol_log_places.specs.Heads.{AreApart, AreLow, BeginsRun, IsFirstSharing, IsLastRun, Overlap, end_in, no_stood, stood_at}
use Rattle.ol_log_places.specs.Places.{Bad, Closed, Open, Place}
use Rattle.ol_log_places.specs.Runs.{AllStand, Chain, IsOrderly, IsRun, Stands, end_of, log_of, logs_below, open_logs, run_in, with_place, StandAtPlaces}
use Rattle.ol_log_places.specs.Scanning.{IsAt, IsFirstShared, Shares, stood_of}
use Rattle.ol_log_places.proofs.Logs.{In, in_stands, stands_in}
use Rattle.ol_log_places.proofs.Moves.{Moved, moved_by, moved_low}
use Rattle.ol_log_places.proofs.Runs.{run_found, run_none}

three : (a b : ℕ) → (a < b) ⊎ ((a ≡ b) ⊎ (b < a))
three a b = grind arith

-- ---- by index

in_index : (c : Config) (l : OpenLog) (logs : List OpenLog) → In l logs → (i : ℕ) × (i < length (map (stood_of c) logs)) × (stood_at (map (stood_of c) logs) i ≡ stood_of c l)
unfolding In
in_index c l [] here = absurd here
in_index c l (x ∷ logs) here = ⊎_elim (λ same. (0, omega arith, ap (stood_of c) same)) (λ later. let i = in_index c l logs later in (suc i.0, omega (arith, i.1), i.2)) here

index_in : (c : Config) (logs : List OpenLog) (i : ℕ) → i < length (map (stood_of c) logs) → (l : OpenLog) × In l logs × (stood_at (map (stood_of c) logs) i ≡ stood_of c l)
unfolding In
index_in c [] i lt = absurd (omega (arith, lt))
index_in c (x ∷ logs) zero lt = (x, inl refl, refl)
index_in c (x ∷ logs) (suc i) lt = let l = index_in c logs i (omega (arith, lt)) in (l.0, inr l.1, l.2)

-- the heads of all open pages
pub record Lists (c : Config) (r : ℕ → Place) (heads : List Stood) : Type 0 where
  pub each : (i : ℕ) → i < length heads → (k : ℕ) × (p : LogPage) × (k < log_pages c) × (r k ≡ Open p) × (stood_at heads i ≡ stood_of c (log_of c p))
  pub all : (k : ℕ) (p : LogPage) → k < log_pages c → r k ≡ Open p → (i : ℕ) × (i < length heads) × (stood_at heads i ≡ stood_of c (log_of c p))

pub lists_heads : (c : Config) (r : ℕ → Place) (heads : List Stood) → heads ≡ map (stood_of c) (open_logs c r) → Lists c r heads
lists_heads c r heads is = subst (Lists c r) (sym is) (record {
  each = λ i lt.
      let l = index_in c (open_logs c r) i lt in
      let s = in_stands c r (log_pages c) l.0 l.1 in
      (s.0.place, l.0.page, s.0.within, s.0.is, l.2 ∙ ap (stood_of c) s.1);
  all = λ k p lt is_open. in_index c (log_of c p) (open_logs c r) (stands_in c r (log_pages c) p (record { place = k; within = lt; is = is_open }));
})

pub lists_moved : (c : Config) (r : ℕ → Place) (old new : List Stood) → Moved old new → Moved new old → Lists c r old → Lists c r new
lists_moved c r old new m back lists = record {
  each = λ i lt. let e = lists.each (m.from i) (m.within i lt) in (e.0, e.1, e.2, e.3, m.same i lt ∙ e.4);
  all = λ k p lt is. let e = lists.all k p lt is in (back.from e.0, back.within e.0 e.1, sym (back.same e.0 e.1) ∙ e.2);
}

module _ (c : Config) (r : ℕ → Place) (good : (k : ℕ) → k < log_pages c → r k ≡ Bad → ⊥) (stand : StandAtPlaces c r) where
  -- an open page, by its head
  record Seen (heads : List Stood) (k : ℕ) (p : LogPage) : Type 0 where
    index : ℕ
    within : index < length heads
    first : (stood_at heads index).head.first ≡ p.first
    end : end_in (stood_at heads index) ≡ end_of p
    page : (stood_at heads index).page ≡ (log_area c).first + k

  seen_by : (heads : List Stood) (k : ℕ) (p : LogPage) (i : ℕ) → k < log_pages c → r k ≡ Open p → i < length heads → stood_at heads i ≡ stood_of c (log_of c p) → Seen heads k p
  seen_by heads k p i lt is within same = record {
    index = i;
    within = within;
    first = ap (λ (s : Stood). s.head.first) same;
    end = ap end_in same;
    page = ap (λ (s : Stood). s.page) same ∙ ap (λ (n : ℕ). (log_area c).first + n) (sym (stand k p lt is).1);
  }

  seen_of_place : (heads : List Stood) → Lists c r heads → (k : ℕ) (p : LogPage) → k < log_pages c → r k ≡ Open p → Seen heads k p
  seen_of_place heads lists k p lt is = let e = lists.all k p lt is in seen_by heads k p e.0 lt is e.1 e.2

  -- ---- heads in order of position, no two of which share one

  module _ (heads : List Stood) (lists : Lists c r heads) (low : AreLow heads) (apart : AreApart heads) where
    some : (k : ℕ) → k < length heads → (stood_at heads k).head.first < end_in (stood_at heads k)
    some k lt = let l = low k lt in omega (arith, l.0)

    next_apart : (k : ℕ) → suc k < length heads → end_in (stood_at heads k) ≤ (stood_at heads (suc k)).head.first
    next_apart k lt = let e : k + 1 ≡ suc k = omega arith in subst (λ (x : ℕ). end_in (stood_at heads k) ≤ (stood_at heads x).head.first) e (apart k (omega arith))

    far : (a b : ℕ) → a < b → b < length heads → end_in (stood_at heads a) ≤ (stood_at heads b).head.first
    far a zero lt within = absurd (omega arith)
    far a (suc b) lt within = elim (cases_eq a b) [
      | inl same ↦ subst (λ (x : ℕ). end_in (stood_at heads x) ≤ (stood_at heads (suc b)).head.first) (sym same) (next_apart b within)
      | inr other ↦ let le = far a b (omega arith) (omega arith) in let here = some b (omega arith) in let next = next_apart b within in omega (arith, le, here, next)
    ]

    pub apart_orderly : IsOrderly r (log_pages c)
    apart_orderly = record {
      good = good;
      some = λ k p lt is. let s = seen_of_place heads lists k p lt is in let here = some s.index s.within in omega (arith, here, s.first, s.end);
      apart = λ k l x p q lk ll kp lq hp hq.
          let s = seen_of_place heads lists k p lk kp in
          let t = seen_of_place heads lists l q ll lq in
          elim (three s.index t.index) [
            | inl lt ↦ absurd (let le = far s.index t.index lt t.within in omega (arith, le, s.end, t.first, hp.1, hq.0))
            | inr (inl same) ↦ (let e = ap (λ (i : ℕ). (stood_at heads i).page) same in omega (arith, e, s.page, t.page))
            | inr (inr gt) ↦ absurd (let le = far t.index s.index gt s.within in omega (arith, le, t.end, s.first, hq.1, hp.0))
          ];
    }

    -- pages that follow one another
    linked : (hs : List Stood) → ((i : ℕ) → i < length hs → (k : ℕ) × (p : LogPage) × (k < log_pages c) × (r k ≡ Open p) × (stood_at hs i ≡ stood_of c (log_of c p))) → ((k : ℕ) → k + 1 < length hs → end_in (stood_at hs k) ≡ (stood_at hs (k + 1)).head.first) → 0 < length hs
        → (run : List OpenLog) × (map (stood_of c) run ≡ hs) × AllStand c r (log_pages c) run × Chain run (stood_at hs 0).head.first (end_in (stood_at hs (length hs - 1)))
    unfolding AllStand Chain
    linked [] each chain nonempty = absurd (omega (arith, nonempty))
    linked (h ∷ []) each chain nonempty =
        let e = each 0 nonempty in
        let l : OpenLog = log_of c e.1 in
        let s : Stands r (log_pages c) e.1 = record { place = e.0; within = e.2; is = e.3 } in
        (l ∷ [], ap (λ (x : Stood). x ∷ []) (sym e.4), ((s, refl), tt), (sym (ap (λ (x : Stood). x.head.first) e.4), sym (ap end_in e.4)))
    linked (h ∷ x ∷ t) each chain nonempty =
        let e = each 0 (omega (arith)) in
        let l : OpenLog = log_of c e.1 in
        let s : Stands r (log_pages c) e.1 = record { place = e.0; within = e.2; is = e.3 } in
        let rest = linked (x ∷ t) (λ i lt. each (suc i) (omega (arith, lt))) (λ k lt. chain (suc k) (omega (arith, lt)) ∙ ap (λ (n : ℕ). (stood_at (h ∷ x ∷ t) n).head.first) (let i : suc k + 1 ≡ suc (k + 1) = omega arith in i)) (omega arith) in
        let next : x.head.first ≡ end_of e.1 = sym (chain 0 (omega arith)) ∙ ap end_in e.4 in
        let last : end_in (stood_at (x ∷ t) (length (x ∷ t) - 1)) ≡ end_in (stood_at (h ∷ x ∷ t) (length (h ∷ x ∷ t) - 1)) = ap (λ (n : ℕ). end_in (stood_at (h ∷ x ∷ t) n)) (let i : suc (length (x ∷ t) - 1) ≡ length (h ∷ x ∷ t) - 1 = omega arith in i) in (
          l ∷ rest.0,
          ap (λ (y : Stood). y ∷ map (stood_of c) rest.0) (sym e.4) ∙ ap (λ (ys : List Stood). h ∷ ys) rest.1,
          ((s, refl), rest.2),
          (sym (ap (λ (y : Stood). y.head.first) e.4), subst (λ (z : ℕ). Chain rest.0 z (end_in (stood_at (h ∷ x ∷ t) (length (h ∷ x ∷ t) - 1)))) next (subst (λ (z : ℕ). Chain rest.0 x.head.first z) last rest.3)),
        )

    at_drop : (s i : ℕ) → stood_at (drop s heads) i ≡ stood_at heads (s + i)
    at_drop s i = get_or-drop s heads i no_stood

    first_not : (s : ℕ) → s < length heads → BeginsRun heads s → (i : ℕ) → i < length heads → end_in (stood_at heads i) ≡ (stood_at heads s).head.first → ⊥
    first_not s within begins i lt e = elim (three i s) [
      | inl lo ↦ elim (cases_eq i (s - 1)) [
        | inl same ↦ begins.stops (omega arith) (ap (λ (k : ℕ). end_in (stood_at heads k)) (sym same) ∙ e)
        | inr other ↦ let o = far i (s - 1) (omega arith) (omega arith) in let z = some (s - 1) (omega arith) in let y = far (s - 1) s (omega arith) within in omega (arith, o, z, y, e)
      ]
      | inr (inl same) ↦ let z = some i lt in omega (arith, z, e, ap (λ (k : ℕ). (stood_at heads k).head.first) same)
      | inr (inr hi) ↦ let o = far s i hi lt in let z = some i lt in let y = some s within in omega (arith, o, z, e, y)
    ]

    last_most : (i : ℕ) → i < length heads → end_in (stood_at heads i) ≤ end_in (stood_at heads (length heads - 1))
    last_most i lt = elim (cases_eq i (length heads - 1)) [
      | inl same ↦ omega (arith, ap (λ (k : ℕ). end_in (stood_at heads k)) same)
      | inr other ↦ let o = far i (length heads - 1) (omega arith) (omega arith) in let z = some (length heads - 1) (omega arith) in omega (arith, o, z)
    ]

    cut_from : (run : List OpenLog) (hs : List Stood) (a b : ℕ) → map (stood_of c) run ≡ hs → IsRun c r (log_pages c) run a b → hs ≡ map (stood_of c) (run_in (open_logs c r))
    cut_from run hs a b same is = sym same ∙ ap (map (stood_of c)) (sym (run_found c r (log_pages c) apart_orderly run a b is))

    cut_nonempty : (s : ℕ) → s < length heads → BeginsRun heads s → drop s heads ≡ map (stood_of c) (run_in (open_logs c r))
    cut_nonempty s within begins =
        let long : length (drop s heads) ≡ length heads - s = length-drop s heads in
        let l = linked (drop s heads)
        (λ i lt. let e = lists.each (s + i) (omega (arith, lt, long)) in (e.0, e.1, e.2, e.3, at_drop s i ∙ e.4))
        (λ k lt. ap end_in (at_drop s k) ∙ begins.chain (s + k) (omega arith) (omega (arith, lt, long)) ∙ ap (λ (n : ℕ). (stood_at heads n).head.first) (let e : s + k + 1 ≡ s + (k + 1) = omega arith in e) ∙ sym (ap (λ (x : Stood). x.head.first) (at_drop s (k + 1))))
        (omega (arith, long)) in
        let first : (stood_at (drop s heads) 0).head.first ≡ (stood_at heads s).head.first = ap (λ (x : Stood). x.head.first) (at_drop s 0) ∙ ap (λ (n : ℕ). (stood_at heads n).head.first) (let e : s + 0 ≡ s = omega arith in e) in
        let end : end_in (stood_at (drop s heads) (length (drop s heads) - 1)) ≡ end_in (stood_at heads (length heads - 1)) = ap end_in (at_drop s (length (drop s heads) - 1)) ∙ ap (λ (n : ℕ). end_in (stood_at heads n)) (let e : s + (length (drop s heads) - 1) ≡ length heads - 1 = omega (arith, long) in e) in
        let is : IsRun c r (log_pages c) l.0 (stood_at heads s).head.first (end_in (stood_at heads (length heads - 1))) = record {
          some = let z = some s within in let y = last_most s within in omega (arith, z, y);
          chain = subst (λ (z : ℕ). Chain l.0 z (end_in (stood_at heads (length heads - 1)))) first (subst (λ (z : ℕ). Chain l.0 (stood_at (drop s heads) 0).head.first z) end l.3);
          stand = l.2;
          last = λ p st. let t = seen_of_place heads lists st.place p st.within st.is in let y = last_most t.index t.within in omega (arith, y, t.end);
          first = λ p st e. let t = seen_of_place heads lists st.place p st.within st.is in first_not s within begins t.index t.within (t.end ∙ e);
        } in
        cut_from l.0 (drop s heads) (stood_at heads s).head.first (end_in (stood_at heads (length heads - 1))) l.1 is

    cut_empty : (hs : List Stood) → hs ≡ heads → length heads ≡ 0 → (s : ℕ) → drop s hs ≡ map (stood_of c) (run_in (open_logs c r))
    cut_empty [] same none zero = sym (ap (map (stood_of c)) (run_none c r (log_pages c) apart_orderly (λ p st. let t = seen_of_place heads lists st.place p st.within st.is in let lt = t.within in omega (arith, lt, none))))
    cut_empty [] same none (suc s) = sym (ap (map (stood_of c)) (run_none c r (log_pages c) apart_orderly (λ p st. let t = seen_of_place heads lists st.place p st.within st.is in let lt = t.within in omega (arith, lt, none))))
    cut_empty (h ∷ hs) same none s = absurd (omega (arith, ap length same, none))

    pub cut_is_run : (s : ℕ) → BeginsRun heads s → drop s heads ≡ map (stood_of c) (run_in (open_logs c r))
    cut_is_run s begins = elim (cases_eq (length heads) 0) [ inl none ↦ cut_empty heads refl none s | inr nonempty ↦ cut_nonempty s (omega (arith, begins.within)) begins ]

  -- ---- heads in order of place

  pub last_run : (heads run : List Stood) → heads ≡ map (stood_of c) (open_logs c r) → AreLow heads → IsLastRun heads run → (run ≡ map (stood_of c) (run_in (open_logs c r))) × IsOrderly r (log_pages c)
  last_run heads run is low last =
      let m = moved_by heads last.sorted last.moved in
      let back = moved_by last.sorted heads (IsPermutation-sym heads last.sorted last.moved) in
      let lists = lists_moved c r heads last.sorted m back (lists_heads c r heads is) in
      let sorted_low = moved_low heads last.sorted m low in
      (last.is ∙ cut_is_run last.sorted lists sorted_low last.apart last.start last.begins, apart_orderly last.sorted lists sorted_low last.apart)

  -- in order of place their pages rise
  page_below : (n : ℕ) → n ≤ log_pages c → (i : ℕ) → i < length (map (stood_of c) (logs_below c r n)) → (stood_at (map (stood_of c) (logs_below c r n)) i).page < (log_area c).first + n
  page_below n le i lt =
      let l = index_in c (logs_below c r n) i lt in
      let s = in_stands c r n l.0 l.1 in
      let place = (stand s.0.place l.0.page (omega (arith, s.0.within, le)) s.0.is).1 in
      let page = ap (λ (x : Stood). x.page) l.2 in
      omega (arith, page, place, s.0.within)

  rising_more : (n : ℕ) → n < log_pages c → (here : Place) → r n ≡ here
      → ((a b : ℕ) → a < b → b < length (map (stood_of c) (logs_below c r n)) → (stood_at (map (stood_of c) (logs_below c r n)) a).page < (stood_at (map (stood_of c) (logs_below c r n)) b).page)
      → (a b : ℕ) → a < b → b < length (map (stood_of c) (with_place c here (logs_below c r n))) → (stood_at (map (stood_of c) (with_place c here (logs_below c r n))) a).page < (stood_at (map (stood_of c) (with_place c here (logs_below c r n))) b).page
  rising_more n le Closed is before a b lt within = before a b lt within
  rising_more n le Bad is before a b lt within = before a b lt within
  rising_more n le (Open p) is before a b lt within =
      let old = map (stood_of c) (logs_below c r n) in
      let new = stood_of c (log_of c p) in
      let joined : map (stood_of c) (logs_below c r n ++ log_of c p ∷ []) ≡ old ++ new ∷ [] = map-append (stood_of c) (logs_below c r n) (log_of c p ∷ []) in
      let long : length (map (stood_of c) (logs_below c r n ++ log_of c p ∷ [])) ≡ length old + 1 = ap length joined ∙ length-append old (new ∷ []) in
      let first : stood_at (map (stood_of c) (logs_below c r n ++ log_of c p ∷ [])) a ≡ stood_at old a = ap (λ (x : List Stood). stood_at x a) joined ∙ get_or_append_left old (new ∷ []) no_stood a (omega (arith, within, long)) in
      elim (cases_eq b (length old)) [
        | inl last ↦
            let second : stood_at (map (stood_of c) (logs_below c r n ++ log_of c p ∷ [])) b ≡ new = ap (λ (x : List Stood). stood_at x b) joined ∙ get_or-append_right old (new ∷ []) (length old) b no_stood refl (omega arith) ∙ ap (stood_at (new ∷ [])) (let e : b - length old ≡ 0 = omega arith in e) in
            let low = page_below n (omega arith) a (omega (arith, last)) in
            let place = (stand n p le is).1 in
            let e = ap (λ (x : Stood). x.page) first in
            let f = ap (λ (x : Stood). x.page) second in
            omega (arith, low, place, e, f)
        | inr other ↦
            let second : stood_at (map (stood_of c) (logs_below c r n ++ log_of c p ∷ [])) b ≡ stood_at old b = ap (λ (x : List Stood). stood_at x b) joined ∙ get_or_append_left old (new ∷ []) no_stood b (omega (arith, within, long)) in
            let up = before a b lt (omega (arith, within, long)) in
            let e = ap (λ (x : Stood). x.page) first in
            let f = ap (λ (x : Stood). x.page) second in
            omega (arith, up, e, f)
      ]

  pub rising : (n : ℕ) → n ≤ log_pages c → (a b : ℕ) → a < b → b < length (map (stood_of c) (logs_below c r n)) → (stood_at (map (stood_of c) (logs_below c r n)) a).page < (stood_at (map (stood_of c) (logs_below c r n)) b).page
  unfolding logs_below
  rising zero le a b lt within = absurd (omega (arith, within))
  rising (suc n) le a b lt within = rising_more n (omega arith) (r n) refl (rising n (omega arith)) a b lt within

  -- the first head that shares a position is of the first place that does
  pub first_shared : (heads : List Stood) → heads ≡ map (stood_of c) (open_logs c r) → AreLow heads → (m : ℕ) → IsFirstSharing heads m → (place : ℕ) × IsAt c place (stood_at heads m).chunk (stood_at heads m).page × IsFirstShared c r place
  unfolding seen_by
  first_shared heads is low m sharing =
      let lists = lists_heads c r heads is in
      let mine = lists.each m sharing.within in
      let earlier = sharing.shares.0 in
      let other = lists.each earlier (omega (arith, sharing.shares.1, sharing.within)) in
      let me = seen_by heads mine.0 mine.1 m mine.2 mine.3 sharing.within mine.4 in
      let it = seen_by heads other.0 other.1 earlier other.2 other.3 (omega (arith, sharing.shares.1, sharing.within)) other.4 in
      let up = order heads is earlier m sharing.shares.1 sharing.within in
      let over : Overlap (stood_at heads earlier) (stood_at heads m) = sharing.shares.2 in (
        mine.0,
        (ap (λ (x : Stood). x.chunk) mine.4, me.page),
        record {
          within = mine.2;
          good = good;
          shares = shared heads mine.0 other.0 mine.1 other.1 (omega (arith, up, me.page, it.page)) other.3 mine.3 (omega (arith, over.0, it.first, me.end)) (omega (arith, over.1, it.end, me.first)) (omega (arith, low m sharing.within, me.first, me.end)) (omega (arith, low earlier (omega (arith, sharing.shares.1, sharing.within)), it.first, it.end));
          before = λ k lt s. none heads lists is m mine.0 me.page sharing k lt mine.2 s;
        },
      )
    where
      order : (heads : List Stood) → heads ≡ map (stood_of c) (open_logs c r) → (a b : ℕ) → a < b → b < length heads → (stood_at heads a).page < (stood_at heads b).page
      order heads is = subst (λ (l : List Stood). (a b : ℕ) → a < b → b < length l → (stood_at l a).page < (stood_at l b).page) (sym is) (rising (log_pages c) (omega arith))

      shared : (heads : List Stood) (k l : ℕ) (q p : LogPage) → l < k → r l ≡ Open p → r k ≡ Open q → p.first < end_of q → q.first < end_of p → q.first < end_of q → p.first < end_of p → Shares r k
      shared heads k l q p lt ip iq pq qp qq pp = elim (three p.first q.first) [
        | inl lo ↦ (l, q.first, p, q, lt, ip, iq, (omega arith, qp), (omega arith, qq))
        | inr (inl same) ↦ (l, q.first, p, q, lt, ip, iq, (omega arith, qp), (omega arith, qq))
        | inr (inr hi) ↦ (l, p.first, p, q, lt, ip, iq, (omega arith, pp), (omega arith, pq))
      ]

      none : (heads : List Stood) → Lists c r heads → heads ≡ map (stood_of c) (open_logs c r) → (m place : ℕ) → (stood_at heads m).page ≡ (log_area c).first + place → IsFirstSharing heads m → (k : ℕ) → k < place → place < log_pages c → Shares r k → ⊥
      none heads lists is m place at sharing k lt within s =
          let p = s.2 in
          let q = s.3 in
          let it = seen_of_place heads lists s.0 p (omega (arith, s.4, lt, within)) s.5 in
          let me = seen_of_place heads lists k q (omega (arith, lt, within)) s.6 in
          let one : it.index < me.index = below heads is it.index me.index it.within (omega (arith, it.page, me.page, s.4)) in
          let two : me.index < m = below heads is me.index m me.within (omega (arith, me.page, at, lt)) in
          sharing.before me.index two (it.index, one, (omega (arith, it.first, me.end, s.7.0, s.8.1), omega (arith, me.first, it.end, s.8.0, s.7.1)))
        where
          below : (heads : List Stood) → heads ≡ map (stood_of c) (open_logs c r) → (a b : ℕ) → a < length heads → (stood_at heads a).page < (stood_at heads b).page → a < b
          below heads is a b within lt = elim (three a b) [
            | inl lo ↦ lo
            | inr (inl same) ↦ absurd (omega (arith, lt, ap (λ (i : ℕ). (stood_at heads i).page) same))
            | inr (inr hi) ↦ absurd (let up = order heads is b a hi within in omega (arith, up, lt))
          ]
