-- The ring of a run tells the pages that stand: an opening finds the disk ready, and the ring in order.
use Rattle.std.specs.List.{find, list_any}
use Rattle.std.specs.Option.{option_map}
use Rattle.std.specs.Prelude.{Bool, List, None, Option, Some, [], false, fold, if◌then◌else◌, is_some, map, max, true, ℕ, ◌||◌, ◌⊎◌, ◌++◌, ◌+◌, ◌-◌, ◌<◌, ◌==◌, ◌∷◌, ◌≡◌, ◌≤◌}
use Rattle.std.proofs.Common.{ap, arith, cond, inl, inr, ne_eqb, refl, subst, sym, ⊎_elim, ◌∙◌}
use Rattle.std.proofs.lemmas.Bool.{eqb-true}
use Rattle.std.proofs.lemmas.List.{append-nil, append_assoc}
use Rattle.ol_values.specs.Config.{Config, log_pages}
use Rattle.ol_values.specs.LogPages.{LogPage}
use Rattle.ol_values.specs.declared.record.Record.{Record}
use Rattle.ol_record.specs.LogPages.{head_of}
use Rattle.ol_record.specs.declared.head.LogHead.{LogHead}
use Rattle.ol_rules.specs.DiskValue.{AnchorValue, OpenLog, new_use, range_of, ring_found, use_with}
use Rattle.ol_rules.specs.Ring.{LogRange, Ring, Use, file_of, last_position, last_range}
use Rattle.ol_chunks.specs.Limits.{IsConfig}
use Rattle.ol_chunks.specs.Places.{log_area}
use Rattle.ol_log_places.specs.Heads.{AreInRun}
use Rattle.ol_log_places.specs.Places.{IsPlaced, Open, Place}
use Rattle.ol_log_places.specs.Runs.{AllStand, Chain, Has, IsLogged, IsNear, IsRun, Stands, end_of, open_logs, run_in}
use Rattle.ol_log_places.specs.Scanning.{stood_of}
use Rattle.ol_log_places.specs.Writes.{GatesAre}
use Rattle.ol_log_places.proofs.Journals.{logged_run}
use Rattle.ol_log_places.proofs.Logs.{In, compare, in_either, in_last, in_left}
use Rattle.ol_log_places.proofs.Runs.{open_page, run_or_none}
use Rattle.ol_log_state.specs.declared.places.RingStart.{RingStart}
use Rattle.ol_log_state.specs.Files.{current_use, greatest_of}
use Rattle.ol_log_state.specs.RingState.{RingState, first_uniq, heads_of_logs, ring_of, started}
use Rattle.ol_log_state.specs.StoredFiles.{heads_in}
use Rattle.ol_log_state.proofs.FoundLaws.{found_ring}
use Rattle.ol_log_state.proofs.NextLaws.{other_file}
use Rattle.ol_ports.specs.Disk.{Past}
use Rattle.ol_loglog.specs.RingValue.{first_unwritten, ring_value}
use Rattle.ol_loglog.specs.Ready.{IsInOrder, IsReady}
use Rattle.ol_loglog.proofs.HeadLaws.{Keeps, keeps_run, none_lost}
use Rattle.ol_loglog.proofs.Steps.{found_map, found_passes, last_snoc, of_map, same_number, some_same}

-- ---- lists of uses

any_found : (test : Use → Bool) (uses : List Use) → list_any test uses ≡ true → (u : Use) × (find test uses ≡ Some u)
any_found test [] any = absurd (let clash : false ≡ true = any in cc)
any_found test (w ∷ uses) any =
    elim (test w) as (λ b. (b || list_any test uses) ≡ true → (u : Use) × (cond b (Some w) (find test uses) ≡ Some u)) [
      | true ↦ λ is. (w, refl)
      | false ↦ λ is. any_found test uses is
    ] any

found_any : (test other : Use → Bool) (uses : List Use) (u : Use) → find test uses ≡ Some u → other u ≡ true → list_any other uses ≡ true
found_any test other [] u found on = absurd (let clash : None ≡ Some u = found in cc)
found_any test other (w ∷ uses) u found on =
    elim (test w) as (λ b. cond b (Some w) (find test uses) ≡ Some u → (other w || list_any other uses) ≡ true) [
      | true ↦ λ is. ap (λ b. b || list_any other uses) (ap other (some_same w u is) ∙ on)
      | false ↦ λ is.
          (let rest = found_any test other uses u is on in
          elim (other w) as (λ b. (b || list_any other uses) ≡ true) [ true ↦ refl | false ↦ rest ])
    ] found

find_front : (test : Use → Bool) (uses : List Use) (new u : Use) → find test uses ≡ Some u → find test (uses ++ new ∷ []) ≡ Some u
find_front test [] new u found = absurd (let clash : None ≡ Some u = found in cc)
find_front test (w ∷ uses) new u found =
    elim (test w) as (λ b. cond b (Some w) (find test uses) ≡ Some u → cond b (Some w) (find test (uses ++ new ∷ [])) ≡ Some u) [
      | true ↦ λ is. is
      | false ↦ λ is. find_front test uses new u is
    ] found

find_back : (test : Use → Bool) (uses : List Use) (new : Use) → find test uses ≡ None → find test (uses ++ new ∷ []) ≡ cond (test new) (Some new) None
find_back test [] new none = refl
find_back test (w ∷ uses) new none =
    elim (test w) as (λ b. cond b (Some w) (find test uses) ≡ None → cond b (Some w) (find test (uses ++ new ∷ [])) ≡ cond (test new) (Some new) None) [
      | true ↦ λ is. absurd (let clash : Some w ≡ None = is in cc)
      | false ↦ λ is. find_back test uses new is
    ] none

only_new : (b : Bool) (new u : Use) → cond b (Some new) None ≡ Some u → (b ≡ true) × (new ≡ u)
only_new true new u is = (refl, some_same new u is)
only_new false new u is = absurd (let clash : None ≡ Some u = is in cc)

find_end : (test : Use → Bool) (uses : List Use) (new u : Use) → find test (uses ++ new ∷ []) ≡ Some u → (find test uses ≡ Some u) ⊎ ((test new ≡ true) × (new ≡ u))
find_end test uses new u is = by_front (find test uses) refl
  where
    by_front : (o : Option Use) → find test uses ≡ o → (find test uses ≡ Some u) ⊎ ((test new ≡ true) × (new ≡ u))
    by_front None none = inr (only_new (test new) new u (sym (find_back test uses new none) ∙ is))
    by_front (Some w) found = inl (found ∙ sym (find_front test uses new w found) ∙ is)

-- ---- what the uses of some pages of a run tell

abbrev in_file : Config → List Use → ℕ → Option Use
in_file c uses file = find (λ (u : Use). file_of c u.uniq == file) uses

abbrev numbered_in : List Use → ℕ → Option Use
numbered_in uses uniq = find (λ (u : Use). u.uniq == uniq) uses

record Told (c : Config) (uses : List Use) (done : List OpenLog) : Type 0 where
  pub found : (l : OpenLog) → In l done → (u : Use) × (in_file c uses (file_of c l.page.uniq) ≡ Some u) × (end_of l.page ≤ last_position u + 1) × (l.page.index ≤ (last_range u).index)
  pub numbered : (uniq : ℕ) (u : Use) → numbered_in uses uniq ≡ Some u → in_file c uses (file_of c uniq) ≡ Some u
  pub from : (file : ℕ) (u : Use) → in_file c uses file ≡ Some u → (l : OpenLog) × In l done × (l.page.uniq ≡ u.uniq) × (last_range u ≡ range_of l.page)

none_told : (c : Config) → Told c [] []
unfolding In
none_told c = record {
  found = λ l i. absurd i;
  numbered = λ uniq u is. absurd (let clash : None ≡ Some u = is in cc);
  from = λ file u is. absurd (let clash : None ≡ Some u = is in cc);
}

in_none : (m : OpenLog) → In m [] → ⊥
unfolding In
in_none m i = i

abbrev more_of : OpenLog → Use → Use
more_of l u = if u.uniq == l.page.uniq then record u { pages = u.pages ++ range_of l.page ∷ [] } else u

more_number : (l : OpenLog) (u : Use) → (more_of l u).uniq ≡ u.uniq
more_number l u = elim (u.uniq == l.page.uniq) as (λ b. (let x : Use = (if b then record u { pages = u.pages ++ range_of l.page ∷ [] } else u) in x).uniq ≡ u.uniq) [ true ↦ refl | false ↦ refl ]

module _ (c : Config) (r : ℕ → Place) (j : ℕ → Record) (floor upto : ℕ) (log : IsLogged c r j floor upto) where
  module _ (uses : List Use) (done : List OpenLog) (told : Told c uses done) (l : OpenLog) (here : Stands r (log_pages c) l.page) (stand : (m : OpenLog) → In m done → Stands r (log_pages c) m.page) (ends : (m : OpenLog) → In m done → end_of m.page ≤ l.page.first) where
    -- an earlier page of the same number has a lower index
    lower : (m : OpenLog) → In m done → m.page.uniq ≡ l.page.uniq → m.page.index ≤ l.page.index
    lower m i same = elim (compare l.page.index m.page.index) [
      | inl lt ↦ absurd (let after = log.order l.page m.page here (stand m i) (inr (sym same, lt)) in let some = log.orderly.some (stand m i).place m.page (stand m i).within (stand m i).is in let mine = log.orderly.some here.place l.page here.within here.is in omega (arith, after, ends m i, some, mine))
      | inr le ↦ le
    ]

    -- the use of a file has the number of its pages
    number_of : (m : OpenLog) → In m done → (u : Use) → in_file c uses (file_of c m.page.uniq) ≡ Some u → m.page.uniq ≡ u.uniq
    number_of m i u found =
        let fr = told.from (file_of c m.page.uniq) u found in
        let file = eqb-true (file_of c u.uniq) (file_of c m.page.uniq) (found_passes (λ (x : Use). file_of c x.uniq == file_of c m.page.uniq) uses u found) in
        log.one_use m.page fr.0.page (stand m i) (stand fr.0 fr.1) (sym file ∙ ap (file_of c) (sym fr.2)) ∙ fr.2

    -- ---- its use has pages already

    module _ (any : list_any (λ (u : Use). u.uniq == l.page.uniq) uses ≡ true) where
      in_more : (file : ℕ) → in_file c (map (more_of l) uses) file ≡ option_map (more_of l) (in_file c uses file)
      in_more file = found_map (λ (u : Use). file_of c u.uniq == file) (more_of l) uses (λ w. ap (λ n. file_of c n == file) (more_number l w))

      last_more : (u : Use) → (u.uniq == l.page.uniq) ≡ true → last_range (more_of l u) ≡ range_of l.page
      last_more u same = ap (λ b. last_range (let x : Use = (if b then record u { pages = u.pages ++ range_of l.page ∷ [] } else u) in x)) same ∙ last_snoc None u.pages (range_of l.page)

      mine_told : (u : Use) × (in_file c (map (more_of l) uses) (file_of c l.page.uniq) ≡ Some u) × (end_of l.page ≤ last_position u + 1) × (l.page.index ≤ (last_range u).index)
      mine_told =
          let w = any_found (λ (u : Use). u.uniq == l.page.uniq) uses any in
          let range = last_more w.0 (found_passes (λ (u : Use). u.uniq == l.page.uniq) uses w.0 w.1) in
          let first = ap (λ x. x.first) range in
          let count = ap (λ x. x.count) range in
          let index = ap (λ x. x.index) range in
          (more_of l w.0, in_more (file_of c l.page.uniq) ∙ ap (option_map (more_of l)) (told.numbered l.page.uniq w.0 w.1), omega (arith, first, count), omega (arith, index))

      old_told : (m : OpenLog) → In m done → (u : Use) × (in_file c (map (more_of l) uses) (file_of c m.page.uniq) ≡ Some u) × (end_of m.page ≤ last_position u + 1) × (m.page.index ≤ (last_range u).index)
      old_told m i = let b = by_number (was.0.uniq == l.page.uniq) refl in (more_of l was.0, in_more (file_of c m.page.uniq) ∙ ap (option_map (more_of l)) was.1, b.0, b.1)
        where
          was : (u : Use) × (in_file c uses (file_of c m.page.uniq) ≡ Some u) × (end_of m.page ≤ last_position u + 1) × (m.page.index ≤ (last_range u).index)
          was = told.found m i

          by_number : (b : Bool) → (was.0.uniq == l.page.uniq) ≡ b → (end_of m.page ≤ last_position (more_of l was.0) + 1) × (m.page.index ≤ (last_range (more_of l was.0)).index)
          by_number true same =
              let range = last_more was.0 same in
              let first = ap (λ x. x.first) range in
              let count = ap (λ x. x.count) range in
              let index = ap (λ x. x.index) range in
              let low = lower m i (number_of m i was.0 was.1 ∙ eqb-true was.0.uniq l.page.uniq same) in
              (omega (arith, first, count, ends m i), omega (arith, index, low))
          by_number false other =
              let range = ap (λ b. last_range (let x : Use = (if b then record was.0 { pages = was.0.pages ++ range_of l.page ∷ [] } else was.0) in x)) other in
              let first = ap (λ x. x.first) range in
              let count = ap (λ x. x.count) range in
              let index = ap (λ x. x.index) range in
              (omega (arith, first, count, was.2), omega (arith, index, was.3))

      from_more : (file : ℕ) (u w : Use) → in_file c uses file ≡ Some w → more_of l w ≡ u → (m : OpenLog) × In m (done ++ l ∷ []) × (m.page.uniq ≡ u.uniq) × (last_range u ≡ range_of m.page)
      from_more file u w found e = by_number (w.uniq == l.page.uniq) refl
        where
          number : w.uniq ≡ u.uniq
          number = sym (more_number l w) ∙ ap (λ (x : Use). x.uniq) e

          by_number : (b : Bool) → (w.uniq == l.page.uniq) ≡ b → (m : OpenLog) × In m (done ++ l ∷ []) × (m.page.uniq ≡ u.uniq) × (last_range u ≡ range_of m.page)
          by_number true same = (l, in_last l done, sym (eqb-true w.uniq l.page.uniq same) ∙ number, ap last_range (sym e) ∙ last_more w same)
          by_number false other =
              let fr = told.from file w found in
              let kept = ap (λ b. last_range (let x : Use = (if b then record w { pages = w.pages ++ range_of l.page ∷ [] } else w) in x)) other in
              (fr.0, in_left fr.0 done (l ∷ []) fr.1, fr.2 ∙ number, ap last_range (sym e) ∙ kept ∙ fr.3)

      more_told : Told c (map (more_of l) uses) (done ++ l ∷ [])
      more_told = record {
        found = λ m i. ⊎_elim
            (λ (e : l ≡ m). subst (λ (x : OpenLog). (u : Use) × (in_file c (map (more_of l) uses) (file_of c x.page.uniq) ≡ Some u) × (end_of x.page ≤ last_position u + 1) × (x.page.index ≤ (last_range u).index)) e mine_told)
            (λ old. old_told m old) (in_either m l done i);
        numbered = λ uniq u is.
            (let w = of_map (more_of l) (numbered_in uses uniq) u (sym (found_map (λ (x : Use). x.uniq == uniq) (more_of l) uses (λ x. ap (λ n. n == uniq) (more_number l x))) ∙ is) in
            in_more (file_of c uniq) ∙ ap (option_map (more_of l)) (told.numbered uniq w.0 w.1) ∙ ap Some w.2);
        from = λ file u is.
            (let w = of_map (more_of l) (in_file c uses file) u (sym (in_more file) ∙ is) in from_more file u w.0 w.1 w.2);
      }

    -- ---- it is the first of its use

    module _ (none : list_any (λ (u : Use). u.uniq == l.page.uniq) uses ≡ false) where
      none_there : (o : Option Use) → in_file c uses (file_of c l.page.uniq) ≡ o → in_file c uses (file_of c l.page.uniq) ≡ None
      none_there None is = is
      none_there (Some u) is =
          absurd (let fr = told.from (file_of c l.page.uniq) u is in
          let file = eqb-true (file_of c u.uniq) (file_of c l.page.uniq) (found_passes (λ (x : Use). file_of c x.uniq == file_of c l.page.uniq) uses u is) in
          let same = log.one_use fr.0.page l.page (stand fr.0 fr.1) here (ap (file_of c) fr.2 ∙ file) in
          let any = found_any (λ (x : Use). file_of c x.uniq == file_of c l.page.uniq) (λ (x : Use). x.uniq == l.page.uniq) uses u is (ap (λ n. n == l.page.uniq) (sym fr.2 ∙ same) ∙ same_number l.page.uniq) in
          let clash : false ≡ true = sym none ∙ any in
          cc)

      new_there : in_file c (uses ++ new_use l.page ∷ []) (file_of c l.page.uniq) ≡ Some (new_use l.page)
      new_there = find_back (λ (u : Use). file_of c u.uniq == file_of c l.page.uniq) uses (new_use l.page) (none_there (in_file c uses (file_of c l.page.uniq)) refl) ∙ ap (λ b. cond b (Some (new_use l.page)) None) (same_number (file_of c l.page.uniq))

      first_told : Told c (uses ++ new_use l.page ∷ []) (done ++ l ∷ [])
      first_told = record {
        found = λ m i. ⊎_elim
            (λ (e : l ≡ m). subst (λ (x : OpenLog). (u : Use) × (in_file c (uses ++ new_use l.page ∷ []) (file_of c x.page.uniq) ≡ Some u) × (end_of x.page ≤ last_position u + 1) × (x.page.index ≤ (last_range u).index)) e (new_use l.page, new_there, omega arith, omega arith))
            (λ old. (let was = told.found m old in (was.0, find_front (λ (u : Use). file_of c u.uniq == file_of c m.page.uniq) uses (new_use l.page) was.0 was.1, was.2, was.3))) (in_either m l done i);
        numbered = λ uniq u is. ⊎_elim
            (λ old. find_front (λ (x : Use). file_of c x.uniq == file_of c uniq) uses (new_use l.page) u (told.numbered uniq u old))
            (λ mine. subst (λ (n : ℕ). in_file c (uses ++ new_use l.page ∷ []) (file_of c n) ≡ Some u) (eqb-true l.page.uniq uniq mine.0) (new_there ∙ ap Some mine.1))
            (find_end (λ (x : Use). x.uniq == uniq) uses (new_use l.page) u is);
        from = λ file u is. ⊎_elim
            (λ old. (let fr = told.from file u old in (fr.0, in_left fr.0 done (l ∷ []) fr.1, fr.2, fr.3)))
            (λ mine. (l, in_last l done, ap (λ (x : Use). x.uniq) mine.1, ap last_range (sym mine.1)))
            (find_end (λ (x : Use). file_of c x.uniq == file) uses (new_use l.page) u is);
      }

    one_told : Told c (use_with uses l) (done ++ l ∷ [])
    one_told = by_any (list_any (λ (u : Use). u.uniq == l.page.uniq) uses) refl
      where
        by_any : (b : Bool) → list_any (λ (u : Use). u.uniq == l.page.uniq) uses ≡ b → Told c (let x : List Use = (if b then map (more_of l) uses else uses ++ new_use l.page ∷ []) in x) (done ++ l ∷ [])
        by_any true any = more_told any
        by_any false none = first_told none

  all_told : (run : List OpenLog) (uses : List Use) (done : List OpenLog) (a b : ℕ) → Told c uses done → ((m : OpenLog) → In m done → Stands r (log_pages c) m.page) → ((m : OpenLog) → In m done → end_of m.page ≤ a) → Chain run a b → AllStand c r (log_pages c) run → Told c (fold use_with uses run) (done ++ run)
  unfolding Chain AllStand
  all_told [] uses done a b told stand ends chain all = subst (Told c uses) (sym (append-nil done)) told
  all_told (l ∷ run) uses done a b told stand ends chain all =
      subst (Told c (fold use_with (use_with uses l) run)) (append_assoc done (l ∷ []) run)
      (all_told run (use_with uses l) (done ++ l ∷ []) (end_of l.page) b
      (one_told uses done told l all.0.0 stand (λ m i. (let e = ends m i in omega (arith, e, chain.0))))
      (λ m i. ⊎_elim (λ (e : l ≡ m). subst (λ (x : OpenLog). Stands r (log_pages c) x.page) e all.0.0) (λ old. stand m old) (in_either m l done i))
      (λ m i. ⊎_elim (λ (e : l ≡ m). (let x = ap (λ (o : OpenLog). end_of o.page) e in omega (arith, x))) (λ old. (let x = ends m old in omega (arith, x, chain.0))) (in_either m l done i))
      chain.1 all.1)

  -- ---- pages of a run

  in_stand : (run : List OpenLog) (m : OpenLog) → AllStand c r (log_pages c) run → In m run → Stands r (log_pages c) m.page
  unfolding In AllStand
  in_stand [] m all i = absurd i
  in_stand (l ∷ run) m all i = ⊎_elim (λ (e : l ≡ m). subst (λ (x : OpenLog). Stands r (log_pages c) x.page) e all.0.0) (λ rest. in_stand run m all.1 rest) i

  in_from : (run : List OpenLog) (a b : ℕ) (m : OpenLog) → Chain run a b → In m run → a ≤ m.page.first
  unfolding In Chain
  in_from [] a b m chain i = absurd i
  in_from (l ∷ run) a b m chain i = ⊎_elim (λ (e : l ≡ m). (let x = ap (λ (o : OpenLog). o.page.first) e in omega (arith, x, chain.0))) (λ rest. (let x = in_from run (end_of l.page) b m chain.1 rest in omega (arith, x, chain.0))) i

  chain_in : (run : List OpenLog) (a b x : ℕ) → Chain run a b → a ≤ x → x < b → (l : OpenLog) × In l run × Has l.page x
  unfolding In Chain
  chain_in [] a b x chain le lt = absurd (omega (arith, chain, le, lt))
  chain_in (l ∷ run) a b x chain le lt = elim (compare x (end_of l.page)) [
    | inl below ↦ (l, inl refl, (omega (arith, le, chain.0), below))
    | inr above ↦ (let h = chain_in run (end_of l.page) b x chain.1 above lt in (h.0, inr h.1, h.2))
  ]

  same_page : (p q : LogPage) (x : ℕ) → Stands r (log_pages c) p → Stands r (log_pages c) q → Has p x → Has q x → p ≡ q
  same_page p q x s t hp hq = open_page p q (sym s.is ∙ subst (λ (k : ℕ). r k ≡ Open q) (sym (log.orderly.apart s.place t.place x p q s.within t.within s.is t.is hp hq)) t.is)

  -- a page with a position of the run is told
  page_told : (uses : List Use) (run : List OpenLog) (a b x : ℕ) → Told c uses run → Chain run a b → AllStand c r (log_pages c) run → a ≤ x → x < b → (p : LogPage) → Stands r (log_pages c) p → Has p x
      → (u : Use) × (in_file c uses (file_of c p.uniq) ≡ Some u) × (end_of p ≤ last_position u + 1) × (p.index ≤ (last_range u).index)
  page_told uses run a b x told chain all le lt p s has =
      let l = chain_in run a b x chain le lt in
      let same = same_page l.0.page p x (in_stand run l.0 all l.1) s l.2 has in
      subst (λ (q : LogPage). (u : Use) × (in_file c uses (file_of c q.uniq) ≡ Some u) × (end_of q ≤ last_position u + 1) × (q.index ≤ (last_range u).index)) same (told.found l.0 l.1)

  -- a page that ends at or behind another has no lower number
  last_greatest : (l p : LogPage) → Stands r (log_pages c) l → Stands r (log_pages c) p → end_of p ≤ end_of l → p.uniq ≤ l.uniq
  last_greatest l p t s le = elim (compare l.uniq p.uniq) [
    | inl lt ↦ absurd (let after = log.order l p t s (inl lt) in let some = log.orderly.some s.place p s.within s.is in omega (arith, after, some, le))
    | inr low ↦ low
  ]

-- ---- the greatest number of a run

pub greatest_from : (heads : List LogHead) (n : ℕ) → n ≤ greatest_of n heads
greatest_from [] n = omega arith
greatest_from (h ∷ heads) n = let le = greatest_from heads (max n h.uniq) in omega (arith, le)

greatest_in : (run : List OpenLog) (n : ℕ) (m : OpenLog) → In m run → m.page.uniq ≤ greatest_of n (heads_of_logs run)
unfolding In
greatest_in [] n m i = absurd i
greatest_in (l ∷ run) n m i =
    ⊎_elim (λ (e : l ≡ m). (let le = greatest_from (heads_of_logs run) (max n l.page.uniq) in let x = ap (λ (o : OpenLog). o.page.uniq) e in omega (arith, le, x))) (λ rest. greatest_in run (max n l.page.uniq) m rest) i

greatest_most : (run : List OpenLog) (n most : ℕ) → n ≤ most → ((m : OpenLog) → In m run → m.page.uniq ≤ most) → greatest_of n (heads_of_logs run) ≤ most
unfolding In
greatest_most [] n most le all = le
greatest_most (l ∷ run) n most le all = greatest_most run (max n l.page.uniq) most (let here = all l (inl refl) in omega (arith, le, here)) (λ m i. all m (inr i))

run_numbered : (c : Config) (pages : ℕ) (run : List OpenLog) (m : OpenLog) → In m run → AreInRun pages (map (stood_of c) run) → 1 ≤ m.page.uniq
unfolding In
run_numbered c pages [] m i all = absurd i
run_numbered c pages (l ∷ run) m i all = ⊎_elim (λ (e : l ≡ m). (let x = ap (λ (o : OpenLog). o.page.uniq) e in let low = all.0.uniq.0 in omega (arith, x, low))) (λ rest. run_numbered c pages run m rest all.1) i

-- ---- the ring that an opening finds

heads_of_run : (c : Config) (run : List OpenLog) → heads_in (map (stood_of c) run) ≡ heads_of_logs run
heads_of_run c [] = refl
heads_of_run c (l ∷ run) = ap (λ x. head_of l.page ∷ x) (heads_of_run c run)

abbrev opened : Config → RingStart → (ℕ → Place) → RingState
opened c start r = started (log_area c) start (heads_in (map (stood_of c) (run_in (open_logs c r))))

uses_are : (c : Config) (start : RingStart) (a : AnchorValue) (run : List OpenLog) → a.uniq ≡ start.uniq → a.lasting.backed ≡ start.backed → (ring_of (started (log_area c) start (heads_in (map (stood_of c) run)))).uses ≡ fold use_with [] run
unfolding ring_found
uses_are c start a run uniq backed =
    ap (λ h. (ring_of (started (log_area c) start h)).uses) (heads_of_run c run) ∙ ap (λ (x : Ring). x.uses) (found_ring (log_area c) a start run uniq backed)

module _ (c : Config) (r : ℕ → Place) (j : ℕ → Record) (floor upto : ℕ) (log : IsLogged c r j floor upto) (start : RingStart) (a : AnchorValue) (uniq : a.uniq ≡ start.uniq) (backed : a.lasting.backed ≡ start.backed) where
  abbrev run : List OpenLog
  run = run_in (open_logs c r)

  abbrev uses : List Use
  uses = (ring_of (opened c start r)).uses

  told_run : Told c uses run
  told_run = subst (λ (x : List Use). Told c x run) (sym (uses_are c start a run uniq backed)) (by_run (run_or_none c r (log_pages c) log.orderly))
    where
      by_run : ((run ≡ []) × ((p : LogPage) → Stands r (log_pages c) p → ⊥)) ⊎ ((low high : ℕ) × IsRun c r (log_pages c) run low high) → Told c (fold use_with [] run) run
      by_run (inl none) = subst (λ (x : List OpenLog). Told c (fold use_with [] x) x) (sym none.0) (none_told c)
      by_run (inr (low, high, is)) = all_told c r j floor upto log run [] [] low high (none_told c) (λ m i. absurd (in_none m i)) (λ m i. absurd (in_none m i)) is.chain is.stand

  run_stands : (m : OpenLog) → In m run → Stands r (log_pages c) m.page
  run_stands m i = by_run (run_or_none c r (log_pages c) log.orderly)
    where
      by_run : ((run ≡ []) × ((p : LogPage) → Stands r (log_pages c) p → ⊥)) ⊎ ((low high : ℕ) × IsRun c r (log_pages c) run low high) → Stands r (log_pages c) m.page
      by_run (inl none) = absurd (in_none m (subst (In m) none.0 i))
      by_run (inr (low, high, is)) = in_stand c r j floor upto log run m is.stand i

  -- the current number
  current_is : (opened c start r).files.uniq ≡ greatest_of (first_uniq start) (heads_of_logs run)
  current_is = ap (greatest_of (first_uniq start)) (heads_of_run c run)

  module _ (p : LogPage) (s : Stands r (log_pages c) p) where
    newest_opened : p.uniq ≤ (opened c start r).files.uniq
    newest_opened = by_run (run_or_none c r (log_pages c) log.orderly)
      where
        by_run : ((run ≡ []) × ((q : LogPage) → Stands r (log_pages c) q → ⊥)) ⊎ ((low high : ℕ) × IsRun c r (log_pages c) run low high) → p.uniq ≤ (opened c start r).files.uniq
        by_run (inl none) = absurd (none.1 p s)
        by_run (inr (low, high, is)) =
            let some = is.some in
            let l = chain_in c r j floor upto log run low high (high - 1) is.chain (omega (arith, some)) (omega (arith, some)) in
            let most = is.last p s in
            let le = last_greatest c r j floor upto log l.0.page p (run_stands l.0 l.1) s (omega (arith, most, l.2.1, some)) in
            let here = greatest_in run (first_uniq start) l.0 l.1 in
            omega (arith, le, here, current_is)

    -- a page that ends last
    near_opened : end_of p ≡ upto → first_uniq start ≤ p.uniq + 1 → (opened c start r).files.uniq ≤ p.uniq + 1
    near_opened end low =
        let most = greatest_most run (first_uniq start) (p.uniq + 1) low (λ m i.
        (let t = run_stands m i in let below = log.covers.last m.page t in let le = last_greatest c r j floor upto log p m.page s t (omega (arith, below, end)) in omega (arith, le))) in
        omega (arith, most, current_is)

    -- where a use of the current number stands, it has that number
    last_opened : end_of p ≡ upto → (u : Use) → current_use (opened c start r).files ≡ Some u → p.uniq ≡ (opened c start r).files.uniq
    last_opened end u is =
        let fr = told_run.from (file_of c (opened c start r).files.uniq) u (told_run.numbered (opened c start r).files.uniq u is) in
        let number = eqb-true u.uniq (opened c start r).files.uniq (found_passes (λ (x : Use). x.uniq == (opened c start r).files.uniq) uses u is) in
        let t = run_stands fr.0 fr.1 in
        let below = log.covers.last fr.0.page t in
        let le = last_greatest c r j floor upto log p fr.0.page s t (omega (arith, below, end)) in
        omega (arith, le, newest_opened, fr.2, number)

    told_above : floor < end_of p → (u : Use) × (in_file c uses (file_of c p.uniq) ≡ Some u) × (end_of p ≤ last_position u + 1)
    told_above above =
        let most = log.covers.last p s in
        let some = log.orderly.some s.place p s.within s.is in
        let is = logged_run c r j floor upto (omega (arith, above, most)) log in
        let h = page_told c r j floor upto log uses run is.0 upto (end_of p - 1) told_run is.2.chain is.2.stand (omega (arith, above, is.1)) (omega (arith, most, some)) p s (omega (arith, some), omega (arith, some)) in
        (h.0, h.1, h.2)

    current_told : (u : Use) → file_of c p.uniq ≡ file_of c (opened c start r).files.uniq → current_use (opened c start r).files ≡ Some u → (p.uniq ≡ (opened c start r).files.uniq) × (p.index ≤ (last_range u).index)
    current_told u same is = by_run (run_or_none c r (log_pages c) log.orderly)
      where
        current : ℕ
        current = (opened c start r).files.uniq

        here : in_file c uses (file_of c (opened c start r).files.uniq) ≡ Some u
        here = told_run.numbered (opened c start r).files.uniq u is

        number : u.uniq ≡ (opened c start r).files.uniq
        number = eqb-true u.uniq (opened c start r).files.uniq (found_passes (λ (x : Use). x.uniq == (opened c start r).files.uniq) uses u is)

        -- what is told of the use in the page's file is told of the current use
        of_current : (file : ℕ) → file ≡ file_of c (opened c start r).files.uniq → (w : Use) → in_file c uses file ≡ Some w → w ≡ u
        of_current file e w found = some_same w u (sym found ∙ ap (in_file c uses) e ∙ here)

        by_run : ((run ≡ []) × ((q : LogPage) → Stands r (log_pages c) q → ⊥)) ⊎ ((low high : ℕ) × IsRun c r (log_pages c) run low high) → (p.uniq ≡ (opened c start r).files.uniq) × (p.index ≤ (last_range u).index)
        by_run (inl none) = absurd (none.1 p s)
        by_run (inr (low, high, run_is)) =
            let fr = told_run.from (file_of c (opened c start r).files.uniq) u here in
            let m = fr.0.page in
            let t = in_stand c r j floor upto log run fr.0 run_is.stand fr.1 in
            let equal : p.uniq ≡ m.uniq = log.one_use p m s t (same ∙ ap (file_of c) (sym (fr.2 ∙ number))) in
            let f = told_run.found fr.0 fr.1 in
            let mine : m.index ≤ (last_range u).index = (let e = ap (λ (x : Use). (last_range x).index) (of_current (file_of c m.uniq) (ap (file_of c) (fr.2 ∙ number)) f.0 f.1) in let le = f.3 in omega (arith, e, le)) in (
              equal ∙ fr.2 ∙ number,
              elim (compare m.index p.index) [
                | inl lt ↦
                    (let after = log.order m p t s (inr (sym equal, lt)) in
                    let from = in_from c r j floor upto log run low high fr.0 run_is.chain fr.1 in
                    let most = run_is.last p s in
                    let some = log.orderly.some s.place p s.within s.is in
                    let h = page_told c r j floor upto log uses run low high p.first told_run run_is.chain run_is.stand (omega (arith, after, from)) (omega (arith, most, some)) p s (omega arith, omega (arith, some)) in
                    let e = ap (λ (x : Use). (last_range x).index) (of_current (file_of c p.uniq) same h.0 h.1) in
                    let le = h.3 in
                    omega (arith, e, le))
                | inr le ↦ omega (arith, le, mine)
              ],
            )

  kept_opened : Keeps c r none_lost (opened c start r).files.uses
  unfolding AllStand
  kept_opened = by_run (run_or_none c r (log_pages c) log.orderly)
    where
      by_run : ((run ≡ []) × ((p : LogPage) → Stands r (log_pages c) p → ⊥)) ⊎ ((low high : ℕ) × IsRun c r (log_pages c) run low high) → Keeps c r none_lost (opened c start r).files.uses
      by_run (inl none) = keeps_run c r run [] (subst (AllStand c r (log_pages c)) (sym none.0) tt) tt
      by_run (inr (low, high, is)) = keeps_run c r run [] is.stand tt

  module _ (near : IsNear c r (first_uniq start) upto) (next : upto ≡ start.next) where
    pub ready_opened : (past : Past) (gates : List Bool) → IsPlaced past c r → GatesAre gates r → IsReady past (ring_value c (opened c start r) gates) r floor j
    ready_opened past gates placed are = record {
      placed = placed;
      gates = are;
      logged = subst (IsLogged c r j floor) (let e : upto ≡ first_unwritten (opened c start r) = omega (arith, next) in e) log;
      buffer = refl;
      alone = λ u is. told_run.numbered (opened c start r).files.uniq u is;
      current = λ p u s same is. current_told p s u same is;
      told = λ p s above. told_above p s above;
      newest = λ p s. newest_opened p s;
      near = subst (IsNear c r (opened c start r).files.uniq) (let e : upto ≡ first_unwritten (opened c start r) = omega (arith, next) in e) (λ p s end. near_opened p s end (near p s end));
      last = λ p u s end is. last_opened p s (omega (arith, end, next)) u is;
      kept = kept_opened;
    }

    -- ---- the ring is in order

    -- the last page of a use
    last_of : (file : ℕ) (u : Use) → in_file c uses file ≡ Some u → (l : OpenLog) × In l run × (l.page.uniq ≡ u.uniq) × (last_position u + 1 ≡ end_of l.page)
    last_of file u is =
        let fr = told_run.from file u is in
        let t = run_stands fr.0 fr.1 in
        let some = log.orderly.some t.place fr.0.page t.within t.is in
        let e = ap (λ (x : LogRange). x.first + x.count - 1) fr.3 in
        (fr.0, fr.1, fr.2, omega (arith, some, e))

    module _ (config : IsConfig c) (fits : AreInRun c.log_file_pages (map (stood_of c) run)) where
      module _ (file : ℕ) (u : Use) (is : in_file c uses file ≡ Some u) (l : OpenLog) (i : In l run) (number : l.page.uniq ≡ u.uniq) (end : end_of l.page ≡ upto) where
        abbrev current : ℕ
        current = (opened c start r).files.uniq

        stands_in : file_of c u.uniq ≡ file
        stands_in = eqb-true (file_of c u.uniq) file (found_passes (λ (x : Use). file_of c x.uniq == file) uses u is)

        -- it is the current use
        current_there : current ≡ l.page.uniq → is_some (numbered_in uses current) ≡ (file == file_of c current)
        current_there same =
            let mine = sym number ∙ sym same in
            let any = found_any (λ (x : Use). file_of c x.uniq == file) (λ (x : Use). x.uniq == current) uses u is (ap (λ n. n == current) mine ∙ same_number current) in
            let w = any_found (λ (x : Use). x.uniq == current) uses any in
            let here = sym stands_in ∙ ap (file_of c) mine in
            ap is_some w.1 ∙ sym (ap (λ n. n == file_of c current) here ∙ same_number (file_of c current))

        no_greater : (o : Option Use) → numbered_in uses (l.page.uniq + 1) ≡ o → is_some o ≡ false
        no_greater None found = refl
        no_greater (Some w) found =
            absurd (let fr = told_run.from (file_of c (l.page.uniq + 1)) w (told_run.numbered (l.page.uniq + 1) w found) in
            let passes = eqb-true w.uniq (l.page.uniq + 1) (found_passes (λ (x : Use). x.uniq == l.page.uniq + 1) uses w found) in
            let t = run_stands fr.0 fr.1 in
            let below = log.covers.last fr.0.page t in
            let le = last_greatest c r j floor upto log l.page fr.0.page (run_stands l i) t (omega (arith, below, end)) in
            omega (arith, le, fr.2, passes))

        -- the current use is the next one, which has no page
        next_none : is_some (numbered_in uses (l.page.uniq + 1)) ≡ (file == file_of c (l.page.uniq + 1))
        next_none =
            let apart = other_file c l.page.uniq (run_numbered c c.log_file_pages run l i fits) (omega (arith, config.log_files.0)) in
            no_greater (numbered_in uses (l.page.uniq + 1)) refl
            ∙ sym (ne_eqb file (file_of c (l.page.uniq + 1)) (λ e. (let met = ap (λ n. n == file_of c l.page.uniq) (sym e ∙ sym stands_in ∙ ap (file_of c) (sym number)) ∙ same_number (file_of c l.page.uniq) in let clash : false ≡ true = sym apart ∙ met in cc)))

        ordered : is_some (numbered_in uses current) ≡ (file == file_of c current)
        ordered =
            let t = run_stands l i in
            let low = newest_opened l.page t in
            let high = near_opened l.page t end (near l.page t end) in
            elim (compare l.page.uniq current) [
              | inl lt ↦ (let e : l.page.uniq + 1 ≡ current = omega (arith, lt, high) in subst (λ (n : ℕ). is_some (numbered_in uses n) ≡ (file == file_of c n)) e next_none)
              | inr le ↦ current_there (omega (arith, le, low))
            ]

      pub order_opened : IsInOrder c (opened c start r)
      order_opened = record {
        ends = λ file u is. (let l = last_of file u is in let below = log.covers.last l.0.page (run_stands l.0 l.1) in let e = l.3 in omega (arith, e, below, next));
        last = λ file u is end. (let l = last_of file u is in let e = l.3 in ordered file u is l.0 l.1 l.2 (omega (arith, e, end, next)));
      }
