-- When the disk is as the ring has it: how closing a file, writing a page and buffering a record keep it so.
use Rattle.std.specs.Prelude.{Bool, if◌then◌else◌, slice_get, Err, List, Ok, OnOk, Result, Some, [], false, is_some, length, true, ℕ, ◌&&◌, ◌==◌, ◌⊎◌, ◌*◌, ◌++◌, ◌+◌, ◌-◌, ◌<◌, ◌∷◌, ◌≡◌, ◌≢◌, ◌≤◌}
use Rattle.std.proofs.Common.{ap, arith, inl, inr, refl, subst, sym, ⊎_elim, ◌∙◌, length-append}
use Rattle.std.proofs.lemmas.Bool.{cases_eq}
use Rattle.std.proofs.lemmas.List.FromFn.{map-range_with_len_more}
use Rattle.ol_values.specs.Config.{Config, log_pages}
use Rattle.ol_values.specs.LogPages.{LogPage}
use Rattle.ol_values.specs.declared.record.Record.{Record}
use Rattle.ol_rules.specs.Ring.{LogRange, Ring, Use, file_of, last_of_range, last_position, last_range, use_in_file, written}
use Rattle.ol_chunks.specs.Places.{log_area}
use Rattle.ol_ports.specs.Disk.{Bytes, Past, Rest, seen}
use Rattle.ol_ports.proofs.DiskLaws.{rest-seen}
use Rattle.ol_log_places.specs.Places.{Bad, Closed, IsPlaced, Open, Place, place_number}
use Rattle.ol_log_places.specs.Runs.{HoldsLog, IsLogged, IsNear, StandAtPlaces, Stands, end_of, journal_at}
use Rattle.ol_log_places.specs.Writes.{GatesAre, IsFreeFile, IsNext, MayBeClosed, MayHavePage, is_in_file, with_page, without_file}
use Rattle.ol_log_places.proofs.Files.{file_there, free_thinned, holds_file, holds_none, holds_page, places_stand, there_file}
use Rattle.ol_log_places.proofs.Journals.{put_logged, put_near, thinned_logged}
use Rattle.ol_log_places.proofs.WriteLaws.{file_in, with_other, with_same, without_in, without_out}
use Rattle.ol_log_state.specs.Files.{current_use, log_config, next_page, ring_in}
use Rattle.ol_log_state.specs.RingState.{RingState, buffered, page_to_write, ring_of, turned}
use Rattle.ol_loglog.specs.RingValue.{IsInLimits, first_unwritten, flushed_state, ring_value}
use Rattle.ol_loglog.specs.Ready.{IsNextShut, IsReady, IsReadyBut, is_entered, next_file}
use Rattle.ol_loglog.proofs.HeadLaws.{keeps_less, keeps_placed, keeps_turned}
use Rattle.ol_loglog.proofs.Steps.{Stepped, forms, next_is, number_between, number_form, same_number, stepped}

pub ok_both : {T E : Type 0} {A B C : Type 0} (result : Result T E) → (A → B → C) → OnOk result A → OnOk result B → OnOk result C
ok_both (Ok x) f a b = f a b
ok_both (Err e) f a b = tt

pub wider : (c : Config) (j : ℕ → Record) (need from to from2 to2 uniq : ℕ) (d : Bytes) → from2 ≤ from → to ≤ to2 → HoldsLog c j need from to uniq d → HoldsLog c j need from2 to2 uniq d
wider c j need from to from2 to2 uniq d low high h = record { upto = h.upto; from = omega (arith, h.from, low); to = omega (arith, h.to, high); logged = h.logged; near = h.near }

-- ---- pages that stand still where a file is closed

without_stands : (c : Config) (file : ℕ) (r : ℕ → Place) (n : ℕ) (p : LogPage) → Stands (without_file c file r) n p → Stands r n p
without_stands c file r n p s = record { place = s.place; within = s.within; is = by_file (is_in_file c file s.place) refl }
  where
    by_file : (b : Bool) → is_in_file c file s.place ≡ b → r s.place ≡ Open p
    by_file true in_it = absurd (let clash : Closed ≡ Open p = sym (without_in c file r s.place in_it) ∙ s.is in cc)
    by_file false out = sym (without_out c file r s.place out) ∙ s.is

module _ (lost : ℕ → Bool) (c : Config) (s : RingState) (gates : List Bool) (past : Past) (r : ℕ → Place) (floor : ℕ) (j : ℕ → Record) (ready : IsReadyBut lost past (ring_value c s gates) r floor j) where
  -- ---- the number of the next page

  pub near_next : IsNear c r (next_page s.files).uniq (first_unwritten s)
  near_next p t end = elim (number_form (log_config s.files.area) (ring_in s.files) (current_use s.files) (next_page s.files) refl) [
    | inl same ↦ (let low = ready.near p t end in omega (arith, same, low))
    | inr (u, is, more) ↦ (let last = ready.last p u t end is in omega (arith, more, last))
  ]

  -- ---- what a stop leaves before anything is written

  pub ready_holds : (total : ℕ) → first_unwritten s ≤ total → (d : Bytes) → Rest past d → HoldsLog c j floor (first_unwritten s) total (next_page s.files).uniq d
  ready_holds total high d rest = wider c j floor (first_unwritten s) (first_unwritten s) (first_unwritten s) total (next_page s.files).uniq d (omega arith) high (holds_none c r j floor (first_unwritten s) (next_page s.files).uniq d ready.logged near_next (ready.placed.each d rest))

  -- ---- a file is closed

  pub stand : StandAtPlaces c r
  stand k p lt is = places_stand c (seen past) k p lt (ready.placed.each (seen past) (rest-seen past) k lt ∙ is)

  -- a page of another file than the one that is entered stays where that is closed
  other_stays : (file : ℕ) → file ≡ next_file c s → (next_page s.files).enters ≡ true → (p : LogPage) → is_entered c s (file_of c p.uniq) ≡ false → Stands r (log_pages c) p → Stands (without_file c file r) (log_pages c) p
  other_stays file next enters p apart t = record { place = t.place; within = t.within; is = by_file (is_in_file c file t.place) refl }
    where
      by_file : (b : Bool) → is_in_file c file t.place ≡ b → without_file c file r t.place ≡ Open p
      by_file false out = without_out c file r t.place out ∙ t.is
      by_file true in_it =
          let its = stand t.place p t.within t.is in
          let same = there_file c t.place file p its.0 its.1 in_it ∙ next in
          let here : is_entered c s (file_of c p.uniq) ≡ true = ap (λ b. b && (file_of c p.uniq == next_file c s)) enters ∙ ap (λ n. n == next_file c s) same ∙ same_number (next_file c s) in
          absurd (let clash : true ≡ false = sym here ∙ apart in cc)

  pub ready_closed : (new : Past) (now : List Bool) (file : ℕ) → file ≡ next_file c s → (next_page s.files).enters ≡ true → ((other : ℕ) → is_entered c s other ≡ false → lost other ≡ false) → IsFreeFile c floor file r → IsPlaced new c (without_file c file r) → GatesAre now (without_file c file r)
      → IsReadyBut (is_entered c s) new (ring_value c s now) (without_file c file r) floor j
  ready_closed new now file next enters le free placed are = record {
    placed = placed;
    gates = are;
    logged = thinned_logged c floor r (without_file c file r) (free_thinned c floor file r free) j (first_unwritten s) ready.logged;
    buffer = ready.buffer;
    alone = ready.alone;
    current = λ p u t same is. ready.current p u (without_stands c file r (log_pages c) p t) same is;
    told = λ p t above. ready.told p (without_stands c file r (log_pages c) p t) above;
    newest = λ p t. ready.newest p (without_stands c file r (log_pages c) p t);
    near = λ p t end. ready.near p (without_stands c file r (log_pages c) p t) end;
    last = λ p u t end is. ready.last p u (without_stands c file r (log_pages c) p t) end is;
    kept = keeps_placed c r (without_file c file r) (is_entered c s) s.files.uses (λ p apart t. other_stays file next enters p apart t) (keeps_less c r lost (is_entered c s) s.files.uses le ready.kept);
  }

  -- no file is entered
  pub ready_beside : ((other : ℕ) → is_entered c s other ≡ false → lost other ≡ false) → IsReadyBut (is_entered c s) past (ring_value c s gates) r floor j
  ready_beside le = record {
    placed = ready.placed;
    gates = ready.gates;
    logged = ready.logged;
    buffer = ready.buffer;
    alone = ready.alone;
    current = ready.current;
    told = ready.told;
    newest = ready.newest;
    near = ready.near;
    last = ready.last;
    kept = keeps_less c r lost (is_entered c s) s.files.uses le ready.kept;
  }

  pub closing_holds : (file : ℕ) → IsFreeFile c floor file r → (d : Bytes) → MayBeClosed c r file d → HoldsLog c j floor (first_unwritten s) (first_unwritten s) (next_page s.files).uniq d
  closing_holds file free d may = holds_file c r j floor (first_unwritten s) (next_page s.files).uniq file d free ready.logged near_next may

  -- ---- the next page

  in_file_of : (file : ℕ) (q : LogPage) (t : Stands r (log_pages c) q) → file_of c q.uniq ≡ file → is_in_file c file t.place ≡ true
  in_file_of file q t same = let at = stand t.place q t.within t.is in file_there c t.place file q at.0 at.1 same

  module _ (shut : IsNextShut c s r) where
    -- no page stands in a file that is entered
    none_there : (q : LogPage) → Stands r (log_pages c) q → (next_page s.files).enters ≡ true → file_of c q.uniq ≢ next_file c s
    none_there q t enters same = let clash : Closed ≡ Open q = sym (shut enters t.place t.within (in_file_of (next_file c s) q t same)) ∙ t.is in cc

    module _ (area : s.files.area ≡ log_area c) where
      behind : (q : LogPage) → Stands r (log_pages c) q → file_of c q.uniq ≡ next_file c s → (q.uniq ≡ (next_page s.files).uniq) × (q.index < (next_page s.files).index)
      behind q t same = elim (forms c (ring_of s) (current_use s.files) (next_page s.files) (next_is c s area)) [
        | inl enters ↦ absurd (none_there q t enters same)
        | inr (u, is, uniq, index) ↦ (let at = ready.current q u t (same ∙ ap (file_of c) uniq) is in (at.0 ∙ sym uniq, omega (arith, at.1, index)))
      ]

      -- its number is the current one, or that behind
      number : (s.files.uniq ≤ (next_page s.files).uniq) × ((next_page s.files).uniq ≤ s.files.uniq + 1)
      number = number_between s.files

      module _ (k : ℕ) (at : k ≡ place_number c (next_page s.files).uniq (next_page s.files).index) (below : (next_page s.files).index < c.log_file_pages) (within : k < log_pages c) where
        -- its place is closed
        pub closed_there : r k ≡ Closed
        closed_there = by_place (r k) refl
          where
            by_place : (here : Place) → r k ≡ here → here ≡ Closed
            by_place Closed is = refl
            by_place Bad is = absurd (ready.logged.orderly.good k within is)
            by_place (Open q) is =
                let t : Stands r (log_pages c) q = record { place = k; within = within; is = is } in
                let its = stand k q within is in
                let in_it = file_in c (next_file c s) k (omega (arith, at)) (omega (arith, at, below)) in
                let file = there_file c k (next_file c s) q its.0 its.1 in_it in
                let start = ap (λ f. f * c.log_file_pages) file in
                let lower = behind q t file in
                absurd (omega (arith, its.1, at, start, lower.1))

        module _ (some : 0 < length s.buffer) where
          pub next_is_next : IsNext c r j k (page_to_write s)
          next_is_next = record { within = within; shut = closed_there; some = some; agrees = ready.buffer; behind = λ q t same. behind q t same; newest = λ q t. let le = ready.newest q t in let low = number.0 in omega (arith, le, low) }

          module _ (limits : IsInLimits s) where
            pub put_holds : (d : Bytes) → MayHavePage c r k (page_to_write s) d → HoldsLog c j floor (first_unwritten s) s.next (next_page s.files).uniq d
            put_holds d may =
                wider c j floor (first_unwritten s) (end_of (page_to_write s)) (first_unwritten s) s.next (next_page s.files).uniq d (omega arith) (omega (arith, limits.first))
                (holds_page c r j floor k (page_to_write s) (next_page s.files).uniq d next_is_next ready.logged near_next (omega arith) may)

            either : (q : LogPage) → Stands (with_page r k (page_to_write s)) (log_pages c) q → (q ≡ page_to_write s) ⊎ Stands r (log_pages c) q
            either q t = elim (cases_eq t.place k) [
              | inl same ↦ inl (let e : Open (page_to_write s) ≡ Open q = sym (with_same r k (page_to_write s)) ∙ subst (λ (x : ℕ). with_page r k (page_to_write s) x ≡ Open q) same t.is in let p = page_to_write s in cc)
              | inr other ↦ inr (record { place = t.place; within = t.within; is = sym (with_other r k (page_to_write s) t.place other) ∙ t.is })
            ]

            module _ (ring : ring_of (turned s) ≡ written c (ring_of s) (s.next - 1)) where
              step : Stepped c (ring_of s) (ring_of (turned s)) (next_page s.files) (s.next - 1 + 1 - length s.buffer) (length s.buffer)
              step = subst (λ (t : Ring). Stepped c (ring_of s) t (next_page s.files) (s.next - 1 + 1 - length s.buffer) (length s.buffer)) (sym ring) (stepped c s (s.next - 1) area)

              page_end : end_of (page_to_write s) ≡ s.next
              page_end = omega (arith, limits.first)

              ends_last : last_position step.one ≡ s.next - 1
              ends_last = ap last_of_range step.range ∙ (let e : s.next - 1 + 1 - length s.buffer + length s.buffer - 1 ≡ s.next - 1 = omega (arith, limits.first, some) in e)

              is_current : (u : Use) → current_use (turned s).files ≡ Some u → step.one ≡ u
              is_current u is = let e : Some step.one ≡ Some u = sym step.now ∙ is in let one = step.one in cc

              current_after : (q : LogPage) (u : Use) → Stands (with_page r k (page_to_write s)) (log_pages c) q → file_of c q.uniq ≡ next_file c s → current_use (turned s).files ≡ Some u → (q.uniq ≡ (next_page s.files).uniq) × (q.index ≤ (last_range u).index)
              current_after q u t same is =
                  let index : (last_range u).index ≡ (next_page s.files).index = ap (λ (w : Use). (last_range w).index) (sym (is_current u is)) ∙ ap (λ (p : LogRange). p.index) step.range in
                  ⊎_elim (λ mine. (ap (λ (p : LogPage). p.uniq) mine, (let e = ap (λ (p : LogPage). p.index) mine in omega (arith, e, index)))) (λ old. let at = behind q old same in (at.0, omega (arith, at.1, index))) (either q t)

              told_after : (q : LogPage) → Stands (with_page r k (page_to_write s)) (log_pages c) q → floor < end_of q → (u : Use) × (use_in_file c (ring_of (turned s)) (file_of c q.uniq) ≡ Some u) × (end_of q ≤ last_position u + 1)
              told_after q t above = ⊎_elim (λ mine. by_new mine) (λ old. by_old old) (either q t)
                where
                  by_new : q ≡ page_to_write s → (u : Use) × (use_in_file c (ring_of (turned s)) (file_of c q.uniq) ≡ Some u) × (end_of q ≤ last_position u + 1)
                  by_new mine = (
                    step.one,
                    ap (λ (p : LogPage). use_in_file c (ring_of (turned s)) (file_of c p.uniq)) mine ∙ step.alone ready.alone,
                    (let e = ap end_of mine in omega (arith, e, page_end, ends_last)),
                  )

                  by_old : Stands r (log_pages c) q → (u : Use) × (use_in_file c (ring_of (turned s)) (file_of c q.uniq) ≡ Some u) × (end_of q ≤ last_position u + 1)
                  by_old old =
                      let was = ready.told q old above in
                      let next = step.others (file_of c q.uniq) was.0 was.1 (λ enters. none_there q old enters) in
                      let le = ready.logged.covers.last q old in
                      (next.0, next.1, ⊎_elim (λ same. (let e = ap last_position same in omega (arith, e, was.2))) (λ end. omega (arith, end, le, limits.first, some)) next.2)

              -- pages that stood stand, beside the new one
              old_stays : (p : LogPage) → Stands r (log_pages c) p → Stands (with_page r k (page_to_write s)) (log_pages c) p
              old_stays p t = record { place = t.place; within = t.within; is = with_other r k (page_to_write s) t.place (λ same. (let clash : Closed ≡ Open p = sym closed_there ∙ ap r (sym same) ∙ t.is in cc)) ∙ t.is }

              pub ready_put : ((other : ℕ) → is_entered c s other ≡ false → lost other ≡ false) → (new : Past) (now : List Bool) → IsPlaced new c (with_page r k (page_to_write s)) → GatesAre now (with_page r k (page_to_write s)) → IsReady new (ring_value c (turned s) now) (with_page r k (page_to_write s)) floor j
              ready_put le new now placed are = record {
                placed = placed;
                gates = are;
                logged = subst (IsLogged c (with_page r k (page_to_write s)) j floor) (let e : end_of (page_to_write s) ≡ first_unwritten (turned s) = omega (arith, limits.first) in e) (put_logged c r j floor k (page_to_write s) next_is_next ready.logged);
                buffer = refl;
                alone = λ u is. step.alone ready.alone ∙ ap Some (is_current u is);
                current = λ q u t same is. current_after q u t same is;
                told = λ q t above. told_after q t above;
                newest = λ q t. ⊎_elim (λ mine. (let e = ap (λ (p : LogPage). p.uniq) mine in omega (arith, e))) (λ old. (let le = ready.newest q old in let low = number.0 in omega (arith, le, low))) (either q t);
                near = subst (IsNear c (with_page r k (page_to_write s)) (next_page s.files).uniq) (let e : end_of (page_to_write s) ≡ first_unwritten (turned s) = omega (arith, limits.first) in e)
                    (put_near c r j floor k (page_to_write s) (next_page s.files).uniq next_is_next ready.logged (omega arith));
                last = λ q u t end is. ⊎_elim (λ mine. ap (λ (p : LogPage). p.uniq) mine) (λ old. absurd (let low = ready.logged.covers.last q old in omega (arith, low, end, limits.first, some))) (either q t);
                kept = keeps_turned c s (with_page r k (page_to_write s)) area (page_to_write s, record { place = k; within = within; is = with_same r k (page_to_write s) }, refl, refl)
                    (keeps_placed c r (with_page r k (page_to_write s)) (is_entered c s) s.files.uses (λ p apart t. old_stays p t) (keeps_less c r lost (is_entered c s) s.files.uses le ready.kept));
              }

-- ---- nothing is buffered behind a flush

emptied_by : (l : List Record) (s : RingState) → l ≡ s.buffer → (let t : RingState = (if is_some (slice_get l 0) then turned s else s) in t).buffer ≡ []
emptied_by [] s is = sym is
emptied_by (x ∷ l) s is = refl

pub flushed_empty : (s : RingState) → (flushed_state s).buffer ≡ []
flushed_empty s = emptied_by s.buffer s refl

-- ---- a record is buffered

journal_more : (j : ℕ → Record) (rec : Record) (buffer : List Record) (next : ℕ) → length buffer < next → buffer ≡ journal_at j (next - length buffer) (length buffer) → j next ≡ rec
    → buffer ++ rec ∷ [] ≡ journal_at j (next + 1 - length (buffer ++ rec ∷ [])) (length (buffer ++ rec ∷ []))
journal_more j rec buffer next first is here =
    ap (λ (l : List Record). l ++ rec ∷ []) is
    ∙ ap (λ (x : Record). journal_at j (next - length buffer) (length buffer) ++ x ∷ []) (sym here)
    ∙ sym (map-range_with_len_more j (next - length buffer) (length buffer) next (omega (arith, first)))
    ∙ ap (λ (n : ℕ). journal_at j (next - length buffer) n) (sym (length-append buffer (rec ∷ [])))
    ∙ ap (λ (n : ℕ). journal_at j n (length (buffer ++ rec ∷ []))) (let size = length-append buffer (rec ∷ []) in let e : next - length buffer ≡ next + 1 - length (buffer ++ rec ∷ []) = omega (arith, size) in e)

pub ready_buffered : (c : Config) (s : RingState) (gates : List Bool) (past : Past) (r : ℕ → Place) (floor : ℕ) (j : ℕ → Record) (rec : Record) → length s.buffer < s.next → IsReady past (ring_value c s gates) r floor j → j s.next ≡ rec
    → IsReady past (ring_value c (buffered rec s) gates) r floor j
ready_buffered c s gates past r floor j rec first ready here =
    let size = length-append s.buffer (rec ∷ []) in
    let same : first_unwritten s ≡ s.next + 1 - length (s.buffer ++ rec ∷ []) = omega (arith, size) in
    record {
      placed = ready.placed;
      gates = ready.gates;
      logged = subst (IsLogged c r j floor) same ready.logged;
      buffer = journal_more j rec s.buffer s.next first ready.buffer here;
      alone = ready.alone;
      current = ready.current;
      told = ready.told;
      newest = ready.newest;
      near = subst (IsNear c r s.files.uniq) same ready.near;
      last = λ p u t end is. ready.last p u t (end ∙ sym same) is;
      kept = ready.kept;
    }
