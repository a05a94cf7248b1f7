-- Which calls in memory keep the disk as the ring has it, and when a file may be entered.
use Rattle.std.specs.List.{find}
use Rattle.std.specs.Option.{option_map}
use Rattle.std.specs.Prelude.{Bool, None, Option, Some, [], false, if◌then◌else◌, is_none, is_some, slice_get, length, map, nat_lt, true, ℕ, ◌%◌, ◌||◌, ◌++◌, ◌+◌, ◌-◌, ◌<◌, ◌==◌, ◌∷◌, ◌≡◌, ◌≤◌, List}
use Rattle.std.proofs.Common.{ap, arith, inl, inr, length-append, refl, subst, sym, ◌∙◌}
use Rattle.std.proofs.lemmas.Bool.{and_parts, cases_eq}
use Rattle.std.proofs.lemmas.Bool.Decides.{nat_tests}
use Rattle.ol_values.specs.Config.{Config, log_pages}
use Rattle.ol_values.specs.declared.record.Record.{Record}
use Rattle.ol_rules.specs.Ring.{Ring, Use, file_of, is_backed, is_closed, is_reusable, last_position, last_range, may_reuse, room, unwritten, use_in_file, written}
use Rattle.ol_chunks.specs.Places.{log_area}
use Rattle.ol_chunks.specs.declared.table.Area.{Area}
use Rattle.ol_ports.specs.Disk.{Past}
use Rattle.ol_log_places.specs.Places.{IsPlaced, Place}
use Rattle.ol_log_places.specs.Runs.{Stands, end_of}
use Rattle.ol_log_places.proofs.Files.{there_file}
use Rattle.ol_log_places.proofs.Logs.{compare}
use Rattle.ol_log_state.specs.declared.places.NextPage.{NextPage}
use Rattle.ol_record.specs.declared.head.LogHead.{LogHead}
use Rattle.ol_log_state.specs.declared.places.RingStart.{RingStart}
use Rattle.ol_log_state.specs.Files.{current_use, log_config, next_page, page_behind, ring_in}
use Rattle.ol_log_state.specs.RingState.{RingState, buffered, first_uniq, ring_of, started, switched, turned, with_backed, with_need}
use Rattle.ol_log_state.proofs.NextLaws.{next_leaves, next_reuses}
use Rattle.ol_log_state.proofs.RingLaws.{switched_ring}
use Rattle.ol_loglog.specs.RingValue.{HasRoom, IsLogRing, RingValue, first_unwritten, with_state}
use Rattle.ol_loglog.specs.Ready.{IsFloor, IsInOrder, IsNextFree, IsNextUnbacked, IsNotLast, IsReady, current_file, next_file}
use Rattle.ol_loglog.proofs.HeadLaws.{keeps_switched, none_lost}
use Rattle.ol_loglog.proofs.Opening.{greatest_from}
use Rattle.ol_loglog.proofs.Readies.{stand}
use Rattle.ol_loglog.proofs.Rules.{reusable_is}
use Rattle.ol_loglog.proofs.Steps.{Stepped, found_map, next_is, number_between, of_map, room_is, stepped}

-- ---- a file that may be entered

none_of : (o : Option Use) → is_some o ≡ false → o ≡ None
none_of None e = refl
none_of (Some u) e = absurd (let clash : true ≡ false = e in cc)

same_file : (n : ℕ) → (n == n) ≡ true
same_file n = grind (arith, nat_tests)

first_of_file : (c : Config) (r : Ring) (o : Option Use) (page : NextPage) → page ≡ page_behind c r o → o ≡ None → page.uniq ≡ r.uniq
first_of_file c r None page is none = ap (λ (n : NextPage). n.uniq) is
first_of_file c r (Some u) page is none = absurd (let clash : Some u ≡ None = none in cc)

held_one : (l : List Record) → 0 < length l → (let n : ℕ = (if is_none (slice_get l 0) then 0 else 1) in n ≡ 1)
held_one [] some = absurd (omega (arith, some))
held_one (x ∷ l) some = refl

-- in a ring in order the next page never enters the file with the last written position
pub order_not_last : (v : RingValue) → IsLogRing v → IsInOrder v.config v.state → (next_page v.state.files).enters ≡ true → IsNotLast v.config v.state
order_not_last v is order enters u found = elim (cases_eq (last_position u + 1) (first_unwritten v.state)) [
  | inl end ↦ absurd (by_current end (is_some (current_use v.state.files)) refl)
  | inr other ↦ (let below = order.ends (next_file v.config v.state) u found in omega (arith, below, other))
]
  where
    by_current : last_position u + 1 ≡ first_unwritten v.state → (b : Bool) → is_some (current_use v.state.files) ≡ b → ⊥
    by_current end true there =
        let moved = ap (λ (a : Area). ((next_page v.state.files).uniq - 1) % a.count == (v.state.files.uniq - 1) % a.count) is.area in
        let apart = sym moved ∙ next_leaves v.state.files is.limits.uniq.0 (omega (arith, ap (λ (a : Area). a.count) is.area, is.config.log_files.0)) there enters in
        let clash : false ≡ true = sym apart ∙ sym (order.last (next_file v.config v.state) u found end) ∙ there in
        cc
    by_current end false none =
        let first = first_of_file v.config (ring_of v.state) (current_use v.state.files) (next_page v.state.files) (next_is v.config v.state is.area) (none_of (current_use v.state.files) none) in
        let met = ap (λ n. file_of v.config n == current_file v) first ∙ same_file (current_file v) in
        let clash : false ≡ true = sym none ∙ order.last (next_file v.config v.state) u found end ∙ met in
        cc

module _ (past : Past) (v : RingValue) (r : ℕ → Place) (floor : ℕ) (j : ℕ → Record) (ready : IsReady past v r floor j) (low : IsFloor v.state floor) where
  pub reusable_free : IsNotLast v.config v.state → is_reusable v.config v.state.reuse (ring_of v.state) (next_file v.config v.state) ≡ true → IsNextFree v r floor
  reusable_free not_last reusable some enters k p lt in_it at = elim (compare floor (end_of p)) [ inl above ↦ absurd (clash above) | inr le ↦ le ]
    where
      t : Stands r (log_pages v.config) p
      t = record { place = k; within = lt; is = at }

      same : file_of v.config p.uniq ≡ next_file v.config v.state
      same = let its = stand none_lost v.config v.state v.gates past r floor j ready k p lt at in there_file v.config k (next_file v.config v.state) p its.0 its.1 in_it

      clash : floor < end_of p → ⊥
      clash above =
          let told = ready.told p t above in
          let found = ap (use_in_file v.config (ring_of v.state)) (sym same) ∙ told.1 in
          let may : may_reuse v.state.reuse (Some told.0) ≡ true = ap (may_reuse v.state.reuse) (sym found) ∙ reusable in
          let parts = and_parts (is_backed v.state.reuse told.0) (nat_lt (last_position told.0) v.state.reuse.need) may in
          let ended : last_position told.0 < v.state.reuse.need = (let test = parts.1 in grind (arith, nat_tests)) in
          let before = not_last told.0 found in
          omega (arith, above, ended, told.2, before, low)

  pub room_free : IsLogRing v → IsInOrder v.config v.state → HasRoom v.config v.state → IsNextFree v r floor
  room_free is order has some enters =
      reusable_free (order_not_last v is order enters)
      (sym (reusable_is v.config v.state is.area (next_page v.state.files).uniq)
      ∙ next_reuses v.state.files v.state.reuse is.limits.uniq.0 (omega (arith, ap (λ (a : Area). a.count) is.area, is.config.log_files.0)) (subst (λ n. 1 ≤ n) (sym (room_is v.config v.state is.area)) (subst (λ n. n ≤ room v.config v.state.reuse (ring_of v.state)) (held_one v.state.buffer some) has)) enters) some enters

-- ---- a switch

abbrev off : ℕ → Use → Use
off uniq u = if u.uniq == uniq then record u { switched = true } else u

off_number : (uniq : ℕ) (u : Use) → (off uniq u).uniq ≡ u.uniq
off_number uniq u = elim (u.uniq == uniq) as (λ b. (let x : Use = (if b then record u { switched = true } else u) in x).uniq ≡ u.uniq) [ true ↦ refl | false ↦ refl ]

off_last : (uniq : ℕ) (u : Use) → last_range (off uniq u) ≡ last_range u
off_last uniq u = elim (u.uniq == uniq) as (λ b. last_range (let x : Use = (if b then record u { switched = true } else u) in x) ≡ last_range u) [ true ↦ refl | false ↦ refl ]

some_map : (f : Use → Use) (o : Option Use) → is_some (option_map f o) ≡ is_some o
some_map f None = refl
some_map f (Some w) = refl

module _ (c : Config) (s : RingState) where
  uses_off : (ring_of (switched s)).uses ≡ map (off s.files.uniq) (ring_of s).uses
  uses_off = ap (λ (t : Ring). t.uses) (switched_ring s.files)

  current_off : current_use (switched s).files ≡ option_map (off s.files.uniq) (current_use s.files)
  current_off = ap (find (λ (u : Use). u.uniq == s.files.uniq)) uses_off ∙ found_map (λ (u : Use). u.uniq == s.files.uniq) (off s.files.uniq) (ring_of s).uses (λ w. ap (λ n. n == s.files.uniq) (off_number s.files.uniq w))

  in_file_off : (file : ℕ) → use_in_file c (ring_of (switched s)) file ≡ option_map (off s.files.uniq) (use_in_file c (ring_of s) file)
  in_file_off file =
      ap (find (λ (u : Use). file_of c u.uniq == file)) uses_off
      ∙ found_map (λ (u : Use). file_of c u.uniq == file) (off s.files.uniq) (ring_of s).uses (λ w. ap (λ n. file_of c n == file) (off_number s.files.uniq w))

pub ready_switched : (past : Past) (v : RingValue) (r : ℕ → Place) (floor : ℕ) (j : ℕ → Record) → IsReady past v r floor j → IsReady past (with_state (switched v.state) v) r floor j
ready_switched past v r floor j ready =
    let f = off v.state.files.uniq in
    record {
      placed = ready.placed;
      gates = ready.gates;
      logged = ready.logged;
      buffer = ready.buffer;
      alone = λ u is. (let w = of_map f (current_use v.state.files) u (sym (current_off v.config v.state) ∙ is) in in_file_off v.config v.state (current_file v) ∙ ap (option_map f) (ready.alone w.0 w.1) ∙ ap Some w.2);
      current = λ p u t same is.
          (let w = of_map f (current_use v.state.files) u (sym (current_off v.config v.state) ∙ is) in
          let at = ready.current p w.0 t same w.1 in
          let index = ap (λ (x : Use). (last_range x).index) w.2 in
          let kept = ap (λ x. x.index) (off_last v.state.files.uniq w.0) in
          (at.0, omega (arith, at.1, index, kept)));
      told = λ p t above.
          (let was = ready.told p t above in
          let kept = ap (λ x. x.first + x.count) (off_last v.state.files.uniq was.0) in
          (f was.0, in_file_off v.config v.state (file_of v.config p.uniq) ∙ ap (option_map f) was.1, omega (arith, was.2, kept)));
      newest = ready.newest;
      near = ready.near;
      last = λ p u t end is. (let w = of_map f (current_use v.state.files) u (sym (current_off v.config v.state) ∙ is) in ready.last p w.0 t end w.1);
      kept = keeps_switched v.config r none_lost v.state.files.uniq v.state.files.uses ready.kept;
    }

pub order_switched : (c : Config) (s : RingState) → IsInOrder c s → IsInOrder c (switched s)
order_switched c s order =
    let f = off s.files.uniq in
    record {
      ends = λ file u is.
          (let w = of_map f (use_in_file c (ring_of s) file) u (sym (in_file_off c s file) ∙ is) in
          let below = order.ends file w.0 w.1 in
          let kept = ap (λ x. x.first + x.count - 1) (sym (off_last s.files.uniq w.0) ∙ ap last_range w.2) in
          omega (arith, below, kept));
      last = λ file u is end.
          (let w = of_map f (use_in_file c (ring_of s) file) u (sym (in_file_off c s file) ∙ is) in
          let kept = ap (λ x. x.first + x.count - 1) (sym (off_last s.files.uniq w.0) ∙ ap last_range w.2) in
          let was : last_position w.0 + 1 ≡ first_unwritten s = omega (arith, end, kept) in
          ap is_some (current_off c s) ∙ some_map f (current_use s.files) ∙ order.last file w.0 w.1 was);
    }

pub order_buffered : (c : Config) (s : RingState) (rec : Record) → length s.buffer < s.next → IsInOrder c s → IsInOrder c (buffered rec s)
order_buffered c s rec first order =
    let size = length-append s.buffer (rec ∷ []) in
    let same : first_unwritten s ≡ s.next + 1 - length (s.buffer ++ rec ∷ []) = omega (arith, size) in
    record {
      ends = λ file u is. (let below = order.ends file u is in omega (arith, below, same));
      last = λ file u is end. order.last file u is (end ∙ sym same);
    }

-- a page more
pub order_turned : (c : Config) (s : RingState) → s.files.area ≡ log_area c → length s.buffer < s.next → 0 < length s.buffer → ring_of (turned s) ≡ written c (ring_of s) (s.next - 1) → IsInOrder c s → IsInOrder c (turned s)
order_turned c s area first some ring order = record {
  ends = λ file u is. elim (step.before file u is) [
    | inl mine ↦ (let e = mine.1 in omega (arith, e, first, some))
    | inr old ↦ (let below = order.ends file u old in omega (arith, below, first, some))
  ];
  last = λ file u is end. ap is_some step.now ∙ sym (elim (step.before file u is) [
    | inl mine ↦ ap (λ n. n == next_file c s) mine.0 ∙ same_file (next_file c s)
    | inr old ↦ absurd (let below = order.ends file u old in omega (arith, below, end, first, some))
  ]);
}
  where
    step : Stepped c (ring_of s) (ring_of (turned s)) (next_page s.files) (s.next - 1 + 1 - length s.buffer) (length s.buffer)
    step = subst (λ (t : Ring). Stepped c (ring_of s) t (next_page s.files) (s.next - 1 + 1 - length s.buffer) (length s.buffer)) (sym ring) (stepped c s (s.next - 1) area)

-- ---- what is reused, and the floor

pub ready_backed : (past : Past) (v : RingValue) (r : ℕ → Place) (floor uniq : ℕ) (j : ℕ → Record) → IsReady past v r floor j → IsReady past (with_state (with_backed uniq v.state) v) r floor j
ready_backed past v r floor uniq j ready = record {
  placed = ready.placed;
  gates = ready.gates;
  logged = ready.logged;
  buffer = ready.buffer;
  alone = ready.alone;
  current = ready.current;
  told = ready.told;
  newest = ready.newest;
  near = ready.near;
  last = ready.last;
  kept = ready.kept;
}

pub ready_need : (past : Past) (v : RingValue) (r : ℕ → Place) (floor need : ℕ) (j : ℕ → Record) → IsReady past v r floor j → IsReady past (with_state (with_need need v.state) v) r floor j
ready_need past v r floor need j ready = record {
  placed = ready.placed;
  gates = ready.gates;
  logged = ready.logged;
  buffer = ready.buffer;
  alone = ready.alone;
  current = ready.current;
  told = ready.told;
  newest = ready.newest;
  near = ready.near;
  last = ready.last;
  kept = ready.kept;
}

pub ready_elsewhere : (past now : Past) (v : RingValue) (r : ℕ → Place) (floor : ℕ) (j : ℕ → Record) → IsPlaced now v.config r → IsReady past v r floor j → IsReady now v r floor j
ready_elsewhere past now v r floor j placed ready = record {
  placed = placed;
  gates = ready.gates;
  logged = ready.logged;
  buffer = ready.buffer;
  alone = ready.alone;
  current = ready.current;
  told = ready.told;
  newest = ready.newest;
  near = ready.near;
  last = ready.last;
  kept = ready.kept;
}

pub ready_higher : (past : Past) (v : RingValue) (r : ℕ → Place) (floor higher : ℕ) (j : ℕ → Record) → floor ≤ higher → IsReady past v r floor j → IsReady past v r higher j
ready_higher past v r floor higher j le ready = record {
  placed = ready.placed;
  gates = ready.gates;
  logged = record {
    orderly = ready.logged.orderly;
    covers = record { each = λ position from below. ready.logged.covers.each position (omega (arith, le, from)) below; last = ready.logged.covers.last };
    agrees = ready.logged.agrees;
    one_use = ready.logged.one_use;
    order = ready.logged.order;
  };
  buffer = ready.buffer;
  alone = ready.alone;
  current = ready.current;
  told = λ p t above. ready.told p t (omega (arith, le, above));
  newest = ready.newest;
  near = ready.near;
  last = ready.last;
  kept = ready.kept;
}

pub order_backed : (c : Config) (s : RingState) (uniq : ℕ) → IsInOrder c s → IsInOrder c (with_backed uniq s)
order_backed c s uniq order = record { ends = order.ends; last = order.last }

pub order_need : (c : Config) (s : RingState) (need : ℕ) → IsInOrder c s → IsInOrder c (with_need need s)
order_need c s need order = record { ends = order.ends; last = order.last }

-- ---- the use of the next page is not backed up

pub unbacked_started : (area : Area) (start : RingStart) (heads : List LogHead) → IsNextUnbacked (started area start heads)
unbacked_started area start heads =
    let most = greatest_from heads (first_uniq start) in
    let between = number_between (started area start heads).files in
    omega (arith, most, between.0)

pub unbacked_turned : (s : RingState) → IsNextUnbacked s → IsNextUnbacked (turned s)
unbacked_turned s below = let between = number_between (turned s).files in omega (arith, below, between.0)

-- a use that is closed is closed once more
off_closed : (c : Config) (r t : Ring) (u : Use) → t.uniq ≡ r.uniq → is_closed c r u ≡ true → is_closed c t (off r.uniq u) ≡ true
off_closed c r t u number closed =
    elim (u.uniq == r.uniq) as (λ b. is_closed c t (let x : Use = (if b then record u { switched = true } else u) in x) ≡ true) [
      | true ↦ refl
      | false ↦ ap (λ n. u.switched || (nat_lt u.uniq n || (unwritten c u == 0))) number ∙ closed
    ]

pub unbacked_switched : (s : RingState) → IsNextUnbacked s → IsNextUnbacked (switched s)
unbacked_switched s below = by_use (current_use s.files) refl
  where
    by_closed : (u : Use) → current_use s.files ≡ Some u → (b : Bool) → is_closed (log_config s.files.area) (ring_in s.files) u ≡ b → IsNextUnbacked (switched s)
    by_closed u is true closed =
        let now = current_off (log_config s.files.area) s ∙ ap (option_map (off s.files.uniq)) is in
        let next = ap (λ (o : Option Use). (page_behind (log_config s.files.area) (ring_in (switched s).files) o).uniq) now
        ∙ ap (λ b. (let n : NextPage = (if b then record { uniq = s.files.uniq + 1; index = 0; enters = true } else record { uniq = s.files.uniq; index = (last_range (off s.files.uniq u)).index + 1; enters = false }) in n).uniq)
        (off_closed (log_config s.files.area) (ring_in s.files) (ring_in (switched s).files) u refl closed) in
        let between = number_between s.files in
        omega (arith, below, between.1, next)
    by_closed u is false open_ =
        let was = ap (λ (o : Option Use). (page_behind (log_config s.files.area) (ring_in s.files) o).uniq) is
        ∙ ap (λ b. (let n : NextPage = (if b then record { uniq = s.files.uniq + 1; index = 0; enters = true } else record { uniq = s.files.uniq; index = (last_range u).index + 1; enters = false }) in n).uniq) open_ in
        let between = number_between (switched s).files in
        omega (arith, below, was, between.0)

    by_use : (o : Option Use) → current_use s.files ≡ o → IsNextUnbacked (switched s)
    by_use None is =
        let was = ap (λ (o : Option Use). (page_behind (log_config s.files.area) (ring_in s.files) o).uniq) is in
        let between = number_between (switched s).files in
        omega (arith, below, was, between.0)
    by_use (Some u) is = by_closed u is (is_closed (log_config s.files.area) (ring_in s.files) u) refl
