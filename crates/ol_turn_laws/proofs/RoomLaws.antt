-- What is free in the ring of log files: after a page is written, a record is buffered, a use may be used again.
use Rattle.std.specs.List.{last_or, prefix_len, range_with_len}
use Rattle.std.specs.Prelude.{List, None, Option, Some, [], false, find, if◌then◌else◌, is_none, length, map, nat_le, nat_lt, option_map, refl, slice_get, suc, true, unwrap_or, zero, ℕ, ◌%◌, ◌*◌, ◌++◌, ◌+◌, ◌-◌, ◌<◌, ◌==◌, ◌||◌, ◌∷◌, ◌≡◌, ◌≤◌}
use Rattle.std.proofs.Common.{ap, arith, inl, inr, subst, sym, ◌∙◌}
use Rattle.std.proofs.Math.Nat.{mul-le-mul_left}
use Rattle.std.proofs.lemmas.Bool.{and_parts, cases_Bool, le-leb, le-ltb, leb-false, leb-true, lt-ltb, ltb-true, or_parts}
use Rattle.std.proofs.lemmas.List.FromFn.{length-map-range_with_len}
use Rattle.std.proofs.lemmas.List.Sums.{prefix_len-le-length}
use Rattle.std.proofs.lemmas.Bool.Decides.{eqb_tells}
use Rattle.ol_values.specs.declared.record.Record.{Record}
use Rattle.ol_values.specs.declared.row.Row.{Row}
use Rattle.ol_values.specs.Config.{Config, log_pages}
use Rattle.ol_values.specs.LogPages.{log_room, record_length, records_length, value_length}
use Rattle.ol_rules.specs.Sound.{is_value}
use Rattle.ol_rules.specs.Ring.{LogRange, Reuse, Ring, Use, at_use, file_of, flushed, following, free, held, is_closed, is_reusable, last_position, last_range, logged, may_reuse, no_range, open_use, room, room_after, unwritten, use_in_file, use_numbered, with_page_in, with_range, written}
use Rattle.ol_turn_laws.proofs.RingLaws.{behind_differs, file_behind, following_from, following_is, in_file_at, in_file_opened, numbered_at, numbered_opened, opened, run, run_kept}
use Rattle.ol_turn_laws.proofs.RunLaws.{next_remainder, run_le, run_more, run_tail}

-- ---- the room of a current use

-- a use that is found has the number
found_uniq : (uses : List Use) (n : ℕ) (u : Use) → find (λ (v : Use). v.uniq == n) uses ≡ Some u → u.uniq ≡ n
found_uniq [] n u is = absurd (let h : None ≡ Some u = is in cc)
found_uniq (v ∷ uses) n u is =
    elim (eqb_tells v.uniq n) [
      | inl e ↦ (let h : Some v ≡ Some u = (rw (e.0) at is) in let same : v ≡ u = cc in ap (λ (w : Use). w.uniq) (sym same) ∙ e.1)
      | inr e ↦ found_uniq uses n u (rw (e.0) at is)
    ]

-- a current use that is not switched has the room that is not written, and what follows
room_of_use : (c : Config) (m : Reuse) (r : Ring) (u : Use) → u.uniq ≡ r.uniq → u.switched ≡ false → room_after c m r (Some u) ≡ unwritten c u + following c m r
room_of_use c m r u current on =
    let later : nat_lt u.uniq r.uniq ≡ false = le-ltb u.uniq r.uniq (omega (arith, current)) in
    elim (eqb_tells (unwritten c u) 0) [
      | inl e ↦ rw (on, later, e.0) (omega (arith, e.1))
      | inr e ↦ rw (on, later, e.0) refl
    ]

-- ---- a page is written

-- the last page of a use that takes a page more
last_added : (u : Use) (p : LogRange) → unwrap_or (last_or None (u.pages ++ p ∷ [])) no_range ≡ p
last_added u p = go u.pages None
  where
    go : (pages : List LogRange) (before : Option LogRange) → unwrap_or (last_or before (pages ++ p ∷ [])) no_range ≡ p
    go [] before = refl
    go (q ∷ pages) before = go pages (Some q)

-- a new use has all pages of its file but one
opened_room : (c : Config) (m : Reuse) (r : Ring) (uniq first count : ℕ)
    → room c m (open_use c r uniq first count) ≡ (c.log_file_pages - 1) + following c m (open_use c r uniq first count)
opened_room c m r uniq first count =
    let s = open_use c r uniq first count in
    let whole : room c m s ≡ unwritten c (opened c uniq first count) + following c m s =
    ap (λ (o : Option Use). room_after c m s o) (numbered_opened c r uniq first count) ∙ room_of_use c m s (opened c uniq first count) refl refl in
    omega (arith, whole)

-- the first use of the current file takes a page of it
first_page : (c : Config) (m : Reuse) (r : Ring) (first count : ℕ) → room_after c m r None ≤ room c m (open_use c r r.uniq first count) + 1
first_page c m r first count =
    let s = open_use c r r.uniq first count in
    let kept : following c m r ≤ following c m s = run_kept c m r s refl (λ file other. in_file_opened c r r.uniq first count file other) in
    elim (is_reusable c m r (file_of c r.uniq)) as (λ b. (if b then c.log_file_pages + following c m r else 0) ≤ room c m s + 1) [
      | true ↦ omega (arith, opened_room c m r r.uniq first count, kept)
      | false ↦ omega arith
    ]

-- an open use takes a page more
more_page : (c : Config) (m : Reuse) (r : Ring) (u : Use) (first count : ℕ) → use_numbered r r.uniq ≡ Some u → is_closed c r u ≡ false
    → unwritten c u + following c m r ≤ room c m (at_use r.uniq (with_range first count) r) + 1
more_page c m r u first count is opn =
    let s = at_use r.uniq (with_range first count) r in
    let f = with_range first count in
    let p : LogRange = record { index = (last_range u).index + 1; first = first; count = count } in
    let there : use_numbered s r.uniq ≡ Some (f u) = numbered_at r.uniq f r (λ v. refl) ∙ ap (λ (o : Option Use). option_map f o) is in
    let open_ = or_parts u.switched (nat_lt u.uniq r.uniq || (unwritten c u == 0)) opn in
    let there_room : room c m s ≡ unwritten c (f u) + following c m s = ap (λ (o : Option Use). room_after c m s o) there ∙ room_of_use c m s (f u) (found_uniq r.uses r.uniq u is) open_.0 in
    let index : (last_range (f u)).index ≡ (last_range u).index + 1 = ap (λ (q : LogRange). q.index) (last_added u p) in
    let kept : following c m r ≤ following c m s = run_kept c m r s refl (λ file other. in_file_at c r.uniq f r file (λ v. refl) other) in
    omega (arith, there_room, index, kept)

-- the files that follow a new use are those that followed the first of them before
next_run : (c : Config) (m : Reuse) (r : Ring) (first count : ℕ) → following c m r ≤ c.log_file_pages + following c m (open_use c r (r.uniq + 1) first count)
next_run c m r first count =
    let s = open_use c r (r.uniq + 1) first count in
    elim (eqb_tells r.uniq 0) [
      | inl e ↦
          (let same : file_of c s.uniq ≡ file_of c r.uniq = ap (λ (k : ℕ). k % c.log_files) (omega (arith, e.1)) in
          let kept : following c m r ≤ following c m s =
          run_kept c m r s same (λ file other. in_file_opened c r (r.uniq + 1) first count file (subst (λ (f : ℕ). (file == f) ≡ false) (sym same) other)) in
          omega (arith, kept))
      | inr e ↦
          (let runs : run c m r ≤ 1 + run c m s = by_count (c.log_files - 1) refl (omega (arith, e.1)) in
          let pages : c.log_file_pages * run c m r ≤ c.log_file_pages * (1 + run c m s) = mul-le-mul_left c.log_file_pages runs in
          let parts : c.log_file_pages * (1 + run c m s) ≡ c.log_file_pages + c.log_file_pages * run c m s = omega arith in
          omega (arith, following_is c m r, following_is c m s, pages, parts))
    ]
  where
    s : Ring
    s = open_use c r (r.uniq + 1) first count

    at : (i : ℕ) → 1 + i < c.log_files → 0 < r.uniq → is_reusable c m r (file_behind c r (2 + i)) ≡ true → is_reusable c m s (file_behind c s (1 + i)) ≡ true
    at i lt some passes =
        let n = c.log_files in
        let start : file_behind c s (1 + i) ≡ (((r.uniq - 1) + 1) % n + (1 + i)) % n = ap (λ (k : ℕ). (k % n + (1 + i)) % n) (omega (arith, some)) in
        let next : (((r.uniq - 1) + 1) % n + (1 + i)) % n ≡ file_behind c r (2 + i) =
        next_remainder (r.uniq - 1) (1 + i) n ∙ ap (λ (k : ℕ). ((r.uniq - 1) % n + k) % n) (omega arith) in
        let same : file_behind c s (1 + i) ≡ file_behind c r (2 + i) = start ∙ next in
        let held_there = in_file_opened c r (r.uniq + 1) first count (file_behind c s (1 + i)) (behind_differs c s (1 + i) (omega arith) lt) in
        ap (λ (o : Option Use). may_reuse m o) held_there ∙ ap (λ (f : ℕ). is_reusable c m r f) same ∙ passes

    by_count : (n : ℕ) → c.log_files - 1 ≡ n → 0 < r.uniq
        → prefix_len (is_reusable c m r) (map (file_behind c r) (range_with_len 1 n)) ≤ 1 + prefix_len (is_reusable c m s) (map (file_behind c s) (range_with_len 1 n))
    by_count zero is some = omega arith
    by_count (suc n) is some =
        let tail = run_tail (is_reusable c m r) (file_behind c r 1) (map (file_behind c r) (range_with_len 2 n)) in
        let moved : prefix_len (is_reusable c m r) (map (file_behind c r) (range_with_len 2 n)) ≤ prefix_len (is_reusable c m s) (map (file_behind c s) (range_with_len 1 n)) =
        run_le (is_reusable c m r) (is_reusable c m s) (file_behind c r) (file_behind c s) 2 1 n (λ i lt passes. at i (omega (arith, lt, is)) some passes) in
        let more = run_more (is_reusable c m s) (file_behind c s) 1 n in
        omega (arith, tail, moved, more)

-- a closed use lets the next file take a page
next_page : (c : Config) (m : Reuse) (r : Ring) (first count : ℕ) → following c m r ≤ room c m (open_use c r (r.uniq + 1) first count) + 1
next_page c m r first count =
    let s = open_use c r (r.uniq + 1) first count in
    omega (arith, opened_room c m r (r.uniq + 1) first count, next_run c m r first count)

pub written_room : (c : Config) (m : Reuse) (r : Ring) (last : ℕ) → room c m r ≤ room c m (written c r last) + 1
written_room c m r last = go (use_numbered r r.uniq) refl
  where
    first : ℕ
    first = last + 1 - length r.buffer

    by_use : (u : Use) → use_numbered r r.uniq ≡ Some u → room_after c m r (Some u) ≤ room c m (with_page_in c r (Some u) first (length r.buffer)) + 1
    by_use u is =
        elim (cases_Bool (is_closed c r u)) [
          | inl e ↦ rw (e) (next_page c m r first (length r.buffer))
          | inr e ↦ rw (e) (more_page c m r u first (length r.buffer) is e)
        ]

    by_found : (o : Option Use) → use_numbered r r.uniq ≡ o → room_after c m r o ≤ room c m (with_page_in c r o first (length r.buffer)) + 1
    by_found None is = first_page c m r first (length r.buffer)
    by_found (Some u) is = by_use u is

    go : (o : Option Use) → use_numbered r r.uniq ≡ o → room c m r ≤ room c m (written c r last) + 1
    go o is = subst (λ (q : Option Use). room_after c m r q ≤ room c m (with_page_in c r q first (length r.buffer)) + 1) (sym is) (by_found o is)

-- ---- what is free

abbrev pages_of_buffer : List Record → ℕ
pages_of_buffer buffer = if is_none (slice_get buffer 0) then 0 else 1

held_or_not : (buffer : List Record) → pages_of_buffer buffer ≤ 1
held_or_not [] = omega arith
held_or_not (r ∷ buffer) = omega arith

held_within : (r : Ring) → held r ≤ 1
held_within r = held_or_not r.buffer

-- records that take bytes hold a page
held_by_bytes : (buffer : List Record) → 0 < records_length buffer → pages_of_buffer buffer ≡ 1
held_by_bytes [] some = absurd (omega (arith, some))
held_by_bytes (r ∷ buffer) some = refl

-- a page that was held is written: no less is free
pub flushed_free : (c : Config) (m : Reuse) (r : Ring) (last : ℕ) → free c m r ≤ free c m (flushed c r last)
flushed_free c m r last =
    elim (eqb_tells (held r) 0) [
      | inl e ↦ rw (e.0) (omega arith)
      | inr e ↦ rw (e.0) (omega (arith, e.1, written_room c m r last))
    ]

-- a record that is buffered takes at most one page
pub logged_free : (c : Config) (m : Reuse) (r : Ring) (last : ℕ) (rec : Record) → record_length rec ≤ log_room → free c m r ≤ free c m (logged c r last rec) + 1
logged_free c m r last rec small = elim (cases_Bool (nat_le (records_length r.buffer + record_length rec) log_room)) [ inl e ↦ rw (e) (fits e) | inr e ↦ rw (e) (full e) ]
  where
    fits : nat_le (records_length r.buffer + record_length rec) log_room ≡ true → free c m r ≤ free c m (record r { buffer = r.buffer ++ rec ∷ [] }) + 1
    fits e = omega (arith, held_within (record r { buffer = r.buffer ++ rec ∷ [] }))

    full : nat_le (records_length r.buffer + record_length rec) log_room ≡ false → free c m r ≤ free c m (record (written c r last) { buffer = rec ∷ [] }) + 1
    full e =
        let over : log_room < records_length r.buffer + record_length rec = leb-false _ _ e in
        let one : held r ≡ 1 = held_by_bytes r.buffer (omega (arith, over, small)) in
        omega (arith, one, written_room c m r last)

-- ---- uses that may be used again

-- where more is backed up, and the need lies higher, more may be used again
reusable_more : (m n : Reuse) (o : Option Use) → m.backed ≤ n.backed → m.need ≤ n.need → may_reuse m o ≡ true → may_reuse n o ≡ true
reusable_more m n None backed need h = refl
reusable_more m n (Some u) backed need h =
    let parts = and_parts (nat_le u.uniq m.backed) (nat_lt (last_position u) m.need) h in
    let low : u.uniq ≤ m.backed = leb-true _ _ parts.0 in
    let ends : last_position u < m.need = ltb-true _ _ parts.1 in
    let first : nat_le u.uniq n.backed ≡ true = le-leb _ _ (omega (arith, low, backed)) in
    let second : nat_lt (last_position u) n.need ≡ true = lt-ltb _ _ (omega (arith, ends, need)) in
    rw (first, second) refl

following_more : (c : Config) (m n : Reuse) (r : Ring) → m.backed ≤ n.backed → m.need ≤ n.need → following c m r ≤ following c n r
following_more c m n r backed need =
    following_from c m n r r
    (run_le (is_reusable c m r) (is_reusable c n r) (file_behind c r) (file_behind c r) 1 1 (c.log_files - 1)
    (λ i lt passes. reusable_more m n (use_in_file c r (file_behind c r (1 + i))) backed need passes))

room_more : (c : Config) (m n : Reuse) (r : Ring) (o : Option Use) → m.backed ≤ n.backed → m.need ≤ n.need → room_after c m r o ≤ room_after c n r o
room_more c m n r None backed need =
    let more = following_more c m n r backed need in
    elim (cases_Bool (is_reusable c m r (file_of c r.uniq))) [
      | inl e ↦ (let f : is_reusable c n r (file_of c r.uniq) ≡ true = reusable_more m n (use_in_file c r (file_of c r.uniq)) backed need e in rw (e, f) (omega (arith, more)))
      | inr e ↦ rw (e) (omega arith)
    ]
room_more c m n r (Some u) backed need =
    let more = following_more c m n r backed need in
    elim (is_closed c r u) as (λ b. (if b then following c m r else unwritten c u + following c m r) ≤ (if b then following c n r else unwritten c u + following c n r)) [
      | true ↦ omega (arith, more)
      | false ↦ omega (arith, more)
    ]

pub more_free : (c : Config) (m n : Reuse) (r : Ring) → m.backed ≤ n.backed → m.need ≤ n.need → free c m r ≤ free c n r
more_free c m n r backed need = omega (arith, room_more c m n r (use_numbered r r.uniq) backed need)

-- ---- no more is free than there is

run_within : (c : Config) (m : Reuse) (r : Ring) → run c m r ≤ c.log_files - 1
run_within c m r =
    omega (arith, prefix_len-le-length (is_reusable c m r) (map (file_behind c r) (range_with_len 1 (c.log_files - 1))), length-map-range_with_len (file_behind c r) 1 (c.log_files - 1))

pub following_within : (c : Config) (m : Reuse) (r : Ring) → 1 ≤ c.log_files → c.log_file_pages + following c m r ≤ log_pages c
following_within c m r some =
    let more : c.log_file_pages * (1 + run c m r) ≤ c.log_file_pages * c.log_files = mul-le-mul_left c.log_file_pages (omega (arith, run_within c m r, some)) in
    let parts : c.log_file_pages * (1 + run c m r) ≡ c.log_file_pages + c.log_file_pages * run c m r = omega arith in
    let order : c.log_file_pages * c.log_files ≡ c.log_files * c.log_file_pages = omega arith in
    omega (arith, more, parts, order, following_is c m r)

room_within : (c : Config) (m : Reuse) (r : Ring) (o : Option Use) → 1 ≤ c.log_files → room_after c m r o ≤ log_pages c
room_within c m r None some =
    elim (is_reusable c m r (file_of c r.uniq)) as (λ b. (if b then c.log_file_pages + following c m r else 0) ≤ log_pages c) [ true ↦ following_within c m r some | false ↦ omega arith ]
room_within c m r (Some u) some =
    elim (is_closed c r u) as (λ b. (if b then following c m r else unwritten c u + following c m r) ≤ log_pages c) [
      | true ↦ omega (arith, following_within c m r some)
      | false ↦ omega (arith, following_within c m r some)
    ]

pub free_within : (c : Config) (m : Reuse) (r : Ring) → 1 ≤ c.log_files → free c m r ≤ log_pages c
free_within c m r some = omega (arith, room_within c m r (use_numbered r r.uniq) some)

-- ---- values fit

pub value_fits : (value : Option Row) → is_value value ≡ true → value_length value ≤ 64
value_fits None h = omega arith
value_fits (Some row) h = omega (arith, leb-true (length row) 63 h)
