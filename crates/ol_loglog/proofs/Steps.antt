-- What one page more makes of a ring.
use Rattle.std.specs.List.{find, last_or}
use Rattle.std.specs.Option.{option_map, unwrap_or}
use Rattle.std.specs.Prelude.{Bool, List, None, Option, Some, [], false, filter, if◌then◌else◌, length, map, not, true, ℕ, ◌⊎◌, ◌++◌, ◌+◌, ◌-◌, ◌==◌, ◌∷◌, ◌≡◌, ◌≢◌, ◌≤◌}
use Rattle.std.proofs.Common.{ap, cond, inl, inr, ne_eqb, refl, subst, sym, ◌∙◌}
use Rattle.std.proofs.lemmas.Bool.{cases_eq, eqb-true}
use Rattle.std.proofs.lemmas.Bool.Decides.{nat_tests}
use Rattle.std.proofs.Common.{arith}
use Rattle.ol_values.specs.Config.{Config}
use Rattle.ol_rules.specs.Ring.{LogRange, Reuse, Ring, Use, room, room_after, at_use, file_of, is_closed, last_of_range, last_position, last_range, no_range, open_use, use_in_file, use_numbered, with_page_in, with_range, written}
use Rattle.ol_chunks.specs.Places.{log_area}
use Rattle.ol_chunks.specs.declared.table.Area.{Area}
use Rattle.ol_log_state.specs.declared.places.NextPage.{NextPage}
use Rattle.ol_log_state.specs.Files.{Files, current_use, log_config, next_page, page_behind, ring_in}
use Rattle.ol_log_state.specs.RingState.{RingState, config_of, ring_of}

-- ---- lists of uses

find_new : (test keep : Use → Bool) (uses : List Use) (new : Use) → ((u : Use) → keep u ≡ true → test u ≡ false) → test new ≡ true → find test (filter keep uses ++ new ∷ []) ≡ Some new
find_new test keep [] new off here = ap (λ b. cond b (Some new) None) here
find_new test keep (u ∷ uses) new off here =
    let rest = find_new test keep uses new off here in
    elim (keep u) as (λ b. keep u ≡ b → find test (cond b (u ∷ filter keep uses) (filter keep uses) ++ new ∷ []) ≡ Some new) [
      | true ↦ λ kept. ap (λ b. cond b (Some u) (find test (filter keep uses ++ new ∷ []))) (off u kept) ∙ rest
      | false ↦ λ out. rest
    ] refl

find_kept : (test keep : Use → Bool) (uses : List Use) (new u : Use) → find test uses ≡ Some u → ((w : Use) → test w ≡ true → keep w ≡ true) → find test (filter keep uses ++ new ∷ []) ≡ Some u
find_kept test keep [] new u found on = absurd (let g : None ≡ Some u = found in cc)
find_kept test keep (w ∷ uses) new u found on =
    elim (test w) as (λ b. test w ≡ b → cond b (Some w) (find test uses) ≡ Some u → find test (filter keep (w ∷ uses) ++ new ∷ []) ≡ Some u) [
      | true ↦ λ here is.
          ap (λ b. find test (cond b (w ∷ filter keep uses) (filter keep uses) ++ new ∷ [])) (on w here)
          ∙ ap (λ b. cond b (Some w) (find test (filter keep uses ++ new ∷ []))) here ∙ is
      | false ↦ λ off is.
          (let rest = find_kept test keep uses new u is on in
          elim (keep w) as (λ b. find test (cond b (w ∷ filter keep uses) (filter keep uses) ++ new ∷ []) ≡ Some u) [
            | true ↦ ap (λ b. cond b (Some w) (find test (filter keep uses ++ new ∷ []))) off ∙ rest
            | false ↦ rest
          ])
    ] refl found

find_apart : (test keep : Use → Bool) (uses : List Use) (new : Use) → ((w : Use) → test w ≡ true → keep w ≡ true) → test new ≡ false → find test (filter keep uses ++ new ∷ []) ≡ find test uses
find_apart test keep [] new on off = ap (λ b. cond b (Some new) None) off
find_apart test keep (w ∷ uses) new on off =
    let rest = find_apart test keep uses new on off in
    elim (test w) as (λ b. test w ≡ b → find test (filter keep (w ∷ uses) ++ new ∷ []) ≡ cond b (Some w) (find test uses)) [
      | true ↦ λ here.
          ap (λ b. find test (cond b (w ∷ filter keep uses) (filter keep uses) ++ new ∷ [])) (on w here)
          ∙ ap (λ b. cond b (Some w) (find test (filter keep uses ++ new ∷ []))) here
      | false ↦ λ out. elim (keep w) as (λ b. find test (cond b (w ∷ filter keep uses) (filter keep uses) ++ new ∷ []) ≡ find test uses) [
        | true ↦ ap (λ b. cond b (Some w) (find test (filter keep uses ++ new ∷ []))) out ∙ rest
        | false ↦ rest
      ]
    ] refl

pub found_map : (test : Use → Bool) (f : Use → Use) (uses : List Use) → ((w : Use) → test (f w) ≡ test w) → find test (map f uses) ≡ option_map f (find test uses)
found_map test f [] same = refl
found_map test f (w ∷ uses) same =
    ap (λ b. cond b (Some (f w)) (find test (map f uses))) (same w)
    ∙ elim (test w) as (λ b. cond b (Some (f w)) (find test (map f uses)) ≡ option_map f (cond b (Some w) (find test uses))) [
      | true ↦ refl
      | false ↦ found_map test f uses same
    ]

pub of_map : (f : Use → Use) (o : Option Use) (u : Use) → option_map f o ≡ Some u → (w : Use) × (o ≡ Some w) × (f w ≡ u)
of_map f None u e = absurd (let clash : None ≡ Some u = e in cc)
of_map f (Some w) u e = (w, refl, (let x = f w in let g : Some x ≡ Some u = e in cc))

find_mapped : (test : Use → Bool) (f : Use → Use) (uses : List Use) (u : Use) → ((w : Use) → test (f w) ≡ test w) → find test uses ≡ Some u → find test (map f uses) ≡ Some (f u)
find_mapped test f [] u same found = absurd (let g : None ≡ Some u = found in cc)
find_mapped test f (w ∷ uses) u same found =
    ap (λ b. cond b (Some (f w)) (find test (map f uses))) (same w)
    ∙ elim (test w) as (λ b. cond b (Some w) (find test uses) ≡ Some u → cond b (Some (f w)) (find test (map f uses)) ≡ Some (f u)) [
      | true ↦ λ is. ap (λ o. option_map f o) is
      | false ↦ λ is. find_mapped test f uses u same is
    ] found

pub found_passes : (test : Use → Bool) (uses : List Use) (u : Use) → find test uses ≡ Some u → test u ≡ true
found_passes test [] u found = absurd (let g : None ≡ Some u = found in cc)
found_passes test (w ∷ uses) u found =
    elim (test w) as (λ b. test w ≡ b → cond b (Some w) (find test uses) ≡ Some u → test u ≡ true) [
      | true ↦ λ here is. (let same : w ≡ u = cc in subst (λ (x : Use). test x ≡ true) same here)
      | false ↦ λ off is. found_passes test uses u is
    ] refl found

pub last_snoc : (o : Option LogRange) (ranges : List LogRange) (p : LogRange) → unwrap_or (last_or o (ranges ++ p ∷ [])) no_range ≡ p
last_snoc o [] p = refl
last_snoc o (x ∷ ranges) p = last_snoc (Some x) ranges p

pub same_number : (n : ℕ) → (n == n) ≡ true
same_number n = grind (arith, nat_tests)

other_number : (a b : ℕ) → (f : ℕ → ℕ) → not (f a == f b) ≡ true → (a == b) ≡ false
other_number a b f off =
    elim (a == b) as (λ t. (a == b) ≡ t → t ≡ false) [
      | true ↦ λ is. absurd (let e = eqb-true a b is in let t : not (f a == f b) ≡ false = ap (λ n. not (f n == f b)) e ∙ ap not (same_number (f b)) in let clash : false ≡ true = sym t ∙ off in cc)
      | false ↦ λ is. refl
    ] refl

not_false : (b : Bool) → not b ≡ true → b ≡ false
not_false true e = absurd (let clash : false ≡ true = e in cc)
not_false false e = refl

-- ---- a page more

-- what a ring is with one page more, at its place
pub record Stepped (c : Config) (old new : Ring) (page : NextPage) (first count : ℕ) : Type 0 where
  pub one : Use
  pub now : use_numbered new new.uniq ≡ Some one
  pub range : last_range one ≡ (let p : LogRange = record { index = page.index; first = first; count = count } in p)
  -- it is the one of its file, where it was before
  pub alone : ((u : Use) → use_numbered old old.uniq ≡ Some u → use_in_file c old (file_of c old.uniq) ≡ Some u) → use_in_file c new (file_of c page.uniq) ≡ Some one
  -- other files have their use, or one that ends with the page
  pub others : (file : ℕ) (u : Use) → use_in_file c old file ≡ Some u → (page.enters ≡ true → file ≢ file_of c page.uniq) → (w : Use) × (use_in_file c new file ≡ Some w) × ((w ≡ u) ⊎ (last_position w ≡ first + count - 1))
  -- a use that ends with the page is in its file, and others were there before
  pub before : (file : ℕ) (w : Use) → use_in_file c new file ≡ Some w → ((file ≡ file_of c page.uniq) × (last_position w ≡ first + count - 1)) ⊎ (use_in_file c old file ≡ Some w)

pub some_same : (a b : Use) → Some a ≡ Some b → a ≡ b
some_same a b e = cc

opened : (c : Config) (r : Ring) (uniq first count : ℕ) → Stepped c r (open_use c r uniq first count) (record { uniq = uniq; index = 0; enters = true }) first count
opened c r uniq first count =
    let p : LogRange = record { index = 0; first = first; count = count } in
    let new : Use = record { uniq = uniq; pages = p ∷ []; switched = false } in
    let keep = (λ (u : Use). not (file_of c u.uniq == file_of c uniq)) in
    record {
      one = new;
      now = find_new (λ (u : Use). u.uniq == uniq) keep r.uses new (λ u kept. other_number u.uniq uniq (file_of c) kept) (same_number uniq);
      range = refl;
      alone = λ one. find_new (λ (u : Use). file_of c u.uniq == file_of c uniq) keep r.uses new (λ u kept. not_false (file_of c u.uniq == file_of c uniq) kept) (same_number (file_of c uniq));
      others = λ file u found apart. (
        u,
        find_kept (λ (w : Use). file_of c w.uniq == file) keep r.uses new u found
            (λ w here. ap not (ne_eqb (file_of c w.uniq) (file_of c uniq) (λ e. apart refl (sym (eqb-true (file_of c w.uniq) file here) ∙ e)))),
        inl refl,
      );
      before = λ file w is. elim (cases_eq file (file_of c uniq)) [
        | inl same ↦ inl (
          same,
          (let here : find (λ (u : Use). file_of c u.uniq == file_of c uniq) (filter keep r.uses ++ new ∷ []) ≡ Some new =
              find_new (λ (u : Use). file_of c u.uniq == file_of c uniq) keep r.uses new (λ u kept. not_false (file_of c u.uniq == file_of c uniq) kept) (same_number (file_of c uniq)) in
              let there = subst (λ (f : ℕ). find (λ (u : Use). file_of c u.uniq == f) (filter keep r.uses ++ new ∷ []) ≡ Some w) same is in
              sym (ap last_position (some_same new w (sym here ∙ there)))),
        )
        | inr apart ↦ inr (sym (find_apart (λ (u : Use). file_of c u.uniq == file) keep r.uses new
            (λ x here. ap not (ne_eqb (file_of c x.uniq) (file_of c uniq) (λ e. apart (sym (eqb-true (file_of c x.uniq) file here) ∙ e))))
            (ne_eqb (file_of c uniq) file (λ e. apart (sym e)))) ∙ is)
      ];
    }

module _ (c : Config) (r : Ring) (u : Use) (first count : ℕ) where
  abbrev more : Use → Use
  more w = if w.uniq == r.uniq then with_range first count w else w

  more_number : (w : Use) → (more w).uniq ≡ w.uniq
  more_number w = elim (w.uniq == r.uniq) as (λ b. (let x : Use = (if b then with_range first count w else w) in x).uniq ≡ w.uniq) [ true ↦ refl | false ↦ refl ]

  extended : use_numbered r r.uniq ≡ Some u → Stepped c r (at_use r.uniq (with_range first count) r) (record { uniq = r.uniq; index = (last_range u).index + 1; enters = false }) first count
  extended found =
      let p : LogRange = record { index = (last_range u).index + 1; first = first; count = count } in
      let at : more u ≡ with_range first count u = ap (λ b. (let x : Use = (if b then with_range first count u else u) in x)) (found_passes (λ (w : Use). w.uniq == r.uniq) r.uses u found) in
      record {
        one = with_range first count u;
        now = find_mapped (λ (w : Use). w.uniq == r.uniq) more r.uses u (λ w. ap (λ n. n == r.uniq) (more_number w)) found ∙ ap Some at;
        range = last_snoc None u.pages p;
        alone = λ one. find_mapped (λ (w : Use). file_of c w.uniq == file_of c r.uniq) more r.uses u (λ w. ap (λ n. file_of c n == file_of c r.uniq) (more_number w)) (one u found) ∙ ap Some at;
        others = λ file w there apart. (
          more w,
          find_mapped (λ (x : Use). file_of c x.uniq == file) more r.uses w (λ x. ap (λ n. file_of c n == file) (more_number x)) there,
          elim (w.uniq == r.uniq) as (λ b. ((let x : Use = (if b then with_range first count w else w) in x) ≡ w) ⊎ (last_position (let x : Use = (if b then with_range first count w else w) in x) ≡ first + count - 1)) [
            | true ↦ inr (ap last_of_range (last_snoc None w.pages (let q : LogRange = record { index = (last_range w).index + 1; first = first; count = count } in q)))
            | false ↦ inl refl
          ],
        );
        before = λ file w is.
            (let was = of_map more (find (λ (x : Use). file_of c x.uniq == file) r.uses) w (sym (found_map (λ (x : Use). file_of c x.uniq == file) more r.uses (λ x. ap (λ n. file_of c n == file) (more_number x))) ∙ is) in
            elim (was.0.uniq == r.uniq) as (λ b. (was.0.uniq == r.uniq) ≡ b → (let x : Use = (if b then with_range first count was.0 else was.0) in x) ≡ w → ((file ≡ file_of c r.uniq) × (last_position w ≡ first + count - 1)) ⊎ (use_in_file c r file ≡ Some w)) [
              | true ↦ λ here e. inl (
                sym (eqb-true (file_of c was.0.uniq) file (found_passes (λ (x : Use). file_of c x.uniq == file) r.uses was.0 was.1)) ∙ ap (file_of c) (eqb-true was.0.uniq r.uniq here),
                sym (ap last_position e) ∙ ap last_of_range (last_snoc None was.0.pages (let q : LogRange = record { index = (last_range was.0).index + 1; first = first; count = count } in q)),
              )
              | false ↦ λ off e. inr (was.1 ∙ ap Some e)
            ] refl was.2);
      }

stepped_by : (c : Config) (r : Ring) (o : Option Use) (first count : ℕ) → use_numbered r r.uniq ≡ o → Stepped c r (with_page_in c r o first count) (page_behind c r o) first count
stepped_by c r None first count is = opened c r r.uniq first count
stepped_by c r (Some u) first count is =
    elim (is_closed c r u) as (λ b. Stepped c r (let s : Ring = (if b then open_use c r (r.uniq + 1) first count else at_use r.uniq (with_range first count) r) in s)
    (let n : NextPage = (if b then record { uniq = r.uniq + 1; index = 0; enters = true } else record { uniq = r.uniq; index = (last_range u).index + 1; enters = false }) in n) first count) [
      | true ↦ opened c r (r.uniq + 1) first count
      | false ↦ extended c r u first count is
    ]

unbuffered : (c : Config) (r s : Ring) (page : NextPage) (first count : ℕ) → Stepped c r s page first count → Stepped c r (record s { buffer = [] }) page first count
unbuffered c r s page first count is = record { one = is.one; now = is.now; range = is.range; alone = is.alone; others = is.others; before = is.before }

-- ---- of a state, by the installation's configuration

behind_same : (c : Config) (f : Files) (r : Ring) → r.uniq ≡ f.uniq → (o : Option Use) → page_behind (log_config (log_area c)) (ring_in f) o ≡ page_behind c r o
behind_same c f r same None = ap (λ n. (let p : NextPage = record { uniq = n; index = 0; enters = true } in p)) (sym same)
behind_same c f r same (Some u) = ap (λ n. page_behind c (let t : Ring = record { uses = r.uses; uniq = n; buffer = r.buffer } in t) (Some u)) (sym same)

pub next_is : (c : Config) (s : RingState) → s.files.area ≡ log_area c → next_page s.files ≡ page_behind c (ring_of s) (current_use s.files)
next_is c s area = ap (λ (a : Area). page_behind (log_config a) (ring_in s.files) (current_use s.files)) area ∙ behind_same c s.files (ring_of s) refl (current_use s.files)

within_same : (c : Config) (r : Ring) (o : Option Use) (first count : ℕ) → with_page_in (log_config (log_area c)) r o first count ≡ with_page_in c r o first count
within_same c r None first count = refl
within_same c r (Some u) first count = refl

pub written_is : (c : Config) (s : RingState) (last : ℕ) → s.files.area ≡ log_area c → written (config_of s) (ring_of s) last ≡ written c (ring_of s) last
written_is c s last area =
    ap (λ (a : Area). written (log_config a) (ring_of s) last) area
    ∙ ap (λ (t : Ring). (let x : Ring = record { uses = t.uses; uniq = t.uniq; buffer = [] } in x)) (within_same c (ring_of s) (use_numbered (ring_of s) (ring_of s).uniq) (last + 1 - length s.buffer) (length s.buffer))

pub stepped : (c : Config) (s : RingState) (last : ℕ) → s.files.area ≡ log_area c → Stepped c (ring_of s) (written c (ring_of s) last) (next_page s.files) (last + 1 - length s.buffer) (length s.buffer)
stepped c s last area =
    subst (λ (n : NextPage). Stepped c (ring_of s) (written c (ring_of s) last) n (last + 1 - length s.buffer) (length s.buffer)) (sym (next_is c s area))
    (unbuffered c (ring_of s) (with_page_in c (ring_of s) (use_numbered (ring_of s) (ring_of s).uniq) (last + 1 - length s.buffer) (length s.buffer)) (page_behind c (ring_of s) (current_use s.files)) (last + 1 - length s.buffer) (length s.buffer)
    (stepped_by c (ring_of s) (use_numbered (ring_of s) (ring_of s).uniq) (last + 1 - length s.buffer) (length s.buffer) refl))

-- the two forms of the next page
pub forms : (c : Config) (r : Ring) (o : Option Use) (page : NextPage) → page ≡ page_behind c r o → (page.enters ≡ true) ⊎ ((u : Use) × (o ≡ Some u) × (page.uniq ≡ r.uniq) × (page.index ≡ (last_range u).index + 1))
forms c r None page is = inl (ap (λ (n : NextPage). n.enters) is)
forms c r (Some u) page is =
    elim (is_closed c r u) as (λ b. page ≡ (let n : NextPage = (if b then record { uniq = r.uniq + 1; index = 0; enters = true } else record { uniq = r.uniq; index = (last_range u).index + 1; enters = false }) in n)
    → (page.enters ≡ true) ⊎ ((w : Use) × (Some u ≡ Some w) × (page.uniq ≡ r.uniq) × (page.index ≡ (last_range w).index + 1))) [
      | true ↦ λ same. inl (ap (λ (n : NextPage). n.enters) same)
      | false ↦ λ same. inr (u, refl, ap (λ (n : NextPage). n.uniq) same, ap (λ (n : NextPage). n.index) same)
    ] is

-- its number is the current one, or the one behind where a use of the current one stands
pub number_form : (c : Config) (r : Ring) (o : Option Use) (page : NextPage) → page ≡ page_behind c r o → (page.uniq ≡ r.uniq) ⊎ ((u : Use) × (o ≡ Some u) × (page.uniq ≡ r.uniq + 1))
number_form c r None page is = inl (ap (λ (n : NextPage). n.uniq) is)
number_form c r (Some u) page is =
    elim (is_closed c r u) as (λ b. page ≡ (let n : NextPage = (if b then record { uniq = r.uniq + 1; index = 0; enters = true } else record { uniq = r.uniq; index = (last_range u).index + 1; enters = false }) in n)
    → (page.uniq ≡ r.uniq) ⊎ ((w : Use) × (Some u ≡ Some w) × (page.uniq ≡ r.uniq + 1))) [
      | true ↦ λ same. inr (u, refl, ap (λ (n : NextPage). n.uniq) same)
      | false ↦ λ same. inl (ap (λ (n : NextPage). n.uniq) same)
    ] is

pub number_between : (f : Files) → (f.uniq ≤ (next_page f).uniq) × ((next_page f).uniq ≤ f.uniq + 1)
number_between f = elim (number_form (log_config f.area) (ring_in f) (current_use f) (next_page f) refl) [ inl same ↦ (omega (arith, same), omega (arith, same)) | inr (u, is, more) ↦ (omega (arith, more), omega (arith, more)) ]

room_same : (c : Config) (m : Reuse) (r : Ring) (o : Option Use) → room_after (log_config (log_area c)) m r o ≡ room_after c m r o
room_same c m r None = refl
room_same c m r (Some u) = refl

pub room_is : (c : Config) (s : RingState) → s.files.area ≡ log_area c → room (config_of s) s.reuse (ring_of s) ≡ room c s.reuse (ring_of s)
room_is c s area = ap (λ (a : Area). room (log_config a) s.reuse (ring_of s)) area ∙ room_same c s.reuse (ring_of s) (use_numbered (ring_of s) (ring_of s).uniq)
