-- The page that is written next goes to a file that may be used, and leaves the last page.
use Rattle.std.specs.List.{AllByRecursion, find, range_with_len, take_while}
use Rattle.std.specs.Option.{option_map}
use Rattle.std.specs.Prelude.{Bool, IfSome, List, None, Option, Some, [], false, if◌then◌else◌, is_some, length, map, not, suc, true, ℕ, ◌%◌, ◌&&◌, ◌*◌, ◌+◌, ◌-◌, ◌<◌, ◌==◌, ◌∷◌, ◌≡◌, ◌≤◌}
use Rattle.std.proofs.Common.{ap, arith, cond, inl, inr, ne_eqb, refl, subst, sym, ◌∙◌}
use Rattle.std.proofs.lemmas.Bool.{and_parts, cases_eq, eqb-false}
use Rattle.std.proofs.lemmas.Bool.Decides.{eqb_tells, nat_tests}
use Rattle.std.proofs.lemmas.List.Sums.{take_while-cons}
use Rattle.std.proofs.lemmas.Nat.{mod_below}
use Rattle.std.proofs.Math.Nat.{mod-add-mod, mod-eq_of_lt, mod_self}
use Rattle.ol_rules.specs.Ring.{Reuse, Ring, Use, file_of, following, is_backed, is_closed, is_reusable, last_range, room, room_after, to_back_up, unwritten}
use Rattle.ol_values.specs.Config.{Config}
use Rattle.ol_log_state.specs.declared.places.NextPage.{NextPage}
use Rattle.ol_log_state.specs.declared.log_files.LogFiles.TheInside.{Inside}
use Rattle.ol_log_state.specs.declared.places.Use.{Use as ToldUse}
use Rattle.ol_log_state.specs.Files.{Files, current_use, log_config, next_page, page_behind, ring_in, told_use}
use Rattle.ol_log_state.specs.StoredFiles.{AreApart, IsLogFiles, files_in, helds, uniqs}
use Rattle.ol_log_state.specs.Uses.{Stored, use_of}
use Rattle.ol_log_state.proofs.ListLaws.{all_found}

-- ---- the file behind the current one

file_behind : (c : Config) (uniq : ℕ) → 1 ≤ uniq → file_of c (uniq + 1) ≡ (file_of c uniq + 1) % c.log_files
file_behind c uniq some =
    ap (λ n. n % c.log_files) (let e : uniq + 1 - 1 ≡ uniq - 1 + 1 = omega (arith, some) in e) ∙ sym (mod-add-mod (uniq - 1) c.log_files 1)

-- the next use stands in another file
pub other_file : (c : Config) (uniq : ℕ) → 1 ≤ uniq → 2 ≤ c.log_files → (file_of c (uniq + 1) == file_of c uniq) ≡ false
other_file c uniq some files =
    let r = file_of c uniq in
    let below : r < c.log_files = mod_below (uniq - 1) c.log_files (omega (arith, files)) in
    ap (λ n. n == r) (file_behind c uniq some)
    ∙ elim (eqb_tells (r + 1) c.log_files) [
      | inl last ↦ ne_eqb ((r + 1) % c.log_files) r (λ e. (let wraps : (r + 1) % c.log_files ≡ 0 = ap (λ n. n % c.log_files) last.1 ∙ mod_self c.log_files in omega (arith, e, wraps, last.1, files)))
      | inr more ↦ ne_eqb ((r + 1) % c.log_files) r (λ e. (let stays : (r + 1) % c.log_files ≡ r + 1 = mod-eq_of_lt (omega (arith, more.1, below)) in omega (arith, e, stays)))
    ]

-- ---- room behind the current file is in the next one

first_follows : (test : ℕ → Bool) (pages x : ℕ) (files : List ℕ) → 1 ≤ pages * length (take_while test (x ∷ files)) → test x ≡ true
first_follows test pages x files some =
    elim (test x) as (λ b. test x ≡ b → test x ≡ true) [
      | true ↦ λ t. t
      | false ↦ λ t. absurd (let none = ap (λ (l : List ℕ). pages * length l) (take_while-cons test x files ∙ ap (λ b. cond b (x ∷ take_while test files) []) t) in omega (arith, some, none))
    ] refl

next_follows : (c : Config) (m : Reuse) (r : Ring) → 1 ≤ r.uniq → 2 ≤ c.log_files → 1 ≤ following c m r → is_reusable c m r (file_of c (r.uniq + 1)) ≡ true
next_follows c m r some files room_there =
    let f = (λ (k : ℕ). (file_of c r.uniq + k) % c.log_files) in
    let more : c.log_files - 1 ≡ suc (c.log_files - 2) = omega (arith, files) in
    let first = subst (λ n. 1 ≤ c.log_file_pages * length (take_while (is_reusable c m r) (map f (range_with_len 1 n)))) more room_there in
    ap (λ k. is_reusable c m r k) (file_behind c r.uniq some) ∙ first_follows (is_reusable c m r) c.log_file_pages (f 1) (map f (range_with_len (1 + 1) (c.log_files - 2))) first

-- ---- the next page

pub page_reuses : (c : Config) (m : Reuse) (r : Ring) (o : Option Use) (p : NextPage) → page_behind c r o ≡ p → p.enters ≡ true → 1 ≤ room_after c m r o → 1 ≤ r.uniq → 2 ≤ c.log_files → is_reusable c m r (file_of c p.uniq) ≡ true
page_reuses c m r None p e enters some uniq files =
    ap (λ n. is_reusable c m r (file_of c n)) (sym (ap (λ (q : NextPage). q.uniq) e))
    ∙ elim (is_reusable c m r (file_of c r.uniq)) as (λ b. 1 ≤ (if b then c.log_file_pages + following c m r else 0) → b ≡ true) [
      | true ↦ λ h. refl
      | false ↦ λ h. absurd (omega (arith, h))
    ] some
page_reuses c m r (Some u) p e enters some uniq files =
    elim (is_closed c r u) as (λ b. (let q : NextPage = (if b then record { uniq = r.uniq + 1; index = 0; enters = true } else record { uniq = r.uniq; index = (last_range u).index + 1; enters = false }) in q) ≡ p
    → 1 ≤ (if b then following c m r else unwritten c u + following c m r) → is_reusable c m r (file_of c p.uniq) ≡ true) [
      | true ↦ λ is h. ap (λ n. is_reusable c m r (file_of c n)) (sym (ap (λ (q : NextPage). q.uniq) is)) ∙ next_follows c m r uniq files h
      | false ↦ λ is h. absurd (let g : false ≡ true = ap (λ (q : NextPage). q.enters) is ∙ enters in cc)
    ] e some

-- where there is room, a file that is entered may be used again
pub next_reuses : (f : Files) (m : Reuse) → 1 ≤ f.uniq → 2 ≤ f.area.count → 1 ≤ room (log_config f.area) m (ring_in f) → (next_page f).enters ≡ true → is_reusable (log_config f.area) m (ring_in f) (file_of (log_config f.area) (next_page f).uniq) ≡ true
next_reuses f m uniq files some enters = page_reuses (log_config f.area) m (ring_in f) (current_use f) (next_page f) refl enters some uniq files

pub page_leaves : (c : Config) (r : Ring) (o : Option Use) (p : NextPage) → page_behind c r o ≡ p → p.enters ≡ true → is_some o ≡ true → 1 ≤ r.uniq → 2 ≤ c.log_files → (file_of c p.uniq == file_of c r.uniq) ≡ false
page_leaves c r None p e enters there uniq files = absurd (let g : false ≡ true = there in cc)
page_leaves c r (Some u) p e enters there uniq files =
    elim (is_closed c r u) as (λ b. (let q : NextPage = (if b then record { uniq = r.uniq + 1; index = 0; enters = true } else record { uniq = r.uniq; index = (last_range u).index + 1; enters = false }) in q) ≡ p → (file_of c p.uniq == file_of c r.uniq) ≡ false) [
      | true ↦ λ is. ap (λ n. file_of c n == file_of c r.uniq) (sym (ap (λ (q : NextPage). q.uniq) is)) ∙ other_file c r.uniq uniq files
      | false ↦ λ is. absurd (let g : false ≡ true = ap (λ (q : NextPage). q.enters) is ∙ enters in cc)
    ] e

-- where a use stands in the current file, a file that is entered is another
pub next_leaves : (f : Files) → 1 ≤ f.uniq → 2 ≤ f.area.count → is_some (current_use f) ≡ true → (next_page f).enters ≡ true → (file_of (log_config f.area) (next_page f).uniq == file_of (log_config f.area) f.uniq) ≡ false
next_leaves f uniq files there enters = page_leaves (log_config f.area) (ring_in f) (current_use f) (next_page f) refl enters there uniq files

-- ---- a closed use has a lower number than the next page

pub number_from : (c : Config) (r : Ring) (o : Option Use) → r.uniq ≤ (page_behind c r o).uniq
number_from c r None = omega arith
number_from c r (Some u) =
    elim (is_closed c r u) as (λ b. r.uniq ≤ (let q : NextPage = (if b then record { uniq = r.uniq + 1; index = 0; enters = true } else record { uniq = r.uniq; index = (last_range u).index + 1; enters = false }) in q).uniq) [
      | true ↦ omega arith
      | false ↦ omega arith
    ]

of_uses : (P : ℕ → Type 0) (items : List Stored) → AllByRecursion P (uniqs items) → AllByRecursion (λ (w : Use). P w.uniq) (map use_of (helds items))
of_uses P [] all = tt
of_uses P (s ∷ items) all = (all.0, of_uses P items all.1)

-- a use that is found is the one of its number
found_numbered : (items : List Stored) (test : Use → Bool) (u : Use) → AreApart (uniqs items) → find test (map use_of (helds items)) ≡ Some u → find (λ (w : Use). w.uniq == u.uniq) (map use_of (helds items)) ≡ Some u
found_numbered [] test u apart found = absurd (let g : None ≡ Some u = found in cc)
found_numbered (s ∷ items) test u apart found =
    elim (test (use_of s.held)) as (λ b. cond b (Some (use_of s.held)) (find test (map use_of (helds items))) ≡ Some u → cond (s.held.uniq == u.uniq) (Some (use_of s.held)) (find (λ (w : Use). w.uniq == u.uniq) (map use_of (helds items))) ≡ Some u) [
      | true ↦ λ is.
          (let same : use_of s.held ≡ u = cc in
          let mine : (s.held.uniq == u.uniq) ≡ true = ap (λ (w : Use). w.uniq == u.uniq) same ∙ itself u.uniq in
          ap (λ b. cond b (Some (use_of s.held)) (find (λ (w : Use). w.uniq == u.uniq) (map use_of (helds items)))) mine ∙ ap Some same)
      | false ↦ λ is.
          (let off = all_found (λ (w : Use). (w.uniq == s.held.uniq) ≡ false) test (map use_of (helds items)) u (of_uses (λ n. (n == s.held.uniq) ≡ false) items apart.0) is in
          let other : (s.held.uniq == u.uniq) ≡ false = ne_eqb s.held.uniq u.uniq (λ e. eqb-false u.uniq s.held.uniq off (sym e)) in
          ap (λ b. cond b (Some (use_of s.held)) (find (λ (w : Use). w.uniq == u.uniq) (map use_of (helds items)))) other ∙ found_numbered items test u apart.1 is)
    ] found
  where
    itself : (n : ℕ) → (n == n) ≡ true
    itself n = grind (arith, nat_tests)

pub closed_below : (f : Inside) → IsLogFiles f → (test : Use → Bool) (u : Use) → find test (map use_of (helds f.uses.items)) ≡ Some u → is_closed (log_config f.area) (ring_in (files_in f)) u ≡ true → u.uniq < (next_page (files_in f)).uniq
closed_below f is test u found closed = elim (cases_eq u.uniq f.uniq) [
  | inl same ↦
      (let r = ring_in (files_in f) in
      let current : current_use (files_in f) ≡ Some u = subst (λ n. find (λ (w : Use). w.uniq == n) (map use_of (helds f.uses.items)) ≡ Some u) same (found_numbered f.uses.items test u is.numbered.apart found) in
      let next : (next_page (files_in f)).uniq ≡ f.uniq + 1 =
      ap (λ (o : Option Use). (page_behind (log_config f.area) r o).uniq) current
      ∙ ap (λ b. (let q : NextPage = (if b then record { uniq = r.uniq + 1; index = 0; enters = true } else record { uniq = r.uniq; index = (last_range u).index + 1; enters = false }) in q).uniq) closed in
      omega (arith, next, same))
  | inr other ↦
      (let most = all_found (λ (w : Use). w.uniq ≤ f.uniq) test (map use_of (helds f.uses.items)) u (of_uses (λ n. n ≤ f.uniq) f.uses.items is.numbered.up_to) found in
      let from = number_from (log_config f.area) (ring_in (files_in f)) (current_use (files_in f)) in
      omega (arith, most, from, other))
]

found_passes : (test : Use → Bool) (uses : List Use) (u : Use) → find test uses ≡ Some u → test u ≡ true
found_passes test [] u found = absurd (let g : None ≡ Some u = found in cc)
found_passes test (w ∷ uses) u found =
    elim (test w) as (λ b. test w ≡ b → cond b (Some w) (find test uses) ≡ Some u → test u ≡ true) [
      | true ↦ λ here is. (let same : w ≡ u = cc in subst (λ (x : Use). test x ≡ true) same here)
      | false ↦ λ off is. found_passes test uses u is
    ] refl found

-- so has the use that is to be backed up
pub told_below : (f : Files) (m : Reuse) (n : ℕ) (o : Option ToldUse) → ((test : Use → Bool) (u : Use) → find test (map use_of f.uses) ≡ Some u → is_closed (log_config f.area) (ring_in f) u ≡ true → u.uniq < n)
    → o ≡ option_map told_use (to_back_up (log_config f.area) m (ring_in f)) → IfSome o (λ (t : ToldUse). t.uniq < n)
told_below f m n None below is = tt
told_below f m n (Some t) below is = by_use (to_back_up (log_config f.area) m (ring_in f)) refl
  where
    by_use : (p : Option Use) → to_back_up (log_config f.area) m (ring_in f) ≡ p → t.uniq < n
    by_use None e = absurd (let g : Some t ≡ None = is ∙ ap (option_map told_use) e in cc)
    by_use (Some u) e =
        let told : Some t ≡ Some (told_use u) = is ∙ ap (option_map told_use) e in
        let number : Some t.uniq ≡ Some u.uniq = ap (option_map (λ (x : ToldUse). x.uniq)) told in
        let same : t.uniq ≡ u.uniq = cc in
        let test = (λ (w : Use). is_closed (log_config f.area) (ring_in f) w && not (is_backed m w)) in
        let lt = below test u e (and_parts (is_closed (log_config f.area) (ring_in f) u) (not (is_backed m u)) (found_passes test (map use_of f.uses) u e)).0 in
        omega (arith, lt, same)
