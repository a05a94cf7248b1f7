-- The ring of log files: what a page that is written takes from its room, and what leaves its room as it was.
use Rattle.std.specs.List.{prefix_len}
use Rattle.std.specs.Option.{option_or}
use Rattle.std.specs.Prelude.{Bool, List, None, Option, Some, [], cond, false, find, if◌then◌else◌, map, option_map, refl, true, ℕ, ◌%◌, ◌*◌, ◌+◌, ◌-◌, ◌<◌, ◌==◌, ◌∷◌, ◌≡◌, ◌≤◌}
use Rattle.std.proofs.Common.{ap, arith, inl, inr, subst, sym, ◌∙◌}
use Rattle.std.proofs.Math.Nat.{mul-le-mul_left}
use Rattle.std.proofs.lemmas.Bool.{cases_Bool, eq-eqb}
use Rattle.std.proofs.lemmas.Bool.Decides.{eqb_tells}
use Rattle.std.proofs.lemmas.List.Folds.{find-append, length-prefix_len}
use Rattle.ol_values.specs.Config.{Config}
use Rattle.ol_rules.specs.Ring.{LogRange, Reuse, Ring, Use, at_use, file_of, following, is_reusable, may_reuse, next_files, open_use, use_in_file, use_numbered, without_file}
use Rattle.ol_turn_laws.proofs.RunLaws.{other_remainder, run_le}

-- ---- what is found after a step

abbrev pub KeepsUniq : (Use → Use) → Type 0
KeepsUniq f = (u : Use) → (f u).uniq ≡ u.uniq

-- the use of a number, after a step of it
pub numbered_at : (n : ℕ) (f : Use → Use) (r : Ring) → KeepsUniq f → use_numbered (at_use n f r) n ≡ option_map f (use_numbered r n)
numbered_at n f r keeps = go r.uses
  where
    go : (uses : List Use) → find (λ (u : Use). u.uniq == n) (map (λ (u : Use). if u.uniq == n then f u else u) uses) ≡ option_map f (find (λ (u : Use). u.uniq == n) uses)
    go [] = refl
    go (u ∷ uses) =
        elim (cases_Bool (u.uniq == n)) [
          | inl e ↦ (let g : ((f u).uniq == n) ≡ true = rw (keeps u) e in rw (e, g) refl)
          | inr e ↦ rw (e, e) (go uses)
        ]

-- the use in another file, after a step of the uses of a number
pub in_file_at : (c : Config) (n : ℕ) (f : Use → Use) (r : Ring) (file : ℕ) → KeepsUniq f → (file == file_of c n) ≡ false → use_in_file c (at_use n f r) file ≡ use_in_file c r file
in_file_at c n f r file keeps other = go r.uses
  where
    away : (u : Use) → u.uniq ≡ n → (file_of c u.uniq == file) ≡ false
    away u e =
        elim (eqb_tells (file_of c u.uniq) file) [
          | inl h ↦ absurd (let same : file ≡ file_of c n = sym h.1 ∙ ap (λ (k : ℕ). file_of c k) e in let t : (file == file_of c n) ≡ true = eq-eqb file (file_of c n) same in cc)
          | inr h ↦ h.0
        ]

    go : (uses : List Use) → find (λ (u : Use). file_of c u.uniq == file) (map (λ (u : Use). if u.uniq == n then f u else u) uses) ≡ find (λ (u : Use). file_of c u.uniq == file) uses
    go [] = refl
    go (u ∷ uses) =
        elim (eqb_tells u.uniq n) [
          | inl e ↦
              (let g : (file_of c (f u).uniq == file) ≡ false = away (f u) (keeps u ∙ e.1) in
              let h : (file_of c u.uniq == file) ≡ false = away u e.1 in
              rw (e.0, g, h) (go uses))
          | inr e ↦ rw (e.0) (elim (file_of c u.uniq == file) as (λ b. cond b (Some u) (find (λ (v : Use). file_of c v.uniq == file) (map (λ (v : Use). if v.uniq == n then f v else v) uses)) ≡ cond b (Some u) (find (λ (v : Use). file_of c v.uniq == file) uses)) [ true ↦ refl | false ↦ go uses ])
        ]

-- the use of a number, where it was opened
abbrev pub opened : Config → ℕ → ℕ → ℕ → Use
opened c uniq first count = record { uniq = uniq; pages = (let p : LogRange = record { index = 0; first = first; count = count } in p ∷ []); switched = false }

numbered_without : (c : Config) (uniq : ℕ) (uses : List Use) → find (λ (u : Use). u.uniq == uniq) (without_file c (file_of c uniq) uses) ≡ None
numbered_without c uniq [] = refl
numbered_without c uniq (u ∷ uses) =
    let rest = numbered_without c uniq uses in
    elim (cases_Bool (file_of c u.uniq == file_of c uniq)) [
      | inl e ↦ rw (e) rest
      | inr e ↦
          (let other : (u.uniq == uniq) ≡ false =
          elim (eqb_tells u.uniq uniq) [
            | inl h ↦ absurd (let t : (file_of c u.uniq == file_of c uniq) ≡ true = eq-eqb (file_of c u.uniq) (file_of c uniq) (ap (λ (k : ℕ). file_of c k) h.1) in cc)
            | inr h ↦ h.0
          ] in
          rw (e, other) rest)
    ]

pub numbered_opened : (c : Config) (r : Ring) (uniq first count : ℕ) → use_numbered (open_use c r uniq first count) uniq ≡ Some (opened c uniq first count)
numbered_opened c r uniq first count =
    find-append (λ (u : Use). u.uniq == uniq) (without_file c (file_of c uniq) r.uses) (opened c uniq first count ∷ [])
    ∙ ap (λ (o : Option Use). option_or o (find (λ (u : Use). u.uniq == uniq) (opened c uniq first count ∷ []))) (numbered_without c uniq r.uses)
    ∙ rw (eq-eqb uniq uniq refl) refl

-- the use in another file than the one that was opened
in_file_without : (c : Config) (taken file : ℕ) (uses : List Use) → (file == taken) ≡ false
    → find (λ (u : Use). file_of c u.uniq == file) (without_file c taken uses) ≡ find (λ (u : Use). file_of c u.uniq == file) uses
in_file_without c taken file [] other = refl
in_file_without c taken file (u ∷ uses) other =
    let rest = in_file_without c taken file uses other in
    elim (eqb_tells (file_of c u.uniq) taken) [
      | inl e ↦
          (let away : (file_of c u.uniq == file) ≡ false =
          elim (eqb_tells (file_of c u.uniq) file) [
            | inl h ↦ absurd (let t : (file == taken) ≡ true = eq-eqb file taken (sym h.1 ∙ e.1) in cc)
            | inr h ↦ h.0
          ] in
          rw (e.0, away) rest)
      | inr e ↦ rw (e.0) (elim (file_of c u.uniq == file) as (λ b. cond b (Some u) (find (λ (v : Use). file_of c v.uniq == file) (without_file c taken uses)) ≡ cond b (Some u) (find (λ (v : Use). file_of c v.uniq == file) uses)) [ true ↦ refl | false ↦ rest ])
    ]

pub in_file_opened : (c : Config) (r : Ring) (uniq first count file : ℕ) → (file == file_of c uniq) ≡ false → use_in_file c (open_use c r uniq first count) file ≡ use_in_file c r file
in_file_opened c r uniq first count file other =
    let test : Use → Bool = λ (u : Use). file_of c u.uniq == file in
    let away : (file_of c uniq == file) ≡ false =
    elim (eqb_tells (file_of c uniq) file) [
      | inl h ↦ absurd (let t : (file == file_of c uniq) ≡ true = eq-eqb file (file_of c uniq) (sym h.1) in cc)
      | inr h ↦ h.0
    ] in
    let last : find test (opened c uniq first count ∷ []) ≡ None = rw (away) refl in
    find-append test (without_file c (file_of c uniq) r.uses) (opened c uniq first count ∷ [])
    ∙ ap (λ (o : Option Use). option_or (find test (without_file c (file_of c uniq) r.uses)) o) last
    ∙ or_none (find test (without_file c (file_of c uniq) r.uses))
    ∙ in_file_without c (file_of c uniq) file r.uses other
  where
    or_none : (o : Option Use) → option_or o None ≡ o
    or_none None = refl
    or_none (Some u) = refl

-- ---- what follows the current file

-- the file so many behind the current one, in ring order
abbrev pub file_behind : Config → Ring → ℕ → ℕ
file_behind c r k = (file_of c r.uniq + k) % c.log_files

-- how many files that may be reused follow the current one
abbrev pub run : Config → Reuse → Ring → ℕ
run c m r = prefix_len (is_reusable c m r) (next_files c r)

pub following_is : (c : Config) (m : Reuse) (r : Ring) → following c m r ≡ c.log_file_pages * run c m r
following_is c m r = ap (λ (n : ℕ). c.log_file_pages * n) (length-prefix_len (is_reusable c m r) (next_files c r))

pub following_from : (c : Config) (m n : Reuse) (r s : Ring) → run c m r ≤ run c n s → following c m r ≤ following c n s
following_from c m n r s le =
    let more : c.log_file_pages * run c m r ≤ c.log_file_pages * run c n s = mul-le-mul_left c.log_file_pages le in
    omega (arith, following_is c m r, following_is c n s, more)

-- the files that follow are others than the current one
pub behind_differs : (c : Config) (r : Ring) (k : ℕ) → 0 < k → k < c.log_files → (file_behind c r k == file_of c r.uniq) ≡ false
behind_differs c r k some less = other_remainder (r.uniq - 1) k c.log_files some less

-- where the other files hold the same uses, the same follows
pub run_kept : (c : Config) (m : Reuse) (r s : Ring) → file_of c s.uniq ≡ file_of c r.uniq → ((file : ℕ) → (file == file_of c r.uniq) ≡ false → use_in_file c s file ≡ use_in_file c r file)
    → following c m r ≤ following c m s
run_kept c m r s same kept =
    following_from c m m r s
    (run_le (is_reusable c m r) (is_reusable c m s) (file_behind c r) (file_behind c s) 1 1 (c.log_files - 1) (λ i lt passes. at i lt passes))
  where
    at : (i : ℕ) → i < c.log_files - 1 → is_reusable c m r (file_behind c r (1 + i)) ≡ true → is_reusable c m s (file_behind c s (1 + i)) ≡ true
    at i lt passes =
        let file = file_behind c r (1 + i) in
        let held_there = kept file (behind_differs c r (1 + i) (omega arith) (omega (arith, lt))) in
        let there : is_reusable c m s file ≡ true = ap (λ (o : Option Use). may_reuse m o) held_there ∙ passes in
        subst (λ (n : ℕ). is_reusable c m s ((n + (1 + i)) % c.log_files) ≡ true) (sym same) there
