-- The pages that a ring has stand with the heads that it has: how each step keeps that, and what is found for a position.
use Rattle.std.specs.List.{AllByRecursion, find, list_any}
use Rattle.std.specs.Prelude.{Bool, List, Some, [], false, filter, flat_map, fold, if◌then◌else◌, map, not, true, ℕ, ◌&&◌, ◌++◌, ◌==◌, ◌∷◌, ◌≡◌}
use Rattle.std.proofs.Common.{ap, cond, refl, subst, sym, ◌∙◌}
use Rattle.std.proofs.lemmas.Bool.{eqb-true}
use Rattle.ol_values.specs.Config.{Config, log_pages}
use Rattle.ol_values.specs.LogPages.{LogPage}
use Rattle.ol_record.specs.LogPages.{head_of}
use Rattle.ol_record.specs.declared.head.LogHead.{LogHead}
use Rattle.ol_rules.specs.DiskValue.{OpenLog}
use Rattle.ol_rules.specs.Ring.{file_of}
use Rattle.ol_chunks.specs.Places.{log_area}
use Rattle.ol_chunks.specs.declared.table.Area.{Area}
use Rattle.ol_log_places.specs.Places.{Place}
use Rattle.ol_log_places.specs.Runs.{AllStand, Stands}
use Rattle.ol_log_places.specs.Scanning.{stood_of}
use Rattle.ol_log_state.specs.Files.{entered, extended, next_page, use_with_head}
use Rattle.ol_log_state.specs.RingState.{RingState, page_to_write, turned}
use Rattle.ol_log_state.specs.StoredFiles.{heads_in}
use Rattle.ol_log_state.specs.Uses.{HeldUse, closed_use, fresh, with_head}
use Rattle.ol_log_state.proofs.ListLaws.{all_found, all_pushed, all_wider}
use Rattle.ol_loglog.specs.Ready.{HasItsPage, HasItsPages, is_entered, next_file}

-- ---- lists

filter_all : {X : Type 0} (P Q : X → Type 0) (test : X → Bool) (items : List X) → ((x : X) → test x ≡ true → P x → Q x) → AllByRecursion P items → AllByRecursion Q (filter test items)
filter_all P Q test [] wider all = tt
filter_all P Q test (x ∷ items) wider all =
    elim (test x) as (λ b. test x ≡ b → AllByRecursion Q (cond b (x ∷ filter test items) (filter test items))) [
      | true ↦ λ is. (wider x is all.0, filter_all P Q test items wider all.1)
      | false ↦ λ is. filter_all P Q test items wider all.1
    ] refl

appended_all : {X : Type 0} (P : X → Type 0) (items more : List X) → AllByRecursion P items → AllByRecursion P more → AllByRecursion P (items ++ more)
appended_all P [] more all rest = rest
appended_all P (x ∷ items) more all rest = (all.0, appended_all P items more all.1 rest)

-- ---- uses whose pages stand, but in lost files

-- no file is lost
abbrev pub none_lost : ℕ → Bool
none_lost file = false

abbrev pub Keeps : Config → (ℕ → Place) → (ℕ → Bool) → List HeldUse → Type 0
Keeps c r lost uses = AllByRecursion (λ (u : HeldUse). lost (file_of c u.uniq) ≡ false → HasItsPages c r u) uses

pub keeps_less : (c : Config) (r : ℕ → Place) (lost more : ℕ → Bool) (uses : List HeldUse) → ((file : ℕ) → more file ≡ false → lost file ≡ false) → Keeps c r lost uses → Keeps c r more uses
keeps_less c r lost more uses le kept =
    all_wider (λ (u : HeldUse). lost (file_of c u.uniq) ≡ false → HasItsPages c r u) (λ (u : HeldUse). more (file_of c u.uniq) ≡ false → HasItsPages c r u) uses (λ u has off. has (le (file_of c u.uniq) off)) kept

-- where the pages of other files stand still
pub keeps_placed : (c : Config) (r s : ℕ → Place) (lost : ℕ → Bool) (uses : List HeldUse) → ((p : LogPage) → lost (file_of c p.uniq) ≡ false → Stands r (log_pages c) p → Stands s (log_pages c) p) → Keeps c r lost uses → Keeps c s lost uses
keeps_placed c r s lost uses move kept =
    all_wider (λ (u : HeldUse). lost (file_of c u.uniq) ≡ false → HasItsPages c r u) (λ (u : HeldUse). lost (file_of c u.uniq) ≡ false → HasItsPages c s u) uses
    (λ u has off. all_wider (HasItsPage c r u.uniq) (HasItsPage c s u.uniq) u.heads
    (λ h its. (its.0, move its.0 (ap (λ n. lost (file_of c n)) its.2 ∙ off) its.1, its.2, its.3)) (has off)) kept

-- the current file is closed
pub keeps_switched : (c : Config) (r : ℕ → Place) (lost : ℕ → Bool) (uniq : ℕ) (uses : List HeldUse) → Keeps c r lost uses → Keeps c r lost (map (λ (u : HeldUse). if u.uniq == uniq then closed_use u else u) uses)
keeps_switched c r lost uniq [] kept = tt
keeps_switched c r lost uniq (u ∷ uses) kept = (
  elim (u.uniq == uniq) as (λ b. lost (file_of c (let x : HeldUse = (if b then closed_use u else u) in x).uniq) ≡ false → HasItsPages c r (let x : HeldUse = (if b then closed_use u else u) in x)) [ true ↦ kept.0 | false ↦ kept.0 ],
  keeps_switched c r lost uniq uses kept.1,
)

-- ---- a page more

pub keeps_extended : (c : Config) (r : ℕ → Place) (lost : ℕ → Bool) (uniq : ℕ) (h : LogHead) (uses : List HeldUse) → HasItsPage c r uniq h → Keeps c r lost uses → Keeps c r lost (extended uniq h uses)
keeps_extended c r lost uniq h [] mine kept = tt
keeps_extended c r lost uniq h (u ∷ uses) mine kept = (
  elim (u.uniq == uniq) as (λ b. (u.uniq == uniq) ≡ b → lost (file_of c (let x : HeldUse = (if b then with_head h u else u) in x).uniq) ≡ false → HasItsPages c r (let x : HeldUse = (if b then with_head h u else u) in x)) [
    | true ↦ λ same off. all_pushed (HasItsPage c r u.uniq) u.heads h (kept.0 off) (subst (λ n. HasItsPage c r n h) (sym (eqb-true u.uniq uniq same)) mine)
    | false ↦ λ other off. kept.0 off
  ] refl,
  keeps_extended c r lost uniq h uses mine kept.1,
)

not_true : (b : Bool) → not b ≡ true → b ≡ false
not_true true e = absurd (let clash : false ≡ true = e in cc)
not_true false e = refl

keeps_entered : (c : Config) (r : ℕ → Place) (lost : ℕ → Bool) (uniq : ℕ) (h : LogHead) (uses : List HeldUse) → ((file : ℕ) → (file == file_of c uniq) ≡ false → lost file ≡ false) → HasItsPage c r uniq h → Keeps c r lost uses → Keeps c r none_lost (entered (log_area c) uniq h uses)
keeps_entered c r lost uniq h uses others mine kept =
    appended_all (λ (u : HeldUse). none_lost (file_of c u.uniq) ≡ false → HasItsPages c r u) _ (with_head h (fresh uniq) ∷ [])
    (filter_all (λ (u : HeldUse). lost (file_of c u.uniq) ≡ false → HasItsPages c r u) (λ (u : HeldUse). none_lost (file_of c u.uniq) ≡ false → HasItsPages c r u) (λ (u : HeldUse). not (file_of c u.uniq == file_of c uniq)) uses
    (λ u apart has off. has (others (file_of c u.uniq) (not_true (file_of c u.uniq == file_of c uniq) apart))) kept)
    (λ off. (mine, tt), tt)

and_false : (a b : Bool) → b ≡ false → (a && b) ≡ false
and_false true b e = e
and_false false b e = refl

-- the buffered records become a page that stands
pub keeps_turned : (c : Config) (s : RingState) (r : ℕ → Place) → s.files.area ≡ log_area c → HasItsPage c r (next_page s.files).uniq (head_of (page_to_write s)) → Keeps c r (is_entered c s) s.files.uses → Keeps c r none_lost (turned s).files.uses
keeps_turned c s r area mine kept = by_form (next_page s.files).enters refl
  where
    by_form : (b : Bool) → (next_page s.files).enters ≡ b → Keeps c r none_lost (let uses : List HeldUse = (if b then entered s.files.area (next_page s.files).uniq (head_of (page_to_write s)) s.files.uses else extended (next_page s.files).uniq (head_of (page_to_write s)) s.files.uses) in uses)
    by_form true is =
        subst (λ (a : Area). Keeps c r none_lost (entered a (next_page s.files).uniq (head_of (page_to_write s)) s.files.uses)) (sym area)
        (keeps_entered c r (is_entered c s) (next_page s.files).uniq (head_of (page_to_write s)) s.files.uses (λ file apart. and_false (next_page s.files).enters (file == next_file c s) apart) mine kept)
    by_form false is =
        keeps_extended c r none_lost (next_page s.files).uniq (head_of (page_to_write s)) s.files.uses mine
        (keeps_less c r (is_entered c s) none_lost s.files.uses (λ file off. ap (λ b. b && (file == next_file c s)) is) kept)

-- ---- an opening

keeps_one : (c : Config) (r : ℕ → Place) (h : LogHead) (uses : List HeldUse) → HasItsPage c r h.uniq h → Keeps c r none_lost uses → Keeps c r none_lost (use_with_head uses h)
keeps_one c r h uses mine kept =
    elim (list_any (λ (u : HeldUse). u.uniq == h.uniq) uses) as (λ b. Keeps c r none_lost (let x : List HeldUse = (if b then extended h.uniq h uses else uses ++ with_head h (fresh h.uniq) ∷ []) in x)) [
      | true ↦ keeps_extended c r none_lost h.uniq h uses mine kept
      | false ↦ all_pushed (λ (u : HeldUse). none_lost (file_of c u.uniq) ≡ false → HasItsPages c r u) uses (with_head h (fresh h.uniq)) kept (λ off. (mine, tt))
    ]

pub keeps_run : (c : Config) (r : ℕ → Place) (run : List OpenLog) (uses : List HeldUse) → AllStand c r (log_pages c) run → Keeps c r none_lost uses → Keeps c r none_lost (fold use_with_head uses (heads_in (map (stood_of c) run)))
unfolding AllStand
keeps_run c r [] uses all kept = kept
keeps_run c r (l ∷ run) uses all kept = keeps_run c r run (use_with_head uses (head_of l.page)) all.1 (keeps_one c r (head_of l.page) uses (l.page, all.0.0, refl, refl) kept)

-- ---- what is found

-- a page of this head stands
abbrev pub HasStanding : Config → (ℕ → Place) → LogHead → Type 0
HasStanding c r h = (p : LogPage) × Stands r (log_pages c) p × (head_of p ≡ h)

heads_stand : (c : Config) (r : ℕ → Place) (uses : List HeldUse) → Keeps c r none_lost uses → AllByRecursion (HasStanding c r) (flat_map (λ (u : HeldUse). u.heads) uses)
heads_stand c r [] kept = tt
heads_stand c r (u ∷ uses) kept =
    appended_all (HasStanding c r) u.heads (flat_map (λ (w : HeldUse). w.heads) uses)
    (all_wider (HasItsPage c r u.uniq) (HasStanding c r) u.heads (λ h its. (its.0, its.1, its.3)) (kept.0 refl)) (heads_stand c r uses kept.1)

pub found_stands : (c : Config) (r : ℕ → Place) (test : LogHead → Bool) (uses : List HeldUse) (h : LogHead) → Keeps c r none_lost uses → find test (flat_map (λ (u : HeldUse). u.heads) uses) ≡ Some h → HasStanding c r h
found_stands c r test uses h kept found = all_found (HasStanding c r) test (flat_map (λ (u : HeldUse). u.heads) uses) h (heads_stand c r uses kept) found
