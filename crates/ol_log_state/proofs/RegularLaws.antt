-- What is needed of a regular ring stays in it.
use Rattle.std.specs.List.{AllByRecursion, find, last_or}
use Rattle.std.specs.Option.{option_or, unwrap_or}
use Rattle.std.specs.Prelude.{Bool, List, None, Option, Some, [], false, flat_map, if◌then◌else◌, is_some, map, nat_le, nat_lt, not, true, ℕ, ◌&&◌, ◌++◌, ◌+◌, ◌-◌, ◌<◌, ◌==◌, ◌∷◌, ◌≡◌, ◌≤◌}
use Rattle.std.proofs.Common.{ap, arith, cond, inl, inr, ne_eqb, refl, subst, sym, ◌∙◌}
use Rattle.std.proofs.Math.Bool.{and-false}
use Rattle.std.proofs.lemmas.Bool.{eq-eqb, eqb-false, eqb-true, le-ltb, lt-leb, ltb-true}
use Rattle.std.proofs.lemmas.Bool.Decides.{eqb_tells}
use Rattle.std.proofs.lemmas.Grind.{flat_map-append}
use Rattle.std.proofs.lemmas.List.Folds.{find-append}
use Rattle.ol_rules.specs.Ring.{LogRange, Reuse, Ring, Use, at_use, file_of, holds_position, last_of_range, last_position, last_range, may_reuse, no_range, open_use, room, switched_off, use_numbered, with_page_in, with_range, without_file}
use Rattle.ol_values.specs.Config.{Config}
use Rattle.ol_log_state.specs.declared.places.NextPage.{NextPage}
use Rattle.ol_log_state.specs.Files.{page_behind}
use Rattle.ol_log_state.specs.Regular.{EndBefore, EndsWithLast, HaveFiles, IsRegular, OthersEndBefore}
use Rattle.ol_log_state.proofs.ListLaws.{all_filtered, all_pushed, all_wider}
use Rattle.ol_log_state.proofs.NextLaws.{page_leaves, page_reuses}
use Rattle.ol_log_state.proofs.RingLaws.{page_in_new, page_in_old}

abbrev pages_of : List Use → List LogRange
pages_of uses = flat_map (λ (u : Use). u.pages) uses

or_none : {X : Type 0} (o : Option X) → option_or o None ≡ o
or_none None = refl
or_none (Some x) = refl

none_holds : (x bound : ℕ) (pages : List LogRange) → AllByRecursion (λ (p : LogRange). p.first + p.count ≤ bound) pages → bound ≤ x → find (holds_position x) pages ≡ None
none_holds x bound [] all le = refl
none_holds x bound (p ∷ pages) all le =
    let off : holds_position x p ≡ false = ap (λ b. nat_le p.first x && b) (le-ltb x (p.first + p.count) (omega (arith, all.0, le))) ∙ and-false (nat_le p.first x) in
    ap (λ b. cond b (Some p) (find (holds_position x) pages)) off ∙ none_holds x bound pages all.1 le

-- ---- a file is taken over

-- a use in this file ends before a position
abbrev EndsThere : Config → ℕ → ℕ → Use → Type 0
EndsThere c file x v = (file_of c v.uniq == file) ≡ true → last_position v < x

stays : (c : Config) (file x : ℕ) (uses : List Use) → AllByRecursion EndsWithLast uses → AllByRecursion (EndsThere c file x) uses → find (holds_position x) (pages_of (without_file c file uses)) ≡ find (holds_position x) (pages_of uses)
stays c file x [] ends there = refl
stays c file x (u ∷ uses) ends there =
    let rest = stays c file x uses ends.1 there.1 in
    elim (file_of c u.uniq == file) as (λ b. (file_of c u.uniq == file) ≡ b → find (holds_position x) (pages_of (cond (not b) (u ∷ without_file c file uses) (without_file c file uses))) ≡ find (holds_position x) (u.pages ++ pages_of uses)) [
      | true ↦ λ t. rest ∙ sym (find-append (holds_position x) u.pages (pages_of uses) ∙ ap (λ o. option_or o (find (holds_position x) (pages_of uses))) (none_holds x (last_position u + 1) u.pages ends.0 (omega (arith, there.0 t))))
      | false ↦ λ t. find-append (holds_position x) u.pages (pages_of (without_file c file uses)) ∙ ap (λ o. option_or (find (holds_position x) u.pages) o) rest ∙ sym (find-append (holds_position x) u.pages (pages_of uses))
    ] refl

new_off : (x index first count : ℕ) → x < first → find (holds_position x) ((let p : LogRange = record { index = index; first = first; count = count } in p) ∷ []) ≡ None
new_off x index first count before = ap (λ b. cond (b && nat_lt x (first + count)) (Some (let p : LogRange = record { index = index; first = first; count = count } in p)) None) (lt-leb first x before)

open_stays : (c : Config) (r : Ring) (uniq first count x : ℕ) → AllByRecursion EndsWithLast r.uses → AllByRecursion (EndsThere c (file_of c uniq) x) r.uses → x < first
    → find (holds_position x) (pages_of (open_use c r uniq first count).uses) ≡ find (holds_position x) (pages_of r.uses)
open_stays c r uniq first count x ends there before =
    let left = without_file c (file_of c uniq) r.uses in
    let new : Use = record { uniq = uniq; pages = (let p : LogRange = record { index = 0; first = first; count = count } in p ∷ []); switched = false } in
    ap (λ l. find (holds_position x) l) (flat_map-append (λ (u : Use). u.pages) left (new ∷ []))
    ∙ find-append (holds_position x) (pages_of left) (pages_of (new ∷ []))
    ∙ ap (λ o. option_or (find (holds_position x) (pages_of left)) o) (new_off x 0 first count before)
    ∙ or_none (find (holds_position x) (pages_of left))
    ∙ stays c (file_of c uniq) x r.uses ends there

-- ---- a use has a page more

more_stays : (uniq first count x : ℕ) (uses : List Use) → x < first → find (holds_position x) (pages_of (map (λ (u : Use). if u.uniq == uniq then with_range first count u else u) uses)) ≡ find (holds_position x) (pages_of uses)
more_stays uniq first count x [] before = refl
more_stays uniq first count x (u ∷ uses) before =
    let rest = more_stays uniq first count x uses before in
    let others = map (λ (u : Use). if u.uniq == uniq then with_range first count u else u) uses in
    elim (u.uniq == uniq) as (λ b. find (holds_position x) ((let v : Use = (if b then with_range first count u else u) in v).pages ++ pages_of others) ≡ find (holds_position x) (u.pages ++ pages_of uses)) [
      | true ↦
          (let p : LogRange = record { index = (last_range u).index + 1; first = first; count = count } in
          find-append (holds_position x) (u.pages ++ p ∷ []) (pages_of others)
          ∙ ap (λ o. option_or o (find (holds_position x) (pages_of others))) (find-append (holds_position x) u.pages (p ∷ []) ∙ ap (λ o. option_or (find (holds_position x) u.pages) o) (new_off x ((last_range u).index + 1) first count before) ∙ or_none (find (holds_position x) u.pages))
          ∙ ap (λ o. option_or (find (holds_position x) u.pages) o) rest
          ∙ sym (find-append (holds_position x) u.pages (pages_of uses)))
      | false ↦
          find-append (holds_position x) u.pages (pages_of others) ∙ ap (λ o. option_or (find (holds_position x) u.pages) o) rest ∙ sym (find-append (holds_position x) u.pages (pages_of uses))
    ]

-- ---- which uses a file may lose

right_true : (a b : Bool) → (a && b) ≡ true → b ≡ true
right_true true b e = e
right_true false b e = absurd (let g : false ≡ true = e in cc)

-- the one use in a file that may be used again ends below what is needed
reused_ends : (c : Config) (m : Reuse) (file x : ℕ) (uses : List Use) → HaveFiles c uses → may_reuse m (find (λ (u : Use). file_of c u.uniq == file) uses) ≡ true → m.need ≤ x → AllByRecursion (EndsThere c file x) uses
reused_ends c m file x [] files reuse needed = tt
reused_ends c m file x (u ∷ uses) files reuse needed =
    elim (file_of c u.uniq == file) as (λ b. (file_of c u.uniq == file) ≡ b → may_reuse m (cond b (Some u) (find (λ (v : Use). file_of c v.uniq == file) uses)) ≡ true → EndsThere c file x u × AllByRecursion (EndsThere c file x) uses) [
      | true ↦ λ t is.
          (let low = ltb-true (last_position u) m.need (right_true (nat_le u.uniq m.backed) (nat_lt (last_position u) m.need) is) in
          (λ e. omega (arith, low, needed), all_wider (λ (v : Use). (file_of c v.uniq == file_of c u.uniq) ≡ false) (EndsThere c file x) uses (λ v off here. absurd (eqb-false (file_of c v.uniq) (file_of c u.uniq) off (eqb-true (file_of c v.uniq) file here ∙ sym (eqb-true (file_of c u.uniq) file t)))) files.0))
      | false ↦ λ t is. (λ e. absurd (let g : false ≡ true = sym t ∙ e in cc), reused_ends c m file x uses files.1 is needed)
    ] refl reuse

-- a use in another file than the current one is not the current one
others_end : (c : Config) (uniq file x : ℕ) (uses : List Use) → (file == file_of c uniq) ≡ false → AllByRecursion (λ (v : Use). (v.uniq == uniq) ≡ false → last_position v < x) uses → AllByRecursion (EndsThere c file x) uses
others_end c uniq file x uses off all =
    all_wider (λ (v : Use). (v.uniq == uniq) ≡ false → last_position v < x) (EndsThere c file x) uses
    (λ v ends here. elim (eqb_tells v.uniq uniq) [
      | inl same ↦ absurd (eqb-false file (file_of c uniq) off (sym (eqb-true (file_of c v.uniq) file here) ∙ ap (file_of c) same.1))
      | inr other ↦ ends other.0
    ]) all

-- ---- the page that is written next

-- a position that is needed, or that no other use reaches than the current one
pub needed_stays : (c : Config) (m : Reuse) (r : Ring) (first count x : ℕ) → IsRegular c r → 1 ≤ r.uniq → 2 ≤ c.log_files → 1 ≤ room c m r → m.need ≤ x → x < first
    → find (holds_position x) (pages_of (with_page_in c r (use_numbered r r.uniq) first count).uses) ≡ find (holds_position x) (pages_of r.uses)
needed_stays c m r first count x is uniq files some needed before =
    let o = use_numbered r r.uniq in
    let p = page_behind c r o in
    elim p.enters as (λ b. p.enters ≡ b → find (holds_position x) (pages_of (with_page_in c r o first count).uses) ≡ find (holds_position x) (pages_of r.uses)) [
      | true ↦ λ e.
          (let reuse = page_reuses c m r o p refl e some uniq files in
          ap (λ (s : Ring). find (holds_position x) (pages_of s.uses)) (page_in_new c r o p first count refl e).1
          ∙ open_stays c r p.uniq first count x is.ends (reused_ends c m (file_of c p.uniq) x r.uses is.files reuse needed) before)
      | false ↦ λ e.
          ap (λ (s : Ring). find (holds_position x) (pages_of s.uses)) (page_in_old c r o p first count refl e).1
          ∙ more_stays r.uniq first count x r.uses before
    ] refl

pub last_stays : (c : Config) (r : Ring) (first count x : ℕ) → IsRegular c r → 1 ≤ r.uniq → 2 ≤ c.log_files → is_some (use_numbered r r.uniq) ≡ true → OthersEndBefore r.uniq x r → x < first
    → find (holds_position x) (pages_of (with_page_in c r (use_numbered r r.uniq) first count).uses) ≡ find (holds_position x) (pages_of r.uses)
last_stays c r first count x is uniq files there others before =
    let o = use_numbered r r.uniq in
    let p = page_behind c r o in
    elim p.enters as (λ b. p.enters ≡ b → find (holds_position x) (pages_of (with_page_in c r o first count).uses) ≡ find (holds_position x) (pages_of r.uses)) [
      | true ↦ λ e.
          (let off = page_leaves c r o p refl e there uniq files in
          ap (λ (s : Ring). find (holds_position x) (pages_of s.uses)) (page_in_new c r o p first count refl e).1
          ∙ open_stays c r p.uniq first count x is.ends (others_end c r.uniq (file_of c p.uniq) x r.uses off others) before)
      | false ↦ λ e.
          ap (λ (s : Ring). find (holds_position x) (pages_of s.uses)) (page_in_old c r o p first count refl e).1
          ∙ more_stays r.uniq first count x r.uses before
    ] refl

-- ---- a regular ring stays one

have_pushed : (c : Config) (uses : List Use) (t : Use) → HaveFiles c uses → AllByRecursion (λ (v : Use). (file_of c v.uniq == file_of c t.uniq) ≡ false) uses → HaveFiles c (uses ++ t ∷ [])
have_pushed c [] t files off = (tt, tt)
have_pushed c (u ∷ uses) t files off =
    (all_pushed (λ (v : Use). (file_of c v.uniq == file_of c u.uniq) ≡ false) uses t files.0 (ne_eqb (file_of c t.uniq) (file_of c u.uniq) (λ e. eqb-false (file_of c u.uniq) (file_of c t.uniq) off.0 (sym e))), have_pushed c uses t files.1 off.1)

have_left : (c : Config) (file : ℕ) (uses : List Use) → HaveFiles c uses → HaveFiles c (without_file c file uses)
have_left c file [] files = tt
have_left c file (u ∷ uses) files =
    elim (file_of c u.uniq == file) as (λ b. HaveFiles c (cond (not b) (u ∷ without_file c file uses) (without_file c file uses))) [
      | true ↦ have_left c file uses files.1
      | false ↦ (all_filtered (λ (v : Use). (file_of c v.uniq == file_of c u.uniq) ≡ false) (λ (v : Use). not (file_of c v.uniq == file)) uses files.0, have_left c file uses files.1)
    ]

off_left : (c : Config) (file : ℕ) (uses : List Use) → AllByRecursion (λ (v : Use). (file_of c v.uniq == file) ≡ false) (without_file c file uses)
off_left c file [] = tt
off_left c file (u ∷ uses) =
    elim (file_of c u.uniq == file) as (λ b. (file_of c u.uniq == file) ≡ b → AllByRecursion (λ (v : Use). (file_of c v.uniq == file) ≡ false) (cond (not b) (u ∷ without_file c file uses) (without_file c file uses))) [
      | true ↦ λ t. off_left c file uses
      | false ↦ λ t. (t, off_left c file uses)
    ] refl

open_regular : (c : Config) (r : Ring) (uniq first count : ℕ) → IsRegular c r → 1 ≤ count → IsRegular c (open_use c r uniq first count)
open_regular c r uniq first count is some =
    let left = without_file c (file_of c uniq) r.uses in
    let new : Use = record { uniq = uniq; pages = (let p : LogRange = record { index = 0; first = first; count = count } in p ∷ []); switched = false } in
    record {
      files = have_pushed c left new (have_left c (file_of c uniq) r.uses is.files) (off_left c (file_of c uniq) r.uses);
      ends = all_pushed EndsWithLast left new (all_filtered EndsWithLast (λ (v : Use). not (file_of c v.uniq == file_of c uniq)) r.uses is.ends) (omega (arith, some), tt);
    }

last_pages : (o : Option LogRange) (pages : List LogRange) (p : LogRange) → unwrap_or (last_or o (pages ++ p ∷ [])) no_range ≡ p
last_pages o [] p = refl
last_pages o (q ∷ pages) p = last_pages (Some q) pages p

-- the last position of a use with a page more
last_more : (first count : ℕ) (u : Use) → last_position (with_range first count u) ≡ first + count - 1
last_more first count u = ap last_of_range (last_pages None u.pages (record { index = (last_range u).index + 1; first = first; count = count }))

more_ends : (first count : ℕ) (u : Use) → EndsWithLast u → last_position u < first → 1 ≤ count → EndsWithLast (with_range first count u)
more_ends first count u ends before some =
    let p : LogRange = record { index = (last_range u).index + 1; first = first; count = count } in
    let last = last_more first count u in
    all_pushed (λ (q : LogRange). q.first + q.count ≤ last_position (with_range first count u) + 1) u.pages p
    (all_wider (λ (q : LogRange). q.first + q.count ≤ last_position u + 1) (λ (q : LogRange). q.first + q.count ≤ last_position (with_range first count u) + 1) u.pages (λ q le. omega (arith, le, last, before, some)) ends)
    (omega (arith, last, some))

same_files : (c : Config) (n uniq : ℕ) (f : Use → Use) (uses : List Use) → ((u : Use) → (f u).uniq ≡ u.uniq) → AllByRecursion (λ (v : Use). (file_of c v.uniq == file_of c n) ≡ false) uses → AllByRecursion (λ (v : Use). (file_of c v.uniq == file_of c n) ≡ false) (map (λ (u : Use). if u.uniq == uniq then f u else u) uses)
same_files c n uniq f [] same all = tt
same_files c n uniq f (u ∷ uses) same all =
    (elim (u.uniq == uniq) as (λ b. (file_of c (let v : Use = (if b then f u else u) in v).uniq == file_of c n) ≡ false) [ true ↦ subst (λ m. (file_of c m == file_of c n) ≡ false) (sym (same u)) all.0 | false ↦ all.0 ], same_files c n uniq f uses same all.1)

have_changed : (c : Config) (uniq : ℕ) (f : Use → Use) (uses : List Use) → ((u : Use) → (f u).uniq ≡ u.uniq) → HaveFiles c uses → HaveFiles c (map (λ (u : Use). if u.uniq == uniq then f u else u) uses)
have_changed c uniq f [] same files = tt
have_changed c uniq f (u ∷ uses) same files =
    let rest = have_changed c uniq f uses same files.1 in
    elim (u.uniq == uniq) as (λ b. HaveFiles c ((let v : Use = (if b then f u else u) in v) ∷ map (λ (u : Use). if u.uniq == uniq then f u else u) uses)) [
      | true ↦ (subst (λ m. AllByRecursion (λ (v : Use). (file_of c v.uniq == file_of c m) ≡ false) (map (λ (u : Use). if u.uniq == uniq then f u else u) uses)) (sym (same u)) (same_files c u.uniq uniq f uses same files.0), rest)
      | false ↦ (same_files c u.uniq uniq f uses same files.0, rest)
    ]

all_changed : (P Q : Use → Type 0) (uniq : ℕ) (f : Use → Use) (uses : List Use) → ((u : Use) → P u → Q (f u)) → ((u : Use) → P u → Q u) → AllByRecursion P uses → AllByRecursion Q (map (λ (u : Use). if u.uniq == uniq then f u else u) uses)
all_changed P Q uniq f [] step keep all = tt
all_changed P Q uniq f (u ∷ uses) step keep all =
    (elim (u.uniq == uniq) as (λ b. Q (if b then f u else u)) [ true ↦ step u all.0 | false ↦ keep u all.0 ], all_changed P Q uniq f uses step keep all.1)

all_both : {X : Type 0} (P Q : X → Type 0) (items : List X) → AllByRecursion P items → AllByRecursion Q items → AllByRecursion (λ x. P x × Q x) items
all_both P Q [] a b = tt
all_both P Q (x ∷ items) a b = ((a.0, b.0), all_both P Q items a.1 b.1)

more_regular : (c : Config) (r : Ring) (uniq first count : ℕ) → IsRegular c r → 1 ≤ count → EndBefore first r → IsRegular c (at_use uniq (with_range first count) r)
more_regular c r uniq first count is some before = record {
  files = have_changed c uniq (with_range first count) r.uses (λ u. refl) is.files;
  ends = all_changed (λ (u : Use). EndsWithLast u × (last_position u < first)) EndsWithLast uniq (with_range first count) r.uses (λ u both. more_ends first count u both.0 both.1 some) (λ u both. both.0) (all_both EndsWithLast (λ (u : Use). last_position u < first) r.uses is.ends before);
}

pub page_regular : (c : Config) (r : Ring) (first count : ℕ) → IsRegular c r → 1 ≤ count → EndBefore first r → IsRegular c (with_page_in c r (use_numbered r r.uniq) first count)
page_regular c r first count is some before =
    let o = use_numbered r r.uniq in
    let p = page_behind c r o in
    elim p.enters as (λ b. p.enters ≡ b → IsRegular c (with_page_in c r o first count)) [
      | true ↦ λ e. subst (IsRegular c) (sym (page_in_new c r o p first count refl e).1) (open_regular c r p.uniq first count is some)
      | false ↦ λ e. subst (IsRegular c) (sym (page_in_old c r o p first count refl e).1) (more_regular c r r.uniq first count is some before)
    ] refl

-- a new page is behind all others
pub page_ends : (c : Config) (r : Ring) (first count : ℕ) → 1 ≤ count → EndBefore first r → EndBefore (first + count) (with_page_in c r (use_numbered r r.uniq) first count)
page_ends c r first count some before =
    let o = use_numbered r r.uniq in
    let p = page_behind c r o in
    let wider = all_wider (λ (v : Use). last_position v < first) (λ (v : Use). last_position v < first + count) in
    elim p.enters as (λ b. p.enters ≡ b → EndBefore (first + count) (with_page_in c r o first count)) [
      | true ↦ λ e. subst (EndBefore (first + count)) (sym (page_in_new c r o p first count refl e).1)
          (let new : Use = record { uniq = p.uniq; pages = (let q : LogRange = record { index = 0; first = first; count = count } in q ∷ []); switched = false } in
          all_pushed (λ (v : Use). last_position v < first + count) (without_file c (file_of c p.uniq) r.uses) new
          (all_filtered (λ (v : Use). last_position v < first + count) (λ (v : Use). not (file_of c v.uniq == file_of c p.uniq)) r.uses (wider r.uses (λ v lt. omega (arith, lt)) before)) (omega (arith, some)))
      | false ↦ λ e. subst (EndBefore (first + count)) (sym (page_in_old c r o p first count refl e).1)
          (all_changed (λ (v : Use). last_position v < first) (λ (v : Use). last_position v < first + count) r.uniq (with_range first count) r.uses (λ u lt. omega (arith, last_more first count u, some)) (λ u lt. omega (arith, lt)) before)
    ] refl

pub switched_regular : (c : Config) (r : Ring) → IsRegular c r → IsRegular c (switched_off r)
switched_regular c r is = record {
  files = have_changed c r.uniq (λ (u : Use). record u { switched = true }) r.uses (λ u. refl) is.files;
  ends = all_changed EndsWithLast EndsWithLast r.uniq (λ (u : Use). record u { switched = true }) r.uses (λ u ends. ends) (λ u ends. ends) is.ends;
}

-- ---- the page that was written is in the current use, and no other use reaches so far

others_changed : (uniq x first : ℕ) (f : Use → Use) (uses : List Use) → ((u : Use) → (f u).uniq ≡ u.uniq) → first ≤ x → AllByRecursion (λ (v : Use). last_position v < first) uses
    → AllByRecursion (λ (v : Use). (v.uniq == uniq) ≡ false → last_position v < x) (map (λ (u : Use). if u.uniq == uniq then f u else u) uses)
others_changed uniq x first f [] same le all = tt
others_changed uniq x first f (u ∷ uses) same le all = (
  elim (u.uniq == uniq) as (λ b. (u.uniq == uniq) ≡ b → (let v : Use = (if b then f u else u) in (v.uniq == uniq) ≡ false → last_position v < x)) [
    | true ↦ λ t off. absurd (let g : true ≡ false = sym t ∙ ap (λ n. n == uniq) (sym (same u)) ∙ off in cc)
    | false ↦ λ t off. omega (arith, all.0, le)
  ] refl,
  others_changed uniq x first f uses same le all.1,
)

pub page_others : (c : Config) (r : Ring) (first count : ℕ) → 1 ≤ count → EndBefore first r → (let s = with_page_in c r (use_numbered r r.uniq) first count in OthersEndBefore s.uniq (first + count - 1) s)
page_others c r first count some before =
    let o = use_numbered r r.uniq in
    let p = page_behind c r o in
    elim p.enters as (λ b. p.enters ≡ b → OthersEndBefore (with_page_in c r o first count).uniq (first + count - 1) (with_page_in c r o first count)) [
      | true ↦ λ e. subst (λ (s : Ring). OthersEndBefore s.uniq (first + count - 1) s) (sym (page_in_new c r o p first count refl e).1)
          (let new : Use = record { uniq = p.uniq; pages = (let q : LogRange = record { index = 0; first = first; count = count } in q ∷ []); switched = false } in
          all_pushed (λ (v : Use). (v.uniq == p.uniq) ≡ false → last_position v < first + count - 1) (without_file c (file_of c p.uniq) r.uses) new
          (all_filtered (λ (v : Use). (v.uniq == p.uniq) ≡ false → last_position v < first + count - 1) (λ (v : Use). not (file_of c v.uniq == file_of c p.uniq)) r.uses
          (all_wider (λ (v : Use). last_position v < first) (λ (v : Use). (v.uniq == p.uniq) ≡ false → last_position v < first + count - 1) r.uses (λ v lt off. omega (arith, lt, some)) before))
          (λ off. absurd (eqb-false p.uniq p.uniq off refl)))
      | false ↦ λ e. subst (λ (s : Ring). OthersEndBefore s.uniq (first + count - 1) s) (sym (page_in_old c r o p first count refl e).1)
          (others_changed r.uniq (first + count - 1) first (with_range first count) r.uses (λ u. refl) (omega (arith, some)) before)
    ] refl

found_new : (uniq : ℕ) (uses : List Use) (t : Use) → (t.uniq == uniq) ≡ true → is_some (find (λ (u : Use). u.uniq == uniq) (uses ++ t ∷ [])) ≡ true
found_new uniq [] t e = ap (λ b. is_some (cond b (Some t) None)) e
found_new uniq (u ∷ uses) t e =
    elim (u.uniq == uniq) as (λ b. is_some (cond b (Some u) (find (λ (v : Use). v.uniq == uniq) (uses ++ t ∷ []))) ≡ true) [ true ↦ refl | false ↦ found_new uniq uses t e ]

found_changed : (uniq : ℕ) (f : Use → Use) (uses : List Use) → ((u : Use) → (f u).uniq ≡ u.uniq) → is_some (find (λ (u : Use). u.uniq == uniq) (map (λ (u : Use). if u.uniq == uniq then f u else u) uses)) ≡ is_some (find (λ (u : Use). u.uniq == uniq) uses)
found_changed uniq f [] same = refl
found_changed uniq f (u ∷ uses) same =
    let rest = found_changed uniq f uses same in
    let others = map (λ (u : Use). if u.uniq == uniq then f u else u) uses in
    elim (u.uniq == uniq) as (λ b. (u.uniq == uniq) ≡ b → is_some (let v : Use = (if b then f u else u) in cond (v.uniq == uniq) (Some v) (find (λ (v : Use). v.uniq == uniq) others)) ≡ is_some (cond b (Some u) (find (λ (v : Use). v.uniq == uniq) uses))) [
      | true ↦ λ t. ap (λ b. is_some (cond b (Some (f u)) (find (λ (v : Use). v.uniq == uniq) others))) (ap (λ n. n == uniq) (same u) ∙ t)
      | false ↦ λ t. ap (λ b. is_some (cond b (Some u) (find (λ (v : Use). v.uniq == uniq) others))) t ∙ rest
    ] refl

page_there_old : (c : Config) (r : Ring) (o : Option Use) (p : NextPage) → page_behind c r o ≡ p → p.enters ≡ false → is_some o ≡ true
page_there_old c r None p e stay = absurd (let g : true ≡ false = ap (λ (q : NextPage). q.enters) e ∙ stay in cc)
page_there_old c r (Some u) p e stay = refl

pub page_there : (c : Config) (r : Ring) (first count : ℕ) → (let s = with_page_in c r (use_numbered r r.uniq) first count in is_some (use_numbered s s.uniq) ≡ true)
page_there c r first count =
    let o = use_numbered r r.uniq in
    let p = page_behind c r o in
    elim p.enters as (λ b. p.enters ≡ b → is_some (use_numbered (with_page_in c r o first count) (with_page_in c r o first count).uniq) ≡ true) [
      | true ↦ λ e. subst (λ (s : Ring). is_some (use_numbered s s.uniq) ≡ true) (sym (page_in_new c r o p first count refl e).1)
          (let new : Use = record { uniq = p.uniq; pages = (let q : LogRange = record { index = 0; first = first; count = count } in q ∷ []); switched = false } in
          found_new p.uniq (without_file c (file_of c p.uniq) r.uses) new (eq-eqb p.uniq p.uniq refl))
      | false ↦ λ e. subst (λ (s : Ring). is_some (use_numbered s s.uniq) ≡ true) (sym (page_in_old c r o p first count refl e).1)
          (found_changed r.uniq (with_range first count) r.uses (λ u. refl) ∙ page_there_old c r o p refl e)
    ] refl
