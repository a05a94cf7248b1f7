-- A new use takes its file over.
use Rattle.std.specs.List.{AllByRecursion, find}
use Rattle.std.specs.Prelude.{Bool, List, None, Option, Some, [], false, filter, if◌then◌else◌, length, map, not, suc, true, zero, ℕ, ◌%◌, ◌||◌, ◌++◌, ◌+◌, ◌-◌, ◌<◌, ◌==◌, ◌∷◌, ◌≡◌, ◌≤◌, ◌⊎◌}
use Rattle.std.proofs.Common.{ap, arith, cond, inl, inr, ne_eqb, refl, subst, sym, ◌∙◌}
use Rattle.std.proofs.lemmas.Bool.{eqb-false}
use Rattle.std.proofs.lemmas.Bool.Decides.{eqb_tells}
use Rattle.std.proofs.lemmas.List.{length-map}
use Rattle.std.proofs.lemmas.List.Folds.{list_any-append}
use Rattle.ol_record.specs.declared.head.LogHead.{LogHead}
use Rattle.ol_rules.specs.Ring.{Ring, Use, is_closed, last_range}
use Rattle.ol_values.specs.Config.{Config}
use Rattle.ol_log_state.specs.declared.log_files.LogFiles.TheInside.{Inside}
use Rattle.ol_log_state.specs.declared.places.NextPage.{NextPage}
use Rattle.ol_log_state.specs.Files.{current_use, log_config, next_page, page_behind, ring_in}
use Rattle.ol_log_state.specs.StoredFiles.{AreApart, AreNumbered, IsLogFiles, IsRoomy, IsSpare, failing, files_in, helds, is_taken, uniqs}
use Rattle.ol_log_state.specs.Uses.{HeldUse, Stored, emptied, pushed, use_of}
use Rattle.ol_log_state.proofs.ListLaws.{all_filtered, all_pushed, all_wider}

-- ---- how many files are not taken

failing_same : (p q : ℕ → Bool) (n : ℕ) → ((k : ℕ) → k < n → q k ≡ p k) → failing q n ≡ failing p n
unfolding failing
failing_same p q zero same = refl
failing_same p q (suc n) same =
    ap (λ b. (if b then 0 else 1) + failing q n) (same n (omega arith)) ∙ ap (λ m. (if p n then 0 else 1) + m) (failing_same p q n (λ k below. same k (omega arith)))

-- one file more is taken, if it was not
failing_less : (p q : ℕ → Bool) (f n : ℕ) → f < n → q f ≡ true → ((k : ℕ) → (k == f) ≡ false → q k ≡ p k) → failing q n + (if p f then 0 else 1) ≡ failing p n
unfolding failing
failing_less p q f zero below taken same = absurd (omega arith)
failing_less p q f (suc n) below taken same =
    elim (eqb_tells n f) [
      | inl here ↦
          (let rest = failing_same p q n (λ k under. same k (ne_eqb k f (λ e. omega (arith, under, here.1, e)))) in
          let now : (if q n then 0 else 1) ≡ 0 = ap (λ b. (let m : ℕ = (if b then 0 else 1) in m)) (ap q here.1 ∙ taken) in
          let was : (if p f then 0 else 1) ≡ (if p n then 0 else 1) = ap (λ k. (let m : ℕ = (if p k then 0 else 1) in m)) (sym here.1) in
          omega (arith, rest, now, was))
      | inr off ↦
          (let rest = failing_less p q f n (omega (arith, below, off.1)) taken same in
          let now : (if q n then 0 else 1) ≡ (if p n then 0 else 1) = ap (λ b. (let m : ℕ = (if b then 0 else 1) in m)) (same n off.0) in
          omega (arith, rest, now))
    ]

-- the numbers that a new use leaves, and its own
abbrev pub numbers_left : ℕ → ℕ → List ℕ → List ℕ
numbers_left files file numbers = filter (λ n. not (((n - 1) % files) == file)) numbers

left_taken : (files file k : ℕ) (numbers : List ℕ) → (k == file) ≡ false → is_taken files (numbers_left files file numbers) k ≡ is_taken files numbers k
left_taken files file k [] off = refl
left_taken files file k (n ∷ numbers) off =
    elim (eqb_tells ((n - 1) % files) file) [
      | inl here ↦
          (let gone = ap (λ b. is_taken files (cond (not b) (n ∷ numbers_left files file numbers) (numbers_left files file numbers)) k) here.0 in
          let not_here : ((n - 1) % files == k) ≡ false = ne_eqb ((n - 1) % files) k (λ e. eqb-false k file off (sym e ∙ here.1)) in
          gone ∙ left_taken files file k numbers off ∙ sym (ap (λ b. b || is_taken files numbers k) not_here))
      | inr other ↦
          ap (λ b. is_taken files (cond (not b) (n ∷ numbers_left files file numbers) (numbers_left files file numbers)) k) other.0
          ∙ ap (λ b. ((n - 1) % files == k) || b) (left_taken files file k numbers off)
    ]

or_none : (b : Bool) → (b || false) ≡ b
or_none true = refl
or_none false = refl

or_true : (b : Bool) → (b || true) ≡ true
or_true true = refl
or_true false = refl

same_number : (n : ℕ) → (n == n) ≡ true
same_number n = elim (eqb_tells n n) [ inl is ↦ is.0 | inr off ↦ absurd (off.1 refl) ]

at_most_length : (files file : ℕ) (numbers : List ℕ) → length (numbers_left files file numbers) ≤ length numbers
at_most_length files file [] = omega arith
at_most_length files file (n ∷ numbers) =
    let rest = at_most_length files file numbers in
    elim ((n - 1) % files == file) as (λ b. length (cond (not b) (n ∷ numbers_left files file numbers) (numbers_left files file numbers)) ≤ length (n ∷ numbers)) [
      | true ↦ omega (arith, rest)
      | false ↦ omega (arith, rest)
    ]

-- a file is taken by a use, or one number fewer is left
fewer_left : (files file : ℕ) (numbers : List ℕ) → length (numbers_left files file numbers) + (if is_taken files numbers file then 1 else 0) ≤ length numbers
fewer_left files file [] = omega arith
fewer_left files file (n ∷ numbers) =
    let rest = fewer_left files file numbers in
    elim ((n - 1) % files == file) as (λ b. length (cond (not b) (n ∷ numbers_left files file numbers) (numbers_left files file numbers)) + (if b || is_taken files numbers file then 1 else 0) ≤ length (n ∷ numbers)) [
      | true ↦ omega (arith, at_most_length files file numbers)
      | false ↦ omega (arith, rest)
    ]

-- there is a spare use for the new one, and then still one for each file that is not taken
pub spare_left : (files uniq : ℕ) (numbers : List ℕ) → 1 ≤ files
    → failing (is_taken files (numbers_left files ((uniq - 1) % files) numbers ++ uniq ∷ [])) files + 1 + length (numbers_left files ((uniq - 1) % files) numbers) ≤ failing (is_taken files numbers) files + length numbers
spare_left files uniq numbers some =
    let file = (uniq - 1) % files in
    let left = numbers_left files file numbers in
    let test = (λ (k : ℕ) (n : ℕ). ((n - 1) % files) == k) in
    let taken : is_taken files (left ++ uniq ∷ []) file ≡ true =
    list_any-append (test file) left (uniq ∷ []) ∙ ap (λ b. is_taken files left file || (b || false)) (same_number file) ∙ or_true (is_taken files left file) in
    let others = failing_less (is_taken files numbers) (is_taken files (left ++ uniq ∷ [])) file files (omega arith) taken
    (λ k off. list_any-append (test k) left (uniq ∷ []) ∙ ap (λ b. is_taken files left k || (b || false)) (ne_eqb file k (λ e. eqb-false k file off (sym e))) ∙ or_none (is_taken files left k) ∙ left_taken files file k numbers off) in
    let fewer = fewer_left files file numbers in
    elim (is_taken files numbers file) as (λ b. failing (is_taken files (left ++ uniq ∷ [])) files + (if b then 0 else 1) ≡ failing (is_taken files numbers) files
    → length left + (if b then 1 else 0) ≤ length numbers
    → failing (is_taken files (left ++ uniq ∷ [])) files + 1 + length left ≤ failing (is_taken files numbers) files + length numbers) [
      | true ↦ λ o f. omega (arith, o, f)
      | false ↦ λ o f. omega (arith, o, f)
    ] others fewer

-- ---- the lists of uses

uniqs_entered : (files file : ℕ) (items : List Stored) (t : Stored)
    → uniqs (filter (λ (s : Stored). not (((s.held.uniq - 1) % files) == file)) items ++ t ∷ []) ≡ numbers_left files file (uniqs items) ++ t.held.uniq ∷ []
uniqs_entered files file [] t = refl
uniqs_entered files file (s ∷ items) t =
    let rest = uniqs_entered files file items t in
    elim (((s.held.uniq - 1) % files) == file) as (λ b. uniqs (cond (not b) (s ∷ filter (λ (s : Stored). not (((s.held.uniq - 1) % files) == file)) items) (filter (λ (s : Stored). not (((s.held.uniq - 1) % files) == file)) items) ++ t ∷ [])
    ≡ cond (not b) (s.held.uniq ∷ numbers_left files file (uniqs items)) (numbers_left files file (uniqs items)) ++ t.held.uniq ∷ []) [
      | true ↦ rest
      | false ↦ ap (λ l. s.held.uniq ∷ l) rest
    ]

pub helds_entered : (files file : ℕ) (items : List Stored) (t : Stored)
    → helds (filter (λ (s : Stored). not (((s.held.uniq - 1) % files) == file)) items ++ t ∷ []) ≡ filter (λ (u : HeldUse). not (((u.uniq - 1) % files) == file)) (helds items) ++ t.held ∷ []
helds_entered files file [] t = refl
helds_entered files file (s ∷ items) t =
    let rest = helds_entered files file items t in
    elim (((s.held.uniq - 1) % files) == file) as (λ b. helds (cond (not b) (s ∷ filter (λ (s : Stored). not (((s.held.uniq - 1) % files) == file)) items) (filter (λ (s : Stored). not (((s.held.uniq - 1) % files) == file)) items) ++ t ∷ [])
    ≡ cond (not b) (s.held ∷ filter (λ (u : HeldUse). not (((u.uniq - 1) % files) == file)) (helds items)) (filter (λ (u : HeldUse). not (((u.uniq - 1) % files) == file)) (helds items)) ++ t.held ∷ []) [
      | true ↦ rest
      | false ↦ ap (λ l. s.held ∷ l) rest
    ]

apart_filtered : (test : ℕ → Bool) (numbers : List ℕ) → AreApart numbers → AreApart (filter test numbers)
apart_filtered test [] apart = tt
apart_filtered test (n ∷ numbers) apart =
    elim (test n) as (λ b. AreApart (cond b (n ∷ filter test numbers) (filter test numbers))) [
      | true ↦ (all_filtered (λ m. (m == n) ≡ false) test numbers apart.0, apart_filtered test numbers apart.1)
      | false ↦ apart_filtered test numbers apart.1
    ]

apart_pushed : (numbers : List ℕ) (m : ℕ) → AreApart numbers → AllByRecursion (λ n. n < m) numbers → AreApart (numbers ++ m ∷ [])
apart_pushed [] m apart below = (tt, tt)
apart_pushed (n ∷ numbers) m apart below =
    (all_pushed (λ k. (k == n) ≡ false) numbers m apart.0 (ne_eqb m n (λ e. omega (arith, below.0, e))), apart_pushed numbers m apart.1 below.1)

length_uniqs : (items : List Stored) → length (uniqs items) ≡ length items
length_uniqs items = length-map items (λ (s : Stored). s.held.uniq)

-- where a new use took its file over, all are numbered again
pub numbered_entered : (files now uniq spares after : ℕ) (items : List Stored) (t : Stored) → 1 ≤ files → AreNumbered files now (uniqs items) spares → AllByRecursion (λ n. n < uniq) (uniqs items) → t.held.uniq ≡ uniq
    → length (numbers_left files ((uniq - 1) % files) (uniqs items)) + after + 1 ≡ length items + spares
    → AreNumbered files uniq (uniqs (filter (λ (s : Stored). not (((s.held.uniq - 1) % files) == ((uniq - 1) % files))) items ++ t ∷ [])) after
numbered_entered files now uniq spares after items t some is above same count =
    let file = (uniq - 1) % files in
    let left = numbers_left files file (uniqs items) in
    let below = all_filtered (λ n. n < uniq) (λ n. not (((n - 1) % files) == file)) (uniqs items) above in
    let fits = spare_left files uniq (uniqs items) some in
    let all : AreNumbered files uniq (left ++ uniq ∷ []) after = record {
      up_to = all_pushed (λ n. n ≤ uniq) left uniq (all_wider (λ n. n < uniq) (λ n. n ≤ uniq) left (λ n h. omega (arith, h)) below) (omega arith);
      apart = apart_pushed left uniq (apart_filtered (λ n. not (((n - 1) % files) == file)) (uniqs items) is.apart) below;
      enough = omega (arith, fits, count, is.enough, length_uniqs items);
    } in
    subst (λ l. AreNumbered files uniq l after) (sym (uniqs_entered files file items t ∙ ap (λ n. left ++ n ∷ []) same)) all

-- how many uses are left
pub count_left : (files file : ℕ) (items : List Stored) → length (numbers_left files file (uniqs items)) ≡ length (filter (λ (s : Stored). not (((s.held.uniq - 1) % files) == file)) items)
count_left files file [] = refl
count_left files file (s ∷ items) =
    let rest = count_left files file items in
    elim (((s.held.uniq - 1) % files) == file) as (λ b. length (cond (not b) (s.held.uniq ∷ numbers_left files file (uniqs items)) (numbers_left files file (uniqs items)))
    ≡ length (cond (not b) (s ∷ filter (λ (s : Stored). not (((s.held.uniq - 1) % files) == file)) items) (filter (λ (s : Stored). not (((s.held.uniq - 1) % files) == file)) items))) [
      | true ↦ rest
      | false ↦ omega (arith, rest)
    ]

-- a spare use is there
pub spare_there : (files now uniq spares after : ℕ) (items : List Stored) → 1 ≤ files → AreNumbered files now (uniqs items) spares
    → length (filter (λ (s : Stored). not (((s.held.uniq - 1) % files) == ((uniq - 1) % files))) items) + after ≡ length items + spares → 1 ≤ after
spare_there files now uniq spares after items some is count =
    omega (arith, spare_left files uniq (uniqs items) some, count, is.enough, length_uniqs items, count_left files ((uniq - 1) % files) items)

-- ---- the number of the new use

page_enters : (c : Config) (r : Ring) (o : Option Use) (p : NextPage) → page_behind c r o ≡ p → p.enters ≡ true → ((o ≡ None) × (p.uniq ≡ r.uniq)) ⊎ (p.uniq ≡ r.uniq + 1)
page_enters c r None p e enters = inl (refl, sym (ap (λ (q : NextPage). q.uniq) e))
page_enters c r (Some u) p e enters =
    elim (is_closed c r u) as (λ b. (let q : NextPage = (if b then record { uniq = r.uniq + 1; index = 0; enters = true } else record { uniq = r.uniq; index = (last_range u).index + 1; enters = false }) in q) ≡ p
    → ((Some u ≡ None) × (p.uniq ≡ r.uniq)) ⊎ (p.uniq ≡ r.uniq + 1)) [
      | true ↦ λ is. inr (sym (ap (λ (q : NextPage). q.uniq) is))
      | false ↦ λ is. absurd (let g : false ≡ true = ap (λ (q : NextPage). q.enters) is ∙ enters in cc)
    ] e

none_above : (uniq : ℕ) (items : List Stored) → find (λ (u : Use). u.uniq == uniq) (map use_of (helds items)) ≡ None → AllByRecursion (λ n. n ≤ uniq) (uniqs items) → AllByRecursion (λ n. n < uniq) (uniqs items)
none_above uniq [] none up_to = tt
none_above uniq (s ∷ items) none up_to =
    elim (eqb_tells s.held.uniq uniq) [
      | inl here ↦ absurd (let g : Some (use_of s.held) ≡ None = sym (ap (λ b. cond b (Some (use_of s.held)) (find (λ (u : Use). u.uniq == uniq) (map use_of (helds items)))) here.0) ∙ none in cc)
      | inr off ↦ (omega (arith, up_to.0, off.1), none_above uniq items (sym (ap (λ b. cond b (Some (use_of s.held)) (find (λ (u : Use). u.uniq == uniq) (map use_of (helds items)))) off.0) ∙ none) up_to.1)
    ]

-- all uses have lower numbers than the one that takes a file over
pub above : (f : Inside) (uniq : ℕ) → IsLogFiles f → next_page (files_in f) ≡ record { uniq = uniq; index = 0; enters = true } → AllByRecursion (λ n. n < uniq) (uniqs f.uses.items)
above f uniq is place =
    elim (page_enters (log_config f.area) (ring_in (files_in f)) (current_use (files_in f)) (record { uniq = uniq; index = 0; enters = true }) place refl) [
      | inl (none, same) ↦ subst (λ m. AllByRecursion (λ n. n < m) (uniqs f.uses.items)) (sym same) (none_above f.uniq f.uses.items none is.numbered.up_to)
      | inr more ↦ all_wider (λ n. n ≤ f.uniq) (λ n. n < uniq) (uniqs f.uses.items) (λ n h. omega (arith, h, more)) is.numbered.up_to
    ]

-- ---- memory

pub all_parted : {X : Type 0} (P : X → Type 0) (items : List X) (x : X) → AllByRecursion P (items ++ x ∷ []) → AllByRecursion P items × P x
all_parted P [] x all = (tt, all.0)
all_parted P (y ∷ items) x all = let rest = all_parted P items x all.1 in ((all.0, rest.0), rest.1)

-- a spare use with its first page
pub entered_roomy : (pages uniq : ℕ) (h : LogHead) (s : Stored) → 4 ≤ pages → IsSpare pages s → h.index ≡ 0 → IsRoomy pages (pushed h (emptied uniq s))
entered_roomy pages uniq h s some is first = record {
  placed = (omega (arith, some, first), tt);
  rest = omega (arith, is.whole, first);
  whole = omega (arith, is.whole);
}
