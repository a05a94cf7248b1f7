-- The pages of an archive: those of its spaces that rows lie on. What the turns of a running archive answer.
use Rattle.std.specs.List.{flat_map, range_with_len}
use Rattle.std.specs.Prelude.{Bool, IfSome, List, None, Option, Some, [], drop, false, filter, length, map, nat_lt, suc, true, zero, ℕ, ◌*◌, ◌++◌, ◌+◌, ◌-◌, ◌<◌, ◌∷◌, ◌≡◌, ◌≤◌, refl}
use Rattle.std.proofs.Common.{ap, arith, subst, sym, ◌∙◌}
use Rattle.std.proofs.lemmas.Bool.Decides.{nat_tests}
use Rattle.std.proofs.lemmas.List.{length-drop, take_all}
use Rattle.ol_values.specs.declared.event.Reply.{Reply}
use Rattle.ol_values.specs.declared.event.Reply.TheVariants.{AllTaken, Archived, PageIs, PagesLeft}
use Rattle.ol_values.specs.declared.history.Entry.{Entry}
use Rattle.ol_values.specs.declared.record.Record.{Record}
use Rattle.ol_values.specs.declared.record.Rid.{Rid}
use Rattle.ol_values.specs.Config.{Config, data_pages}
use Rattle.ol_rules.specs.Journal.{stamp_at}
use Rattle.ol_core.specs.Archivers.{end_turn, end_with, take_page, take_turn}
use Rattle.ol_core.specs.Machine.{Archive, Machine, left_of, pages_of, with_archive}
use Rattle.ol_values.specs.Blocks.{Saved}
use Rattle.ol_rules.specs.Saveset.{changed_pages, places}
use Rattle.ol_core.specs.declared.running.Running.{Running}
use Rattle.ol_core.specs.Core.{IsKept, IsStill, IsWithin, archive_in, machine_in}
use Rattle.ol_core.specs.Filled.{AreFilled, Filled, IsFilled, filled_at, first_place, pages_used, saved_in, used_from, used_in}

-- of numbers in order, those below a bound
filter_below : (test : ℕ → Bool) (a n bound : ℕ) → ((p : ℕ) → test p ≡ nat_lt p bound) → bound ≤ a + n → filter test (range_with_len a n) ≡ range_with_len a (bound - a)
filter_below test a zero bound below le = ap (range_with_len a) (let e : 0 ≡ bound - a = omega arith in e)
filter_below test a (suc n) bound below le =
    let rest : filter test (range_with_len (a + 1) n) ≡ range_with_len (a + 1) (bound - (a + 1)) = filter_below test (a + 1) n bound below (omega arith) in
    cases (nat_lt a bound) refl rest
  where
    cases : (b : Bool) → nat_lt a bound ≡ b → filter test (range_with_len (a + 1) n) ≡ range_with_len (a + 1) (bound - (a + 1)) → filter test (a ∷ range_with_len (a + 1) n) ≡ range_with_len a (bound - a)
    cases true e rest =
        let more : bound - a ≡ suc (bound - (a + 1)) = grind (arith, nat_tests) in
        rw (below a, e, more) (ap (λ (l : List ℕ). a ∷ l) rest)
    cases false e rest =
        let none : bound - a ≡ 0 = grind (arith, nat_tests) in
        let later : bound - (a + 1) ≡ 0 = omega arith in
        rw (below a, e, none) (rest ∙ ap (range_with_len (a + 1)) later)

-- a page has rows where it is among the pages used
page_used : (p rows : ℕ) → nat_lt (p * 31) rows ≡ nat_lt p (pages_used rows)
page_used p rows = grind (arith, nat_tests)

abbrev zero_base : ℕ → Saved
zero_base s = record { space = s; parent = 0; base = 0 }

-- the changed pages of a space are those that rows lie on
changed_are : (c : Config) (j : List Record) (spaces : List Filled) (s : ℕ) → IsFilled (data_pages c s) j s (filled_at spaces s) → changed_pages c j (zero_base s) ≡ used_in spaces s
changed_are c j spaces s k =
    let rows = (filled_at spaces s).rows in
    let room : pages_used rows ≤ 0 + data_pages c s = omega (arith, k.room) in
    let below : filter (λ p. nat_lt 0 (stamp_at j s p)) (range_with_len 0 (data_pages c s)) ≡ range_with_len 0 (pages_used rows - 0) =
    filter_below (λ p. nat_lt 0 (stamp_at j s p)) 0 (data_pages c s) (pages_used rows) (λ p. k.stamps p ∙ page_used p rows) room in
    ap (map (λ p. let r : ℕ × ℕ = (s, p) in r)) (below ∙ ap (range_with_len 0) (let e : pages_used rows - 0 ≡ pages_used rows = omega arith in e))

all_changed : (c : Config) (j : List Record) (spaces : List Filled) (chosen : List ℕ) → AreFilled c j spaces → flat_map (changed_pages c j) (map zero_base chosen) ≡ flat_map (used_in spaces) chosen
all_changed c j spaces [] k = refl
all_changed c j spaces (s ∷ chosen) k =
    ap (λ (l : List (ℕ × ℕ)). l ++ flat_map (changed_pages c j) (map zero_base chosen)) (changed_are c j spaces s (k s))
    ∙ ap (λ (l : List (ℕ × ℕ)). used_in spaces s ++ l) (all_changed c j spaces chosen k)

pub places_are : (c : Config) (j : List Record) (spaces : List Filled) (marks : List Bool) → AreFilled c j spaces → places c j (saved_in marks) ≡ used_from spaces marks 0
unfolding places
places_are c j spaces marks k = all_changed c j spaces _ k

-- those of a running archive
pub pages_of-kept : {c : Config} {j : List Record} {txn : Option ℕ} {pages : List Filled} {next : ℕ} {h : List Entry} (regs : List (Option Rid)) (a : Running) → IsKept c j txn pages next (Some a) h
    → pages_of (machine_in c j txn regs next (Some a)) (archive_in a) ≡ used_from pages a.spaces 0
pages_of-kept {c} {j} {txn} {pages} {next} {h} regs a k =
    ap (λ (l : List Record). places c l (saved_in a.spaces)) (take_all a.cut j (omega (arith, k.still.0))) ∙ places_are c j pages a.spaces k.filled

-- and those that have not passed
left_of-kept : {c : Config} {j : List Record} {txn : Option ℕ} {pages : List Filled} {next : ℕ} {h : List Entry} (regs : List (Option Rid)) (a : Running) → IsKept c j txn pages next (Some a) h
    → left_of (machine_in c j txn regs next (Some a)) (archive_in a) ≡ drop a.passed (used_from pages a.spaces 0)
left_of-kept {c} {j} {txn} {pages} {next} {h} regs a k = ap (drop a.passed) (pages_of-kept regs a k)

-- how many pages have passed is within those that an archive has
pub passed-kept : {c : Config} {j : List Record} {txn : Option ℕ} {pages : List Filled} {next : ℕ} {arch : Option Running} {h : List Entry} (a : Running) → arch ≡ Some a → IsKept c j txn pages next arch h
    → a.passed ≤ length (used_from pages a.spaces 0)
passed-kept {j = j} {pages = pages} a some k = (subst (IsStill j pages) some k.still).1

pub within-kept : {c : Config} {j : List Record} {txn : Option ℕ} {pages : List Filled} {next : ℕ} {h : List Entry} (regs : List (Option Rid)) (arch : Option Running) → IsKept c j txn pages next arch h
    → IfSome arch (IsWithin (machine_in c j txn regs next arch))
within-kept regs None k = tt
within-kept regs (Some a) k = omega (arith, k.still.1, ap length (pages_of-kept regs a k))

-- ---- what the turns of a running archive answer

none_first : (places : List (ℕ × ℕ)) → first_place places ≡ None → places ≡ []
none_first [] e = refl
none_first (p ∷ places) e = absurd (let f : Some p ≡ None = e in cc)

some_first : (places : List (ℕ × ℕ)) (p : ℕ × ℕ) → first_place places ≡ Some p → places ≡ p ∷ drop 1 places
some_first [] p e = absurd (let f : ◌≡◌ {A = Option (ℕ × ℕ)} None (Some p) = e in cc)
some_first (q ∷ places) p e = let f : q ≡ p = cc in ap (λ (x : ℕ × ℕ). x ∷ places) f

pub turn_taken : {c : Config} {j : List Record} {txn : Option ℕ} {pages : List Filled} {next : ℕ} {h : List Entry} (regs : List (Option Rid)) (a : Running) → IsKept c j txn pages next (Some a) h
    → first_place (drop a.passed (used_from pages a.spaces 0)) ≡ None → take_turn (machine_in c j txn regs next (Some a)) 1 ≡ (AllTaken, machine_in c j txn regs next (Some a))
turn_taken {c} {j} {txn} {pages} {next} {h} regs a k none =
    ap (take_page (machine_in c j txn regs next (Some a)) 1 (archive_in a)) (left_of-kept regs a k ∙ none_first _ none)

pub turn_page : {c : Config} {j : List Record} {txn : Option ℕ} {pages : List Filled} {next : ℕ} {h : List Entry} (regs : List (Option Rid)) (a b : Running) (p : ℕ × ℕ) → IsKept c j txn pages next (Some a) h
    → first_place (drop a.passed (used_from pages a.spaces 0)) ≡ Some p → archive_in b ≡ record (archive_in a) { passed = a.passed + 1 }
    → take_turn (machine_in c j txn regs next (Some a)) 1 ≡ (PageIs p.0 p.1, machine_in c j txn regs next (Some b))
turn_page {c} {j} {txn} {pages} {next} {h} regs a b p k first is =
    let m = machine_in c j txn regs next (Some a) in
    ap (take_page m 1 (archive_in a)) (left_of-kept regs a k ∙ some_first _ p first)
    ∙ ap (λ (x : Archive). let r : Reply × Machine = (PageIs p.0 p.1, with_archive 1 (Some x) m) in r) (sym is)

counted : (m : Machine) (a : Archive) (n : ℕ) → 0 < n → end_with m 1 a n ≡ (PagesLeft n, m)
counted m a zero lt = absurd (omega arith)
counted m a (suc n) lt = refl

pub end_left : {c : Config} {j : List Record} {txn : Option ℕ} {pages : List Filled} {next : ℕ} {h : List Entry} (regs : List (Option Rid)) (a : Running) (count : ℕ) → IsKept c j txn pages next (Some a) h
    → length (used_from pages a.spaces 0) - a.passed ≡ count → 0 < count → end_turn (machine_in c j txn regs next (Some a)) 1 ≡ (PagesLeft count, machine_in c j txn regs next (Some a))
end_left {c} {j} {txn} {pages} {next} {h} regs a count k left more =
    let m = machine_in c j txn regs next (Some a) in
    ap (end_with m 1 (archive_in a)) (ap length (left_of-kept regs a k) ∙ length-drop a.passed (used_from pages a.spaces 0) ∙ left) ∙ counted m (archive_in a) count more

pub end_done : {c : Config} {j : List Record} {txn : Option ℕ} {pages : List Filled} {next : ℕ} {h : List Entry} (regs : List (Option Rid)) (a : Running) → IsKept c j txn pages next (Some a) h
    → length (used_from pages a.spaces 0) - a.passed ≤ 0 → end_turn (machine_in c j txn regs next (Some a)) 1 ≡ (Archived a.number a.cut a.passed, machine_in c j txn regs next None)
end_done {c} {j} {txn} {pages} {next} {h} regs a k none =
    let m = machine_in c j txn regs next (Some a) in
    ap (end_with m 1 (archive_in a)) (ap length (left_of-kept regs a k) ∙ length-drop a.passed (used_from pages a.spaces 0) ∙ (let e : length (used_from pages a.spaces 0) - a.passed ≡ 0 = omega arith in e))

-- ---- the page that is named is there

-- a place that is used is one of a space's pages
abbrev IsOf : Config → ℕ × ℕ → Type 0
IsOf c p = p.1 < data_pages c p.0

of_range : (c : Config) (s a n left : ℕ) (p : ℕ × ℕ) (rest : List (ℕ × ℕ)) → a + n ≤ data_pages c s → ((k : ℕ) → first_place (drop k rest) ≡ Some p → IsOf c p)
    → first_place (drop left (map (λ p. let r : ℕ × ℕ = (s, p) in r) (range_with_len a n) ++ rest)) ≡ Some p → IsOf c p
of_range c s a zero left p rest le others e = others left e
of_range c s a (suc n) zero p rest le others e =
    let f : (let r : ℕ × ℕ = (s, a) in r) ≡ p = cc in subst (IsOf c) f (omega arith)
of_range c s a (suc n) (suc left) p rest le others e = of_range c s (a + 1) n left p rest (omega arith) others e

no_place : (c : Config) (p : ℕ × ℕ) (k : ℕ) → first_place (drop k []) ≡ Some p → IsOf c p
no_place c p zero e = absurd (let f : ◌≡◌ {A = Option (ℕ × ℕ)} None (Some p) = e in cc)
no_place c p (suc k) e = absurd (let f : ◌≡◌ {A = Option (ℕ × ℕ)} None (Some p) = e in cc)

of_spaces : (c : Config) (j : List Record) (spaces : List Filled) (chosen : List ℕ) (left : ℕ) (p : ℕ × ℕ) → AreFilled c j spaces → first_place (drop left (flat_map (used_in spaces) chosen)) ≡ Some p → IsOf c p
of_spaces c j spaces [] left p k e = no_place c p left e
of_spaces c j spaces (s ∷ chosen) left p k e =
    of_range c s 0 (pages_used (filled_at spaces s).rows) left p (flat_map (used_in spaces) chosen) (omega (arith, (k s).room)) (λ n f. of_spaces c j spaces chosen n p k f) e

pub place_is_there : (c : Config) (j : List Record) (spaces : List Filled) (marks : List Bool) (left : ℕ) (p : ℕ × ℕ) → AreFilled c j spaces → first_place (drop left (used_from spaces marks 0)) ≡ Some p → p.1 < data_pages c p.0
place_is_there c j spaces marks left p k e = of_spaces c j spaces _ left p k e
