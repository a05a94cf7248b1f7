-- The turns of an archiver on what it holds: what they answer, and what is shown behind them.
use Rattle.std.specs.Prelude.{List, None, Option, Some, [], false, length, refl, suc, zero, ℕ, ◌+◌, ◌<◌, ◌^◌, ◌∷◌, ◌≡◌, ◌≤◌}
use Rattle.std.proofs.Common.{ap, arith, subst, sym, ◌∙◌}
use Rattle.std.proofs.lemmas.Option.{same_Some}
use Rattle.ol_values.specs.declared.event.Reply.{Reply}
use Rattle.ol_values.specs.declared.event.Reply.TheVariants.{AllTaken, Archived, BeforeFull, PageIs, PagesLeft}
use Rattle.ol_values.specs.declared.event.Why.{Why}
use Rattle.ol_values.specs.Image.{page_bytes}
use Rattle.ol_model.specs.ArchiveTurns.{cancel_at, end_at, end_unless, end_with, given_up, keep, take_at, take_page, take_unless}
use Rattle.ol_model.specs.Machine.{Archive, Machine, archive_of, config_of, page_upto, with_archive, with_lasting}
use Rattle.ol_model.specs.Waiting.{left_of}
use Rattle.ol_turn_laws.proofs.WaitingLaws.{takes_page}
use Rattle.ol_before.specs.Images.{Captures, is_of, without}
use Rattle.ol_cursor.specs.Order.{precedes}
use Rattle.ol_cursor.proofs.FollowLaws.{may_advance}
use Rattle.ol_store.specs.Archives.{AreUp, IsFirstTaken, NoneLeft}
use Rattle.ol_store.specs.Pages.{Pages}
use Rattle.ol_running.specs.declared.running.Running.{Running}
use Rattle.ol_running.specs.Running.{IsArchive, IsRunning, ShowsArchives, is_of_archive, passed_on, running_of, with_running}
use Rattle.ol_running.specs.Taking.{ShowsPages}
use Rattle.ol_running.proofs.EndLaws.{own_none}
use Rattle.ol_running.proofs.OwnLaws.{pass_shown, same_machine}
use Rattle.ol_running.proofs.TakeLaws.{Takes, first_taken, none_taken}

-- ---- what an archiver has

there : (r : Option Running) (m : Machine) (o : Option Archive) (x : Running) → IsRunning r m o → r ≡ Some x → (a : Archive) × (o ≡ Some a) × IsArchive x m a
there None m o x is same = absurd (cc (same))
there (Some r) m None x is same = absurd is
there (Some r) m (Some a) x is same = (a, refl, subst (λ (y : Running). IsArchive y m a) (same_Some r x same) is)

pub archive_there : (l : List (Option Running)) (b : Captures) (m : Machine) (k : ℕ) (r : Running) → 1 ≤ k → ShowsArchives l b m → running_of l k ≡ Some r → (a : Archive) × (archive_of m k ≡ Some a) × IsArchive r m a
archive_there l b m k r from s is = there (running_of l k) m (archive_of m k) r (s.running k from) is

none_there : (r : Option Running) (m : Machine) (o : Option Archive) → IsRunning r m o → r ≡ None → o ≡ None
none_there r m None is none = refl
none_there None m (Some a) is none = absurd is
none_there (Some r) m (Some a) is none = absurd (cc (none))

pub no_archive : (l : List (Option Running)) (b : Captures) (m : Machine) (k : ℕ) → 1 ≤ k → ShowsArchives l b m → running_of l k ≡ None → archive_of m k ≡ None
no_archive l b m k from s none = none_there (running_of l k) m (archive_of m k) (s.running k from) none

-- ---- the next page

-- what a turn that lets a page pass answers and leaves, and what the archive may do before
abbrev pub Passes : List (Option Running) → Captures → Machine → ℕ → Running → ℕ × ℕ → List ℕ → Reply × Machine → Type 0
Passes l b m k r place bytes turn =
    (turn.0 ≡ PageIs place.0 place.1)
    × ShowsArchives (with_running k (Some (passed_on r place.0 place.1)) l) (without (is_of place.0 place.1) b) turn.1
    × (bytes ≡ page_bytes (page_upto m r.cursor.cut place.0 place.1))

takes_of : (l : List (Option Running)) (b : Captures) (m : Machine) (k : ℕ) (r : Running) (a : Archive) (v : Pages) → 1 ≤ k → ShowsArchives l b m → archive_of m k ≡ Some a → IsArchive r m a → r.broken ≡ None
    → ShowsPages v m → AreUp r.cursor v → Takes l b m k r a v
takes_of l b m k r a v from s at is whole pages up = record { from = from; shows = s; at = at; is = is; whole = sym is.broken ∙ whole; pages = pages; up = up }

pub take_shown : (l : List (Option Running)) (b : Captures) (m : Machine) (k : ℕ) (r : Running) (v : Pages) (place : ℕ × ℕ) (bytes : List ℕ) → 1 ≤ k → k ≤ 4 → ShowsArchives l b m → running_of l k ≡ Some r → r.broken ≡ None
    → ShowsPages v m → AreUp r.cursor v → IsFirstTaken (config_of m) r.cursor b v place bytes → Passes l b m k r place bytes (take_at m k (archive_of m k))
take_shown l b m k r v place bytes from to s is whole pages up f = go (archive_there l b m k r from s is)
  where
    go : (a : Archive) × (archive_of m k ≡ Some a) × IsArchive r m a → Passes l b m k r place bytes (take_at m k (archive_of m k))
    go (a, at, of_it) =
        let first = first_taken l b m k r a v (takes_of l b m k r a v from s at of_it whole pages up) place bytes f in
        let turn : take_at m k (archive_of m k) ≡ (PageIs place.0 place.1, with_archive k (Some (record a { passed = a.passed + 1 })) m) =
        ap (λ (o : Option Archive). take_at m k o) at ∙ takes_page m k a place first.0 (sym of_it.broken ∙ whole) first.1 in
        subst (Passes l b m k r place bytes) (sym turn)
        (refl, pass_shown l b m k r a place first.0 from to s at of_it first.1, first.2 ∙ ap (λ (cut : ℕ). page_bytes (page_upto m cut place.0 place.1)) (sym of_it.follows.of_it.cut))

-- the archive's own state lets it pass
pub may_pass : (l : List (Option Running)) (b : Captures) (m : Machine) (k : ℕ) (r : Running) (v : Pages) (place : ℕ × ℕ) (bytes : List ℕ) → 1 ≤ k → ShowsArchives l b m → running_of l k ≡ Some r → r.broken ≡ None
    → ShowsPages v m → AreUp r.cursor v → IsFirstTaken (config_of m) r.cursor b v place bytes → (precedes place r.cursor.next ≡ false) × (0 < r.cursor.left) × (r.passed + r.cursor.left < 2 ^ 32)
may_pass l b m k r v place bytes from s is whole pages up f = go (archive_there l b m k r from s is)
  where
    go : (a : Archive) × (archive_of m k ≡ Some a) × IsArchive r m a → (precedes place r.cursor.next ≡ false) × (0 < r.cursor.left) × (r.passed + r.cursor.left < 2 ^ 32)
    go (a, at, of_it) =
        let first = first_taken l b m k r a v (takes_of l b m k r a v from s at of_it whole pages up) place bytes f in
        let may = may_advance r.cursor m a place first.0 of_it.follows first.1 in
        (may.0, may.1, of_it.count)

all_taken : (m : Machine) (k : ℕ) (r : Running) (a : Archive) → archive_of m k ≡ Some a → IsArchive r m a → r.broken ≡ None → left_of m a ≡ [] → take_at m k (archive_of m k) ≡ (AllTaken, m)
all_taken m k r a at is whole left =
    ap (λ (o : Option Archive). take_at m k o) at
    ∙ ap (λ (o : Option ℕ). take_unless m k a o) (sym is.broken ∙ whole)
    ∙ ap (λ (pages : List (ℕ × ℕ)). take_page m k a pages) left

pub none_taken_shown : (l : List (Option Running)) (b : Captures) (m : Machine) (k : ℕ) (r : Running) (v : Pages) → 1 ≤ k → ShowsArchives l b m → running_of l k ≡ Some r → r.broken ≡ None → ShowsPages v m → AreUp r.cursor v
    → NoneLeft (config_of m) r.cursor b v → (take_at m k (archive_of m k) ≡ (AllTaken, m)) × (r.cursor.left ≡ 0)
none_taken_shown l b m k r v from s is whole pages up none = go (archive_there l b m k r from s is)
  where
    go : (a : Archive) × (archive_of m k ≡ Some a) × IsArchive r m a → (take_at m k (archive_of m k) ≡ (AllTaken, m)) × (r.cursor.left ≡ 0)
    go (a, at, of_it) =
        let left : left_of m a ≡ [] = none_taken l b m k r a v (takes_of l b m k r a v from s at of_it whole pages up) none in
        (all_taken m k r a at of_it whole left, of_it.follows.left ∙ ap (λ (pages : List (ℕ × ℕ)). length pages) left)

none_of : (pages : List (ℕ × ℕ)) → length pages ≡ 0 → pages ≡ []
none_of [] none = refl
none_of (p ∷ pages) none = absurd (omega (arith, none))

left_none : (r : Running) (m : Machine) (a : Archive) → IsArchive r m a → r.cursor.left ≡ 0 → left_of m a ≡ []
left_none r m a is none = none_of (left_of m a) (sym is.follows.left ∙ none)

pub none_left_shown : (l : List (Option Running)) (b : Captures) (m : Machine) (k : ℕ) (r : Running) → 1 ≤ k → ShowsArchives l b m → running_of l k ≡ Some r → r.broken ≡ None → r.cursor.left ≡ 0 → take_at m k (archive_of m k) ≡ (AllTaken, m)
none_left_shown l b m k r from s is whole none = go (archive_there l b m k r from s is)
  where
    go : (a : Archive) × (archive_of m k ≡ Some a) × IsArchive r m a → take_at m k (archive_of m k) ≡ (AllTaken, m)
    go (a, at, of_it) = all_taken m k r a at of_it whole (left_none r m a of_it none)

-- ---- an archive that is put away

-- what a turn that puts the archive away answers and leaves
abbrev pub PutsAway : List (Option Running) → Captures → ℕ → Running → Reply → Reply × Machine → Type 0
PutsAway l b k r reply turn = (turn.0 ≡ reply) × ShowsArchives (with_running k None l) (without (is_of_archive r.cursor) b) turn.1

away : (l : List (Option Running)) (b : Captures) (m : Machine) (k : ℕ) (r : Running) (a : Archive) (turn : Reply × Machine) (reply : Reply) → 1 ≤ k → k ≤ 4 → ShowsArchives l b m → archive_of m k ≡ Some a → IsArchive r m a
    → turn ≡ (reply, with_archive k None m) → PutsAway l b k r reply turn
away l b m k r a turn reply from to s at is same = subst (PutsAway l b k r reply) (sym same) (refl, own_none l b m m k r a from to s at is (same_machine m) refl)

pub take_broken : (l : List (Option Running)) (b : Captures) (m : Machine) (k : ℕ) (r : Running) (entry : ℕ) → 1 ≤ k → k ≤ 4 → ShowsArchives l b m → running_of l k ≡ Some r → r.broken ≡ Some entry
    → PutsAway l b k r (BeforeFull entry) (take_at m k (archive_of m k))
take_broken l b m k r entry from to s is broken = go (archive_there l b m k r from s is)
  where
    go : (a : Archive) × (archive_of m k ≡ Some a) × IsArchive r m a → PutsAway l b k r (BeforeFull entry) (take_at m k (archive_of m k))
    go (a, at, of_it) =
        away l b m k r a (take_at m k (archive_of m k)) (BeforeFull entry) from to s at of_it
        (ap (λ (o : Option Archive). take_at m k o) at ∙ ap (λ (o : Option ℕ). take_unless m k a o) (sym of_it.broken ∙ broken))

pub end_broken : (l : List (Option Running)) (b : Captures) (m : Machine) (k : ℕ) (r : Running) (entry : ℕ) → 1 ≤ k → k ≤ 4 → ShowsArchives l b m → running_of l k ≡ Some r → r.broken ≡ Some entry
    → PutsAway l b k r (BeforeFull entry) (end_at m k (archive_of m k))
end_broken l b m k r entry from to s is broken = go (archive_there l b m k r from s is)
  where
    go : (a : Archive) × (archive_of m k ≡ Some a) × IsArchive r m a → PutsAway l b k r (BeforeFull entry) (end_at m k (archive_of m k))
    go (a, at, of_it) =
        away l b m k r a (end_at m k (archive_of m k)) (BeforeFull entry) from to s at of_it
        (ap (λ (o : Option Archive). end_at m k o) at ∙ ap (λ (o : Option ℕ). end_unless m k a o) (sym of_it.broken ∙ broken))

pub cancel_shown : (l : List (Option Running)) (b : Captures) (m : Machine) (k : ℕ) (r : Running) (count : ℕ) (why : Why) → 1 ≤ k → k ≤ 4 → ShowsArchives l b m → running_of l k ≡ Some r
    → PutsAway l b k r (given_up k count r.cursor.number why) (cancel_at count m k why (archive_of m k))
cancel_shown l b m k r count why from to s is = go (archive_there l b m k r from s is)
  where
    go : (a : Archive) × (archive_of m k ≡ Some a) × IsArchive r m a → PutsAway l b k r (given_up k count r.cursor.number why) (cancel_at count m k why (archive_of m k))
    go (a, at, of_it) =
        away l b m k r a (cancel_at count m k why (archive_of m k)) (given_up k count r.cursor.number why) from to s at of_it
        (ap (λ (o : Option Archive). cancel_at count m k why o) at ∙ ap (λ (number : ℕ). let t : Reply × Machine = (given_up k count number why, with_archive k None m) in t) (sym of_it.follows.of_it.number))

-- the end of one of which all pages have passed, as the machine that it leaves has it
pub end_shown : (l : List (Option Running)) (b : Captures) (m : Machine) (k : ℕ) (r : Running) → 1 ≤ k → k ≤ 4 → ShowsArchives l b m → running_of l k ≡ Some r → r.broken ≡ None → r.cursor.left ≡ 0
    → PutsAway l b k r (Archived r.cursor.number r.cursor.cut r.passed) (end_at m k (archive_of m k))
end_shown l b m k r from to s is whole none = go (archive_there l b m k r from s is)
  where
    go : (a : Archive) × (archive_of m k ≡ Some a) × IsArchive r m a → PutsAway l b k r (Archived r.cursor.number r.cursor.cut r.passed) (end_at m k (archive_of m k))
    go (a, at, of_it) =
        let n : Machine = with_lasting (keep a m.lasting) m in
        let turn : end_at m k (archive_of m k) ≡ (Archived a.number a.cut a.passed, with_archive k None n) =
        ap (λ (o : Option Archive). end_at m k o) at
        ∙ ap (λ (o : Option ℕ). end_unless m k a o) (sym of_it.broken ∙ whole)
        ∙ ap (λ (n : ℕ). end_with m k a n) (sym of_it.follows.left ∙ none) in
        subst (PutsAway l b k r (Archived r.cursor.number r.cursor.cut r.passed)) (sym turn)
        (sym (λ i. Archived (of_it.follows.of_it.number i) (of_it.follows.of_it.cut i) (of_it.passed i)), own_none l b m n k r a from to s at of_it (record { config = refl; start = refl; records = refl }) refl)

pub pages_left_shown : (l : List (Option Running)) (b : Captures) (m : Machine) (k : ℕ) (r : Running) → 1 ≤ k → ShowsArchives l b m → running_of l k ≡ Some r → r.broken ≡ None → 0 < r.cursor.left
    → end_at m k (archive_of m k) ≡ (PagesLeft r.cursor.left, m)
pages_left_shown l b m k r from s is whole some = go (archive_there l b m k r from s is)
  where
    ends : (a : Archive) (left : ℕ) → 0 < left → end_with m k a left ≡ (PagesLeft left, m)
    ends a zero some = absurd (omega (arith, some))
    ends a (suc n) some = refl

    go : (a : Archive) × (archive_of m k ≡ Some a) × IsArchive r m a → end_at m k (archive_of m k) ≡ (PagesLeft r.cursor.left, m)
    go (a, at, of_it) =
        ap (λ (o : Option Archive). end_at m k o) at
        ∙ ap (λ (o : Option ℕ). end_unless m k a o) (sym of_it.broken ∙ whole)
        ∙ ap (λ (n : ℕ). end_with m k a n) (sym of_it.follows.left)
        ∙ ends a r.cursor.left some
