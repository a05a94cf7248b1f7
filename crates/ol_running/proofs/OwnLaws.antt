-- Another archive of one archiver: as a page passes, as it ends, and as one starts.
use Rattle.std.specs.Prelude.{Bool, List, None, Option, Some, drop, false, if◌then◌else◌, is_none, length, nat_lt, not, refl, slice_index_or, true, ℕ, ◌&&◌, ◌+◌, ◌-◌, ◌∷◌, ◌≡◌, ◌≢◌, ◌≤◌, ◌||◌}
use Rattle.std.proofs.Common.{ap, arith, inl, inr, subst, sym, ◌∙◌}
use Rattle.std.proofs.lemmas.Bool.Decides.{eqb_tells, nat_tests}
use Rattle.std.proofs.lemmas.List.{get_or-set_same, length-set}
use Rattle.ol_values.specs.Image.{page_bytes}
use Rattle.ol_model.specs.Machine.{Archive, Machine, archive_of, archives_space, has_space, page_upto, stamp_in, with_archive}
use Rattle.ol_model.specs.Steps.{is_page_in, same_page}
use Rattle.ol_model.specs.Waiting.{left_of, waiting_of}
use Rattle.ol_turn_laws.specs.Apart.{Apart}
use Rattle.ol_turn_laws.proofs.KeptLaws.{other_archive, other_entry}
use Rattle.ol_turn_laws.proofs.WaitingLaws.{left_passed, same_left}
use Rattle.ol_before.specs.Images.{Ascend, Captures, Image, image_of, is_of, without}
use Rattle.ol_before.proofs.MapLaws.{image_taken}
use Rattle.ol_before.proofs.OrderLaws.{ascend_kept}
use Rattle.ol_cursor.specs.Order.{archives}
use Rattle.ol_cursor.proofs.FollowLaws.{follows_advance, follows_elsewhere, may_advance}
use Rattle.ol_cursor.proofs.StayLaws.{same_pages}
use Rattle.ol_running.specs.declared.running.Running.{Running}
use Rattle.ol_running.specs.Running.{IsArchive, IsRunning, ShowsArchives, image_at, passed_on, running_of, waits, with_running}
use Rattle.ol_running.proofs.PlaceLaws.{Sorted, first_alone, from_place, in_first}
use Rattle.ol_running.proofs.ShowLaws.{left_in, waits_in, waits_is}
use Rattle.ol_running.proofs.StepLaws.{Same, fewer, goes_on, runs_elsewhere, same_image, waits_elsewhere}

-- archiver k has this archive, and the others have theirs
pub record Own (k : ℕ) (m n : Machine) (o : Option Archive) : Type 0 where
  pub same : Same m n
  pub archivers : length n.archives ≡ 4
  pub own : archive_of n k ≡ o
  pub others : (j : ℕ) → 1 ≤ j → j ≢ k → archive_of n j ≡ archive_of m j

pub same_machine : (m : Machine) → Same m m
same_machine m = record { config = refl; start = refl; records = refl }

-- archives are put into a machine like this one
pub own_put : (k : ℕ) (m n : Machine) (o : Option Archive) → 1 ≤ k → k ≤ 4 → Same m n → n.archives ≡ m.archives → length m.archives ≡ 4 → Own k m (with_archive k o n) o
own_put k m n o from to same archives four =
    let long : length n.archives ≡ 4 = ap (λ (l : List (Option Archive)). length l) archives ∙ four in
    record {
      same = record { config = same.config; start = same.start; records = same.records };
      archivers = length-set n.archives (k - 1) o ∙ long;
      own = get_or-set_same n.archives (k - 1) o None (omega (arith, long, from, to));
      others = λ j from_j differ. other_archive n k j o from_j from differ ∙ ap (λ (l : List (Option Archive)). slice_index_or l (j - 1) None) archives;
    }

abbrev pub cut_in : Option Archive → ℕ
cut_in None = 0
cut_in (Some a) = a.cut

-- where no archive has a space more, they stay apart
pub own_apart : (k : ℕ) (m n : Machine) (o : Option Archive) → Own k m n o → ((space : ℕ) → archives_space space o ≡ true → archives_space space (archive_of m k) ≡ true) → Apart m → Apart n
own_apart k m n o own less apart = λ i j space from_i from_j there_i there_j. apart i j space from_i from_j (had i space from_i there_i) (had j space from_j there_j)
  where
    had : (j space : ℕ) → 1 ≤ j → archives_space space (archive_of n j) ≡ true → archives_space space (archive_of m j) ≡ true
    had j space from there =
        elim (eqb_tells j k) [
          | inl e ↦
              subst (λ (i : ℕ). archives_space space (archive_of m i) ≡ true) (sym e.1)
              (less space (ap (λ (x : Option Archive). archives_space space x) (sym own.own) ∙ ap (λ (i : ℕ). archives_space space (archive_of n i)) (sym e.1) ∙ there))
          | inr e ↦ ap (λ (x : Option Archive). archives_space space x) (sym (own.others j from e.1)) ∙ there
        ]

-- what the archiver's own archive is to show
pub record Owns (l : List (Option Running)) (b b' : Captures) (m n : Machine) (k : ℕ) (r : Option Running) (o : Option Archive) (drops : ℕ → ℕ → Bool) : Type 0 where
  pub running : IsRunning r n o
  pub limit : b'.limit ≡ b.limit
  pub ascend : Ascend b'.held
  pub apart : Apart n
  pub found : (space page : ℕ) → image_of b'.held space page ≡ (if drops space page then None else image_of b.held space page)
  pub now : (space page : ℕ) → is_page_in (space, page) (waiting_of n o) ≡ (not (drops space page) && waits m k space page)
  pub inside : (space page : ℕ) → drops space page ≡ true → archives_space space (archive_of m k) ≡ true
  pub cuts : (a : Archive) (space page : ℕ) → o ≡ Some a → is_page_in (space, page) (waiting_of n o) ≡ true → (old : Archive) × (archive_of m k ≡ Some old) × (old.cut ≡ a.cut)

pub turned : (l : List (Option Running)) (b b' : Captures) (m n : Machine) (k : ℕ) (r : Option Running) (o : Option Archive) (drops : ℕ → ℕ → Bool) → ShowsArchives l b m → 1 ≤ k → k ≤ 4
    → Own k m n o → Owns l b b' m n k r o drops → ShowsArchives (with_running k r l) b' n
turned l b b' m n k r o drops s from to own is =
    goes_on l (with_running k r l) b b' m n s
    (record {
      four = length-set l (k - 1) r ∙ s.four;
      archivers = own.archivers;
      config = own.same.config;
      start = own.same.start;
      running = λ j from_j. runs j from_j;
      limit_is = is.limit;
      ascend = is.ascend;
      images = fewer b.held b'.held m n drops s.images (λ j space page from_j. now j space page from_j) (λ j a space page from_j here there. image j a space page from_j here there) is.found;
      apart = is.apart;
    })
  where
    runs : (j : ℕ) → 1 ≤ j → IsRunning (running_of (with_running k r l) j) n (archive_of n j)
    runs j from_j =
        elim (eqb_tells j k) [
          | inl e ↦
              subst (λ (i : ℕ). IsRunning (running_of (with_running k r l) i) n (archive_of n i)) (sym e.1)
              (subst (λ (x : Option Archive). IsRunning (running_of (with_running k r l) k) n x) (sym own.own)
              (subst (λ (x : Option Running). IsRunning x n o) (sym (get_or-set_same l (k - 1) r None (omega (arith, s.four, from, to)))) is.running))
          | inr e ↦
              subst (λ (x : Option Archive). IsRunning (running_of (with_running k r l) j) n x) (sym (own.others j from_j e.1))
              (subst (λ (x : Option Running). IsRunning x n (archive_of m j)) (sym (other_entry l k j r None from_j from e.1)) (runs_elsewhere (running_of l j) m n (archive_of m j) own.same (s.running j from_j)))
        ]

    -- a page that is dropped waits for no other archiver
    alone : (j space page : ℕ) → 1 ≤ j → j ≢ k → (d : Bool) → drops space page ≡ d → waits m j space page ≡ (not (drops space page) && waits m j space page)
    alone j space page from_j differ false keep = ap (λ (d : Bool). not d && waits m j space page) (sym keep)
    alone j space page from_j differ true drop = never (waits m j space page) refl ∙ ap (λ (d : Bool). not d && waits m j space page) (sym drop)
      where
        never : (w : Bool) → waits m j space page ≡ w → waits m j space page ≡ false
        never false not_there = not_there
        never true there = absurd (differ (s.apart j k space from_j from (waits_in (running_of l j) m (archive_of m j) space page (s.running j from_j) there) (is.inside space page drop)))

    now : (j space page : ℕ) → 1 ≤ j → waits n j space page ≡ (not (drops space page) && waits m j space page)
    now j space page from_j =
        elim (eqb_tells j k) [
          | inl e ↦
              subst (λ (i : ℕ). waits n i space page ≡ (not (drops space page) && waits m i space page)) (sym e.1)
              (ap (λ (x : Option Archive). is_page_in (space, page) (waiting_of n x)) own.own ∙ is.now space page)
          | inr e ↦ waits_elsewhere m n j space page own.same (own.others j from_j e.1) ∙ alone j space page from_j e.1 (drops space page) refl
        ]

    image : (j : ℕ) (a : Archive) (space page : ℕ) → 1 ≤ j → archive_of n j ≡ Some a → waits n j space page ≡ true → (old : Archive) × (archive_of m j ≡ Some old) × (image_at m old space page ≡ image_at n a space page)
    image j a space page from_j here there =
        elim (eqb_tells j k) [
          | inl e ↦
              (let at : archive_of n k ≡ Some a = ap (λ (i : ℕ). archive_of n i) (sym e.1) ∙ here in
              let waiting : is_page_in (space, page) (waiting_of n o) ≡ true =
              ap (λ (x : Option Archive). is_page_in (space, page) (waiting_of n x)) (sym own.own) ∙ ap (λ (i : ℕ). waits n i space page) (sym e.1) ∙ there in
              let old = is.cuts a space page (sym own.own ∙ at) waiting in
              (old.0, ap (λ (i : ℕ). archive_of m i) e.1 ∙ old.1, ap (λ (cut : ℕ). page_bytes (page_upto m cut space page)) old.2 ∙ sym (same_image m n a space page own.same)))
          | inr e ↦ (a, sym (own.others j from_j e.1) ∙ here, sym (same_image m n a space page own.same))
        ]

-- ---- a page passes

abbrev pub passed_one : Archive → Archive
passed_one a = record a { passed = a.passed + 1 }

moved : (x y d z : Bool) → (x && (y && (d && z))) ≡ (d && (x && (y && z)))
moved x y d z = grind (arith, nat_tests)

-- what is among the rest is among all, and not the first
rest_is : (p q : ℕ × ℕ) (rest : List (ℕ × ℕ)) → Sorted (p ∷ rest) → is_page_in q rest ≡ (not (same_page q p) && is_page_in q (p ∷ rest))
rest_is p q rest sorted = go (same_page q p) refl
  where
    go : (b : Bool) → same_page q p ≡ b → is_page_in q rest ≡ (not (same_page q p) && (same_page q p || is_page_in q rest))
    go true same = first_alone p q rest sorted same ∙ ap (λ (b : Bool). not b && (b || is_page_in q rest)) (sym same)
    go false other = ap (λ (b : Bool). not b && (b || is_page_in q rest)) (sym other)

passes_archive : (r : Running) (m : Machine) (k : ℕ) (a : Archive) (p : ℕ × ℕ) (rest : List (ℕ × ℕ)) → IsArchive r m a → left_of m a ≡ p ∷ rest
    → IsArchive (passed_on r p.0 p.1) (with_archive k (Some (passed_one a)) m) (passed_one a)
passes_archive r m k a p rest is left =
    let n : Machine = with_archive k (Some (passed_one a)) m in
    let may = may_advance r.cursor m a p rest is.follows left in
    record {
      follows = follows_elsewhere (passed_on r p.0 p.1).cursor m n (passed_one a) (same_pages m n (passed_one a) refl refl refl) (follows_advance r.cursor m a p rest is.follows left);
      passed = ap (λ (c : ℕ). c + 1) is.passed;
      broken = is.broken;
      behind = record { last = is.behind.last; stamps = is.behind.stamps };
      cut = is.cut;
      count = omega (arith, is.count, may.1);
    }

pub pass_shown : (l : List (Option Running)) (b : Captures) (m : Machine) (k : ℕ) (r : Running) (a : Archive) (p : ℕ × ℕ) (rest : List (ℕ × ℕ)) → 1 ≤ k → k ≤ 4 → ShowsArchives l b m
    → archive_of m k ≡ Some a → IsArchive r m a → left_of m a ≡ p ∷ rest
    → ShowsArchives (with_running k (Some (passed_on r p.0 p.1)) l) (without (is_of p.0 p.1) b) (with_archive k (Some (passed_one a)) m)
pass_shown l b m k r a p rest from to s at is left =
    turned l b (without (is_of p.0 p.1) b) m n k (Some (passed_on r p.0 p.1)) (Some (passed_one a)) drops s from to own
    (record {
      running = passes_archive r m k a p rest is left;
      limit = refl;
      ascend = ascend_kept (λ (i : Image). not (is_of p.0 p.1 i)) b.held s.ascend;
      apart = own_apart k m n (Some (passed_one a)) own (λ space there. ap (λ (o : Option Archive). archives_space space o) at ∙ there) s.apart;
      found = λ space page. image_taken b p.0 p.1 space page;
      now = now;
      inside = λ space page drop.
          ap (λ (o : Option Archive). archives_space space o) at
          ∙ (let here : space ≡ p.0 = grind (arith, nat_tests, drop) in ap (λ (x : ℕ). has_space x a) here ∙ left_in r m a p.0 p.1 is (ap (λ (pages : List (ℕ × ℕ)). is_page_in p pages) left ∙ in_first p rest));
      cuts = λ x space page same there. (a, at, ap cut_in same);
    })
  where
    n : Machine
    n = with_archive k (Some (passed_one a)) m

    own : Own k m n (Some (passed_one a))
    own = own_put k m m (Some (passed_one a)) from to (same_machine m) refl s.archivers

    drops : ℕ → ℕ → Bool
    drops space page = same_page (space, page) p

    sorted : Sorted (p ∷ rest)
    sorted = subst Sorted left (from_place (left_of m a) r.cursor.next is.follows.ahead)

    left_now : left_of n (passed_one a) ≡ rest
    left_now = same_left m n (passed_one a) refl refl refl ∙ left_passed m a ∙ ap (λ (pages : List (ℕ × ℕ)). drop 1 pages) left

    now : (space page : ℕ) → is_page_in (space, page) (waiting_of n (Some (passed_one a))) ≡ (not (drops space page) && waits m k space page)
    now space page =
        let q : ℕ × ℕ = (space, page) in
        waits_is n (passed_one a) space page
        ∙ ap (λ (pages : List (ℕ × ℕ)). is_none a.broken && (nat_lt a.cut (stamp_in m space page) && is_page_in q pages)) left_now
        ∙ ap (λ (b : Bool). is_none a.broken && (nat_lt a.cut (stamp_in m space page) && b)) (rest_is p q rest sorted)
        ∙ moved (is_none a.broken) (nat_lt a.cut (stamp_in m space page)) (not (drops space page)) (is_page_in q (p ∷ rest))
        ∙ ap (λ (pages : List (ℕ × ℕ)). not (drops space page) && (is_none a.broken && (nat_lt a.cut (stamp_in m space page) && is_page_in q pages))) (sym left)
        ∙ ap (λ (b : Bool). not (drops space page) && b) (sym (waits_is m a space page))
        ∙ ap (λ (o : Option Archive). not (drops space page) && is_page_in q (waiting_of m o)) (sym at)
