-- An archive starts: no page waits for it.
use Rattle.std.specs.List.{list_any, position_or_len}
use Rattle.std.specs.Prelude.{All, Bool, List, None, Option, Some, [], false, is_some, length, nat_lt, not, refl, slice_index_or, suc, true, unwrap_or, zero, ℕ, ◌&&◌, ◌+◌, ◌-◌, ◌<◌, ◌==◌, ◌^◌, ◌∷◌, ◌≡◌, ◌≤◌, ◌⊎◌}
use Rattle.std.proofs.Common.{ap, arith, inl, inr, subst, sym, ◌∙◌}
use Rattle.std.proofs.lemmas.Bool.{cases_Bool, le-ltb, lt-ltb}
use Rattle.std.proofs.lemmas.Bool.Decides.{eqb_tells}
use Rattle.std.proofs.lemmas.List.{take_all}
use Rattle.std.proofs.lemmas.List.Elements.{All-head, All-tail}
use Rattle.std.proofs.lemmas.Option.{same_Some}
use Rattle.ol_values.specs.declared.event.Reply.{Reply}
use Rattle.ol_values.specs.declared.event.Reply.TheVariants.{Archiving, NoParent, SpaceDown}
use Rattle.ol_values.specs.declared.record.Record.{Record}
use Rattle.ol_values.specs.Blocks.{Saved}
use Rattle.ol_rules.specs.Lasting.{is_up}
use Rattle.ol_rules.specs.Start.{stamp_behind, upto}
use Rattle.ol_model.specs.ArchiveTurns.{first_space, kept_at, saved_of, spaces_named, start_at, start_with, started}
use Rattle.ol_model.specs.Machine.{Archive, Machine, archive_of, archiver_of, archives_space, config_of, has_space, last_of, low_in, stamp_in, with_lasting}
use Rattle.ol_model.specs.Steps.{is_page_in, make_checkpoint}
use Rattle.ol_model.specs.Waiting.{left_of, pages_of, waiting_of}
use Rattle.ol_turn_laws.specs.Apart.{Apart}
use Rattle.ol_turn_laws.proofs.ApartLaws.{IsFree, start_free}
use Rattle.ol_turn_laws.proofs.KeptLaws.{unless_keeps}
use Rattle.ol_before.specs.Images.{Captures}
use Rattle.ol_cursor.specs.declared.cursor.Cursor.{Cursor}
use Rattle.ol_cursor.specs.Following.{CutsBehind, IsOf}
use Rattle.ol_cursor.proofs.FollowLaws.{follows_elsewhere, follows_start}
use Rattle.ol_cursor.proofs.PageLaws.{started_ascend}
use Rattle.ol_cursor.proofs.StayLaws.{same_pages}
use Rattle.ol_cursor.proofs.WantLaws.{cut_within}
use Rattle.ol_running.specs.declared.running.Running.{Running}
use Rattle.ol_running.specs.Running.{ShowsArchives, begun, with_running}
use Rattle.ol_running.proofs.OwnLaws.{Own, own_put, turned}
use Rattle.ol_running.proofs.ShowLaws.{waits_is}

-- ---- stamps at the last position

pub all_upto : (m : Machine) → upto m.work.start m.work.records (last_of m) ≡ m.work.records
all_upto m = take_all (last_of m - m.work.start.last) m.work.records (omega arith)

-- no stamp lies above a cut at the last position
none_above : (m : Machine) (a : Archive) (space page : ℕ) → CutsBehind m a → a.cut ≡ last_of m → nat_lt a.cut (stamp_in m space page) ≡ false
none_above m a space page behind last =
    let all : stamp_in m space page ≡ stamp_behind m.work.start (upto m.work.start m.work.records a.cut) space page =
    ap (λ (l : List Record). stamp_behind m.work.start l space page) (sym (all_upto m) ∙ ap (λ (n : ℕ). upto m.work.start m.work.records n) (sym last)) in
    le-ltb a.cut (stamp_in m space page) (omega (arith, all, cut_within m a space page behind))

-- ---- its spaces are no running archive's

found_before : (l : List (Option Archive)) (j space : ℕ) → archives_space space (slice_index_or l j None) ≡ true → position_or_len (archives_space space) l < length l
found_before [] j space h = absurd (let never : false ≡ true = h in cc)
found_before (a ∷ l) zero space h = rw (h) (omega arith)
found_before (a ∷ l) (suc j) space h =
    elim (cases_Bool (archives_space space a)) [
      | inl e ↦ rw (e) (omega arith)
      | inr e ↦ rw (e) (omega (arith, found_before l j space h))
    ]

free_is_in_none : (m : Machine) (j space : ℕ) → archiver_of m space ≡ None → archives_space space (archive_of m j) ≡ true → ⊥
free_is_in_none m j space free there =
    let before = lt-ltb (position_or_len (archives_space space) m.archives) (length m.archives) (found_before m.archives (j - 1) space there) in
    let never : Some (position_or_len (archives_space space) m.archives + 1) ≡ None = rw (before) at free in absurd (cc)

one_is_free : (m : Machine) (spaces : List Saved) (space : ℕ) → All (IsFree m) spaces → list_any (λ (s : Saved). s.space == space) spaces ≡ true → archiver_of m space ≡ None
one_is_free m [] space all h = absurd (let never : false ≡ true = h in cc)
one_is_free m (s ∷ spaces) space all h =
    elim (eqb_tells s.space space) [
      | inl e ↦ subst (λ (x : ℕ). archiver_of m x ≡ None) e.1 (All-head (IsFree m) s spaces all)
      | inr e ↦ one_is_free m spaces space (All-tail (IsFree m) s spaces all) (rw (e.0) at h)
    ]

-- an archiver has a space: archiver k with its new archive, or as before
abbrev HasOf : Machine → ℕ → Archive → ℕ → ℕ → Type 0
HasOf m k a j space = ((j ≡ k) × (has_space space a ≡ true)) ⊎ (archives_space space (archive_of m j) ≡ true)

free_apart : (m n : Machine) (k : ℕ) (a : Archive) → 1 ≤ k → Own k m n (Some a) → All (IsFree m) a.spaces → Apart m → Apart n
free_apart m n k a from own free apart = λ i j space from_i from_j there_i there_j. go i j space from_i from_j (has i space from_i there_i) (has j space from_j there_j)
  where
    has : (j space : ℕ) → 1 ≤ j → archives_space space (archive_of n j) ≡ true → HasOf m k a j space
    has j space from_j there =
        elim (eqb_tells j k) [
          | inl e ↦ inl (e.1, ap (λ (o : Option Archive). archives_space space o) (sym own.own) ∙ ap (λ (i : ℕ). archives_space space (archive_of n i)) (sym e.1) ∙ there)
          | inr e ↦ inr (ap (λ (o : Option Archive). archives_space space o) (sym (own.others j from_j e.1)) ∙ there)
        ]

    go : (i j space : ℕ) → 1 ≤ i → 1 ≤ j → HasOf m k a i space → HasOf m k a j space → i ≡ j
    go i j space from_i from_j (inl e) (inl f) = e.0 ∙ sym f.0
    go i j space from_i from_j (inl e) (inr f) = absurd (free_is_in_none m j space (one_is_free m a.spaces space free e.1) f)
    go i j space from_i from_j (inr e) (inl f) = absurd (free_is_in_none m i space (one_is_free m a.spaces space free f.1) e)
    go i j space from_i from_j (inr e) (inr f) = apart i j space from_i from_j e f

-- ---- the start

abbrev new_archive : Machine → ℕ → List Saved → Archive
new_archive m level spaces = record { number = m.lasting.next_archive; level = level; cut = last_of m; low = low_in m; spaces = spaces; passed = 0; broken = None }

started_shown : (l : List (Option Running)) (b : Captures) (m : Machine) (k level : ℕ) (spaces : List ℕ) (c : Cursor) → 1 ≤ k → k ≤ 4 → ShowsArchives l b m → archive_of m k ≡ None
    → c.next ≡ (0, 0) → c.left < 2 ^ 32
    → IsOf c (new_archive m level (saved_of m level spaces)) → c.left ≡ length (pages_of m (new_archive m level (saved_of m level spaces))) → All (IsFree m) (saved_of m level spaces)
    → ShowsArchives (with_running k (Some (begun c)) l) b (started m k level (saved_of m level spaces)).1
started_shown l b m k level spaces c from to s none next low of_it left free =
    turned l b b m n k (Some (begun c)) (Some a) (λ space page. false) s from to own
    (record {
      running = record {
        follows = follows_elsewhere c m n a (same_pages m n a refl refl refl) (follows_start c m a s.short (started_ascend m level spaces) of_it refl next left);
        passed = refl;
        broken = refl;
        behind = behind;
        cut = omega arith;
        count = omega (arith, low);
      };
      limit = refl;
      ascend = s.ascend;
      apart = free_apart m n k a from own free s.apart;
      found = λ space page. refl;
      now = λ space page. now space page ∙ sym (ap (λ (o : Option Archive). is_page_in (space, page) (waiting_of m o)) none);
      inside = λ space page drop. absurd (cc (drop));
      cuts = λ x space page same there. absurd (cc (there, now space page));
    })
  where
    a : Archive
    a = new_archive m level (saved_of m level spaces)

    n : Machine
    n = (started m k level (saved_of m level spaces)).1

    own : Own k m n (Some a)
    own = own_put k m (with_lasting (record m.lasting { next_archive = a.number + 1 }) (make_checkpoint m)) (Some a) from to (record { config = refl; start = refl; records = refl }) refl s.archivers

    behind : CutsBehind n a
    behind = record { last = omega arith; stamps = s.stamps }

    now : (space page : ℕ) → is_page_in (space, page) (waiting_of n (Some a)) ≡ false
    now space page = waits_is n a space page ∙ ap (λ (b : Bool). b && is_page_in (space, page) (left_of n a)) (none_above n a space page behind refl)

-- what is shown where an archiver has this archive
abbrev WhereIt : List (Option Running) → Captures → ℕ → Cursor → Machine → Archive → Machine → Type 0
WhereIt l b k c m a n = archive_of n k ≡ Some a → IsOf c a → c.left ≡ length (pages_of m a) → All (IsFree m) a.spaces → ShowsArchives (with_running k (Some (begun c)) l) b n

start_where : (l : List (Option Running)) (b : Captures) (m : Machine) (k level : ℕ) (named : Option (List ℕ)) (c : Cursor) (a : Archive) → 1 ≤ k → k ≤ 4 → ShowsArchives l b m → archive_of m k ≡ None
    → c.next ≡ (0, 0) → c.left < 2 ^ 32 → WhereIt l b k c m a (start_with m k level named).1
start_where l b m k level None c a from to s none next low = λ is of_it left free. absurd (cc (none, is))
start_where l b m k level (Some spaces) c a from to s none next low =
    let up : Bool × Reply = first_space (λ s. not (is_up m.lasting s)) SpaceDown spaces in
    let held : Bool × Reply = first_space (λ s. is_some (archiver_of m s)) (λ s. Archiving (unwrap_or (archiver_of m s) 0)) spaces in
    let parent : Bool × Reply = first_space (λ s. nat_lt 0 level && ((kept_at m level s).number == 0)) (λ s. NoParent s (level - 1)) spaces in
    unless_keeps (WhereIt l b k c m a) m (up ∷ held ∷ parent ∷ []) (started m k level (saved_of m level spaces)) (λ is of_it left free. absurd (cc (none, is))) by_start
  where
    new : Archive
    new = new_archive m level (saved_of m level spaces)

    own : archive_of (started m k level (saved_of m level spaces)).1 k ≡ Some new
    own = (own_put k m (with_lasting (record m.lasting { next_archive = new.number + 1 }) (make_checkpoint m)) (Some new) from to (record { config = refl; start = refl; records = refl }) refl s.archivers).own

    by_start : WhereIt l b k c m a (started m k level (saved_of m level spaces)).1
    by_start = λ is.
        subst (λ (x : Archive). IsOf c x → c.left ≡ length (pages_of m x) → All (IsFree m) x.spaces → ShowsArchives (with_running k (Some (begun c)) l) b (started m k level (saved_of m level spaces)).1)
        (same_Some new a (sym own ∙ is))
        (λ of_it left free. started_shown l b m k level spaces c from to s none next low of_it left free)

pub start_shown : (l : List (Option Running)) (b : Captures) (m : Machine) (k level : ℕ) (names : List (List ℕ)) (c : Cursor) (a : Archive) → 1 ≤ k → k ≤ 4 → ShowsArchives l b m → archive_of m k ≡ None
    → archive_of (start_at m k level names (archive_of m k)).1 k ≡ Some a → IsOf c a → c.next ≡ (0, 0) → c.left ≡ length (pages_of m a) → c.left < 2 ^ 32
    → ShowsArchives (with_running k (Some (begun c)) l) b (start_at m k level names (archive_of m k)).1
start_shown l b m k level names c a from to s none is of_it next left low =
    let there : archive_of (start_at m k level names None).1 k ≡ Some a = ap (λ (o : Option Archive). archive_of (start_at m k level names o).1 k) (sym none) ∙ is in
    subst (λ (o : Option Archive). ShowsArchives (with_running k (Some (begun c)) l) b (start_at m k level names o).1) (sym none)
    (start_where l b m k level (spaces_named (config_of m) names) c a from to s none next low there of_it left
    (start_free m k level names a (omega (arith, from, to, s.archivers)) none there))
