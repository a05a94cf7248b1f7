-- What is shown behind the start of an archive.
use Rattle.std.specs.List.{position_or_len}
use Rattle.std.specs.Prelude.{All, Bool, Err, List, None, Option, Some, [], false, is_some, length, nat_lt, slice_index_or, suc, true, zero, ℕ, ◌&&◌, ◌+◌, ◌-◌, ◌<◌, ◌^◌, ◌∷◌, ◌≡◌, ◌≤◌, ◌⊎◌}
use Rattle.std.proofs.Common.{ap, arith, inl, inr, refl, subst, sym, ◌∙◌}
use Rattle.std.proofs.lemmas.Bool.{cases_Bool, le-ltb, lt-ltb}
use Rattle.std.proofs.lemmas.Bool.Decides.{eqb_tells}
use Rattle.ol_values.specs.declared.event.Reply.{Reply}
use Rattle.ol_values.specs.declared.event.Reply.TheVariants.{Started}
use Rattle.ol_values.specs.declared.record.Record.{Record}
use Rattle.ol_rules.specs.Start.{stamp_behind, upto}
use Rattle.ol_model.specs.ArchiveTurns.{saved_of, started}
use Rattle.ol_model.specs.Machine.{Archive, Machine, archive_of, archiver_of, archives_space, has_space, last_of, stamp_in, with_lasting}
use Rattle.ol_model.specs.Steps.{is_page_in, make_checkpoint}
use Rattle.ol_model.specs.Turns.{comes_first}
use Rattle.ol_model.specs.Waiting.{left_of, pages_of, waiting_of}
use Rattle.ol_turn_laws.specs.Apart.{Apart}
use Rattle.ol_turn_laws.specs.Room.{Regular}
use Rattle.ol_before.specs.Images.{Captures}
use Rattle.ol_cursor.specs.declared.cursor.Cursor.{Cursor}
use Rattle.ol_cursor.specs.Following.{CutsBehind, IsOf}
use Rattle.ol_cursor.proofs.FollowLaws.{follows_elsewhere, follows_start}
use Rattle.ol_cursor.proofs.PageLaws.{started_ascend}
use Rattle.ol_cursor.proofs.StayLaws.{same_pages}
use Rattle.ol_cursor.proofs.WantLaws.{cut_within}
use Rattle.ol_pool.proofs.ListLaws.{set_either}
use Rattle.ol_reserve.specs.declared.anchor.Anchor.{Anchor}
use Rattle.ol_running.specs.declared.running.Running.{Running}
use Rattle.ol_running.specs.Running.{ShowsArchives, begun, running_of, with_running}
use Rattle.ol_running.proofs.OwnLaws.{Own, own_put, turned}
use Rattle.ol_running.proofs.ShowLaws.{waits_is}
use Rattle.ol_running.proofs.StartLaws.{all_upto}
use Rattle.ol_running.proofs.TurnLaws.{no_archive}
use Rattle.ol_storage.specs.declared.storage.StorageFault.{StorageFault}
use Rattle.ol_storage.specs.declared.storage.StorageFault.TheVariants.{Bad, Failed, NoMemory, Stopped}
use Rattle.ol_storage.specs.Behind.{is_up}
use Rattle.ol_storage.specs.Behind.{pages_of as pages_behind}
use Rattle.ol_storage.specs.Installation.{Installation}
use Rattle.ol_storage.specs.Installation.{config_of as config_in}
use Rattle.ol_txn.specs.Seats.{Seat}
use Rattle.ol_engine.specs.Parts.{Registers, Shows, behind_of, last_in}
use Rattle.ol_engine.specs.Turns.{Answers}
use Rattle.ol_archive_turns.specs.Turns.{AreAllUp, Tells, runs_in}
use Rattle.ol_archive_turns.proofs.Shown.{put_shows}
use Rattle.ol_archive_start.specs.Refusing.{AreSpaces, refusal_of}
use Rattle.ol_archive_start.specs.Starting.{changed_of, checkpoint_started, cursor_begun, start_turn}
use Rattle.ol_archive_start.proofs.Followed.{archive_started, begun_is, in_saved_named, named_has, pages_counted}
use Rattle.ol_archive_start.proofs.Refused.{all_idle, answered, start_is}

-- ---- no running archive has its spaces

found_before : (l : List (Option Archive)) (j space : ℕ) → archives_space space (slice_index_or l j None) ≡ true → position_or_len (archives_space space) l < length l
found_before [] j space h = absurd (let never : false ≡ true = h in cc)
found_before (a ∷ l) zero space h = rw (h) (omega arith)
found_before (a ∷ l) (suc j) space h =
    elim (cases_Bool (archives_space space a)) [
      | inl e ↦ rw (e) (omega arith)
      | inr e ↦ rw (e) (omega (arith, found_before l j space h))
    ]

idle_has_none : (m : Machine) (j space : ℕ) → is_some (archiver_of m space) ≡ false → archives_space space (archive_of m j) ≡ true → ⊥
idle_has_none m j space idle there =
    let before = lt-ltb (position_or_len (archives_space space) m.archives) (length m.archives) (found_before m.archives (j - 1) space there) in
    let never : true ≡ false = rw (before) at idle in absurd (cc)

-- an archiver has a space: archiver k with its new archive, or as before
abbrev HasOf : Machine → ℕ → Archive → ℕ → ℕ → Type 0
HasOf m k a j space = ((j ≡ k) × (has_space space a ≡ true)) ⊎ (archives_space space (archive_of m j) ≡ true)

idle_apart : (m n : Machine) (k : ℕ) (a : Archive) → Own k m n (Some a) → ((space : ℕ) → has_space space a ≡ true → is_some (archiver_of m space) ≡ false) → Apart m → Apart n
idle_apart m n k a own idle apart = λ i j space from_i from_j there_i there_j. go i j space from_i from_j (has i space from_i there_i) (has j space from_j there_j)
  where
    has : (j space : ℕ) → 1 ≤ j → archives_space space (archive_of n j) ≡ true → HasOf m k a j space
    has j space from_j there =
        elim (eqb_tells j k) [
          | inl e ↦ inl (e.1, ap (λ (o : Option Archive). archives_space space o) (sym own.own) ∙ ap (λ (i : ℕ). archives_space space (archive_of n i)) (sym e.1) ∙ there)
          | inr e ↦ inr (ap (λ (o : Option Archive). archives_space space o) (sym (own.others j from_j e.1)) ∙ there)
        ]

    go : (i j space : ℕ) → 1 ≤ i → 1 ≤ j → HasOf m k a i space → HasOf m k a j space → i ≡ j
    go i j space from_i from_j (inl e) (inl f) = e.0 ∙ sym f.0
    go i j space from_i from_j (inl e) (inr f) = absurd (idle_has_none m j space (idle space e.1) f)
    go i j space from_i from_j (inr e) (inl f) = absurd (idle_has_none m i space (idle space f.1) e)
    go i j space from_i from_j (inr e) (inr f) = apart i j space from_i from_j e f

-- ---- no page waits at its cut

none_above : (m : Machine) (a : Archive) (space page : ℕ) → CutsBehind m a → a.cut ≡ last_of m → nat_lt a.cut (stamp_in m space page) ≡ false
none_above m a space page behind last =
    let all : stamp_in m space page ≡ stamp_behind m.work.start (upto m.work.start m.work.records a.cut) space page =
    ap (λ (l : List Record). stamp_behind m.work.start l space page) (sym (all_upto m) ∙ ap (λ (n : ℕ). upto m.work.start m.work.records n) (sym last)) in
    le-ltb a.cut (stamp_in m space page) (omega (arith, all, cut_within m a space page behind))

-- ---- archives and images

-- a cursor at the first place that counts all pages shows the archive that starts; the images stay
pub started_shown : (l : List (Option Running)) (b : Captures) (m : Machine) (k level : ℕ) (spaces : List ℕ) (c : Cursor) → 1 ≤ k → k ≤ 4 → ShowsArchives l b m → archive_of m k ≡ None → c.next ≡ (0, 0) → c.left < 2 ^ 32
    → IsOf c (archive_started m level spaces) → c.left ≡ length (pages_of m (archive_started m level spaces)) → All (λ s. is_some (archiver_of m s) ≡ false) spaces
    → ShowsArchives (with_running k (Some (begun c)) l) b (started m k level (saved_of m level spaces)).1
started_shown l b m k level spaces c from to s none next low of_it left idle =
    turned l b b m n k (Some (begun c)) (Some a) (λ space page. false) s from to own
    (record {
      running = record {
        follows = follows_elsewhere c m n a (same_pages m n a refl refl refl) (follows_start c m a s.short (started_ascend m level spaces) of_it refl next left);
        passed = refl;
        broken = refl;
        behind = behind;
        cut = omega arith;
        count = omega (arith, low);
      };
      limit = refl;
      ascend = s.ascend;
      apart = idle_apart m n k a own (λ space has. named_has (λ x. is_some (archiver_of m x) ≡ false) spaces space idle (in_saved_named m level spaces space has)) s.apart;
      found = λ space page. refl;
      now = λ space page. now space page ∙ sym (ap (λ (o : Option Archive). is_page_in (space, page) (waiting_of m o)) none);
      inside = λ space page drop. absurd (cc (drop));
      cuts = λ x space page same there. absurd (cc (there, now space page));
    })
  where
    a : Archive
    a = archive_started m level spaces

    n : Machine
    n = (started m k level (saved_of m level spaces)).1

    own : Own k m n (Some a)
    own = own_put k m (with_lasting (record m.lasting { next_archive = a.number + 1 }) (make_checkpoint m)) (Some a) from to (record { config = refl; start = refl; records = refl }) refl s.archivers

    behind : CutsBehind n a
    behind = record { last = omega arith; stamps = s.stamps }

    now : (space page : ℕ) → is_page_in (space, page) (waiting_of n (Some a)) ≡ false
    now space page = waits_is n a space page ∙ ap (λ (b : Bool). b && is_page_in (space, page) (left_of n a)) (none_above n a space page behind refl)

-- ---- the turn

module _ (opened : ℕ) (v : Installation) (seats : List Seat) (registers : Registers) (l : List (Option Running)) (m : Machine) (k level : ℕ) (spaces : List ℕ)
    (tells : Tells opened v seats registers l m) (there : AreSpaces (config_in v) spaces) (free : refusal_of v.anchor l level spaces ≡ None) where
  -- it is not refused
  pub begins : start_turn m k level spaces ≡ started m k level (saved_of m level spaces)
  begins =
      start_is v l v.store.before m k level spaces tells.0.storage tells.1 there ∙ ap (λ (o : Option Reply). answered m (started m k level (saved_of m level spaces)) o) free

  pub late : comes_first (start_turn m k level spaces).0 ≡ false
  late = ap (λ (t : Reply × Machine). comes_first t.0) begins

  -- a call that failed, a page that was bad, or want of memory
  pub begin_fails : (shown : Machine → Type 0) (f : StorageFault) → (f ≡ NoMemory → shown m) → (f ≡ Stopped → ⊥) → Answers m shown (start_turn m k level spaces) (Err f)
  begin_fails shown Failed memory only = late
  begin_fails shown (Bad chunk page) memory only = late
  begin_fails shown NoMemory memory only = memory refl
  begin_fails shown Stopped memory only = absurd (only refl)

  -- behind it
  pub begin_tells : (u : Installation) (left : List (Option Running)) (pages : ℕ) (before : ℕ → Record) → 1 ≤ k → k ≤ 4 → running_of l k ≡ None → length (config_in v).spaces ≤ 16 → Regular m → pages < 2 ^ 32
      → pages ≡ changed_of (pages_behind v.anchor (behind_of before m)) (config_in v) (cursor_begun v seats level spaces 0) (length (config_in v).spaces)
      → Shows opened u seats registers (checkpoint_started m) → u.store.before ≡ v.store.before → left ≡ with_running k (Some (begun (cursor_begun v seats level spaces pages))) l
      → (Started v.anchor.next_archive (last_in v) pages ≡ (start_turn m k level spaces).0) × Tells opened u seats registers left (start_turn m k level spaces).1
  begin_tells u left pages before from to idle few regular low counted shows images put =
      subst (λ (t : Reply × Machine). (Started v.anchor.next_archive (last_in v) pages ≡ t.0) × Tells opened u seats registers left t.1) (sym begins) (reply, (put_shows opened u seats registers (checkpoint_started m) shows k (Some (archive_started m level spaces)), archives))
    where
      of_it : IsOf (cursor_begun v seats level spaces pages) (archive_started m level spaces)
      of_it = begun_is opened v seats registers m level spaces tells.0 there few pages regular

      count : pages ≡ length (pages_of m (archive_started m level spaces))
      count = counted ∙ pages_counted opened v seats registers m level spaces tells.0 there few before 0

      reply : Started v.anchor.next_archive (last_in v) pages ≡ (started m k level (saved_of m level spaces)).0
      reply = λ j. Started (of_it.number j) (of_it.cut j) (count j)

      shown : ShowsArchives (with_running k (Some (begun (cursor_begun v seats level spaces pages))) l) v.store.before (started m k level (saved_of m level spaces)).1
      shown =
          started_shown l v.store.before m k level spaces (cursor_begun v seats level spaces pages) from to tells.1 (no_archive l v.store.before m k from tells.1 idle) refl low of_it count (all_idle v.anchor l v.store.before m level spaces tells.1 free)

      archives : ShowsArchives left u.store.before (started m k level (saved_of m level spaces)).1
      archives =
          subst (λ (x : List (Option Running)). ShowsArchives x u.store.before (started m k level (saved_of m level spaces)).1) (sym put)
          (subst (λ (b : Captures). ShowsArchives (with_running k (Some (begun (cursor_begun v seats level spaces pages))) l) b (started m k level (saved_of m level spaces)).1) (sym images) shown)

-- ---- the spaces that are up

-- an archive of spaces that are up takes a place
pub up_put : (a : Anchor) (l : List (Option Running)) (k : ℕ) (o : Option Running) → ((space : ℕ) → runs_in space o ≡ true → is_up a space ≡ true) → AreAllUp a l → AreAllUp a (with_running k o l)
up_put a l k o here up j space has =
    elim (set_either l (k - 1) o (j - 1) None) [
      | inl new ↦ here space (ap (λ (x : Option Running). runs_in space x) (sym new.0) ∙ has)
      | inr old ↦ up j space (ap (λ (x : Option Running). runs_in space x) (sym old) ∙ has)
    ]
