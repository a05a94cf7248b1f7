-- What the parts show behind the end of an archive.
use Rattle.std.specs.Prelude.{List, None, Option, Some, false, length, suc, true, zero, ℕ, ◌+◌, ◌<◌, ◌≡◌, ◌≤◌}
use Rattle.std.proofs.Common.{ap, arith, inl, inr, refl, subst, sym, ⊎_elim, ◌∙◌}
use Rattle.std.proofs.lemmas.List.{ext_get_or}
use Rattle.std.proofs.lemmas.List.FromFn.{get_or-map-range_with_len, length-map-range_with_len}
use Rattle.ol_values.specs.Config.{Config}
use Rattle.ol_rules.specs.Lasting.{Kept, Lasting, SpaceState, space_state, space_up}
use Rattle.ol_model.specs.ArchiveTurns.{end_at, end_unless, end_with, keep}
use Rattle.ol_model.specs.Machine.{Archive, Machine, archive_of, config_of, has_space, with_archive}
use Rattle.ol_model.specs.Machine.{last_of as last_record, with_lasting as with_machine_lasting}
use Rattle.ol_values.specs.declared.event.Reply.{Reply}
use Rattle.ol_values.specs.declared.event.Reply.TheVariants.{Archived, BeforeFull}
use Rattle.ol_values.specs.declared.record.Record.{Record}
use Rattle.ol_ports.specs.Disk.{Bytes}
use Rattle.ol_before.specs.Images.{Captures, without}
use Rattle.ol_log_state.specs.RingState.{ring_of}
use Rattle.ol_loglog.specs.RingValue.{RingValue}
use Rattle.ol_running.specs.declared.running.Running.{Running}
use Rattle.ol_running.specs.Running.{IsArchive, is_of_archive, running_of, with_running}
use Rattle.ol_running.proofs.TurnLaws.{PutsAway, archive_there, end_shown}
use Rattle.ol_storage.proofs.Images.{stands_wider}
use Rattle.ol_storage.specs.Standing.{StandsBetween}
use Rattle.ol_store.specs.Stores.{Store, with_before}
use Rattle.ol_txn.specs.Seats.{Seat}
use Rattle.ol_engine.proofs.Seats.{same_shows}
use Rattle.ol_engine.specs.Turns.{StandsWithinEither}
use Rattle.ol_archive_turns.specs.Turns.{Tells, end_turn}
use Rattle.ol_archive_turns.proofs.Shown.{away_tells, put_shows}
use Rattle.ol_cursor.specs.declared.cursor.Cursor.{Cursor}
use Rattle.ol_cursor.specs.Following.{IsOf}
use Rattle.ol_cursor.specs.Order.{archives}
use Rattle.ol_reserve.specs.declared.anchor.Anchor.{Anchor}
use Rattle.ol_storage.specs.Installation.{Installation, flushed_of, with_lasting, with_store}
use Rattle.ol_storage.specs.Installation.{config_of as config_in}
use Rattle.ol_engine.specs.Parts.{GoesOn, HasTurns, Registers, Shows, ShowsStorage, behind_of, kept_in, lasting_in, space_in, touched_in}
use Rattle.ol_archive_turns.specs.Ending.{kept_of, known_at, lasting_ended}
use Rattle.ol_archive_turns.proofs.Keeps.{HasKept, keeps}
use Rattle.ol_archive_turns.proofs.KnownLaws.{kept_if, space_one, space_zero}

-- the anchor keeps of each space what the archive's end leaves
space_at : (v : Installation) (c : Cursor) (level i : ℕ) → i < 16 → space_in (known_at v c level).anchor i ≡ kept_if (archives c i) level (kept_in (kept_of c)) (space_in v.anchor i)
space_at v c zero i within = space_zero v.anchor c v.ring.state.files.uniq i within
space_at v c (suc zero) i within = space_one v.anchor c v.ring.state.files.uniq i within
space_at v c (suc (suc level)) i within = elim (archives c i) as (λ b. space_in v.anchor i ≡ kept_if b (suc (suc level)) (kept_in (kept_of c)) (space_in v.anchor i)) [ true ↦ refl | false ↦ refl ]

-- and all else as it was
record SameElse (a b : Anchor) : Type 0 where
  next : b.next_archive ≡ a.next_archive
  incarnation : b.incarnation ≡ a.incarnation
  backed : b.backed ≡ a.backed

same_else : (v : Installation) (c : Cursor) (level : ℕ) → SameElse v.anchor (known_at v c level).anchor
same_else v c zero = record { next = refl; incarnation = refl; backed = refl }
same_else v c (suc zero) = record { next = refl; incarnation = refl; backed = refl }
same_else v c (suc (suc level)) = record { next = refl; incarnation = refl; backed = refl }

-- the lasting state that the anchor keeps is the machine's behind the end of the archive
pub lasting_kept : (config : Config) (v : Installation) (c : Cursor) (a : Archive) → length config.spaces ≤ 16 → IsOf c a → lasting_in config (known_at v c c.level).anchor ≡ keep a (lasting_in config v.anchor)
lasting_kept config v c a few is = λ j. record { spaces = spaces j; next_archive = (else.next ∙ sym kept.next) j; incarnation = (else.incarnation ∙ sym kept.incarnation) j; backed = (else.backed ∙ sym kept.backed) j }
  where
    l : Lasting
    l = lasting_in config v.anchor

    of_it : Kept
    of_it = record { number = a.number; cut = a.cut }

    kept : HasKept a.level of_it a.spaces l (keep a l)
    kept = keeps a.level of_it a.spaces l

    else : SameElse v.anchor (known_at v c c.level).anchor
    else = same_else v c c.level

    long : (b : Anchor) → length (lasting_in config b).spaces ≡ length config.spaces
    long b = length-map-range_with_len (space_in b) 0 (length config.spaces)

    one : (i : ℕ) → i < length config.spaces → space_state (lasting_in config (known_at v c c.level).anchor) i ≡ space_state (keep a l) i
    one i within =
        get_or-map-range_with_len (space_in (known_at v c c.level).anchor) 0 (length config.spaces) i i space_up within (omega arith)
        ∙ space_at v c c.level i (omega (arith, within, few))
        ∙ (λ j. kept_if (is.spaces i j) (is.level j) (record { number = is.number j; cut = is.cut j }) (space_in v.anchor i))
        ∙ ap (λ (s : SpaceState). kept_if (has_space i a) a.level of_it s) (sym (get_or-map-range_with_len (space_in v.anchor) 0 (length config.spaces) i i space_up within (omega arith)))
        ∙ sym (kept.reads i (omega (arith, within, long v.anchor)))

    spaces : (lasting_in config (known_at v c c.level).anchor).spaces ≡ (keep a l).spaces
    spaces =
        ext_get_or space_up (lasting_in config (known_at v c c.level).anchor).spaces (keep a l).spaces (long (known_at v c c.level).anchor ∙ sym (long v.anchor) ∙ sym kept.long)
        (λ i within. one i (omega (arith, within, long (known_at v c c.level).anchor)))

-- ---- which anchor is written

-- none at level 2
pub none_known : (v : Installation) (c : Cursor) (level : ℕ) → 2 ≤ level → known_at v c level ≡ v
none_known v c zero two = absurd (omega (arith, two))
none_known v c (suc zero) two = absurd (omega (arith, two))
none_known v c (suc (suc level)) two = refl

-- one with the known archives below it
pub some_known : (v : Installation) (c : Cursor) (level : ℕ) → level < 2 → known_at v c level ≡ with_lasting v (lasting_ended v.anchor c level)
some_known v c zero low = refl
some_known v c (suc zero) low = refl
some_known v c (suc (suc level)) low = absurd (omega (arith, low))

-- ---- what is shown

-- all but the anchor's known archives and its serial is as it was
record SameBeside (v w : Installation) : Type 0 where
  ring : w.ring ≡ v.ring
  store : w.store ≡ v.store
  reached : w.reached ≡ v.reached
  position : w.anchor.position ≡ v.anchor.position
  need : w.anchor.need ≡ v.anchor.need

same_beside : (v : Installation) (c : Cursor) (level : ℕ) → SameBeside v (known_at v c level)
same_beside v c zero = record { ring = refl; store = refl; reached = refl; position = refl; need = refl }
same_beside v c (suc zero) = record { ring = refl; store = refl; reached = refl; position = refl; need = refl }
same_beside v c (suc (suc level)) = record { ring = refl; store = refl; reached = refl; position = refl; need = refl }

-- the same room is left
pub known_turns : (opened : ℕ) (v w : Installation) (seats : List Seat) (c : Cursor) → w ≡ known_at v c c.level → HasTurns opened v seats → HasTurns opened w seats
known_turns opened v w seats c step is = subst (λ (x : Installation). HasTurns opened x seats) (sym step) (by_level c.level)
  where
    by_level : (level : ℕ) → HasTurns opened (known_at v c level) seats
    by_level zero = record { room = is.room; log = is.log; records = is.records; positions = is.positions; at_end = is.at_end; need = is.need; numbers = is.numbers }
    by_level (suc zero) = record { room = is.room; log = is.log; records = is.records; positions = is.positions; at_end = is.at_end; need = is.need; numbers = is.numbers }
    by_level (suc (suc level)) = is

-- the storage shows the machine that keeps the archive
known_shows : (v : Installation) (c : Cursor) (m : Machine) (a : Archive) → length v.ring.config.spaces ≤ 16 → IsOf c a → ShowsStorage v m → ShowsStorage (known_at v c c.level) (with_machine_lasting (keep a m.lasting) m)
known_shows v c m a few of_it is =
    let same = same_beside v c c.level in
    record {
      config = ap (λ (r : RingValue). r.config) same.ring ∙ is.config;
      ring = ap (λ (r : RingValue). ring_of r.state) same.ring ∙ is.ring;
      next = ap (λ (r : RingValue). r.state.next) same.ring ∙ is.next;
      reached = same.reached ∙ is.reached;
      position = same.position ∙ is.position;
      need = same.need ∙ is.need;
      touched = ap (λ (s : Store). touched_in s.log.places) same.store ∙ is.touched;
      lasting = lasting_kept (config_of m) v c a (subst (λ (x : Config). length x.spaces ≤ 16) is.config few) of_it ∙ ap (λ (l : Lasting). keep a l) is.lasting;
    }

-- behind the end of a whole archive of which all pages have passed
pub end_tells : (opened : ℕ) (v w u : Installation) (seats : List Seat) (registers : Registers) (l left : List (Option Running)) (m : Machine) (k : ℕ) (r : Running) → 1 ≤ k → k ≤ 4 → length v.ring.config.spaces ≤ 16
    → Tells opened v seats registers l m → running_of l k ≡ Some r → r.broken ≡ None → r.cursor.left ≡ 0 → w ≡ known_at v r.cursor r.cursor.level → u ≡ with_store w (with_before w.store (without (is_of_archive r.cursor) w.store.before)) → left ≡ with_running k None l
    → (Archived r.cursor.number r.cursor.cut r.passed ≡ (end_turn m k).0) × Tells opened u seats registers left (end_turn m k).1
end_tells opened v w u seats registers l left m k r from to few tells is whole none step away archives =
    away_tells opened w u seats registers l left k r (Archived r.cursor.number r.cursor.cut r.passed) (end_turn m k) away archives
    (subst (λ (x : Installation). Shows opened x seats registers (end_turn m k).1) (sym step) (go (archive_there l v.store.before m k r from tells.1 is)))
    (subst (λ (b : Captures). PutsAway l b k r (Archived r.cursor.number r.cursor.cut r.passed) (end_turn m k)) (sym (ap (λ (x : Installation). x.store.before) step ∙ ap (λ (s : Store). s.before) (same_beside v r.cursor r.cursor.level).store))
    (end_shown l v.store.before m k r from to tells.1 is whole none))
  where
    go : (a : Archive) × (archive_of m k ≡ Some a) × IsArchive r m a → Shows opened (known_at v r.cursor r.cursor.level) seats registers (end_turn m k).1
    go (a, at, of_it) =
        let n : Machine = with_machine_lasting (keep a m.lasting) m in
        let turn : end_turn m k ≡ (Archived a.number a.cut a.passed, with_archive k None n) =
        ap (λ (o : Option Archive). end_at m k o) at ∙ ap (λ (o : Option ℕ). end_unless m k a o) (sym of_it.broken ∙ whole) ∙ ap (λ (i : ℕ). end_with m k a i) (sym of_it.follows.left ∙ none) in
        let s : Shows opened (known_at v r.cursor r.cursor.level) seats registers n =
        record { storage = known_shows v r.cursor m a few of_it.follows.of_it tells.0.storage; sessions = same_shows seats registers m n refl tells.0.sessions; since = tells.0.since } in
        subst (λ (t : Reply × Machine). Shows opened (known_at v r.cursor r.cursor.level) seats registers t.1) (sym turn) (put_shows opened (known_at v r.cursor r.cursor.level) seats registers n s k None)

-- a broken one ends with the lasting state as it was
pub broken_shows : (opened : ℕ) (v : Installation) (seats : List Seat) (registers : Registers) (l : List (Option Running)) (m : Machine) (k : ℕ) (r : Running) (entry : ℕ) → 1 ≤ k → Tells opened v seats registers l m → running_of l k ≡ Some r → r.broken ≡ Some entry
    → Shows opened v seats registers (end_turn m k).1
broken_shows opened v seats registers l m k r entry from tells is broken = go (archive_there l v.store.before m k r from tells.1 is)
  where
    go : (a : Archive) × (archive_of m k ≡ Some a) × IsArchive r m a → Shows opened v seats registers (end_turn m k).1
    go (a, at, of_it) =
        let turn : end_turn m k ≡ (BeforeFull entry, with_archive k None m) = ap (λ (o : Option Archive). end_at m k o) at ∙ ap (λ (o : Option ℕ). end_unless m k a o) (sym of_it.broken ∙ broken) in
        subst (λ (t : Reply × Machine). Shows opened v seats registers t.1) (sym turn) (put_shows opened v seats registers m tells.0 k None)

-- ---- stops

-- what stands for what was flushed stands for all records, by the one anchor or the other
pub either_rest : (v : Installation) (a : Anchor) (before : ℕ → Record) (m : Machine) (d : Bytes) → v.ring.state.next ≡ last_record m + 1 → StandsBetween (config_in v) (behind_of before m) v.anchor a (flushed_of v) (flushed_of v) d → StandsWithinEither v a before m d
either_rest v a before m d next s =
    ⊎_elim
    (λ old. inl (stands_wider (config_in v) (behind_of before m) v.anchor (flushed_of v) (flushed_of v) (flushed_of v) (last_record m) d (omega arith) (omega (arith, next)) old))
    (λ new. inr (stands_wider (config_in v) (behind_of before m) a (flushed_of v) (flushed_of v) (flushed_of v) (last_record m) d (omega arith) (omega (arith, next)) new)) s

-- the engine goes on where an archive is made known
pub known_goes : (v w : Installation) (c : Cursor) (level : ℕ) → v.stopped ≡ false → w ≡ known_at v c level → GoesOn v w
known_goes v w c level going step = subst (λ (x : Installation). GoesOn v x) (sym step) (go level)
  where
    go : (n : ℕ) → GoesOn v (known_at v c n)
    go zero = record { going = going; config = refl; states = refl }
    go (suc zero) = record { going = going; config = refl; states = refl }
    go (suc (suc n)) = record { going = going; config = refl; states = refl }
