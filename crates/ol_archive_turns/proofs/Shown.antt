-- What the parts show behind a turn that leaves all of the machine but its archives, and of the storage all but its images.
use Rattle.std.specs.Prelude.{List, None, Option, Some, [], ℕ, ◌+◌, ◌∷◌, ◌≡◌}
use Rattle.std.proofs.Common.{ap, refl, subst, sym, ◌∙◌}
use Rattle.ol_values.specs.declared.event.Reply.{Reply}
use Rattle.ol_values.specs.declared.event.Why.{Why}
use Rattle.ol_model.specs.ArchiveTurns.{cancel_at, take_at, take_page, take_unless}
use Rattle.ol_model.specs.Machine.{Archive, Machine, with_archive}
use Rattle.ol_model.specs.Waiting.{left_of}
use Rattle.ol_before.specs.Images.{Captures, without}
use Rattle.ol_running.specs.declared.running.Running.{Running}
use Rattle.ol_running.specs.Running.{ShowsArchives, is_of_archive, with_running}
use Rattle.ol_running.proofs.TurnLaws.{PutsAway}
use Rattle.ol_storage.specs.Installation.{Installation, with_store}
use Rattle.ol_store.specs.Stores.{Store, with_before}
use Rattle.ol_txn.specs.Seats.{Seat}
use Rattle.ol_engine.specs.Parts.{HasTurns, Registers, Shows}
use Rattle.ol_engine.proofs.Seats.{same_shows}
use Rattle.ol_engine.proofs.Steps.{loaded_shows}
use Rattle.ol_engine.proofs.Turns.{turns_beside}
use Rattle.ol_archive_turns.specs.Turns.{Tells}

-- ---- of the storage

-- another store in the place of an installation's
pub restored : (v w : Installation) (s : Store) → w ≡ with_store v s → w ≡ with_store v w.store
restored v w s step = step ∙ ap (λ (x : Installation). with_store v x.store) (sym step)

-- other images show the same machine
pub images_show : (opened : ℕ) (v w : Installation) (seats : List Seat) (registers : Registers) (m : Machine) (b : Captures) → w ≡ with_store v (with_before v.store b) → Shows opened v seats registers m → Shows opened w seats registers m
images_show opened v w seats registers m b step s = record {
  storage = loaded_shows v w m (restored v w (with_before v.store b) step) (ap (λ (x : Installation). x.store.log) step) s.storage;
  sessions = s.sessions;
  since = s.since;
}

-- another store leaves the same room
pub store_turns : (opened : ℕ) (v w : Installation) (seats : List Seat) (s : Store) → w ≡ with_store v s → HasTurns opened v seats → HasTurns opened w seats
store_turns opened v w seats s step =
    turns_beside opened v w seats (ap (λ (x : Installation). x.ring) step) (ap (λ (x : Installation). x.anchor) step) (ap (λ (x : Installation). x.reached) step)

-- ---- of the machine

module _ (opened : ℕ) (v : Installation) (seats : List Seat) (registers : Registers) (m : Machine) (s : Shows opened v seats registers m) where
  -- an archiver has another archive
  pub put_shows : (k : ℕ) (o : Option Archive) → Shows opened v seats registers (with_archive k o m)
  put_shows k o =
      let is = s.storage in
      record {
        storage = record {
          config = is.config;
          ring = is.ring;
          next = is.next;
          reached = is.reached;
          position = is.position;
          need = is.need;
          touched = is.touched;
          lasting = is.lasting;
        };
        sessions = same_shows seats registers m (with_archive k o m) refl s.sessions;
        since = s.since;
      }

  page_shows : (k : ℕ) (a : Archive) (pages : List (ℕ × ℕ)) → Shows opened v seats registers (take_page m k a pages).1
  page_shows k a [] = s
  page_shows k a (p ∷ rest) = put_shows k (Some (record a { passed = a.passed + 1 }))

  unless_shows : (k : ℕ) (a : Archive) (o : Option ℕ) → Shows opened v seats registers (take_unless m k a o).1
  unless_shows k a None = page_shows k a (left_of m a)
  unless_shows k a (Some entry) = put_shows k None

  -- behind the next page
  pub take_shows : (k : ℕ) (o : Option Archive) → Shows opened v seats registers (take_at m k o).1
  take_shows k None = s
  take_shows k (Some a) = unless_shows k a a.broken

  -- behind an archive that was given up
  pub cancel_shows : (count k : ℕ) (why : Why) (o : Option Archive) → Shows opened v seats registers (cancel_at count m k why o).1
  cancel_shows count k why None = s
  cancel_shows count k why (Some a) = put_shows k None

-- ---- of both

-- an archive that is put away tells of the machine that a turn leaves
pub away_tells : (opened : ℕ) (v w : Installation) (seats : List Seat) (registers : Registers) (l left : List (Option Running)) (k : ℕ) (r : Running) (reply : Reply) (turn : Reply × Machine)
    → w ≡ with_store v (with_before v.store (without (is_of_archive r.cursor) v.store.before)) → left ≡ with_running k None l → Shows opened v seats registers turn.1 → PutsAway l v.store.before k r reply turn
    → (reply ≡ turn.0) × Tells opened w seats registers left turn.1
away_tells opened v w seats registers l left k r reply turn step archives s p = (
  sym p.0,
  (
    images_show opened v w seats registers turn.1 (without (is_of_archive r.cursor) v.store.before) step s,
    subst (λ (x : List (Option Running)). ShowsArchives x w.store.before turn.1) (sym archives)
        (subst (λ (b : Captures). ShowsArchives (with_running k None l) b turn.1) (sym (ap (λ (x : Installation). x.store.before) step)) p.1),
  ),
)
