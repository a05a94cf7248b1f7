-- The next page of a running archive that is not broken: what it answers, and what is told behind it.
use Rattle.std.specs.Prelude.{Bool, Err, List, None, Option, Some, [], false, if◌then◌else◌, suc, true, zero, ℕ, ◌+◌, ◌∷◌, ◌<◌, ◌^◌, ◌≡◌, ◌≤◌}
use Rattle.std.proofs.Common.{ap, arith, refl, subst, sym, ◌∙◌}
use Rattle.ol_values.specs.declared.event.Reply.{Reply}
use Rattle.ol_values.specs.declared.event.Reply.TheVariants.{AllTaken, PageIs}
use Rattle.ol_values.specs.declared.record.Record.{Record}
use Rattle.ol_values.specs.Config.{Config}
use Rattle.ol_values.specs.Image.{page_bytes}
use Rattle.ol_model.specs.ArchiveTurns.{take_at, take_page, take_unless}
use Rattle.ol_model.specs.Machine.{Archive, Machine, archive_of, page_upto}
use Rattle.ol_model.specs.Machine.{config_of as config_in}
use Rattle.ol_model.specs.Turns.{comes_first}
use Rattle.ol_model.specs.Waiting.{left_of}
use Rattle.ol_before.specs.Images.{Captures, image_of, is_of, without}
use Rattle.ol_cursor.specs.Order.{archives, precedes}
use Rattle.ol_running.specs.declared.running.Running.{Running}
use Rattle.ol_running.specs.Running.{IsArchive, ShowsArchives, passed_on, running_of, with_running}
use Rattle.ol_running.proofs.TurnLaws.{archive_there, may_pass, none_left_shown, none_taken_shown, take_shown}
use Rattle.ol_storage.specs.declared.storage.StorageFault.{StorageFault}
use Rattle.ol_storage.specs.declared.storage.StorageFault.TheVariants.{Bad, Failed, NoMemory, Stopped}
use Rattle.ol_storage.specs.Behind.{Behind, pages_of}
use Rattle.ol_storage.specs.Installation.{Installation, config_of, with_store}
use Rattle.ol_store.specs.Archives.{AreUp, IsFirstTaken, NoneLeft, captured_or_now, with_passed}
use Rattle.ol_txn.specs.Seats.{Seat}
use Rattle.ol_engine.specs.Parts.{Registers, behind_of}
use Rattle.ol_engine.specs.Turns.{Answers}
use Rattle.ol_archive_turns.specs.Turns.{AreAllUp, IsImage, IsImageOf, Tells, runs_in, take_turn}
use Rattle.ol_archive_turns.proofs.Shown.{images_show, take_shows}

-- ---- a turn that comes to the disk

-- pages are never refused
pages_late : (m : Machine) (k : ℕ) (a : Archive) (pages : List (ℕ × ℕ)) → comes_first (take_page m k a pages).0 ≡ false
pages_late m k a [] = refl
pages_late m k a (p ∷ rest) = refl

late : (l : List (Option Running)) (b : Captures) (m : Machine) (k : ℕ) (r : Running) → 1 ≤ k → ShowsArchives l b m → running_of l k ≡ Some r → r.broken ≡ None → comes_first (take_turn m k).0 ≡ false
late l b m k r from s is whole = go (archive_there l b m k r from s is)
  where
    go : (a : Archive) × (archive_of m k ≡ Some a) × IsArchive r m a → comes_first (take_turn m k).0 ≡ false
    go (a, at, of_it) =
        ap (λ (o : Option Archive). comes_first (take_at m k o).0) at
        ∙ ap (λ (o : Option ℕ). comes_first (take_unless m k a o).0) (sym of_it.broken ∙ whole)
        ∙ pages_late m k a (left_of m a)

-- a call that failed, or met a bad page
pub take_fails : (shown : Machine → Type 0) (l : List (Option Running)) (b : Captures) (m : Machine) (k : ℕ) (r : Running) (f : StorageFault) → 1 ≤ k → ShowsArchives l b m → running_of l k ≡ Some r → r.broken ≡ None
    → (f ≡ NoMemory → ⊥) → (f ≡ Stopped → ⊥) → Answers m shown (take_turn m k) (Err f)
take_fails shown l b m k r Failed from s is whole memory only = late l b m k r from s is whole
take_fails shown l b m k r (Bad chunk page) from s is whole memory only = late l b m k r from s is whole
take_fails shown l b m k r NoMemory from s is whole memory only = absurd (memory refl)
take_fails shown l b m k r Stopped from s is whole memory only = absurd (only refl)

-- ---- a page

-- the spaces of one of them are up
pub one_up : (v : Installation) (g : Behind) (l : List (Option Running)) (k : ℕ) (r : Running) → AreAllUp v.anchor l → running_of l k ≡ Some r → AreUp r.cursor (pages_of v.anchor g)
one_up v g l k r up is space has = up k space (ap (λ (o : Option Running). runs_in space o) is ∙ has)

pub some_left : (n : ℕ) → (n ≡ 0 → ⊥) → 0 < n
some_left zero none = absurd (none refl)
some_left (suc n) none = omega arith

module _ (opened : ℕ) (v : Installation) (seats : List Seat) (registers : Registers) (l : List (Option Running)) (m : Machine) (earlier : ℕ → Record) (k : ℕ) (r : Running)
    (from : 1 ≤ k) (to : k ≤ 4) (tells : Tells opened v seats registers l m) (up : AreAllUp v.anchor l) (is : running_of l k ≡ Some r) (whole : r.broken ≡ None) where
  -- the page that the disk gives is of one of the archive's spaces
  in_space : (o : Option (List ℕ)) (b : Bool) (space page : ℕ) (bytes : List ℕ) → (let i : Option (List ℕ) = (if b then o else None) in i) ≡ Some bytes → b ≡ true
  in_space o true space page bytes some = refl
  in_space o false space page bytes some = absurd (let clash : None ≡ Some bytes = some in cc)

  first : (place : ℕ × ℕ) (bytes : List ℕ) → IsFirstTaken (config_of v) r.cursor v.store.before (pages_of v.anchor (behind_of earlier m)) place bytes → IsFirstTaken (config_in m) r.cursor v.store.before (pages_of v.anchor (behind_of earlier m)) place bytes
  first place bytes f = subst (λ (c : Config). IsFirstTaken c r.cursor v.store.before (pages_of v.anchor (behind_of earlier m)) place bytes) tells.0.storage.config f

  pub page_tells : (w : Installation) (left : List (Option Running)) (place : ℕ × ℕ) (bytes : List ℕ) → IsFirstTaken (config_of v) r.cursor v.store.before (pages_of v.anchor (behind_of earlier m)) place bytes
      → w ≡ with_store v (with_passed v.store (Some place))
      → (archives r.cursor place.0 ≡ true → precedes place r.cursor.next ≡ false → 0 < r.cursor.left → r.passed + r.cursor.left < 2 ^ 32 → left ≡ with_running k (Some (passed_on r place.0 place.1)) l)
      → (PageIs place.0 place.1 ≡ (take_turn m k).0) × Tells opened w seats registers left (take_turn m k).1
  page_tells w left place bytes f step passed =
      let g = pages_of v.anchor (behind_of earlier m) in
      let b = v.store.before in
      let here = first place bytes f in
      let ups = one_up v (behind_of earlier m) l k r up is in
      let may = may_pass l b m k r g place bytes from tells.1 is whole (λ space page e. refl) ups here in
      let turn = take_shown l b m k r g place bytes from to tells.1 is whole (λ space page e. refl) ups here in
      let within = in_space (captured_or_now (image_of b.held place.0 place.1) r.cursor g place.0 place.1) (archives r.cursor place.0) place.0 place.1 bytes here.image in (
        sym turn.0,
        (
          images_show opened v w seats registers (take_turn m k).1 (without (is_of place.0 place.1) b) step (take_shows opened v seats registers m tells.0 k (archive_of m k)),
          subst (λ (x : List (Option Running)). ShowsArchives x w.store.before (take_turn m k).1) (sym (passed within may.0 may.1 may.2))
              (subst (λ (c : Captures). ShowsArchives (with_running k (Some (passed_on r place.0 place.1)) l) c (take_turn m k).1) (sym (ap (λ (x : Installation). x.store.before) step)) turn.1),
        ),
      )

  -- with the bytes as at the cut
  pub page_image : (place : ℕ × ℕ) (bytes : List ℕ) → IsFirstTaken (config_of v) r.cursor v.store.before (pages_of v.anchor (behind_of earlier m)) place bytes → IsImage m (archive_of m k) (PageIs place.0 place.1) bytes
  page_image place bytes f = go (archive_there l v.store.before m k r from tells.1 is)
    where
      go : (a : Archive) × (archive_of m k ≡ Some a) × IsArchive r m a → IsImageOf m (archive_of m k) place.0 place.1 bytes
      go (a, at, of_it) =
          let turn = take_shown l v.store.before m k r (pages_of v.anchor (behind_of earlier m)) place bytes from to tells.1 is whole (λ space page e. refl) (one_up v (behind_of earlier m) l k r up is) (first place bytes f) in
          subst (λ (o : Option Archive). IsImageOf m o place.0 place.1 bytes) (sym at) (turn.2 ∙ ap (λ (cut : ℕ). page_bytes (page_upto m cut place.0 place.1)) of_it.follows.of_it.cut)

  -- no page is left
  pub none_tells : (0 < r.cursor.left → NoneLeft (config_of v) r.cursor v.store.before (pages_of v.anchor (behind_of earlier m))) → take_turn m k ≡ (AllTaken, m)
  none_tells none = by_count r.cursor.left refl
    where
      by_count : (n : ℕ) → r.cursor.left ≡ n → take_turn m k ≡ (AllTaken, m)
      by_count zero e = none_left_shown l v.store.before m k r from tells.1 is whole e
      by_count (suc n) e =
          let g = pages_of v.anchor (behind_of earlier m) in
          let none_here : NoneLeft (config_in m) r.cursor v.store.before g = subst (λ (c : Config). NoneLeft c r.cursor v.store.before g) tells.0.storage.config (none (omega (arith, e))) in
          (none_taken_shown l v.store.before m k r g from tells.1 is whole (λ space page u. refl) (one_up v (behind_of earlier m) l k r up is) none_here).0

  -- and nothing has changed
  pub none_told : (w : Installation) → w ≡ v → take_turn m k ≡ (AllTaken, m) → (AllTaken ≡ (take_turn m k).0) × Tells opened w seats registers l (take_turn m k).1
  none_told w same turn =
      subst (λ (x : Installation). (AllTaken ≡ (take_turn m k).0) × Tells opened x seats registers l (take_turn m k).1) (sym same)
      (subst (λ (t : Reply × Machine). (AllTaken ≡ t.0) × Tells opened v seats registers l t.1) (sym turn) (refl, tells))
