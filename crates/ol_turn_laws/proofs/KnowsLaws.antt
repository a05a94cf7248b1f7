-- The spaces of running archives are up, and the space of which a warm restore is under way is down: each turn keeps that.
use Rattle.std.specs.List.{list_any, range_with_len}
use Rattle.std.specs.Prelude.{All, Bool, List, None, Option, Some, [], false, filter, fold, if◌then◌else◌, is_some, length, map, nat_lt, not, slice_index_or, slice_set, suc, true, unwrap_or, zero, ℕ, ◌&&◌, ◌+◌, ◌-◌, ◌==◌, ◌∷◌, ◌≡◌}
use Rattle.std.proofs.Common.{ap, inl, inr, refl, subst, sym, ◌∙◌}
use Rattle.std.proofs.lemmas.Bool.{cases_Bool, eqb-true}
use Rattle.std.proofs.lemmas.List.Elements.{All-head, All-tail}
use Rattle.ol_values.specs.declared.event.Event.{Event}
use Rattle.ol_values.specs.declared.event.Known.{Known}
use Rattle.ol_values.specs.declared.event.Reply.{Reply}
use Rattle.ol_values.specs.declared.event.Reply.TheVariants.{Archiving, NoParent, NotDown, SpaceDown, Warming as WarmingUpTo}
use Rattle.ol_values.specs.declared.history.Actor.{Actor}
use Rattle.ol_values.specs.declared.history.Entry.{Entry}
use Rattle.ol_values.specs.declared.record.Record.{Record}
use Rattle.ol_values.specs.declared.record.Record.TheVariants.{Begin as BeginRecord, Change, Commit as CommitRecord, Rolled, Undo}
use Rattle.ol_values.specs.Blocks.{Saved}
use Rattle.ol_values.specs.Config.{Config}
use Rattle.ol_rules.specs.Lasting.{SpaceState, is_up, space_state, space_up}
use Rattle.ol_rules.specs.Ring.{LogRange}
use Rattle.ol_rules.specs.Shelf.{Shelf}
use Rattle.ol_model.specs.ArchiveTurns.{cancel_at, end_at, first_space, kept_at, saved_of, spaces_named, start_at, start_with, started, take_at}
use Rattle.ol_model.specs.History.{state_at}
use Rattle.ol_model.specs.Machine.{Archive, Machine, Warming, archive_of, archiver_of, archives_space, config_of, formatted, last_of, low_in}
use Rattle.ol_model.specs.Opening.{Found, due_back, found, opened, redo_step, touch_or_empty, undo_step, with_downs}
use Rattle.ol_model.specs.Steps.{before_change, change_row, needs_checkpoint}
use Rattle.ol_model.specs.Turns.{Given, number_of, turn}
use Rattle.ol_model.specs.WarmTurns.{kept_of, warm_at, warm_end_at, warm_log_at, warm_put_at}
use Rattle.ol_turn_laws.proofs.ApartLaws.{none_found}
use Rattle.ol_turn_laws.proofs.KeptLaws.{Stays, before_stays, cancel_beside, end_beside, history_keeps, take_beside, touch_stays}
use Rattle.ol_turn_laws.proofs.LowLaws.{of_equal}
use Rattle.ol_turn_laws.proofs.SpaceLaws.{Has, NoMore, cancel_no_more, end_no_more, redo_no_more, row_no_more, same_archives, set_has, take_no_more, undo_no_more}
use Rattle.ol_turn_laws.proofs.StepLaws.{unless_all}
use Rattle.ol_turn_laws.proofs.SteadyLaws.{KeptByArchiver, KeptByRestorer, Steady, turn_steady}
use Rattle.ol_turn_laws.specs.Spaces.{KnowsSpaces}

-- where no archive takes a space more, and the same spaces are up beside the same restore
knows_on : (m n : Machine) → NoMore m n → ((space : ℕ) → is_up n.lasting space ≡ is_up m.lasting space) → n.warm ≡ m.warm → KnowsSpaces m → KnowsSpaces n
knows_on m n less up warm h = record {
  archives = λ k space there. up space ∙ h.archives k space (less.less (k - 1) space there);
  warm = λ w is. up w.space ∙ h.warm w (sym warm ∙ is);
}

knows_stays : (m n : Machine) → NoMore m n → Stays m n → KnowsSpaces m → KnowsSpaces n
knows_stays m n less st h = knows_on m n less st.up st.warm h

-- ---- an archive that starts

-- the archive holds none but these spaces
saved_among : (m : Machine) (level space : ℕ) (spaces range : List ℕ)
    → list_any (λ (v : Saved). v.space == space) (map (λ s. let r : Saved = record { space = s; parent = (kept_at m level s).number; base = (kept_at m level s).cut } in r) (filter (λ s. list_any (λ t. t == s) spaces) range)) ≡ true
    → list_any (λ t. t == space) spaces ≡ true
saved_among m level space spaces [] there = absurd (let never : false ≡ true = there in cc)
saved_among m level space spaces (s ∷ range) there =
    elim (cases_Bool (list_any (λ t. t == s) spaces)) [
      | inl e ↦
          elim (cases_Bool (s == space)) [
            | inl f ↦ subst (λ (x : ℕ). list_any (λ t. t == x) spaces ≡ true) (eqb-true s space f) e
            | inr f ↦ saved_among m level space spaces range (rw (e, f) at there)
          ]
      | inr e ↦ saved_among m level space spaces range (rw (e) at there)
    ]

one_of : (test : ℕ → Bool) (space : ℕ) (spaces : List ℕ) → All (λ s. test s ≡ false) spaces → list_any (λ t. t == space) spaces ≡ true → test space ≡ false
one_of test space [] all there = absurd (let never : false ≡ true = there in cc)
one_of test space (s ∷ spaces) all there =
    elim (cases_Bool (s == space)) [
      | inl e ↦ subst (λ (x : ℕ). test x ≡ false) (eqb-true s space e) (All-head (λ x. test x ≡ false) s spaces all)
      | inr e ↦ one_of test space spaces (All-tail (λ x. test x ≡ false) s spaces all) (rw (e) at there)
    ]

unnot : (b : Bool) → not b ≡ false → b ≡ true
unnot true e = refl
unnot false e = absurd cc

started_knows : (m : Machine) (k level : ℕ) (spaces : List ℕ) → All (λ s. not (is_up m.lasting s) ≡ false) spaces → KnowsSpaces m → KnowsSpaces (started m k level (saved_of m level spaces)).1
started_knows m k level spaces all h = record {
  archives = λ j space there.
      elim (set_has m.archives (k - 1) (j - 1) space (Some a) there) [
        | inl e ↦ unnot (is_up m.lasting space) (one_of (λ s. not (is_up m.lasting s)) space spaces all (saved_among m level space spaces (range_with_len 0 (length (config_of m).spaces)) e.1))
        | inr e ↦ h.archives j space e
      ];
  warm = λ w is. h.warm w is;
}
  where
    a : Archive
    a = record { number = m.lasting.next_archive; level = level; cut = last_of m; low = low_in m; spaces = saved_of m level spaces; passed = 0; broken = None }

start_with_knows : (m : Machine) (k level : ℕ) (spaces : Option (List ℕ)) → KnowsSpaces m → KnowsSpaces (start_with m k level spaces).1
start_with_knows m k level None h = h
start_with_knows m k level (Some spaces) h =
    let up : Bool × Reply = first_space (λ s. not (is_up m.lasting s)) SpaceDown spaces in
    let held : Bool × Reply = first_space (λ s. is_some (archiver_of m s)) (λ s. Archiving (unwrap_or (archiver_of m s) 0)) spaces in
    let parent : Bool × Reply = first_space (λ s. nat_lt 0 level && ((kept_at m level s).number == 0)) (λ s. NoParent s (level - 1)) spaces in
    unless_all KnowsSpaces m (up ∷ held ∷ parent ∷ []) (started m k level (saved_of m level spaces)) h
    (λ all. started_knows m k level spaces (none_found (λ s. not (is_up m.lasting s)) spaces (All-head (λ (r : Bool × Reply). r.0 ≡ false) up (held ∷ parent ∷ []) all)) h)

start_knows : (m : Machine) (k level : ℕ) (names : List (List ℕ)) (a : Option Archive) → KnowsSpaces m → KnowsSpaces (start_at m k level names a).1
start_knows m k level names (Some a) h = h
start_knows m k level names None h = start_with_knows m k level (spaces_named (config_of m) names) h

-- ---- a warm restore

some_same : (w v : Warming) → Some w ≡ Some v → w ≡ v
some_same w v e = ap (λ (o : Option Warming). unwrap_or o w) e

warmed : (m : Machine) (w : Option Warming) → KnowsSpaces m → ((v : Warming) → w ≡ Some v → is_up m.lasting v.space ≡ false) → KnowsSpaces (record m { warm = w })
warmed m w h down = record { archives = h.archives; warm = down }

warm_knows : (m : Machine) (space : Option ℕ) → KnowsSpaces m → KnowsSpaces (warm_at m space).1
warm_knows m None h = h
warm_knows m (Some space) h =
    let w : Warming = record { space = space; put = 0 } in
    unless_all KnowsSpaces m ((is_up m.lasting space, NotDown space) ∷ []) (WarmingUpTo space (space_state m.lasting space).down_at, record m { warm = Some w }) h
    (λ all. warmed m (Some w) h (λ v is.
    let down : is_up m.lasting space ≡ false = All-head (λ (r : Bool × Reply). r.0 ≡ false) (is_up m.lasting space, NotDown space) [] all in
    subst (λ (x : Warming). is_up m.lasting x.space ≡ false) (some_same w v is) down))

read_knows : (m : Machine) (position : ℕ) (p : Option LogRange) → KnowsSpaces m → KnowsSpaces (warm_log_at m position p).1
read_knows m position None h = warmed m None h (λ v is. absurd cc)
read_knows m position (Some p) h = h

put_knows : (m : Machine) (page : ℕ) (w : Option Warming) → m.warm ≡ w → KnowsSpaces m → KnowsSpaces (warm_put_at m page w).1
put_knows m page None is h = h
put_knows m page (Some w) is h =
    let next : Warming = record w { put = w.put + 1 } in
    warmed m (Some next) h (λ v same. subst (λ (x : Warming). is_up m.lasting x.space ≡ false) (some_same next v same) (h.warm w is))

-- a space that comes up leaves those up that were
up_after : (l : List SpaceState) (i j : ℕ) (x : SpaceState) → x.up ≡ true → (slice_index_or l j space_up).up ≡ true → (slice_index_or (slice_set l i x) j space_up).up ≡ true
up_after [] i j x new old = old
up_after (s ∷ l) zero zero x new old = new
up_after (s ∷ l) zero (suc j) x new old = old
up_after (s ∷ l) (suc i) zero x new old = old
up_after (s ∷ l) (suc i) (suc j) x new old = up_after l i j x new old

finish_knows : (shelf : Shelf) (m : Machine) (known : Known) (w : Option Warming) → KnowsSpaces m → KnowsSpaces (warm_end_at shelf m known w).1
finish_knows shelf m known None h = h
finish_knows shelf m known (Some w) h = record {
  archives = λ k space there. up_after m.lasting.spaces w.space space (record { up = true; down_at = 0; zero = kept_of known.zero; one = kept_of known.one }) refl (h.archives k space there);
  warm = λ v is. absurd cc;
}

-- ---- the turns

pub turn_knows : (shelf : Shelf) (g : Given) (m : Machine) (n : ℕ) (actor : Actor) (event : Event) → KnowsSpaces m → KnowsSpaces (turn shelf g m n actor event).1
turn_knows shelf g m n actor event h = turn_steady KnowsSpaces shelf g m n actor event steps by_archiver by_restorer h
  where
    k : ℕ
    k = number_of actor

    steps : Steady KnowsSpaces k
    steps = record {
      rests = λ a b rests x. knows_stays a b (same_archives a b rests.archives) rests.stays x;
      seat = λ s a x. record { archives = x.archives; warm = x.warm };
      add = λ r a x. record { archives = x.archives; warm = x.warm };
      row = λ i rid r a x. knows_on a (change_row i rid r a) (row_no_more a i rid r) (before_stays i (rid.space, rid.page) a).up (before_stays i (rid.space, rid.page) a).warm x;
    }

    by_archiver : KeptByArchiver KnowsSpaces m k
    by_archiver = record {
      start = λ level names. start_knows m k level names (archive_of m k) h;
      take = knows_stays m (take_at m k (archive_of m k)).1 (take_no_more m k (archive_of m k) refl) (take_beside m k (archive_of m k)).stays h;
      finish = knows_stays m (end_at m k (archive_of m k)).1 (end_no_more m k (archive_of m k)) (end_beside m k (archive_of m k)).stays h;
      cancel = λ count why. knows_stays m (cancel_at count m k why (archive_of m k)).1 (cancel_no_more count m k why (archive_of m k)) (cancel_beside count m k why (archive_of m k)).stays h;
    }

    by_restorer : KeptByRestorer KnowsSpaces shelf m
    by_restorer = record {
      start = λ space. warm_knows m space h;
      read = λ position p. read_knows m position p h;
      put = λ page. put_knows m page m.warm refl h;
      finish = λ known. finish_knows shelf m known m.warm h;
      cancel = warmed m None h (λ v is. absurd cc);
    }

pub history_knows : (shelf : Shelf) (m : Machine) (h : List Entry) → KnowsSpaces m → KnowsSpaces (state_at shelf m h)
history_knows shelf m h knows = history_keeps KnowsSpaces (λ e. Unit {0}) shelf (λ g n k actor event u x. turn_knows shelf g n k actor event x) h m (λ k d lt. tt) knows

pub formatted_knows : (c : Config) → KnowsSpaces (formatted c)
formatted_knows c = record {
  archives = λ k space there. absurd (let never : false ≡ true = sym (ap (λ (o : Option Archive). archives_space space o) (of_equal 4 (k - 1) None)) ∙ there in cc);
  warm = λ w is. absurd cc;
}

-- ---- openings

-- no archive and no warm restore is under way
record Idle (m : Machine) : Type 0 where
  free : (j space : ℕ) → Has m.archives j space → ⊥
  warm : m.warm ≡ None

idle_on : (m n : Machine) → NoMore m n → n.warm ≡ m.warm → Idle m → Idle n
idle_on m n less warm idle = record { free = λ j space there. idle.free j space (less.less j space there); warm = warm ∙ idle.warm }

touched_warm : (p : ℕ × ℕ) (m : Machine) → (touch_or_empty p m).warm ≡ m.warm
touched_warm p m =
    let emptied : Machine = record m { checkpoint = record m.checkpoint { touched = [] } } in
    let ready : Machine = if needs_checkpoint m p then emptied else m in
    (touch_stays p ready).warm ∙ elim (needs_checkpoint m p) as (λ b. (let t : Machine = (if b then emptied else m) in t).warm ≡ m.warm) [ true ↦ refl | false ↦ refl ]

redone_warm : (up : Bool) (p : ℕ × ℕ) (m : Machine) → (let t : Machine = (if up then touch_or_empty p m else m) in t).warm ≡ m.warm
redone_warm true p m = touched_warm p m
redone_warm false p m = refl

redo_idle : (m : Machine) (r : Record) → Idle m → Idle (redo_step m r)
redo_idle m r idle = idle_on m (redo_step m r) (redo_no_more m r) (same r) idle
  where
    same : (r : Record) → (redo_step m r).warm ≡ m.warm
    same (BeginRecord n) = refl
    same (Change n rid before after) = redone_warm (is_up m.lasting rid.space) (rid.space, rid.page) m
    same (Undo n rid value) = redone_warm (is_up m.lasting rid.space) (rid.space, rid.page) m
    same (CommitRecord n) = refl
    same (Rolled n) = refl

undo_idle : (m : Machine) (r : Record) → Idle m → Idle (undo_step m r)
undo_idle m r idle = idle_on m (undo_step m r) (undo_no_more m r) (same r) idle
  where
    undone : (up : Bool) (p : ℕ × ℕ) → (let t : Machine = (if up then before_change 0 p m else m) in t).warm ≡ m.warm
    undone true p = (before_stays 0 p m).warm
    undone false p = refl

    same : (r : Record) → (undo_step m r).warm ≡ m.warm
    same (BeginRecord n) = refl
    same (Change n rid before after) = refl
    same (Undo n rid value) = undone (is_up m.lasting rid.space) (rid.space, rid.page)
    same (CommitRecord n) = refl
    same (Rolled n) = refl

all_idle : (step : Machine → Record → Machine) → ((m : Machine) (r : Record) → Idle m → Idle (step m r)) → (records : List Record) (m : Machine) → Idle m → Idle (fold step m records)
all_idle step keeps [] m idle = idle
all_idle step keeps (r ∷ records) m idle = all_idle step keeps records (step m r) (keeps m r idle)

formatted_idle : (c : Config) (f : Found) → Idle (with_downs f.downs (found c f))
formatted_idle c f = record {
  free = λ j space there. (let never : false ≡ true = sym (ap (λ (o : Option Archive). archives_space space o) (of_equal 4 j None)) ∙ there in absurd cc);
  warm = refl;
}

pub opened_knows : (c : Config) (f : Found) → KnowsSpaces (opened c f)
unfolding opened
opened_knows c f =
    let m : Machine = with_downs f.downs (found c f) in
    let n : Machine = fold redo_step m f.redo in
    let idle : Idle (fold undo_step n (due_back m)) = all_idle undo_step undo_idle (due_back m) n (all_idle redo_step redo_idle f.redo m (formatted_idle c f)) in
    record {
      archives = λ k space there. absurd (idle.free (k - 1) space there);
      warm = λ w is. absurd (let none : None ≡ Some w = sym idle.warm ∙ is in cc);
    }
