-- What turns leave as it was: the work of the engine and its sessions, through the steps that turns are made of.
use Rattle.std.specs.Prelude.{All, Bool, List, None, Option, Some, [], false, fold, if◌then◌else◌, is_some, length, nat_lt, not, refl, slice_index_or, slice_set, suc, true, unwrap_or, zero, ℕ, ◌&&◌, ◌++◌, ◌+◌, ◌-◌, ◌<◌, ◌==◌, ◌∷◌, ◌≡◌, ◌≢◌, ◌≤◌}
use Rattle.std.proofs.Common.{ap, arith, ◌∙◌}
use Rattle.std.proofs.lemmas.List.{get_or-set_other, get_or-set_same}
use Rattle.std.proofs.lemmas.List.Elements.{All-head, All-tail}
use Rattle.ol_values.specs.declared.event.Event.{Event}
use Rattle.ol_values.specs.declared.event.Reply.{Reply}
use Rattle.ol_values.specs.declared.history.Actor.{Actor}
use Rattle.ol_values.specs.declared.history.Entry.{Entry}
use Rattle.ol_values.specs.declared.record.Record.{Record}
use Rattle.ol_values.specs.declared.record.Rid.{Rid}
use Rattle.ol_values.specs.declared.event.Reply.TheVariants.{Archiving, LogsFull, NoParent, NothingToBack, SpaceDown, Switched}
use Rattle.ol_values.specs.declared.event.Why.{Why}
use Rattle.ol_values.specs.Blocks.{Saved}
use Rattle.ol_rules.specs.Lasting.{Kept, Lasting, SpaceState, is_up, space_state, space_up, with_space}
use Rattle.ol_rules.specs.Ring.{Use, blocker, free_after_switch, switched_off, use_numbered}
use Rattle.ol_rules.specs.Shelf.{Shelf}
use Rattle.ol_model.specs.Answering.{unless}
use Rattle.ol_model.specs.ArchiveTurns.{cancel_at, end_at, end_unless, end_with, first_space, keep, kept_after, kept_at, saved_of, spaces_named, start_at, start_with, started, take_at, take_page, take_unless}
use Rattle.ol_model.specs.History.{state_after, state_at}
use Rattle.ol_model.specs.LogTurns.{can_switch, checkpoint_turn, clean_at, copy_at, done_at, pick_at, switch_turn, uncopied_at}
use Rattle.ol_model.specs.Machine.{Archive, Machine, Picking, Seat, Work, archive_of, archiver_of, config_of, last_of, low_in, no_seat, owed_in, reuse_of, seat_of, with_archive, with_lasting, with_ring, with_seat}
use Rattle.ol_model.specs.Steps.{before_change, change_row, is_page_in, flush, make_checkpoint, needs_checkpoint, touch}
use Rattle.ol_model.specs.Turns.{DeviceFault, Given, given_by, comes_first, fault_reply, faulted, number_of, turn, turn_of, turn_unless}
use Rattle.ol_model.specs.Waiting.{left_of}

-- ---- an answer behind refusals

-- what holds of the state before and after holds after a turn that may refuse
pub unless_keeps : (P : Machine → Type 0) (m : Machine) (tests : List (Bool × Reply)) (answer : Reply × Machine) → P m → P answer.1 → P (unless m tests answer).1
unless_keeps P m [] answer before after = after
unless_keeps P m (r ∷ tests) answer before after =
    elim r.0 as (λ b. P (if b then (r.1, m) else unless m tests answer).1) [ true ↦ before | false ↦ unless_keeps P m tests answer before after ]

-- ---- entries of a list

-- entry k from 1 is set: entry j is as it was
pub other_entry : {A : Type 0} (l : List A) (k j : ℕ) (x none : A) → 1 ≤ j → 1 ≤ k → j ≢ k → slice_index_or (slice_set l (k - 1) x) (j - 1) none ≡ slice_index_or l (j - 1) none
other_entry l k j x none from_j from_k differ = get_or-set_other l (k - 1) (j - 1) x none (λ e. differ (omega (arith, e, from_j, from_k)))

pub other_seat : (m : Machine) (k j : ℕ) (s : Seat) → 1 ≤ j → 1 ≤ k → j ≢ k → seat_of (with_seat k s m) j ≡ seat_of m j
other_seat m k j s from_j from_k differ = other_entry m.work.sessions k j s no_seat from_j from_k differ

pub own_seat : (m : Machine) (k : ℕ) (s : Seat) → k - 1 < length m.work.sessions → seat_of (with_seat k s m) k ≡ s
own_seat m k s within = get_or-set_same m.work.sessions (k - 1) s no_seat within

pub other_archive : (m : Machine) (k j : ℕ) (a : Option Archive) → 1 ≤ j → 1 ≤ k → j ≢ k → archive_of (with_archive k a m) j ≡ archive_of m j
other_archive m k j a from_j from_k differ = other_entry m.archives k j a None from_j from_k differ

-- an archiver whose archive is put away has none
pub no_archive : (m : Machine) (k : ℕ) → archive_of (with_archive k None m) k ≡ None
no_archive m k = go m.archives (k - 1)
  where
    go : (l : List (Option Archive)) (i : ℕ) → slice_index_or (slice_set l i None) i None ≡ None
    go [] i = refl
    go (a ∷ l) zero = refl
    go (a ∷ l) (suc i) = go l i

-- ---- the work, the incarnation, which spaces are up, and the warm restore stay

pub record Stays (m n : Machine) : Type 0 where
  pub fixed : n.fixed ≡ m.fixed
  pub work : n.work ≡ m.work
  pub incarnation : n.lasting.incarnation ≡ m.lasting.incarnation
  pub up : (space : ℕ) → is_up n.lasting space ≡ is_up m.lasting space
  pub warm : n.warm ≡ m.warm

pub stays : (m : Machine) → Stays m m
stays m = record { fixed = refl; work = refl; incarnation = refl; up = λ space. refl; warm = refl }

-- ---- changes of rows

pub touch_stays : (p : ℕ × ℕ) (m : Machine) → Stays m (touch p m)
touch_stays p m =
    elim (is_page_in p m.checkpoint.touched) as (λ b. Stays m (let t : Machine = (if b then m else record m { checkpoint = record m.checkpoint { touched = m.checkpoint.touched ++ p ∷ [] } }) in t)) [
      | true ↦ stays m
      | false ↦ record { fixed = refl; work = refl; incarnation = refl; up = λ space. refl; warm = refl }
    ]

ready_stays : (p : ℕ × ℕ) (m : Machine) → Stays m (if needs_checkpoint m p then make_checkpoint m else m)
ready_stays p m =
    elim (needs_checkpoint m p) as (λ b. Stays m (let t : Machine = (if b then make_checkpoint m else m) in t)) [
      | true ↦ record { fixed = refl; work = refl; incarnation = refl; up = λ space. refl; warm = refl }
      | false ↦ stays m
    ]

stays_on : (x y z : Machine) → Stays x y → Stays y z → Stays x z
stays_on x y z one two = record {
  fixed = two.fixed ∙ one.fixed;
  work = two.work ∙ one.work;
  incarnation = two.incarnation ∙ one.incarnation;
  up = λ space. two.up space ∙ one.up space;
  warm = two.warm ∙ one.warm;
}

-- what a change does before its record
pub before_stays : (n : ℕ) (p : ℕ × ℕ) (m : Machine) → Stays m (before_change n p m)
before_stays n p m =
    let first : Machine = if needs_checkpoint m p then make_checkpoint m else m in
    let both = stays_on m first (touch p first) (ready_stays p m) (touch_stays p first) in
    record { fixed = both.fixed; work = both.work; incarnation = both.incarnation; up = both.up; warm = both.warm }

pub before_work : (n : ℕ) (p : ℕ × ℕ) (m : Machine) → (before_change n p m).work ≡ m.work
before_work n p m = (before_stays n p m).work

pub change_sessions : (n : ℕ) (rid : Rid) (r : Record) (m : Machine) → (change_row n rid r m).work.sessions ≡ m.work.sessions
change_sessions n rid r m = ap (λ (w : Work). w.sessions) (before_work n (rid.space, rid.page) m)

-- ---- the turns of archivers and of the log backer

-- all that stays, and so does the archive of each archiver but archiver k
pub record Beside (k : ℕ) (m n : Machine) : Type 0 where
  pub stays : Stays m n
  pub archives : (j : ℕ) → 1 ≤ k → 1 ≤ j → j ≢ k → archive_of n j ≡ archive_of m j

beside : (k : ℕ) (m : Machine) → Beside k m m
beside k m = record { stays = stays m; archives = λ j from_k from_j differ. refl }

-- a state with another archive of archiver k, where else only the log, the checkpoint or the lasting state changed
beside_put : (k : ℕ) (m n : Machine) (a : Option Archive) → n.fixed ≡ m.fixed → n.work ≡ m.work → n.lasting.incarnation ≡ m.lasting.incarnation → ((space : ℕ) → is_up n.lasting space ≡ is_up m.lasting space) → n.warm ≡ m.warm → n.archives ≡ m.archives → Beside k m (with_archive k a n)
beside_put k m n a fixed work incarnation up warm archives = record {
  stays = record { fixed = fixed; work = work; incarnation = incarnation; up = up; warm = warm };
  archives = λ j from_k from_j differ. other_archive n k j a from_j from_k differ ∙ ap (λ (l : List (Option Archive)). slice_index_or l (j - 1) None) archives;
}

start_with_beside : (m : Machine) (k level : ℕ) (spaces : Option (List ℕ)) → Beside k m (start_with m k level spaces).1
start_with_beside m k level None = beside k m
start_with_beside m k level (Some spaces) =
    let tests : List (Bool × Reply) =
    first_space (λ s. not (is_up m.lasting s)) SpaceDown spaces
    ∷ first_space (λ s. is_some (archiver_of m s)) (λ s. Archiving (unwrap_or (archiver_of m s) 0)) spaces
    ∷ first_space (λ s. nat_lt 0 level && ((kept_at m level s).number == 0)) (λ s. NoParent s (level - 1)) spaces
    ∷ [] in
    unless_keeps (Beside k m) m tests (started m k level (saved_of m level spaces)) (beside k m) (began (saved_of m level spaces))
  where
    began : (spaces : List Saved) → Beside k m (started m k level spaces).1
    began spaces =
        let a : Archive = record { number = m.lasting.next_archive; level = level; cut = last_of m; low = low_in m; spaces = spaces; passed = 0; broken = None } in
        beside_put k m (with_lasting (record m.lasting { next_archive = a.number + 1 }) (make_checkpoint m)) (Some a) refl refl refl (λ s. refl) refl refl

pub start_beside : (m : Machine) (k level : ℕ) (names : List (List ℕ)) (a : Option Archive) → Beside k m (start_at m k level names a).1
start_beside m k level names (Some a) = beside k m
start_beside m k level names None = start_with_beside m k level (spaces_named (config_of m) names)

page_beside : (m : Machine) (k : ℕ) (a : Archive) (pages : List (ℕ × ℕ)) → Beside k m (take_page m k a pages).1
page_beside m k a [] = beside k m
page_beside m k a (p ∷ rest) = beside_put k m m (Some (record a { passed = a.passed + 1 })) refl refl refl (λ s. refl) refl refl

take_unless_beside : (m : Machine) (k : ℕ) (a : Archive) (broken : Option ℕ) → Beside k m (take_unless m k a broken).1
take_unless_beside m k a (Some entry) = beside_put k m m None refl refl refl (λ s. refl) refl refl
take_unless_beside m k a None = page_beside m k a (left_of m a)

pub take_beside : (m : Machine) (k : ℕ) (a : Option Archive) → Beside k m (take_at m k a).1
take_beside m k None = beside k m
take_beside m k (Some a) = take_unless_beside m k a a.broken

-- an archive that ends makes its spaces known, and changes no more of the lasting state
keep_incarnation : (a : Archive) (l : Lasting) → (keep a l).incarnation ≡ l.incarnation
keep_incarnation a l = go a.spaces l
  where
    go : (spaces : List Saved) (l : Lasting)
        → (fold (λ (n : Lasting) (s : Saved). with_space s.space (kept_after a.level (record { number = a.number; cut = a.cut }) (space_state n s.space)) n) l spaces).incarnation ≡ l.incarnation
    go [] l = refl
    go (s ∷ spaces) l = go spaces (with_space s.space (kept_after a.level (record { number = a.number; cut = a.cut }) (space_state l s.space)) l)

kept_up : (level : ℕ) (kept : Kept) (s : SpaceState) → (kept_after level kept s).up ≡ s.up
kept_up zero kept s = refl
kept_up (suc zero) kept s = refl
kept_up (suc (suc level)) kept s = refl

set_up : (l : List SpaceState) (i j : ℕ) (x : SpaceState) → x.up ≡ (slice_index_or l i space_up).up → (slice_index_or (slice_set l i x) j space_up).up ≡ (slice_index_or l j space_up).up
set_up [] i j x same = refl
set_up (s ∷ l) zero zero x same = same
set_up (s ∷ l) zero (suc j) x same = refl
set_up (s ∷ l) (suc i) zero x same = refl
set_up (s ∷ l) (suc i) (suc j) x same = set_up l i j x same

keep_up : (a : Archive) (l : Lasting) (space : ℕ) → is_up (keep a l) space ≡ is_up l space
keep_up a l space = go a.spaces l
  where
    kept : Kept
    kept = record { number = a.number; cut = a.cut }

    go : (spaces : List Saved) (l : Lasting) → is_up (fold (λ (n : Lasting) (s : Saved). with_space s.space (kept_after a.level kept (space_state n s.space)) n) l spaces) space ≡ is_up l space
    go [] l = refl
    go (s ∷ spaces) l =
        let x : SpaceState = kept_after a.level kept (space_state l s.space) in
        go spaces (with_space s.space x l) ∙ set_up l.spaces s.space space x (kept_up a.level kept (space_state l s.space))

end_with_beside : (m : Machine) (k : ℕ) (a : Archive) (left : ℕ) → Beside k m (end_with m k a left).1
end_with_beside m k a zero = beside_put k m (with_lasting (keep a m.lasting) m) None refl refl (keep_incarnation a m.lasting) (keep_up a m.lasting) refl refl
end_with_beside m k a (suc n) = beside k m

end_unless_beside : (m : Machine) (k : ℕ) (a : Archive) (broken : Option ℕ) → Beside k m (end_unless m k a broken).1
end_unless_beside m k a (Some entry) = beside_put k m m None refl refl refl (λ s. refl) refl refl
end_unless_beside m k a None = end_with_beside m k a (length (left_of m a))

pub end_beside : (m : Machine) (k : ℕ) (a : Option Archive) → Beside k m (end_at m k a).1
end_beside m k None = beside k m
end_beside m k (Some a) = end_unless_beside m k a a.broken

pub cancel_beside : (count : ℕ) (m : Machine) (k : ℕ) (why : Why) (a : Option Archive) → Beside k m (cancel_at count m k why a).1
cancel_beside count m k why None = beside k m
cancel_beside count m k why (Some a) = beside_put k m m None refl refl refl (λ s. refl) refl refl

-- ---- and the archives too

pub record Rests (m n : Machine) : Type 0 where
  pub stays : Stays m n
  pub archives : n.archives ≡ m.archives

pub rests : (m : Machine) → Rests m m
rests m = record { stays = stays m; archives = refl }

pub checkpoint_rests : (m : Machine) → Rests m (checkpoint_turn m).1
checkpoint_rests m = record { stays = record { fixed = refl; work = refl; incarnation = refl; up = λ space. refl; warm = refl }; archives = refl }

pub clean_rests : (m : Machine) (p : Option (ℕ × ℕ)) → Rests m (clean_at m p).1
clean_rests m None = rests m
clean_rests m (Some p) = record { stays = record { fixed = refl; work = refl; incarnation = refl; up = λ space. refl; warm = refl }; archives = refl }

pub pick_rests : (m : Machine) (u : Option Use) → Rests m (pick_at m u).1
pick_rests m None = rests m
pick_rests m (Some u) = record { stays = record { fixed = refl; work = refl; incarnation = refl; up = λ space. refl; warm = refl }; archives = refl }

pub copy_rests : (m : Machine) (p : Option Picking) → Rests m (copy_at m p).1
copy_rests m None = rests m
copy_rests m (Some p) = record { stays = record { fixed = refl; work = refl; incarnation = refl; up = λ space. refl; warm = refl }; archives = refl }

pub done_rests : (m : Machine) (p : Option Picking) → Rests m (done_at m p).1
done_rests m None = rests m
done_rests m (Some p) = record { stays = record { fixed = refl; work = refl; incarnation = refl; up = λ space. refl; warm = refl }; archives = refl }

pub uncopied_rests : (count : ℕ) (m : Machine) (why : Why) (p : Option Picking) → Rests m (uncopied_at count m why p).1
uncopied_rests count m why None = rests m
uncopied_rests count m why (Some p) = record { stays = record { fixed = refl; work = refl; incarnation = refl; up = λ space. refl; warm = refl }; archives = refl }

pub switch_rests : (m : Machine) → Rests m (switch_turn m).1
switch_rests m =
    let after = flush m in
    let tests : List (Bool × Reply) =
    (not (can_switch m (use_numbered m.log.ring m.log.ring.uniq)), NothingToBack)
    ∷ (nat_lt (free_after_switch (config_of m) (reuse_of m) m.log.ring) (owed_in m), LogsFull (blocker (config_of m) (reuse_of m) m.log.ring))
    ∷ [] in
    unless_keeps (Rests m) m tests (Switched m.log.ring.uniq, with_ring (switched_off after.log.ring) after) (rests m)
    (record { stays = record { fixed = refl; work = refl; incarnation = refl; up = λ space. refl; warm = refl }; archives = refl })

-- ---- stopped engines and faults

-- what a turn of the table and a stop keep, the turn with its fault keeps
pub turn_keeps : (P : Machine → Type 0) (shelf : Shelf) (g : Given) (m : Machine) (n : ℕ) (actor : Actor) (event : Event)
    → P m → P (record m { stopped = Some n }) → P (turn_of shelf g m n (number_of actor) event).1 → P (turn shelf g m n actor event).1
turn_keeps P shelf g m n actor event here stop after = go m.stopped
  where
    by_fault : (f : Option DeviceFault) (r : Reply × Machine) → P r.1 → P (faulted f m n r).1
    by_fault None r h = h
    by_fault (Some f) r h = elim (comes_first r.0) as (λ b. P (let a : Reply × Machine = (if b then r else (fault_reply f, record m { stopped = Some n })) in a).1) [ true ↦ h | false ↦ stop ]

    go : (o : Option ℕ) → P (turn_unless o shelf g m n (number_of actor) event).1
    go (Some entry) = here
    go None = by_fault g.fault (turn_of shelf g m n (number_of actor) event) after

-- what each turn of a history keeps, the history keeps
pub history_keeps : (P : Machine → Type 0) (Q : Event → Type 0) (shelf : Shelf) → ((g : Given) (m : Machine) (n : ℕ) (actor : Actor) (event : Event) → Q event → P m → P (turn shelf g m n actor event).1)
    → (h : List Entry) (m : Machine) → All (λ (e : Entry). Q e.event) h → P m → P (state_at shelf m h)
history_keeps P Q shelf keeps [] m all p = p
history_keeps P Q shelf keeps (e ∷ h) m all p =
    history_keeps P Q shelf keeps h (state_after shelf m e) (All-tail (λ (x : Entry). Q x.event) e h all)
    (keeps (given_by e.reply) m e.number e.actor e.event (All-head (λ (x : Entry). Q x.event) e h all) p)
