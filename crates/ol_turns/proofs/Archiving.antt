-- Turns of archivers beside the rest: the journal, the rows and the sessions are those.
use Rattle.std.specs.Prelude.{Err, IfOk, IsErrOf, List, None, Ok, OnErr, OnOk, Option, Result, Some, [], false, is_some, nat_lt, not, slice_index_or, suc, unwrap_or, zero, ℕ, ◌&&◌, ◌-◌, ◌==◌, ◌∷◌, ◌≡◌, ◌≤◌}
use Rattle.std.proofs.Common.{ap, arith, refl, subst, sym, ◌∙◌}
use Rattle.ol_values.specs.declared.event.Reply.{Reply}
use Rattle.ol_values.specs.declared.event.Reply.TheVariants.{Archiving, NoParent, SpaceDown}
use Rattle.ol_values.specs.declared.event.Why.{Why}
use Rattle.ol_values.specs.declared.event.Why.TheVariants.{Asked, Fault, Full}
use Rattle.ol_values.specs.declared.record.Record.{Record}
use Rattle.ol_archive_turns.specs.Ending.{AreNumbered}
use Rattle.ol_archive_turns.specs.Turns.{AreAllUp, IsImage, Tells}
use Rattle.ol_engine.proofs.Going.{goes_beside}
use Rattle.ol_engine.specs.Parts.{HasRisen, HasTurns, behind_of}
use Rattle.ol_engine.specs.Turns.{Answers}
use Rattle.ol_free_slots.proofs.Filling.{alike_filled}
use Rattle.ol_free_slots.specs.declared.hints.Hints.{Hints}
use Rattle.ol_free_slots.specs.Filled.{AreFull}
use Rattle.ol_model.specs.ArchiveTurns.{cancel_at, end_at, end_unless, end_with, first_space, kept_at, saved_of, spaces_named, start_at, start_with, started, take_at, take_page, take_unless}
use Rattle.ol_model.specs.History.{is_faulted}
use Rattle.ol_model.specs.Machine.{Archive, Fixed, Machine, Work, archiver_of, config_of, row_in}
use Rattle.ol_model.specs.Turns.{Given, comes_first, given_by}
use Rattle.ol_model.specs.Waiting.{left_of}
use Rattle.ol_ports.specs.Disk.{Past}
use Rattle.ol_rules.specs.Lasting.{is_up}
use Rattle.ol_rules.specs.Start.{row_behind}
use Rattle.ol_values.specs.Config.{Config}
use Rattle.ol_storage.specs.Behind.{Behind}
use Rattle.ol_storage.specs.Causes.{HasStorageCause}
use Rattle.ol_storage.specs.Installation.{Installation, with_store}
use Rattle.ol_storage.specs.Storing.{IsStored}
use Rattle.ol_storage.specs.declared.storage.StorageFault.{StorageFault}
use Rattle.ol_storage.specs.declared.storage.StorageFault.TheVariants.{Bad, Failed, NoMemory, Stopped}
use Rattle.ol_running.specs.declared.running.Running.{Running}
use Rattle.ol_session_turns.specs.Pending.{ArePending}
use Rattle.ol_turn_laws.proofs.KeptLaws.{unless_keeps}
use Rattle.ol_turns.proofs.Goes.{calm_unless}
use Rattle.ol_turns.proofs.Wholes.{places_same, up_same}
use Rattle.ol_txn.specs.Seats.{Seat}
use Rattle.ol_turns.specs.Cores.{IsGoing, IsLow, IsShown, IsToldSurely, is_there}
use Rattle.ol_turns.specs.declared.state.State.{State}

-- the journal, the sessions and what no turn changes are the same, and the engine goes on as it did
pub record SameWork (m n : Machine) : Type 0 where
  pub fixed : n.fixed ≡ m.fixed
  pub work : n.work ≡ m.work
  pub stopped : n.stopped ≡ m.stopped

same_work : (m : Machine) → SameWork m m
same_work m = record { fixed = refl; work = refl; stopped = refl }

pub work_behind : (earlier : ℕ → Record) (m n : Machine) → SameWork m n → behind_of earlier n ≡ behind_of earlier m
work_behind earlier m n same = ap (λ (w : Work). behind_of earlier (record m { work = w })) same.work

pub work_full : (h : Hints) (m n : Machine) → SameWork m n → AreFull h m → AreFull h n
work_full h m n same full = alike_filled h (config_of m) (config_of n) (row_in m) (row_in n) (ap (λ (f : Fixed). f.config) same.fixed) (λ at there. ap (λ (w : Work). row_behind w.start w.records at) same.work) full

-- ---- the turns

take_page_same : (m : Machine) (k : ℕ) (a : Archive) (left : List (ℕ × ℕ)) → SameWork m (take_page m k a left).1
take_page_same m k a [] = same_work m
take_page_same m k a (p ∷ rest) = record { fixed = refl; work = refl; stopped = refl }

take_unless_same : (m : Machine) (k : ℕ) (a : Archive) (broken : Option ℕ) → SameWork m (take_unless m k a broken).1
take_unless_same m k a (Some entry) = record { fixed = refl; work = refl; stopped = refl }
take_unless_same m k a None = take_page_same m k a (left_of m a)

pub take_same : (m : Machine) (k : ℕ) (o : Option Archive) → SameWork m (take_at m k o).1
take_same m k None = same_work m
take_same m k (Some a) = take_unless_same m k a a.broken

end_with_same : (m : Machine) (k : ℕ) (a : Archive) (left : ℕ) → SameWork m (end_with m k a left).1
end_with_same m k a zero = record { fixed = refl; work = refl; stopped = refl }
end_with_same m k a (suc left) = same_work m

end_unless_same : (m : Machine) (k : ℕ) (a : Archive) (broken : Option ℕ) → SameWork m (end_unless m k a broken).1
end_unless_same m k a (Some entry) = record { fixed = refl; work = refl; stopped = refl }
end_unless_same m k a None = end_with_same m k a _

pub end_same : (m : Machine) (k : ℕ) (o : Option Archive) → SameWork m (end_at m k o).1
end_same m k None = same_work m
end_same m k (Some a) = end_unless_same m k a a.broken

pub cancel_same : (count : ℕ) (m : Machine) (k : ℕ) (why : Why) (o : Option Archive) → SameWork m (cancel_at count m k why o).1
cancel_same count m k why None = same_work m
cancel_same count m k why (Some a) = record { fixed = refl; work = refl; stopped = refl }

-- ---- replies

take_page_calm : (m : Machine) (k : ℕ) (a : Archive) (left : List (ℕ × ℕ)) → is_faulted (take_page m k a left).0 ≡ false
take_page_calm m k a [] = refl
take_page_calm m k a (p ∷ rest) = refl

take_unless_calm : (m : Machine) (k : ℕ) (a : Archive) (broken : Option ℕ) → is_faulted (take_unless m k a broken).0 ≡ false
take_unless_calm m k a (Some entry) = refl
take_unless_calm m k a None = take_page_calm m k a (left_of m a)

pub take_calm : (m : Machine) (k : ℕ) (o : Option Archive) → is_faulted (take_at m k o).0 ≡ false
take_calm m k None = refl
take_calm m k (Some a) = take_unless_calm m k a a.broken

end_with_calm : (m : Machine) (k : ℕ) (a : Archive) (left : ℕ) → is_faulted (end_with m k a left).0 ≡ false
end_with_calm m k a zero = refl
end_with_calm m k a (suc left) = refl

end_unless_calm : (m : Machine) (k : ℕ) (a : Archive) (broken : Option ℕ) → is_faulted (end_unless m k a broken).0 ≡ false
end_unless_calm m k a (Some entry) = refl
end_unless_calm m k a None = end_with_calm m k a _

pub end_calm : (m : Machine) (k : ℕ) (o : Option Archive) → is_faulted (end_at m k o).0 ≡ false
end_calm m k None = refl
end_calm m k (Some a) = end_unless_calm m k a a.broken

pub cancel_calm : (count : ℕ) (m : Machine) (k : ℕ) (why : Why) (o : Option Archive) → is_faulted (cancel_at count m k why o).0 ≡ false
cancel_calm count m k why None = refl
cancel_calm count m k Asked (Some a) = refl
cancel_calm count m k (Fault since) (Some a) = refl
cancel_calm count m k Full (Some a) = refl

-- the reply tells the drive's count
pub cancel_plain : (count : ℕ) (m : Machine) (n k : ℕ) (why : Why) (o : Option Archive) → cancel_at (given_by (cancel_at count m k why o).0).count m k why o ≡ cancel_at count m k why o
cancel_plain count m n k why None = refl
cancel_plain count m n k Asked (Some a) = refl
cancel_plain count m n k (Fault since) (Some a) = refl
cancel_plain count m n k Full (Some a) = refl

pub cancel_yields : (count : ℕ) (m : Machine) (k : ℕ) (why : Why) (o : Option Archive) → comes_first (cancel_at count m k why o).0 ≡ false → (g : Given) → comes_first (cancel_at g.count m k why o).0 ≡ false
cancel_yields count m k why None last g = last
cancel_yields count m k Asked (Some a) last g = refl
cancel_yields count m k (Fault since) (Some a) last g = refl
cancel_yields count m k Full (Some a) last g = refl

-- ---- what is shown

pub archive_answers : (earlier : ℕ → Record) (past : Past) (w : Installation) (s : State) (m : Machine) (r : Reply × Machine) (answered : Result Reply StorageFault)
    → Answers m (Tells s.opened w s.locks s.registers s.archives) r answered → SameWork m r.1 → OnOk answered (IsStored past w (behind_of earlier m)) → (IsErrOf answered NoMemory → IsStored past w (behind_of earlier m)) → AreFull s.hints m → m.stopped ≡ None
    → Answers m (λ k. IsShown earlier past w s k) r answered
archive_answers earlier past w s m r (Ok q) (is, tells) same stored memory full going = (
  is,
  record {
    shows = tells.0;
    archives = tells.1;
    stored = subst (λ (b : Behind). IsStored past w b) (sym (work_behind earlier m r.1 same)) stored;
    full = work_full s.hints m r.1 same full;
    going = same.stopped ∙ going;
  },
)
archive_answers earlier past w s m r (Err Failed) last same stored memory full going = last
archive_answers earlier past w s m r (Err (Bad chunk page)) last same stored memory full going = last
archive_answers earlier past w s m r (Err NoMemory) tells same stored memory full going = record { shows = tells.0; archives = tells.1; stored = memory refl; full = full; going = going }
archive_answers earlier past w s m r (Err Stopped) last same stored memory full going = last

-- where the pages in memory alone are others, no number rises
pub risen_beside : (by : ℕ) (v w : Installation) → w ≡ with_store v w.store → HasRisen by v w
risen_beside by v w step = record {
  uniq = omega (arith, ap (λ (x : Installation). x.ring.state.files.uniq) step);
  serial = omega (arith, ap (λ (x : Installation). x.anchor.serial) step);
  generation = omega (arith, ap (λ (x : Installation). x.anchor.generation) step);
  archive = omega (arith, ap (λ (x : Installation). x.anchor.next_archive) step);
}

-- where a page is told its image is in the buffer
pub image_told : (m : Machine) (o : Option Archive) (bytes : List ℕ) (answered : Result Reply StorageFault) (told : Reply) → IfOk answered (λ reply. IsImage m o reply bytes) → IsToldSurely answered told → IsImage m o told bytes
image_told m o bytes (Ok q) told image is = subst (λ (x : Reply). IsImage m o x bytes) (sym is) image
image_told m o bytes (Err Failed) told image (chunk, is) = subst (λ (x : Reply). IsImage m o x bytes) (sym is) tt
image_told m o bytes (Err (Bad chunk page)) told image is = subst (λ (x : Reply). IsImage m o x bytes) (sym is) tt
image_told m o bytes (Err NoMemory) told image is = absurd is
image_told m o bytes (Err Stopped) told image is = absurd is

-- ---- a turn that asks nothing of the disk

abbrev pub fine : Reply → Result Reply StorageFault
fine reply = Ok reply

pub quiet_cause : (c : Config) (before now : ℕ → ℕ) (reply : Reply) → now ≡ before → HasStorageCause c before now (fine reply)
quiet_cause c before now reply same = record {
  later = λ chunk. subst (λ (f : ℕ → ℕ). before chunk ≤ f chunk) (sym same) (omega arith);
  failed = λ failed. absurd cc;
  kept = λ calm. same;
}

-- ---- the start

start_with_calm : (m : Machine) (k level : ℕ) (spaces : Option (List ℕ)) → is_faulted (start_with m k level spaces).0 ≡ false
start_with_calm m k level None = refl
start_with_calm m k level (Some spaces) =
    calm_unless m
    (first_space (λ s. not (is_up m.lasting s)) SpaceDown spaces
    ∷ first_space (λ s. is_some (archiver_of m s)) (λ s. Archiving (unwrap_or (archiver_of m s) 0)) spaces
    ∷ first_space (λ s. nat_lt 0 level && ((kept_at m level s).number == 0)) (λ s. NoParent s (level - 1)) spaces
    ∷ [])
    (started m k level (saved_of m level spaces)) (refl, (refl, (refl, tt))) refl

pub start_calm : (m : Machine) (k level : ℕ) (names : List (List ℕ)) (o : Option Archive) → is_faulted (start_at m k level names o).0 ≡ false
start_calm m k level names (Some a) = refl
start_calm m k level names None = start_with_calm m k level (spaces_named (config_of m) names)

start_with_same : (m : Machine) (k level : ℕ) (spaces : Option (List ℕ)) → SameWork m (start_with m k level spaces).1
start_with_same m k level None = same_work m
start_with_same m k level (Some spaces) =
    unless_keeps (SameWork m) m
    (first_space (λ s. not (is_up m.lasting s)) SpaceDown spaces
    ∷ first_space (λ s. is_some (archiver_of m s)) (λ s. Archiving (unwrap_or (archiver_of m s) 0)) spaces
    ∷ first_space (λ s. nat_lt 0 level && ((kept_at m level s).number == 0)) (λ s. NoParent s (level - 1)) spaces
    ∷ [])
    (started m k level (saved_of m level spaces)) (same_work m) (record { fixed = refl; work = refl; stopped = refl })

pub start_same : (m : Machine) (k level : ℕ) (names : List (List ℕ)) (o : Option Archive) → SameWork m (start_at m k level names o).1
start_same m k level names (Some a) = same_work m
start_same m k level names None = start_with_same m k level (spaces_named (config_of m) names)

-- what holds on success holds where no call failed
pub ok_from_calm : {P : Type 0} (answered : Result Reply StorageFault) → ((IsErrOf answered Failed → ⊥) → P) → OnOk answered P
ok_from_calm (Ok reply) p = p (λ failed. absurd cc)
ok_from_calm (Err fault) p = tt

-- where memory was refused no call failed
pub starved_calm : (answered : Result Reply StorageFault) → IsErrOf answered NoMemory → IsErrOf answered Failed → ⊥
starved_calm (Ok reply) starved failed = absurd cc
starved_calm (Err fault) starved failed = let one : fault ≡ NoMemory = cc in let other : fault ≡ Failed = cc in let clash : NoMemory ≡ Failed = sym one ∙ other in cc

-- the parts where memory was refused, and pages in memory alone are others
pub starved_going : (n : ℕ) (faults now : ℕ → ℕ) (v w : Installation) (old s : State) → IsGoing n faults v old → s.table ≡ old.table → s.counts ≡ old.counts → s.archives ≡ old.archives → s.locks ≡ old.locks → w ≡ with_store v w.store → HasTurns s.opened w s.locks → now ≡ faults → IsGoing n now w s
starved_going n faults now v w old s is table counts archives locks step turns same =
    let goes = goes_beside v w is.going step in record {
      going = goes.going;
      turns = turns;
      places = subst (λ (l : List Seat). ArePending (is_there w) l) (sym locks) (places_same v w old.locks goes is.places);
      up = subst (λ (l : List (Option Running)). AreAllUp w.anchor l) (sym archives) (up_same v w old.archives goes is.up);
      numbers = subst (λ (l : List (Option Running)). AreNumbered l) (sym archives) is.numbers;
      low = low_beside n v w step is.low;
      table = table ∙ is.table ∙ sym goes.config;
      counts = λ chunk within. ap (λ (l : List ℕ). slice_index_or l chunk 0) counts ∙ is.counts chunk within ∙ ap (λ (f : ℕ → ℕ). f chunk) (sym same);
    }
  where
    low_beside : (k : ℕ) (x y : Installation) → y ≡ with_store x y.store → IsLow k x → IsLow k y
    low_beside k x y same_else low = record {
      uniq = omega (arith, ap (λ (i : Installation). i.ring.state.files.uniq) same_else, low.uniq);
      serial = omega (arith, ap (λ (i : Installation). i.anchor.serial) same_else, low.serial);
      generation = omega (arith, ap (λ (i : Installation). i.anchor.generation) same_else, low.generation);
      archive = omega (arith, ap (λ (i : Installation). i.anchor.next_archive) same_else, low.archive);
    }

-- what an error leaves, where memory was refused
pub kept_at_error : {P : Type 0} (answered : Result Reply StorageFault) → IsErrOf answered NoMemory → OnErr answered P → P
kept_at_error (Ok reply) starved p = absurd cc
kept_at_error (Err fault) starved p = p
