-- What turns leave beside their record: running archives stay shown, full pages full, and the engine goes on.
use Rattle.std.specs.Prelude.{Err, IfErr, List, None, Ok, OnOk, Option, Result, Some, [], false, ℕ, ◌+◌, ◌≡◌}
use Rattle.std.proofs.Common.{ap, refl, subst, sym, ◌∙◌}
use Rattle.ol_values.specs.declared.event.Reply.{Reply}
use Rattle.ol_values.specs.declared.event.Reply.TheVariants.{Begun}
use Rattle.ol_values.specs.declared.record.Record.{Record}
use Rattle.ol_values.specs.declared.record.Record.TheVariants.{Begin, Commit, Rolled}
use Rattle.ol_values.specs.declared.record.Rid.{Rid}
use Rattle.ol_rules.specs.Journal.{touches}
use Rattle.ol_before.specs.Images.{Captures}
use Rattle.ol_free_slots.specs.declared.hints.Hints.{Hints}
use Rattle.ol_free_slots.specs.Filled.{AreFull, empties}
use Rattle.ol_free_slots.proofs.Filling.{alike_filled, record_filled}
use Rattle.ol_model.specs.Answering.{no_room}
use Rattle.ol_model.specs.History.{is_faulted}
use Rattle.ol_engine.specs.Parts.{Shows, behind_of}
use Rattle.ol_engine.specs.Turns.{Answers}
use Rattle.ol_ports.specs.Disk.{Past}
use Rattle.ol_storage.specs.Installation.{Installation}
use Rattle.ol_storage.specs.Storing.{IsStored}
use Rattle.ol_storage.specs.declared.storage.StorageFault.{StorageFault}
use Rattle.ol_storage.specs.declared.storage.StorageFault.TheVariants.{Bad, Failed, NoMemory, Stopped}
use Rattle.ol_turns.proofs.Goes.{calm_unless}
use Rattle.ol_turns.specs.Cores.{IsShown}
use Rattle.ol_turns.specs.declared.state.State.{State}
use Rattle.ol_model.specs.Machine.{Machine, Seat, config_of, last_of, row_in, with_seat}
use Rattle.ol_values.specs.declared.event.Event.TheVariants.{Clean}
use Rattle.ol_model.specs.LogTurns.{clean_at}
use Rattle.ol_model.specs.Turns.{Given, comes_first, given_by, turn_of}
use Rattle.ol_model.specs.SessionTurns.{begin_at, commit_at, rolled_at}
use Rattle.ol_model.specs.Steps.{append, flush, make_checkpoint}
use Rattle.ol_running.specs.declared.running.Running.{Running}
use Rattle.ol_running.specs.Running.{ShowsArchives}
use Rattle.ol_running.proofs.StepLaws.{beside_shown, untouched_shown}
use Rattle.ol_turn_laws.proofs.KeptLaws.{unless_keeps}
use Rattle.ol_turn_laws.proofs.StepLaws.{appended_row}

-- the running archives are shown, the pages known to be full are, and the engine goes on
pub record IsBeside (l : List (Option Running)) (b : Captures) (h : Hints) (m : Machine) : Type 0 where
  pub archives : ShowsArchives l b m
  pub full : AreFull h m
  pub going : m.stopped ≡ None

-- where work and archives are the same but for the sessions
same_beside : (l : List (Option Running)) (b : Captures) (h : Hints) (m n : Machine) → config_of n ≡ config_of m → n.work.start ≡ m.work.start → n.work.records ≡ m.work.records → n.archives ≡ m.archives → ((rid : Rid) → row_in n rid ≡ row_in m rid) → n.stopped ≡ m.stopped
    → IsBeside l b h m → IsBeside l b h n
same_beside l b h m n config start records archives rows stopped is = record {
  archives = beside_shown l b m n config start records archives is.archives;
  full = alike_filled h (config_of m) (config_of n) (row_in m) (row_in n) config (λ at there. rows at) is.full;
  going = stopped ∙ is.going;
}

pub seat_beside : (l : List (Option Running)) (b : Captures) (h : Hints) (k : ℕ) (s : Seat) (m : Machine) → IsBeside l b h m → IsBeside l b h (with_seat k s m)
seat_beside l b h k s m is = same_beside l b h m (with_seat k s m) refl refl refl refl (λ rid. refl) refl is

pub flush_beside : (l : List (Option Running)) (b : Captures) (h : Hints) (m : Machine) → IsBeside l b h m → IsBeside l b h (flush m)
flush_beside l b h m is = same_beside l b h m (flush m) refl refl refl refl (λ rid. refl) refl is

pub checkpoint_beside : (l : List (Option Running)) (b : Captures) (h : Hints) (m : Machine) → IsBeside l b h m → IsBeside l b h (make_checkpoint m)
checkpoint_beside l b h m is = same_beside l b h m (make_checkpoint m) refl refl refl refl (λ rid. refl) refl is

append_beside : (l : List (Option Running)) (b : Captures) (h : Hints) (r : Record) (m : Machine) → empties r ≡ false → ((space page : ℕ) → touches space page r ≡ false) → IsBeside l b h m → IsBeside l b h (append r m)
append_beside l b h r m none apart is = record {
  archives = untouched_shown l b m r apart is.archives;
  full = record_filled h (config_of m) (config_of m) (row_in m) (row_in (append r m)) r refl none (λ at. appended_row r m at) is.full;
  going = is.going;
}

-- ---- the turns

pub begin_beside : (l : List (Option Running)) (b : Captures) (h : Hints) (m : Machine) (k : ℕ) (s : Seat) (txn : Option ℕ) → IsBeside l b h m → IsBeside l b h (begin_at m k s txn).1
begin_beside l b h m k s (Some txn) is = is
begin_beside l b h m k s None is =
    let txn : ℕ = last_of m + 1 in
    let seat : Seat = record s { txn = Some txn } in
    unless_keeps (IsBeside l b h) m (no_room m) (Begun txn, with_seat k seat (append (Begin txn) m)) is
    (seat_beside l b h k seat (append (Begin txn) m) (append_beside l b h (Begin txn) m refl (λ space page. refl) is))

pub commit_beside : (l : List (Option Running)) (b : Captures) (h : Hints) (m : Machine) (k : ℕ) (s : Seat) (txn : Option ℕ) → IsBeside l b h m → IsBeside l b h (commit_at m k s txn).1
commit_beside l b h m k s None is = is
commit_beside l b h m k s (Some txn) is =
    let seat : Seat = record s { txn = None; shares = [] } in
    seat_beside l b h k seat (flush (append (Commit txn) m)) (flush_beside l b h (append (Commit txn) m) (append_beside l b h (Commit txn) m refl (λ space page. refl) is))

pub rolled_beside : (l : List (Option Running)) (b : Captures) (h : Hints) (m : Machine) (k : ℕ) (s : Seat) (txn : Option ℕ) → IsBeside l b h m → IsBeside l b h (rolled_at m k s txn).1
rolled_beside l b h m k s None is = is
rolled_beside l b h m k s (Some txn) is =
    let seat : Seat = record s { txn = None; shares = [] } in
    seat_beside l b h k seat (append (Rolled txn) m) (append_beside l b h (Rolled txn) m refl (λ space page. refl) is)

-- ---- what the parts show

-- a turn that reads no page and changes no lock of another kind: what the parts show behind it
pub quiet_answers : (earlier : ℕ → Record) (past : Past) (w : Installation) (s : State) (before : Captures) (m : Machine) (r : Reply × Machine) (answered : Result Reply StorageFault) → IfErr answered (λ fault. fault ≡ Failed)
    → Answers m (Shows s.opened w s.locks s.registers) r answered → OnOk answered (w.store.before ≡ before) → OnOk answered (IsStored past w (behind_of earlier r.1)) → IsBeside s.archives before s.hints r.1
    → Answers m (λ k. IsShown earlier past w s k) r answered
quiet_answers earlier past w s before m r (Ok q) only (is, shows) images stored beside = (
  is,
  record {
    shows = shows;
    archives = subst (λ (b : Captures). ShowsArchives s.archives b r.1) (sym images) beside.archives;
    stored = stored;
    full = beside.full;
    going = beside.going;
  },
)
quiet_answers earlier past w s before m r (Err Failed) only last images stored beside = last
quiet_answers earlier past w s before m r (Err (Bad chunk page)) only last images stored beside = last
quiet_answers earlier past w s before m r (Err NoMemory) only last images stored beside = absurd (let clash : NoMemory ≡ Failed = only in cc)
quiet_answers earlier past w s before m r (Err Stopped) only last images stored beside = last

-- ---- replies

pub begin_calm : (m : Machine) (k : ℕ) (s : Seat) (txn : Option ℕ) → is_faulted (begin_at m k s txn).0 ≡ false
begin_calm m k s (Some txn) = refl
begin_calm m k s None = calm_unless m (no_room m) (Begun (last_of m + 1), with_seat k (record s { txn = Some (last_of m + 1) }) (append (Begin (last_of m + 1)) m)) (refl, (refl, tt)) refl

pub commit_calm : (m : Machine) (k : ℕ) (s : Seat) (txn : Option ℕ) → is_faulted (commit_at m k s txn).0 ≡ false
commit_calm m k s (Some txn) = refl
commit_calm m k s None = refl

pub rolled_calm : (m : Machine) (k : ℕ) (s : Seat) (txn : Option ℕ) → is_faulted (rolled_at m k s txn).0 ≡ false
rolled_calm m k s (Some txn) = refl
rolled_calm m k s None = refl

-- ---- the page that is longest dirty is cleaned

pub clean_beside : (l : List (Option Running)) (b : Captures) (h : Hints) (m : Machine) (dirty : Option (ℕ × ℕ)) → IsBeside l b h m → IsBeside l b h (clean_at m dirty).1
clean_beside l b h m None is = is
clean_beside l b h m (Some page) is = flush_beside l b h m is

pub clean_calm : (m : Machine) (dirty : Option (ℕ × ℕ)) → is_faulted (clean_at m dirty).0 ≡ false
clean_calm m None = refl
clean_calm m (Some page) = refl

-- the reply tells which page was the first
pub clean_plain : (m : Machine) (n k : ℕ) (dirty : Option (ℕ × ℕ)) → turn_of [] (given_by (clean_at m dirty).0) m n k Clean ≡ clean_at m dirty
clean_plain m n k None = refl
clean_plain m n k (Some page) = refl

-- where a call may fail there was one
pub clean_yields : (m : Machine) (n k : ℕ) (dirty : Option (ℕ × ℕ)) → comes_first (clean_at m dirty).0 ≡ false → (g : Given) → g.dirty ≡ Some (0, 0) → comes_first (turn_of [] g m n k Clean).0 ≡ false
clean_yields m n k dirty last g is = ap (λ (o : Option (ℕ × ℕ)). comes_first (clean_at m o).0) is

-- the journal and the pages are those
pub clean_behind : (earlier : ℕ → Record) (m : Machine) (dirty : Option (ℕ × ℕ)) → behind_of earlier m ≡ behind_of earlier (clean_at m dirty).1
clean_behind earlier m None = refl
clean_behind earlier m (Some page) = refl
