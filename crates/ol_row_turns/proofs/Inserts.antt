-- A row is inserted: the machine's turn, and the register that holds the place then.
use Rattle.std.specs.Prelude.{Err, List, None, Ok, Option, Result, Some, length, slice_index_or, slice_set, ℕ, ◌-◌, ◌≡◌, ◌≤◌}
use Rattle.std.proofs.Common.{ap, arith, inl, inr, refl, subst, sym, ◌∙◌}
use Rattle.std.proofs.lemmas.Bool.{cases_Bool}
use Rattle.std.proofs.lemmas.Bool.Decides.{eqb_tells}
use Rattle.std.proofs.lemmas.List.{get_or-set_other, get_or-set_same, length-set}
use Rattle.ol_values.specs.declared.event.Reply.{Reply}
use Rattle.ol_values.specs.declared.event.Reply.TheVariants.{At, JournalFull, LogsFull}
use Rattle.ol_values.specs.declared.record.Record.{Record}
use Rattle.ol_values.specs.declared.record.Record.TheVariants.{Change}
use Rattle.ol_values.specs.declared.record.Rid.{Rid}
use Rattle.ol_values.specs.declared.row.Row.{Row}
use Rattle.ol_model.specs.Answering.{no_room, unless}
use Rattle.ol_rules.specs.Locks.{is_among}
use Rattle.ol_rules.specs.Ring.{blocker}
use Rattle.ol_before.specs.Images.{Captures}
use Rattle.ol_model.specs.Machine.{Machine, config_of, journal_full, logs_full, no_seat, reuse_of, seat_of, with_seat}
use Rattle.ol_model.specs.Machine.{Seat as SessionSeat}
use Rattle.ol_model.specs.Steps.{change_row}
use Rattle.ol_ports.specs.Disk.{Bytes}
use Rattle.ol_reserve.specs.declared.anchor.Anchor.{Anchor}
use Rattle.ol_running.proofs.StepLaws.{beside_shown}
use Rattle.ol_running.specs.Running.{ShowsArchives}
use Rattle.ol_running.specs.declared.running.Running.{Running}
use Rattle.ol_storage.specs.Installation.{Installation}
use Rattle.ol_storage.specs.declared.storage.StorageFault.{StorageFault}
use Rattle.ol_storage.specs.declared.storage.StorageFault.TheVariants.{Bad, Failed, NoMemory, Stopped}
use Rattle.ol_txn.specs.Seats.{IsSession, Seat}
use Rattle.ol_turn_laws.proofs.KeptLaws.{change_sessions}
use Rattle.ol_engine.specs.Parts.{Registers, Shows, ShowsSeats, behind_of, registers_of}
use Rattle.ol_engine.specs.Turns.{Answers, StandsWithinEither}
use Rattle.ol_row_turns.specs.Turns.{Leaves, inserted_turn, with_register, written_turn}
use Rattle.ol_row_turns.specs.declared.owner.Owner.{Owner}

-- session k with the place in a register
abbrev registered : Machine → ℕ → ℕ → Rid → SessionSeat
registered m k register rid = record (seat_of m k) { registers = slice_set (seat_of m k).registers register (Some rid) }

-- the machine behind an insert
abbrev pub inserted : Machine → Owner → ℕ → Rid → Row → Machine
inserted m o register rid row = with_seat o.session (registered m o.session register rid) (change_row o.entry rid (Change o.txn rid None (Some row)) m)

-- ---- the register

seat_own : (m : Machine) (k : ℕ) (s : SessionSeat) → length m.work.sessions ≡ 16 → IsSession k → seat_of (with_seat k s m) k ≡ s
seat_own m k s long is = get_or-set_same m.work.sessions (k - 1) s _ (omega (arith, long, is.0, is.1))

seat_other : (m : Machine) (k j : ℕ) (s : SessionSeat) → IsSession k → 1 ≤ j → (j ≡ k → ⊥) → seat_of (with_seat k s m) j ≡ seat_of m j
seat_other m k j s is from other = get_or-set_other m.work.sessions (k - 1) (j - 1) s _ (λ same. other (omega (arith, same, is.0, from)))

-- a session's register is set
sets_register : (seats : List Seat) (registers : Registers) (n : Machine) (k register : ℕ) (rid : Rid) → IsSession k → length registers ≡ 16 → ShowsSeats seats registers n
    → ShowsSeats seats (slice_set registers (k - 1) (slice_set (registers_of registers k) register (Some rid))) (with_seat k (registered n k register rid) n)
sets_register seats registers n k register rid session long is = record {
  sixteen = is.sixteen;
  seated = length-set n.work.sessions (k - 1) (registered n k register rid) ∙ is.seated;
  tells = is.tells;
  numbers = λ j from to. is.numbers j from to ∙ sym (kept (λ (s : SessionSeat). s.txn) j from (λ here. refl));
  shares = λ j place from to. is.shares j place from to ∙ ap (λ l. is_among place l) (sym (kept (λ (s : SessionSeat). s.shares) j from (λ here. refl)));
  registered = λ j from to. elim (eqb_tells j k) [
    | inl here ↦ subst (λ (i : ℕ). registers_of (slice_set registers (k - 1) set) i ≡ (seat_of (with_seat k (registered n k register rid) n) i).registers) (sym here.1)
        (get_or-set_same registers (k - 1) set _ (omega (arith, long, session.0, session.1)) ∙ ap (λ (l : List (Option Rid)). slice_set l register (Some rid)) (is.registered k session.0 session.1) ∙ sym (ap (λ (s : SessionSeat). s.registers) mine))
    | inr there ↦ get_or-set_other registers (k - 1) (j - 1) set _ (λ same. there.1 (omega (arith, same, session.0, from))) ∙ is.registered j from to ∙ sym (ap (λ (s : SessionSeat). s.registers) (seat_other n k j (registered n k register rid) session from there.1))
  ];
}
  where
    set : List (Option Rid)
    set = slice_set (registers_of registers k) register (Some rid)

    mine : seat_of (with_seat k (registered n k register rid) n) k ≡ registered n k register rid
    mine = seat_own n k (registered n k register rid) is.seated session

    kept : {A : Type 0} (part : SessionSeat → A) (j : ℕ) → 1 ≤ j → (j ≡ k → part (registered n k register rid) ≡ part (seat_of n k)) → part (seat_of (with_seat k (registered n k register rid) n) j) ≡ part (seat_of n j)
    kept part j from same = elim (eqb_tells j k) [
      | inl here ↦ subst (λ (i : ℕ). part (seat_of (with_seat k (registered n k register rid) n) i) ≡ part (seat_of n i)) (sym here.1) (ap part mine ∙ same here.1)
      | inr there ↦ ap part (seat_other n k j (registered n k register rid) session from there.1)
    ]

-- the parts show the machine behind an insert
pub insert_shown : (opened : ℕ) (w : Installation) (seats : List Seat) (registers : Registers) (m : Machine) (o : Owner) (register : ℕ) (rid : Rid) (row : Row) → IsSession o.session → length registers ≡ 16 → Shows opened w seats registers (change_row o.entry rid (Change o.txn rid None (Some row)) m)
    → Shows opened w seats (with_register o.session register registers (Ok (At rid))) (inserted m o register rid row)
insert_shown opened w seats registers m o register rid row session long shows =
    let n : Machine = change_row o.entry rid (Change o.txn rid None (Some row)) m in
    let seat : seat_of n o.session ≡ seat_of m o.session = ap (λ (l : List SessionSeat). slice_index_or l (o.session - 1) no_seat) (change_sessions o.entry rid (Change o.txn rid None (Some row)) m) in
    record {
      storage = record { config = shows.storage.config; ring = shows.storage.ring; next = shows.storage.next; reached = shows.storage.reached; position = shows.storage.position; need = shows.storage.need; touched = shows.storage.touched; lasting = shows.storage.lasting };
      sessions = subst (λ (s : SessionSeat). ShowsSeats seats (with_register o.session register registers (Ok (At rid))) (with_seat o.session (record s { registers = slice_set s.registers register (Some rid) }) n)) seat (sets_register seats registers n o.session register rid session long shows.sessions);
      since = shows.since;
    }

-- ---- the turn, beside that of a row that is written

-- a turn that is refused for want of room alone: what relates two such, where both are refused alike or neither is
room_cases : (Like : Reply × Machine → Reply × Machine → Type 0) (m : Machine) (x y : Reply × Machine) → Like (JournalFull, m) (JournalFull, m) → Like (LogsFull (blocker (config_of m) (reuse_of m) m.log.ring), m) (LogsFull (blocker (config_of m) (reuse_of m) m.log.ring), m) → Like x y
    → Like (unless m (no_room m) x) (unless m (no_room m) y)
room_cases Like m x y journal log both = elim (cases_Bool (journal_full m)) [
  | inl e ↦ rw e journal
  | inr e ↦ elim (cases_Bool (logs_full m)) [
    | inl f ↦ rw (e, f) log
    | inr f ↦ rw (e, f) both
  ]
]

-- the place is answered, and the register holds it then
pub insert_answers : (opened : ℕ) (w : Installation) (seats : List Seat) (registers : Registers) (m : Machine) (o : Owner) (register : ℕ) (rid : Rid) (row : Row) (result : Result Reply StorageFault) → IsSession o.session → length registers ≡ 16
    → Answers m (Shows opened w seats registers) (written_turn m o rid None (Some row) (At rid)) result → Answers m (Shows opened w seats (with_register o.session register registers result)) (inserted_turn m o register rid row) result
insert_answers opened w seats registers m o register rid row result session long =
    room_cases Like m (At rid, n) (At rid, inserted m o register rid row) (refused JournalFull refl) (refused (LogsFull _) refl) (written result)
  where
    n : Machine
    n = change_row o.entry rid (Change o.txn rid None (Some row)) m

    Like : Reply × Machine → Reply × Machine → Type 0
    Like x y = Answers m (Shows opened w seats registers) x result → Answers m (Shows opened w seats (with_register o.session register registers result)) y result

    refused_as : (refusal : Reply) → with_register o.session register registers (Ok refusal) ≡ registers → (r : Result Reply StorageFault) → Answers m (Shows opened w seats registers) (refusal, m) r → Answers m (Shows opened w seats (with_register o.session register registers r)) (refusal, m) r
    refused_as refusal same (Ok reply) (is, shown) = (is, subst (λ (q : Reply). Shows opened w seats (with_register o.session register registers (Ok q)) m) (sym is) (subst (λ (l : Registers). Shows opened w seats l m) (sym same) shown))
    refused_as refusal same (Err Failed) is = is
    refused_as refusal same (Err (Bad chunk page)) is = is
    refused_as refusal same (Err NoMemory) is = is
    refused_as refusal same (Err Stopped) is = is

    refused : (refusal : Reply) → with_register o.session register registers (Ok refusal) ≡ registers → Like (refusal, m) (refusal, m)
    refused refusal same = refused_as refusal same result

    written : (r : Result Reply StorageFault) → Answers m (Shows opened w seats registers) (At rid, n) r → Answers m (Shows opened w seats (with_register o.session register registers r)) (At rid, inserted m o register rid row) r
    written (Ok reply) (is, shown) = (is, subst (λ (q : Reply). Shows opened w seats (with_register o.session register registers (Ok q)) (inserted m o register rid row)) (sym is) (insert_shown opened w seats registers m o register rid row session long shown))
    written (Err Failed) is = is
    written (Err (Bad chunk page)) is = is
    written (Err NoMemory) is = is
    written (Err Stopped) is = is

-- the running archives are shown as they were behind the row
pub insert_leaves : (l : List (Option Running)) (b : Captures) (m : Machine) (o : Owner) (register : ℕ) (rid : Rid) (row : Row) (result : Result Reply StorageFault)
    → Leaves m (λ n. ShowsArchives l b n) (written_turn m o rid None (Some row) (At rid)).1 result → Leaves m (λ n. ShowsArchives l b n) (inserted_turn m o register rid row).1 result
insert_leaves l b m o register rid row result =
    room_cases (λ x y. Leaves m shown x.1 result → Leaves m shown y.1 result) m (At rid, n) (At rid, inserted m o register rid row) (λ is. is) (λ is. is) (written result)
  where
    shown : Machine → Type 0
    shown k = ShowsArchives l b k

    n : Machine
    n = change_row o.entry rid (Change o.txn rid None (Some row)) m

    written : (r : Result Reply StorageFault) → Leaves m shown n r → Leaves m shown (inserted m o register rid row) r
    written (Ok reply) is = beside_shown l b n (inserted m o register rid row) refl refl refl refl is
    written (Err Failed) is = is
    written (Err (Bad chunk page)) is = is
    written (Err NoMemory) is = is
    written (Err Stopped) is = is

-- the journal is that behind the row
pub insert_behind : (earlier : ℕ → Record) (m : Machine) (o : Owner) (register : ℕ) (rid : Rid) (row : Row) → behind_of earlier (written_turn m o rid None (Some row) (At rid)).1 ≡ behind_of earlier (inserted_turn m o register rid row).1
insert_behind earlier m o register rid row =
    room_cases (λ x y. behind_of earlier x.1 ≡ behind_of earlier y.1) m (At rid, change_row o.entry rid (Change o.txn rid None (Some row)) m) (At rid, inserted m o register rid row) refl refl refl

-- an image that stands for what a row that is written leaves, stands for what the insert leaves
pub insert_stands : (v : Installation) (a : Anchor) (earlier : ℕ → Record) (m : Machine) (o : Owner) (register : ℕ) (rid : Rid) (row : Row) (d : Bytes) → StandsWithinEither v a earlier (written_turn m o rid None (Some row) (At rid)).1 d → StandsWithinEither v a earlier (inserted_turn m o register rid row).1 d
insert_stands v a earlier m o register rid row d =
    room_cases (λ x y. StandsWithinEither v a earlier x.1 d → StandsWithinEither v a earlier y.1 d) m (At rid, change_row o.entry rid (Change o.txn rid None (Some row)) m) (At rid, inserted m o register rid row) (λ s. s) (λ s. s) (λ s. s)
