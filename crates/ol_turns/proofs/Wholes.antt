-- The parts stay in order.
use Rattle.std.specs.Prelude.{Bool, Err, IfErr, IfOk, IsErrOf, List, None, OnErr, OnOk, Ok, Option, Result, Some, [], if◌then◌else◌, length, slice_index_or, true, ℕ, ◌&&◌, ◌++◌, ◌+◌, ◌<◌, ◌∷◌, ◌^◌, ◌≡◌, ◌≤◌}
use Rattle.std.proofs.Common.{ap, arith, refl, subst, sym, ◌∙◌}
use Rattle.std.proofs.lemmas.List.{length-append}
use Rattle.ol_values.specs.declared.event.Event.{Event}
use Rattle.ol_values.specs.declared.event.Reply.{Reply}
use Rattle.ol_values.specs.declared.history.By.{By}
use Rattle.ol_values.specs.declared.record.Rid.{Rid}
use Rattle.ol_values.specs.Config.{Config, has_place}
use Rattle.ol_model.specs.History.{is_faulted}
use Rattle.ol_archive_turns.specs.Ending.{AreNumbered}
use Rattle.ol_archive_turns.specs.Turns.{AreAllUp}
use Rattle.ol_engine.specs.Parts.{GoesOn, HasRisen, HasTurns, MayRise}
use Rattle.ol_running.specs.declared.running.Running.{Running}
use Rattle.ol_session_turns.specs.Pending.{ArePending}
use Rattle.ol_storage.specs.Behind.{is_up}
use Rattle.ol_storage.specs.Installation.{Installation, config_of}
use Rattle.ol_storage.specs.declared.storage.StorageFault.{StorageFault}
use Rattle.ol_storage.specs.declared.storage.StorageFault.TheVariants.{Bad, Failed, NoMemory, Stopped as StoppedFault}
use Rattle.ol_turns.specs.Cores.{IsGoing, IsLow, IsToldAs, IsWhole, entry_of, history_of, is_there, with_entry}
use Rattle.ol_turns.specs.declared.state.State.{State}
use Rattle.ol_txn.specs.Seats.{Seat}

-- ---- numbers

pub low_rises : (by n : ℕ) (v : Installation) → by ≤ 2 → n < 2 ^ 59 → IsLow n v → MayRise by v
low_rises by n v few short low = record {
  uniq = omega (arith, few, short, low.uniq);
  serial = omega (arith, few, short, low.serial);
  generation = omega (arith, few, short, low.generation);
  archive = omega (arith, few, short, low.archive);
}

pub risen_low : (by n : ℕ) (v w : Installation) → by ≤ 2 → HasRisen by v w → IsLow n v → IsLow (n + 1) w
risen_low by n v w few risen low = record {
  uniq = omega (arith, few, risen.uniq, low.uniq);
  serial = omega (arith, few, risen.serial, low.serial);
  generation = omega (arith, few, risen.generation, low.generation);
  archive = omega (arith, few, risen.archive, low.archive);
}

-- ---- places

there_same : (v w : Installation) (rid : Rid) → GoesOn v w → is_there w rid ≡ is_there v rid
there_same v w rid goes =
    ap (λ (c : Config). has_place c rid && is_up w.anchor rid.space) goes.config ∙ ap (λ (l : List ℕ). has_place (config_of v) rid && is_up (record w.anchor { states = l }) rid.space) goes.states

pub places_same : (v w : Installation) (seats : List Seat) → GoesOn v w → ArePending (is_there v) seats → ArePending (is_there w) seats
places_same v w seats goes are k h e i d within = there_same v w _ goes ∙ are k h e i d within

pub up_same : (v w : Installation) (l : List (Option Running)) → GoesOn v w → AreAllUp v.anchor l → AreAllUp w.anchor l
up_same v w l goes up k space runs = ap (λ (states : List ℕ). is_up (record w.anchor { states = states }) space) goes.states ∙ up k space runs

-- ---- behind a turn

-- what stands behind a turn that the parts answered, is in order
pub whole_on : {E : Type 0} (faults now : ℕ → ℕ) (w : Installation) (s : State) (by : By) (event : Event) (start calls : ℕ) (answered : Result Reply StorageFault) (result : Result Reply E) (new : State)
    → OnOk answered (IsGoing (length (history_of s) + 1) now w s) → (IsErrOf answered NoMemory → IsGoing (length (history_of s)) now w s)
    → IsToldAs answered result → IfOk result (λ reply. new ≡ with_entry s (entry_of s by event start calls reply)) → OnErr result (new ≡ s)
    → IsWhole now w new
whole_on {E = E} faults now w s by event start calls answered result new good same told ok err = cases answered result good same told ok err
  where
    entering : Reply → State
    entering q = with_entry s (entry_of s by event start calls q)

    entered : (q : Reply) → IsGoing (length (history_of s) + 1) now w s → IsWhole now w (entering q)
    entered q is none =
        let long : length (history_of s ++ entry_of s by event start calls q ∷ []) ≡ length (history_of s) + 1 = length-append (history_of s) (entry_of s by event start calls q ∷ []) in
        subst (λ (n : ℕ). IsGoing n now w (entering q)) (sym long) (record { going = is.going; turns = is.turns; places = is.places; up = is.up; numbers = is.numbers; low = is.low; table = is.table; counts = is.counts })

    stopped : (q : Reply) → is_faulted q ≡ true → IsWhole now w (entering q)
    stopped q faulty none = absurd (let clash : Some (length (history_of s) + 1) ≡ None = subst (λ (x : Bool). (if x then Some (length (history_of s) + 1) else s.stopped) ≡ None) faulty none in cc)

    put : (q : Reply) → new ≡ entering q → IsWhole now w (entering q) → IsWhole now w new
    put q is whole = subst (λ (x : State). IsWhole now w x) (sym is) whole

    cases : (a : Result Reply StorageFault) (t : Result Reply E) → OnOk a (IsGoing (length (history_of s) + 1) now w s) → (IsErrOf a NoMemory → IsGoing (length (history_of s)) now w s) → IsToldAs a t → IfOk t (λ reply. new ≡ entering reply) → OnErr t (new ≡ s) → IsWhole now w new
    cases (Ok q) (Ok t) good same told ok err = put t ok (entered t good)
    cases (Ok q) (Err e) good same told ok err = absurd told
    cases (Err Failed) (Ok t) good same (chunk, told) ok err = put t ok (stopped t (ap is_faulted told))
    cases (Err Failed) (Err e) good same told ok err = absurd told
    cases (Err (Bad chunk page)) (Ok t) good same told ok err = put t ok (stopped t (ap is_faulted told))
    cases (Err (Bad chunk page)) (Err e) good same told ok err = absurd told
    cases (Err NoMemory) (Err e) good same told ok err = subst (λ (x : State). IsWhole now w x) (sym err) (λ none. same refl)
    cases (Err NoMemory) (Ok t) good same told ok err = absurd told
    cases (Err StoppedFault) (Ok t) good same told ok err = absurd told
    cases (Err StoppedFault) (Err e) good same told ok err = absurd told

-- the parts behind a turn that goes on
pub going_after : (faults now : ℕ → ℕ) (v w : Installation) (old s : State) (by n : ℕ) (answered : Result Reply StorageFault) → by ≤ 2 → IsGoing n faults v old → s.table ≡ old.table → s.counts ≡ old.counts
    → OnOk answered (GoesOn v w) → OnOk answered (HasTurns s.opened w s.locks) → OnOk answered (ArePending (is_there w) s.locks) → OnOk answered (AreAllUp w.anchor s.archives) → OnOk answered (AreNumbered s.archives) → OnOk answered (HasRisen by v w)
    → ((IsErrOf answered Failed → ⊥) → now ≡ faults)
    → OnOk answered (IsGoing (n + 1) now w s)
going_after faults now v w old s by n (Ok q) few is table counts goes turns places up numbers risen same = record {
  going = goes.going;
  turns = turns;
  places = places;
  up = up;
  numbers = numbers;
  low = risen_low by n v w few risen is.low;
  table = table ∙ is.table ∙ sym goes.config;
  counts = λ chunk within. ap (λ (l : List ℕ). slice_index_or l chunk 0) counts ∙ is.counts chunk within ∙ ap (λ (f : ℕ → ℕ). f chunk) (sym (same (λ failed. absurd cc)));
}
going_after faults now v w old s by n (Err fault) few is table counts goes turns places up numbers risen same = tt

pub ok_map : {P Q : Type 0} (answered : Result Reply StorageFault) → OnOk answered P → (P → Q) → OnOk answered Q
ok_map (Ok q) p f = f p
ok_map (Err fault) p f = tt

pub ok_both : {P Q R : Type 0} (answered : Result Reply StorageFault) → OnOk answered P → OnOk answered Q → (P → Q → R) → OnOk answered R
ok_both (Ok q) p r f = f p r
ok_both (Err fault) p r f = tt

-- where a failed call is the only fault, memory was not refused
pub never_starved : {A : Type 0} (answered : Result A StorageFault) → IfErr answered (λ fault. fault ≡ Failed) → IsErrOf answered NoMemory → ⊥
never_starved (Ok x) only starved = absurd cc
never_starved (Err fault) only starved = let same : fault ≡ NoMemory = cc in let clash : NoMemory ≡ Failed = sym same ∙ only in cc
