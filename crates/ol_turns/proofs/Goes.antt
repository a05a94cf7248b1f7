-- A history goes on by one entry.
use Rattle.std.specs.Prelude.{Bool, Err, IfOk, List, None, OnErr, Ok, Option, Result, Some, [], false, if◌then◌else◌, length, true, ℕ, ◌++◌, ◌+◌, ◌∷◌, ◌≡◌}
use Rattle.std.specs.List.{AllByRecursion}
use Rattle.std.proofs.Common.{ap, arith, refl, subst, sym, ◌∙◌}
use Rattle.std.proofs.lemmas.List.Elements.{All-nil}
use Rattle.ol_values.specs.declared.event.Event.{Event}
use Rattle.ol_values.specs.declared.event.Reply.{Reply}
use Rattle.ol_values.specs.declared.event.Reply.TheVariants.{BadRead, Cleaned, DiskFault, Stopped, TapeFault}
use Rattle.ol_values.specs.declared.history.Actor.{Actor}
use Rattle.ol_values.specs.declared.history.By.{By}
use Rattle.ol_values.specs.declared.history.Entry.{Entry}
use Rattle.ol_values.specs.declared.record.Record.{Record}
use Rattle.ol_model.specs.Answering.{unless}
use Rattle.ol_model.specs.History.{Steps, is_faulted, state_after, state_at}
use Rattle.ol_model.specs.Machine.{Machine}
use Rattle.ol_rules.specs.Shelf.{objects}
use Rattle.ol_model.specs.Turns.{DeviceFault, Given, ReadsBad, DiskFails, comes_first, fault_reply, faulted, given_by, number_of, turn, turn_of, turn_unless}
use Rattle.ol_ports.specs.Disk.{Past}
use Rattle.ol_engine.specs.Turns.{Answers}
use Rattle.ol_storage.specs.Installation.{Installation}
use Rattle.ol_storage.specs.declared.storage.StorageFault.{StorageFault}
use Rattle.ol_storage.specs.declared.storage.StorageFault.TheVariants.{Bad, Failed, NoMemory, Stopped as StoppedFault}
use Rattle.ol_turn_laws.proofs.RegularTurns.{Both, turn_both}
use Rattle.ol_turn_laws.specs.Room.{HasShortBlocks, HasShortRow, HoldsShortRows, Regular, Roomy}
use Rattle.ol_turns.specs.Cores.{IsShown, IsTold, IsToldAs, Runs, entry_of, history_of, machine_of, with_entry}
use Rattle.ol_turns.specs.Entries.{Noted}
use Rattle.ol_turns.specs.declared.state.State.{State}

-- ---- one entry more

state_on : (m : Machine) (h : List Entry) (e : Entry) → state_at [] m (h ++ e ∷ []) ≡ state_after [] (state_at [] m h) e
state_on m [] e = refl
state_on m (x ∷ h) e = state_on (state_after [] m x) h e

steps_on : (m : Machine) (n : ℕ) (h : List Entry) (e : Entry) → Steps [] m n h → e.number ≡ n + length h → e.reply ≡ (turn [] (given_by e.reply) (state_at [] m h) e.number e.actor e.event).0 → Steps [] m n (h ++ e ∷ [])
steps_on m n [] e steps number reply =
    let same : e.number ≡ n = omega (arith, number) in
    (same, subst (λ i. e.reply ≡ (turn [] (given_by e.reply) m i e.actor e.event).0) same reply, tt)
steps_on m n (x ∷ h) e (is, given, steps) number reply =
    let next : e.number ≡ (n + 1) + length h = omega (arith, number) in
    (is, given, steps_on (state_after [] m x) (n + 1) h e steps next reply)

-- ---- what the machine answers

no_fault : (q : Reply) → is_faulted q ≡ false → (given_by q).fault ≡ None
no_fault (DiskFault chunk) calm = absurd (let c : true ≡ false = calm in cc)
no_fault (BadRead chunk page) calm = absurd (let c : true ≡ false = calm in cc)
no_fault (TapeFault drive count) calm = refl
no_fault (Cleaned space page) calm = refl
no_fault _ calm = refl

-- a turn of an engine that goes on, where no device fails
pub plain_turn : (m : Machine) (n : ℕ) (actor : Actor) (event : Event) (r : Reply × Machine) → m.stopped ≡ None → turn_of [] (given_by r.0) m n (number_of actor) event ≡ r → is_faulted r.0 ≡ false → turn [] (given_by r.0) m n actor event ≡ r
plain_turn m n actor event r going is calm =
    ap (λ (o : Option ℕ). turn_unless o [] (given_by r.0) m n (number_of actor) event) going
    ∙ ap (λ (f : Option DeviceFault). faulted f m n (turn_of [] (given_by r.0) m n (number_of actor) event)) (no_fault r.0 calm)
    ∙ is

-- one where a device fails
failed_turn : (m : Machine) (n : ℕ) (actor : Actor) (event : Event) (g : Given) (f : DeviceFault) → m.stopped ≡ None → g.fault ≡ Some f → comes_first (turn_of [] g m n (number_of actor) event).0 ≡ false → turn [] g m n actor event ≡ (fault_reply f, record m { stopped = Some n })
failed_turn m n actor event g f going fault last =
    ap (λ (o : Option ℕ). turn_unless o [] g m n (number_of actor) event) going
    ∙ ap (λ (o : Option DeviceFault). faulted o m n (turn_of [] g m n (number_of actor) event)) fault
    ∙ rw last refl

-- ---- the engine was stopped before

stopped_turn : (m : Machine) (n entry : ℕ) (actor : Actor) (event : Event) (g : Given) → m.stopped ≡ Some entry → turn [] g m n actor event ≡ (Stopped entry, m)
stopped_turn m n entry actor event g stopped = ap (λ (o : Option ℕ). turn_unless o [] g m n (number_of actor) event) stopped

-- each turn tells the entry
pub stopped_runs : (earlier : ℕ → Record) (begun : Machine) (past : Past) (v : Installation) (s : State) (by : By) (event : Event) (start calls entry : ℕ) → s.stopped ≡ Some entry → Runs earlier begun past v s → Runs earlier begun past v (with_entry s (entry_of s by event start calls (Stopped entry)))
stopped_runs earlier begun past v s by event start calls entry stopped runs =
    let h = history_of s in
    let e = entry_of s by event start calls (Stopped entry) in
    let m = machine_of begun s in
    let is : turn [] (given_by e.reply) m e.number e.actor e.event ≡ (Stopped entry, m) = stopped_turn m e.number entry e.actor e.event (given_by e.reply) (runs.stopped ∙ stopped) in
    let same : state_at [] begun (h ++ e ∷ []) ≡ m = state_on begun h e ∙ ap (λ (r : Reply × Machine). r.1) is in
    record {
      steps = steps_on begun 1 h e runs.steps (omega arith) (sym (ap (λ (r : Reply × Machine). r.0) is));
      stopped = ap (λ (k : Machine). k.stopped) same ∙ runs.stopped;
      told = λ none. absurd (let clash : None ≡ Some entry = sym none ∙ stopped in cc);
    }

-- ---- it goes on

-- what is told depends on the parts alone
entered_shown : (earlier : ℕ → Record) (past : Past) (w : Installation) (s : State) (e : Entry) (m : Machine) → IsShown earlier past w s m → IsShown earlier past w (with_entry s e) m
entered_shown earlier past w s e m is = record { shows = is.shows; archives = is.archives; stored = is.stored; full = is.full; going = is.going }

-- one entry more, of which the machine's turn is known
entered : (earlier : ℕ → Record) (begun : Machine) (past : Past) (w : Installation) (s : State) (by : By) (event : Event) (start calls : ℕ) (q : Reply) (m n : Machine) → Steps [] begun 1 (history_of s) → machine_of begun s ≡ m
    → turn [] (given_by q) m (length (history_of s) + 1) by.actor event ≡ (q, n) → n.stopped ≡ (if is_faulted q then Some (length (history_of s) + 1) else s.stopped)
    → (is_faulted q ≡ false → IsTold earlier past w s n)
    → Runs earlier begun past w (with_entry s (entry_of s by event start calls q))
entered earlier begun past w s by event start calls q m n steps at is stopped told =
    let h = history_of s in
    let e = entry_of s by event start calls q in
    let here : turn [] (given_by q) (machine_of begun s) (length h + 1) by.actor event ≡ (q, n) = ap (λ (k : Machine). turn [] (given_by q) k (length h + 1) by.actor event) at ∙ is in
    let same : state_at [] begun (h ++ e ∷ []) ≡ n = state_on begun h e ∙ ap (λ (r : Reply × Machine). r.1) here in
    record {
      steps = steps_on begun 1 h e steps (omega arith) (sym (ap (λ (r : Reply × Machine). r.0) here));
      stopped = ap (λ (k : Machine). k.stopped) same ∙ stopped;
      told = λ none. subst (λ (k : Machine). IsTold earlier past w (with_entry s e) k) (sym same)
          (let tells = told (calm (is_faulted q) refl none) in record { shown = entered_shown earlier past w s e n tells.shown; regular = tells.regular; roomy = tells.roomy });
    }
  where
    calm : (b : Bool) → is_faulted q ≡ b → (if is_faulted q then Some (length (history_of s) + 1) else s.stopped) ≡ None → is_faulted q ≡ false
    calm true faulty none = absurd (let clash : Some (length (history_of s) + 1) ≡ None = subst (λ (x : Bool). (if x then Some (length (history_of s) + 1) else s.stopped) ≡ None) faulty none in cc)
    calm false fine none = fine

-- what each turn counts on of the machine
pub record IsReady (m : Machine) : Type 0 where
  pub going : m.stopped ≡ None
  pub regular : Regular m
  pub roomy : Roomy m

no_shelf : HoldsShortRows []
unfolding objects
no_shelf = All-nil HasShortBlocks

-- a turn that the parts answered is entered
pub goes_with : {E : Type 0} (earlier : ℕ → Record) (begun : Machine) (past : Past) (w : Installation) (s : State) (by : By) (event : Event) (start calls : ℕ) (m : Machine) (r : Reply × Machine) (answered : Result Reply StorageFault) (result : Result Reply E) (new : State)
    → Steps [] begun 1 (history_of s) → machine_of begun s ≡ m → s.stopped ≡ None → IsReady m
    → turn_of [] (given_by r.0) m (length (history_of s) + 1) (number_of by.actor) event ≡ r → (comes_first r.0 ≡ false → (g : Given) → g.dirty ≡ Some (0, 0) → comes_first (turn_of [] g m (length (history_of s) + 1) (number_of by.actor) event).0 ≡ false)
    → is_faulted r.0 ≡ false → HasShortRow event
    → Answers m (λ k. IsShown earlier past w s k) r answered → IsToldAs answered result
    → IfOk result (λ reply. new ≡ with_entry s (entry_of s by event start calls reply)) → OnErr result (new ≡ s)
    → Runs earlier begun past w new
goes_with {E = E} earlier begun past w s by event start calls m r answered result new steps at stopped ready plain yields calm short answers told ok err = cases answered result answers told ok err
  where
    number : ℕ
    number = length (history_of s) + 1

    entering : Reply → State
    entering q = with_entry s (entry_of s by event start calls q)

    both : turn [] (given_by r.0) m number by.actor event ≡ r
    both = plain_turn m number by.actor event r ready.going plain calm

    told_of : IsShown earlier past w s r.1 → IsTold earlier past w s r.1
    told_of shown =
        let kept : Both r.1 = subst (λ (x : Reply × Machine). Both x.1) both (turn_both [] (given_by r.0) m number by.actor event no_shelf short (ready.roomy, ready.regular)) in
        record { shown = shown; regular = kept.1; roomy = kept.0 }

    answered_so : (q : Reply) → q ≡ r.0 → IsShown earlier past w s r.1 → Runs earlier begun past w (entering q)
    answered_so q is shown = subst (λ (x : Reply). Runs earlier begun past w (entering x)) (sym is)
        (entered earlier begun past w s by event start calls r.0 m r.1 steps at both (shown.going ∙ sym stopped ∙ sym (rw calm refl)) (λ fine. told_of shown))

    faulted_so : (q : Reply) (f : DeviceFault) → (given_by q).fault ≡ Some f → (given_by q).dirty ≡ Some (0, 0) → fault_reply f ≡ q → is_faulted q ≡ true → comes_first r.0 ≡ false → Runs earlier begun past w (entering q)
    faulted_so q f fault dirty is faulty last =
        let here = yields last (given_by q) dirty in
        entered earlier begun past w s by event start calls q m (record m { stopped = Some number }) steps at
        (failed_turn m number by.actor event (given_by q) f ready.going fault here ∙ ap (λ (x : Reply). let p : Reply × Machine = (x, record m { stopped = Some number }) in p) is)
        (sym (rw faulty refl)) (λ fine. absurd (let clash : true ≡ false = sym faulty ∙ fine in cc))

    stays : IsShown earlier past w s m → Runs earlier begun past w s
    stays shown = record {
      steps = steps;
      stopped = ap (λ (k : Machine). k.stopped) at ∙ ready.going ∙ sym stopped;
      told = λ none. subst (λ (k : Machine). IsTold earlier past w s k) (sym at) (record { shown = shown; regular = ready.regular; roomy = ready.roomy });
    }

    cases : (a : Result Reply StorageFault) (t : Result Reply E) → Answers m (λ k. IsShown earlier past w s k) r a → IsToldAs a t → IfOk t (λ reply. new ≡ entering reply) → OnErr t (new ≡ s) → Runs earlier begun past w new
    cases (Ok q) (Ok t) (is, shown) told ok err = subst (λ (x : State). Runs earlier begun past w x) (sym ok) (answered_so t (told ∙ is) shown)
    cases (Ok q) (Err e) answers told ok err = absurd told
    cases (Err Failed) (Ok t) answers (chunk, told) ok err = subst (λ (x : State). Runs earlier begun past w x) (sym ok) (subst (λ (x : Reply). Runs earlier begun past w (entering x)) (sym told) (faulted_so (DiskFault chunk) (DiskFails chunk) refl refl refl refl answers))
    cases (Err Failed) (Err e) answers told ok err = absurd told
    cases (Err (Bad chunk page)) (Ok t) answers told ok err = subst (λ (x : State). Runs earlier begun past w x) (sym ok) (subst (λ (x : Reply). Runs earlier begun past w (entering x)) (sym told) (faulted_so (BadRead chunk page) (ReadsBad chunk page) refl refl refl refl answers))
    cases (Err (Bad chunk page)) (Err e) answers told ok err = absurd told
    cases (Err NoMemory) (Err e) answers told ok err = subst (λ (x : State). Runs earlier begun past w x) (sym err) (stays answers)
    cases (Err NoMemory) (Ok t) answers told ok err = absurd told
    cases (Err StoppedFault) t answers told ok err = absurd answers

-- one that depends on the machine alone
pub goes_on : {E : Type 0} (earlier : ℕ → Record) (begun : Machine) (past : Past) (w : Installation) (s : State) (by : By) (event : Event) (start calls : ℕ) (m : Machine) (r : Reply × Machine) (answered : Result Reply StorageFault) (result : Result Reply E) (new : State)
    → Steps [] begun 1 (history_of s) → machine_of begun s ≡ m → s.stopped ≡ None → IsReady m
    → ((g : Given) → turn_of [] g m (length (history_of s) + 1) (number_of by.actor) event ≡ r) → is_faulted r.0 ≡ false → HasShortRow event
    → Answers m (λ k. IsShown earlier past w s k) r answered → IsToldAs answered result
    → IfOk result (λ reply. new ≡ with_entry s (entry_of s by event start calls reply)) → OnErr result (new ≡ s)
    → Runs earlier begun past w new
goes_on earlier begun past w s by event start calls m r answered result new steps at stopped ready turns calm short answers told ok err =
    goes_with earlier begun past w s by event start calls m r answered result new steps at stopped ready (turns (given_by r.0))
    (λ last g dirty. ap (λ (x : Reply × Machine). comes_first x.0) (turns g) ∙ last) calm short answers told ok err

-- ---- what a turn begins with

-- with room for entries made
pub reserved_runs : (earlier : ℕ → Record) (begun : Machine) (past : Past) (v : Installation) (s : State) (n : Noted) → n.entries ≡ history_of s → Runs earlier begun past v s → Runs earlier begun past v (record s { entries = n })
reserved_runs earlier begun past v s n same runs = record {
  steps = subst (λ (h : List Entry). Steps [] begun 1 h) (sym same) runs.steps;
  stopped = ap (λ (h : List Entry). (state_at [] begun h).stopped) same ∙ runs.stopped;
  told = λ none. let told = runs.told none in subst (λ (h : List Entry). IsTold earlier past v (record s { entries = n }) (state_at [] begun h)) (sym same) (record {
    shown = record { shows = told.shown.shows; archives = told.shown.archives; stored = told.shown.stored; full = told.shown.full; going = told.shown.going };
    regular = told.regular;
    roomy = told.roomy;
  });
}

pub ready_of : (earlier : ℕ → Record) (past : Past) (v : Installation) (s : State) (m : Machine) → IsTold earlier past v s m → IsReady m
ready_of earlier past v s m told = record { going = told.shown.going; regular = told.regular; roomy = told.roomy }

-- ---- replies

-- a turn whose refusals and answer tell of no fault
pub calm_unless : (m : Machine) (tests : List (Bool × Reply)) (answer : Reply × Machine) → AllByRecursion (λ (t : Bool × Reply). is_faulted t.1 ≡ false) tests → is_faulted answer.0 ≡ false → is_faulted (unless m tests answer).0 ≡ false
calm_unless m [] answer all last = last
calm_unless m (t ∷ rest) answer (first, all) last = elim t.0 as (λ b. is_faulted (if b then (let p : Reply × Machine = (t.1, m) in p) else unless m rest answer).0 ≡ false) [ true ↦ first | false ↦ calm_unless m rest answer all last ]

-- what the parts answer is such a reply
pub calm_answer : (m : Machine) (shown : Machine → Type 0) (r : Reply × Machine) (answered : Result Reply StorageFault) → is_faulted r.0 ≡ false → Answers m shown r answered → IfOk answered (λ reply. is_faulted reply ≡ false)
calm_answer m shown r (Ok q) calm (is, after) = ap is_faulted is ∙ calm
calm_answer m shown r (Err fault) calm answers = tt
