-- A play goes on by one turn.
use Rattle.std.specs.Prelude.{Bool, List, None, Option, Some, [], length, map, true, ℕ, ◌++◌, ◌+◌, ◌∷◌, ◌≡◌, ◌⊎◌, refl}
use Rattle.std.proofs.Common.{ap, arith, length-append, subst, sym, ◌∙◌}
use Rattle.std.proofs.lemmas.List.{map-append}
use Rattle.ol_values.specs.declared.event.Event.{Event}
use Rattle.ol_values.specs.declared.event.Reply.{Reply}
use Rattle.ol_values.specs.declared.event.Why.{Why}
use Rattle.ol_values.specs.declared.history.By.{By}
use Rattle.ol_values.specs.declared.history.Entry.{Entry}
use Rattle.ol_values.specs.declared.line.Line.{Line}
use Rattle.ol_values.specs.Config.{Config}
use Rattle.ol_rules.specs.Scripts.{Ascends}
use Rattle.ol_core.specs.History.{Happening, IsTurnOf, Leads, Legal, Plays, Position, journal_of, state_at, first_or, lines_after, position_at, start_of, state_after, well}
use Rattle.ol_core.specs.Lines.{First, Outside, Stage, all_well, event_at, goes_on, stage_after}
use Rattle.ol_core.specs.Machine.{Machine, formatted, journal_in}
use Rattle.ol_values.specs.Text.{IsInLineOrder}
use Rattle.ol_core.proofs.HistoryLaws.{leads_on, legal, state_led}
use Rattle.ol_core.proofs.TextLaws.{in_line_order}
use Rattle.ol_core.specs.Core.{Seen, Takes, entry_of}
use Rattle.ol_online.specs.Playing.{IsReached, IsRun, IsTurned, at_stage}

-- the turn of a line
pub record IsTurn (line : Line) (stage : Stage) (s : Seen) (by : By) (event : Event) (reply : Reply) (t : Seen) : Type 0 where
  pub takes : Takes s by event reply t
  pub actor : by.actor ≡ line.actor
  pub line_is : by.line ≡ line.number
  pub does : Some event ≡ event_at line.form stage

abbrev pub entry_after : Seen → By → Event → Reply → Entry
entry_after s by event reply = entry_of (length s.history + 1) by event reply

next_turn : {line : Line} {stage : Stage} {s t : Seen} {by : By} {event : Event} {reply : Reply} (left : List Line) → IsTurn line stage s by event reply t → IsTurnOf (at_stage s (line ∷ left) stage) line (entry_after s by event reply)
next_turn {by = by} {event = event} {reply = reply} left turned = record {
  number = refl;
  actor = turned.actor;
  line_is = turned.line_is;
  event = turned.does;
  reply = ap (λ (r : Reply × Machine). r.0) turned.takes.step;
}

same_position : (m m' : Machine) (n n' : ℕ) (lines : List Line) (stage : Stage) → m ≡ m' → n ≡ n' → ◌≡◌ {A = Position} (record { machine = m; number = n; lines = lines; stage = stage }) (record { machine = m'; number = n'; lines = lines; stage = stage })
same_position m m' n n' lines stage p q =
    ap (λ (x : Machine). let r : Position = record { machine = x; number = n; lines = lines; stage = stage } in r) p
    ∙ ap (λ (x : ℕ). let r : Position = record { machine = m'; number = x; lines = lines; stage = stage } in r) q

-- a run goes on by the turn, whatever comes from outside
pub turn_led : (c : Config) (lines : List Line) {line : Line} {stage : Stage} {s t : Seen} {by : By} {event : Event} {reply : Reply} (left : List Line) (hs : List Happening) (o : Outside) (next : Option Stage) → IsTurn line stage s by event reply t
    → stage_after line.form stage reply o ≡ next → Leads (start_of (formatted c) lines) hs (at_stage s (line ∷ left) stage)
    → Leads (start_of (formatted c) lines) (hs ++ (let h : Happening = record { entry = entry_after s by event reply; outside = o } in h) ∷ []) (at_stage t (lines_after next (line ∷ left)) (first_or next))
turn_led c lines {line = line} {stage = stage} {s = s} {t = t} {by = by} {event = event} {reply = reply} left hs o next turned is led =
    let e = entry_after s by event reply in
    let h : Happening = record { entry = e; outside = o } in
    let machine : state_after s.machine e ≡ t.machine = sym (ap (λ (r : Reply × Machine). r.1) turned.takes.step) in
    let number : length s.history + 1 + 1 ≡ length t.history + 1 = omega (arith, ap length turned.takes.told, length-append s.history (e ∷ [])) in
    subst (Leads (start_of (formatted c) lines) (hs ++ h ∷ []))
    (ap (λ (n : Option Stage). position_at (at_stage s (line ∷ left) stage) n e (line ∷ left)) is ∙ same_position (state_after s.machine e) t.machine (length s.history + 1 + 1) (length t.history + 1) (lines_after next (line ∷ left)) (first_or next) machine number)
    (leads_on (start_of (formatted c) lines) hs (at_stage s (line ∷ left) stage) h led (next_turn left turned))

-- with all well
pub reached_on : {c : Config} {lines : List Line} {line : Line} {stage : Stage} {s t : Seen} {by : By} {event : Event} {reply : Reply} (left : List Line) (next : Option Stage) → IsTurn line stage s by event reply t
    → stage_after line.form stage reply all_well ≡ next → IsReached c lines s (line ∷ left) stage → IsReached c lines t (lines_after next (line ∷ left)) (first_or next)
reached_on {c = c} {lines = lines} {line = line} {s = s} {t = t} {by = by} {event = event} {reply = reply} left next turned is r = record {
  leads =
      let e = entry_after s by event reply in
      let hs : map well s.history ++ well e ∷ [] ≡ map well t.history = sym (ap (map well) turned.takes.told ∙ map-append well s.history (e ∷ [])) in
      subst (λ (l : List Happening). Leads (start_of (formatted c) lines) l (at_stage t (lines_after next (line ∷ left)) (first_or next))) hs (turn_led c lines left (map well s.history) all_well next turned is r.leads);
}

-- what follows from outside is open
pub turned_on : {c : Config} {lines : List Line} {line : Line} {stage : Stage} {s t : Seen} {by : By} {event : Event} {reply : Reply} (left : List Line) (next : Stage) → IsTurn line stage s by event reply t
    → ((o : Outside) → stage_after line.form stage reply o ≡ goes_on o.after next) → IsReached c lines s (line ∷ left) stage → IsTurned c lines t (line ∷ left) next
turned_on {c = c} {lines = lines} {line = line} {s = s} {t = t} {by = by} {event = event} {reply = reply} left next turned is r = record {
  before = s.history;
  last = entry_after s by event reply;
  history = turned.takes.told;
  leads = λ o. stays _ o.after (turn_led c lines left (map well s.history) o (goes_on o.after next) turned (is o) r.leads);
}
  where
    stays : (hs : List Happening) (w : Option Why) → Leads (start_of (formatted c) lines) hs (at_stage t (lines_after (goes_on w next) (line ∷ left)) (first_or (goes_on w next))) → Leads (start_of (formatted c) lines) hs (at_stage t (line ∷ left) (first_or (goes_on w next)))
    stays hs None l = l
    stays hs (Some why) l = l

-- the tape took the blocks
pub turned_well : {c : Config} {lines : List Line} {s : Seen} {left : List Line} {next : Stage} → IsTurned c lines s left next → IsReached c lines s left next
turned_well {c = c} {lines = lines} {s = s} {left = left} {next = next} r = record {
  leads =
      let hs : map well r.before ++ well r.last ∷ [] ≡ map well s.history = sym (ap (map well) r.history ∙ map-append well r.before (r.last ∷ [])) in
      subst (λ (l : List Happening). Leads (start_of (formatted c) lines) l (at_stage s left next)) hs (r.leads all_well);
}

-- ---- ends

pub entries_well : (h : List Entry) → map (λ (x : Happening). x.entry) (map well h) ≡ h
entries_well [] = refl
entries_well (e ∷ h) = ap (λ (l : List Entry). e ∷ l) (entries_well h)

pub run_stopped : {c : Config} {lines : List Line} {s : Seen} {left : List Line} {stage : Stage} (starved : Bool) → IsReached c lines s left stage → (left ≡ []) ⊎ (starved ≡ true) → IsRun c lines starved s
run_stopped {c = c} {s = s} {left = left} {stage = stage} starved r done = record {
  happenings = map well s.history;
  entries = entries_well s.history;
  end = at_stage s left stage;
  leads = r.leads;
  machine = refl;
  done = done;
}

-- the journal of a run is that of its history
pub run_journal : {c : Config} {lines : List Line} {starved : Bool} {s : Seen} → IsRun c lines starved s → journal_in s.machine ≡ journal_of (formatted c) s.history
run_journal {c = c} {lines = lines} {s = s} r =
    ap journal_in (sym r.machine ∙ state_led (start_of (formatted c) lines) r.happenings r.end r.leads) ∙ ap (λ (h : List Entry). journal_in (state_at (formatted c) h)) r.entries

pub run_legal : {c : Config} {lines : List Line} {starved : Bool} {s : Seen} → IsRun c lines starved s → Legal (formatted c) starved lines s.history
run_legal {c = c} {lines = lines} {starved = starved} r = subst (Legal (formatted c) starved lines) r.entries (legal (formatted c) starved lines r.happenings r.end r.leads r.done)

pub run_order : {c : Config} {lines : List Line} {starved : Bool} {s : Seen} → Ascends lines → IsRun c lines starved s → IsInLineOrder s.history
run_order {c = c} {lines = lines} a r = subst IsInLineOrder r.entries (in_line_order (formatted c) lines r.happenings r.end a r.leads)

pub reached_plays : {c : Config} {lines : List Line} {s : Seen} → IsReached c lines s [] First → Plays (formatted c) lines s.history
reached_plays {c = c} {s = s} r = (at_stage s [] First, refl, r.leads)
