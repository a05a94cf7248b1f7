-- Runs of lines in file order: they go on by one entry, and their histories are legal.
use Rattle.std.specs.Prelude.{Bool, List, None, Option, Some, [], false, if◌then◌else◌, map, true, ℕ, ◌++◌, ◌+◌, ◌∷◌, ◌≡◌, ◌⊎◌, refl}
use Rattle.std.proofs.Common.{ap, inl, inr, subst, sym, ◌∙◌}
use Rattle.ol_values.specs.declared.history.Actor.{Actor}
use Rattle.ol_values.specs.declared.history.Entry.{Entry}
use Rattle.ol_values.specs.declared.line.Line.{Line}
use Rattle.ol_rules.specs.Scripts.{lines_of}
use Rattle.ol_core.specs.History.{Carries, Happening, IsNext, Leads, Legal, Position, Steps, entries_of, first_or, lines_after, position_after, start_of, state_after, state_at}
use Rattle.ol_values.specs.Text.{same_actor}
use Rattle.ol_core.specs.Lines.{First, Outside, Stage, event_at, stage_after}
use Rattle.ol_core.specs.Machine.{Machine}
use Rattle.ol_core.specs.Turns.{given_by, turn}

abbrev pub entries : List Happening → List Entry
entries hs = map (λ (h : Happening). h.entry) hs

-- one entry more
pub leads_on : (p : Position) (hs : List Happening) (q : Position) (h : Happening) → Leads p hs q → IsNext q q.lines h.entry → Leads p (hs ++ h ∷ []) (position_after q q.lines h)
leads_on p [] q h is next =
    (subst (λ (r : Position). IsNext r r.lines h.entry) (sym is) next, ap (λ (r : Position). position_after r r.lines h) is)
leads_on p (g ∷ hs) q h leads next = (leads.0, leads_on (position_after p p.lines g) hs q h leads.1 next)

-- ---- each entry is a step

record Stepped (p : Position) (lines : List Line) (h : Happening) : Type 0 where
  number : h.entry.number ≡ p.number
  reply : h.entry.reply ≡ (turn (given_by h.entry.reply) p.machine h.entry.actor h.entry.event).0
  machine : (position_after p lines h).machine ≡ state_after p.machine h.entry
  next : (position_after p lines h).number ≡ p.number + 1

stepped : (p : Position) (lines : List Line) (h : Happening) → IsNext p lines h.entry → Stepped p lines h
stepped p [] h n = absurd n
stepped p (line ∷ lines) h n = record { number = n.number; reply = n.reply; machine = refl; next = refl }

pub steps_of : (p : Position) (hs : List Happening) (q : Position) → Leads p hs q → Steps p.machine p.number (entries hs)
steps_of p [] q l = tt
steps_of p (h ∷ hs) q l =
    let s = stepped p p.lines h l.0 in
    let r = position_after p p.lines h in
    let rest : Steps r.machine r.number (entries hs) = steps_of r hs q l.1 in
    (s.number, s.reply, subst (λ (m : Machine). Steps m (p.number + 1) (entries hs)) s.machine (subst (λ (n : ℕ). Steps r.machine n (entries hs)) s.next rest))

-- where entries lead is the state after them
pub state_led : (p : Position) (hs : List Happening) (q : Position) → Leads p hs q → q.machine ≡ state_at p.machine (entries hs)
state_led p [] q l = ap (λ (r : Position). r.machine) (sym l)
state_led p (h ∷ hs) q l =
    let s = stepped p p.lines h l.0 in
    state_led (position_after p p.lines h) hs q l.1 ∙ ap (λ (m : Machine). state_at m (entries hs)) s.machine

-- ---- each actor's entries carry out its lines

-- the stage of an actor's first line, where the first of all lines has come to a stage
abbrev stage_for : Actor → List Line → Stage → Stage
stage_for actor [] stage = First
stage_for actor (line ∷ lines) stage = if same_actor line.actor actor then stage else First

first_for : (actor : Actor) (lines : List Line) → stage_for actor lines First ≡ First
first_for actor [] = refl
first_for actor (line ∷ lines) = elim (same_actor line.actor actor) as (λ b. (if b then First else First) ≡ First) [ true ↦ refl | false ↦ refl ]

carries_none : (may_stop : Bool) (lines : List Line) (stage : Stage) → may_stop ≡ true → Carries may_stop lines stage []
carries_none may_stop [] stage h = tt
carries_none may_stop (line ∷ lines) stage h = h

carries_done : (may_stop : Bool) (actor : Actor) (lines : List Line) (stage : Stage) → lines ≡ [] → Carries may_stop (lines_of actor lines) (stage_for actor lines stage) []
carries_done may_stop actor lines stage h = subst (λ (l : List Line). Carries may_stop (lines_of actor l) (stage_for actor l stage) []) (sym h) tt

-- what holds after the first entry holds before it
carries_before : (may_stop : Bool) (actor : Actor) (line : Line) (lines : List Line) (stage : Stage) (next : Option Stage) (e : Entry) (h : List Entry) (o : Outside)
    → (e.actor ≡ line.actor) → (e.line ≡ line.number) → (Some e.event ≡ event_at line.form stage) → stage_after line.form stage e.reply o ≡ next
    → Carries may_stop (lines_of actor (lines_after next (line ∷ lines))) (stage_for actor (lines_after next (line ∷ lines)) (first_or next)) (entries_of actor h)
    → (b : Bool) → same_actor line.actor actor ≡ b
    → Carries may_stop (lines_of actor (line ∷ lines)) (stage_for actor (line ∷ lines) stage) (entries_of actor (e ∷ h))
carries_before may_stop actor line lines stage next e h o by at does is rest true same =
    let his : same_actor e.actor actor ≡ true = ap (λ (a : Actor). same_actor a actor) by ∙ same in
    let more = lines_of actor lines in
    let left = entries_of actor h in
    rw (same, his) (by, at, does, (o, subst (λ (n : Option Stage). Carries may_stop (lines_after n (line ∷ more)) (first_or n) left) (sym is) (own next rest)))
  where
    own : (n : Option Stage) → Carries may_stop (lines_of actor (lines_after n (line ∷ lines))) (stage_for actor (lines_after n (line ∷ lines)) (first_or n)) (entries_of actor h)
        → Carries may_stop (lines_after n (line ∷ lines_of actor lines)) (first_or n) (entries_of actor h)
    own None r = subst (λ (s : Stage). Carries may_stop (lines_of actor lines) s (entries_of actor h)) (first_for actor lines) r
    own (Some s) r = rw same at r
carries_before may_stop actor line lines stage next e h o by at does is rest false same =
    let other : same_actor e.actor actor ≡ false = ap (λ (a : Actor). same_actor a actor) by ∙ same in
    rw (same, other) (past next rest)
  where
    past : (n : Option Stage) → Carries may_stop (lines_of actor (lines_after n (line ∷ lines))) (stage_for actor (lines_after n (line ∷ lines)) (first_or n)) (entries_of actor h)
        → Carries may_stop (lines_of actor lines) First (entries_of actor h)
    past None r = subst (λ (s : Stage). Carries may_stop (lines_of actor lines) s (entries_of actor h)) (first_for actor lines) r
    past (Some s) r = rw same at r

carries_from : (may_stop : Bool) (actor : Actor) (m : Machine) (n : ℕ) (lines : List Line) (stage : Stage) (hs : List Happening) (q : Position)
    → Leads (record { machine = m; number = n; lines = lines; stage = stage }) hs q → (q.lines ≡ []) ⊎ (may_stop ≡ true)
    → Carries may_stop (lines_of actor lines) (stage_for actor lines stage) (entries_of actor (entries hs))
carries_from may_stop actor m n lines stage [] q l (inl h) =
    carries_done may_stop actor lines stage (ap (λ (p : Position). p.lines) l ∙ h)
carries_from may_stop actor m n lines stage [] q l (inr h) = carries_none may_stop (lines_of actor lines) (stage_for actor lines stage) h
carries_from may_stop actor m n [] stage (h ∷ hs) q l w = absurd (l.0)
carries_from may_stop actor m n (line ∷ lines) stage (h ∷ hs) q l w =
    let next = stage_after line.form stage h.entry.reply h.outside in
    carries_before may_stop actor line lines stage next h.entry (entries hs) h.outside (l.0).actor (l.0).line_is (l.0).event refl
    (carries_from may_stop actor (state_after m h.entry) (n + 1) (lines_after next (line ∷ lines)) (first_or next) hs q l.1 w)
    (same_actor line.actor actor) refl

-- a run of lines in file order, to the end of the last one or where it may stop, is legal
pub legal : (m : Machine) (starved : Bool) (lines : List Line) (hs : List Happening) (q : Position)
    → Leads (start_of m lines) hs q → (q.lines ≡ []) ⊎ (starved ≡ true) → Legal m starved lines (entries hs)
legal m starved lines hs q l w = record {
  steps = steps_of (start_of m lines) hs q l;
  carries = λ actor. subst (λ (s : Stage). Carries starved (lines_of actor lines) s (entries_of actor (entries hs))) (first_for actor lines) (carries_from starved actor m 1 lines First hs q l w);
}
