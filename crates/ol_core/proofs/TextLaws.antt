-- Where the entries of a line stand together, the next entry tells whether another of its line follows.
use Rattle.std.specs.Prelude.{Bool, List, None, Option, Some, [], false, true, ℕ, ◌&&◌, ◌+◌, ◌<◌, ◌==◌, ◌∷◌, ◌≡◌, ◌≢◌, ◌⊎◌, refl}
use Rattle.std.proofs.Common.{ap, arith, eq-eqb, inl, inr, sym, ◌∙◌}
use Rattle.std.proofs.lemmas.Bool.{eqb-true}
use Rattle.ol_values.specs.declared.history.Actor.{Actor}
use Rattle.ol_values.specs.declared.history.Actor.TheVariants.{Archiver, Backer, Checkpointer, Flusher, Session, Warmer}
use Rattle.ol_values.specs.declared.history.Entry.{Entry}
use Rattle.ol_values.specs.declared.line.Line.{Line}
use Rattle.ol_rules.specs.Scripts.{Ascends}
use Rattle.ol_core.specs.History.{Happening, Leads, Position, first_or, lines_after, start_of, state_after}
use Rattle.ol_values.specs.Text.{same_actor}
use Rattle.ol_core.specs.Lines.{Stage, stage_after}
use Rattle.ol_core.specs.Machine.{Machine}
use Rattle.ol_values.specs.Text.{IsInLineOrder, is_followed}
use Rattle.ol_core.proofs.HistoryLaws.{entries}

same_self : (a : Actor) → same_actor a a ≡ true
same_self (Session k) = eq-eqb k k refl
same_self (Archiver k) = eq-eqb k k refl
same_self Backer = refl
same_self Flusher = refl
same_self Checkpointer = refl
same_self Warmer = refl

differs : (a b : ℕ) → a ≢ b → (a == b) ≡ false
differs a b ne = cases (a == b) refl
  where
    cases : (t : Bool) → (a == b) ≡ t → t ≡ false
    cases true e = absurd (ne (eqb-true a b e))
    cases false e = refl

and_false : (a : Bool) → (a && false) ≡ false
and_false true = refl
and_false false = refl

-- the first of these entries is of a later line
abbrev IsBehind : Entry → List Entry → Type 0
IsBehind e [] = Unit {0}
IsBehind e (d ∷ h) = e.line < d.line

behind_next : (e d : Entry) (h : List Entry) → e.line < d.line → IsInLineOrder (d ∷ h) → IsBehind e h
behind_next e d [] lt o = tt
behind_next e d (c ∷ h) lt (inl less, o) = omega arith
behind_next e d (c ∷ h) lt (inr same, o) = omega (arith, same.0)

later : (d : Entry) (h : List Entry) → IsInLineOrder (d ∷ h) → IsInLineOrder h
later d [] o = tt
later d (c ∷ h) o = o.1

none_follow : (e : Entry) (h : List Entry) → IsBehind e h → IsInLineOrder h → is_followed e h ≡ false
none_follow e [] b o = refl
none_follow e (d ∷ h) b o =
    rw (differs d.line e.line (omega (arith, b)), and_false (same_actor d.actor e.actor)) (none_follow e h (behind_next e d h b o) (later d h o))

pub is_followed-next : (e d : Entry) (h : List Entry) → IsInLineOrder (e ∷ d ∷ h) → is_followed e (d ∷ h) ≡ (d.line == e.line)
is_followed-next e d h (inl less, o) = none_follow e (d ∷ h) less o ∙ sym (differs d.line e.line (omega arith))
is_followed-next e d h (inr same, o) =
    let one : same_actor d.actor e.actor ≡ true = ap (λ (a : Actor). same_actor d.actor a) same.1 ∙ same_self d.actor in
    let two : (d.line == e.line) ≡ true = eq-eqb d.line e.line (sym same.0) in
    rw (one, two) refl

-- ---- runs in file order keep this order

-- the first of these entries is of this line
abbrev IsFirst : Line → List Happening → Type 0
IsFirst line [] = Unit {0}
IsFirst line (h ∷ hs) = (h.entry.line ≡ line.number) × (h.entry.actor ≡ line.actor)

record IsOrdered (line : Line) (hs : List Happening) : Type 0 where
  first : IsFirst line hs
  order : IsInLineOrder (entries hs)

one_more : (h : Happening) (line next : Line) (hs : List Happening) → h.entry.line ≡ line.number → h.entry.actor ≡ line.actor → (line.number < next.number) ⊎ ((line.number ≡ next.number) × (line.actor ≡ next.actor))
    → IsOrdered next hs → IsInLineOrder (entries (h ∷ hs))
one_more h line next [] p q r o = tt
one_more h line next (g ∷ hs) p q (inl lt) o = (inl (omega (arith, o.first.0)), o.order)
one_more h line next (g ∷ hs) p q (inr same) o = (inr (p ∙ same.0 ∙ sym o.first.0, q ∙ same.1 ∙ sym o.first.1), o.order)

-- the position after an entry of number n
abbrev next_at : Machine → ℕ → Happening → List Line → Stage → Position
next_at m n h lines stage = record { machine = state_after m h.entry; number = n + 1; lines = lines; stage = stage }

order_without : (m : Machine) (n : ℕ) (line : Line) (lines : List Line) (p : Stage) (h : Happening) (hs : List Happening) (q : Position)
    → h.entry.line ≡ line.number → h.entry.actor ≡ line.actor → Ascends (line ∷ lines)
    → ((next : Line) (more : List Line) (s : Stage) → Ascends (next ∷ more) → Leads (next_at m n h (next ∷ more) s) hs q → IsOrdered next hs)
    → Leads (next_at m n h lines p) hs q → IsInLineOrder (entries (h ∷ hs))
order_without m n line [] p h [] q at by a rest r = tt
order_without m n line [] p h (g ∷ hs) q at by a rest r = absurd (r.0)
order_without m n line (next ∷ lines) p h hs q at by a rest r = one_more h line next hs at by (inl a.0) (rest next lines p a.1 r)

order_after : (m : Machine) (n : ℕ) (line : Line) (lines : List Line) (h : Happening) (hs : List Happening) (q : Position)
    → h.entry.line ≡ line.number → h.entry.actor ≡ line.actor → Ascends (line ∷ lines)
    → ((next : Line) (more : List Line) (s : Stage) → Ascends (next ∷ more) → Leads (next_at m n h (next ∷ more) s) hs q → IsOrdered next hs)
    → (s : Option Stage) → Leads (next_at m n h (lines_after s (line ∷ lines)) (first_or s)) hs q → IsInLineOrder (entries (h ∷ hs))
order_after m n line lines h hs q at by a rest None r = order_without m n line lines (first_or None) h hs q at by a rest r
order_after m n line lines h hs q at by a rest (Some s) r = one_more h line line hs at by (inr (refl, refl)) (rest line lines s a r)

ordered_from : (m : Machine) (n : ℕ) (line : Line) (lines : List Line) (stage : Stage) (hs : List Happening) (q : Position)
    → Ascends (line ∷ lines) → Leads (record { machine = m; number = n; lines = line ∷ lines; stage = stage }) hs q → IsOrdered line hs
ordered_from m n line lines stage [] q a l = record { first = tt; order = tt }
ordered_from m n line lines stage (h ∷ hs) q a l = record {
  first = ((l.0).line_is, (l.0).actor);
  order =
      order_after m n line lines h hs q (l.0).line_is (l.0).actor a (λ next more p b r. ordered_from (state_after m h.entry) (n + 1) next more p hs q b r)
      (stage_after line.form stage h.entry.reply h.outside) l.1;
}

pub in_line_order : (m : Machine) (lines : List Line) (hs : List Happening) (q : Position) → Ascends lines → Leads (start_of m lines) hs q → IsInLineOrder (entries hs)
in_line_order m [] [] q a l = tt
in_line_order m [] (h ∷ hs) q a l = absurd (l.0)
in_line_order m (line ∷ lines) hs q a l = (ordered_from m 1 line lines (start_of m (line ∷ lines)).stage hs q a l).order
