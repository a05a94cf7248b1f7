use Rattle.std.proofs.Common.{◌≡◌, ℕ, ◌+◌, true, false, List, arith, ap, ◌∙◌, sym}
use Rattle.ol_outside.specs.Faults.{is_listed}
use Rattle.ol_outside.proofs.CountSteps.{count_of_faults-listed, count_of_faults-unlisted}
use Rattle.ol_outside.proofs.faults.Faults.fails.Goals as goal

pub invariant_of-self : goal.invariant_of-self
invariant_of-self c =
    let s = c.self.inside in
    let call = c.in-Some.call in
    let next : call ≡ s.calls + 1 = omega arith in
    let listed : is_listed s.failing.items call ≡ true =
    ap (λ (l : List ℕ). is_listed l call) (sym c.deref.ensures.value) ∙ sym c.contains-listed.ensures.value ∙ c.if-listed.true
    in
    c.saturating_add-self-inside.ensures ∙ count_of_faults-listed s.failing.items s.count s.calls call s.starved next listed c.self.invariant

pub invariant_of-self-else-listed : goal.invariant_of-self-else-listed
invariant_of-self-else-listed c =
    let s = c.self.inside in
    let call = c.in-Some.call in
    let next : call ≡ s.calls + 1 = omega arith in
    let unlisted : is_listed s.failing.items call ≡ false =
    ap (λ (l : List ℕ). is_listed l call) (sym c.deref.ensures.value) ∙ sym c.contains-listed.ensures.value ∙ c.if-listed.false
    in
    count_of_faults-unlisted s.failing.items s.count s.calls call s.starved next unlisted c.self.invariant
