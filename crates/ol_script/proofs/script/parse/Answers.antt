use Rattle.std.proofs.Common.{IfOk, List, Ok, ap, subst, sym, ◌∙◌, ◌≡◌, ℕ}
use Rattle.ol_script.specs.Script.{script_of}
use Rattle.ol_script.proofs.LimitLaws.{limit_loses_nothing}
use Rattle.ol_script.proofs.script.parse.Goals as goal

pub returns-clause-script : goal.returns-clause-script
returns-clause-script g c = λ left told.
    let same : script_of c.deref.result.now ≡ script_of left = ap (λ (l : List ℕ). script_of l) (c.deref.ensures.value ∙ c.in-Ok.ensures.bytes left told) ∙ limit_loses_nothing left in
    subst (λ r. IfOk c.parse_text.result (λ s. r ≡ Ok s)) same c.parse_text.ensures.script

pub returns-clause-bad : goal.returns-clause-bad
returns-clause-bad g c = λ left n told e.
    let same : script_of c.deref.result.now ≡ script_of left = ap (λ (l : List ℕ). script_of l) (c.deref.ensures.value ∙ c.in-Ok.ensures.bytes left told) ∙ limit_loses_nothing left in
    sym same ∙ c.parse_text.ensures.bad n e
