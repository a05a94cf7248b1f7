use Rattle.std.proofs.Common.{List, [], ap, false, ◌++◌, ◌+◌, ◌∷◌, ◌≡◌, ◌∙◌}
use Rattle.std.specs.Option.{is_some}
use Rattle.ol_values.specs.declared.record.Record.{Record}
use Rattle.ol_values.specs.declared.record.Record.TheVariants.{Begin}
use Rattle.ol_core.specs.Core.{Seen}
use Rattle.ol_core.proofs.Kept.{kept_begin}
use Rattle.ol_core.proofs.core_turns.Core.begin.Goals as goal

pub invariant_of-self-2 : goal.invariant_of-self-2
invariant_of-self-2 c =
    let none : is_some c.self.inside.txn ≡ false = cc in
    kept_begin _ _ none (ap (λ (s : Seen). s.machine.archives) c.self.view_is ∙ c.requires.idle)
    (c.append.ensures ∙ ap (λ (l : List Record). l ++ Begin (c.len.result + 1) ∷ []) c.reserve.ensures.items)
    c.in_ok-answer-2.ensures.ok c.self.invariant
