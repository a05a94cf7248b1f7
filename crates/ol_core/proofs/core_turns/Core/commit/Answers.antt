use Rattle.std.proofs.Common.{List, [], ap, ◌++◌, ◌∷◌, ◌∙◌}
use Rattle.ol_values.specs.declared.record.Record.{Record}
use Rattle.ol_values.specs.declared.record.Record.TheVariants.{Commit}
use Rattle.ol_core.specs.Core.{Seen}
use Rattle.ol_core.proofs.Kept.{kept_commit}
use Rattle.ol_core.proofs.core_turns.Core.commit.Goals as goal

pub invariant_of-self-2 : goal.invariant_of-self-2
invariant_of-self-2 c =
    kept_commit _ _ c.in-Some.is (ap (λ (s : Seen). s.machine.archives) c.self.view_is ∙ c.requires.idle)
    (c.append.ensures ∙ ap (λ (l : List Record). l ++ Commit c.in-Some.txn ∷ []) c.reserve.ensures.items)
    c.in_ok-answer-2.ensures.ok c.self.invariant
