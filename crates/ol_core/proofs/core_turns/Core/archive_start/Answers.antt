use Rattle.std.proofs.Common.{ap, arith, length, refl, rules, sym, ◌+◌, ◌≡◌, ◌∙◌, ℕ}
use Rattle.std.specs.Prelude.{unwrap_or}
use Rattle.ol_core.specs.declared.running.Running.{Running}
use Rattle.ol_core.proofs.Kept.{few_rows}
use Rattle.ol_core.proofs.Turns.{takes_start}
use Rattle.ol_core.proofs.core_turns.Core.archive_start.Goals as goal

pub count-pages-requires-clause-few : goal.count-pages-requires-clause-few
count-pages-requires-clause-few c = few_rows c.self.invariant

pub overflow_add-self : goal.overflow_add-self
overflow_add-self c = omega (arith, c.self.invariant.number, c.in_ok-answer-3.ensures.bound)

pub returns-clause-ok : goal.returns-clause-ok
returns-clause-ok c =
    let b : Running = record { number = c.self.inside.next_archive; cut = c.len-cut.result; low = c.unwrap_or-low.result; spaces = c.in-Some.spaces; passed = 0 } in
    let cut : c.len-cut.result ≡ length c.self.inside.journal.items = search rules in
    let low : c.unwrap_or-low.result ≡ unwrap_or c.self.inside.txn (length c.self.inside.journal.items + 1) = c.unwrap_or-low.ensures ∙ ap (λ (n : ℕ). unwrap_or c.self.inside.txn (n + 1)) cut in
    takes_start c.self.inside.registers b c.count-pages.result c.self.invariant c.self.view_is c.requires.actor (cc) (sym c.choose.ensures ∙ c.in-Some.is) refl refl cut low refl c.count-pages.ensures.value c.in_ok-answer-3.ensures.ok
