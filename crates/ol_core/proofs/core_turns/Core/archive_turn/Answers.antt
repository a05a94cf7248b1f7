use Rattle.std.proofs.Common.{arith, refl, subst, sym, ◌+◌, ◌≤◌, ◌∙◌}
use Rattle.std.specs.Prelude.{IfSome}
use Rattle.ol_core.specs.declared.running.Running.{Running}
use Rattle.ol_core.proofs.Kept.{few_passed, few_rows, kept_passed}
use Rattle.ol_core.proofs.Places.{place_is_there}
use Rattle.ol_core.proofs.Turns.{takes_all, takes_page}
use Rattle.ol_core.proofs.core_turns.Core.archive_turn.Goals as goal

pub page_behind-requires-clause-few : goal.page_behind-requires-clause-few
page_behind-requires-clause-few c = few_rows c.self.invariant

pub returns-in_default-page_behind-clause-ok : goal.returns-in_default-page_behind-clause-ok
returns-in_default-page_behind-clause-ok c =
    takes_all c.self.inside.registers c.in-Some.archive c.in-Some.is c.self.invariant c.self.view_is c.requires.actor (sym c.page_behind.ensures.value ∙ c.in_default-page_behind.is) c.in_ok-answer-2.ensures.ok

pub overflow_add-self : goal.overflow_add-self
overflow_add-self c =
    let few = subst (λ a. IfSome a (λ (r : Running). r.passed ≤ 1048560)) c.in-Some.is (few_passed c.self.inside.archive c.self.invariant) in
    omega (arith, few)

pub invariant_of-self-2 : goal.invariant_of-self-2
invariant_of-self-2 c =
    kept_passed c.in-Some.archive (c.in-Some-page_behind.space, c.in-Some-page_behind.page) _ c.in-Some.is (sym c.page_behind.ensures.value ∙ c.in-Some-page_behind.is) c.in_ok-answer-3.ensures.ok c.self.invariant

pub returns-clause-ok : goal.returns-clause-ok
returns-clause-ok c =
    takes_page c.self.inside.registers c.in-Some.archive (record c.in-Some.archive { passed = c.in-Some.archive.passed + 1 }) (c.in-Some-page_behind.space, c.in-Some-page_behind.page) c.in-Some.is c.self.invariant c.self.view_is c.requires.actor (sym c.page_behind.ensures.value ∙ c.in-Some-page_behind.is) refl
    c.in_ok-answer-3.ensures.ok

pub returns-clause-there : goal.returns-clause-there
returns-clause-there c =
    let space = c.in-Some-page_behind.space in
    let page = c.in-Some-page_behind.page in (
      omega (arith, c.in-Some-page_behind.ensures.there, c.self.invariant.whole),
      place_is_there c.self.inside.table c.self.inside.journal.items c.self.inside.pages c.in-Some.archive.spaces c.in-Some.archive.passed (space, page) c.self.invariant.filled (sym c.page_behind.ensures.value ∙ c.in-Some-page_behind.is),
    )
