use Rattle.std.proofs.Common.{ap, position, sym, List, None, Some, ◌+◌, ◌≡◌, ◌∙◌}
use Rattle.ol_rollfwd.specs.Losers.{Loser, loser_numbered, owed_by_one}
use Rattle.ol_rollfwd.proofs.LoserLaws.{first_at, found, has_number, none_at, not_found}
use Rattle.ol_rollfwd.proofs.losers.Losers.owed_by.Goals as goal

pub returns-in-Some-clause-value : goal.returns-in-Some-clause-value
returns-in-Some-clause-value c =
    let t = c.index.result.now in
    let items = c.self.inside.items.items in
    let at : Some c.in-Some.at ≡ position (has_number c.args.txn) items = c.in-Some.ensures.value ∙ ap (λ (l : List Loser). position (has_number c.args.txn) l) c.deref.ensures.value in
    let here : loser_numbered c.args.txn items ≡ Some t = found c.args.txn items c.in-Some.at t (first_at c.args.txn items c.in-Some.at t at) ∙ ap (λ (u : Loser). Some u) (sym c.index.ensures) in
    ap (λ n. 1 + n) c.count.ensures ∙ sym (ap owed_by_one here) ∙ ap (λ (l : List Loser). owed_by_one (loser_numbered c.args.txn l)) c.self.view_is

pub returns-in-None-clause-value : goal.returns-in-None-clause-value
returns-in-None-clause-value c =
    let none : None ≡ position (has_number c.args.txn) c.args.self.now = c.in-None.ensures.value ∙ ap (λ (l : List Loser). position (has_number c.args.txn) l) (c.deref.ensures.value ∙ c.self.view_is) in
    sym (ap owed_by_one (not_found c.args.txn c.args.self.now (none_at c.args.txn c.args.self.now none)))
