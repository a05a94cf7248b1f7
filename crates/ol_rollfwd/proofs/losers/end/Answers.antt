use Rattle.std.proofs.Common.{ap, position, List, None, Some, ◌≡◌, ◌∙◌}
use Rattle.ol_rollfwd.specs.Losers.{Loser}
use Rattle.ol_rollfwd.proofs.LoserLaws.{first_at, has_number, none_at, remove_at, remove_none}
use Rattle.ol_rollfwd.proofs.losers.end.Goals as goal

pub returns-in-Some : goal.returns-in-Some
returns-in-Some c =
    let items = c.args.losers.now.items in
    let at : Some c.in-Some.at ≡ position (has_number c.args.txn) items = c.in-Some.ensures.value ∙ ap (λ (l : List Loser). position (has_number c.args.txn) l) c.deref.ensures.value in
    c.remove-ended.ensures.items ∙ remove_at c.args.txn items c.in-Some.at (first_at c.args.txn items c.in-Some.at c.remove-ended.result at)

pub returns-in_default : goal.returns-in_default
returns-in_default c =
    let items = c.args.losers.now.items in
    let none : None ≡ position (has_number c.args.txn) items = c.in_default.ensures.value ∙ ap (λ (l : List Loser). position (has_number c.args.txn) l) c.deref.ensures.value in
    remove_none c.args.txn items (none_at c.args.txn items none)
