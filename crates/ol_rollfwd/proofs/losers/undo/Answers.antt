use Rattle.std.proofs.Common.{ap, position, slice_set, List, None, Some, ◌≡◌, ◌∙◌}
use Rattle.ol_rollfwd.specs.Losers.{Loser, with_undo}
use Rattle.ol_rollfwd.proofs.LoserLaws.{first_at, has_number, none_at, set_at, set_none}
use Rattle.ol_rollfwd.proofs.losers.undo.Goals as goal

pub returns-in-Some : goal.returns-in-Some
returns-in-Some c =
    let items = c.args.losers.now.items in
    let t = c.index_mut.result.now in
    let at : Some c.in-Some.at ≡ position (has_number c.args.txn) items = c.in-Some.ensures.value ∙ ap (λ (l : List Loser). position (has_number c.args.txn) l) c.deref.ensures.value in
    ap (λ (u : Loser). slice_set items c.in-Some.at u) (c.take_back.ensures ∙ ap with_undo c.index_mut.ensures.value) ∙ set_at c.args.txn with_undo items c.in-Some.at t (first_at c.args.txn items c.in-Some.at t at)

pub returns-in_default : goal.returns-in_default
returns-in_default c =
    let items = c.args.losers.now.items in
    let none : None ≡ position (has_number c.args.txn) items = c.in_default.ensures.value ∙ ap (λ (l : List Loser). position (has_number c.args.txn) l) c.deref.ensures.value in
    set_none c.args.txn with_undo items (none_at c.args.txn items none)
