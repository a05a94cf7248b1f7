use Rattle.std.proofs.Common.{ap, position, slice_index_or, slice_set, List, None, Some, ◌≡◌, ◌∙◌}
use Rattle.ol_rollfwd.specs.Losers.{Loser, with_change}
use Rattle.ol_rollfwd.proofs.LoserLaws.{first_at, has_number, none_at, set_at, set_none}
use Rattle.std.proofs.lemmas.Result.{on_ok_weaker}
use Rattle.ol_rollfwd.proofs.losers.change.Goals as goal

pub returns-in_default-clause-ok : goal.returns-in_default-clause-ok
returns-in_default-clause-ok c =
    let items = c.args.losers.now.items in
    let none : None ≡ position (has_number c.args.txn) items = c.in_default.ensures.value ∙ ap (λ (l : List Loser). position (has_number c.args.txn) l) c.deref.ensures.value in
    set_none c.args.txn (with_change c.args.rid c.args.before.now) items (none_at c.args.txn items none)

pub returns-clause-ok : goal.returns-clause-ok
returns-clause-ok c =
    let items = c.args.losers.now.items in
    let t = c.index_mut.result.now in
    let at : Some c.in-Some.at ≡ position (has_number c.args.txn) items = c.in-Some.ensures.value ∙ ap (λ (l : List Loser). position (has_number c.args.txn) l) c.deref.ensures.value in
    let step : Loser → Loser = with_change c.args.rid c.args.before.now in
    let same : step t ≡ step (slice_index_or items c.in-Some.at t) = ap step c.index_mut.ensures.value in
    on_ok_weaker c.note.result
    (λ e. ap (λ (u : Loser). slice_set items c.in-Some.at u) (e ∙ ap (λ v. with_change c.args.rid v t) c.copy_value.ensures ∙ same) ∙ set_at c.args.txn step items c.in-Some.at t (first_at c.args.txn items c.in-Some.at t at))
    c.note.ensures.ok
