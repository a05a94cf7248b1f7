use Rattle.std.proofs.Common.{ap, not, position, sym, List, None, Option, Some, ◌≡◌, ◌∙◌}
use Rattle.ol_rollfwd.specs.Losers.{Loser, is_forward, is_one, loser_numbered}
use Rattle.ol_rollfwd.proofs.LoserLaws.{first_at, found, has_number, none_at, not_found}
use Rattle.ol_rollfwd.proofs.losers.Losers.is_forward.Goals as goal

pub returns-in-Some : goal.returns-in-Some
returns-in-Some c =
    let t = c.index.result.now in
    let items = c.self.inside.items.items in
    let at : Some c.in-Some.at ≡ position (has_number c.args.txn) items = c.in-Some.ensures.value ∙ ap (λ (l : List Loser). position (has_number c.args.txn) l) c.deref.ensures.value in
    let here : loser_numbered c.args.txn items ≡ Some t = found c.args.txn items c.in-Some.at t (first_at c.args.txn items c.in-Some.at t at) ∙ ap (λ (u : Loser). Some u) (sym c.index.ensures) in
    ap not c.has_undone.ensures ∙ sym (ap (λ (o : Option Loser). is_one o is_forward) here) ∙ ap (λ (l : List Loser). is_one (loser_numbered c.args.txn l) is_forward) c.self.view_is

pub returns-in-None : goal.returns-in-None
returns-in-None c =
    let none : None ≡ position (has_number c.args.txn) c.args.self.now = c.in-None.ensures.value ∙ ap (λ (l : List Loser). position (has_number c.args.txn) l) (c.deref.ensures.value ∙ c.self.view_is) in
    sym (ap (λ (o : Option Loser). is_one o is_forward) (not_found c.args.txn c.args.self.now (none_at c.args.txn c.args.self.now none)))
