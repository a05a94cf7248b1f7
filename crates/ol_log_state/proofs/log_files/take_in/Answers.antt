use Rattle.std.proofs.Common.{List, None, Some, ap, arith, subst, sym, ◌++◌, ◌+◌, ◌<◌, ◌^◌, ◌∙◌, ◌∷◌, [], ◌≡◌, length}
use Rattle.std.specs.List.{position_from}
use Rattle.std.specs.Prelude.{slice_set}
use Rattle.ol_log_state.specs.StoredFiles.{AreTaken}
use Rattle.ol_log_state.specs.Uses.{Stored}
use Rattle.ol_log_state.proofs.FileLaws.{is_numbered, use_at}
use Rattle.ol_log_state.proofs.ListLaws.{located}
use Rattle.ol_log_state.proofs.TakenLaws.{grown, on_ok, taken_new, taken_old}
use Rattle.ol_log_state.proofs.log_files.take_in.Goals as goal

pub index_mut-requires : goal.index_mut-requires
index_mut-requires c =
    let at = located (is_numbered c.args.head.uniq) c.in-Some.i c.deref.result.now (sym c.in-Some.ensures) in
    omega (arith, at.within, c.deref.ensures.len)

pub grow-requires-clause-few : goal.grow-requires-clause-few
grow-requires-clause-few c =
    let items = c.args.uses.now.items in
    let e : position_from (is_numbered c.args.head.uniq) 0 items ≡ Some c.in-Some.i = ap (λ (l : List Stored). position_from (is_numbered c.args.head.uniq) 0 l) (sym c.deref.ensures.value) ∙ sym c.in-Some.ensures in
    use_at (λ (s : Stored). length s.held.heads + 1 + c.args.pages < 2 ^ 32) items c.in-Some.i c.index_mut.result.now (located (is_numbered c.args.head.uniq) c.in-Some.i items e).within c.index_mut.ensures.value c.requires.few

pub returns-in-Some : goal.returns-in-Some
returns-in-Some c = λ uniq heads taken.
    (let items = c.args.uses.now.items in
    let d = c.index_mut.result.now in
    let e : position_from (is_numbered c.args.head.uniq) 0 items ≡ Some c.in-Some.i = ap (λ (l : List Stored). position_from (is_numbered c.args.head.uniq) 0 l) (sym c.deref.ensures.value) ∙ sym c.in-Some.ensures in
    on_ok c.grow.result (c.grow.new.self ≡ grown c.args.pages c.args.head d.held) (AreTaken c.args.pages uniq (heads ++ c.args.head ∷ []) (slice_set items c.in-Some.i c.grow.new.self))
    (λ step. taken_old c.args.pages uniq heads c.args.head items c.in-Some.i d c.grow.new.self taken e c.index_mut.ensures.value c.requires.head.index step) c.grow.ensures.ok)

pub returns : goal.returns
returns c = λ uniq heads taken.
    (let items = c.args.uses.now.items in
    let e : position_from (is_numbered c.args.head.uniq) 0 items ≡ None = ap (λ (l : List Stored). position_from (is_numbered c.args.head.uniq) 0 l) (sym c.deref.ensures.value) ∙ sym c.in_default.ensures in
    let step = c.in_ok-grow.ensures.ok ∙ ap (λ (s : Stored). grown c.args.pages c.args.head s.held) c.new-held.ensures in
    subst (AreTaken c.args.pages uniq (heads ++ c.args.head ∷ [])) (sym c.in_ok-push.ensures.items) (taken_new c.args.pages uniq heads c.args.head items c.grow-2.new.self taken e c.requires.head.index step))
