use Rattle.std.proofs.Common.{ap, arith, length, subst, sym, ◌/◌, ◌<◌, ℕ}
use Rattle.std.specs.Result.{OnOk}
use Rattle.std.proofs.lemmas.List.{get_or-set_same, get_or_read}
use Rattle.ol_values.specs.Config.{data_pages}
use Rattle.ol_core.specs.Filled.{AreFilled, Filled, IsFilled, no_rows}
use Rattle.ol_core.proofs.Steps.{each_set}
use Rattle.ol_core.proofs.pages.Pages.make_room.Goals as goal

pub returns-clause-kept : goal.returns-clause-kept
returns-clause-kept c config journal k =
    let items = c.self.inside.spaces.items in
    let there : c.args.space < length items = omega (arith, c.requires, ap length c.self.view_is) in
    let kept : AreFilled config journal items = subst (AreFilled config journal) (sym c.self.view_is) k in
    let at = get_or_read items c.args.space c.index_mut.result.now there c.index_mut.ensures.value no_rows in
    let P : ℕ → Filled → Type 0 = λ s f. IsFilled (data_pages config s) journal s f in
    each_set P P items c.args.space c.make_room.new.self there (λ t ne h. h)
    (c.make_room.ensures.kept (data_pages config c.args.space) journal c.args.space (subst (P c.args.space) (sym at) (kept c.args.space))) kept

pub returns-clause-room : goal.returns-clause-room
returns-clause-room c config journal k =
    let items = c.self.inside.spaces.items in
    let there : c.args.space < length items = omega (arith, c.requires, ap length c.self.view_is) in
    let kept : AreFilled config journal items = subst (AreFilled config journal) (sym c.self.view_is) k in
    let at = get_or_read items c.args.space c.index_mut.result.now there c.index_mut.ensures.value no_rows in
    let P : ℕ → Filled → Type 0 = λ s f. IsFilled (data_pages config s) journal s f in
    subst (λ (f : Filled). OnOk c.make_room.result (f.rows / 31 < length f.images)) (sym (get_or-set_same items c.args.space c.make_room.new.self no_rows there))
    (c.make_room.ensures.room (data_pages config c.args.space) journal c.args.space (subst (P c.args.space) (sym at) (kept c.args.space)))
