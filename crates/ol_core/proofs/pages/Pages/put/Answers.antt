use Rattle.std.proofs.Common.{List, [], ap, arith, length, subst, sym, ◌++◌, ◌<◌, ◌∷◌, ◌≡◌, ◌∙◌, ℕ}
use Rattle.std.proofs.lemmas.List.{get_or_read}
use Rattle.ol_values.specs.Config.{data_pages}
use Rattle.ol_core.specs.Filled.{AreFilled, Filled, IsFilled, filled_at, no_rows}
use Rattle.ol_core.proofs.Changed.{filled_other, row_in}
use Rattle.ol_core.proofs.Steps.{each_set}
use Rattle.ol_core.proofs.pages.Pages.put.Goals as goal

pub returns-clause-filled : goal.returns-clause-filled
returns-clause-filled c config journal txn k lt stamp =
    let items = c.self.inside.spaces.items in
    let s = c.args.space in
    let there : s < length items = omega (arith, c.requires.there, ap length c.self.view_is) in
    let kept : AreFilled config journal items = subst (AreFilled config journal) (sym c.self.view_is) k in
    let at : c.index_mut.result.now ≡ filled_at c.args.self.now s = get_or_read items s c.index_mut.result.now there c.index_mut.ensures.value no_rows ∙ ap (λ (l : List Filled). filled_at l s) c.self.view_is in
    let rows = (filled_at c.args.self.now s).rows in
    let P : ℕ → Filled → Type 0 = λ t f. IsFilled (data_pages config t) journal t f in
    let Q : ℕ → Filled → Type 0 = λ t f. IsFilled (data_pages config t) (journal ++ row_in txn s rows c.args.row.now ∷ []) t f in
    let count : c.index_mut.result.now.rows ≡ rows = ap (λ (f : Filled). f.rows) at in
    let here : Q s c.put.new.self =
    subst (λ (n : ℕ). IsFilled (data_pages config s) (journal ++ row_in txn s n c.args.row.now ∷ []) s c.put.new.self) count
    (c.put.ensures.filled (data_pages config s) journal s txn (subst (P s) (sym at) (k s)) (omega (arith, count, lt)) stamp) in
    each_set P Q items s c.put.new.self there (λ t ne h. filled_other (data_pages config t) journal txn s rows c.args.row.now t (filled_at items t) ne h) here kept
