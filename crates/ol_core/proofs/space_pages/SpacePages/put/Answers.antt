use Rattle.std.proofs.Common.{List, Some, [], ap, arith, length, slice_set, subst, sym, ◌++◌, ◌+◌, ◌%◌, ◌/◌, ◌<◌, ◌≤◌, ◌∷◌, ◌≡◌, ◌∙◌, ℕ}
use Rattle.std.proofs.lemmas.List.{get_or_read}
use Rattle.ol_values.specs.declared.row.Row.{Row}
use Rattle.ol_values.specs.Image.{page_bytes, with_slot}
use Rattle.ol_core.specs.Filled.{Filled, IsFilled, blank_image}
use Rattle.ol_core.proofs.Changed.{PutsRow, filled_row, row_in}
use Rattle.ol_core.proofs.Held.{held}
use Rattle.ol_core.proofs.space_pages.SpacePages.put.Goals as goal

pub returns-clause-filled : goal.returns-clause-filled
returns-clause-filled c pages journal space txn k lt stamp =
    let rows = c.self.inside.rows in
    let images = c.self.inside.images.items in
    let now : Filled → Type 0 = λ f. IsFilled pages journal space f in
    let count : rows ≡ c.args.self.now.rows = ap (λ (f : Filled). f.rows) c.self.view_is in
    let there : rows / 31 < length images = subst (λ (f : Filled). f.rows / 31 < length f.images) (sym c.self.view_is) c.requires.room in
    let at = get_or_read images (rows / 31) c.index_mut-image.result.now there c.index_mut-image.ensures.value blank_image in
    let puts : PutsRow journal rows c.args.row.now c.index_mut-image.result.now c.set_slot.new.page =
    λ p is was. c.set_slot.ensures.page p is was ∙ ap (λ (r : Row). page_bytes (with_slot p (rows % 31) (Some r) c.args.stamp)) c.copy.ensures ∙ ap (λ (n : ℕ). page_bytes (with_slot p (rows % 31) (Some c.args.row.now) n)) stamp in
    subst (λ (n : ℕ). IsFilled pages (journal ++ row_in txn space n c.args.row.now ∷ []) space (held (rows + 1) (slice_set images (rows / 31) c.set_slot.new.page))) count
    (filled_row pages journal space txn rows images c.args.row.now c.set_slot.new.page (omega (arith, count, lt)) (subst (λ (r : Row). length r ≤ 63) c.copy.ensures c.set_slot.ensures.fits) (omega (arith, stamp, c.ranges.stamp.fits)) there
    (subst (λ (l : List ℕ). PutsRow journal rows c.args.row.now l c.set_slot.new.page) at puts) (subst now (sym c.self.view_is) k))
