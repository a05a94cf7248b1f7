use Rattle.std.proofs.Common.{Some, ap, refl, subst, sym, true, ◌≡◌, ◌∙◌, List, ℕ}
use Rattle.ol_values.specs.Config.{has_page}
use Rattle.ol_pool.specs.Frames.{frame_of}
use Rattle.ol_store.specs.Holding.{IsOnDisk}
use Rattle.ol_store.specs.Stores.{Store}
use Rattle.ol_store.proofs.LoadLaws.{page_of_place}
use Rattle.ol_store.proofs.RowSteps.{change_stored, two_is}
use Rattle.ol_store.proofs.store.Store.change_in_memory.Goals as goal

pub returns-clause-stored : goal.returns-clause-stored
returns-clause-stored g c tells v h up =
    let at_first = subst (λ (t : Store). IsOnDisk (g.D.Disk.past c.args.disk.now) t v) (sym c.capture_where.ensures.rest) h in
    let then_held = c.in-Ok.ensures.stored tells v at_first up in
    let moved = two_is c.args.self.now c.capture_where.new.self c.touch.new.self c.set_row.new.self c.args.rid.space c.args.rid.page c.args.stamp c.capture_where.ensures.rest c.in-Ok.ensures.value in
    let there = subst (λ (t : Store). frame_of t.pool c.args.rid.space c.args.rid.page ≡ Some c.requires.there.0) (sym moved) c.requires.there.1 in
    let has = subst (λ (t : Store). has_page t.config c.args.rid.space c.args.rid.page ≡ true) (sym moved) (page_of_place c.args.self.now.config c.args.rid c.requires.place) in
    let now = there ∙ ap (λ (b : List ℕ). Some b) (then_held.in_memory c.args.rid.space c.args.rid.page c.requires.there.0 (up, has) there) in
    change_stored c.args.self.now c.capture_where.new.self c.touch.new.self c.set_row.new.self c.args.rid.space c.args.rid.page c.args.stamp c.capture_where.ensures.rest c.in-Ok.ensures.value
    c.args.rid c.args.row refl refl c.set_row.ensures.fits c.requires.stamp.0 c.requires.stamp.1 c.requires.there.0 c.requires.there.1 c.requires.place _ v then_held up
    (c.set_row.ensures.value (v.now c.args.rid.space c.args.rid.page) (then_held.pages c.args.rid.space c.args.rid.page (up, has)).page now)
