use Rattle.std.proofs.Common.{Some, ap, subst, sym, true, ◌≡◌, ◌∙◌, List, ℕ}
use Rattle.ol_values.specs.Config.{has_place}
use Rattle.ol_values.specs.Image.{page_bytes, with_slot}
use Rattle.ol_pool.specs.Frames.{frame_of, with_dirty, with_frame}
use Rattle.ol_store.specs.Stores.{IsImage, IsStore, Store, with_image}
use Rattle.ol_store.proofs.LoadLaws.{page_of_place, slot_of_place}
use Rattle.ol_store.proofs.RowSteps.{row_is, row_kept}
use Rattle.ol_store.proofs.store.Store.set_row.Goals as goal
use Rattle.ol_store.proofs.store.Store.set_row.Goals.{After-self-1}

abbrev inside : After-self-1 → Store
inside c = record { config = c.self.inside.table; pool = c.self.inside.pool; log = c.self.inside.log; before = c.self.inside.before; written = c.self.inside.written; flushed = c.self.inside.flushed; last = c.self.inside.last }

there : (c : After-self-1) → frame_of c.self.inside.pool c.args.rid.space c.args.rid.page ≡ Some c.requires.there.0
there c = subst (λ (s : Store). frame_of s.pool c.args.rid.space c.args.rid.page ≡ Some c.requires.there.0) (sym c.self.view_is) c.requires.there.1

has : (c : After-self-1) → has_place c.self.inside.table c.args.rid ≡ true
has c = subst (λ (s : Store). has_place s.config c.args.rid ≡ true) (sym c.self.view_is) c.requires.place

-- the page in memory
image : (c : After-self-1) → IsImage c.requires.there.0
image c = c.self.invariant.images c.args.rid.space c.args.rid.page c.requires.there.0 (there c)

abbrev changed_image : After-self-1 → List ℕ
changed_image c = page_bytes (with_slot (image c).0 c.args.rid.slot c.args.row c.args.stamp)

put : (c : After-self-1) → c.put_row.new.pool ≡ with_dirty (with_frame c.self.inside.pool c.args.rid.space c.args.rid.page (changed_image c)) c.args.rid.space c.args.rid.page
put c = c.put_row.ensures.value (image c).0 (image c).1.page (there c ∙ ap (λ (b : List ℕ). Some b) (image c).2)

whole : (c : After-self-1) → (let t : Store = record { config = c.self.inside.table; pool = c.put_row.new.pool; log = c.self.inside.log; before = c.self.inside.before; written = c.self.inside.written; flushed = c.self.inside.flushed; last = c.max-self-inside.result } in t ≡ with_image (inside c) c.args.rid.space c.args.rid.page (changed_image c) c.args.stamp)
whole c = row_is (inside c) c.put_row.new.pool c.max-self-inside.result c.args.rid.space c.args.rid.page (changed_image c) c.args.stamp (put c) c.max-self-inside.ensures

pub invariant_of-self : goal.invariant_of-self
invariant_of-self c =
    subst IsStore (sym (whole c))
    (row_kept (inside c) c.args.rid c.args.row c.args.stamp c.put_row.ensures.fits c.requires.stamp.0 c.requires.stamp.1 c.requires.there.0 (there c) (slot_of_place c.self.inside.table c.args.rid (has c)) c.self.invariant (page_of_place c.self.inside.table c.args.rid (has c)) (image c).0 (image c).1)

pub returns-clause-image : goal.returns-clause-image
returns-clause-image c = (changed_image c, whole c ∙ ap (λ (t : Store). with_image t c.args.rid.space c.args.rid.page (changed_image c) c.args.stamp) c.self.view_is)
