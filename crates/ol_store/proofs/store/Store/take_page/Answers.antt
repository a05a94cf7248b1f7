use Rattle.std.proofs.Common.{None, is_some, subst, sym, ◌≡◌, ◌∙◌}
use Rattle.ol_before.specs.Images.{image_of}
use Rattle.ol_pool.specs.Frames.{frame_of}
use Rattle.ol_store.specs.Stores.{IsStore, Store}
use Rattle.ol_store.proofs.CutLaws.{cut_now, read_now, taken_as_wanted}
use Rattle.ol_store.proofs.LoadLaws.{is_none}
use Rattle.ol_store.proofs.store.Store.take_page.Goals as goal

pub returns-in-Ok-clause-image : goal.returns-in-Ok-clause-image
returns-in-Ok-clause-image g c tells v h up =
    let s = c.args.self.now in
    let space = c.args.space in
    let page = c.args.page in
    let held = is_none (image_of s.before.held space page) c.get.result (subst (λ (t : Store). c.get.result ≡ is_some (image_of t.before.held space page)) c.self.view_is c.get.ensures.found) c.if-get.false in
    let none = subst (λ (t : Store). frame_of t.pool space page ≡ None) c.self.view_is (sym c.in_default.ensures) in
    let is_up = up space c.requires.archived in
    let same = read_now s (subst IsStore c.self.view_is c.self.invariant) space page c.requires.page none _ v h is_up c.read_place.new.buf (c.in-Ok.ensures.bytes tells (λ e. cc)) in
    cut_now c.args.cursor.now s.before v space page c.requires.archived held
    ∙ taken_as_wanted c.args.cursor.now space (v.now space page) c.stamp.result c.read_place.new.buf c.wants.result same (c.stamp.ensures (v.now space page) (h.pages space page (is_up, c.requires.page)).page same) c.wants.ensures
