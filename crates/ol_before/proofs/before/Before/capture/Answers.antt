use Rattle.std.proofs.Common.{None, ap, arith, find, length, subst, sym, List, ◌≡◌, ◌∙◌}
use Rattle.ol_before.specs.Images.{Ascend, Captures, Image, is_of}
use Rattle.ol_before.proofs.OrderLaws.{ascend_with, with_image_length}
use Rattle.ol_before.proofs.ValueLaws.{not_found}
use Rattle.ol_before.proofs.before.Before.capture.Goals as goal

pub invariant_of-self : goal.invariant_of-self
invariant_of-self c =
    let image : Image = record { space = c.args.space; page = c.args.page; bytes = c.args.image.now } in
    let held = c.self.inside.held.items in
    let same = ap (λ (v : Captures). v.held) c.self.view_is in
    let limit = ap (λ (v : Captures). v.limit) c.self.view_is in
    let none : find (is_of image.space image.page) held ≡ None = ap (λ (l : List Image). find (is_of image.space image.page) l) same ∙ not_found (find (is_of image.space image.page) c.args.self.now.held) c.requires.none in
    record {
      ascend = subst Ascend (sym c.put.ensures.items) (ascend_with image held c.self.invariant.ascend none);
      few = c.self.invariant.few;
      held_room = omega arith;
      free_room = omega arith;
      within = omega (arith, limit, ap (λ (l : List Image). length l) same, ap (λ (l : List Image). length l) c.put.ensures.items, with_image_length image held);
      memory = omega (arith, ap (λ (l : List Image). length l) c.put.ensures.items, with_image_length image held, ap (λ (v : Captures). v.spare) c.self.view_is);
    }
