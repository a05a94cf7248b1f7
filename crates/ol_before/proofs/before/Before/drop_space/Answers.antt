use Rattle.std.proofs.Common.{ap, arith, length, not, refl, subst, sym, List, ◌∙◌}
use Rattle.ol_before.specs.Images.{Ascend, Captures, Image, is_in_space, without}
use Rattle.ol_before.proofs.OrderLaws.{ascend_kept}
use Rattle.ol_before.proofs.ValueLaws.{dropped, kept_length}
use Rattle.ol_before.proofs.before.Before.drop_space.Goals as goal

pub invariant_of-self : goal.invariant_of-self
invariant_of-self c =
    let held = c.self.inside.held.items in
    let count = ap (λ (l : List Image). length l) c.release_space.ensures.items in
    let fewer = kept_length (λ i. not (is_in_space c.args.space i)) held in
    record {
      ascend = subst Ascend (sym c.release_space.ensures.items) (ascend_kept (λ i. not (is_in_space c.args.space i)) held c.self.invariant.ascend);
      few = c.self.invariant.few;
      held_room = omega arith;
      free_room = omega arith;
      within = omega (arith, count, fewer, c.self.invariant.within);
      memory = omega (arith, c.self.invariant.memory, c.release_space.ensures.count);
    }

pub returns : goal.returns
returns c =
    dropped (is_in_space c.args.space) _ _ refl c.release_space.ensures.items (omega (arith, c.release_space.ensures.count)) ∙ ap (λ (v : Captures). without (is_in_space c.args.space) v) c.self.view_is
