use Rattle.std.proofs.Common.{ap, arith, sym, false, filter, get_or, length, not, take, ◌≡◌, ◌∙◌, ◌<◌, Bool, List}
use Rattle.ol_before.specs.Images.{Image, is_in_space}
use Rattle.ol_before.proofs.ListLaws.{filtered_without, front_stays}
use Rattle.ol_before.proofs.order.release_space.Goals as goal

pub loop-at-preserved : goal.loop-at-preserved
loop-at-preserved c =
    let held = c.loop-at.held.items in
    let at = c.loop-at.at in
    let i = c.index.result.now in
    let stays : Image → Bool = λ (j : Image). not (is_in_space c.args.space j) in
    let within : at < length held = omega arith in
    let dropped : stays (get_or held at i) ≡ false = ap stays (sym c.index.ensures) ∙ ap not (sym c.is_in_space.ensures ∙ c.if-not-is_in_space.false) in
    let front : take at c.release.new.held.items ≡ take at held = ap (λ (l : List Image). take at l) c.release.ensures.items ∙ front_stays held at in
    record {
      all = ap (λ (l : List Image). filter stays l) c.release.ensures.items ∙ filtered_without stays held at i within dropped ∙ c.loop-at.invariant.all;
      front = ap (λ (l : List Image). filter stays l) front ∙ c.loop-at.invariant.front ∙ sym front;
      count = omega arith;
      held_room = c.release.ensures.held_room ∙ c.loop-at.invariant.held_room;
      free_room = omega arith;
    }
