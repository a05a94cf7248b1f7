use Rattle.std.proofs.Common.{ap, arith, filter, find, length, not, remove, subst, sym, true, List, ◌≡◌, ◌∙◌}
use Rattle.std.specs.Prelude.{is_some}
use Rattle.ol_before.specs.Images.{Ascend, Captures, Image, image_of, is_of}
use Rattle.ol_before.proofs.OrderLaws.{ascend_kept}
use Rattle.ol_before.proofs.ValueLaws.{found_some, nothing_dropped, one_if}
use Rattle.ol_before.proofs.before.Before.take.Goals as goal

pub invariant_of-self : goal.invariant_of-self
invariant_of-self c =
    let stays : List Image → List Image = λ (l : List Image). filter (λ i. not (is_of c.args.space c.args.page i)) l in
    let held = c.self.inside.held.items in
    let items : stays held ≡ c.release.new.held.items =
    ap stays (sym c.deref.ensures.value) ∙ c.in-Some.ensures.kept ∙ ap (λ (l : List Image). remove l c.in-Some.at) c.deref.ensures.value ∙ sym c.release.ensures.items in
    record {
      ascend = subst Ascend items (ascend_kept (λ i. not (is_of c.args.space c.args.page i)) held c.self.invariant.ascend);
      few = c.self.invariant.few;
      held_room = omega arith;
      free_room = omega arith;
      within = omega arith;
      memory = omega arith;
    }

pub returns-in-Some-clause-count : goal.returns-in-Some-clause-count
returns-in-Some-clause-count c =
    let now : c.deref.result.now ≡ c.args.self.now.held = c.deref.ensures.value ∙ ap (λ (v : Captures). v.held) c.self.view_is in
    let some : is_some (image_of c.deref.result.now c.args.space c.args.page) ≡ true = found_some c.args.space c.args.page c.deref.result.now c.in-Some.at c.in-Some.ensures.found c.in-Some.ensures.within in
    let here : is_some (image_of c.args.self.now.held c.args.space c.args.page) ≡ true = ap (λ (l : List Image). is_some (image_of l c.args.space c.args.page)) (sym now) ∙ some in
    omega (arith, one_if (is_some (image_of c.args.self.now.held c.args.space c.args.page)) here, ap (λ (l : List Image). length l) now, c.release.ensures.held, c.deref.ensures.len)

pub returns-in_default-clause-value : goal.returns-in_default-clause-value
returns-in_default-clause-value c =
    let now : c.deref.result.now ≡ c.args.self.now.held = c.deref.ensures.value ∙ ap (λ (v : Captures). v.held) c.self.view_is in
    nothing_dropped (is_of c.args.space c.args.page) c.args.self.now (ap (λ (l : List Image). find (is_of c.args.space c.args.page) l) (sym now) ∙ c.in_default.ensures.found)
