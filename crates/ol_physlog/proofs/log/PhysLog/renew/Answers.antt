use Rattle.std.proofs.Common.{ap, arith, length, List, ◌≡◌, ◌∙◌, sym, subst, ℕ, replicate, false}
use Rattle.std.specs.List.{range_with_len}
use Rattle.std.proofs.lemmas.List.FromFn.{length-range_with_len}
use Rattle.ol_physlog.specs.States.{IsLog, Log}
use Rattle.ol_physlog.proofs.EmptyLaws.{log_emptied}
use Rattle.ol_physlog.proofs.StateLaws.{renewed_is, written_over}
use Rattle.ol_physlog.proofs.log.PhysLog.renew.Goals as goal

pub invariant_of-self : goal.invariant_of-self
invariant_of-self c =
    let long : length c.deref_mut.result.now ≡ c.self.inside.area.count = ap (λ (l : List ℕ). length l) c.deref_mut.ensures.value ∙ c.self.invariant.0.order in
    let whole : c.self.inside.order.len ≡ c.self.inside.area.count = omega (arith, c.self.invariant.0.order, c.self.ranges) in
    let numbers : c.count_up.new.numbers ≡ range_with_len 0 c.self.inside.area.count = c.count_up.ensures ∙ ap (λ (n : ℕ). range_with_len 0 n) long in
    let s : Log = record { area = c.self.inside.area; generation = c.self.inside.generation; order = c.self.inside.order.items; places = c.self.inside.places.keys; settled = c.self.inside.settled; gates = c.self.inside.gates.items } in (
      subst (λ (t : Log). IsLog t)
          (sym (renewed_is s c.args.generation _ _ _ (written_over _ _ _ (ap (λ (l : List ℕ). length l) numbers ∙ length-range_with_len 0 c.self.inside.area.count ∙ sym whole) ∙ numbers) c.clear.ensures.empty (c.fill.ensures.items (λ y e. e) ∙ ap (λ (n : ℕ). replicate n false) (omega (arith, c.self.invariant.0.gates, c.self.ranges)))))
          (log_emptied s c.args.generation c.self.invariant.0 c.ranges.generation.fits),
      omega (arith, c.self.invariant.1, c.clear.ensures.capacity),
    )
