use Rattle.std.proofs.Common.{List, [], ap, arith, false, length, length-append, map, sym, true, ◌++◌, ◌+◌, ◌<◌, ◌∷◌, ◌∙◌, ℕ}
use Rattle.ol_values.specs.Blocks.{Saved}
use Rattle.ol_object.specs.Spaces.{saved_of}
use Rattle.ol_online.proofs.BlockLaws.{saved_from, saved_more, saved_next}
use Rattle.ol_online.proofs.archive.saved_spaces.Goals as goal

pub loop-space-preserved-then-not-marked : goal.loop-space-preserved-then-not-marked
loop-space-preserved-then-not-marked c =
    let here : c.loop-space.space < 16 = omega (arith, c.loop-space-test.true, c.told-marks) in
    (ap (λ (l : List Saved). map saved_of c.loop-space.spaces.items ++ l) (sym (saved_next c.args.marks.now c.loop-space.space false here c.if-not-marked.true)) ∙ c.loop-space.invariant.0, omega (arith, c.loop-space.invariant.1))

pub loop-space-preserved : goal.loop-space-preserved
loop-space-preserved c =
    let here : c.loop-space.space < 16 = omega (arith, c.loop-space-test.true, c.told-marks) in
    let s : ℕ × ℕ × ℕ = (c.loop-space.space, 0, 0) in
    let old = c.loop-space.spaces.items in
    let rest = saved_from c.args.marks.now (c.loop-space.space + 1) in (
      ap (λ (l : List (ℕ × ℕ × ℕ)). map saved_of l ++ rest) c.in_ok-push.ensures.items ∙ saved_more old s rest
          ∙ ap (λ (l : List Saved). map saved_of old ++ l) (sym (saved_next c.args.marks.now c.loop-space.space true here c.if-not-marked.false)) ∙ c.loop-space.invariant.0,
      omega (arith, c.loop-space.invariant.1, ap length c.in_ok-push.ensures.items, length-append old (s ∷ [])),
    )
