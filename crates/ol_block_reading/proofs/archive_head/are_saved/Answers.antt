use Rattle.std.proofs.Common.{◌≡◌, ◌+◌, ◌-◌, ◌∙◌, ap, arith, get_or, inl, inr, length, length-drop, List, ℕ}
use Rattle.std.proofs.lemmas.List.{get_or-take}
use Rattle.ol_block_reading.specs.Testing.{are_saved}
use Rattle.ol_block_reading.proofs.Heads.{ends, goes_on, stops}
use Rattle.ol_block_reading.proofs.archive_head.are_saved.Goals.{then-saved-least-via-then-saved-least, then-saved-least-via-else-saved-least+then-saved-limit}
use Rattle.ol_block_reading.proofs.archive_head.are_saved.Goals as goal

pub returns-then-saved-least : goal.returns-then-saved-least
returns-then-saved-least c =
    let number : get_or c.split_at.result.0.now 0 0 ≡ get_or c.loop.rest.now 0 0 = ap (λ (l : List ℕ). get_or l 0 0) c.split_at.ensures.front ∙ get_or-take 17 c.loop.rest.now 0 0 (omega arith) in
    elim c.then-saved-least.branch [
      | then-saved-least-via-then-saved-least w ↦ stops c.args.count c.loop.counter c.args.limit c.loop.least _ c.loop.rest.now _ c.loop-test.true number (inl w.if-saved-least.true) c.loop.invariant.whole
      | then-saved-least-via-else-saved-least+then-saved-limit w ↦ stops c.args.count c.loop.counter c.args.limit c.loop.least _ c.loop.rest.now _ c.loop-test.true number (inr w.if-saved-limit.true) c.loop.invariant.whole
    ]

pub loop-preserved : goal.loop-preserved
loop-preserved c =
    let number : get_or c.split_at.result.0.now 0 0 ≡ get_or c.loop.rest.now 0 0 = ap (λ (l : List ℕ). get_or l 0 0) c.split_at.ensures.front ∙ get_or-take 17 c.loop.rest.now 0 0 (omega arith) in
    record {
      room = omega (arith, c.loop.invariant.room, c.loop-test.true, ap length c.split_at.ensures.back, length-drop 17 c.loop.rest.now);
      whole = ap (λ (l : List ℕ). are_saved (c.args.count - (c.loop.counter + 1)) c.args.limit (get_or c.split_at.result.0.now 0 0 + 1) l) c.split_at.ensures.back
          ∙ goes_on c.args.count c.loop.counter c.args.limit c.loop.least _ c.loop.rest.now _ c.loop-test.true number c.if-saved-least.false c.if-saved-limit.false c.loop.invariant.whole;
    }

pub returns : goal.returns
returns c = ends c.args.count c.loop.counter c.args.limit c.loop.least c.loop.rest.now _ c.loop-test.false c.loop.invariant.whole
