use Rattle.std.proofs.Common.{ap, arith, length, length-drop, sym, ◌+◌, ◌-◌, ◌∙◌}
use Rattle.ol_page.specs.Testing.{are_slots, is_slot}
use Rattle.ol_page.proofs.Reading.{ends, goes_on, stops}
use Rattle.ol_page.proofs.are_slots.Goals as goal

pub split_at-requires : goal.split_at-requires
split_at-requires c = omega (arith, c.loop.invariant.room)

pub returns-then-not-is_slot : goal.returns-then-not-is_slot
returns-then-not-is_slot c =
    stops c.loop.counter c.loop.rest.now _ c.loop-test.true (ap is_slot (sym c.split_at.ensures.front) ∙ sym c.is_slot.ensures ∙ c.if-not-is_slot.true) c.loop.invariant.whole

pub loop-preserved : goal.loop-preserved
loop-preserved c = record {
  room = omega (arith, c.loop.invariant.room, ap length c.split_at.ensures.back, length-drop 64 c.loop.rest.now);
  whole = ap (λ l. are_slots (31 - (c.loop.counter + 1)) l) c.split_at.ensures.back
      ∙ goes_on c.loop.counter c.loop.rest.now _ c.loop-test.true (ap is_slot (sym c.split_at.ensures.front) ∙ sym c.is_slot.ensures ∙ c.if-not-is_slot.false) c.loop.invariant.whole;
}

pub returns : goal.returns
returns c = ends c.loop.counter c.loop.rest.now _ c.loop-test.false c.loop.invariant.whole
