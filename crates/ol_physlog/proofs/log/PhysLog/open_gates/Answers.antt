use Rattle.std.proofs.Common.{ℕ, arith, length, refl, subst, sym, ◌∙◌, ◌≡◌}
use Rattle.ol_ports.proofs.FrameLaws.{framed_none, outside_both, outside_none}
use Rattle.ol_ports.proofs.StopLaws.{stops_both, stops_framed, stops_none}
use Rattle.ol_physlog.specs.Places.{HasArea}
use Rattle.ol_physlog.specs.States.{IsOpening}
use Rattle.ol_physlog.proofs.SettleLaws.{opening_held}
use Rattle.ol_physlog.proofs.log.PhysLog.open_gates.Goals as goal

pub loop-turn-init : goal.loop-turn-init
loop-turn-init g c = record {
  from = omega (arith, c.settled-turn.ensures);
  within = omega (arith, c.settled-turn.ensures, c.added-turn-end.ensures.log.settled);
  stops = λ tells config images o. stops_none _ _ (opening_held config c.args.self.now images _ _ o);
  opening = λ tells config images o. subst (λ (n : ℕ). IsOpening config (g.D.Disk.past c.args.disk.now) c.args.self.now images n) (sym c.settled-turn.ensures) o;
  frame = λ tells. stops_none _ _ (λ d rest. framed_none _ _ d rest);
  reads = λ tells. outside_none _ _;
  sizes = refl;
  faults = refl;
}

pub open_gate-requires-clause-area : goal.open_gate-requires-clause-area
open_gate-requires-clause-area g c = subst (λ (sizes : ℕ → ℕ). HasArea c.args.self.now.area sizes) (sym c.loop-turn.invariant.sizes) c.requires.area

pub returns-in-Err-clause-stops : goal.returns-in-Err-clause-stops
returns-in-Err-clause-stops g c tells config images o =
    stops_both _ _ _ _ (c.loop-turn.invariant.stops tells config images o) (c.in-Err.ensures.stops tells config images (c.loop-turn.invariant.opening tells config images o) c.loop-turn.invariant.from)

pub returns-in-Err-clause-frame : goal.returns-in-Err-clause-frame
returns-in-Err-clause-frame g c tells = stops_framed _ _ _ _ (c.loop-turn.invariant.frame tells) (c.in-Err.ensures.frame tells)

pub loop-turn-preserved : goal.loop-turn-preserved
loop-turn-preserved g c = record {
  from = omega (arith, c.loop-turn.invariant.from);
  within = omega (arith, c.loop-turn-test.true, c.added-turn-end.ensures.value);
  stops = λ tells config images o. stops_both _ _ _ _ (c.loop-turn.invariant.stops tells config images o) (c.in-Ok.ensures.stops tells config images (c.loop-turn.invariant.opening tells config images o) c.loop-turn.invariant.from);
  opening = λ tells config images o. c.in-Ok.ensures.ok tells config images (c.loop-turn.invariant.opening tells config images o) c.loop-turn.invariant.from;
  frame = λ tells. stops_framed _ _ _ _ (c.loop-turn.invariant.frame tells) (c.in-Ok.ensures.frame tells);
  reads = λ tells. outside_both _ _ _ _ (c.loop-turn.invariant.reads tells) (c.in-Ok.ensures.reads tells);
  sizes = c.in-Ok.ensures.sizes ∙ c.loop-turn.invariant.sizes;
  faults = c.in-Ok.ensures.cause.kept ∙ c.loop-turn.invariant.faults;
}

pub returns-clause-ok : goal.returns-clause-ok
returns-clause-ok g c tells config images o =
    let end : c.loop-turn.turn ≡ length c.args.self.now.places = omega (arith, c.loop-turn-test.false, c.added-turn-end.ensures.value, c.loop-turn.invariant.within) in
    subst (λ (n : ℕ). IsOpening config (g.D.Disk.past c.loop-turn.disk) c.args.self.now images n) end (c.loop-turn.invariant.opening tells config images o)

pub returns-clause-reads : goal.returns-clause-reads
returns-clause-reads g c tells = c.loop-turn.invariant.reads tells
