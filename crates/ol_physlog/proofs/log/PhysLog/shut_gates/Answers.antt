use Rattle.std.proofs.Common.{ℕ, arith, refl, subst, sym, ◌∙◌, ◌≡◌}
use Rattle.ol_ports.proofs.FrameLaws.{framed_none, outside_both, outside_none}
use Rattle.ol_ports.proofs.StopLaws.{stops_both, stops_framed, stops_none}
use Rattle.ol_physlog.specs.Places.{HasArea}
use Rattle.ol_physlog.specs.States.{IsClosing}
use Rattle.ol_physlog.proofs.EmptyLaws.{closing_none}
use Rattle.ol_physlog.proofs.log.PhysLog.shut_gates.Goals as goal

pub loop-entry-init : goal.loop-entry-init
loop-entry-init g c = record {
  within = omega arith;
  stops = λ tells config generation o newer. closing_none config _ c.args.self.now 0 generation o newer;
  closing = λ tells o. o;
  frame = λ tells. stops_none _ _ (λ d rest. framed_none _ _ d rest);
  reads = λ tells. outside_none _ _;
  sizes = refl;
  faults = refl;
}

pub shut_gate-requires-clause-area : goal.shut_gate-requires-clause-area
shut_gate-requires-clause-area g c = subst (λ (sizes : ℕ → ℕ). HasArea c.args.self.now.area sizes) (sym c.loop-entry.invariant.sizes) c.requires.area

pub returns-in-Err-clause-stops : goal.returns-in-Err-clause-stops
returns-in-Err-clause-stops g c tells config generation o newer =
    stops_both _ _ _ _ (c.loop-entry.invariant.stops tells config generation o newer) (c.in-Err.ensures.stops tells config generation (c.loop-entry.invariant.closing tells o) newer)

pub returns-in-Err-clause-frame : goal.returns-in-Err-clause-frame
returns-in-Err-clause-frame g c tells = stops_framed _ _ _ _ (c.loop-entry.invariant.frame tells) (c.in-Err.ensures.frame tells)

pub loop-entry-preserved : goal.loop-entry-preserved
loop-entry-preserved g c = record {
  within = omega (arith, c.loop-entry-test.true, c.count-entry-end.ensures.value);
  stops = λ tells config generation o newer. stops_both _ _ _ _ (c.loop-entry.invariant.stops tells config generation o newer) (c.in-Ok.ensures.stops tells config generation (c.loop-entry.invariant.closing tells o) newer);
  closing = λ tells o. c.in-Ok.ensures.ok tells (c.loop-entry.invariant.closing tells o);
  frame = λ tells. stops_framed _ _ _ _ (c.loop-entry.invariant.frame tells) (c.in-Ok.ensures.frame tells);
  reads = λ tells. outside_both _ _ _ _ (c.loop-entry.invariant.reads tells) (c.in-Ok.ensures.reads tells);
  sizes = c.in-Ok.ensures.sizes ∙ c.loop-entry.invariant.sizes;
  faults = c.in-Ok.ensures.cause.kept ∙ c.loop-entry.invariant.faults;
}

pub returns-clause-ok : goal.returns-clause-ok
returns-clause-ok g c tells o =
    let end : c.loop-entry.entry ≡ c.args.self.now.area.count = omega (arith, c.loop-entry-test.false, c.count-entry-end.ensures.value, c.loop-entry.invariant.within) in
    subst (λ (n : ℕ). IsClosing (g.D.Disk.past c.loop-entry.disk) c.args.self.now n) end (c.loop-entry.invariant.closing tells o)

pub returns-clause-reads : goal.returns-clause-reads
returns-clause-reads g c tells = c.loop-entry.invariant.reads tells
