use Rattle.std.proofs.Common.{arith, refl, rules}
use Rattle.ol_format.proofs.Clearing.{pages_none, stops_page, zeros_more, zeros_none, zeros_upto}
use Rattle.ol_format.proofs.zeros.write_zeros.Goals as goal

pub loop-page-init : goal.loop-page-init
loop-page-init g c = record {
  written = λ tells. zeros_none c.args.chunk c.args.from _;
  stops = λ tells. pages_none _ _;
  sizes = refl;
  faults = refl;
}

pub returns-in-Err-clause-stops : goal.returns-in-Err-clause-stops
returns-in-Err-clause-stops g c tells =
    stops_page _ _ _ c.args.chunk c.args.from c.loop-page.page c.args.end c.write_at.result (c.write_at.ensures.past tells) c.loop-page.auto.page c.loop-page-test.true (c.loop-page.invariant.stops tells)

pub loop-page-preserved : goal.loop-page-preserved
loop-page-preserved g c = record {
  written = λ tells. zeros_more _ _ c.args.chunk c.args.from c.loop-page.page c.write_at.result (c.write_at.ensures.past tells) (search rules) (c.loop-page.invariant.written tells);
  stops = λ tells. stops_page _ _ _ c.args.chunk c.args.from c.loop-page.page c.args.end c.write_at.result (c.write_at.ensures.past tells) c.loop-page.auto.page c.loop-page-test.true (c.loop-page.invariant.stops tells);
  sizes = search rules;
  faults = search rules;
}

pub returns-clause-ok : goal.returns-clause-ok
returns-clause-ok g c tells = zeros_upto c.args.chunk c.args.from c.loop-page.page c.args.end _ (omega arith) (c.loop-page.invariant.written tells)
