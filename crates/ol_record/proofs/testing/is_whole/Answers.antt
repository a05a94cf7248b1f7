use Rattle.std.proofs.Common.{◌∙◌}
use Rattle.ol_record.specs.Reading.{whole_in}
use Rattle.ol_record.proofs.Several.{goes_on, stops, ends}
use Rattle.ol_record.proofs.testing.is_whole.Goals as goal

pub returns-in-None : goal.returns-in-None
returns-in-None c = stops c.args.count c.loop.counter c.loop.rest.now (whole_in c.args.count c.args.bytes.now) c.loop-test.true c.in-None.ensures c.loop.invariant

pub loop-preserved : goal.loop-preserved
loop-preserved c =
    goes_on c.args.count c.loop.counter c.loop.rest.now (c.in-Some.field-0-0, c.in-Some.after.now) (whole_in c.args.count c.args.bytes.now) c.loop-test.true c.in-Some.ensures c.loop.invariant

pub returns : goal.returns
returns c = c.is_empty.ensures ∙ ends c.args.count c.loop.counter c.loop.rest.now (whole_in c.args.count c.args.bytes.now) c.loop-test.false c.loop.invariant
