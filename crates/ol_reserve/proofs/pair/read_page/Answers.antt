use Rattle.std.proofs.Common.{arith}
use Rattle.ol_ports.specs.Disk.{seen}
use Rattle.ol_reserve.specs.Pair.{there}
use Rattle.ol_reserve.proofs.Answering.{fault_cause, list_there}
use Rattle.ol_reserve.proofs.pair.read_page.Goals as goal

pub returns-in-Ok-clause-told : goal.returns-in-Ok-clause-told
returns-in-Ok-clause-told g c tells =
    c.test_page.ensures.told (there (g.D.Disk.sizes c.args.disk.now) (seen (g.D.Disk.past c.args.disk.now)))
    (list_there (g.D.Disk.sizes c.args.disk.now) (seen (g.D.Disk.past c.args.disk.now)) c.args.page c.read.new.buf (omega (arith, c.if-page-size.false, c.size.ensures)) (c.in-Ok.ensures.bytes tells))

pub returns-in-Ok-clause-bad : goal.returns-in-Ok-clause-bad
returns-in-Ok-clause-bad g c tells =
    c.test_page.ensures.bad (there (g.D.Disk.sizes c.args.disk.now) (seen (g.D.Disk.past c.args.disk.now)))
    (list_there (g.D.Disk.sizes c.args.disk.now) (seen (g.D.Disk.past c.args.disk.now)) c.args.page c.read.new.buf (omega (arith, c.if-page-size.false, c.size.ensures)) (c.in-Ok.ensures.bytes tells))

pub returns-in-Err-clause-cause : goal.returns-in-Err-clause-cause
returns-in-Err-clause-cause g c = fault_cause (g.D.Disk.fault_counts c.args.disk.now) (g.D.Disk.fault_counts c.read.new.self) c.in-Err.field-0 c.in-Err.ensures.cause
