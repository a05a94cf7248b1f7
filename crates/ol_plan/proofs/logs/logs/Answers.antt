use Rattle.std.proofs.Common.{◌∙◌, arith, sym}
use Rattle.ol_plan.specs.Logs.{log_of}
use Rattle.ol_plan.proofs.ArchiveLaws.{all_of, no_more, one_added}
use Rattle.ol_plan.proofs.logs.logs.Goals as goal

pub loop-index-preserved-in_default : goal.loop-index-preserved-in_default
loop-index-preserved-in_default c =
    no_more (log_of c.args.objects.now) c.args.objects.now c.loop-index.index c.index-objects-index.result c.loop-index.logs.items c.log_of.result c.log_of.ensures c.in_default.is (omega arith)
    c.index-objects-index.is c.loop-index.invariant

pub loop-index-preserved : goal.loop-index-preserved
loop-index-preserved c =
    c.in_ok-push.ensures.items
    ∙ one_added (log_of c.args.objects.now) c.args.objects.now c.loop-index.index c.index-objects-index.result c.loop-index.logs.items c.in-Some.log (sym c.in-Some.is ∙ c.log_of.ensures)
    (omega arith) c.index-objects-index.is c.loop-index.invariant

pub returns : goal.returns
returns c = all_of (log_of c.args.objects.now) c.args.objects.now c.loop-index.index c.loop-index.logs.items (omega arith) c.loop-index.invariant
