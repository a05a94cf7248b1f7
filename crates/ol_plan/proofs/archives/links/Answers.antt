use Rattle.std.proofs.Common.{◌∙◌, arith, sym}
use Rattle.ol_plan.specs.Archives.{link_of}
use Rattle.ol_plan.proofs.ArchiveLaws.{all_of, no_more, one_added}
use Rattle.ol_plan.proofs.archives.links.Goals as goal

pub loop-index-preserved-in_default : goal.loop-index-preserved-in_default
loop-index-preserved-in_default c =
    no_more (link_of c.args.objects.now c.args.space) c.args.objects.now c.loop-index.index c.index-objects-index.result c.loop-index.links.items c.link_of.result c.link_of.ensures c.in_default.is (omega arith)
    c.index-objects-index.is c.loop-index.invariant

pub loop-index-preserved : goal.loop-index-preserved
loop-index-preserved c =
    c.in_ok-push.ensures.items
    ∙ one_added (link_of c.args.objects.now c.args.space) c.args.objects.now c.loop-index.index c.index-objects-index.result c.loop-index.links.items c.in-Some.link (sym c.in-Some.is ∙ c.link_of.ensures)
    (omega arith) c.index-objects-index.is c.loop-index.invariant

pub returns : goal.returns
returns c = all_of (link_of c.args.objects.now c.args.space) c.args.objects.now c.loop-index.index c.loop-index.links.items (omega arith) c.loop-index.invariant
