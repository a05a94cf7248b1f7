use Rattle.std.proofs.Common.{None}
use Rattle.ol_values.specs.Config.{data_pages}
use Rattle.ol_pool.proofs.ItemLaws.{each_more}
use Rattle.ol_pool.proofs.spaces.Spaces.new.Goals as goal

pub loop-space-preserved : goal.loop-space-preserved
loop-space-preserved c =
    each_more (data_pages c.args.table.now) None c.loop-space.space c.loop-space.invariant c.in_ok-new.ensures c.pages.ensures.value c.in_ok-push.ensures.items
