use Rattle.std.proofs.Common.{arith, false, length, replicate, Bool, List}
use Rattle.std.proofs.lemmas.List.{length-replicate}
use Rattle.std.proofs.lemmas.List.FromFn.{sum_by-map-range_with_len_more}
use Rattle.std.proofs.Common.{zero-add}
use Rattle.ol_values.specs.Config.{data_pages}
use Rattle.ol_pool.proofs.pool.all_pages.Goals as goal

pub loop-space-preserved : goal.loop-space-preserved
loop-space-preserved c =
    let space = c.loop-space.space in
    let pages = data_pages c.args.table.now in
    omega (arith, c.loop-space.invariant.0, c.pages-all.ensures.value, length-replicate (pages space) false, sum_by-map-range_with_len_more (λ (r : List Bool). length r) (λ at. replicate (pages at) false) 0 space space (zero-add space))
