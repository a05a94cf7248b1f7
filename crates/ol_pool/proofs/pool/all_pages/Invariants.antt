use Rattle.std.proofs.Common.{false, map, replicate, ◌*◌, ◌≡◌, ◌≤◌}
use Rattle.std.specs.List.{range_with_len}
use Rattle.ol_values.specs.Config.{data_pages}
use Rattle.ol_pool.specs.Stored.{count_pages}
use Rattle.ol_pool.proofs.pool.all_pages.Given as goal

abbrev pub invariant-loop-space : goal.invariant-loop-space
invariant-loop-space l =
    (l.all ≡ count_pages (map (λ space. replicate (data_pages l.table space) false) (range_with_len 0 l.space))) × (l.all ≤ 65535 * l.space)
