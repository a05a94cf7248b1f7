use Rattle.std.proofs.Common.{false, map, replicate, ◌≡◌}
use Rattle.std.specs.List.{range_with_len}
use Rattle.ol_values.specs.Config.{data_pages}
use Rattle.ol_pool.proofs.marks.Marks.new.Given as goal

abbrev pub invariant-loop-space : goal.invariant-loop-space
invariant-loop-space l = l.spaces.items ≡ map (λ space. replicate (data_pages l.table space) false) (range_with_len 0 l.space)
