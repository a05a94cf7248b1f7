use Rattle.std.proofs.Common.{arith, deque_capacity, false, refl, ◌≤◌}
use Rattle.ol_pool.specs.Frames.{each_page}
use Rattle.ol_pool.specs.Stored.{count_pages}
use Rattle.ol_pool.proofs.StoreLaws.{stored_as, stored_at_first}
use Rattle.ol_pool.proofs.pool.Pool.new.Goals as goal

pub invariant_of-result : goal.invariant_of-result
invariant_of-result c =
    let table = c.args.table.now in
    let room : count_pages (each_page table false) ≤ deque_capacity c.in_ok-dirty.dirty = omega (arith, c.all_pages.ensures, c.in_ok-dirty.ensures.capacity) in
    stored_as (λ i. record { spaces = c.in_ok-spaces.ensures i; dirty = c.in_ok-dirty.ensures.items i }) c.in_ok-marks.ensures refl (stored_at_first table (deque_capacity c.in_ok-dirty.dirty) room)
