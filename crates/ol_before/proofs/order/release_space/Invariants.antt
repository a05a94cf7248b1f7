use Rattle.std.proofs.Common.{filter, not, take, vec_capacity, vec_len, ◌+◌, ◌-◌, ◌≡◌, ◌≤◌}
use Rattle.ol_before.specs.Images.{is_in_space}
use Rattle.ol_before.proofs.order.release_space.Given as goal

abbrev pub invariant-loop-at : goal.invariant-loop-at
invariant-loop-at l =
    record {
      all : filter (λ i. not (is_in_space l.space i)) l.held.items ≡ filter (λ i. not (is_in_space l.space i)) l.fn.held.items;
      front : filter (λ i. not (is_in_space l.space i)) (take l.at l.held.items) ≡ take l.at l.held.items;
      count : vec_len l.held + vec_len l.free ≡ vec_len l.fn.held + vec_len l.fn.free;
      held_room : vec_capacity l.held ≡ vec_capacity l.fn.held;
      free_room : vec_capacity l.fn.free ≤ vec_capacity l.free;
    }

abbrev pub decreases-loop-at : goal.decreases-loop-at
decreases-loop-at l = vec_len l.held - l.at
