use Rattle.std.proofs.Common.{ap, arith, replicate, rules, ℕ, ◌≡◌, ◌∙◌}
use Rattle.ol_txn.specs.Seats.{empty_seat, no_locks}
use Rattle.ol_txn.proofs.SeatLaws.{all_same, sound_none}
use Rattle.ol_txn.proofs.locks.Locks.new.Goals as goal

empty : (c : goal.After-from_fn) → c.from_fn.result ≡ no_locks
empty c =
    all_same empty_seat c.from_fn.result (λ i h. let k = c.from_fn.ensures.items.at i empty_seat (omega (arith, c.from_fn.ensures.items.long)) in search rules)
    ∙ ap (λ (n : ℕ). replicate n empty_seat) c.from_fn.ensures.items.long

pub invariant_of-result : goal.invariant_of-result
invariant_of-result c = sound_none c.from_fn.result (empty c)

pub returns : goal.returns
returns c = empty c
