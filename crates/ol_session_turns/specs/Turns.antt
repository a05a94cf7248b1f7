-- The turns of sessions, as session k takes them.
use Rattle.std.specs.Prelude.{ℕ}
use Rattle.ol_values.specs.declared.event.Reply.{Reply}
use Rattle.ol_model.specs.Machine.{Machine, seat_of}
use Rattle.ol_model.specs.SessionTurns.{begin_at, commit_at, rolled_at}

abbrev pub begin_turn : Machine → ℕ → Reply × Machine
begin_turn m k = begin_at m k (seat_of m k) (seat_of m k).txn

abbrev pub commit_turn : Machine → ℕ → Reply × Machine
commit_turn m k = commit_at m k (seat_of m k) (seat_of m k).txn

abbrev pub rolled_turn : Machine → ℕ → Reply × Machine
rolled_turn m k = rolled_at m k (seat_of m k) (seat_of m k).txn
