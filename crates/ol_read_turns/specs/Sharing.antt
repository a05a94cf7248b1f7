-- Slots that a session shares, one after the other.
use Rattle.std.specs.Prelude.{List, fold}
use Rattle.ol_values.specs.declared.record.Rid.{Rid}
use Rattle.ol_txn.specs.Seats.{Seat, shared_more}

-- the seat of a session that shares these slots more
abbrev pub shared_all : List Rid → Seat → Seat
shared_all rids s = fold (λ (t : Seat) (rid : Rid). shared_more rid t) s rids
