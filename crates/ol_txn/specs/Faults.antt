-- Which session a refusal names.
use Rattle.std.specs.Prelude.{Err, None, Ok, Option, Result, Some, ℕ}
use Rattle.ol_txn.specs.declared.fault.LockFault.{LockFault}
use Rattle.ol_txn.specs.declared.fault.LockFault.TheVariants.{Held, NoMemory}

-- the session that holds the lock, where that was the answer
abbrev pub held_by : {A : Type 0} → Result A LockFault → Option ℕ
held_by (Ok x) = None
held_by (Err (Held holder)) = Some holder
held_by (Err NoMemory) = None
