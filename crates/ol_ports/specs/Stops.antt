-- What a stop within calls of a disk, or behind them, may leave.
use Rattle.std.specs.Prelude.{ℕ}
use Rattle.ol_ports.specs.Disk.{Bytes, Leaves, Past, Rest}

-- what a stop within any of these calls leaves, and one behind them, has P
pub record Stops (old new : Past) (P : Bytes → Type 0) : Type 0 where
  pub within : Leaves old new P
  pub behind : (d : Bytes) → Rest new d → P d
