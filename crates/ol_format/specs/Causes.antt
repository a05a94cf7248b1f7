-- Why a formatting ended, by the counts of faults.
use Rattle.std.specs.Prelude.{IsErrOf, Result, ℕ, ◌≡◌, ◌≤◌}
use Rattle.ol_ports.specs.Causes.{HasFailed}
use Rattle.ol_format.specs.declared.FormatFault.{FormatFault}
use Rattle.ol_format.specs.declared.FormatFault.TheVariants.{DiskFault}

-- the counts never fall; a fault of the disk raises that of its chunk alone, and no other answer changes any
pub record HasFormatCause (before now : ℕ → ℕ) (result : Result (Unit {0}) FormatFault) : Type 0 where
  pub later : (c : ℕ) → before c ≤ now c
  pub fault : (chunk : ℕ) → IsErrOf result (DiskFault chunk) → HasFailed chunk before now
  pub kept : ((chunk : ℕ) → IsErrOf result (DiskFault chunk) → ⊥) → now ≡ before
