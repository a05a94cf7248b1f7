-- Why a call of the storage failed.
use Rattle.std.specs.Prelude.{IsErrOf, Result, ℕ, ◌≡◌, ◌≤◌, ◌<◌}
use Rattle.ol_values.specs.Config.{Config}
use Rattle.ol_chunks.specs.Limits.{chunk_count}
use Rattle.ol_ports.specs.Causes.{HasFailed}
use Rattle.ol_storage.specs.declared.storage.StorageFault.{StorageFault}
use Rattle.ol_storage.specs.declared.storage.StorageFault.TheVariants.{Failed}

-- counts of faults never fall; a failed call has raised that of one chunk of a space, and no other answer changes any
pub record HasStorageCause {T : Type 0} (c : Config) (before now : ℕ → ℕ) (result : Result T StorageFault) : Type 0 where
  pub later : (chunk : ℕ) → before chunk ≤ now chunk
  pub failed : IsErrOf result Failed → (chunk : ℕ) × (chunk < chunk_count c.spaces) × HasFailed chunk before now
  pub kept : (IsErrOf result Failed → ⊥) → now ≡ before
