-- Counts of faults, which never fall and stand still at the greatest u64.
use Rattle.std.specs.Prelude.{ℕ, ◌≡◌, ◌≢◌, ◌+◌, ◌-◌, ◌^◌, ◌<◌, ◌≤◌, min, Result, OnErr, OnOk}

-- the least count after a fault
abbrev pub risen : ℕ → ℕ
risen before = min (before + 1) (2 ^ 64 - 1)

-- the count has risen, or stands at its end
abbrev pub Rose : ℕ → ℕ → Type 0
Rose before now = risen before ≤ now

-- no fault came between these counts
abbrev pub IsCalm : ℕ → ℕ → Type 0
IsCalm before now = now < risen before

-- the count never falls, a failed call raises it, and no other call changes it
pub record HasCause {T E : Type 0} (before now : ℕ) (result : Result T E) : Type 0 where
  pub later : before ≤ now
  pub failed : OnErr result (Rose before now)
  pub kept : OnOk result (now ≡ before)

-- the same of the counts of a disk's chunks, in a call on one of them: those of the others stay
pub record HasChunkCause {T E : Type 0} (chunk : ℕ) (before now : ℕ → ℕ) (result : Result T E) : Type 0 where
  pub later : (c : ℕ) → before c ≤ now c
  pub failed : OnErr result (Rose (before chunk) (now chunk))
  pub kept : OnOk result (now ≡ before)
  pub others : (c : ℕ) → c ≢ chunk → now c ≡ before c

-- one chunk has failed, and no other: its count rose, and those of the others stay
pub record HasFailed (chunk : ℕ) (before now : ℕ → ℕ) : Type 0 where
  pub later : before chunk ≤ now chunk
  pub rose : Rose (before chunk) (now chunk)
  pub others : (c : ℕ) → c ≢ chunk → now c ≡ before c
