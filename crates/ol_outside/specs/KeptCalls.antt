-- The calls that a disk in memory keeps, and how they stand for those that it was asked.
use Rattle.std.specs.Prelude.{ℕ, zero, suc, ◌+◌, ◌-◌, ◌*◌, ◌^◌, ◌<◌, ◌≤◌, ◌≡◌, ◌⊎◌, List, [], ◌∷◌, length, fold, map, min}
use Rattle.ol_outside.specs.Chunks.{lengths, HasPage, ChunksHold}
use Rattle.ol_ports.specs.Disk.{Call, Wrote, Synced, Passed, bytes_after}
use Rattle.ol_outside.specs.declared.kept_calls.Order.{Order}
use Rattle.ol_outside.specs.declared.kept_calls.Order.TheVariants.{Write, Sync}
use Rattle.ol_outside.specs.declared.kept_calls.Kept.{Kept}

-- the call that it was
abbrev pub call_of : Order → Call
call_of (Write chunk page offset bytes) = Wrote chunk page offset bytes.items
call_of (Sync chunk) = Synced chunk

-- so many calls more that left nothing
abbrev pub passes : ℕ → List Call → List Call
passes zero calls = calls
passes (suc n) calls = Passed ∷ passes n calls

-- a call that is kept, after those before it that left nothing
abbrev pub after_kept : List Call → Kept → List Call
after_kept calls k = call_of k.order ∷ passes k.passed calls

-- the calls up to the last that is kept, the newest first
abbrev pub kept_calls : List Kept → List Call
kept_calls kept = fold after_kept [] kept

-- and those that left nothing since
abbrev pub calls_of : List Kept → ℕ → List Call
calls_of kept passed = passes passed (kept_calls kept)

-- a call that left nothing; it has no number where more than a u64 counts have left nothing
abbrev pub PassesOver : List Call → List Call → Type 0
PassesOver old new = (new ≡ Passed ∷ old) ⊎ ((2 ^ 64 - 1 ≤ length old) × (new ≡ old))

-- the range of a write or the chunk of a sync is there
abbrev pub FitsIn : List (List ℕ) → Call → Type 0
FitsIn chunks (Wrote chunk page offset bytes) = HasPage chunks chunk page × (offset + length bytes ≤ 2048)
FitsIn chunks (Synced chunk) = chunk < length chunks
FitsIn chunks Passed = Unit {0}

-- those of all calls are there
abbrev pub AllFitIn : List (List ℕ) → List Call → Type 0
AllFitIn chunks [] = Unit {0}
AllFitIn chunks (call ∷ calls) = FitsIn chunks call × AllFitIn chunks calls

-- the fields of a disk in memory agree: its bytes are those that it began with after its calls
pub record Agrees (base bytes : List (List ℕ)) (calls : List Call) (sizes : List ℕ) (moment : ℕ) : Type 0 where
  pub holds : ChunksHold bytes (bytes_after base calls)
  pub base_sized : lengths base ≡ map (λ pages. 2048 * pages) sizes
  pub bytes_sized : lengths bytes ≡ lengths base
  pub fits : AllFitIn base calls
  pub counted : moment ≡ min (length calls) (2 ^ 64 - 1)
