-- What mounting the next volume leaves, and when a drive may be written to.
use Rattle.std.specs.Prelude.{ℕ, ◌≡◌, ◌<◌, Bool, true, false, [], length}
use Rattle.ol_ports.specs.Causes.{Rose}
use Rattle.ol_ports.specs.Drive.{Tape, with_next_volume, without_volume}
use Rattle.ol_volume.specs.declared.writer.TapeEnd.{TapeEnd}
use Rattle.ol_volume.specs.declared.writer.TapeEnd.TheVariants.{TapeFault, OutOfTape}

-- a volume was mounted and may be written to, or none was and there is no room
pub record IsMountedWhereTold (tape : Tape) (mounted : Bool) : Type 0 where
  pub after : mounted ≡ true → 0 < tape.mounted
  pub before : mounted ≡ false → tape.room ≡ 0

-- the next volume is mounted
pub record MountsNext (old : Tape) (before : ℕ) (new : Tape) (now : ℕ) : Type 0 where
  pub left : 0 < length old.rooms
  pub tape : new ≡ with_next_volume old
  pub faults : now ≡ before

-- what a refused mount leaves
abbrev pub EndsMounting : ℕ → Tape → ℕ → Tape → ℕ → TapeEnd → Type 0
EndsMounting number old before new now (TapeFault drive count) =
    (drive ≡ number) × (count ≡ now) × Rose before now × (new ≡ without_volume old)
EndsMounting number old before new now (OutOfTape drive) =
    (drive ≡ number) × (old.rooms ≡ []) × (new ≡ old) × (now ≡ before)
