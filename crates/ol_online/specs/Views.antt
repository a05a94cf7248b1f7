-- What contracts see of the devices that a command works on.
use Rattle.std.specs.Prelude.{List, Option, slice_index_or, ℕ}
use Rattle.ol_ports.specs.Disk.{Bytes, Past, seen}
use Rattle.ol_ports.specs.Drive.{Tape}
use Rattle.ol_reserve.specs.Pair.{there}
use Rattle.ol_volume.specs.Written.{Written}

-- a source: the bytes that are left, where it tells them, and its count of faults
pub record SourceView : Type 0 where
  pub left : Option (List ℕ)
  pub faults : ℕ

-- a disk: what it was asked so far, the pages of each chunk, and the counts of faults
pub record DiskView : Type 0 where
  pub past : Past
  pub sizes : ℕ → ℕ
  pub faults : ℕ → ℕ

-- a sink: the bytes that it took, where it tells them, and its count of faults
pub record SinkView : Type 0 where
  pub contents : Option (List ℕ)
  pub faults : ℕ

-- a device before and after a command
pub record Change (V : Type 0) : Type 0 where
  pub old : V
  pub new : V

-- the bytes of a disk's pages that are there
abbrev pub bytes_on : DiskView → Bytes
bytes_on disk = there disk.sizes (seen disk.past)

-- the drive of archiver 1
abbrev pub drive_1 : Tape → ℕ → Written
drive_1 tape faults = record { tape = tape; faults = faults; number = 1 }

-- ---- what a command did to its devices

-- a source, seen by its bytes and faults
abbrev pub reading : {S : Type 0} → (S → Option (List ℕ)) → (S → ℕ) → S → S → Change SourceView
reading left faults old new =
    let before : SourceView = record { left = left old; faults = faults old } in
    let after : SourceView = record { left = left new; faults = faults new } in
    record { old = before; new = after }

-- a disk, seen by its past, sizes and faults
abbrev pub storing : {D : Type 0} → (D → Past) → (D → ℕ → ℕ) → (D → ℕ → ℕ) → D → D → Change DiskView
storing past sizes faults old new =
    let before : DiskView = record { past = past old; sizes = sizes old; faults = faults old } in
    let after : DiskView = record { past = past new; sizes = sizes new; faults = faults new } in
    record { old = before; new = after }

-- drive 1 of a list of drives, seen by its tape and faults; any drive is named for a list without it
abbrev pub taping : {T : Type 0} → (T → Tape) → (T → ℕ) → T → List T → List T → Change Written
taping tape faults any old new =
    let before : Written = drive_1 (tape (slice_index_or old 1 any)) (faults (slice_index_or old 1 any)) in
    let after : Written = drive_1 (tape (slice_index_or new 1 any)) (faults (slice_index_or new 1 any)) in
    record { old = before; new = after }

-- a sink, seen by its bytes and faults
abbrev pub writing : {K : Type 0} → (K → Option (List ℕ)) → (K → ℕ) → K → K → Change SinkView
writing contents faults old new =
    let before : SinkView = record { contents = contents old; faults = faults old } in
    let after : SinkView = record { contents = contents new; faults = faults new } in
    record { old = before; new = after }
