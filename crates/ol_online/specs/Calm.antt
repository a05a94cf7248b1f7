-- What a command needs, besides memory, to end well.
use Rattle.std.specs.Prelude.{List, Ok, Some, length, take, ℕ, ◌≡◌, ◌≤◌, ◌⊎◌}
use Rattle.ol_anchor_opening.specs.Opening.{IsOpenable}
use Rattle.ol_chunks.specs.Reading.{config_in_text}
use Rattle.ol_format.specs.First.{AreLarge, chunks_of}
use Rattle.ol_ports.specs.Causes.{IsCalm}
use Rattle.ol_ports.specs.Drive.{capacity}
use Rattle.ol_reserve.specs.Pair.{AreLow, Newest}
use Rattle.ol_reserve.specs.declared.anchor.Anchor.{Anchor}
use Rattle.ol_script.specs.Script.{script_of}
use Rattle.ol_values.specs.Config.{Config}
use Rattle.ol_values.specs.declared.history.Entry.{Entry}
use Rattle.ol_values.specs.declared.line.Line.{Line}
use Rattle.ol_volume.specs.Written.{Written}
use Rattle.ol_online.specs.Command.{archive_line_in}
use Rattle.ol_online.specs.Initing.{config_limit}
use Rattle.ol_online.specs.Planning.{lines_planned}
use Rattle.ol_online.specs.Playing.{due, journal_after}
use Rattle.ol_online.specs.Views.{Change, DiskView, SinkView, SourceView, bytes_on}
use Rattle.ol_online.specs.declared.status.Status.{Status}
use Rattle.ol_online.specs.declared.status.Status.TheVariants.{NoMemory, Ok as Done}

-- the work was done, or memory was wanted
abbrev pub IsWell : Status → Type 0
IsWell status = (status ≡ Done) ⊎ (status ≡ NoMemory)

-- the source has a script whose lines are built, and the disk, which tells, an installation on line whose chunks are there
pub record IsSoundPlay (source : SourceView) (tells : Type 0) (disk : DiskView) (lines : List Line) (c : Config) (n : ℕ) : Type 0 where
  pub bytes : List ℕ
  pub left : source.left ≡ Some bytes
  pub script : script_of bytes ≡ Ok lines
  pub told : tells
  pub anchor : Anchor
  pub newest : Newest (bytes_on disk) (Some anchor)
  pub low : AreLow (bytes_on disk)
  pub opens : IsOpenable disk.sizes anchor c
  pub plans : lines_planned c lines ≡ Ok n

-- the source has a configuration whose chunks are there
pub record IsSoundInit (source : SourceView) (disk : DiskView) (c : Config) : Type 0 where
  pub bytes : List ℕ
  pub left : source.left ≡ Some bytes
  pub config : config_in_text (take config_limit bytes) ≡ Ok c
  pub large : AreLarge disk.sizes c (chunks_of c)

-- no call of the source, the disk or the sink failed
pub record NoCallFailed (reads : Change SourceView) (disk : Change DiskView) (writes : Change SinkView) : Type 0 where
  pub source : IsCalm reads.old.faults reads.new.faults
  pub chunks : (chunk : ℕ) → IsCalm (disk.old.faults chunk) (disk.new.faults chunk)
  pub sink : IsCalm writes.old.faults writes.new.faults

-- no call of drive 1 failed, and it had room for the archive of these lines
pub record HasTape (tape : Change Written) (lines : List Line) (c : Config) (n : ℕ) (h : List Entry) : Type 0 where
  pub calm : IsCalm tape.old.faults tape.new.faults
  pub room : length (due c (archive_line_in n lines) (journal_after c h)) ≤ capacity tape.old.tape

-- a sound play ends well where no call failed and the tape sufficed
abbrev pub PlaysCalmly : Type 0 → Change SourceView → Change DiskView → Change Written → Change SinkView → List Entry → Status → Type 0
PlaysCalmly tells reads disk tape writes h status =
    (lines : List Line) (c : Config) (n : ℕ) → IsSoundPlay reads.old tells disk.old lines c n → NoCallFailed reads disk writes → HasTape tape lines c n h → IsWell status

-- a sound formatting ends well where no call failed
abbrev pub FormatsCalmly : Change SourceView → Change DiskView → Change SinkView → Status → Type 0
FormatsCalmly reads disk writes status = (c : Config) → IsSoundInit reads.old disk.old c → NoCallFailed reads disk writes → IsWell status
