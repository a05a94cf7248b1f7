-- What the formatting of a disk for the configuration of a source gives.
use Rattle.std.specs.Prelude.{Err, IsErrOf, List, Ok, Option, Result, Some, take, ℕ, ◌≡◌, ◌≢◌, ◌⊎◌}
use Rattle.ol_values.specs.Config.{Config}
use Rattle.ol_ports.specs.Causes.{Rose}
use Rattle.ol_ports.specs.Disk.{Bytes, Past, Rest}
use Rattle.ol_ports.specs.Frames.{FramedAt}
use Rattle.ol_chunks.specs.Reading.{config_in_text}
use Rattle.ol_format.specs.First.{AreLarge, IsFirstSmall, chunks_of}
use Rattle.ol_format.specs.Formatted.{IsBlankOrFormatted, IsFormatted, is_gate}
use Rattle.ol_format.specs.declared.FormatFault.{FormatFault}
use Rattle.ol_format.specs.declared.FormatFault.TheVariants.{DiskFault as Fault, TooSmall as Small}
use Rattle.ol_online.specs.declared.status.Status.{Status}
use Rattle.ol_online.specs.declared.status.Status.TheVariants.{BadConfig, DiskFault, NoMemory, ReadFault, TooSmall}

-- the most bytes that are read of a configuration, one more than any has
abbrev pub config_limit : ℕ
config_limit = 1025

-- what the source's bytes are as a configuration, where it tells them
abbrev pub SaysConfig : Option (List ℕ) → Result Config ℕ → Type 0
SaysConfig left answer = (bytes : List ℕ) → left ≡ Some bytes → config_in_text (take config_limit bytes) ≡ answer

-- what reading a configuration gives: what the source tells, and its count of faults before and after
abbrev pub EndsConfig : Option (List ℕ) → ℕ → ℕ → Result Config Status → Type 0
EndsConfig left before after (Ok c) = SaysConfig left (Ok c)
EndsConfig left before after (Err (BadConfig line)) = SaysConfig left (Err line)
EndsConfig left before after (Err ReadFault) = Rose before after
EndsConfig left before after (Err NoMemory) = Unit {0}
EndsConfig left before after _ = ⊥

-- what formatting a disk of these sizes for a configuration gives: on Ok what is read, and what each stop afterwards leaves, is such a disk
abbrev pub EndsFormat : Type 0 → (ℕ → ℕ) → Past → Config → Result Unit Status → Type 0
EndsFormat tells sizes past c (Ok u) = AreLarge sizes c (chunks_of c) × (tells → (d : Bytes) → Rest past d → IsFormatted d c)
EndsFormat tells sizes past c (Err (TooSmall chunk)) = IsFirstSmall sizes c chunk
EndsFormat tells sizes past c (Err (DiskFault chunk)) = AreLarge sizes c (chunks_of c)
EndsFormat tells sizes past c _ = ⊥

-- how the command ended: no configuration was read, or the disk was formatted for the one that was
abbrev pub EndsInit : Option (List ℕ) → ℕ → ℕ → Type 0 → (ℕ → ℕ) → Past → Result Unit Status → Type 0
EndsInit left before after tells sizes past (Err (BadConfig line)) = SaysConfig left (Err line)
EndsInit left before after tells sizes past (Err ReadFault) = Rose before after
EndsInit left before after tells sizes past (Err NoMemory) = Unit {0}
EndsInit left before after tells sizes past result = (c : Config) × SaysConfig left (Ok c) × EndsFormat tells sizes past c result

-- but for a fault of the disk, an end other than Ok leaves the disk as it was
abbrev pub LeavesDisk : {D : Type 0} → Result Unit Status → D → D → Type 0
LeavesDisk result before now = (status : Status) → IsErrOf result status → ((chunk : ℕ) → status ≢ DiskFault chunk) → now ≡ before

-- what a stop within the command leaves: what a stop before it might have left, but for the gates of the anchor pair; or no anchor, or a disk formatted for the configuration that was read
abbrev pub IsInitBetween : Option (List ℕ) → Past → Bytes → Type 0
IsInitBetween left past d = FramedAt past is_gate d ⊎ ((c : Config) × SaysConfig left (Ok c) × IsBlankOrFormatted c d)

-- the status of a disk that was not formatted
abbrev pub status_of_format : FormatFault → Status
status_of_format (Small chunk) = TooSmall chunk
status_of_format (Fault chunk) = DiskFault chunk
