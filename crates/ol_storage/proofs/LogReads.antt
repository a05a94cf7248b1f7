-- A log page that is read: what it has of the records, what a stop leaves, and why a read failed.
use Rattle.std.specs.Prelude.{Err, IfSome, List, None, Option, Result, Some, ℕ, ◌≡◌}
use Rattle.std.proofs.Common.{subst, sym}
use Rattle.ol_values.specs.Config.{Config}
use Rattle.ol_chunks.specs.Limits.{IsConfig}
use Rattle.ol_chunks.specs.Places.{log_area}
use Rattle.ol_ports.specs.Causes.{HasChunkCause}
use Rattle.ol_ports.specs.Disk.{Past}
use Rattle.ol_ports.specs.Stops.{Stops}
use Rattle.ol_ports.proofs.StopLaws.{stops_none}
use Rattle.ol_log_places.specs.Places.{Place}
use Rattle.ol_log_places.specs.declared.heads.Stood.{Stood}
use Rattle.ol_loglog.specs.PageReads.{HasReadCause, HoldsPage}
use Rattle.ol_loglog.specs.declared.reading.LogReadFault.{LogReadFault}
use Rattle.ol_loglog.specs.declared.reading.LogReadFault.TheVariants.{Failed as ReadFailed}
use Rattle.ol_storage.specs.Behind.{Behind, record_at}
use Rattle.ol_storage.specs.Causes.{HasStorageCause}
use Rattle.ol_storage.specs.Installation.{Installation, config_of, flushed_of}
use Rattle.ol_storage.specs.LogReads.{HoldsRecords}
use Rattle.ol_storage.specs.Standing.{StandsFrom}
use Rattle.ol_storage.specs.Storing.{IsStored}
use Rattle.ol_storage.specs.declared.storage.StorageFault.TheVariants.{Failed}
use Rattle.ol_storage.proofs.Causes.{log_failed}
use Rattle.ol_storage.proofs.Images.{Known}
use Rattle.ol_storage.proofs.Quiet.{stored_stands}

-- the page that stands has the records
pub page_records : (c : Config) (r : ℕ → Place) (g : Behind) (bytes : List ℕ) (found : Option Stood) → IfSome found (λ s. HoldsPage c r (record_at g) s.head bytes) → IfSome found (λ s. HoldsRecords g s.head bytes)
page_records c r g bytes None holds = tt
page_records c r g bytes (Some s) holds = record { page = holds.page; head = holds.head; spelled = holds.spelled; records = holds.records }

-- a call that writes nothing leaves what a stop before it left
pub read_stops : (old new : Past) (v : Installation) (g : Behind) → Known v → IsStored old v g → new ≡ old → Stops old new (StandsFrom (config_of v) g v.anchor (flushed_of v) (flushed_of v))
read_stops old new v g known is same =
    subst (λ (past : Past). Stops old past (StandsFrom (config_of v) g v.anchor (flushed_of v) (flushed_of v))) (sym same)
    (stops_none old (StandsFrom (config_of v) g v.anchor (flushed_of v) (flushed_of v)) (stored_stands old v g known is))

-- a read of the log failed
pub read_failed : {T U : Type 0} (c : Config) → IsConfig c → (before now : ℕ → ℕ) (result : Result T LogReadFault) → result ≡ Err ReadFailed → HasReadCause (log_area c).chunk before now result → HasStorageCause {T = U} c before now (Err Failed)
read_failed {T} {U} c config before now result is cause =
    let failed = cause.failed is in
    let same : HasChunkCause {T = T} (log_area c).chunk before now (Err ReadFailed) = record { later = cause.later; failed = failed.rose; kept = tt; others = failed.others } in
    log_failed c config before now ReadFailed same
