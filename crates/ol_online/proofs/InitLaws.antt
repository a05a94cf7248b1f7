-- What a formatting tells and leaves, as the command does.
use Rattle.std.specs.Prelude.{Err, IsErrOf, List, Ok, Option, Result, ℕ, ◌≡◌, ◌≢◌, refl}
use Rattle.std.proofs.Common.{inl, inr, subst, sym}
use Rattle.ol_values.specs.Config.{Config}
use Rattle.ol_ports.specs.Causes.{HasFailed}
use Rattle.ol_ports.specs.Disk.{Bytes, Past}
use Rattle.ol_ports.proofs.FrameLaws.{framed_none}
use Rattle.ol_ports.proofs.StopLaws.{stops_none, stops_weaker}
use Rattle.ol_ports.specs.Stops.{Stops}
use Rattle.ol_format.specs.Causes.{HasFormatCause}
use Rattle.ol_format.specs.First.{AreLarge, IsFirstSmall, chunks_of}
use Rattle.ol_format.specs.Formatted.{IsBetween, is_gate}
use Rattle.ol_format.specs.declared.FormatFault.{FormatFault}
use Rattle.ol_format.specs.declared.FormatFault.TheVariants.{DiskFault as Fault, TooSmall as Small}
use Rattle.ol_online.specs.Command.{IsReported}
use Rattle.ol_online.specs.Initing.{EndsInit, IsInitBetween, SaysConfig, status_of_format}
use Rattle.ol_online.specs.Opening.{HasStatusCause}
use Rattle.ol_online.specs.declared.status.Status.{Status}
use Rattle.ol_online.specs.declared.status.Status.TheVariants.{WriteFault}

-- the cause of a disk that was not formatted
pub format_cause : (before now : ℕ → ℕ) (fault : FormatFault) → HasFormatCause before now (Err fault) → HasStatusCause before now (status_of_format fault)
format_cause before now (Small at) cause = record { later = cause.later; fault = λ chunk is. cc; kept = λ no. cause.kept (λ chunk is. cc) }
format_cause before now (Fault at) cause =
    record {
      later = cause.later;
      fault = λ chunk is. let same : at ≡ chunk = cc in subst (λ (k : ℕ). HasFailed k before now) same (cause.fault at refl);
      kept = λ no. absurd (no at refl);
    }

abbrev pub refused : FormatFault → Result Unit FormatFault
refused fault = Err fault

-- how a formatting that was refused ended
pub init_refused : (left : Option (List ℕ)) (before after : ℕ) (tells : Type 0) (sizes : ℕ → ℕ) (past : Past) (c : Config) (fault : FormatFault) → SaysConfig left (Ok c)
    → ((chunk : ℕ) → IsErrOf (refused fault) (Small chunk) → IsFirstSmall sizes c chunk) → (((chunk : ℕ) → IsErrOf (refused fault) (Small chunk) → ⊥) → AreLarge sizes c (chunks_of c))
    → EndsInit left before after tells sizes past (Err (status_of_format fault))
init_refused left before after tells sizes past c (Small chunk) says small large = (c, says, small chunk refl)
init_refused left before after tells sizes past c (Fault chunk) says small large = (c, says, large (λ at is. cc))

-- what a stop within a formatting leaves, told of the configuration that was read
pub init_stops : (left : Option (List ℕ)) (old new : Past) (c : Config) → SaysConfig left (Ok c) → Stops old new (IsBetween old c) → Stops old new (IsInitBetween left old)
init_stops left old new c says stops = stops_weaker old new (IsBetween old c) (IsInitBetween left old) wider stops
  where
    wider : (d : Bytes) → IsBetween old c d → IsInitBetween left old d
    wider d (inl framed) = inl framed
    wider d (inr one) = inr (c, says, one)

-- no configuration was read, and no call was made
pub init_unread : (left : Option (List ℕ)) (past : Past) → Stops past past (IsInitBetween left past)
init_unread left past = stops_none past (IsInitBetween left past) (λ d rest. inl (framed_none past is_gate d rest))

-- what is reported is what the work ended with, but for a fault of the output
pub reported_is : (before after : ℕ) (ended status : Status) → IsReported before after ended status → status ≢ WriteFault → status ≡ ended
reported_is before after ended status (inl same) no_write = same
reported_is before after ended status (inr (done, write, rose)) no_write = absurd (no_write write)

-- a fault of the output is no fault of the disk
pub reported_cause : (before now : ℕ → ℕ) (from to : ℕ) (ended status : Status) → IsReported from to ended status → HasStatusCause before now ended → HasStatusCause before now status
reported_cause before now from to ended status (inl same) cause = subst (λ (s : Status). HasStatusCause before now s) (sym same) cause
reported_cause before now from to ended status (inr (done, write, rose)) cause =
    record {
      later = cause.later;
      fault = λ chunk is. cc;
      kept = λ no. cause.kept (λ chunk is. cc);
    }
