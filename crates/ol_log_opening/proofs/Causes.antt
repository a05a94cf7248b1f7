-- Why a log was not opened.
use Rattle.std.specs.Prelude.{Err, ℕ, ◌≡◌}
use Rattle.std.proofs.Common.{refl, subst, sym, ◌∙◌}
use Rattle.ol_values.specs.Config.{Config}
use Rattle.ol_chunks.specs.Places.{log_area}
use Rattle.ol_ports.specs.Causes.{HasFailed}
use Rattle.ol_log_places.specs.Scanning.{HasScanCause}
use Rattle.ol_log_places.specs.declared.heads.ScanFault.TheVariants.{DiskFault as ScanDiskFault}
use Rattle.ol_log_opening.specs.declared.log.LogOpenFault.TheVariants.{DiskFault}
use Rattle.ol_log_opening.specs.Opened.{HasLogCause}

-- a read of the log failed
pub scan_failed : {T U : Type 0} (c : Config) (before now : ℕ → ℕ) (chunk : ℕ) → HasScanCause {T = T} c before now (Err (ScanDiskFault chunk)) → HasLogCause {T = U} (log_area c).chunk before now (Err (DiskFault chunk))
scan_failed {T} {U} c before now chunk cause =
    let failed = cause.fault chunk refl in
    record {
      later = cause.later;
      fault = λ k is. (let same : chunk ≡ k = cc in let here : k ≡ (log_area c).chunk = sym same ∙ failed.0 in (here, subst (λ (n : ℕ). HasFailed n before now) (sym here) failed.1));
      kept = λ none. absurd (none chunk refl);
    }
