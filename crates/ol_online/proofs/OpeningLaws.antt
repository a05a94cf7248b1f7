-- The cause of a disk that is not opened.
use Rattle.std.specs.Prelude.{Err, ℕ, ◌≡◌, refl}
use Rattle.std.proofs.Common.{subst}
use Rattle.ol_values.specs.Config.{Config}
use Rattle.ol_anchor_opening.specs.Opening.{HasAnchorCause}
use Rattle.ol_anchor_opening.specs.declared.anchor.AnchorFault.{AnchorFault}
use Rattle.ol_anchor_opening.specs.declared.anchor.AnchorFault.TheVariants.{BadDisk as Damaged, Blank as BlankPair, DiskFault as Fault, Restoring as BeingRestored, TooSmall as Small}
use Rattle.ol_ports.specs.Causes.{HasFailed}
use Rattle.ol_reserve.specs.declared.anchor.Anchor.{Anchor}
use Rattle.ol_online.specs.Opening.{HasStatusCause, status_of_anchor}

pub anchor_cause : (before now : ℕ → ℕ) (fault : AnchorFault) → HasAnchorCause {T = Anchor × Config} before now (Err fault) → HasStatusCause before now (status_of_anchor fault)
anchor_cause before now BlankPair cause = record { later = cause.later; fault = λ chunk is. cc; kept = λ no. cause.kept (λ chunk is. cc) }
anchor_cause before now BeingRestored cause = record { later = cause.later; fault = λ chunk is. cc; kept = λ no. cause.kept (λ chunk is. cc) }
anchor_cause before now (Damaged at page) cause = record { later = cause.later; fault = λ chunk is. cc; kept = λ no. cause.kept (λ chunk is. cc) }
anchor_cause before now (Small at) cause = record { later = cause.later; fault = λ chunk is. cc; kept = λ no. cause.kept (λ chunk is. cc) }
anchor_cause before now (Fault at) cause =
    record {
      later = cause.later;
      fault = λ chunk is. let same : at ≡ chunk = cc in subst (λ (k : ℕ). HasFailed k before now) same (cause.fault at refl).1;
      kept = λ no. absurd (no at refl);
    }
