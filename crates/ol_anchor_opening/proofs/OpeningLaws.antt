-- What the reading of a disk gives, from what its anchor pair gives.
use Rattle.std.specs.Prelude.{Err, IfOk, IsErrOf, List, None, Ok, Result, Some, length, refl, true, ℕ, ◌<◌, ◌≡◌, ◌≤◌}
use Rattle.std.proofs.Common.{ap, arith, subst, sym, ⊎_elim, ◌∙◌}
use Rattle.std.proofs.lemmas.Bool.Decides.{nat_tests}
use Rattle.ol_values.specs.Config.{Config, config_text}
use Rattle.ol_chunks.specs.Limits.{IsConfig}
use Rattle.ol_chunks.specs.Places.{chunk_pages}
use Rattle.ol_chunks.specs.Reading.{config_in_text}
use Rattle.ol_chunks.proofs.Chunks.{first_pages}
use Rattle.ol_format.specs.First.{AreLarge, chunks_of}
use Rattle.ol_ports.specs.Causes.{HasFailed}
use Rattle.ol_ports.specs.Disk.{Bytes}
use Rattle.ol_reserve.specs.Anchor.{IsAnchor, anchor_bytes, is_low}
use Rattle.ol_reserve.specs.Pair.{AreLow, HasFaultCause, IsAnswer, IsDamaged, IsSpelled, IsSpoilt, Newest, there}
use Rattle.ol_reserve.specs.declared.anchor.Anchor.{Anchor}
use Rattle.ol_reserve.specs.declared.pair.ReserveFault.{ReserveFault}
use Rattle.ol_reserve.specs.declared.pair.ReserveFault.TheVariants.{BadDisk as Damaged, Blank as BlankPair, DiskFault as Fault}
use Rattle.ol_reserve.proofs.PairLaws.{newest_kept}
use Rattle.ol_anchor_opening.specs.Opening.{EndsRead, HasAnchorCause, IsNewestRead, IsOnline, IsReadOf, OpensOf, ReadsTo, fault_of_reserve}
use Rattle.ol_anchor_opening.specs.declared.anchor.AnchorFault.{AnchorFault}
use Rattle.ol_anchor_opening.specs.declared.anchor.AnchorFault.TheVariants.{BadDisk, Blank, DiskFault, Restoring, TooSmall}

-- the newest anchor, and what is opened of it
pub opened : (d : Bytes) (sizes : ℕ → ℕ) (a : Anchor) (r : Result (Anchor × Config) AnchorFault) → Newest d (Some a) → AreLow d → OpensOf sizes a r → EndsRead d sizes r
opened d sizes a (Ok c) n low o = (a, n, low, o)
opened d sizes a (Err (TooSmall chunk)) n low o = (a, n, low, o)
opened d sizes a (Err Restoring) n low o = (a, n, low, o)
opened d sizes a (Err Blank) n low o = absurd o
opened d sizes a (Err (BadDisk chunk page)) n low o = absurd o
opened d sizes a (Err (DiskFault chunk)) n low o = absurd o

-- a pair that gives no anchor
pub refused : (d : Bytes) (sizes : ℕ → ℕ) (fault : ReserveFault)
    → (IsErrOf {T = Unit {0}} (Err fault) BlankPair → Newest d None)
    → ((chunk page : ℕ) → IsErrOf {T = Unit {0}} (Err fault) (Damaged chunk page) → IsDamaged d page)
    → ((chunk : ℕ) → IsErrOf {T = Unit {0}} (Err fault) (Damaged chunk 1) → IsSpoilt d 0 → ⊥) → EndsRead d sizes (Err (fault_of_reserve fault))
refused d sizes BlankPair blank bad first = blank refl
refused d sizes (Damaged chunk page) blank bad first = (bad chunk page refl, λ is. first chunk (ap (λ (n : ℕ). let r : Result (Unit {0}) ReserveFault = Err (Damaged chunk n) in r) is))
refused d sizes (Fault chunk) blank bad first = tt

pub refused_to : (sizes before now : ℕ → ℕ) (fault : ReserveFault) → ((chunk page : ℕ) → IsErrOf {T = Unit {0}} (Err fault) (Damaged chunk page) → (chunk ≡ 0) × (page < 2))
    → HasFaultCause {T = Unit {0}} before now (Err fault) → ReadsTo sizes (Err (fault_of_reserve fault))
refused_to sizes before now BlankPair place cause = tt
refused_to sizes before now (Damaged chunk page) place cause = place chunk page refl
refused_to sizes before now (Fault chunk) place cause = (cause.fault chunk refl).0

-- whichever anchor is named the newest, its bytes are those that were read
pub only_opened : (sizes : ℕ → ℕ) (a : Anchor) (r : Result (Anchor × Config) AnchorFault) → OpensOf sizes a r → IsReadOf sizes a r
only_opened sizes a (Ok c) o = o
only_opened sizes a (Err (TooSmall chunk)) o = o
only_opened sizes a (Err Restoring) o = o
only_opened sizes a (Err Blank) o = o
only_opened sizes a (Err (BadDisk chunk page)) o = o
only_opened sizes a (Err (DiskFault chunk)) o = absurd o

-- a pair with a newest anchor is refused for a fault alone
pub only_refused : (sizes : ℕ → ℕ) (a : Anchor) (bytes : List ℕ) (fault : ReserveFault) → IsAnswer (Some a) bytes (Err fault) → IsReadOf sizes a (Err (fault_of_reserve fault))
only_refused sizes a bytes BlankPair answer = absurd answer
only_refused sizes a bytes (Damaged chunk page) answer = absurd answer
only_refused sizes a bytes (Fault chunk) answer = answer

-- its cause
pub fault_cause : {T : Type 0} (before now : ℕ → ℕ) (fault : ReserveFault) → HasFaultCause {T = Unit {0}} before now (Err fault) → HasAnchorCause {T = T} before now (Err (fault_of_reserve fault))
fault_cause before now BlankPair cause = record { later = cause.later; fault = λ chunk is. cc; kept = λ no. cause.kept (λ chunk is. cc) }
fault_cause before now (Damaged at page) cause = record { later = cause.later; fault = λ chunk is. cc; kept = λ no. cause.kept (λ chunk is. cc) }
fault_cause before now (Fault at) cause =
    record {
      later = cause.later;
      fault = λ chunk is. let at_is : at ≡ chunk = cc in let first = cause.fault at refl in (sym at_is ∙ first.0, subst (λ (k : ℕ). HasFailed k before now) (sym first.0 ∙ at_is) first.1);
      kept = λ no. absurd (no at refl);
    }

-- a disk that has the chunks of a configuration has the pair
pub pair_there : (sizes : ℕ → ℕ) (c : Config) → IsConfig c → AreLarge sizes c (chunks_of c) → 2 ≤ sizes 0
pair_there sizes c is large =
    let some : 0 < length c.spaces = omega (arith, is.log_space) in
    let whole : 12 < chunk_pages c 0 = omega (arith, is.room 0 some, first_pages c is 0 some) in
    omega (arith, whole, large 0 (omega arith))

-- the newest anchor of the pages that are there, where the pair is
pub newest_read : (sizes : ℕ → ℕ) (d : Bytes) (a : Anchor) → 2 ≤ sizes 0 → Newest (there sizes d) (Some a) → AreLow (there sizes d) → IsNewestRead (there sizes d) d a
newest_read sizes d a pair newest low = record { newest = newest; low = low; whole = newest_kept d (there sizes d) (Some a) same newest }
  where
    same : (page i : ℕ) → page < 2 → d 0 page i ≡ there sizes d 0 page i
    same page i lt = let in_pair : page < sizes 0 = omega (arith, pair, lt) in grind (arith, nat_tests)

-- the same of what was opened
pub newest_of : (sizes : ℕ → ℕ) (d : Bytes) (a : Anchor) (r : Result (Anchor × Config) AnchorFault) → Newest (there sizes d) (Some a) → AreLow (there sizes d) → OpensOf sizes a r → ReadsTo sizes r
    → IfOk r (λ x. IsNewestRead (there sizes d) d x.0)
newest_of sizes d a (Ok x) newest low o to = newest_read sizes d x.0 to.pair (subst (λ (b : Anchor). Newest (there sizes d) (Some b)) (sym o.0) newest) low
newest_of sizes d a (Err fault) newest low o to = tt

-- an anchor that was read is low, and on line where it is not being restored
pub online : (sizes : ℕ → ℕ) (bytes : List ℕ) (a : Anchor) (c : Config) → IsSpelled bytes → ((gate : ℕ) (b : Anchor) → IsAnchor b → bytes ≡ anchor_bytes gate b → a ≡ b) → (a.state ≡ 2 → ⊥)
    → config_in_text a.text ≡ Ok c → a.text ≡ config_text c → IsConfig c → AreLarge sizes c (chunks_of c) → IsAnchor a → IsOnline sizes a c
online sizes bytes a c (b, is, spelled, low) only other read text config large anchor =
    record {
      anchor = anchor;
      low = subst (λ (x : Anchor). is_low x ≡ true) (sym (only 1 b is spelled)) low;
      state = ⊎_elim (λ one. one) (λ two. absurd (other two)) anchor.state;
      read = read;
      text = text;
      config = config;
      large = large;
      pair = pair_there sizes c config large;
    }
