-- What one volume more and one block more do to the stream of a drive and to its capacity.
use Rattle.std.proofs.Common.{◌≡◌, ◌<◌, ◌≤◌, ℕ, List, [], ◌∷◌, ◌++◌, Option, Some, None, Bool, refl, inl, inr, ⊎_elim, sym, ◌∙◌, ap, arith, append_assoc}
use Rattle.std.proofs.lemmas.List.{append-nil}
use Rattle.std.specs.Option.{option_map}
use Rattle.ol_ports.specs.Drive.{Tape, blocks_in_order, stream_of, capacity, append_last, with_block, Writes}
use Rattle.ol_ports.specs.Causes.{Rose}
use Rattle.ol_ports.specs.declared.drive.Wrote.TheVariants.{Done, Failed as WriteFailed}
use Rattle.ol_volume.specs.Written.{Written, and_block, Puts, IsTapeFault}
use Rattle.ol_volume.specs.Mounting.{IsMountedWhereTold}

-- how far a put has come: no block was put, and the drive takes as many as before
pub record IsUnderWay (old : Written) (tape : Tape) (count drive : ℕ) (mounted : Bool) : Type 0 where
  pub stream : stream_of tape ≡ stream_of old.tape
  pub synced : tape.synced ≡ old.tape.synced
  pub room : capacity tape ≡ capacity old.tape
  pub faults : count ≡ old.faults
  pub number : drive ≡ old.number
  pub ready : IsMountedWhereTold tape mounted
  pub on : old.tape.mounted ≤ tape.mounted
  pub later : old.tape.room ≡ 0 → 0 < tape.room → old.tape.mounted < tape.mounted

-- a block more on the last volume stands at the end of the stream
stream-append_last : (volumes : List (List (List ℕ))) (block : List ℕ) → blocks_in_order (append_last volumes block) ≡ blocks_in_order volumes ++ block ∷ []
stream-append_last [] block = refl
stream-append_last (v ∷ []) block = simp append-nil
stream-append_last (v ∷ w ∷ volumes) block = ap (λ s. v ++ s) (stream-append_last (w ∷ volumes) block) ∙ sym (append_assoc v (blocks_in_order (w ∷ volumes)) (block ∷ []))

-- the same of a drive's stream, where it tells
stream-with_block : (block : List ℕ) (t : Tape) → stream_of (with_block block t) ≡ and_block (stream_of t) block
stream-with_block block t = known t.volumes
  where
    known : (volumes : Option (List (List (List ℕ)))) → option_map blocks_in_order (option_map (λ v. append_last v block) volumes) ≡ and_block (option_map blocks_in_order volumes) block
    known None = refl
    known (Some v) = ap Some (stream-append_last v block)

-- a block was put at the end of a put that was under way
pub puts_block : (old : Written) (block : List ℕ) (before after : Tape) (count now drive : ℕ) (mounted : Bool) → IsUnderWay old before count drive mounted
    → Writes before block Done after → now ≡ count → Puts old block (record { tape = after; faults = now; number = drive })
puts_block old block before after count now drive mounted way wrote calm = record {
  fresh = λ full. rw wrote.1 (way.later full wrote.0);
  stream = ap stream_of wrote.1 ∙ stream-with_block block before ∙ ap (λ s. and_block s block) way.stream;
  synced = ap (λ t. t.synced) wrote.1 ∙ way.synced;
  room = rw wrote.1 (omega (arith, way.room, wrote.0));
  faults = calm ∙ way.faults;
  number = way.number;
}

-- the block of a failed write stands there whole or not at all
pub faults_at_write : (old : Written) (block : List ℕ) (before after : Tape) (count now drive : ℕ) (mounted : Bool) → IsUnderWay old before count drive mounted
    → Writes before block WriteFailed after → Rose count now → IsTapeFault old block (record { tape = after; faults = now; number = drive }) drive now
faults_at_write old block before after count now drive mounted way wrote rose = record {
  drive_is = way.number;
  count_is = refl;
  cause = rw (← way.faults) rose;
  room = ⊎_elim (λ e. ap (λ t. t.room) e) (λ e. ap (λ t. t.room) e) wrote.1;
  stream = ⊎_elim (λ e. inl (ap stream_of e ∙ way.stream)) (λ e. inr (ap stream_of e ∙ stream-with_block block before ∙ ap (λ s. and_block s block) way.stream)) wrote.1;
  synced = ⊎_elim (λ e. ap (λ t. t.synced) e ∙ way.synced) (λ e. ap (λ t. t.synced) e ∙ way.synced) wrote.1;
  number = way.number;
}
