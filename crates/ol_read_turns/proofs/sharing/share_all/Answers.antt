use Rattle.std.specs.Prelude.{ℕ, ◌==◌}
use Rattle.std.proofs.Common.{ap}
use Rattle.std.proofs.lemmas.Nat.Bits.{shr_and_one}
use Rattle.ol_read_turns.specs.PageSlots.{is_set}
use Rattle.ol_read_turns.proofs.PageSharings.{shared_first, shared_step}
use Rattle.ol_read_turns.proofs.sharing.share_all.Goals as goal

pub loop-slot-init : goal.loop-slot-init
loop-slot-init c = shared_first c.args.locks.now c.args.session c.args.space c.args.page (is_set c.args.bits) c.requires.open c.requires.alone c.requires.places

pub loop-slot-preserved : goal.loop-slot-preserved
loop-slot-preserved c =
    shared_step c.args.locks.now c.loop-slot.locks c.share_if.new.locks c.args.session c.args.space c.args.page c.loop-slot.slot (is_set c.args.bits) _ c.share_if.ensures.sessions c.requires.session
    (ap (λ (k : ℕ). k == 1) (shr_and_one c.args.bits c.loop-slot.slot)) c.share_if.ensures.shared c.loop-slot.invariant
