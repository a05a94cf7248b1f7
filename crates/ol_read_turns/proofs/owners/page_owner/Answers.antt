use Rattle.std.specs.Prelude.{Option, ℕ, ◌≡◌}
use Rattle.std.proofs.Common.{ap, arith, sym, ◌∙◌}
use Rattle.ol_txn.specs.Seats.{table_of}
use Rattle.ol_read_turns.specs.PageSlots.{lesser, page_owner}
use Rattle.ol_read_turns.proofs.PageOwners.{owner_more, owner_none}
use Rattle.ol_read_turns.proofs.owners.page_owner.Goals as goal

pub loop-slot-init : goal.loop-slot-init
loop-slot-init c = sym (owner_none (table_of c.args.locks.now) c.args.session c.args.space c.args.page)

pub loop-slot-preserved : goal.loop-slot-preserved
loop-slot-preserved c =
    let table = table_of c.args.locks.now in
    c.lesser-least.ensures
    ∙ ap (λ (o : Option ℕ). lesser o c.holder.result) c.loop-slot.invariant
    ∙ ap (λ (o : Option ℕ). lesser (page_owner table c.args.session c.args.space c.args.page c.loop-slot.slot) o) c.holder.ensures
    ∙ sym (owner_more table c.args.session c.args.space c.args.page c.loop-slot.slot)

pub returns : goal.returns
returns c =
    let last : c.loop-slot.slot ≡ 31 = omega arith in
    c.loop-slot.invariant ∙ ap (λ n. page_owner (table_of c.args.locks.now) c.args.session c.args.space c.args.page n) last
