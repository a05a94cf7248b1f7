use Rattle.std.specs.Prelude.{false, ◌≡◌}
use Rattle.std.proofs.Common.{ap, subst, sym, ◌∙◌}
use Rattle.ol_values.specs.Config.{Config}
use Rattle.ol_storage.proofs.RedoCalls.{store_stored}
use Rattle.ol_ports.specs.Frames.{FramedIn}
use Rattle.ol_ports.specs.Stops.{Stops}
use Rattle.ol_store.specs.Holding.{in_store}
use Rattle.ol_storage.specs.Behind.{Behind, pages_of}
use Rattle.ol_store.specs.Stores.{AreFlushed, Store}
use Rattle.ol_data_pages.specs.Places.{HasSpaceCause}
use Rattle.ol_storage.specs.Installation.{Held, Installation, config_of, flushed_of, last_of, with_store}
use Rattle.ol_storage.specs.Standing.{StandsFrom}
use Rattle.ol_storage.specs.Storing.{IsStored}
use Rattle.ol_storage.proofs.ChangeCalls.{IsAlike, rest_beside, store_call_stops}
use Rattle.ol_storage.proofs.Images.{Known}
use Rattle.ol_storage.proofs.LogSteps.{rest_of}
use Rattle.ol_storage.proofs.RedoCalls.{checkpointed_alike, space_failed}
use Rattle.ol_storage.proofs.storage.Storage.write_pages.Goals as goal

pub checkpoint-requires-clause-flushed : goal.checkpoint-requires-clause-flushed
checkpoint-requires-clause-flushed g c = subst (λ (h : Held _). AreFlushed h.now.store) (sym c.self.view_is) c.requires.ahead

pub returns-in-Ok-clause-stops : goal.returns-in-Ok-clause-stops
returns-in-Ok-clause-stops g c =
    let v : Installation = record { ring = c.self.inside.ring; store = c.self.inside.store; anchor = c.self.inside.anchor; reached = c.self.inside.reached; stopped = c.self.inside.stopped } in
    let stopped : c.self.inside.stopped ≡ false = ap (λ (h : Held _). h.now.stopped) c.self.view_is ∙ c.requires.going in
    let known : Known v = record { going = c.self.invariant.going stopped; ring = c.reusable.ensures.limits; area = c.spare.ensures.store.area } in
    subst (λ (h : Held _). g.D.Disk.tells → (b : Behind) → IsStored (g.D.Disk.past h.disk) h.now b → Stops (g.D.Disk.past h.disk) (g.D.Disk.past c.checkpoint.new.disk) (StandsFrom (config_of h.now) b h.now.anchor (flushed_of h.now) (last_of h.now))) c.self.view_is
    (λ tells b is. store_call_stops (g.D.Disk.past c.self.inside.disk) (g.D.Disk.past c.checkpoint.new.disk) v b known (rest_of _ v b is) (c.checkpoint.ensures.frame tells) (c.checkpoint.ensures.stops tells (pages_of c.self.inside.anchor b) is.pages.on_disk))

pub returns-in-Err-clause-stops : goal.returns-in-Err-clause-stops
returns-in-Err-clause-stops g c =
    let v : Installation = record { ring = c.self.inside.ring; store = c.self.inside.store; anchor = c.self.inside.anchor; reached = c.self.inside.reached; stopped = c.self.inside.stopped } in
    let stopped : c.self.inside.stopped ≡ false = ap (λ (h : Held _). h.now.stopped) c.self.view_is ∙ c.requires.going in
    let known : Known v = record { going = c.self.invariant.going stopped; ring = c.reusable.ensures.limits; area = c.spare.ensures.store.area } in
    subst (λ (h : Held _). g.D.Disk.tells → (b : Behind) → IsStored (g.D.Disk.past h.disk) h.now b → Stops (g.D.Disk.past h.disk) (g.D.Disk.past c.checkpoint.new.disk) (StandsFrom (config_of h.now) b h.now.anchor (flushed_of h.now) (last_of h.now))) c.self.view_is
    (λ tells b is. store_call_stops (g.D.Disk.past c.self.inside.disk) (g.D.Disk.past c.checkpoint.new.disk) v b known (rest_of _ v b is) (c.checkpoint.ensures.frame tells) (c.checkpoint.ensures.stops tells (pages_of c.self.inside.anchor b) is.pages.on_disk))

pub returns-in-Ok-clause-stored : goal.returns-in-Ok-clause-stored
returns-in-Ok-clause-stored g c =
    let v : Installation = record { ring = c.self.inside.ring; store = c.self.inside.store; anchor = c.self.inside.anchor; reached = c.self.inside.reached; stopped = c.self.inside.stopped } in
    let stopped : c.self.inside.stopped ≡ false = ap (λ (h : Held _). h.now.stopped) c.self.view_is ∙ c.requires.going in
    let known : Known v = record { going = c.self.invariant.going stopped; ring = c.reusable.ensures.limits; area = c.spare.ensures.store.area } in
    let alike = subst (λ (s : Store). IsAlike c.self.inside.store s) (sym c.in-Ok.ensures.value) (checkpointed_alike c.self.inside.store) in
    subst (λ (h : Held _). g.D.Disk.tells → (b : Behind) → IsStored (g.D.Disk.past h.disk) h.now b → IsStored (g.D.Disk.past c.checkpoint.new.disk) (record { ring = c.self.inside.ring; store = c.checkpoint.new.self; anchor = c.self.inside.anchor; reached = c.self.inside.reached; stopped = c.self.inside.stopped }) b) c.self.view_is (λ tells b is.
    let rest = rest_beside (g.D.Disk.past c.self.inside.disk) (g.D.Disk.past c.checkpoint.new.disk) v c.checkpoint.new.self b known (rest_of _ v b is) (λ d left. subst (λ (x : Config). FramedIn (g.D.Disk.past c.self.inside.disk) (in_store x) d) known.going.config ((c.checkpoint.ensures.frame tells).behind d left)) in
    store_stored (g.D.Disk.past c.checkpoint.new.disk) (with_store v c.checkpoint.new.self) b rest (c.in-Ok.ensures.stored tells (pages_of c.self.inside.anchor b) is.pages.on_disk) (c.in-Ok.ensures.logged tells (pages_of c.self.inside.anchor b) is.pages.on_disk is.pages.flushed))

pub returns-in-Err-clause-cause : goal.returns-in-Err-clause-cause
returns-in-Err-clause-cause g c =
    let v : Installation = record { ring = c.self.inside.ring; store = c.self.inside.store; anchor = c.self.inside.anchor; reached = c.self.inside.reached; stopped = c.self.inside.stopped } in
    let stopped : c.self.inside.stopped ≡ false = ap (λ (h : Held _). h.now.stopped) c.self.view_is ∙ c.requires.going in
    let known : Known v = record { going = c.self.invariant.going stopped; ring = c.reusable.ensures.limits; area = c.spare.ensures.store.area } in
    let config : c.self.inside.store.config ≡ config_of c.args.self.now.now = known.going.config ∙ ap (λ (h : Held _). config_of h.now) c.self.view_is in
    space_failed c.self.inside.store.config (config_of c.args.self.now.now) config (g.D.Disk.fault_counts c.args.self.now.disk) (g.D.Disk.fault_counts c.self.inside.disk) (g.D.Disk.fault_counts c.checkpoint.new.disk) (ap (λ (h : Held _). g.D.Disk.fault_counts h.disk) c.self.view_is) _
    (subst (λ r. HasSpaceCause c.self.inside.store.config (g.D.Disk.fault_counts c.self.inside.disk) (g.D.Disk.fault_counts c.checkpoint.new.disk) r) c.in-Err.is c.checkpoint.ensures.cause)
