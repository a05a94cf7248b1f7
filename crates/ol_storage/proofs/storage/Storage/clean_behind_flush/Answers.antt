use Rattle.std.specs.Prelude.{false, ◌≡◌}
use Rattle.std.proofs.Common.{ap, refl, subst, sym, ◌∙◌}
use Rattle.ol_values.specs.Config.{Config}
use Rattle.ol_ports.proofs.StopLaws.{stops_both, stops_weaker}
use Rattle.ol_storage.proofs.RedoCalls.{store_stored}
use Rattle.ol_ports.specs.Frames.{FramedIn}
use Rattle.ol_ports.specs.Stops.{Stops}
use Rattle.ol_store.specs.Holding.{in_store}
use Rattle.ol_storage.specs.Behind.{pages_of}
use Rattle.ol_store.specs.Stores.{AreFlushed, Store}
use Rattle.ol_data_pages.specs.Places.{HasSpaceCause}
use Rattle.ol_storage.specs.Installation.{Held, Installation, config_of, flushed_of, last_of, with_store}
use Rattle.ol_storage.specs.Standing.{StandsFrom}
use Rattle.ol_storage.specs.Storing.{IsStored}
use Rattle.ol_storage.proofs.ChangeCalls.{IsAlike, rest_beside, store_call_stops}
use Rattle.ol_storage.proofs.Images.{Known}
use Rattle.ol_storage.proofs.LogSteps.{rest_of}
use Rattle.ol_storage.proofs.RedoCalls.{cleaned_alike, first_flushed, flushed_wider, space_failed}
use Rattle.ol_storage.proofs.storage.Storage.clean_behind_flush.Goals as goal

pub clean_one-requires-clause-flushed : goal.clean_one-requires-clause-flushed
clean_one-requires-clause-flushed g c =
    first_flushed c.self.inside.store (subst (λ (h : Held _). AreFlushed h.now.store) (sym c.self.view_is) c.in-Ok.ensures.ahead) c.self.inside.store.pool.dirty refl

pub returns-in-Ok-clean_one-clause-stops : goal.returns-in-Ok-clean_one-clause-stops
returns-in-Ok-clean_one-clause-stops g c tells b is =
    let v : Installation = record { ring = c.self.inside.ring; store = c.self.inside.store; anchor = c.self.inside.anchor; reached = c.self.inside.reached; stopped = c.self.inside.stopped } in
    let here : v ≡ c.flush.new.self.now = ap (λ (h : Held _). h.now) c.self.view_is in
    let stopped : c.self.inside.stopped ≡ false = ap (λ (x : Installation). x.stopped) (here ∙ c.in-Ok.ensures.step) ∙ c.requires.going in
    let known : Known v = record { going = c.self.invariant.going stopped; ring = c.reusable.ensures.limits; area = c.spare.ensures.store.area } in
    let held = subst (λ (h : Held _). IsStored (g.D.Disk.past h.disk) h.now b) (sym c.self.view_is) (c.in-Ok.ensures.stored tells b is) in
    let begun = subst (λ (h : Held _). Stops (g.D.Disk.past c.args.self.now.disk) (g.D.Disk.past h.disk) (StandsFrom (config_of c.args.self.now.now) b c.args.self.now.now.anchor (flushed_of c.args.self.now.now) (last_of c.args.self.now.now))) (sym c.self.view_is) (c.in-Ok.ensures.stops tells b is) in
    stops_both _ (g.D.Disk.past c.self.inside.disk) _ _ begun
    (stops_weaker _ _ _ _ (λ d s. flushed_wider c.args.self.now.now v c.flush.new.self.now.ring.gates b d (here ∙ c.in-Ok.ensures.step) s)
    (store_call_stops (g.D.Disk.past c.self.inside.disk) (g.D.Disk.past c.clean_one.new.disk) v b known (rest_of _ v b held) (c.clean_one.ensures.frame tells) (c.clean_one.ensures.stops tells (pages_of c.self.inside.anchor b) held.pages.on_disk)))

pub returns-in-Err-clean_one-clause-stops : goal.returns-in-Err-clean_one-clause-stops
returns-in-Err-clean_one-clause-stops g c tells b is =
    let v : Installation = record { ring = c.self.inside.ring; store = c.self.inside.store; anchor = c.self.inside.anchor; reached = c.self.inside.reached; stopped = c.self.inside.stopped } in
    let here : v ≡ c.flush.new.self.now = ap (λ (h : Held _). h.now) c.self.view_is in
    let stopped : c.self.inside.stopped ≡ false = ap (λ (x : Installation). x.stopped) (here ∙ c.in-Ok.ensures.step) ∙ c.requires.going in
    let known : Known v = record { going = c.self.invariant.going stopped; ring = c.reusable.ensures.limits; area = c.spare.ensures.store.area } in
    let held = subst (λ (h : Held _). IsStored (g.D.Disk.past h.disk) h.now b) (sym c.self.view_is) (c.in-Ok.ensures.stored tells b is) in
    let begun = subst (λ (h : Held _). Stops (g.D.Disk.past c.args.self.now.disk) (g.D.Disk.past h.disk) (StandsFrom (config_of c.args.self.now.now) b c.args.self.now.now.anchor (flushed_of c.args.self.now.now) (last_of c.args.self.now.now))) (sym c.self.view_is) (c.in-Ok.ensures.stops tells b is) in
    stops_both _ (g.D.Disk.past c.self.inside.disk) _ _ begun
    (stops_weaker _ _ _ _ (λ d s. flushed_wider c.args.self.now.now v c.flush.new.self.now.ring.gates b d (here ∙ c.in-Ok.ensures.step) s)
    (store_call_stops (g.D.Disk.past c.self.inside.disk) (g.D.Disk.past c.clean_one.new.disk) v b known (rest_of _ v b held) (c.clean_one.ensures.frame tells) (c.clean_one.ensures.stops tells (pages_of c.self.inside.anchor b) held.pages.on_disk)))

pub returns-in-Ok-clean_one-clause-stored : goal.returns-in-Ok-clean_one-clause-stored
returns-in-Ok-clean_one-clause-stored g c tells b is =
    let v : Installation = record { ring = c.self.inside.ring; store = c.self.inside.store; anchor = c.self.inside.anchor; reached = c.self.inside.reached; stopped = c.self.inside.stopped } in
    let here : v ≡ c.flush.new.self.now = ap (λ (h : Held _). h.now) c.self.view_is in
    let stopped : c.self.inside.stopped ≡ false = ap (λ (x : Installation). x.stopped) (here ∙ c.in-Ok.ensures.step) ∙ c.requires.going in
    let known : Known v = record { going = c.self.invariant.going stopped; ring = c.reusable.ensures.limits; area = c.spare.ensures.store.area } in
    let held = subst (λ (h : Held _). IsStored (g.D.Disk.past h.disk) h.now b) (sym c.self.view_is) (c.in-Ok.ensures.stored tells b is) in
    let alike = subst (λ (s : Store). IsAlike c.self.inside.store s) (sym c.in-Ok-clean_one.ensures.value) (cleaned_alike c.self.inside.store c.in-Ok-clean_one.place) in
    let rest = rest_beside (g.D.Disk.past c.self.inside.disk) (g.D.Disk.past c.clean_one.new.disk) v c.clean_one.new.self b known (rest_of _ v b held) (λ d left. subst (λ (x : Config). FramedIn (g.D.Disk.past c.self.inside.disk) (in_store x) d) known.going.config ((c.clean_one.ensures.frame tells).behind d left)) in
    store_stored (g.D.Disk.past c.clean_one.new.disk) (with_store v c.clean_one.new.self) b rest (c.in-Ok-clean_one.ensures.stored tells (pages_of c.self.inside.anchor b) held.pages.on_disk) (c.in-Ok-clean_one.ensures.logged tells (pages_of c.self.inside.anchor b) held.pages.on_disk held.pages.flushed)

pub returns-in-Err-clean_one-clause-cause : goal.returns-in-Err-clean_one-clause-cause
returns-in-Err-clean_one-clause-cause g c =
    let v : Installation = record { ring = c.self.inside.ring; store = c.self.inside.store; anchor = c.self.inside.anchor; reached = c.self.inside.reached; stopped = c.self.inside.stopped } in
    let here : v ≡ c.flush.new.self.now = ap (λ (h : Held _). h.now) c.self.view_is in
    let stopped : c.self.inside.stopped ≡ false = ap (λ (x : Installation). x.stopped) (here ∙ c.in-Ok.ensures.step) ∙ c.requires.going in
    let known : Known v = record { going = c.self.invariant.going stopped; ring = c.reusable.ensures.limits; area = c.spare.ensures.store.area } in
    let config : c.self.inside.store.config ≡ config_of c.args.self.now.now = known.going.config ∙ ap (λ (x : Installation). config_of x) (here ∙ c.in-Ok.ensures.step) in
    let same = ap (λ (h : Held _). g.D.Disk.fault_counts h.disk) c.self.view_is ∙ c.in-Ok.ensures.cause.kept (λ clash. cc) in
    space_failed c.self.inside.store.config (config_of c.args.self.now.now) config (g.D.Disk.fault_counts c.args.self.now.disk) (g.D.Disk.fault_counts c.self.inside.disk) (g.D.Disk.fault_counts c.clean_one.new.disk) same _
    (subst (λ r. HasSpaceCause c.self.inside.store.config (g.D.Disk.fault_counts c.self.inside.disk) (g.D.Disk.fault_counts c.clean_one.new.disk) r) c.in-Err-clean_one.is c.clean_one.ensures.cause)
