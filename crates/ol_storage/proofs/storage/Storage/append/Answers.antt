use Rattle.std.specs.Prelude.{Err, false, ℕ, ◌+◌, ◌<◌, ◌≡◌}
use Rattle.std.proofs.Common.{ap, arith, subst, sym, ◌∙◌}
use Rattle.ol_values.specs.Config.{Config}
use Rattle.ol_chunks.specs.Places.{log_area}
use Rattle.ol_ports.specs.Causes.{HasChunkCause}
use Rattle.ol_ports.specs.Stops.{Stops}
use Rattle.ol_loglog.specs.RingValue.{HasRoom, logged_state}
use Rattle.ol_storage.specs.Behind.{Behind, TouchesNone, with_record}
use Rattle.ol_storage.specs.Causes.{HasStorageCause}
use Rattle.ol_storage.specs.Installation.{HasAll, Held, Installation, config_of, flushed_of, last_of}
use Rattle.ol_storage.specs.Standing.{StandsFrom}
use Rattle.ol_storage.specs.Storing.{IsStored}
use Rattle.ol_storage.specs.declared.storage.StorageFault.TheVariants.{Failed}
use Rattle.ol_storage.proofs.Causes.{log_failed}
use Rattle.ol_storage.proofs.Images.{Known}
use Rattle.ol_storage.proofs.LogSteps.{append_result, log_going, logged_goes, ring_stops}
use Rattle.ol_storage.proofs.storage.Storage.append.Goals as goal

pub invariant_of-self : goal.invariant_of-self
invariant_of-self g c =
    let v : Installation = record { ring = c.self.inside.ring; store = c.self.inside.store; anchor = c.self.inside.anchor; reached = c.self.inside.reached; stopped = c.self.inside.stopped } in
    let stopped : c.self.inside.stopped ≡ false = ap (λ (h : Held _). h.now.stopped) c.self.view_is ∙ c.requires.going in
    let going = c.self.invariant.going stopped in
    let goes = logged_goes c.args.rec.now c.self.inside.ring.state c.reusable.ensures.limits.limits.first in
    let below : c.self.inside.reached + 1 < c.self.inside.ring.state.next + 1 = omega (arith, going.reached) in
    record {
      disk = subst (λ (sizes : ℕ → ℕ). HasAll c.append.new.self.config sizes) (sym c.in-Ok.ensures.sizes) (subst (λ (x : Config). HasAll x (g.D.Disk.sizes c.self.inside.disk)) (sym c.in-Ok.ensures.fixed) c.self.invariant.disk);
      going = λ going_on. log_going v c.append.new.self (logged_state c.args.rec.now c.self.inside.ring.state) 1 (c.self.inside.reached + 1) goes c.in-Ok.ensures.fixed c.in-Ok.ensures.step below going;
      stamps = λ going_on. rw c.in-Ok.ensures.step (omega (arith, goes.next, c.self.invariant.stamps stopped));
    }

pub returns-in-Ok-clause-stops : goal.returns-in-Ok-clause-stops
returns-in-Ok-clause-stops g c =
    let v : Installation = record { ring = c.self.inside.ring; store = c.self.inside.store; anchor = c.self.inside.anchor; reached = c.self.inside.reached; stopped = c.self.inside.stopped } in
    let stopped : c.self.inside.stopped ≡ false = ap (λ (h : Held _). h.now.stopped) c.self.view_is ∙ c.requires.going in
    let known : Known v = record { going = c.self.invariant.going stopped; ring = c.reusable.ensures.limits; area = c.spare.ensures.store.area } in
    let room = subst (λ (h : Held _). HasRoom h.now.ring.config h.now.ring.state) (sym c.self.view_is) c.requires.room in
    subst (λ (h : Held _). g.D.Disk.tells → (b : Behind) → IsStored (g.D.Disk.past h.disk) h.now b → Stops (g.D.Disk.past h.disk) (g.D.Disk.past c.append.new.disk) (StandsFrom (config_of h.now) b h.now.anchor (flushed_of h.now) (last_of h.now))) c.self.view_is
    (λ tells b is. ring_stops (g.D.Disk.past c.self.inside.disk) (g.D.Disk.past c.append.new.disk) v b known room is (c.append.ensures.frame tells) (λ r floor j ready free. c.append.ensures.stops tells r floor j ready free))

pub returns-in-Ok-clause-stored : goal.returns-in-Ok-clause-stored
returns-in-Ok-clause-stored g c =
    let v : Installation = record { ring = c.self.inside.ring; store = c.self.inside.store; anchor = c.self.inside.anchor; reached = c.self.inside.reached; stopped = c.self.inside.stopped } in
    let stopped : c.self.inside.stopped ≡ false = ap (λ (h : Held _). h.now.stopped) c.self.view_is ∙ c.requires.going in
    let known : Known v = record { going = c.self.invariant.going stopped; ring = c.reusable.ensures.limits; area = c.spare.ensures.store.area } in
    let room = subst (λ (h : Held _). HasRoom h.now.ring.config h.now.ring.state) (sym c.self.view_is) c.requires.room in
    let at_end = subst (λ (h : Held _). h.now.reached + 1 ≡ h.now.ring.state.next) (sym c.self.view_is) c.requires.at_end in
    subst (λ (h : Held _). g.D.Disk.tells → (b : Behind) → IsStored (g.D.Disk.past h.disk) h.now b → TouchesNone (config_of h.now) h.now.anchor c.args.rec.now
    → IsStored (g.D.Disk.past c.append.new.disk) (record { ring = c.append.new.self; store = c.self.inside.store; anchor = c.self.inside.anchor; reached = c.self.inside.reached + 1; stopped = c.self.inside.stopped }) (with_record c.args.rec.now b)) c.self.view_is
    (λ tells b is none. append_result (g.D.Disk.past c.self.inside.disk) (g.D.Disk.past c.append.new.disk) v c.append.new.self b c.args.rec.now known room c.in-Ok.ensures.fixed c.in-Ok.ensures.step at_end is none
    (c.append.ensures.frame tells).behind (c.in-Ok.ensures.reads tells) c.in-Ok.ensures.order (λ r floor j ready free behind. c.in-Ok.ensures.ok tells r floor j ready free behind))

pub returns-in-Err-clause-stops : goal.returns-in-Err-clause-stops
returns-in-Err-clause-stops g c =
    let v : Installation = record { ring = c.self.inside.ring; store = c.self.inside.store; anchor = c.self.inside.anchor; reached = c.self.inside.reached; stopped = c.self.inside.stopped } in
    let stopped : c.self.inside.stopped ≡ false = ap (λ (h : Held _). h.now.stopped) c.self.view_is ∙ c.requires.going in
    let known : Known v = record { going = c.self.invariant.going stopped; ring = c.reusable.ensures.limits; area = c.spare.ensures.store.area } in
    let room = subst (λ (h : Held _). HasRoom h.now.ring.config h.now.ring.state) (sym c.self.view_is) c.requires.room in
    subst (λ (h : Held _). g.D.Disk.tells → (b : Behind) → IsStored (g.D.Disk.past h.disk) h.now b → Stops (g.D.Disk.past h.disk) (g.D.Disk.past c.append.new.disk) (StandsFrom (config_of h.now) b h.now.anchor (flushed_of h.now) (last_of h.now))) c.self.view_is
    (λ tells b is. ring_stops (g.D.Disk.past c.self.inside.disk) (g.D.Disk.past c.append.new.disk) v b known room is (c.append.ensures.frame tells) (λ r floor j ready free. c.append.ensures.stops tells r floor j ready free))

pub returns-in-Err-clause-cause : goal.returns-in-Err-clause-cause
returns-in-Err-clause-cause g c =
    subst (λ (h : Held _). HasStorageCause (config_of h.now) (g.D.Disk.fault_counts h.disk) (g.D.Disk.fault_counts c.append.new.disk) (Err Failed)) c.self.view_is
    (log_failed c.self.inside.ring.config c.reusable.ensures.limits.config (g.D.Disk.fault_counts c.self.inside.disk) (g.D.Disk.fault_counts c.append.new.disk) _ (subst (λ r. HasChunkCause (log_area c.self.inside.ring.config).chunk (g.D.Disk.fault_counts c.self.inside.disk) (g.D.Disk.fault_counts c.append.new.disk) r) c.in-Err.is c.append.ensures.cause))
