use Rattle.std.specs.Prelude.{Err, false, ℕ, ◌-◌, ◌≡◌}
use Rattle.std.proofs.Common.{ap, arith, subst, sym, ◌∙◌}
use Rattle.ol_values.specs.Config.{Config}
use Rattle.ol_chunks.specs.Places.{log_area}
use Rattle.ol_ports.specs.Causes.{HasChunkCause}
use Rattle.ol_ports.specs.Stops.{Stops}
use Rattle.ol_loglog.specs.RingValue.{HasRoom}
use Rattle.ol_storage.specs.Behind.{Behind}
use Rattle.ol_storage.specs.Causes.{HasStorageCause}
use Rattle.ol_storage.specs.Installation.{HasAll, Held, Installation, config_of, flushed_of, last_of}
use Rattle.ol_storage.specs.Standing.{StandsFrom}
use Rattle.ol_storage.specs.Storing.{IsStored}
use Rattle.ol_storage.specs.declared.storage.StorageFault.TheVariants.{Failed}
use Rattle.ol_store.specs.Stores.{Store, with_flushed}
use Rattle.ol_storage.proofs.Causes.{log_failed}
use Rattle.ol_storage.proofs.Images.{Known}
use Rattle.ol_storage.proofs.LogSteps.{flush_going, flush_next, flush_result, ring_stops}
use Rattle.ol_storage.proofs.storage.Storage.flush.Goals as goal

pub invariant_of-self : goal.invariant_of-self
invariant_of-self g c =
    let v : Installation = record { ring = c.self.inside.ring; store = c.self.inside.store; anchor = c.self.inside.anchor; reached = c.self.inside.reached; stopped = c.self.inside.stopped } in
    let stopped : c.self.inside.stopped ≡ false = ap (λ (h : Held _). h.now.stopped) c.self.view_is ∙ c.requires.going in
    let next : c.next_position-last.result ≡ c.self.inside.ring.state.next = flush_next c.self.inside.ring.state c.flush.new.self.state c.next_position-last.result c.reusable.ensures.limits.limits.first c.in-Ok.ensures.step c.next_position-last.ensures.value in
    let store : c.flushed_to.new.self ≡ with_flushed c.self.inside.store (last_of v) = c.flushed_to.ensures.value ∙ ap (λ (n : ℕ). with_flushed c.self.inside.store (n - 1)) next in
    record {
      disk = subst (λ (sizes : ℕ → ℕ). HasAll c.flush.new.self.config sizes) (sym c.in-Ok.ensures.sizes) (subst (λ (x : Config). HasAll x (g.D.Disk.sizes c.self.inside.disk)) (sym c.in-Ok.ensures.fixed) c.self.invariant.disk);
      going = λ going_on. flush_going v c.flush.new.self c.flushed_to.new.self c.reusable.ensures.limits.limits.first c.in-Ok.ensures.fixed c.in-Ok.ensures.step store (c.self.invariant.going stopped);
      stamps = λ going_on. let last : c.flushed_to.new.self.last ≡ c.self.inside.store.last = ap (λ (s : Store). s.last) store in omega (arith, last, c.next_position-last.ensures.value, next, c.self.invariant.stamps stopped);
    }

pub returns-in-Ok-clause-stops : goal.returns-in-Ok-clause-stops
returns-in-Ok-clause-stops g c =
    let v : Installation = record { ring = c.self.inside.ring; store = c.self.inside.store; anchor = c.self.inside.anchor; reached = c.self.inside.reached; stopped = c.self.inside.stopped } in
    let stopped : c.self.inside.stopped ≡ false = ap (λ (h : Held _). h.now.stopped) c.self.view_is ∙ c.requires.going in
    let known : Known v = record { going = c.self.invariant.going stopped; ring = c.reusable.ensures.limits; area = c.spare.ensures.store.area } in
    let room = subst (λ (h : Held _). HasRoom h.now.ring.config h.now.ring.state) (sym c.self.view_is) c.requires.room in
    subst (λ (h : Held _). g.D.Disk.tells → (b : Behind) → IsStored (g.D.Disk.past h.disk) h.now b → Stops (g.D.Disk.past h.disk) (g.D.Disk.past c.flush.new.disk) (StandsFrom (config_of h.now) b h.now.anchor (flushed_of h.now) (last_of h.now))) c.self.view_is
    (λ tells b is. ring_stops (g.D.Disk.past c.self.inside.disk) (g.D.Disk.past c.flush.new.disk) v b known room is (c.flush.ensures.frame tells) (λ r floor j ready free. c.flush.ensures.stops tells r floor j ready free))

pub returns-in-Ok-clause-stored : goal.returns-in-Ok-clause-stored
returns-in-Ok-clause-stored g c =
    let v : Installation = record { ring = c.self.inside.ring; store = c.self.inside.store; anchor = c.self.inside.anchor; reached = c.self.inside.reached; stopped = c.self.inside.stopped } in
    let stopped : c.self.inside.stopped ≡ false = ap (λ (h : Held _). h.now.stopped) c.self.view_is ∙ c.requires.going in
    let known : Known v = record { going = c.self.invariant.going stopped; ring = c.reusable.ensures.limits; area = c.spare.ensures.store.area } in
    let room = subst (λ (h : Held _). HasRoom h.now.ring.config h.now.ring.state) (sym c.self.view_is) c.requires.room in
    let next : c.next_position-last.result ≡ c.self.inside.ring.state.next = flush_next c.self.inside.ring.state c.flush.new.self.state c.next_position-last.result c.reusable.ensures.limits.limits.first c.in-Ok.ensures.step c.next_position-last.ensures.value in
    let store : c.flushed_to.new.self ≡ with_flushed c.self.inside.store (last_of v) = c.flushed_to.ensures.value ∙ ap (λ (n : ℕ). with_flushed c.self.inside.store (n - 1)) next in
    subst (λ (h : Held _). g.D.Disk.tells → (b : Behind) → IsStored (g.D.Disk.past h.disk) h.now b
    → IsStored (g.D.Disk.past c.flush.new.disk) (record { ring = c.flush.new.self; store = c.flushed_to.new.self; anchor = c.self.inside.anchor; reached = c.self.inside.reached; stopped = c.self.inside.stopped }) b) c.self.view_is
    (λ tells b is. flush_result (g.D.Disk.past c.self.inside.disk) (g.D.Disk.past c.flush.new.disk) v c.flush.new.self c.flushed_to.new.self b known room c.in-Ok.ensures.fixed c.in-Ok.ensures.step store is
    (c.flush.ensures.frame tells).behind (c.in-Ok.ensures.reads tells) c.in-Ok.ensures.order (λ r floor j ready free. c.in-Ok.ensures.ok tells r floor j ready free))

pub returns-in-Err-clause-stops : goal.returns-in-Err-clause-stops
returns-in-Err-clause-stops g c =
    let v : Installation = record { ring = c.self.inside.ring; store = c.self.inside.store; anchor = c.self.inside.anchor; reached = c.self.inside.reached; stopped = c.self.inside.stopped } in
    let stopped : c.self.inside.stopped ≡ false = ap (λ (h : Held _). h.now.stopped) c.self.view_is ∙ c.requires.going in
    let known : Known v = record { going = c.self.invariant.going stopped; ring = c.reusable.ensures.limits; area = c.spare.ensures.store.area } in
    let room = subst (λ (h : Held _). HasRoom h.now.ring.config h.now.ring.state) (sym c.self.view_is) c.requires.room in
    subst (λ (h : Held _). g.D.Disk.tells → (b : Behind) → IsStored (g.D.Disk.past h.disk) h.now b → Stops (g.D.Disk.past h.disk) (g.D.Disk.past c.flush.new.disk) (StandsFrom (config_of h.now) b h.now.anchor (flushed_of h.now) (last_of h.now))) c.self.view_is
    (λ tells b is. ring_stops (g.D.Disk.past c.self.inside.disk) (g.D.Disk.past c.flush.new.disk) v b known room is (c.flush.ensures.frame tells) (λ r floor j ready free. c.flush.ensures.stops tells r floor j ready free))

pub returns-in-Err-clause-cause : goal.returns-in-Err-clause-cause
returns-in-Err-clause-cause g c =
    subst (λ (h : Held _). HasStorageCause (config_of h.now) (g.D.Disk.fault_counts h.disk) (g.D.Disk.fault_counts c.flush.new.disk) (Err Failed)) c.self.view_is
    (log_failed c.self.inside.ring.config c.reusable.ensures.limits.config (g.D.Disk.fault_counts c.self.inside.disk) (g.D.Disk.fault_counts c.flush.new.disk) _ (subst (λ r. HasChunkCause (log_area c.self.inside.ring.config).chunk (g.D.Disk.fault_counts c.self.inside.disk) (g.D.Disk.fault_counts c.flush.new.disk) r) c.in-Err.is c.flush.ensures.cause))

pub returns-in-Ok-clause-ahead : goal.returns-in-Ok-clause-ahead
returns-in-Ok-clause-ahead g c =
    let stopped : c.self.inside.stopped ≡ false = ap (λ (h : Held _). h.now.stopped) c.self.view_is ∙ c.requires.going in
    let next : c.next_position-last.result ≡ c.self.inside.ring.state.next = flush_next c.self.inside.ring.state c.flush.new.self.state c.next_position-last.result c.reusable.ensures.limits.limits.first c.in-Ok.ensures.step c.next_position-last.ensures.value in
    c.flushed_to.ensures.flushed (omega (arith, next, c.self.invariant.stamps stopped))
