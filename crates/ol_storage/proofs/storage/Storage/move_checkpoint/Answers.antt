use Rattle.std.specs.Prelude.{Some, Err, false, ℕ, ◌+◌, ◌<◌, ◌^◌, ◌≡◌, ◌≤◌, []}
use Rattle.std.proofs.Common.{ap, arith, inr, subst, sym, ◌∙◌}
use Rattle.ol_values.specs.Config.{Config}
use Rattle.ol_ports.proofs.StopLaws.{stops_both, stops_weaker}
use Rattle.ol_reserve.specs.Anchor.{IsAnchor}
use Rattle.ol_reserve.specs.Pair.{IsAbove, IsOneOf, IsReady}
use Rattle.ol_reserve.specs.declared.anchor.Anchor.{Anchor}
use Rattle.ol_storage.proofs.Causes.{pair_failed}
use Rattle.ol_storage.proofs.Checkpoints.{anchor_stops, empty_stops, moved_going, moved_is, moved_stored, next_anchor, next_is_anchor, pages_behind}
use Rattle.ol_rules.specs.Start.{low_behind, upto}
use Rattle.ol_ports.specs.Causes.{HasChunkCause}
use Rattle.ol_ports.specs.Frames.{FramedIn}
use Rattle.ol_ports.specs.Stops.{Stops}
use Rattle.ol_store.specs.Holding.{HoldsPages, IsOnDisk, in_store}
use Rattle.ol_store.specs.Pages.{checkpointed}
use Rattle.ol_storage.specs.Behind.{Behind, pages_of}
use Rattle.ol_store.specs.Stores.{Store}
use Rattle.ol_data_pages.specs.Places.{HasNoMark, HasSpaceCause}
use Rattle.ol_storage.specs.declared.storage.StorageFault.TheVariants.{Failed}
use Rattle.ol_storage.specs.Installation.{HasAll, IsInstallation, checkpoint_anchor, moved, Held, Installation, config_of, flushed_of}
use Rattle.ol_storage.specs.Standing.{StandsBetween}
use Rattle.ol_storage.specs.Storing.{IsStored}
use Rattle.ol_storage.proofs.Images.{Known}
use Rattle.ol_storage.specs.Causes.{HasStorageCause}
use Rattle.ol_storage.proofs.RedoCalls.{space_failed}
use Rattle.ol_storage.proofs.storage.Storage.move_checkpoint.Goals as goal

pub returns-in-Err-clause-stops : goal.returns-in-Err-clause-stops
returns-in-Err-clause-stops g c =
    let v : Installation = record { ring = c.self.inside.ring; store = c.self.inside.store; anchor = c.self.inside.anchor; reached = c.self.inside.reached; stopped = c.self.inside.stopped } in
    let stopped : c.self.inside.stopped ≡ false = ap (λ (h : Held _). h.now.stopped) c.self.view_is ∙ c.requires.going in
    let known : Known v = record { going = c.self.invariant.going stopped; ring = c.reusable.ensures.limits; area = c.spare.ensures.store.area } in
    let need : v.anchor.need ≤ c.args.need = (subst (λ (h : Held _). (h.now.anchor.need ≤ c.args.need) × (c.args.need ≤ h.now.reached + 1)) (sym c.self.view_is) c.requires.need).0 in
    let most : c.args.need ≤ v.reached + 1 = (subst (λ (h : Held _). (h.now.anchor.need ≤ c.args.need) × (c.args.need ≤ h.now.reached + 1)) (sym c.self.view_is) c.requires.need).1 in
    let none : v.ring.state.buffer ≡ [] = subst (λ (h : Held _). h.now.ring.state.buffer ≡ []) (sym c.self.view_is) c.requires.flushed in
    let clean : v.store.pool.dirty ≡ [] = subst (λ (h : Held _). h.now.store.pool.dirty ≡ []) (sym c.self.view_is) c.requires.clean in
    let synced : HasNoMark v.store.written = subst (λ (h : Held _). HasNoMark h.now.store.written) (sym c.self.view_is) c.requires.synced in
    let low = subst (λ (h : Held _). (h.now.anchor.serial < 2 ^ 62) × (h.now.anchor.generation < 2 ^ 62)) (sym c.self.view_is) c.requires.low in
    let small : v.anchor.generation + 1 < 2 ^ 64 = omega (arith, low.1) in
    let same : checkpoint_anchor c.self.inside.anchor c.self.inside.reached c.args.need c.args.next_archive c.uniq-self-inside.result ≡ next_anchor v c.args.need c.args.next_archive = ap (λ (n : ℕ). checkpoint_anchor c.self.inside.anchor c.self.inside.reached c.args.need c.args.next_archive n) c.uniq-self-inside.ensures in
    let anchor : IsAnchor (next_anchor v c.args.need c.args.next_archive) = next_is_anchor c.self.inside.anchor c.self.inside.reached c.args.need c.args.next_archive c.self.inside.ring.state.files.uniq low.0 low.1 (omega (arith, known.going.reached, known.ring.limits.next)) (omega (arith, most, known.going.reached, known.ring.limits.next)) c.requires.archive known.ring.limits.uniq.1 known.going.anchor in
    subst (λ (h : Held _). g.D.Disk.tells → (b : Behind) → IsStored (g.D.Disk.past h.disk) h.now b → c.args.need ≡ low_behind b.start (upto b.start b.records b.reached) → Stops (g.D.Disk.past h.disk) (g.D.Disk.past c.write.new.disk) (StandsBetween (config_of h.now) b h.now.anchor (moved h.now c.args.need c.args.next_archive).anchor (flushed_of h.now) (flushed_of h.now))) c.self.view_is (λ tells b is least.
    let newest = subst (λ (a : Anchor). IsAnchor a → IsAbove (Some c.self.inside.anchor) a.serial → Stops (g.D.Disk.past c.self.inside.disk) (g.D.Disk.past c.write.new.disk) (IsOneOf (Some c.self.inside.anchor) (Some a))) same (λ fits above. c.write.ensures.stops tells (Some c.self.inside.anchor) is.anchor fits above) anchor (omega arith) in
    let begun = anchor_stops v known b c.args.need c.args.next_archive need (g.D.Disk.past c.self.inside.disk) is (g.D.Disk.past c.write.new.disk) least none clean synced small (c.write.ensures.frame tells) newest in
    begun)

pub returns-in-Err-clause-cause : goal.returns-in-Err-clause-cause
returns-in-Err-clause-cause g c =
    let v : Installation = record { ring = c.self.inside.ring; store = c.self.inside.store; anchor = c.self.inside.anchor; reached = c.self.inside.reached; stopped = c.self.inside.stopped } in
    let stopped : c.self.inside.stopped ≡ false = ap (λ (h : Held _). h.now.stopped) c.self.view_is ∙ c.requires.going in
    let known : Known v = record { going = c.self.invariant.going stopped; ring = c.reusable.ensures.limits; area = c.spare.ensures.store.area } in
    subst (λ (h : Held _). HasStorageCause {T = Unit {0}} (config_of h.now) (g.D.Disk.fault_counts h.disk) (g.D.Disk.fault_counts c.write.new.disk) (Err Failed)) c.self.view_is
    (pair_failed c.self.inside.ring.config c.reusable.ensures.limits.config (g.D.Disk.fault_counts c.self.inside.disk) (g.D.Disk.fault_counts c.write.new.disk) _ (subst (λ r. HasChunkCause 0 (g.D.Disk.fault_counts c.self.inside.disk) (g.D.Disk.fault_counts c.write.new.disk) r) c.in-Err.is c.write.ensures.cause))

pub invariant_of-self-in-Ok-empty : goal.invariant_of-self-in-Ok-empty
invariant_of-self-in-Ok-empty g c =
    let v : Installation = record { ring = c.self.inside.ring; store = c.self.inside.store; anchor = c.self.inside.anchor; reached = c.self.inside.reached; stopped = c.self.inside.stopped } in
    let stopped : c.self.inside.stopped ≡ false = ap (λ (h : Held _). h.now.stopped) c.self.view_is ∙ c.requires.going in
    let known : Known v = record { going = c.self.invariant.going stopped; ring = c.reusable.ensures.limits; area = c.spare.ensures.store.area } in
    let need : v.anchor.need ≤ c.args.need = (subst (λ (h : Held _). (h.now.anchor.need ≤ c.args.need) × (c.args.need ≤ h.now.reached + 1)) (sym c.self.view_is) c.requires.need).0 in
    let most : c.args.need ≤ v.reached + 1 = (subst (λ (h : Held _). (h.now.anchor.need ≤ c.args.need) × (c.args.need ≤ h.now.reached + 1)) (sym c.self.view_is) c.requires.need).1 in
    let none : v.ring.state.buffer ≡ [] = subst (λ (h : Held _). h.now.ring.state.buffer ≡ []) (sym c.self.view_is) c.requires.flushed in
    let clean : v.store.pool.dirty ≡ [] = subst (λ (h : Held _). h.now.store.pool.dirty ≡ []) (sym c.self.view_is) c.requires.clean in
    let synced : HasNoMark v.store.written = subst (λ (h : Held _). HasNoMark h.now.store.written) (sym c.self.view_is) c.requires.synced in
    let low = subst (λ (h : Held _). (h.now.anchor.serial < 2 ^ 62) × (h.now.anchor.generation < 2 ^ 62)) (sym c.self.view_is) c.requires.low in
    let small : v.anchor.generation + 1 < 2 ^ 64 = omega (arith, low.1) in
    let same : checkpoint_anchor c.self.inside.anchor c.self.inside.reached c.args.need c.args.next_archive c.uniq-self-inside.result ≡ next_anchor v c.args.need c.args.next_archive = ap (λ (n : ℕ). checkpoint_anchor c.self.inside.anchor c.self.inside.reached c.args.need c.args.next_archive n) c.uniq-self-inside.ensures in
    let anchor : IsAnchor (next_anchor v c.args.need c.args.next_archive) = next_is_anchor c.self.inside.anchor c.self.inside.reached c.args.need c.args.next_archive c.self.inside.ring.state.files.uniq low.0 low.1 (omega (arith, known.going.reached, known.ring.limits.next)) (omega (arith, most, known.going.reached, known.ring.limits.next)) c.requires.archive known.ring.limits.uniq.1 known.going.anchor in
    let whole = moved_is v c.args.need c.args.next_archive c.uniq-self-inside.result c.keep_from.new.self c.empty.new.self c.keep_from.ensures c.in-Ok-empty.ensures.value c.uniq-self-inside.ensures in
    subst (λ (x : Installation). IsInstallation (g.D.Disk.sizes c.empty.new.disk) x) (sym whole) (record {
      disk = subst (λ (sizes : ℕ → ℕ). HasAll c.self.inside.ring.config sizes) (sym (c.in-Ok-empty.ensures.sizes ∙ c.in-Ok.ensures.sizes)) c.self.invariant.disk;
      going = λ going_on. moved_going v c.args.need c.args.next_archive anchor known.going;
      stamps = λ going_on. c.self.invariant.stamps stopped;
    })

pub returns-in-Ok-empty-clause-stops : goal.returns-in-Ok-empty-clause-stops
returns-in-Ok-empty-clause-stops g c =
    let v : Installation = record { ring = c.self.inside.ring; store = c.self.inside.store; anchor = c.self.inside.anchor; reached = c.self.inside.reached; stopped = c.self.inside.stopped } in
    let stopped : c.self.inside.stopped ≡ false = ap (λ (h : Held _). h.now.stopped) c.self.view_is ∙ c.requires.going in
    let known : Known v = record { going = c.self.invariant.going stopped; ring = c.reusable.ensures.limits; area = c.spare.ensures.store.area } in
    let need : v.anchor.need ≤ c.args.need = (subst (λ (h : Held _). (h.now.anchor.need ≤ c.args.need) × (c.args.need ≤ h.now.reached + 1)) (sym c.self.view_is) c.requires.need).0 in
    let most : c.args.need ≤ v.reached + 1 = (subst (λ (h : Held _). (h.now.anchor.need ≤ c.args.need) × (c.args.need ≤ h.now.reached + 1)) (sym c.self.view_is) c.requires.need).1 in
    let none : v.ring.state.buffer ≡ [] = subst (λ (h : Held _). h.now.ring.state.buffer ≡ []) (sym c.self.view_is) c.requires.flushed in
    let clean : v.store.pool.dirty ≡ [] = subst (λ (h : Held _). h.now.store.pool.dirty ≡ []) (sym c.self.view_is) c.requires.clean in
    let synced : HasNoMark v.store.written = subst (λ (h : Held _). HasNoMark h.now.store.written) (sym c.self.view_is) c.requires.synced in
    let low = subst (λ (h : Held _). (h.now.anchor.serial < 2 ^ 62) × (h.now.anchor.generation < 2 ^ 62)) (sym c.self.view_is) c.requires.low in
    let small : v.anchor.generation + 1 < 2 ^ 64 = omega (arith, low.1) in
    let same : checkpoint_anchor c.self.inside.anchor c.self.inside.reached c.args.need c.args.next_archive c.uniq-self-inside.result ≡ next_anchor v c.args.need c.args.next_archive = ap (λ (n : ℕ). checkpoint_anchor c.self.inside.anchor c.self.inside.reached c.args.need c.args.next_archive n) c.uniq-self-inside.ensures in
    let anchor : IsAnchor (next_anchor v c.args.need c.args.next_archive) = next_is_anchor c.self.inside.anchor c.self.inside.reached c.args.need c.args.next_archive c.self.inside.ring.state.files.uniq low.0 low.1 (omega (arith, known.going.reached, known.ring.limits.next)) (omega (arith, most, known.going.reached, known.ring.limits.next)) c.requires.archive known.ring.limits.uniq.1 known.going.anchor in
    subst (λ (h : Held _). g.D.Disk.tells → (b : Behind) → IsStored (g.D.Disk.past h.disk) h.now b → c.args.need ≡ low_behind b.start (upto b.start b.records b.reached) → Stops (g.D.Disk.past h.disk) (g.D.Disk.past c.empty.new.disk) (StandsBetween (config_of h.now) b h.now.anchor (moved h.now c.args.need c.args.next_archive).anchor (flushed_of h.now) (flushed_of h.now))) c.self.view_is (λ tells b is least.
    let newest = subst (λ (a : Anchor). IsAnchor a → IsAbove (Some c.self.inside.anchor) a.serial → Stops (g.D.Disk.past c.self.inside.disk) (g.D.Disk.past c.write.new.disk) (IsOneOf (Some c.self.inside.anchor) (Some a))) same (λ fits above. c.write.ensures.stops tells (Some c.self.inside.anchor) is.anchor fits above) anchor (omega arith) in
    let begun = anchor_stops v known b c.args.need c.args.next_archive need (g.D.Disk.past c.self.inside.disk) is (g.D.Disk.past c.write.new.disk) least none clean synced small (c.write.ensures.frame tells) newest in
    let ready = subst (λ (a : Anchor). IsAnchor a → IsAbove (Some c.self.inside.anchor) a.serial → IsReady (g.D.Disk.past c.write.new.disk) (Some a)) same (λ fits above. c.in-Ok.ensures.ok tells (Some c.self.inside.anchor) is.anchor fits above) anchor (omega arith) in
    let middle = pages_behind v known b c.args.need c.args.next_archive need (g.D.Disk.past c.self.inside.disk) is (g.D.Disk.past c.write.new.disk) (c.write.ensures.frame tells).behind (c.in-Ok.ensures.reads tells) in
    let ended = empty_stops v known b c.args.need c.args.next_archive need (g.D.Disk.past c.self.inside.disk) is (g.D.Disk.past c.write.new.disk) (g.D.Disk.past c.empty.new.disk) least none (c.write.ensures.frame tells).behind ready
    (subst (λ (x : Config). Stops (g.D.Disk.past c.write.new.disk) (g.D.Disk.past c.empty.new.disk) (FramedIn (g.D.Disk.past c.write.new.disk) (in_store x))) known.going.config (c.empty.ensures.frame tells))
    (subst (λ (x : Config). Stops (g.D.Disk.past c.write.new.disk) (g.D.Disk.past c.empty.new.disk) (HoldsPages x (v.anchor.generation + 1) (checkpointed (pages_of v.anchor b)))) known.going.config (c.empty.ensures.stops tells (pages_of v.anchor b) middle)) in
    stops_both _ (g.D.Disk.past c.write.new.disk) _ _ begun (stops_weaker _ _ _ _ (λ d s. inr s) ended))

pub returns-in-Err-empty-clause-stops : goal.returns-in-Err-empty-clause-stops
returns-in-Err-empty-clause-stops g c =
    let v : Installation = record { ring = c.self.inside.ring; store = c.self.inside.store; anchor = c.self.inside.anchor; reached = c.self.inside.reached; stopped = c.self.inside.stopped } in
    let stopped : c.self.inside.stopped ≡ false = ap (λ (h : Held _). h.now.stopped) c.self.view_is ∙ c.requires.going in
    let known : Known v = record { going = c.self.invariant.going stopped; ring = c.reusable.ensures.limits; area = c.spare.ensures.store.area } in
    let need : v.anchor.need ≤ c.args.need = (subst (λ (h : Held _). (h.now.anchor.need ≤ c.args.need) × (c.args.need ≤ h.now.reached + 1)) (sym c.self.view_is) c.requires.need).0 in
    let most : c.args.need ≤ v.reached + 1 = (subst (λ (h : Held _). (h.now.anchor.need ≤ c.args.need) × (c.args.need ≤ h.now.reached + 1)) (sym c.self.view_is) c.requires.need).1 in
    let none : v.ring.state.buffer ≡ [] = subst (λ (h : Held _). h.now.ring.state.buffer ≡ []) (sym c.self.view_is) c.requires.flushed in
    let clean : v.store.pool.dirty ≡ [] = subst (λ (h : Held _). h.now.store.pool.dirty ≡ []) (sym c.self.view_is) c.requires.clean in
    let synced : HasNoMark v.store.written = subst (λ (h : Held _). HasNoMark h.now.store.written) (sym c.self.view_is) c.requires.synced in
    let low = subst (λ (h : Held _). (h.now.anchor.serial < 2 ^ 62) × (h.now.anchor.generation < 2 ^ 62)) (sym c.self.view_is) c.requires.low in
    let small : v.anchor.generation + 1 < 2 ^ 64 = omega (arith, low.1) in
    let same : checkpoint_anchor c.self.inside.anchor c.self.inside.reached c.args.need c.args.next_archive c.uniq-self-inside.result ≡ next_anchor v c.args.need c.args.next_archive = ap (λ (n : ℕ). checkpoint_anchor c.self.inside.anchor c.self.inside.reached c.args.need c.args.next_archive n) c.uniq-self-inside.ensures in
    let anchor : IsAnchor (next_anchor v c.args.need c.args.next_archive) = next_is_anchor c.self.inside.anchor c.self.inside.reached c.args.need c.args.next_archive c.self.inside.ring.state.files.uniq low.0 low.1 (omega (arith, known.going.reached, known.ring.limits.next)) (omega (arith, most, known.going.reached, known.ring.limits.next)) c.requires.archive known.ring.limits.uniq.1 known.going.anchor in
    subst (λ (h : Held _). g.D.Disk.tells → (b : Behind) → IsStored (g.D.Disk.past h.disk) h.now b → c.args.need ≡ low_behind b.start (upto b.start b.records b.reached) → Stops (g.D.Disk.past h.disk) (g.D.Disk.past c.empty.new.disk) (StandsBetween (config_of h.now) b h.now.anchor (moved h.now c.args.need c.args.next_archive).anchor (flushed_of h.now) (flushed_of h.now))) c.self.view_is (λ tells b is least.
    let newest = subst (λ (a : Anchor). IsAnchor a → IsAbove (Some c.self.inside.anchor) a.serial → Stops (g.D.Disk.past c.self.inside.disk) (g.D.Disk.past c.write.new.disk) (IsOneOf (Some c.self.inside.anchor) (Some a))) same (λ fits above. c.write.ensures.stops tells (Some c.self.inside.anchor) is.anchor fits above) anchor (omega arith) in
    let begun = anchor_stops v known b c.args.need c.args.next_archive need (g.D.Disk.past c.self.inside.disk) is (g.D.Disk.past c.write.new.disk) least none clean synced small (c.write.ensures.frame tells) newest in
    let ready = subst (λ (a : Anchor). IsAnchor a → IsAbove (Some c.self.inside.anchor) a.serial → IsReady (g.D.Disk.past c.write.new.disk) (Some a)) same (λ fits above. c.in-Ok.ensures.ok tells (Some c.self.inside.anchor) is.anchor fits above) anchor (omega arith) in
    let middle = pages_behind v known b c.args.need c.args.next_archive need (g.D.Disk.past c.self.inside.disk) is (g.D.Disk.past c.write.new.disk) (c.write.ensures.frame tells).behind (c.in-Ok.ensures.reads tells) in
    let ended = empty_stops v known b c.args.need c.args.next_archive need (g.D.Disk.past c.self.inside.disk) is (g.D.Disk.past c.write.new.disk) (g.D.Disk.past c.empty.new.disk) least none (c.write.ensures.frame tells).behind ready
    (subst (λ (x : Config). Stops (g.D.Disk.past c.write.new.disk) (g.D.Disk.past c.empty.new.disk) (FramedIn (g.D.Disk.past c.write.new.disk) (in_store x))) known.going.config (c.empty.ensures.frame tells))
    (subst (λ (x : Config). Stops (g.D.Disk.past c.write.new.disk) (g.D.Disk.past c.empty.new.disk) (HoldsPages x (v.anchor.generation + 1) (checkpointed (pages_of v.anchor b)))) known.going.config (c.empty.ensures.stops tells (pages_of v.anchor b) middle)) in
    stops_both _ (g.D.Disk.past c.write.new.disk) _ _ begun (stops_weaker _ _ _ _ (λ d s. inr s) ended))

pub returns-in-Ok-empty-clause-stored : goal.returns-in-Ok-empty-clause-stored
returns-in-Ok-empty-clause-stored g c =
    let v : Installation = record { ring = c.self.inside.ring; store = c.self.inside.store; anchor = c.self.inside.anchor; reached = c.self.inside.reached; stopped = c.self.inside.stopped } in
    let stopped : c.self.inside.stopped ≡ false = ap (λ (h : Held _). h.now.stopped) c.self.view_is ∙ c.requires.going in
    let known : Known v = record { going = c.self.invariant.going stopped; ring = c.reusable.ensures.limits; area = c.spare.ensures.store.area } in
    let need : v.anchor.need ≤ c.args.need = (subst (λ (h : Held _). (h.now.anchor.need ≤ c.args.need) × (c.args.need ≤ h.now.reached + 1)) (sym c.self.view_is) c.requires.need).0 in
    let most : c.args.need ≤ v.reached + 1 = (subst (λ (h : Held _). (h.now.anchor.need ≤ c.args.need) × (c.args.need ≤ h.now.reached + 1)) (sym c.self.view_is) c.requires.need).1 in
    let none : v.ring.state.buffer ≡ [] = subst (λ (h : Held _). h.now.ring.state.buffer ≡ []) (sym c.self.view_is) c.requires.flushed in
    let clean : v.store.pool.dirty ≡ [] = subst (λ (h : Held _). h.now.store.pool.dirty ≡ []) (sym c.self.view_is) c.requires.clean in
    let synced : HasNoMark v.store.written = subst (λ (h : Held _). HasNoMark h.now.store.written) (sym c.self.view_is) c.requires.synced in
    let low = subst (λ (h : Held _). (h.now.anchor.serial < 2 ^ 62) × (h.now.anchor.generation < 2 ^ 62)) (sym c.self.view_is) c.requires.low in
    let small : v.anchor.generation + 1 < 2 ^ 64 = omega (arith, low.1) in
    let same : checkpoint_anchor c.self.inside.anchor c.self.inside.reached c.args.need c.args.next_archive c.uniq-self-inside.result ≡ next_anchor v c.args.need c.args.next_archive = ap (λ (n : ℕ). checkpoint_anchor c.self.inside.anchor c.self.inside.reached c.args.need c.args.next_archive n) c.uniq-self-inside.ensures in
    let anchor : IsAnchor (next_anchor v c.args.need c.args.next_archive) = next_is_anchor c.self.inside.anchor c.self.inside.reached c.args.need c.args.next_archive c.self.inside.ring.state.files.uniq low.0 low.1 (omega (arith, known.going.reached, known.ring.limits.next)) (omega (arith, most, known.going.reached, known.ring.limits.next)) c.requires.archive known.ring.limits.uniq.1 known.going.anchor in
    let whole = moved_is v c.args.need c.args.next_archive c.uniq-self-inside.result c.keep_from.new.self c.empty.new.self c.keep_from.ensures c.in-Ok-empty.ensures.value c.uniq-self-inside.ensures in
    subst (λ (h : Held _). g.D.Disk.tells → (b : Behind) → IsStored (g.D.Disk.past h.disk) h.now b → c.args.need ≡ low_behind b.start (upto b.start b.records b.reached)
    → IsStored (g.D.Disk.past c.empty.new.disk) (record { ring = c.keep_from.new.self; store = c.empty.new.self; anchor = checkpoint_anchor c.self.inside.anchor c.self.inside.reached c.args.need c.args.next_archive c.uniq-self-inside.result; reached = c.self.inside.reached; stopped = c.self.inside.stopped }) b) c.self.view_is (λ tells b is least.
    let ready = subst (λ (a : Anchor). IsAnchor a → IsAbove (Some c.self.inside.anchor) a.serial → IsReady (g.D.Disk.past c.write.new.disk) (Some a)) same (λ fits above. c.in-Ok.ensures.ok tells (Some c.self.inside.anchor) is.anchor fits above) anchor (omega arith) in
    let middle = pages_behind v known b c.args.need c.args.next_archive need (g.D.Disk.past c.self.inside.disk) is (g.D.Disk.past c.write.new.disk) (c.write.ensures.frame tells).behind (c.in-Ok.ensures.reads tells) in
    subst (λ (x : Installation). IsStored (g.D.Disk.past c.empty.new.disk) x b) (sym whole)
    (moved_stored v known b c.args.need c.args.next_archive need (g.D.Disk.past c.self.inside.disk) is (g.D.Disk.past c.write.new.disk) (g.D.Disk.past c.empty.new.disk) least none (c.write.ensures.frame tells).behind ready
    (λ d left. subst (λ (x : Config). FramedIn (g.D.Disk.past c.write.new.disk) (in_store x) d) known.going.config ((c.empty.ensures.frame tells).behind d left))
    (subst (λ (s : Store). IsOnDisk (g.D.Disk.past c.empty.new.disk) s (checkpointed (pages_of v.anchor b))) c.in-Ok-empty.ensures.value (c.in-Ok-empty.ensures.stored tells (pages_of v.anchor b) middle))))

pub returns-in-Err-empty-clause-cause : goal.returns-in-Err-empty-clause-cause
returns-in-Err-empty-clause-cause g c =
    let v : Installation = record { ring = c.self.inside.ring; store = c.self.inside.store; anchor = c.self.inside.anchor; reached = c.self.inside.reached; stopped = c.self.inside.stopped } in
    let stopped : c.self.inside.stopped ≡ false = ap (λ (h : Held _). h.now.stopped) c.self.view_is ∙ c.requires.going in
    let known : Known v = record { going = c.self.invariant.going stopped; ring = c.reusable.ensures.limits; area = c.spare.ensures.store.area } in
    let config : c.self.inside.store.config ≡ config_of c.args.self.now.now = known.going.config ∙ ap (λ (h : Held _). config_of h.now) c.self.view_is in
    let same = c.in-Ok.ensures.cause.kept ∙ ap (λ (h : Held _). g.D.Disk.fault_counts h.disk) c.self.view_is in
    space_failed c.self.inside.store.config (config_of c.args.self.now.now) config (g.D.Disk.fault_counts c.args.self.now.disk) (g.D.Disk.fault_counts c.write.new.disk) (g.D.Disk.fault_counts c.empty.new.disk) same _
    (subst (λ r. HasSpaceCause c.self.inside.store.config (g.D.Disk.fault_counts c.write.new.disk) (g.D.Disk.fault_counts c.empty.new.disk) r) c.in-Err-empty.is c.empty.ensures.cause)
