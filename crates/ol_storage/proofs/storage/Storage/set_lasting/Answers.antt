use Rattle.std.specs.Prelude.{Some, Err, false, true, ℕ, ◌+◌, ◌<◌, ◌^◌, ◌≡◌, ◌≤◌}
use Rattle.std.proofs.Common.{ap, arith, subst, sym, ◌∙◌}
use Rattle.ol_ports.specs.Causes.{HasChunkCause}
use Rattle.ol_ports.specs.Stops.{Stops}
use Rattle.ol_reserve.specs.Anchor.{IsAnchor}
use Rattle.ol_reserve.specs.Pair.{IsAbove, IsOneOf, IsReady}
use Rattle.ol_reserve.specs.declared.anchor.Anchor.{Anchor}
use Rattle.ol_storage.specs.Behind.{Behind, is_up}
use Rattle.ol_storage.specs.Causes.{HasStorageCause}
use Rattle.ol_storage.specs.declared.storage.StorageFault.TheVariants.{Failed}
use Rattle.ol_storage.specs.Installation.{HasAll, Held, Installation, IsInstallation, backed_anchor, backed_up, config_of, flushed_of, lasting_anchor, with_anchor, with_lasting}
use Rattle.ol_storage.specs.Standing.{StandsBetween}
use Rattle.ol_storage.specs.Storing.{IsStored}
use Rattle.ol_storage.proofs.Anchors.{backed_going, backed_is_anchor, backed_is_at, backed_low, backed_stored, lasting_is_at, lasting_low, put_stops, put_stored}
use Rattle.ol_storage.proofs.Causes.{pair_failed}
use Rattle.ol_storage.proofs.Images.{Known}
use Rattle.ol_storage.proofs.storage.Storage.set_lasting.Goals as goal

pub returns-in-Ok-clause-stops : goal.returns-in-Ok-clause-stops
returns-in-Ok-clause-stops g c =
    let v : Installation = record { ring = c.self.inside.ring; store = c.self.inside.store; anchor = c.self.inside.anchor; reached = c.self.inside.reached; stopped = c.self.inside.stopped } in
    let stopped : c.self.inside.stopped ≡ false = ap (λ (h : Held _). h.now.stopped) c.self.view_is ∙ c.requires.going in
    let known : Known v = record { going = c.self.invariant.going stopped; ring = c.reusable.ensures.limits; area = c.spare.ensures.store.area } in
    let same : lasting_anchor c.self.inside.anchor c.args.lasting.now c.uniq-self-inside.result ≡ lasting_anchor c.self.inside.anchor c.args.lasting.now v.ring.state.files.uniq = ap (λ (n : ℕ). lasting_anchor c.self.inside.anchor c.args.lasting.now n) c.uniq-self-inside.ensures in
    let fits : IsAnchor (lasting_anchor v.anchor c.args.lasting.now v.ring.state.files.uniq) = subst (λ (h : Held _). IsAnchor (lasting_anchor h.now.anchor c.args.lasting.now h.now.ring.state.files.uniq)) (sym c.self.view_is) c.requires.anchor in
    let fewer : (space : ℕ) → is_up (lasting_anchor c.self.inside.anchor c.args.lasting.now v.ring.state.files.uniq) space ≡ true → is_up v.anchor space ≡ true = subst (λ (h : Held _). (space : ℕ) → is_up (lasting_anchor h.now.anchor c.args.lasting.now h.now.ring.state.files.uniq) space ≡ true → is_up h.now.anchor space ≡ true) (sym c.self.view_is) c.requires.up in
    subst (λ (h : Held _). g.D.Disk.tells → (b : Behind) → IsStored (g.D.Disk.past h.disk) h.now b → Stops (g.D.Disk.past h.disk) (g.D.Disk.past c.write.new.disk) (StandsBetween (config_of h.now) b h.now.anchor (with_lasting h.now c.args.lasting.now).anchor (flushed_of h.now) (flushed_of h.now))) c.self.view_is (λ tells b is.
    let newest = subst (λ (a : Anchor). IsAnchor a → IsAbove (Some c.self.inside.anchor) a.serial → Stops (g.D.Disk.past c.self.inside.disk) (g.D.Disk.past c.write.new.disk) (IsOneOf (Some c.self.inside.anchor) (Some a))) same (λ good above. c.write.ensures.stops tells (Some c.self.inside.anchor) is.anchor good above) fits (omega arith) in
    put_stops v known b (lasting_anchor c.self.inside.anchor c.args.lasting.now v.ring.state.files.uniq) (lasting_is_at v.anchor c.args.lasting.now v.ring.state.files.uniq) fewer (g.D.Disk.past c.self.inside.disk) is (g.D.Disk.past c.write.new.disk) (lasting_low v c.args.lasting.now known.going) (c.write.ensures.frame tells) newest)

pub returns-in-Err-clause-stops : goal.returns-in-Err-clause-stops
returns-in-Err-clause-stops g c =
    let v : Installation = record { ring = c.self.inside.ring; store = c.self.inside.store; anchor = c.self.inside.anchor; reached = c.self.inside.reached; stopped = c.self.inside.stopped } in
    let stopped : c.self.inside.stopped ≡ false = ap (λ (h : Held _). h.now.stopped) c.self.view_is ∙ c.requires.going in
    let known : Known v = record { going = c.self.invariant.going stopped; ring = c.reusable.ensures.limits; area = c.spare.ensures.store.area } in
    let same : lasting_anchor c.self.inside.anchor c.args.lasting.now c.uniq-self-inside.result ≡ lasting_anchor c.self.inside.anchor c.args.lasting.now v.ring.state.files.uniq = ap (λ (n : ℕ). lasting_anchor c.self.inside.anchor c.args.lasting.now n) c.uniq-self-inside.ensures in
    let fits : IsAnchor (lasting_anchor v.anchor c.args.lasting.now v.ring.state.files.uniq) = subst (λ (h : Held _). IsAnchor (lasting_anchor h.now.anchor c.args.lasting.now h.now.ring.state.files.uniq)) (sym c.self.view_is) c.requires.anchor in
    let fewer : (space : ℕ) → is_up (lasting_anchor c.self.inside.anchor c.args.lasting.now v.ring.state.files.uniq) space ≡ true → is_up v.anchor space ≡ true = subst (λ (h : Held _). (space : ℕ) → is_up (lasting_anchor h.now.anchor c.args.lasting.now h.now.ring.state.files.uniq) space ≡ true → is_up h.now.anchor space ≡ true) (sym c.self.view_is) c.requires.up in
    subst (λ (h : Held _). g.D.Disk.tells → (b : Behind) → IsStored (g.D.Disk.past h.disk) h.now b → Stops (g.D.Disk.past h.disk) (g.D.Disk.past c.write.new.disk) (StandsBetween (config_of h.now) b h.now.anchor (with_lasting h.now c.args.lasting.now).anchor (flushed_of h.now) (flushed_of h.now))) c.self.view_is (λ tells b is.
    let newest = subst (λ (a : Anchor). IsAnchor a → IsAbove (Some c.self.inside.anchor) a.serial → Stops (g.D.Disk.past c.self.inside.disk) (g.D.Disk.past c.write.new.disk) (IsOneOf (Some c.self.inside.anchor) (Some a))) same (λ good above. c.write.ensures.stops tells (Some c.self.inside.anchor) is.anchor good above) fits (omega arith) in
    put_stops v known b (lasting_anchor c.self.inside.anchor c.args.lasting.now v.ring.state.files.uniq) (lasting_is_at v.anchor c.args.lasting.now v.ring.state.files.uniq) fewer (g.D.Disk.past c.self.inside.disk) is (g.D.Disk.past c.write.new.disk) (lasting_low v c.args.lasting.now known.going) (c.write.ensures.frame tells) newest)

pub returns-in-Ok-clause-stored : goal.returns-in-Ok-clause-stored
returns-in-Ok-clause-stored g c =
    let v : Installation = record { ring = c.self.inside.ring; store = c.self.inside.store; anchor = c.self.inside.anchor; reached = c.self.inside.reached; stopped = c.self.inside.stopped } in
    let stopped : c.self.inside.stopped ≡ false = ap (λ (h : Held _). h.now.stopped) c.self.view_is ∙ c.requires.going in
    let known : Known v = record { going = c.self.invariant.going stopped; ring = c.reusable.ensures.limits; area = c.spare.ensures.store.area } in
    let same : lasting_anchor c.self.inside.anchor c.args.lasting.now c.uniq-self-inside.result ≡ lasting_anchor c.self.inside.anchor c.args.lasting.now v.ring.state.files.uniq = ap (λ (n : ℕ). lasting_anchor c.self.inside.anchor c.args.lasting.now n) c.uniq-self-inside.ensures in
    let fits : IsAnchor (lasting_anchor v.anchor c.args.lasting.now v.ring.state.files.uniq) = subst (λ (h : Held _). IsAnchor (lasting_anchor h.now.anchor c.args.lasting.now h.now.ring.state.files.uniq)) (sym c.self.view_is) c.requires.anchor in
    let fewer : (space : ℕ) → is_up (lasting_anchor c.self.inside.anchor c.args.lasting.now v.ring.state.files.uniq) space ≡ true → is_up v.anchor space ≡ true = subst (λ (h : Held _). (space : ℕ) → is_up (lasting_anchor h.now.anchor c.args.lasting.now h.now.ring.state.files.uniq) space ≡ true → is_up h.now.anchor space ≡ true) (sym c.self.view_is) c.requires.up in
    subst (λ (h : Held _). g.D.Disk.tells → (b : Behind) → IsStored (g.D.Disk.past h.disk) h.now b
    → IsStored (g.D.Disk.past c.write.new.disk) (record { ring = c.self.inside.ring; store = c.self.inside.store; anchor = lasting_anchor c.self.inside.anchor c.args.lasting.now c.uniq-self-inside.result; reached = c.self.inside.reached; stopped = c.self.inside.stopped }) b) c.self.view_is (λ tells b is.
    let ready = subst (λ (a : Anchor). IsAnchor a → IsAbove (Some c.self.inside.anchor) a.serial → IsReady (g.D.Disk.past c.write.new.disk) (Some a)) same (λ good above. c.in-Ok.ensures.ok tells (Some c.self.inside.anchor) is.anchor good above) fits (omega arith) in
    let stored = put_stored v known b (lasting_anchor c.self.inside.anchor c.args.lasting.now v.ring.state.files.uniq) (lasting_is_at v.anchor c.args.lasting.now v.ring.state.files.uniq) fewer (g.D.Disk.past c.self.inside.disk) is (g.D.Disk.past c.write.new.disk) (c.write.ensures.frame tells).behind (c.in-Ok.ensures.reads tells) ready in
    subst (λ (a : Anchor). IsStored (g.D.Disk.past c.write.new.disk) (with_anchor v a) b) (sym same) stored)

pub returns-in-Err-clause-cause : goal.returns-in-Err-clause-cause
returns-in-Err-clause-cause g c =
    let v : Installation = record { ring = c.self.inside.ring; store = c.self.inside.store; anchor = c.self.inside.anchor; reached = c.self.inside.reached; stopped = c.self.inside.stopped } in
    let stopped : c.self.inside.stopped ≡ false = ap (λ (h : Held _). h.now.stopped) c.self.view_is ∙ c.requires.going in
    let known : Known v = record { going = c.self.invariant.going stopped; ring = c.reusable.ensures.limits; area = c.spare.ensures.store.area } in
    subst (λ (h : Held _). HasStorageCause {T = Unit {0}} (config_of h.now) (g.D.Disk.fault_counts h.disk) (g.D.Disk.fault_counts c.write.new.disk) (Err Failed)) c.self.view_is
    (pair_failed c.self.inside.ring.config c.reusable.ensures.limits.config (g.D.Disk.fault_counts c.self.inside.disk) (g.D.Disk.fault_counts c.write.new.disk) _ (subst (λ r. HasChunkCause 0 (g.D.Disk.fault_counts c.self.inside.disk) (g.D.Disk.fault_counts c.write.new.disk) r) c.in-Err.is c.write.ensures.cause))
