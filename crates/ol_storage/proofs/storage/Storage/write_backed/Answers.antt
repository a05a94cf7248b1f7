use Rattle.std.specs.Prelude.{Some, Err, false, true, ℕ, ◌+◌, ◌<◌, ◌^◌, ◌≡◌, ◌≤◌}
use Rattle.std.proofs.Common.{ap, arith, subst, sym, ◌∙◌}
use Rattle.ol_ports.specs.Causes.{HasChunkCause}
use Rattle.ol_ports.specs.Stops.{Stops}
use Rattle.ol_reserve.specs.Anchor.{IsAnchor}
use Rattle.ol_reserve.specs.Pair.{IsAbove, IsOneOf, IsReady}
use Rattle.ol_reserve.specs.declared.anchor.Anchor.{Anchor}
use Rattle.ol_log_state.specs.Files.{next_page}
use Rattle.ol_loglog.proofs.Steps.{number_between}
use Rattle.ol_storage.specs.Behind.{Behind, is_up}
use Rattle.ol_storage.specs.Causes.{HasStorageCause}
use Rattle.ol_storage.specs.declared.storage.StorageFault.TheVariants.{Failed}
use Rattle.ol_storage.specs.Installation.{HasAll, Held, Installation, IsInstallation, backed_anchor, backed_up, config_of, flushed_of, lasting_anchor, with_anchor, with_lasting}
use Rattle.ol_storage.specs.Standing.{StandsBetween}
use Rattle.ol_storage.specs.Storing.{IsStored}
use Rattle.ol_storage.proofs.Anchors.{backed_going, backed_is_anchor, backed_is_at, backed_is, backed_low, backed_stored, lasting_is_at, lasting_low, put_stops, put_stored}
use Rattle.ol_storage.proofs.Causes.{pair_failed}
use Rattle.ol_storage.proofs.Images.{Known, next_number}
use Rattle.ol_storage.proofs.storage.Storage.write_backed.Goals as goal

pub returns-in-Ok-clause-stops : goal.returns-in-Ok-clause-stops
returns-in-Ok-clause-stops g c =
    let v : Installation = record { ring = c.self.inside.ring; store = c.self.inside.store; anchor = c.self.inside.anchor; reached = c.self.inside.reached; stopped = c.self.inside.stopped } in
    let stopped : c.self.inside.stopped ≡ false = ap (λ (h : Held _). h.now.stopped) c.self.view_is ∙ c.requires.going in
    let known : Known v = record { going = c.self.invariant.going stopped; ring = c.reusable.ensures.limits; area = c.spare.ensures.store.area } in
    let same : backed_anchor c.self.inside.anchor c.args.uniq c.uniq-self-inside.result ≡ backed_anchor c.self.inside.anchor c.args.uniq v.ring.state.files.uniq = ap (λ (n : ℕ). backed_anchor c.self.inside.anchor c.args.uniq n) c.uniq-self-inside.ensures in
    let below : c.args.uniq < next_number v = subst (λ (h : Held _). c.args.uniq < (next_page h.now.ring.state.files).uniq) (sym c.self.view_is) c.requires.below in
    let low : v.anchor.serial < 2 ^ 62 = subst (λ (h : Held _). h.now.anchor.serial < 2 ^ 62) (sym c.self.view_is) c.requires.low in
    let fits : IsAnchor (backed_anchor v.anchor c.args.uniq v.ring.state.files.uniq) = backed_is_anchor v.anchor c.args.uniq v.ring.state.files.uniq low (omega (arith, below, (number_between v.ring.state.files).1, known.ring.limits.uniq.1)) known.ring.limits.uniq.1 known.going.anchor in
    let fewer : (space : ℕ) → is_up (backed_anchor c.self.inside.anchor c.args.uniq v.ring.state.files.uniq) space ≡ true → is_up v.anchor space ≡ true = λ space up. up in
    subst (λ (h : Held _). g.D.Disk.tells → (b : Behind) → IsStored (g.D.Disk.past h.disk) h.now b → Stops (g.D.Disk.past h.disk) (g.D.Disk.past c.write.new.disk) (StandsBetween (config_of h.now) b h.now.anchor (backed_up h.now c.args.uniq).anchor (flushed_of h.now) (flushed_of h.now))) c.self.view_is (λ tells b is.
    let newest = subst (λ (a : Anchor). IsAnchor a → IsAbove (Some c.self.inside.anchor) a.serial → Stops (g.D.Disk.past c.self.inside.disk) (g.D.Disk.past c.write.new.disk) (IsOneOf (Some c.self.inside.anchor) (Some a))) same (λ good above. c.write.ensures.stops tells (Some c.self.inside.anchor) is.anchor good above) fits (omega arith) in
    put_stops v known b (backed_anchor c.self.inside.anchor c.args.uniq v.ring.state.files.uniq) (backed_is_at v.anchor c.args.uniq v.ring.state.files.uniq) fewer (g.D.Disk.past c.self.inside.disk) is (g.D.Disk.past c.write.new.disk) (backed_low v c.args.uniq below) (c.write.ensures.frame tells) newest)

pub returns-in-Err-clause-stops : goal.returns-in-Err-clause-stops
returns-in-Err-clause-stops g c =
    let v : Installation = record { ring = c.self.inside.ring; store = c.self.inside.store; anchor = c.self.inside.anchor; reached = c.self.inside.reached; stopped = c.self.inside.stopped } in
    let stopped : c.self.inside.stopped ≡ false = ap (λ (h : Held _). h.now.stopped) c.self.view_is ∙ c.requires.going in
    let known : Known v = record { going = c.self.invariant.going stopped; ring = c.reusable.ensures.limits; area = c.spare.ensures.store.area } in
    let same : backed_anchor c.self.inside.anchor c.args.uniq c.uniq-self-inside.result ≡ backed_anchor c.self.inside.anchor c.args.uniq v.ring.state.files.uniq = ap (λ (n : ℕ). backed_anchor c.self.inside.anchor c.args.uniq n) c.uniq-self-inside.ensures in
    let below : c.args.uniq < next_number v = subst (λ (h : Held _). c.args.uniq < (next_page h.now.ring.state.files).uniq) (sym c.self.view_is) c.requires.below in
    let low : v.anchor.serial < 2 ^ 62 = subst (λ (h : Held _). h.now.anchor.serial < 2 ^ 62) (sym c.self.view_is) c.requires.low in
    let fits : IsAnchor (backed_anchor v.anchor c.args.uniq v.ring.state.files.uniq) = backed_is_anchor v.anchor c.args.uniq v.ring.state.files.uniq low (omega (arith, below, (number_between v.ring.state.files).1, known.ring.limits.uniq.1)) known.ring.limits.uniq.1 known.going.anchor in
    let fewer : (space : ℕ) → is_up (backed_anchor c.self.inside.anchor c.args.uniq v.ring.state.files.uniq) space ≡ true → is_up v.anchor space ≡ true = λ space up. up in
    subst (λ (h : Held _). g.D.Disk.tells → (b : Behind) → IsStored (g.D.Disk.past h.disk) h.now b → Stops (g.D.Disk.past h.disk) (g.D.Disk.past c.write.new.disk) (StandsBetween (config_of h.now) b h.now.anchor (backed_up h.now c.args.uniq).anchor (flushed_of h.now) (flushed_of h.now))) c.self.view_is (λ tells b is.
    let newest = subst (λ (a : Anchor). IsAnchor a → IsAbove (Some c.self.inside.anchor) a.serial → Stops (g.D.Disk.past c.self.inside.disk) (g.D.Disk.past c.write.new.disk) (IsOneOf (Some c.self.inside.anchor) (Some a))) same (λ good above. c.write.ensures.stops tells (Some c.self.inside.anchor) is.anchor good above) fits (omega arith) in
    put_stops v known b (backed_anchor c.self.inside.anchor c.args.uniq v.ring.state.files.uniq) (backed_is_at v.anchor c.args.uniq v.ring.state.files.uniq) fewer (g.D.Disk.past c.self.inside.disk) is (g.D.Disk.past c.write.new.disk) (backed_low v c.args.uniq below) (c.write.ensures.frame tells) newest)

pub returns-in-Ok-clause-stored : goal.returns-in-Ok-clause-stored
returns-in-Ok-clause-stored g c =
    let v : Installation = record { ring = c.self.inside.ring; store = c.self.inside.store; anchor = c.self.inside.anchor; reached = c.self.inside.reached; stopped = c.self.inside.stopped } in
    let stopped : c.self.inside.stopped ≡ false = ap (λ (h : Held _). h.now.stopped) c.self.view_is ∙ c.requires.going in
    let known : Known v = record { going = c.self.invariant.going stopped; ring = c.reusable.ensures.limits; area = c.spare.ensures.store.area } in
    let same : backed_anchor c.self.inside.anchor c.args.uniq c.uniq-self-inside.result ≡ backed_anchor c.self.inside.anchor c.args.uniq v.ring.state.files.uniq = ap (λ (n : ℕ). backed_anchor c.self.inside.anchor c.args.uniq n) c.uniq-self-inside.ensures in
    let below : c.args.uniq < next_number v = subst (λ (h : Held _). c.args.uniq < (next_page h.now.ring.state.files).uniq) (sym c.self.view_is) c.requires.below in
    let low : v.anchor.serial < 2 ^ 62 = subst (λ (h : Held _). h.now.anchor.serial < 2 ^ 62) (sym c.self.view_is) c.requires.low in
    let fits : IsAnchor (backed_anchor v.anchor c.args.uniq v.ring.state.files.uniq) = backed_is_anchor v.anchor c.args.uniq v.ring.state.files.uniq low (omega (arith, below, (number_between v.ring.state.files).1, known.ring.limits.uniq.1)) known.ring.limits.uniq.1 known.going.anchor in
    let fewer : (space : ℕ) → is_up (backed_anchor c.self.inside.anchor c.args.uniq v.ring.state.files.uniq) space ≡ true → is_up v.anchor space ≡ true = λ space up. up in
    subst (λ (h : Held _). g.D.Disk.tells → (b : Behind) → IsStored (g.D.Disk.past h.disk) h.now b
    → IsStored (g.D.Disk.past c.write.new.disk) (record { ring = c.mark_backed.new.self; store = c.self.inside.store; anchor = backed_anchor c.self.inside.anchor c.args.uniq c.uniq-self-inside.result; reached = c.self.inside.reached; stopped = c.self.inside.stopped }) b) c.self.view_is (λ tells b is.
    let ready = subst (λ (a : Anchor). IsAnchor a → IsAbove (Some c.self.inside.anchor) a.serial → IsReady (g.D.Disk.past c.write.new.disk) (Some a)) same (λ good above. c.in-Ok.ensures.ok tells (Some c.self.inside.anchor) is.anchor good above) fits (omega arith) in
    let stored = put_stored v known b (backed_anchor c.self.inside.anchor c.args.uniq v.ring.state.files.uniq) (backed_is_at v.anchor c.args.uniq v.ring.state.files.uniq) fewer (g.D.Disk.past c.self.inside.disk) is (g.D.Disk.past c.write.new.disk) (c.write.ensures.frame tells).behind (c.in-Ok.ensures.reads tells) ready in
    subst (λ (x : Installation). IsStored (g.D.Disk.past c.write.new.disk) x b) (sym (backed_is v c.args.uniq c.uniq-self-inside.result c.mark_backed.new.self c.mark_backed.ensures c.uniq-self-inside.ensures)) (backed_stored (g.D.Disk.past c.write.new.disk) (with_anchor v (backed_anchor c.self.inside.anchor c.args.uniq v.ring.state.files.uniq)) b c.args.uniq stored))

pub returns-in-Err-clause-cause : goal.returns-in-Err-clause-cause
returns-in-Err-clause-cause g c =
    let v : Installation = record { ring = c.self.inside.ring; store = c.self.inside.store; anchor = c.self.inside.anchor; reached = c.self.inside.reached; stopped = c.self.inside.stopped } in
    let stopped : c.self.inside.stopped ≡ false = ap (λ (h : Held _). h.now.stopped) c.self.view_is ∙ c.requires.going in
    let known : Known v = record { going = c.self.invariant.going stopped; ring = c.reusable.ensures.limits; area = c.spare.ensures.store.area } in
    subst (λ (h : Held _). HasStorageCause {T = Unit {0}} (config_of h.now) (g.D.Disk.fault_counts h.disk) (g.D.Disk.fault_counts c.write.new.disk) (Err Failed)) c.self.view_is
    (pair_failed c.self.inside.ring.config c.reusable.ensures.limits.config (g.D.Disk.fault_counts c.self.inside.disk) (g.D.Disk.fault_counts c.write.new.disk) _ (subst (λ r. HasChunkCause 0 (g.D.Disk.fault_counts c.self.inside.disk) (g.D.Disk.fault_counts c.write.new.disk) r) c.in-Err.is c.write.ensures.cause))

pub invariant_of-self : goal.invariant_of-self
invariant_of-self g c =
    let v : Installation = record { ring = c.self.inside.ring; store = c.self.inside.store; anchor = c.self.inside.anchor; reached = c.self.inside.reached; stopped = c.self.inside.stopped } in
    let stopped : c.self.inside.stopped ≡ false = ap (λ (h : Held _). h.now.stopped) c.self.view_is ∙ c.requires.going in
    let known : Known v = record { going = c.self.invariant.going stopped; ring = c.reusable.ensures.limits; area = c.spare.ensures.store.area } in
    let below : c.args.uniq < next_number v = subst (λ (h : Held _). c.args.uniq < (next_page h.now.ring.state.files).uniq) (sym c.self.view_is) c.requires.below in
    let low : v.anchor.serial < 2 ^ 62 = subst (λ (h : Held _). h.now.anchor.serial < 2 ^ 62) (sym c.self.view_is) c.requires.low in
    let fits : IsAnchor (backed_anchor v.anchor c.args.uniq v.ring.state.files.uniq) = backed_is_anchor v.anchor c.args.uniq v.ring.state.files.uniq low (omega (arith, below, (number_between v.ring.state.files).1, known.ring.limits.uniq.1)) known.ring.limits.uniq.1 known.going.anchor in
    subst (λ (x : Installation). IsInstallation (g.D.Disk.sizes c.write.new.disk) x) (sym (backed_is v c.args.uniq c.uniq-self-inside.result c.mark_backed.new.self c.mark_backed.ensures c.uniq-self-inside.ensures)) (record {
      disk = subst (λ (sizes : ℕ → ℕ). HasAll c.self.inside.ring.config sizes) (sym c.write.ensures.sizes) c.self.invariant.disk;
      going = λ going_on. backed_going v c.args.uniq below fits known.going;
      stamps = λ going_on. c.self.invariant.stamps stopped;
    })
