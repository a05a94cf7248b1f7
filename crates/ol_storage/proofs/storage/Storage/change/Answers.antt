use Rattle.std.specs.Prelude.{Err, IsErrOf, false, true, nat_lt, ℕ, ◌+◌, ◌<◌, ◌≡◌}
use Rattle.std.proofs.Common.{ap, arith, subst, sym, ◌∙◌}
use Rattle.std.proofs.lemmas.Bool.{and_parts}
use Rattle.std.proofs.lemmas.Bool.Decides.{nat_tests}
use Rattle.ol_values.specs.Config.{Config, has_page, has_place}
use Rattle.ol_values.specs.Image.{page_bytes}
use Rattle.ol_before.specs.Images.{captured}
use Rattle.ol_chunks.specs.Places.{log_area}
use Rattle.ol_ports.proofs.StopLaws.{stops_both}
use Rattle.ol_ports.specs.Causes.{HasChunkCause}
use Rattle.ol_ports.specs.Frames.{FramedIn}
use Rattle.ol_ports.specs.Stops.{Stops}
use Rattle.ol_loglog.specs.RingValue.{HasRoom, logged_state}
use Rattle.ol_store.specs.Holding.{CleanAreFlushed, IsOnDisk, in_store}
use Rattle.ol_store.specs.Pages.{changed}
use Rattle.ol_store.specs.Stores.{image_with}
use Rattle.ol_storage.specs.Behind.{Behind, is_up, pages_of, with_record}
use Rattle.ol_storage.specs.Causes.{HasStorageCause}
use Rattle.ol_storage.specs.Installation.{HasAll, Held, Installation, config_of, flushed_of, last_of, with_store}
use Rattle.ol_storage.specs.Standing.{StandsFrom}
use Rattle.ol_storage.specs.Storing.{IsStored}
use Rattle.ol_storage.specs.declared.storage.StorageFault.TheVariants.{Bad, Failed}
use Rattle.ol_storage.proofs.Causes.{log_failed}
use Rattle.ol_storage.proofs.ChangeCalls.{IsAlike, append_call_stops, change_result, changed_alike, rest_beside, store_call_stops, store_known}
use Rattle.ol_storage.proofs.Images.{Known}
use Rattle.ol_storage.proofs.LogSteps.{log_going, logged_goes, rest_of}
use Rattle.ol_storage.proofs.storage.Storage.change.Goals as goal

pub returns-in-Err-Bad-clause-stops : goal.returns-in-Err-Bad-clause-stops
returns-in-Err-Bad-clause-stops g c =
    let v : Installation = record { ring = c.self.inside.ring; store = c.self.inside.store; anchor = c.self.inside.anchor; reached = c.self.inside.reached; stopped = c.self.inside.stopped } in
    let stopped : c.self.inside.stopped ≡ false = ap (λ (h : Held _). h.now.stopped) c.self.view_is ∙ c.requires.going in
    let known : Known v = record { going = c.self.invariant.going stopped; ring = c.reusable.ensures.limits; area = c.spare.ensures.store.area } in
    let up : is_up c.self.inside.anchor c.args.rid.space ≡ true = subst (λ (h : Held _). is_up h.now.anchor c.args.rid.space ≡ true) (sym c.self.view_is) c.requires.up in
    subst (λ (h : Held _). g.D.Disk.tells → (b : Behind) → IsStored (g.D.Disk.past h.disk) h.now b → Stops (g.D.Disk.past h.disk) (g.D.Disk.past c.change.new.disk) (StandsFrom (config_of h.now) b h.now.anchor (flushed_of h.now) (last_of h.now))) c.self.view_is
    (λ tells b is. (store_call_stops (g.D.Disk.past c.self.inside.disk) (g.D.Disk.past c.change.new.disk) v b known (rest_of _ v b is) (c.change.ensures.frame tells) (c.change.ensures.stops tells (pages_of c.self.inside.anchor b) is.pages.on_disk up)))

pub returns-in-Err-NoMemory-clause-stops : goal.returns-in-Err-NoMemory-clause-stops
returns-in-Err-NoMemory-clause-stops g c =
    let v : Installation = record { ring = c.self.inside.ring; store = c.self.inside.store; anchor = c.self.inside.anchor; reached = c.self.inside.reached; stopped = c.self.inside.stopped } in
    let stopped : c.self.inside.stopped ≡ false = ap (λ (h : Held _). h.now.stopped) c.self.view_is ∙ c.requires.going in
    let known : Known v = record { going = c.self.invariant.going stopped; ring = c.reusable.ensures.limits; area = c.spare.ensures.store.area } in
    let up : is_up c.self.inside.anchor c.args.rid.space ≡ true = subst (λ (h : Held _). is_up h.now.anchor c.args.rid.space ≡ true) (sym c.self.view_is) c.requires.up in
    subst (λ (h : Held _). g.D.Disk.tells → (b : Behind) → IsStored (g.D.Disk.past h.disk) h.now b → Stops (g.D.Disk.past h.disk) (g.D.Disk.past c.change.new.disk) (StandsFrom (config_of h.now) b h.now.anchor (flushed_of h.now) (last_of h.now))) c.self.view_is
    (λ tells b is. (store_call_stops (g.D.Disk.past c.self.inside.disk) (g.D.Disk.past c.change.new.disk) v b known (rest_of _ v b is) (c.change.ensures.frame tells) (c.change.ensures.stops tells (pages_of c.self.inside.anchor b) is.pages.on_disk up)))

pub returns-in-Err-Failed-clause-stops : goal.returns-in-Err-Failed-clause-stops
returns-in-Err-Failed-clause-stops g c =
    let v : Installation = record { ring = c.self.inside.ring; store = c.self.inside.store; anchor = c.self.inside.anchor; reached = c.self.inside.reached; stopped = c.self.inside.stopped } in
    let stopped : c.self.inside.stopped ≡ false = ap (λ (h : Held _). h.now.stopped) c.self.view_is ∙ c.requires.going in
    let known : Known v = record { going = c.self.invariant.going stopped; ring = c.reusable.ensures.limits; area = c.spare.ensures.store.area } in
    let up : is_up c.self.inside.anchor c.args.rid.space ≡ true = subst (λ (h : Held _). is_up h.now.anchor c.args.rid.space ≡ true) (sym c.self.view_is) c.requires.up in
    subst (λ (h : Held _). g.D.Disk.tells → (b : Behind) → IsStored (g.D.Disk.past h.disk) h.now b → Stops (g.D.Disk.past h.disk) (g.D.Disk.past c.change.new.disk) (StandsFrom (config_of h.now) b h.now.anchor (flushed_of h.now) (last_of h.now))) c.self.view_is
    (λ tells b is. (store_call_stops (g.D.Disk.past c.self.inside.disk) (g.D.Disk.past c.change.new.disk) v b known (rest_of _ v b is) (c.change.ensures.frame tells) (c.change.ensures.stops tells (pages_of c.self.inside.anchor b) is.pages.on_disk up)))

pub returns-in-Err-Bad-clause-good : goal.returns-in-Err-Bad-clause-good
returns-in-Err-Bad-clause-good g c =
    let up : is_up c.self.inside.anchor c.args.rid.space ≡ true = subst (λ (h : Held _). is_up h.now.anchor c.args.rid.space ≡ true) (sym c.self.view_is) c.requires.up in
    subst (λ (h : Held _). g.D.Disk.tells → (b : Behind) → IsStored (g.D.Disk.past h.disk) h.now b → (chunk at : ℕ) → IsErrOf {T = Unit {0}} (Err (Bad c.in-Err-Bad.chunk c.in-Err-Bad.page)) (Bad chunk at) → ⊥) c.self.view_is
    (λ tells b is chunk at same. c.change.ensures.good tells (pages_of c.self.inside.anchor b) is.pages.on_disk is.pages.flushed up c.in-Err-Bad.chunk c.in-Err-Bad.page (c.in-Err-Bad.is ∙ ap Err c.in-Err-Bad.field-0-is))

pub invariant_of-self-in-Ok-append : goal.invariant_of-self-in-Ok-append
invariant_of-self-in-Ok-append g c =
    let v : Installation = record { ring = c.self.inside.ring; store = c.self.inside.store; anchor = c.self.inside.anchor; reached = c.self.inside.reached; stopped = c.self.inside.stopped } in
    let stopped : c.self.inside.stopped ≡ false = ap (λ (h : Held _). h.now.stopped) c.self.view_is ∙ c.requires.going in
    let known : Known v = record { going = c.self.invariant.going stopped; ring = c.reusable.ensures.limits; area = c.spare.ensures.store.area } in
    let alike : IsAlike c.self.inside.store c.change.new.self = changed_alike _ _ c.args.rid.space c.args.rid.page c.next_position-stamp.result c.in-Ok.ensures.changed in
    let known_now = store_known v c.change.new.self alike known in
    let goes = logged_goes c.args.rec.now c.self.inside.ring.state c.reusable.ensures.limits.limits.first in
    let below : c.self.inside.reached + 1 < c.self.inside.ring.state.next + 1 = omega (arith, known.going.reached) in
    record {
      disk = subst (λ (sizes : ℕ → ℕ). HasAll c.append.new.self.config sizes) (sym (c.in-Ok-append.ensures.sizes ∙ c.in-Ok.ensures.sizes)) (subst (λ (x : Config). HasAll x (g.D.Disk.sizes c.self.inside.disk)) (sym c.in-Ok-append.ensures.fixed) c.self.invariant.disk);
      going = λ going_on. log_going (with_store v c.change.new.self) c.append.new.self (logged_state c.args.rec.now c.self.inside.ring.state) 1 (c.self.inside.reached + 1) goes c.in-Ok-append.ensures.fixed c.in-Ok-append.ensures.step below known_now.going;
      stamps = λ going_on. rw c.in-Ok-append.ensures.step (omega (arith, goes.next, c.in-Ok.ensures.changed.last, c.next_position-stamp.ensures.value, c.self.invariant.stamps stopped));
    }

pub returns-in-Ok-append-clause-captured : goal.returns-in-Ok-append-clause-captured
returns-in-Ok-append-clause-captured g c =
    let up : is_up c.self.inside.anchor c.args.rid.space ≡ true = subst (λ (h : Held _). is_up h.now.anchor c.args.rid.space ≡ true) (sym c.self.view_is) c.requires.up in
    subst (λ (h : Held _). g.D.Disk.tells → (b : Behind) → IsStored (g.D.Disk.past h.disk) h.now b → c.args.capture ≡ true → c.change.new.self.before ≡ captured (image_with c.args.rid.space c.args.rid.page (page_bytes ((pages_of h.now.anchor b).now c.args.rid.space c.args.rid.page))) h.now.store.before) c.self.view_is
    (λ tells b is wanted. c.in-Ok.ensures.image tells (pages_of c.self.inside.anchor b) is.pages.on_disk up wanted)

pub returns-in-Ok-append-clause-stops : goal.returns-in-Ok-append-clause-stops
returns-in-Ok-append-clause-stops g c =
    let v : Installation = record { ring = c.self.inside.ring; store = c.self.inside.store; anchor = c.self.inside.anchor; reached = c.self.inside.reached; stopped = c.self.inside.stopped } in
    let stopped : c.self.inside.stopped ≡ false = ap (λ (h : Held _). h.now.stopped) c.self.view_is ∙ c.requires.going in
    let known : Known v = record { going = c.self.invariant.going stopped; ring = c.reusable.ensures.limits; area = c.spare.ensures.store.area } in
    let up : is_up c.self.inside.anchor c.args.rid.space ≡ true = subst (λ (h : Held _). is_up h.now.anchor c.args.rid.space ≡ true) (sym c.self.view_is) c.requires.up in
    let room = subst (λ (h : Held _). HasRoom h.now.ring.config h.now.ring.state) (sym c.self.view_is) c.requires.room in
    let alike : IsAlike c.self.inside.store c.change.new.self = changed_alike _ _ c.args.rid.space c.args.rid.page c.next_position-stamp.result c.in-Ok.ensures.changed in
    let known_now = store_known v c.change.new.self alike known in
    subst (λ (h : Held _). g.D.Disk.tells → (b : Behind) → IsStored (g.D.Disk.past h.disk) h.now b → Stops (g.D.Disk.past h.disk) (g.D.Disk.past c.append.new.disk) (StandsFrom (config_of h.now) b h.now.anchor (flushed_of h.now) (last_of h.now))) c.self.view_is (λ tells b is.
    let rest = rest_beside (g.D.Disk.past c.self.inside.disk) (g.D.Disk.past c.change.new.disk) v c.change.new.self b known (rest_of _ v b is) (λ d left. subst (λ (x : Config). FramedIn (g.D.Disk.past c.self.inside.disk) (in_store x) d) known.going.config ((c.change.ensures.frame tells).behind d left)) in
    stops_both _ (g.D.Disk.past c.change.new.disk) _ _
    (store_call_stops (g.D.Disk.past c.self.inside.disk) (g.D.Disk.past c.change.new.disk) v b known (rest_of _ v b is) (c.change.ensures.frame tells) (c.change.ensures.stops tells (pages_of c.self.inside.anchor b) is.pages.on_disk up))
    (append_call_stops (g.D.Disk.past c.change.new.disk) (g.D.Disk.past c.append.new.disk) v c.change.new.self b c.args.rid c.args.row c.next_position-stamp.result known_now room rest (c.in-Ok.ensures.stored tells (pages_of c.self.inside.anchor b) is.pages.on_disk up)
    (c.append.ensures.frame tells) (λ r floor j ready free. c.append.ensures.stops tells r floor j ready free)))

pub returns-in-Err-clause-stops : goal.returns-in-Err-clause-stops
returns-in-Err-clause-stops g c =
    let v : Installation = record { ring = c.self.inside.ring; store = c.self.inside.store; anchor = c.self.inside.anchor; reached = c.self.inside.reached; stopped = c.self.inside.stopped } in
    let stopped : c.self.inside.stopped ≡ false = ap (λ (h : Held _). h.now.stopped) c.self.view_is ∙ c.requires.going in
    let known : Known v = record { going = c.self.invariant.going stopped; ring = c.reusable.ensures.limits; area = c.spare.ensures.store.area } in
    let up : is_up c.self.inside.anchor c.args.rid.space ≡ true = subst (λ (h : Held _). is_up h.now.anchor c.args.rid.space ≡ true) (sym c.self.view_is) c.requires.up in
    let room = subst (λ (h : Held _). HasRoom h.now.ring.config h.now.ring.state) (sym c.self.view_is) c.requires.room in
    let alike : IsAlike c.self.inside.store c.change.new.self = changed_alike _ _ c.args.rid.space c.args.rid.page c.next_position-stamp.result c.in-Ok.ensures.changed in
    let known_now = store_known v c.change.new.self alike known in
    subst (λ (h : Held _). g.D.Disk.tells → (b : Behind) → IsStored (g.D.Disk.past h.disk) h.now b → Stops (g.D.Disk.past h.disk) (g.D.Disk.past c.append.new.disk) (StandsFrom (config_of h.now) b h.now.anchor (flushed_of h.now) (last_of h.now))) c.self.view_is (λ tells b is.
    let rest = rest_beside (g.D.Disk.past c.self.inside.disk) (g.D.Disk.past c.change.new.disk) v c.change.new.self b known (rest_of _ v b is) (λ d left. subst (λ (x : Config). FramedIn (g.D.Disk.past c.self.inside.disk) (in_store x) d) known.going.config ((c.change.ensures.frame tells).behind d left)) in
    stops_both _ (g.D.Disk.past c.change.new.disk) _ _
    (store_call_stops (g.D.Disk.past c.self.inside.disk) (g.D.Disk.past c.change.new.disk) v b known (rest_of _ v b is) (c.change.ensures.frame tells) (c.change.ensures.stops tells (pages_of c.self.inside.anchor b) is.pages.on_disk up))
    (append_call_stops (g.D.Disk.past c.change.new.disk) (g.D.Disk.past c.append.new.disk) v c.change.new.self b c.args.rid c.args.row c.next_position-stamp.result known_now room rest (c.in-Ok.ensures.stored tells (pages_of c.self.inside.anchor b) is.pages.on_disk up)
    (c.append.ensures.frame tells) (λ r floor j ready free. c.append.ensures.stops tells r floor j ready free)))

pub returns-in-Ok-append-clause-stored : goal.returns-in-Ok-append-clause-stored
returns-in-Ok-append-clause-stored g c =
    let v : Installation = record { ring = c.self.inside.ring; store = c.self.inside.store; anchor = c.self.inside.anchor; reached = c.self.inside.reached; stopped = c.self.inside.stopped } in
    let stopped : c.self.inside.stopped ≡ false = ap (λ (h : Held _). h.now.stopped) c.self.view_is ∙ c.requires.going in
    let known : Known v = record { going = c.self.invariant.going stopped; ring = c.reusable.ensures.limits; area = c.spare.ensures.store.area } in
    let up : is_up c.self.inside.anchor c.args.rid.space ≡ true = subst (λ (h : Held _). is_up h.now.anchor c.args.rid.space ≡ true) (sym c.self.view_is) c.requires.up in
    let room = subst (λ (h : Held _). HasRoom h.now.ring.config h.now.ring.state) (sym c.self.view_is) c.requires.room in
    let alike : IsAlike c.self.inside.store c.change.new.self = changed_alike _ _ c.args.rid.space c.args.rid.page c.next_position-stamp.result c.in-Ok.ensures.changed in
    let known_now = store_known v c.change.new.self alike known in
    let at_end = subst (λ (h : Held _). h.now.reached + 1 ≡ h.now.ring.state.next) (sym c.self.view_is) c.requires.at_end in
    let place = subst (λ (h : Held _). has_place (config_of h.now) c.args.rid ≡ true) (sym c.self.view_is) c.requires.place in
    let slot : c.args.rid.slot < 31 = grind (arith, nat_tests, and_parts (has_page c.self.inside.ring.config c.args.rid.space c.args.rid.page) (nat_lt c.args.rid.slot 31) place) in
    let stamp = c.next_position-stamp.ensures.value in
    subst (λ (h : Held _). g.D.Disk.tells → (b : Behind) → IsStored (g.D.Disk.past h.disk) h.now b
    → IsStored (g.D.Disk.past c.append.new.disk) (record { ring = c.append.new.self; store = c.change.new.self; anchor = c.self.inside.anchor; reached = c.self.inside.reached + 1; stopped = c.self.inside.stopped }) (with_record c.args.rec.now b)) c.self.view_is (λ tells b is.
    let rest = rest_beside (g.D.Disk.past c.self.inside.disk) (g.D.Disk.past c.change.new.disk) v c.change.new.self b known (rest_of _ v b is) (λ d left. subst (λ (x : Config). FramedIn (g.D.Disk.past c.self.inside.disk) (in_store x) d) known.going.config ((c.change.ensures.frame tells).behind d left)) in
    change_result (g.D.Disk.past c.change.new.disk) (g.D.Disk.past c.append.new.disk) v c.change.new.self c.append.new.self b c.args.rec.now c.args.rid c.args.row known_now room c.in-Ok-append.ensures.fixed c.in-Ok-append.ensures.step at_end slot c.requires.moves rest
    (subst (λ (n : ℕ). IsOnDisk (g.D.Disk.past c.change.new.disk) c.change.new.self (changed (pages_of c.self.inside.anchor b) c.args.rid c.args.row n)) stamp (c.in-Ok.ensures.stored tells (pages_of c.self.inside.anchor b) is.pages.on_disk up))
    (subst (λ (n : ℕ). CleanAreFlushed c.change.new.self (changed (pages_of c.self.inside.anchor b) c.args.rid c.args.row n)) stamp (c.in-Ok.ensures.logged (pages_of c.self.inside.anchor b) is.pages.flushed))
    (c.append.ensures.frame tells).behind (c.in-Ok-append.ensures.reads tells) c.in-Ok-append.ensures.order (λ r floor j ready free behind. c.in-Ok-append.ensures.ok tells r floor j ready free behind))

pub returns-in-Err-clause-cause : goal.returns-in-Err-clause-cause
returns-in-Err-clause-cause g c =
    let same = c.in-Ok.ensures.cause.kept (λ clash. cc) in
    subst (λ (h : Held _). HasStorageCause {T = Unit {0}} (config_of h.now) (g.D.Disk.fault_counts h.disk) (g.D.Disk.fault_counts c.append.new.disk) (Err Failed)) c.self.view_is
    (subst (λ counts. HasStorageCause {T = Unit {0}} c.self.inside.ring.config counts (g.D.Disk.fault_counts c.append.new.disk) (Err Failed)) same
    (log_failed c.self.inside.ring.config c.reusable.ensures.limits.config (g.D.Disk.fault_counts c.change.new.disk) (g.D.Disk.fault_counts c.append.new.disk) _ (subst (λ r. HasChunkCause (log_area c.self.inside.ring.config).chunk (g.D.Disk.fault_counts c.change.new.disk) (g.D.Disk.fault_counts c.append.new.disk) r) c.in-Err.is c.append.ensures.cause)))
