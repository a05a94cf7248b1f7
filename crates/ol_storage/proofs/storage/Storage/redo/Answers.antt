use Rattle.std.specs.Prelude.{false, true, nat_lt, ℕ, ◌+◌, ◌<◌, ◌≡◌}
use Rattle.std.proofs.Common.{ap, arith, subst, sym, ◌∙◌}
use Rattle.std.proofs.lemmas.Bool.{and_parts}
use Rattle.std.proofs.lemmas.Bool.Decides.{nat_tests}
use Rattle.ol_values.specs.Config.{Config, has_page, has_place}
use Rattle.ol_ports.specs.Frames.{FramedIn}
use Rattle.ol_ports.specs.Stops.{Stops}
use Rattle.ol_store.specs.Holding.{in_store}
use Rattle.ol_store.specs.Pages.{changed}
use Rattle.ol_storage.specs.Behind.{Behind, Moves, is_up, pages_of, record_at, with_redone}
use Rattle.ol_storage.specs.Behind.{last_of as last_behind}
use Rattle.ol_storage.specs.Installation.{Held, Installation, config_of, flushed_of, last_of, with_store}
use Rattle.ol_storage.specs.Standing.{StandsFrom}
use Rattle.ol_storage.specs.Storing.{IsStored}
use Rattle.ol_storage.proofs.ChangeCalls.{IsAlike, changed_alike, rest_beside, store_call_stops, store_known}
use Rattle.ol_storage.proofs.Images.{Known}
use Rattle.ol_storage.proofs.LogSteps.{rest_of}
use Rattle.ol_storage.proofs.PageSteps.{redone_agree}
use Rattle.ol_storage.proofs.RedoCalls.{reached_stored}
use Rattle.ol_storage.proofs.storage.Storage.redo.Goals as goal

pub returns-in-Ok-clause-stops : goal.returns-in-Ok-clause-stops
returns-in-Ok-clause-stops g c =
    let v : Installation = record { ring = c.self.inside.ring; store = c.self.inside.store; anchor = c.self.inside.anchor; reached = c.self.inside.reached; stopped = c.self.inside.stopped } in
    let stopped : c.self.inside.stopped ≡ false = ap (λ (h : Held _). h.now.stopped) c.self.view_is ∙ c.requires.going in
    let known : Known v = record { going = c.self.invariant.going stopped; ring = c.reusable.ensures.limits; area = c.spare.ensures.store.area } in
    let up : is_up c.self.inside.anchor c.args.rid.space ≡ true = subst (λ (h : Held _). is_up h.now.anchor c.args.rid.space ≡ true) (sym c.self.view_is) c.requires.up in
    subst (λ (h : Held _). g.D.Disk.tells → (b : Behind) → IsStored (g.D.Disk.past h.disk) h.now b → Stops (g.D.Disk.past h.disk) (g.D.Disk.past c.change.new.disk) (StandsFrom (config_of h.now) b h.now.anchor (flushed_of h.now) (last_of h.now))) c.self.view_is
    (λ tells b is. (store_call_stops (g.D.Disk.past c.self.inside.disk) (g.D.Disk.past c.change.new.disk) v b known (rest_of _ v b is) (c.change.ensures.frame tells) (c.change.ensures.stops tells (pages_of c.self.inside.anchor b) is.pages.on_disk up)))

pub returns-in-Err-Bad-clause-stops : goal.returns-in-Err-Bad-clause-stops
returns-in-Err-Bad-clause-stops g c =
    let v : Installation = record { ring = c.self.inside.ring; store = c.self.inside.store; anchor = c.self.inside.anchor; reached = c.self.inside.reached; stopped = c.self.inside.stopped } in
    let stopped : c.self.inside.stopped ≡ false = ap (λ (h : Held _). h.now.stopped) c.self.view_is ∙ c.requires.going in
    let known : Known v = record { going = c.self.invariant.going stopped; ring = c.reusable.ensures.limits; area = c.spare.ensures.store.area } in
    let up : is_up c.self.inside.anchor c.args.rid.space ≡ true = subst (λ (h : Held _). is_up h.now.anchor c.args.rid.space ≡ true) (sym c.self.view_is) c.requires.up in
    subst (λ (h : Held _). g.D.Disk.tells → (b : Behind) → IsStored (g.D.Disk.past h.disk) h.now b → Stops (g.D.Disk.past h.disk) (g.D.Disk.past c.change.new.disk) (StandsFrom (config_of h.now) b h.now.anchor (flushed_of h.now) (last_of h.now))) c.self.view_is
    (λ tells b is. (store_call_stops (g.D.Disk.past c.self.inside.disk) (g.D.Disk.past c.change.new.disk) v b known (rest_of _ v b is) (c.change.ensures.frame tells) (c.change.ensures.stops tells (pages_of c.self.inside.anchor b) is.pages.on_disk up)))

pub returns-in-Err-NoMemory-clause-stops : goal.returns-in-Err-NoMemory-clause-stops
returns-in-Err-NoMemory-clause-stops g c =
    let v : Installation = record { ring = c.self.inside.ring; store = c.self.inside.store; anchor = c.self.inside.anchor; reached = c.self.inside.reached; stopped = c.self.inside.stopped } in
    let stopped : c.self.inside.stopped ≡ false = ap (λ (h : Held _). h.now.stopped) c.self.view_is ∙ c.requires.going in
    let known : Known v = record { going = c.self.invariant.going stopped; ring = c.reusable.ensures.limits; area = c.spare.ensures.store.area } in
    let up : is_up c.self.inside.anchor c.args.rid.space ≡ true = subst (λ (h : Held _). is_up h.now.anchor c.args.rid.space ≡ true) (sym c.self.view_is) c.requires.up in
    subst (λ (h : Held _). g.D.Disk.tells → (b : Behind) → IsStored (g.D.Disk.past h.disk) h.now b → Stops (g.D.Disk.past h.disk) (g.D.Disk.past c.change.new.disk) (StandsFrom (config_of h.now) b h.now.anchor (flushed_of h.now) (last_of h.now))) c.self.view_is
    (λ tells b is. (store_call_stops (g.D.Disk.past c.self.inside.disk) (g.D.Disk.past c.change.new.disk) v b known (rest_of _ v b is) (c.change.ensures.frame tells) (c.change.ensures.stops tells (pages_of c.self.inside.anchor b) is.pages.on_disk up)))

pub returns-in-Err-Failed-clause-stops : goal.returns-in-Err-Failed-clause-stops
returns-in-Err-Failed-clause-stops g c =
    let v : Installation = record { ring = c.self.inside.ring; store = c.self.inside.store; anchor = c.self.inside.anchor; reached = c.self.inside.reached; stopped = c.self.inside.stopped } in
    let stopped : c.self.inside.stopped ≡ false = ap (λ (h : Held _). h.now.stopped) c.self.view_is ∙ c.requires.going in
    let known : Known v = record { going = c.self.invariant.going stopped; ring = c.reusable.ensures.limits; area = c.spare.ensures.store.area } in
    let up : is_up c.self.inside.anchor c.args.rid.space ≡ true = subst (λ (h : Held _). is_up h.now.anchor c.args.rid.space ≡ true) (sym c.self.view_is) c.requires.up in
    subst (λ (h : Held _). g.D.Disk.tells → (b : Behind) → IsStored (g.D.Disk.past h.disk) h.now b → Stops (g.D.Disk.past h.disk) (g.D.Disk.past c.change.new.disk) (StandsFrom (config_of h.now) b h.now.anchor (flushed_of h.now) (last_of h.now))) c.self.view_is
    (λ tells b is. (store_call_stops (g.D.Disk.past c.self.inside.disk) (g.D.Disk.past c.change.new.disk) v b known (rest_of _ v b is) (c.change.ensures.frame tells) (c.change.ensures.stops tells (pages_of c.self.inside.anchor b) is.pages.on_disk up)))

pub returns-in-Ok-clause-stored : goal.returns-in-Ok-clause-stored
returns-in-Ok-clause-stored g c =
    let v : Installation = record { ring = c.self.inside.ring; store = c.self.inside.store; anchor = c.self.inside.anchor; reached = c.self.inside.reached; stopped = c.self.inside.stopped } in
    let stopped : c.self.inside.stopped ≡ false = ap (λ (h : Held _). h.now.stopped) c.self.view_is ∙ c.requires.going in
    let known : Known v = record { going = c.self.invariant.going stopped; ring = c.reusable.ensures.limits; area = c.spare.ensures.store.area } in
    let up : is_up c.self.inside.anchor c.args.rid.space ≡ true = subst (λ (h : Held _). is_up h.now.anchor c.args.rid.space ≡ true) (sym c.self.view_is) c.requires.up in
    let alike : IsAlike c.self.inside.store c.change.new.self = changed_alike _ _ c.args.rid.space c.args.rid.page (c.self.inside.reached + 1) c.in-Ok.ensures.changed in
    let behind = subst (λ (h : Held _). h.now.reached + 1 < h.now.ring.state.next) (sym c.self.view_is) c.requires.behind in
    let place = subst (λ (h : Held _). has_place (config_of h.now) c.args.rid ≡ true) (sym c.self.view_is) c.requires.place in
    let slot : c.args.rid.slot < 31 = grind (arith, nat_tests, and_parts (has_page c.self.inside.ring.config c.args.rid.space c.args.rid.page) (nat_lt c.args.rid.slot 31) place) in
    subst (λ (h : Held _). g.D.Disk.tells → (b : Behind) → IsStored (g.D.Disk.past h.disk) h.now b → Moves (record_at b (h.now.reached + 1)) c.args.rid c.args.row
    → IsStored (g.D.Disk.past c.change.new.disk) (record { ring = c.self.inside.ring; store = c.change.new.self; anchor = c.self.inside.anchor; reached = c.self.inside.reached + 1; stopped = c.self.inside.stopped }) (with_redone b)) c.self.view_is (λ tells b is moves.
    let rest = rest_beside (g.D.Disk.past c.self.inside.disk) (g.D.Disk.past c.change.new.disk) v c.change.new.self b known (rest_of _ v b is) (λ d left. subst (λ (x : Config). FramedIn (g.D.Disk.past c.self.inside.disk) (in_store x) d) known.going.config ((c.change.ensures.frame tells).behind d left)) in
    let below : b.reached < last_behind b = omega (arith, behind, is.reached, is.next) in
    reached_stored (g.D.Disk.past c.change.new.disk) (with_store v c.change.new.self) b (changed (pages_of c.self.inside.anchor b) c.args.rid c.args.row (c.self.inside.reached + 1)) (store_known v c.change.new.self alike known) rest below
    (c.in-Ok.ensures.stored tells (pages_of c.self.inside.anchor b) is.pages.on_disk up) (c.in-Ok.ensures.logged (pages_of c.self.inside.anchor b) is.pages.flushed)
    (redone_agree c.self.inside.ring.config b c.self.inside.anchor c.args.rid c.args.row (c.self.inside.reached + 1) is.behind below slot (subst (λ (n : ℕ). Moves (record_at b (n + 1)) c.args.rid c.args.row) is.reached moves) (ap (λ (n : ℕ). n + 1) is.reached)))
