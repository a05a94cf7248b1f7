use Rattle.std.specs.Prelude.{false, ℕ, ◌+◌, ◌<◌, ◌≡◌}
use Rattle.std.proofs.Common.{ap, arith, subst, sym, ◌∙◌}
use Rattle.ol_storage.specs.Behind.{Behind, TouchesNone, pages_of, record_at, with_redone}
use Rattle.ol_storage.specs.Behind.{last_of as last_behind}
use Rattle.ol_storage.specs.Installation.{Held, Installation, config_of}
use Rattle.ol_storage.specs.Storing.{IsStored}
use Rattle.ol_storage.proofs.Images.{Known}
use Rattle.ol_storage.proofs.LogSteps.{rest_of}
use Rattle.ol_storage.proofs.PageSteps.{passed_agree}
use Rattle.ol_storage.proofs.RedoCalls.{reached_stored}
use Rattle.ol_storage.proofs.storage.Storage.pass.Goals as goal

pub overflow_add-self : goal.overflow_add-self
overflow_add-self g c =
    let behind = subst (λ (h : Held _). h.now.reached + 1 < h.now.ring.state.next) (sym c.self.view_is) c.requires.behind in
    omega (arith, behind, c.next_position.ensures.limits.1)

pub returns-clause-stored : goal.returns-clause-stored
returns-clause-stored g c =
    let v : Installation = record { ring = c.self.inside.ring; store = c.self.inside.store; anchor = c.self.inside.anchor; reached = c.self.inside.reached; stopped = c.self.inside.stopped } in
    let stopped : c.self.inside.stopped ≡ false = ap (λ (h : Held _). h.now.stopped) c.self.view_is ∙ c.requires.going in
    let known : Known v = record { going = c.self.invariant.going stopped; ring = c.reusable.ensures.limits; area = c.spare.ensures.store.area } in
    let behind = subst (λ (h : Held _). h.now.reached + 1 < h.now.ring.state.next) (sym c.self.view_is) c.requires.behind in
    subst (λ (h : Held _). g.D.Disk.tells → (b : Behind) → IsStored (g.D.Disk.past h.disk) h.now b → TouchesNone (config_of h.now) h.now.anchor (record_at b (h.now.reached + 1))
    → IsStored (g.D.Disk.past c.self.inside.disk) (record { ring = c.self.inside.ring; store = c.self.inside.store; anchor = c.self.inside.anchor; reached = c.self.inside.reached + 1; stopped = c.self.inside.stopped }) (with_redone b)) c.self.view_is (λ tells b is none.
    let below : b.reached < last_behind b = omega (arith, behind, is.reached, is.next) in
    reached_stored (g.D.Disk.past c.self.inside.disk) v b (pages_of c.self.inside.anchor b) known (rest_of _ v b is) below is.pages.on_disk is.pages.flushed
    (passed_agree c.self.inside.ring.config b c.self.inside.anchor is.behind below (subst (λ (n : ℕ). TouchesNone c.self.inside.ring.config c.self.inside.anchor (record_at b (n + 1))) is.reached none)))
