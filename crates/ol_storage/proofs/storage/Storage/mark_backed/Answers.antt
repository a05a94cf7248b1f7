use Rattle.std.specs.Prelude.{Err, IfOk, IsErrOf, None, Ok, OnErr, OnOk, Option, Some, [], false, true, slice_index_or, ℕ, ◌+◌, ◌<◌, ◌^◌, ◌≡◌}
use Rattle.std.proofs.Common.{ap, arith, inl, refl, subst, sym, ◌∙◌}
use Rattle.ol_ports.proofs.StopLaws.{stops_none}
use Rattle.ol_ports.specs.Stops.{Stops}
use Rattle.ol_storage.proofs.Anchors.{told_number}
use Rattle.ol_storage.specs.Behind.{Behind, is_up, pages_of}
use Rattle.ol_storage.specs.Causes.{HasStorageCause}
use Rattle.ol_storage.specs.declared.storage.StorageFault.TheVariants.{Bad, Failed}
use Rattle.ol_storage.specs.Installation.{HasAll, Held, Installation, IsInstallation, config_of, flushed_of, marked, next_to_back, with_ring, with_store}
use Rattle.ol_storage.specs.Standing.{StandsBetween}
use Rattle.ol_storage.specs.Storing.{IsStored}
use Rattle.ol_storage.proofs.Images.{Known}
use Rattle.ol_storage.proofs.Quiet.{before_stored, loaded_stored, passed_stored, room_stored, stored_stands, switched_going, switched_stored}
use Rattle.ol_storage.proofs.storage.Storage.mark_backed.Goals as goal

pub returns-in_default-clause-stops : goal.returns-in_default-clause-stops
returns-in_default-clause-stops g c =
    let v : Installation = record { ring = c.self.inside.ring; store = c.self.inside.store; anchor = c.self.inside.anchor; reached = c.self.inside.reached; stopped = c.self.inside.stopped } in
    let stopped : c.self.inside.stopped ≡ false = ap (λ (h : Held _). h.now.stopped) c.self.view_is ∙ c.requires.going in
    let known : Known v = record { going = c.self.invariant.going stopped; ring = c.reusable.ensures.limits; area = c.spare.ensures.store.area } in
    subst (λ (h : Held _). g.D.Disk.tells → (b : Behind) → IsStored (g.D.Disk.past h.disk) h.now b → Stops (g.D.Disk.past h.disk) (g.D.Disk.past h.disk) (StandsBetween (config_of h.now) b h.now.anchor (marked h.now (next_to_back h.now)).anchor (flushed_of h.now) (flushed_of h.now))) c.self.view_is
    (λ tells b is. stops_none _ _ (λ d rest. inl (stored_stands (g.D.Disk.past c.self.inside.disk) v b known is d rest)))

pub returns-in-Ok-clause-answer : goal.returns-in-Ok-clause-answer
returns-in-Ok-clause-answer g c = subst (λ (h : Held _). Some c.in-Some.next.uniq ≡ next_to_back h.now) c.self.view_is (told_number _ c.in-Some.next (sym c.unbacked.ensures.value ∙ c.in-Some.is))

pub returns-in-Ok-clause-stops : goal.returns-in-Ok-clause-stops
returns-in-Ok-clause-stops g c tells b is =
    let number = subst (λ (h : Held _). Some c.in-Some.next.uniq ≡ next_to_back h.now) c.self.view_is (told_number _ c.in-Some.next (sym c.unbacked.ensures.value ∙ c.in-Some.is)) in
    subst (λ (o : Option ℕ). Stops (g.D.Disk.past c.args.self.now.disk) (g.D.Disk.past c.write_backed.new.self.disk) (StandsBetween (config_of c.args.self.now.now) b c.args.self.now.now.anchor (marked c.args.self.now.now o).anchor (flushed_of c.args.self.now.now) (flushed_of c.args.self.now.now))) number
    (c.write_backed.ensures.stops tells b is)

pub returns-in-Err-clause-stops : goal.returns-in-Err-clause-stops
returns-in-Err-clause-stops g c tells b is =
    let number = subst (λ (h : Held _). Some c.in-Some.next.uniq ≡ next_to_back h.now) c.self.view_is (told_number _ c.in-Some.next (sym c.unbacked.ensures.value ∙ c.in-Some.is)) in
    subst (λ (o : Option ℕ). Stops (g.D.Disk.past c.args.self.now.disk) (g.D.Disk.past c.write_backed.new.self.disk) (StandsBetween (config_of c.args.self.now.now) b c.args.self.now.now.anchor (marked c.args.self.now.now o).anchor (flushed_of c.args.self.now.now) (flushed_of c.args.self.now.now))) number
    (c.write_backed.ensures.stops tells b is)
