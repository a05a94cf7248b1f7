use Rattle.std.specs.Prelude.{Bool, IfOk, List, Ok, Result, true, ◌∷◌, ◌≡◌}
use Rattle.std.proofs.Common.{inl, subst, sym}
use Rattle.ol_ports.proofs.StopLaws.{stops_none, stops_weaker}
use Rattle.ol_ports.specs.Stops.{Stops}
use Rattle.ol_storage.specs.declared.operations.Operation.{Operation}
use Rattle.ol_storage.specs.Operations.{AreRight, StandsWithinOne, behind_after, behind_all}
use Rattle.ol_storage.specs.Storing.{IsStored}
use Rattle.ol_storage.proofs.Lists.{at_rest, one_more}
use Rattle.ol_storage.proofs.storage.Storage.+carry_out.Goals as goal

pub returns-in_default-clause-stops : goal.returns-in_default-clause-stops
returns-in_default-clause-stops g n c tells b is right = stops_none _ _ (λ d rest. at_rest c.args.operations.now c.args.self.now.now b d (c.is_between.ensures.stands tells b is d rest))

pub returns-then-not-can_carry_out-clause-stops : goal.returns-then-not-can_carry_out-clause-stops
returns-then-not-can_carry_out-clause-stops g n c tells b is right = stops_none _ _ (λ d rest. at_rest c.args.operations.now c.args.self.now.now b d (c.can_carry_out.ensures.stands tells b is d rest))

pub returns-in-Ok-clause-stops : goal.returns-in-Ok-clause-stops
returns-in-Ok-clause-stops g n c tells b is right =
    subst (λ (l : List Operation). AreRight l c.args.self.now.now b → Stops (g.D.Disk.past c.args.self.now.disk) (g.D.Disk.past c.carry_out.new.self.disk) (StandsWithinOne l c.args.self.now.now b)) (sym c.in-Some.ensures.cases.0)
    (λ both. one_more (g.D.Disk.past c.args.self.now.disk) (g.D.Disk.past c.carry_out_one.new.self.disk) (g.D.Disk.past c.carry_out.new.self.disk) c.in-Some.first.now c.in-Some.rest.now c.args.self.now.now c.carry_out_one.new.self.now b
    (c.carry_out_one.ensures.stops tells b is both.0) c.in-Ok.ensures.step
    (c.carry_out.ensures.stops tells (behind_after c.in-Some.first.now b) (c.in-Ok.ensures.stored tells b is both.0) (both.1 c.carry_out_one.new.self.now c.in-Ok.ensures.step))) right

pub returns-in-Ok-clause-stored : goal.returns-in-Ok-clause-stored
returns-in-Ok-clause-stored g n c tells b is right =
    subst (λ (l : List Operation). AreRight l c.args.self.now.now b → IfOk c.carry_out.result (λ all. all ≡ true → IsStored (g.D.Disk.past c.carry_out.new.self.disk) c.carry_out.new.self.now (behind_all l b))) (sym c.in-Some.ensures.cases.0)
    (λ both. c.carry_out.ensures.stored tells (behind_after c.in-Some.first.now b) (c.in-Ok.ensures.stored tells b is both.0) (both.1 c.carry_out_one.new.self.now c.in-Ok.ensures.step)) right

pub returns-in-Err-clause-stops : goal.returns-in-Err-clause-stops
returns-in-Err-clause-stops g n c tells b is right =
    subst (λ (l : List Operation). AreRight l c.args.self.now.now b → Stops (g.D.Disk.past c.args.self.now.disk) (g.D.Disk.past c.carry_out_one.new.self.disk) (StandsWithinOne l c.args.self.now.now b)) (sym c.in-Some.ensures.cases.0)
    (λ both. stops_weaker _ _ _ _ (λ d s. inl s) (c.carry_out_one.ensures.stops tells b is both.0)) right
