use Rattle.std.proofs.Common.{inl, subst, sym}
use Rattle.ol_ports.proofs.StopLaws.{stops_none, stops_weaker}
use Rattle.ol_ports.specs.Stops.{Stops}
use Rattle.ol_storage.specs.declared.operations.Operation.{Operation}
use Rattle.ol_storage.specs.Operations.{IsRight, StandsWithin}
use Rattle.ol_storage.proofs.Lists.{before_one}
use Rattle.ol_storage.proofs.storage.Storage.carry_out_one.Goals as goal

pub returns-in-Append-clause-stops : goal.returns-in-Append-clause-stops
returns-in-Append-clause-stops g c tells b is right = stops_weaker _ _ _ _ (λ d s. inl s) (c.append.ensures.stops tells b is)

pub returns-in-Flush-clause-stops : goal.returns-in-Flush-clause-stops
returns-in-Flush-clause-stops g c tells b is right = stops_weaker _ _ _ _ (λ d s. inl s) (c.flush.ensures.stops tells b is)

pub returns-in-Switch-clause-stops : goal.returns-in-Switch-clause-stops
returns-in-Switch-clause-stops g c tells b is right = stops_weaker _ _ _ _ (λ d s. inl s) (c.switch.ensures.stops tells b is)

pub returns-in-Checkpoint-clause-stops : goal.returns-in-Checkpoint-clause-stops
returns-in-Checkpoint-clause-stops g c tells b is right =
    subst (λ (o : Operation). IsRight o c.args.self.now.now b → Stops (g.D.Disk.past c.args.self.now.disk) (g.D.Disk.past c.checkpoint.new.self.disk) (StandsWithin o c.args.self.now.now b)) (sym c.in-Checkpoint.is)
    (λ least. c.checkpoint.ensures.stops tells b is least) right

pub returns-in-Pass-clause-stops : goal.returns-in-Pass-clause-stops
returns-in-Pass-clause-stops g c tells b is right =
    subst (λ disk. Stops (g.D.Disk.past c.args.self.now.disk) (g.D.Disk.past disk) (StandsWithin c.args.operation.now c.args.self.now.now b)) (sym c.pass.ensures.disk)
    (stops_none _ _ (λ d rest. before_one c.args.operation.now c.args.self.now.now b d (c.is_between-between.ensures.stands tells b is d rest)))
