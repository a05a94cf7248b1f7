use Rattle.std.proofs.Common.{arith, sym, subst}
use Rattle.ol_ports.proofs.FrameLaws.{framed_none, outside_none}
use Rattle.ol_ports.proofs.StopLaws.{stops_none}
use Rattle.ol_physlog.specs.States.{IsLaid, Log}
use Rattle.ol_physlog.proofs.SettleLaws.{settled_same}
use Rattle.ol_physlog.proofs.StateLaws.{laid_holds}
use Rattle.ol_physlog.proofs.log.PhysLog.settle.Goals as goal

pub returns-then-settled-added-clause-stops : goal.returns-then-settled-added-clause-stops
returns-then-settled-added-clause-stops g c tells config images laid = stops_none _ _ (laid_holds config _ c.args.self.now images laid)

pub returns-then-settled-added-clause-value : goal.returns-then-settled-added-clause-value
returns-then-settled-added-clause-value g c = sym (settled_same c.args.self.now c.added.ensures.log (omega (arith, c.if-settled-added.true, c.settled.ensures, c.added.ensures.value)))

pub returns-then-settled-added-clause-frame : goal.returns-then-settled-added-clause-frame
returns-then-settled-added-clause-frame g c tells = stops_none _ _ (λ d rest. framed_none _ _ d rest)

pub returns-clause-ok : goal.returns-clause-ok
returns-clause-ok g c tells config images laid = subst (λ (t : Log). IsLaid config (g.D.Disk.past c.open_all.new.disk) t images) (sym c.note_settled.ensures) (c.in-Ok.ensures.ok tells config images laid)

pub returns-then-settled-added-clause-reads : goal.returns-then-settled-added-clause-reads
returns-then-settled-added-clause-reads g c tells = outside_none _ _
