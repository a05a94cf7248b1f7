use Rattle.std.proofs.Common.{[], sym, subst}
use Rattle.ol_physlog.specs.States.{IsLaid, Log}
use Rattle.ol_physlog.proofs.EmptyLaws.{emptied_laid}
use Rattle.ol_physlog.proofs.log.PhysLog.empty.Goals as goal

pub returns-in-Err-clause-stops : goal.returns-in-Err-clause-stops
returns-in-Err-clause-stops g c tells config images laid = c.in-Err.ensures.stops tells config images c.args.generation laid c.requires.newer

pub returns-clause-stops : goal.returns-clause-stops
returns-clause-stops g c tells config images laid = c.in-Ok.ensures.stops tells config images c.args.generation laid c.requires.newer

pub returns-clause-ok : goal.returns-clause-ok
returns-clause-ok g c tells config images laid =
    subst (λ (t : Log). IsLaid config (g.D.Disk.past c.shut_all.new.disk) t []) (sym c.renew.ensures) (emptied_laid config _ c.args.self.now c.args.generation laid.is c.ranges.generation.fits (c.in-Ok.ensures.ok tells config images laid))
