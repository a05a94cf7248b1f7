use Rattle.std.proofs.Common.{subst, sym}
use Rattle.ol_ports.specs.Disk.{Past}
use Rattle.ol_store.specs.Holding.{IsOnDisk}
use Rattle.ol_store.proofs.LoadLaws.{err_moved}
use Rattle.ol_store.proofs.store.Store.find_next.Goals as goal

pub returns-in-Err-clause-good : goal.returns-in-Err-clause-good
returns-in-Err-clause-good g c tells v h flushed up chunk at bad =
    c.in-Err.ensures.good tells v (subst (λ (p : Past). IsOnDisk p c.args.self.now v) (sym (c.loop-space.invariant.past tells)) h) flushed up chunk at (err_moved _ _ bad)
