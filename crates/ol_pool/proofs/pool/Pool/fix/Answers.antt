use Rattle.ol_pool.proofs.StoreLaws.{stored_with_frame}
use Rattle.ol_pool.proofs.pool.Pool.fix.Goals as goal

pub invariant_of-self-lent : goal.invariant_of-self-lent
invariant_of-self-lent c = λ _. (λ image. stored_with_frame _ _ _ c.self.invariant c.args.space c.args.page image, c.self.invariant)
