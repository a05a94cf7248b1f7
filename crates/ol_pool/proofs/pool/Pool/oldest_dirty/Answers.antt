use Rattle.std.proofs.Common.{ap, slice_get, subst, ◌∙◌}
use Rattle.ol_pool.specs.Frames.{Frames, IsPool}
use Rattle.ol_pool.proofs.StoreLaws.{first_framed, pool_is}
use Rattle.ol_pool.proofs.pool.Pool.oldest_dirty.Goals as goal

pub returns-clause-pool : goal.returns-clause-pool
returns-clause-pool c = subst IsPool c.self.view_is (pool_is _ _ _ c.self.invariant)

pub returns-clause-frame : goal.returns-clause-frame
returns-clause-frame c =
    first_framed c.args.self.now (returns-clause-pool c) c.first_place.result (c.first_place.ensures ∙ ap (λ (p : Frames). slice_get p.dirty 0) c.self.view_is)
