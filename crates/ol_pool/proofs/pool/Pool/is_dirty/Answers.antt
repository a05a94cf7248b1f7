use Rattle.std.proofs.Common.{ap, sym, ◌∙◌}
use Rattle.ol_pool.specs.Frames.{Frames, is_dirty}
use Rattle.ol_pool.proofs.StoreLaws.{dirty_is}
use Rattle.ol_pool.proofs.pool.Pool.is_dirty.Goals as goal

pub returns : goal.returns
returns c = c.get.ensures ∙ sym (dirty_is _ _ _ c.self.invariant c.args.space c.args.page) ∙ ap (λ (p : Frames). is_dirty p c.args.space c.args.page) c.self.view_is
