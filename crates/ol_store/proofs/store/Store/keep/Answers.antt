use Rattle.std.proofs.Common.{None, subst, sym, ◌≡◌}
use Rattle.ol_pool.specs.Frames.{frame_of}
use Rattle.ol_store.specs.Stores.{Store}
use Rattle.ol_store.proofs.StoreLaws.{store_put}
use Rattle.ol_store.proofs.store.Store.keep.Goals as goal

pub invariant_of-self : goal.invariant_of-self
invariant_of-self c =
    store_put _ c.self.invariant c.args.space c.args.page c.args.image.now c.put.new.self c.put.result
    (subst (λ (s : Store). frame_of s.pool c.args.space c.args.page ≡ None) (sym c.self.view_is) c.requires.none) c.requires.image c.put.ensures.ok c.put.ensures.unchanged
