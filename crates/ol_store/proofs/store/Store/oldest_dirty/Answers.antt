use Rattle.std.proofs.Common.{IfSome, subst, true, ◌≡◌}
use Rattle.ol_values.specs.Config.{has_page}
use Rattle.ol_pool.specs.Frames.{is_dirty}
use Rattle.ol_store.specs.Stores.{Store}
use Rattle.ol_store.proofs.CheckpointSteps.{first_dirty}
use Rattle.ol_store.proofs.store.Store.oldest_dirty.Goals as goal

pub returns-clause-page : goal.returns-clause-page
returns-clause-page c =
    subst (λ (s : Store). IfSome c.oldest_dirty.result (λ place. (has_page s.config place.0 place.1 ≡ true) × (is_dirty s.pool place.0 place.1 ≡ true))) c.self.view_is
    (first_dirty _ c.self.invariant c.oldest_dirty.result c.oldest_dirty.ensures.oldest)
