use Rattle.std.proofs.Common.{subst, sym}
use Rattle.ol_values.specs.Config.{Config}
use Rattle.ol_pool.specs.Frames.{Frames}
use Rattle.ol_store.specs.Holding.{AreOnDisk}
use Rattle.ol_store.specs.Stores.{IsStore, no_marks}
use Rattle.ol_store.proofs.LoadLaws.{fresh_stored}
use Rattle.ol_store.proofs.StoreLaws.{store_begun}
use Rattle.ol_store.proofs.store.Store.new.Goals as goal

pub invariant_of-result : goal.invariant_of-result
invariant_of-result c =
    subst (λ (k : Config). IsStore (record { config = k; pool = c.in_ok-pool.pool; log = c.args.log; before = c.args.before; written = no_marks; flushed = 0; last = 0 })) (sym c.copy.ensures)
    (subst (λ (p : Frames). IsStore (record { config = c.args.table.now; pool = p; log = c.args.log; before = c.args.before; written = no_marks; flushed = 0; last = 0 })) (sym c.in_ok-pool.ensures)
    (store_begun c.args.table.now c.args.log c.args.before c.spaces-spaces.ensures.config c.requires))

pub returns-clause-stored : goal.returns-clause-stored
returns-clause-stored c past v fresh =
    subst (λ (k : Config). AreOnDisk past k c.in_ok-pool.pool c.args.log no_marks v) (sym c.copy.ensures)
    (subst (λ (p : Frames). AreOnDisk past c.args.table.now p c.args.log no_marks v) (sym c.in_ok-pool.ensures) (fresh_stored past c.args.table.now c.args.log c.args.before v fresh))
