-- The engine goes on.
use Rattle.std.specs.Prelude.{false, ◌≡◌}
use Rattle.std.proofs.Common.{ap, refl, ◌∙◌}
use Rattle.ol_store.specs.Stores.{Store}
use Rattle.ol_storage.specs.Installation.{Installation, with_store}
use Rattle.ol_engine.specs.Parts.{GoesOn}

pub goes_same : (v : Installation) → v.stopped ≡ false → GoesOn v v
goes_same v going = record { going = going; config = refl; states = refl }

pub goes_both : (u v w : Installation) → GoesOn u v → GoesOn v w → GoesOn u w
goes_both u v w first second = record { going = second.going; config = second.config ∙ first.config; states = second.states ∙ first.states }

-- where the pages in memory alone are others
pub goes_store : (v w : Installation) (s : Store) → v.stopped ≡ false → w ≡ with_store v s → GoesOn v w
goes_store v w s going step = record {
  going = ap (λ (x : Installation). x.stopped) step ∙ going;
  config = ap (λ (x : Installation). x.ring.config) step;
  states = ap (λ (x : Installation). x.anchor.states) step;
}

pub goes_beside : (v w : Installation) → v.stopped ≡ false → w ≡ with_store v w.store → GoesOn v w
goes_beside v w going step = goes_store v w w.store going step
