use Rattle.std.proofs.Common.{subst, sym, true, ◌≡◌}
use Rattle.ol_values.specs.Config.{has_page}
use Rattle.ol_data_pages.specs.Places.{HasSpaceCause}
use Rattle.ol_store.specs.Stores.{Store}
use Rattle.ol_store.proofs.CheckpointSteps.{place_cause}
use Rattle.ol_store.proofs.store.Store.write_to_place.Goals as goal

pub returns-clause-cause : goal.returns-clause-cause
returns-clause-cause g c =
    subst (λ (s : Store). HasSpaceCause s.config (g.D.Disk.fault_counts c.args.disk.now) (g.D.Disk.fault_counts c.write_page.new.disk) c.write_page.result) c.self.view_is
    (place_cause _ c.self.invariant c.args.space c.args.page (subst (λ (s : Store). has_page s.config c.args.space c.args.page ≡ true) (sym c.self.view_is) c.requires.page) _ _ c.write_page.result c.write_page.ensures.cause)
