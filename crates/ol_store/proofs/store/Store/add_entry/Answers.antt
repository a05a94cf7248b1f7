use Rattle.std.proofs.Common.{subst, sym}
use Rattle.ol_ports.specs.Stops.{Stops}
use Rattle.ol_physlog.specs.States.{HoldsEntries, IsLaid}
use Rattle.ol_data_pages.specs.Places.{HasSpaces}
use Rattle.ol_store.specs.Stores.{Store}
use Rattle.ol_store.proofs.EntrySteps.{has_area}
use Rattle.ol_store.proofs.StoreLaws.{store_logged}
use Rattle.ol_store.proofs.store.Store.add_entry.Goals as goal

pub add-requires-clause-area : goal.add-requires-clause-area
add-requires-clause-area g c = has_area _ c.self.invariant (g.D.Disk.sizes c.args.disk.now) (subst (λ (s : Store). HasSpaces s.config (g.D.Disk.sizes c.args.disk.now)) (sym c.self.view_is) c.requires.sizes)

pub invariant_of-self : goal.invariant_of-self
invariant_of-self g c = store_logged _ c.self.invariant c.add.new.self c.add.ensures.kept

pub returns-clause-stops : goal.returns-clause-stops
returns-clause-stops g c tells config images =
    subst (λ (s : Store). IsLaid config (g.D.Disk.past c.args.disk.now) s.log images → Stops (g.D.Disk.past c.args.disk.now) (g.D.Disk.past c.add.new.disk) (HoldsEntries config s.log images)) c.self.view_is (c.add.ensures.stops tells config images)
