use Rattle.std.proofs.Common.{ap, subst, sym}
use Rattle.ol_ports.specs.Disk.{Past}
use Rattle.ol_chunks.specs.Places.{is_in}
use Rattle.ol_chunks.specs.Places.Part.{Data}
use Rattle.ol_ports.specs.Frames.{FramedIn}
use Rattle.ol_ports.specs.Stops.{Stops}
use Rattle.ol_storage.specs.Installation.{Installation}
use Rattle.ol_storage.specs.Standing.{Stands}
use Rattle.ol_opening.specs.Opening.{IsStoredOf, begun}
use Rattle.ol_opening.proofs.opening.open_storage.Goals as goal

pub returns-in-Ok-clause-stored : goal.returns-in-Ok-clause-stored
returns-in-Ok-clause-stored g c tells quiet k b a left =
    subst (λ (v : Installation). IsStoredOf k a (g.D.Disk.past c.storage_of.result.disk) b v) (sym c.storage_of.ensures.now)
    (subst (λ (p : Past). IsStoredOf k a p b (begun c.in-Ok.parts)) (ap g.D.Disk.past (sym c.storage_of.ensures.disk)) (c.in-Ok.ensures.stored tells quiet k b a left))

pub returns-in-Ok-clause-stops : goal.returns-in-Ok-clause-stops
returns-in-Ok-clause-stops g c tells quiet k b a last is stands =
    subst (λ (p : Past). Stops (g.D.Disk.past c.args.disk) p (Stands k b a last)) (ap g.D.Disk.past (sym c.storage_of.ensures.disk)) (c.in-Ok.ensures.stops tells quiet k b a last is stands)

pub returns-in-Ok-clause-frame : goal.returns-in-Ok-clause-frame
returns-in-Ok-clause-frame g c tells k a is newest text =
    subst (λ (p : Past). Stops (g.D.Disk.past c.args.disk) p (FramedIn (g.D.Disk.past c.args.disk) (is_in k Data))) (ap g.D.Disk.past (sym c.storage_of.ensures.disk)) (c.in-Ok.ensures.frame tells k a is newest text)
