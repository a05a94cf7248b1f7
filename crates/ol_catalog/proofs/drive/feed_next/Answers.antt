use Rattle.std.proofs.Common.{◌≡◌, ◌∙◌, ◌∷◌, Bool, subst, sym}
use Rattle.ol_object_spans.specs.declared.place.Place.{Place}
use Rattle.ol_block_values.specs.Items.{item_in}
use Rattle.ol_block_values.proofs.ScanLaws.{scanned}
use Rattle.ol_shelf_reader.specs.Streams.{given_last, places_left}
use Rattle.ol_shelf_reader.specs.Steps.{Steps}
use Rattle.ol_catalog.proofs.Feeding.{fed_on}
use Rattle.ol_catalog.proofs.drive.feed_next.Goals as goal

pub returns-clause-fed : goal.returns-clause-fed
returns-clause-fed g c = λ t fed.
    let shelf = c.args.shelf.now in
    let old = c.args.reader.now in
    let new = c.next.new.self in
    let step : places_left (g.F.Shelf.shape shelf) old ≡ given_last new ∷ places_left (g.F.Shelf.shape shelf) new =
    subst (λ (more : Bool). Steps (g.F.Shelf.shape shelf) old new more) c.if-not-branch.false c.in_ok-next.ensures.step in
    let place : Place = record { drive = c.args.drive; volume = c.place-volume.result.0; block = c.place-volume.result.1 } in
    fed_on (g.F.Shelf.tapes shelf) (g.F.Shelf.shape shelf) old new c.args.scan.now c.feed.new.self c.next.new.buf place (g.met.F.Shelf.shaped shelf t) c.next.ensures.drive
    (λ i. let p : Place = record { drive = sym (c.next.ensures.drive ∙ c.requires.drive) i; volume = (c.place-volume.ensures i).0; block = (c.place-volume.ensures i).1 } in p)
    (c.in_ok-next.ensures.block t (given_last new) (places_left (g.F.Shelf.shape shelf) new) step) step
    (λ l is. c.in_ok-feed.ensures l (item_in c.next.new.buf) (scanned c.next.new.buf) c.in_ok-item.ensures.value is) fed
