use Rattle.std.proofs.Common.{◌≡◌, ◌∙◌, Option, Some, ap, arith, map, option_map, refl, sym, ℕ}
use Rattle.ol_rules.specs.Plan.{bad_outside}
use Rattle.ol_rules.specs.Shelf.{objects}
use Rattle.ol_object_spans.specs.declared.place.Place.{Place}
use Rattle.ol_object_spans.specs.Objects.{object_told, place_told}
use Rattle.ol_catalog.specs.Streams.{shelf_to}
use Rattle.ol_catalog.proofs.Joins.{found_more, nothing_found, outside_more}
use Rattle.ol_catalog.proofs.WrittenLaws.{archive_found, archive_spared}
use Rattle.ol_catalog.proofs.catalog.read.Goals as goal

pub loop-drive-init : goal.loop-drive-init
loop-drive-init g c = record { found = λ t. c.new-all.ensures.items ∙ nothing_found (g.F.Shelf.tapes c.args.shelf.now); outside = λ t. refl; shape = refl; tapes = λ t. refl; faults = refl }

pub loop-drive-preserved : goal.loop-drive-preserved
loop-drive-preserved g c =
    let tapes = g.F.Shelf.tapes c.args.shelf.now in
    let seen = g.F.Shelf.tapes c.loop-drive.shelf in
    let drive = c.loop-drive.drive in
    let was = c.loop-drive.invariant in
    let read = c.in_ok-objects.ensures in
    record {
      found = λ t. found_more tapes seen drive c.loop-drive.all.items c.in_ok-objects.objects.items c.append.new.self.items (was.tapes t) (was.found t) (read.objects t) c.in_ok-append.ensures.items;
      outside = λ t. outside_more tapes seen drive c.loop-drive.outside c.in_ok-objects.first c.or-outside.result (was.tapes t) (was.outside t) (read.outside t) c.or-outside.ensures;
      shape = read.shape ∙ was.shape;
      tapes = λ t. read.tapes t ∙ was.tapes t;
      faults = read.cause ∙ was.faults;
    }

pub returns-in-None-clause-archive : goal.returns-in-None-clause-archive
returns-in-None-clause-archive g c = λ t drive x there is on.
    let tapes = g.F.Shelf.tapes c.args.shelf.now in
    let last : c.loop-drive.drive ≡ 5 = omega (arith, c.loop-drive-test.false, c.loop-drive.auto.drive-end) in
    archive_found tapes drive x c.loop-drive.all.items there is on (c.loop-drive.invariant.found t ∙ ap (λ (n : ℕ). map object_told (objects (shelf_to tapes n))) last)

pub returns-in-Some-clause-spared : goal.returns-in-Some-clause-spared
returns-in-Some-clause-spared g c = λ t drive x is on p e.
    let tapes = g.F.Shelf.tapes c.args.shelf.now in
    let last : c.loop-drive.drive ≡ 5 = omega (arith, c.loop-drive-test.false, c.loop-drive.auto.drive-end) in
    let first = c.loop-drive.invariant.outside t ∙ ap (λ (n : ℕ). option_map place_told (bad_outside (shelf_to tapes n))) last in
    let same : c.in-Some.place ≡ p = cc in
    archive_spared tapes drive x is on p (sym first ∙ c.in-Some.is ∙ ap (λ (q : Place). let o : Option Place = Some q in o) same)
