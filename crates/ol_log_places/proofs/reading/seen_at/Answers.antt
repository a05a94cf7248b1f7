use Rattle.std.proofs.Common.{◌≡◌, Some, None, sym, ap, ◌∙◌}
use Rattle.ol_record.specs.LogPages.{page_in}
use Rattle.ol_log_places.specs.Scanning.{seen_of}
use Rattle.ol_log_places.proofs.PlaceLaws.{place_shut}
use Rattle.ol_log_places.proofs.Seen.{found_place, no_place}
use Rattle.ol_log_places.proofs.reading.seen_at.Goals as goal

pub returns-then-page-ne-OPEN-clause-seen : goal.returns-then-page-ne-OPEN-clause-seen
returns-then-page-ne-OPEN-clause-seen c = ap (seen_of c.args.table.now) (sym (place_shut c.args.table.now c.args.place c.args.page.now c.if-page-ne-OPEN.true))

pub returns-in-Some-clause-seen : goal.returns-in-Some-clause-seen
returns-in-Some-clause-seen c =
    let found = c.in-Some.ensures.found in
    c.seen_open.ensures.seen (page_in c.args.page.now) found.2 ∙ ap (seen_of c.args.table.now) (sym (found_place c.args.table.now c.args.place c.args.page.now c.if-page-ne-OPEN.false found.0 found.1))

pub returns-in-None-clause-seen : goal.returns-in-None-clause-seen
returns-in-None-clause-seen c =
    ap (seen_of c.args.table.now) (sym (no_place c.args.table.now c.args.place c.args.page.now c.if-page-ne-OPEN.false c.fits-page c.told-page (λ gate p is image. let clash : None ≡ Some _ = sym c.in-None.is ∙ c.log_head.ensures.only gate p is image in cc)))
