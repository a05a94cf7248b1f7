use Rattle.std.proofs.Common.{◌+◌, ◌∙◌, ap, refl}
use Rattle.ol_rules.specs.Shelf.{Placed}
use Rattle.ol_object_spans.specs.declared.state.ScanState.{ScanState}
use Rattle.ol_object_spans.specs.Scans.{placed}
use Rattle.ol_object_spans.specs.Told.{readable_in}
use Rattle.ol_object_spans.proofs.ScanLaws.{readable_kept, readable_told, scan_counted, scan_noted}
use Rattle.ol_object_spans.proofs.state.ScanState.feed.Goals as goal

pub returns : goal.returns
returns c = λ l b own told is.
    let old : ScanState = c.args.self.now in
    let p : Placed = placed c.args.place b in
    let noted : ScanState = record old { runs = c.note_place.new.runs } in
    let scanned = c.in_ok-feed_item.ensures l p (readable_kept b own) refl (c.readable.ensures ∙ ap readable_in told ∙ readable_told b)
    (scan_noted l p old noted is c.in_ok-note_place.ensures refl) in
    scan_counted l p c.feed_item.new.self c.in-Some.count scanned (c.in-Some.ensures.1 ∙ ap (λ n. n + 1) is.count)
