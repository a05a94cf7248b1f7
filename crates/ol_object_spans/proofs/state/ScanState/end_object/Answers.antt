use Rattle.std.proofs.Common.{◌≡◌, ◌++◌, ◌∷◌, ◌∙◌, [], OnOk, Some, ap, subst, sym}
use Rattle.ol_object_spans.specs.declared.block.ReadBlock.{ReadBlock}
use Rattle.ol_object_spans.specs.declared.object.Object as told
use Rattle.ol_object_spans.specs.declared.state.ScanState.{ScanState}
use Rattle.ol_object_spans.specs.Objects.{archive_in, place_told}
use Rattle.ol_object_spans.specs.Passing.{HasPassed}
use Rattle.ol_object_spans.specs.Places.{place_in}
use Rattle.ol_object_spans.specs.Scans.{HasScanned}
use Rattle.ol_object_spans.specs.Spans.{bad_by, object_by, span_of}
use Rattle.ol_object_spans.specs.Told.{told_of}
use Rattle.ol_object_spans.proofs.ScanLaws.{scan_ended}
use Rattle.ol_object_spans.proofs.state.ScanState.end_object.Goals as goal

pub returns : goal.returns
returns c = λ l p b own item place read some is.
    let old : ScanState = c.args.self.now in
    let passed = subst (λ q. HasPassed old.count q (Some c.args.block) old.headers c.pass.new.self) place c.in_ok-pass.ensures in
    let has = subst (λ (x : ReadBlock). HasPassed old.count (place_told p) (Some x) old.headers c.pass.new.self) read passed in
    let first : c.place_at-first.result ≡ place_in old.runs.items c.args.span.start = c.place_at-first.ensures ∙ ap (λ r. place_in r c.args.span.start) c.deref.ensures.value in
    let bad = c.bad_by-bad.ensures is.headers.rising ∙ (λ i. bad_by old.headers c.args.span (first i) (place i) (read i)) in
    let archive = c.archive_in.ensures ∙ ap (λ (x : ReadBlock). archive_in x.held) read in
    let o : told.Object = record { place = c.place_at-first.result; head = c.args.block.head; blocks = c.args.span.blocks; bad = c.bad_by-bad.result; archive = c.archive_in.result } in
    let object : o ≡ object_by old.headers c.args.span (place_in old.runs.items c.args.span.start) (place_told p) (told_of b) = λ i. record {
      place = first i;
      head = ap (λ (x : ReadBlock). x.head) read i;
      blocks = c.args.span.blocks;
      bad = bad i;
      archive = archive i;
    } in
    subst (λ x. OnOk c.insert.result (HasScanned l (l ++ p ∷ []) (l ++ p ∷ []) (record old { headers = c.pass.new.self; objects = c.insert.new.self; outside = x }))) (sym c.left_before-self.ensures)
    (scan_ended l p b old c.pass.new.self c.args.span o c.insert.new.self c.insert.result (record { own = own; item = item; scanned = is })
    (sym (ap (λ (x : ReadBlock). span_of x.head old.count) read) ∙ some) has object c.insert.ensures.starts c.insert.ensures.list)
