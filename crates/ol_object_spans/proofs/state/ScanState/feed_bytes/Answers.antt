use Rattle.std.proofs.Common.{◌++◌, ◌∷◌, [], None, subst, sym}
use Rattle.ol_object_spans.specs.Passing.{HasPassed}
use Rattle.ol_object_spans.specs.Scans.{HasScanned}
use Rattle.ol_object_spans.specs.declared.state.ScanState.{ScanState}
use Rattle.ol_object_spans.proofs.ScanLaws.{scan_bytes}
use Rattle.ol_object_spans.proofs.state.ScanState.feed_bytes.Goals as goal

pub returns : goal.returns
returns c = λ l p none place is.
    let old : ScanState = c.args.self.now in
    let passed = subst (λ q. HasPassed old.count q None old.headers c.pass.new.self) place c.in_ok-pass.ensures in
    subst (λ o. HasScanned l (l ++ p ∷ []) (l ++ p ∷ []) (record old { headers = c.pass.new.self; outside = o })) (sym c.outside_with-self.ensures)
    (scan_bytes l p old c.pass.new.self none is passed)
