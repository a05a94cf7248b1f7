use Rattle.std.proofs.Common.{◌∙◌, ap}
use Rattle.ol_object_spans.proofs.ScanLaws.{scan_objects, scan_outside}
use Rattle.ol_object_spans.proofs.state.ScanState.finish.Goals as goal

pub returns-clause-objects : goal.returns-clause-objects
returns-clause-objects c = λ l is. ap (λ v. v.items) c.into_list.ensures ∙ scan_objects l c.args.self is

pub returns-clause-outside : goal.returns-clause-outside
returns-clause-outside c = λ l is rising. c.place_outside-outside.ensures ∙ scan_outside l c.args.self is rising
