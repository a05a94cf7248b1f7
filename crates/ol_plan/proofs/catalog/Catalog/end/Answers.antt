use Rattle.std.proofs.Common.{◌∙◌, ap}
use Rattle.ol_plan.specs.Counting.{end_of}
use Rattle.ol_plan.proofs.CountingLaws.{end_told}
use Rattle.ol_plan.proofs.catalog.Catalog.end.Goals as goal

pub returns-clause-shelf : goal.returns-clause-shelf
returns-clause-shelf c shelf is = c.end_of.ensures ∙ ap end_of c.as_slice.ensures ∙ end_told shelf _ is
