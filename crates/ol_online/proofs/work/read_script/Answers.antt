use Rattle.std.specs.Prelude.{Err}
use Rattle.std.proofs.Common.{ap, ◌∙◌}
use Rattle.ol_online.proofs.work.read_script.Goals as goal

pub returns-in-Err-BadScript-clause-ended : goal.returns-in-Err-BadScript-clause-ended
returns-in-Err-BadScript-clause-ended g c bytes is = c.parse.ensures.bad bytes c.in-Err-BadScript.line is (c.in-Err-BadScript.is ∙ ap Err (c.in-Err-BadScript.field-0-is))
