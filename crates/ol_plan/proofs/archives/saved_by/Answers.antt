use Rattle.std.proofs.Common.{◌∙◌}
use Rattle.ol_plan.proofs.ArchiveLaws.{saved_found}
use Rattle.ol_plan.proofs.archives.saved_by.Goals as goal

pub returns : goal.returns
returns c = c.saved_in.ensures ∙ saved_found c.args.space c.spaces.result.now c.args.object.now.archive c.in-Some.head c.in-Some.field-0-1 c.in-Some.is c.spaces.ensures.value
