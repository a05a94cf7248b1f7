use Rattle.std.proofs.Common.{◌∙◌}
use Rattle.ol_targets.proofs.TargetLaws.{target_told}
use Rattle.ol_targets.proofs.targets.find_target.Goals as goal

pub returns-clause-value : goal.returns-clause-value
returns-clause-value g c m s shows same =
    c.up_target.ensures ∙ target_told c.args.storage.now.now m s c.args.table.now c.anchor.result.now c.args.registers.now c.args.target.now c.requires.table c.anchor.ensures same shows
