use Rattle.std.proofs.Common.{◌∙◌}
use Rattle.ol_targets.proofs.TargetLaws.{space_told}
use Rattle.ol_targets.proofs.targets.find_space.Goals as goal

pub returns-clause-value : goal.returns-clause-value
returns-clause-value g c m shows =
    c.up_space.ensures ∙ space_told c.args.storage.now.now m c.args.table.now c.anchor.result.now c.args.name.now c.requires.table c.anchor.ensures shows
