use Rattle.std.proofs.Common.{◌∙◌}
use Rattle.ol_targets.proofs.TargetLaws.{page_told}
use Rattle.ol_targets.proofs.targets.find_page.Goals as goal

pub returns-clause-value : goal.returns-clause-value
returns-clause-value g c m shows =
    c.up_page.ensures ∙ page_told c.args.storage.now.now m c.args.table.now c.anchor.result.now c.args.name.now c.args.page c.requires.table c.anchor.ensures shows
