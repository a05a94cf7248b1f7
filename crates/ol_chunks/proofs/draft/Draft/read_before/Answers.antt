use Rattle.ol_chunks.specs.Drafts.{config_in}
use Rattle.ol_chunks.proofs.Numbers.{no_before}
use Rattle.ol_chunks.proofs.draft.Draft.read_before.Goals as goal

pub returns-in_default : goal.returns-in_default
returns-in_default c = no_before (config_in c.args.self.now.layout) _ _ c.in_default.ensures.none
