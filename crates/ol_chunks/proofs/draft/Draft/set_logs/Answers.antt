use Rattle.ol_chunks.specs.Drafts.{config_in}
use Rattle.ol_chunks.proofs.Numbers.{no_logs}
use Rattle.ol_chunks.proofs.draft.Draft.set_logs.Goals as goal

pub returns-in_default-numbers_of : goal.returns-in_default-numbers_of
returns-in_default-numbers_of c = no_logs (config_in c.args.self.now.layout) _ _ c.in_default-numbers_of.ensures.none
