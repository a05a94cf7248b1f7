use Rattle.ol_online.proofs.LineLaws.{reached_end}
use Rattle.ol_online.proofs.archive.end_archive.Goals as goal

pub returns-in-Ok-clause-ended : goal.returns-in-Ok-clause-ended
returns-in-Ok-clause-ended c config lines reached = reached_end c.requires c.by_of.ensures.actor c.by_of.ensures.line reached c.in-Ok.ensures.ok
