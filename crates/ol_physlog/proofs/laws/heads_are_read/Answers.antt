use Rattle.ol_physlog.proofs.PlaceLaws.{head_back}
use Rattle.ol_physlog.proofs.laws.heads_are_read.Goals as goal

pub returns : goal.returns
returns c config generation place rest = head_back config generation place rest
