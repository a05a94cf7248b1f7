use Rattle.ol_laws.proofs.ChainLaws.{lay_is}
use Rattle.ol_laws.proofs.laws.chain_gives_last_cut.Goals as goal

pub returns : goal.returns
returns c = λ k journal space page levels chain lt. lay_is k journal space page levels chain lt
