use Rattle.ol_log_places.proofs.Moves.{further, none_more}
use Rattle.ol_log_places.proofs.heads.refuse_first.Goals as goal

pub loop-k-preserved : goal.loop-k-preserved
loop-k-preserved c = record {
  within = further c.args.heads.now c.loop-k.k c.loop-k.invariant.none c.loop-k-test.ensures c.requires.shares;
  none = none_more c.args.heads.now c.loop-k.k c.loop-k.invariant.none c.loop-k-test.ensures;
}
