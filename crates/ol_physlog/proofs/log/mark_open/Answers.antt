use Rattle.std.proofs.Common.{◌∙◌, sym}
use Rattle.std.proofs.lemmas.List.{length-set}
use Rattle.ol_physlog.proofs.SettleLaws.{open_end, open_step}
use Rattle.ol_physlog.proofs.log.mark_open.Goals as goal

pub loop-entry-preserved : goal.loop-entry-preserved
loop-entry-preserved c = record {
  size = length-set c.loop-entry.gates _ _ ∙ c.loop-entry.invariant.size;
  left = open_step c.loop-entry.gates c.args.entries.now c.loop-entry.entry-index (search) ∙ c.loop-entry.invariant.left;
}

pub returns : goal.returns
returns c = sym (open_end c.loop-entry.gates c.args.entries.now c.loop-entry.entry-index (search)) ∙ c.loop-entry.invariant.left
