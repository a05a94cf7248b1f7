use Rattle.std.proofs.Common.{take, ◌≡◌}
use Rattle.ol_log_state.specs.Files.{greatest_of}
use Rattle.ol_log_state.specs.StoredFiles.{AreTaken, heads_in}
use Rattle.ol_log_state.proofs.log_files.LogFiles.new.Given as goal

abbrev pub invariant-loop-stood : goal.invariant-loop-stood
invariant-loop-stood l = record {
  taken : AreTaken l.area.pages l.uniq (heads_in (take l.stood-index l.run)) l.uses.items;
  current : l.current ≡ greatest_of l.uniq (heads_in (take l.stood-index l.run));
}
