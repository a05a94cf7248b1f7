use Rattle.std.proofs.Common.{drop, map, ◌==◌, ◌≡◌}
use Rattle.std.specs.List.{find}
use Rattle.ol_rules.specs.Ring.{Use}
use Rattle.ol_log_state.specs.Files.{current_use}
use Rattle.ol_log_state.specs.StoredFiles.{helds}
use Rattle.ol_log_state.specs.Uses.{use_of}
use Rattle.ol_log_state.proofs.log_files.LogFiles.current.Given as goal

abbrev pub invariant-loop-held : goal.invariant-loop-held
invariant-loop-held l =
    find (λ (u : Use). u.uniq == l.self.uniq) (map use_of (helds (drop l.held-index l.held-items))) ≡ current_use l.self
