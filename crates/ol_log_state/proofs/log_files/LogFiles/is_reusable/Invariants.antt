use Rattle.std.proofs.Common.{drop, map, ◌%◌, ◌-◌, ◌==◌, ◌≡◌}
use Rattle.std.specs.List.{find}
use Rattle.ol_rules.specs.Ring.{Use, use_in_file}
use Rattle.ol_log_state.specs.Files.{log_config, ring_in}
use Rattle.ol_log_state.specs.StoredFiles.{helds}
use Rattle.ol_log_state.specs.Uses.{use_of}
use Rattle.ol_log_state.proofs.log_files.LogFiles.is_reusable.Given as goal

abbrev pub invariant-loop-held : goal.invariant-loop-held
invariant-loop-held l =
    find (λ (u : Use). ((u.uniq - 1) % l.self.area.count) == l.file) (map use_of (helds (drop l.held-index l.held-items)))
    ≡ use_in_file (log_config l.self.area) (ring_in l.self) l.file
