use Rattle.std.proofs.Common.{drop, map, not, ◌&&◌, ◌≡◌}
use Rattle.std.specs.List.{find}
use Rattle.ol_rules.specs.Ring.{Use, is_backed, is_closed, to_back_up}
use Rattle.ol_log_state.specs.Files.{log_config, ring_in}
use Rattle.ol_log_state.specs.StoredFiles.{helds}
use Rattle.ol_log_state.specs.Uses.{use_of}
use Rattle.ol_log_state.proofs.log_files.LogFiles.unbacked.Given as goal

abbrev pub invariant-loop-held : goal.invariant-loop-held
invariant-loop-held l =
    find (λ (u : Use). is_closed (log_config l.self.area) (ring_in l.self) u && not (is_backed (record { backed = l.backed; need = 0 }) u)) (map use_of (helds (drop l.held-index l.held-items)))
    ≡ to_back_up (log_config l.self.area) (record { backed = l.backed; need = 0 }) (ring_in l.self)
