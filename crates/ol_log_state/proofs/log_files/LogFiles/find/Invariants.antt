use Rattle.std.proofs.Common.{drop, flat_map, ◌≡◌}
use Rattle.std.specs.List.{find}
use Rattle.ol_log_state.specs.StoredFiles.{helds}
use Rattle.ol_log_state.specs.Uses.{HeldUse, head_holds}
use Rattle.ol_log_state.proofs.log_files.LogFiles.find.Given as goal

abbrev pub invariant-loop-held : goal.invariant-loop-held
invariant-loop-held l =
    find (head_holds l.position) (flat_map (λ (u : HeldUse). u.heads) (helds (drop l.held-index l.held-items)))
    ≡ find (head_holds l.position) (flat_map (λ (u : HeldUse). u.heads) l.self.uses)
