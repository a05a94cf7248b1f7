use Rattle.std.proofs.Common.{◌≡◌, drop}
use Rattle.std.specs.Prelude.{find}
use Rattle.ol_archive_start.specs.Refusing.{is_down}
use Rattle.ol_archive_start.proofs.refusals.first_down.Given as goal

abbrev pub invariant-loop-space : goal.invariant-loop-space
invariant-loop-space l = find (is_down l.anchor) (drop l.space-index l.spaces) ≡ find (is_down l.anchor) l.spaces
