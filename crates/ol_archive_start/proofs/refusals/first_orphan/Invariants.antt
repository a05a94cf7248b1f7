use Rattle.std.proofs.Common.{◌≡◌, drop}
use Rattle.std.specs.Prelude.{find}
use Rattle.ol_archive_start.specs.Refusing.{is_orphan}
use Rattle.ol_archive_start.proofs.refusals.first_orphan.Given as goal

abbrev pub invariant-loop-space : goal.invariant-loop-space
invariant-loop-space l = find (is_orphan l.anchor l.level) (drop l.space-index l.spaces) ≡ find (is_orphan l.anchor l.level) l.spaces
