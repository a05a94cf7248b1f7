use Rattle.std.proofs.Common.{◌≡◌, drop}
use Rattle.ol_archive_start.specs.Refusing.{archiver_in, first_told}
use Rattle.ol_archive_start.proofs.refusals.first_archiver.Given as goal

abbrev pub invariant-loop-space : goal.invariant-loop-space
invariant-loop-space l = first_told (archiver_in l.archives) (drop l.space-index l.spaces) ≡ first_told (archiver_in l.archives) l.spaces
