-- Which actors there are.
use Rattle.ol_values.specs.declared.history.Actor.{Actor}
use Rattle.ol_values.specs.declared.history.Actor.TheVariants.{Archiver}
use Rattle.ol_archive_turns.specs.Turns.{IsArchiver}

-- archivers are numbered from 1 to 4
abbrev pub IsOfArchiver : Actor → Type 0
IsOfArchiver (Archiver k) = IsArchiver k
IsOfArchiver _ = ⊥
