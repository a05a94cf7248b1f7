-- An archive that a play, whose machine keeps its journal whole, puts on its drive.
use Rattle.std.specs.Prelude.{List, length, ℕ}
use Rattle.ol_values.specs.declared.record.Record.{Record}
use Rattle.ol_values.specs.Config.{Config}
use Rattle.ol_rules.specs.Saveset.{saveset}
use Rattle.ol_rules.specs.Transactions.{low_at}
use Rattle.ol_core.specs.Archivers.{saved_of}
use Rattle.ol_core.specs.Machine.{Archive, Fixed}
use Rattle.ol_core.specs.Tape.{head_at}
use Rattle.ol_catalog.specs.Written.{Archived}

-- an archive of such a machine as data: its head, and the saveset of the journal at its cut
abbrev pub archived_in : Fixed → List Record → Archive → Archived
archived_in f journal a = record {
  incarnation = f.incarnation;
  number = a.number;
  cut = a.cut;
  low = a.low;
  level = a.level;
  head = head_at f a;
  config = f.config;
  pages = saveset f.config journal a.spaces a.cut;
}

-- the first archive of such a machine: of level 0 and of these spaces, begun after this journal
abbrev pub first_of : Config → List Record → List ℕ → Archive
first_of c journal spaces = record { number = 1; level = 0; cut = length journal; low = low_at journal; spaces = saved_of c spaces; passed = 0 }
