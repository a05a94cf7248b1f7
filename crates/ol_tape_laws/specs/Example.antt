-- An archive of a newly formatted installation, which has no page: that the premises of the laws can be met.
use Rattle.std.specs.Prelude.{List, None, [], codes, ℕ, ◌∷◌}
use Rattle.ol_values.specs.declared.event.Event.TheVariants.{ArchiveEnd, ArchiveStart}
use Rattle.ol_values.specs.declared.event.Reply.TheVariants.{Archived, Started}
use Rattle.ol_values.specs.declared.history.Actor.TheVariants.{Archiver}
use Rattle.ol_values.specs.declared.history.Entry.{Entry}
use Rattle.ol_values.specs.Config.{Config}
use Rattle.ol_model.specs.Machine.{Archive}

-- one space of 100 pages, with all areas in it
abbrev pub one_space : Config
one_space = record {
  spaces = record { name = codes "root"; chunks = 100 ∷ [] } ∷ [];
  physical_space = 0;
  physical_entries = 8;
  log_space = 0;
  log_files = 3;
  log_file_pages = 4;
  image_limit = 2;
}

abbrev pub first_archive : Archive
first_archive = record {
  number = 1;
  level = 0;
  cut = 0;
  low = 1;
  spaces = record { space = 0; parent = 0; base = 0 } ∷ [];
  passed = 0;
  broken = None;
}

-- its two entries
abbrev pub began : Entry
began = record { number = 1; actor = Archiver 1; line = 1; event = ArchiveStart 0 (codes "root" ∷ []); reply = Started 1 0 0; start = 0; calls = 0 }

abbrev pub ended : Entry
ended = record { number = 2; actor = Archiver 1; line = 1; event = ArchiveEnd; reply = Archived 1 0 0; start = 0; calls = 0 }
