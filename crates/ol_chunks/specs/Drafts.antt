-- What the values of a table stand for.
use Rattle.std.specs.Prelude.{Bool, None, Option, Some, if◌then◌else◌, ◌≡◌}
use Rattle.ol_values.specs.Config.{Config}
use Rattle.ol_chunks.specs.Reading.{Reading}
use Rattle.ol_chunks.specs.declared.draft.Draft.{Draft}
use Rattle.ol_chunks.specs.declared.layout.Layout.{Layout}

-- the configuration that a layout holds
abbrev pub config_in : Layout → Config
config_in l = record {
  spaces = l.spaces.items;
  physical_space = l.physical_space;
  physical_entries = l.physical_entries;
  log_space = l.log_space;
  log_files = l.log_files;
  log_file_pages = l.log_file_pages;
  image_limit = l.image_limit;
}

-- what was read into a draft
abbrev pub reading_in : Draft → Reading
reading_in d = record { due = d.due; config = config_in d.layout }

-- what a line gives is what was read, or nothing where the line was refused
abbrev pub Reads : Option Reading → Bool → Draft → Type 0
Reads given good draft = given ≡ (if good then Some (reading_in draft) else None)
