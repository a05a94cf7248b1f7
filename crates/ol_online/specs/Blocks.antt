-- The parts of the blocks of an archive.
use Rattle.std.specs.Prelude.{List, length, ℕ, ◌≡◌}
use Rattle.ol_values.specs.declared.record.Record.{Record}
use Rattle.ol_values.specs.Blocks.{ArchiveHead}
use Rattle.ol_rules.specs.Journal.{page_at}
use Rattle.ol_values.specs.Blocks.{SavedPage}
use Rattle.ol_object.specs.Bytes.{archive_head_bytes, padded_to}

-- a page after the journal
abbrev pub page_saved : List Record → ℕ → ℕ → SavedPage
page_saved journal space page = record { space = space; page = page; image = page_at journal space page }

-- so many bytes of a payload are used, by this archive head, and zeros stand behind it
abbrev pub IsHead : ArchiveHead → ℕ → List ℕ → Type 0
IsHead head used payload = (used ≡ length (archive_head_bytes head)) × (payload ≡ padded_to 2048 (archive_head_bytes head))
