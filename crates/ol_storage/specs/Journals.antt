-- What an image of the disk stands for, said of a journal from its first record on.
use Rattle.std.specs.Prelude.{List, Some, length, slice_index_or, suc, take, true, zero, ℕ, ◌+◌, ◌<◌, ◌≡◌, ◌≤◌}
use Rattle.ol_values.specs.declared.record.Record.{Record}
use Rattle.ol_values.specs.declared.record.Record.TheVariants.{Commit}
use Rattle.ol_values.specs.Config.{Config, config_text, has_page}
use Rattle.ol_values.specs.Image.{page_bytes}
use Rattle.ol_rules.specs.Journal.{page_at}
use Rattle.ol_rules.specs.Start.{Start}
use Rattle.ol_rules.specs.Transactions.{low_at}
use Rattle.ol_chunks.specs.Places.{physical_area}
use Rattle.ol_data_pages.specs.Overlays.{overlaid}
use Rattle.ol_log_places.specs.Places.{places}
use Rattle.ol_log_places.specs.Runs.{IsLogged, IsNear}
use Rattle.ol_physlog.specs.States.{NoneLater}
use Rattle.ol_ports.specs.Disk.{Bytes}
use Rattle.ol_reserve.specs.Pair.{Newest}
use Rattle.ol_reserve.specs.declared.anchor.Anchor.{Anchor}
use Rattle.ol_storage.specs.Behind.{Behind, is_up}
use Rattle.ol_storage.specs.Standing.{first_number}

-- the record at a position of a journal, from 1
abbrev pub record_of : List Record → ℕ → Record
record_of journal zero = Commit 0
record_of journal (suc n) = slice_index_or journal n (Commit 0)

-- a start with the records behind it, where the log pages before it are those of a journal
abbrev pub behind_in : List Record → Start → List Record → ℕ → Behind
behind_in journal start records reached = record { before = record_of journal; start = start; records = records; reached = reached }

-- the anchor is the newest, on line and of this configuration, of a checkpoint of this journal, with the need there
pub record AnchorStands (c : Config) (journal : List Record) (a : Anchor) (d : Bytes) : Type 0 where
  pub newest : Newest d (Some a)
  pub online : a.state ≡ 1
  pub text : a.text ≡ config_text c
  pub position : a.position ≤ length journal
  pub need : a.need ≡ low_at (take a.position journal)

-- each page of a space that is up, overlaid with its counting entry, is the journal's at the checkpoint, and no open entry is of a later generation
pub record PagesStand (c : Config) (journal : List Record) (a : Anchor) (d : Bytes) : Type 0 where
  pub images : (space page : ℕ) → is_up a space ≡ true → has_page c space page ≡ true → overlaid c a.generation d space page ≡ page_bytes (page_at (take a.position journal) space page)
  pub older : NoneLater (physical_area c) d a.generation

-- the log pages hold the journal's records from the need on to the last, and nothing behind it; the number that an opening begins with is at most one above the last page's
pub record LogStands (c : Config) (journal : List Record) (a : Anchor) (d : Bytes) : Type 0 where
  pub logged : IsLogged c (places c d) (record_of journal) a.need (length journal + 1)
  pub near : IsNear c (places c d) (first_number a) (length journal + 1)

-- an image of the disk stands for a journal
pub record StandsFor (c : Config) (journal : List Record) (a : Anchor) (d : Bytes) : Type 0 where
  pub anchor : AnchorStands c journal a d
  pub pages : PagesStand c journal a d
  pub log : LogStands c journal a d
