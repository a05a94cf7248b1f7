-- The blocks that a history's turns put on the drives.
use Rattle.std.specs.Prelude.{Bool, List, None, Option, Some, [], false, flat_map, if◌then◌else◌, length, option_map, take, unwrap_or, ℕ, ◌++◌, ◌+◌, ◌==◌, ◌∷◌}
use Rattle.ol_values.specs.declared.event.Reply.{Reply}
use Rattle.ol_values.specs.declared.event.Reply.TheVariants.{Archived, PageIs, Started}
use Rattle.ol_values.specs.declared.history.Actor.{Actor}
use Rattle.ol_values.specs.declared.history.Actor.TheVariants.{Archiver, Backer}
use Rattle.ol_values.specs.declared.history.Entry.{Entry}
use Rattle.ol_values.specs.declared.record.Record.{Record}
use Rattle.ol_values.specs.Blocks.{ArchiveHead, Block, archive_end, archive_page, header_kind, trailer_kind}
use Rattle.ol_values.specs.Config.{config_text}
use Rattle.ol_core.specs.History.{Turned, state_after, turned}
use Rattle.ol_rules.specs.Journal.{page_at}
use Rattle.ol_core.specs.Machine.{Archive, Fixed, Machine, archive_of, journal_in}
use Rattle.ol_values.specs.Blocks.{SavedPage}
use Rattle.ol_rules.specs.Saveset.{saveset}
use Rattle.ol_core.specs.Turns.{number_of}

-- ---- an archive as it stands on tape

abbrev pub head_at : Fixed → Archive → ArchiveHead
head_at f a = record { spaces = a.spaces; text = config_text f.config }

-- the header or the trailer of an archive
abbrev pub end_block : Fixed → ℕ → ℕ → Archive → Block
end_block f kind index a = archive_end kind f.incarnation a.number index a.cut a.low a.level (head_at f a) f.config

-- the blocks of its pages, of which the first has this index
abbrev pub page_blocks : ℕ → ℕ → ℕ → List SavedPage → List Block
page_blocks incarnation number index [] = []
page_blocks incarnation number index (p ∷ pages) = archive_page incarnation number index p ∷ page_blocks incarnation number (index + 1) pages

-- the header, its pages as the journal gives them at the cut, and the trailer
abbrev pub archive_blocks : Fixed → List Record → Archive → List Block
archive_blocks f journal a =
    let pages = saveset f.config journal a.spaces a.cut in
    (end_block f header_kind 0 a ∷ page_blocks f.incarnation a.number 1 pages) ++ end_block f trailer_kind (length pages + 1) a ∷ []

-- ---- what turns put on tape

-- a page of a running archive, as it was at the cut
abbrev pub saved_at : Machine → Archive → ℕ → ℕ → SavedPage
saved_at m a space page = record { space = space; page = page; image = page_at (take a.cut (journal_in m)) space page }

-- the block of the next page of a running archive
abbrev pub page_block : Machine → ℕ → ℕ → Archive → Block
page_block m space page a = archive_page m.fixed.incarnation a.number (a.passed + 1) (saved_at m a space page)

abbrev pub put_if : (Archive → Block) → Option Archive → List Block
put_if f None = []
put_if f (Some a) = f a ∷ []

-- the blocks of a turn of archiver k, from the states before and after it: the header goes on tape after its turn, the trailer before
abbrev pub put_by : ℕ → Machine → Machine → Reply → List Block
put_by k old new (Started number cut pages) = put_if (end_block new.fixed header_kind 0) (archive_of new k)
put_by k old new (PageIs space page) = put_if (page_block old space page) (archive_of old k)
put_by k old new (Archived number cut pages) = put_if (end_block old.fixed trailer_kind (pages + 1)) (archive_of old k)
put_by k old new _ = []

-- the drive of an actor
abbrev pub drive_of : Actor → Option ℕ
drive_of (Archiver k) = Some k
drive_of Backer = Some 0
drive_of _ = None

abbrev pub is_at_drive : ℕ → Actor → Bool
is_at_drive drive actor = unwrap_or (option_map (λ d. d == drive) (drive_of actor)) false

abbrev pub put_in : ℕ → Turned → List Block
put_in drive t =
    if is_at_drive drive t.entry.actor then put_by (number_of t.entry.actor) t.machine (state_after t.machine t.entry) t.entry.reply else []

-- the blocks that the turns of a history put on a drive, where no device fails
abbrev pub tape : Machine → List Entry → ℕ → List Block
tape m h drive = flat_map (put_in drive) (turned m h)
