-- The blocks that a history's turns put on the drives.
use Rattle.std.specs.Prelude.{Bool, List, None, Option, Some, [], false, flat_map, if◌then◌else◌, length, option_map, unwrap_or, ℕ, ◌++◌, ◌+◌, ◌==◌, ◌∷◌}
use Rattle.ol_values.specs.declared.event.Reply.{Reply}
use Rattle.ol_values.specs.declared.event.Reply.TheVariants.{Archived, Backed, LogPage, PageIs, Picked, Started}
use Rattle.ol_values.specs.declared.history.Actor.{Actor}
use Rattle.ol_values.specs.declared.history.Actor.TheVariants.{Archiver, Backer}
use Rattle.ol_values.specs.declared.history.Entry.{Entry}
use Rattle.ol_values.specs.Blocks.{ArchiveHead, Block, SavedPage, archive_end, archive_page, header_kind, log_end, log_records, trailer_kind}
use Rattle.ol_values.specs.Config.{config_text}
use Rattle.ol_model.specs.History.{Turned, state_after, turned}
use Rattle.ol_rules.specs.Restored.{log_page_of}
use Rattle.ol_rules.specs.Shelf.{Shelf}
use Rattle.ol_model.specs.LogTurns.{picked_range}
use Rattle.ol_model.specs.Machine.{Archive, Machine, Picking, archive_of, config_of, page_upto}
use Rattle.ol_rules.specs.Ring.{Use, first_position, last_position, use_numbered}
use Rattle.ol_model.specs.Turns.{number_of}

abbrev pub head_at : Machine → Archive → ArchiveHead
head_at m a = record { spaces = a.spaces; text = config_text (config_of m) }

abbrev pub archive_end_at : Machine → ℕ → ℕ → Archive → Block
archive_end_at m kind index a = archive_end kind m.lasting.incarnation a.number index a.cut a.low a.level (head_at m a) (config_of m)

-- the page of an archive with its image at the cut
abbrev pub saved_at : Machine → Archive → ℕ → ℕ → SavedPage
saved_at m a space page = record { space = space; page = page; image = page_upto m a.cut space page }

abbrev pub put_if : {A : Type 0} → (A → Block) → Option A → List Block
put_if f None = []
put_if f (Some a) = f a ∷ []

abbrev pub log_end_at : Machine → ℕ → ℕ → Use → Block
log_end_at m kind index u = log_end kind m.lasting.incarnation u.uniq index (first_position u) (last_position u)

abbrev pub copied_at : Machine → Picking → Block
copied_at m p = log_records (p.copied + 1) (log_page_of m.work.start.first (m.work.start.kept ++ m.work.records) m.lasting.incarnation p.uniq (picked_range m p))

-- the blocks of a turn of actor number k, from the states before and after it: the trailer stands before its turn
abbrev pub put_by : ℕ → Machine → Machine → Reply → List Block
put_by k old new (Started number cut pages) = put_if (archive_end_at new header_kind 0) (archive_of new k)
put_by k old new (PageIs space page) = put_if (λ (a : Archive). archive_page old.lasting.incarnation a.number (a.passed + 1) (saved_at old a space page)) (archive_of old k)
put_by k old new (Archived number cut pages) = put_if (archive_end_at old trailer_kind (pages + 1)) (archive_of old k)
put_by k old new (Picked uniq pages) = put_if (log_end_at old header_kind 0) (use_numbered old.log.ring uniq)
put_by k old new (LogPage uniq index) = put_if (copied_at old) old.log.picking
put_by k old new (Backed uniq) = put_if (λ (u : Use). log_end_at old trailer_kind (length u.pages + 1) u) (use_numbered old.log.ring uniq)
put_by k old new _ = []

abbrev pub drive_of : Actor → Option ℕ
drive_of (Archiver k) = Some k
drive_of Backer = Some 0
drive_of _ = None

abbrev pub is_at_drive : ℕ → Actor → Bool
is_at_drive drive actor = unwrap_or (option_map (λ d. d == drive) (drive_of actor)) false

-- the blocks that the turns of a history put on a drive, where no device fails
abbrev pub tape : Shelf → Machine → List Entry → ℕ → List Block
tape shelf m h drive =
    flat_map (λ (t : Turned). if is_at_drive drive t.entry.actor then put_by (number_of t.entry.actor) t.machine (state_after shelf t.machine t.entry) t.entry.reply else []) (turned shelf m h)
