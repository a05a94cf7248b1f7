-- Histories with faults: a commit whose sync fails, and an archive whose tape ends.
use Rattle.std.specs.Prelude.{List, [], codes, ℕ, ◌+◌, ◌∷◌}
use Rattle.ol_values.specs.declared.event.Event.{Event}
use Rattle.ol_values.specs.declared.event.Event.TheVariants.{ArchiveCancel, ArchiveStart, ArchiveTurn, Begin as BeginTurn, Commit as CommitTurn, Insert as InsertTurn}
use Rattle.ol_values.specs.declared.event.Reply.{Reply}
use Rattle.ol_values.specs.declared.event.Reply.TheVariants.{AllTaken, At, Begun, Committed, DiskFault, OutOfTape, PageIs, Started, Stopped}
use Rattle.ol_values.specs.declared.event.Why.TheVariants.{Full}
use Rattle.ol_values.specs.declared.history.Actor.{Actor}
use Rattle.ol_values.specs.declared.history.Actor.TheVariants.{Archiver, Session}
use Rattle.ol_values.specs.declared.history.Entry.{Entry}
use Rattle.ol_values.specs.Pages.{rid_of}

-- an entry whose turn begins behind the disk's call n and makes one call
abbrev pub entry : ℕ → Actor → ℕ → Event → Reply → Entry
entry n actor number event reply = record { number = n; actor = actor; line = number; event = event; reply = reply; start = n; calls = n + 1 }

-- the sync of a commit fails, and the engine stops
abbrev pub commit_fails : List Entry
commit_fails =
    entry 1 (Session 1) 1 BeginTurn (Begun 1)
    ∷ entry 2 (Session 1) 2 (InsertTurn 0 (codes "data1") (codes "ann")) (At (rid_of 1 0 0))
    ∷ entry 3 (Session 1) 3 CommitTurn (DiskFault 0)
    ∷ entry 4 (Session 1) 4 BeginTurn (Stopped 3)
    ∷ []

-- an archive's tape ends, and the archive is given up
abbrev pub tape_ends : List Entry
tape_ends =
    entry 1 (Session 1) 1 BeginTurn (Begun 1)
    ∷ entry 2 (Session 1) 2 (InsertTurn 0 (codes "data1") (codes "ann")) (At (rid_of 1 0 0))
    ∷ entry 3 (Session 1) 3 CommitTurn (Committed 3)
    ∷ entry 4 (Archiver 1) 4 (ArchiveStart 0 (codes "root" ∷ codes "data1" ∷ [])) (Started 1 3 1)
    ∷ entry 5 (Archiver 1) 4 ArchiveTurn (PageIs 1 0)
    ∷ entry 6 (Archiver 1) 4 ArchiveTurn AllTaken
    ∷ entry 7 (Archiver 1) 4 (ArchiveCancel Full) (OutOfTape 1)
    ∷ []
