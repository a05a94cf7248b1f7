-- Archives that are taken while sessions write, or refused.
use Rattle.std.specs.Prelude.{List, [], codes, ℕ, ◌∷◌}
use Rattle.ol_values.specs.declared.event.Target.TheVariants.{Reg}
use Rattle.ol_values.specs.declared.history.Actor.TheVariants.{Archiver, Checkpointer, Session}
use Rattle.ol_values.specs.declared.line.Form.TheVariants.{Archive as ArchiveLine, Begin as BeginLine, Checkpoint as CheckpointLine, Commit as CommitLine, End as EndLine, Insert as InsertLine, Rollback as RollbackLine, Start as StartLine, Turn as TurnLine, Update as UpdateLine}
use Rattle.ol_values.specs.declared.line.Line.{Line}
use Rattle.ol_worked.specs.Small.{line}

-- a row is inserted, and an archive of both spaces takes its page
abbrev pub one_row : List Line
one_row =
    line (Session 1) 1 BeginLine
    ∷ line (Session 1) 2 (InsertLine 0 (codes "data1") (codes "ann"))
    ∷ line (Session 1) 3 CommitLine
    ∷ line (Archiver 1) 4 (ArchiveLine 0 ((codes "root") ∷ (codes "data1") ∷ []))
    ∷ []

abbrev pub one_row_prints : List ℕ
one_row_prints = codes "1 s1 begun 1\n2 s1 rid data1:0:0\n3 s1 committed 3\n4 a1 archived 1 3 1\n"

-- an archive of a newly formatted installation has no page
abbrev pub no_page : List Line
no_page =
    line (Archiver 1) 1 (ArchiveLine 0 ((codes "data1") ∷ []))
    ∷ []

abbrev pub no_page_prints : List ℕ
no_page_prints = codes "1 a1 archived 1 0 0\n"

-- a page that is changed before it passes is archived as at the cut
abbrev pub changed_before : List Line
changed_before =
    line (Session 1) 1 BeginLine
    ∷ line (Session 1) 2 (InsertLine 0 (codes "data1") (codes "old"))
    ∷ line (Session 1) 3 CommitLine
    ∷ line (Archiver 1) 4 (StartLine 0 ((codes "data1") ∷ []))
    ∷ line (Session 1) 5 BeginLine
    ∷ line (Session 1) 6 (UpdateLine (Reg 0) (codes "new"))
    ∷ line (Session 1) 7 CommitLine
    ∷ line (Archiver 1) 8 (TurnLine 1)
    ∷ line (Archiver 1) 9 EndLine
    ∷ []

abbrev pub changed_before_prints : List ℕ
changed_before_prints = codes "1 s1 begun 1\n2 s1 rid data1:0:0\n3 s1 committed 3\n4 a1 started 1 3 1\n5 s1 begun 4\n6 s1 changed data1:0:0\n7 s1 committed 6\n8 a1 page data1:0\n9 a1 archived 1 3 1\n"

-- so is one that a checkpoint has written since
abbrev pub changed_over_checkpoint : List Line
changed_over_checkpoint =
    line (Session 1) 1 BeginLine
    ∷ line (Session 1) 2 (InsertLine 0 (codes "data1") (codes "old"))
    ∷ line (Session 1) 3 CommitLine
    ∷ line (Archiver 1) 4 (StartLine 0 ((codes "data1") ∷ []))
    ∷ line (Session 1) 5 BeginLine
    ∷ line (Session 1) 6 (UpdateLine (Reg 0) (codes "new"))
    ∷ line (Session 1) 7 CommitLine
    ∷ line Checkpointer 8 CheckpointLine
    ∷ line (Session 1) 9 BeginLine
    ∷ line (Session 1) 10 (UpdateLine (Reg 0) (codes "third"))
    ∷ line (Session 1) 11 CommitLine
    ∷ line (Archiver 1) 12 (TurnLine 1)
    ∷ []

abbrev pub changed_over_checkpoint_prints : List ℕ
changed_over_checkpoint_prints = codes "1 s1 begun 1\n2 s1 rid data1:0:0\n3 s1 committed 3\n4 a1 started 1 3 1\n5 s1 begun 4\n6 s1 changed data1:0:0\n7 s1 committed 6\n8 c1 checkpointed 6\n9 s1 begun 7\n10 s1 changed data1:0:0\n11 s1 committed 9\n12 a1 page data1:0\n"

-- a page that is changed behind its passing is archived once, and again by the next level
abbrev pub changed_behind : List Line
changed_behind =
    line (Session 1) 1 BeginLine
    ∷ line (Session 1) 2 (InsertLine 0 (codes "data1") (codes "old"))
    ∷ line (Session 1) 3 CommitLine
    ∷ line (Archiver 1) 4 (StartLine 0 ((codes "data1") ∷ []))
    ∷ line (Archiver 1) 5 (TurnLine 1)
    ∷ line (Session 1) 6 BeginLine
    ∷ line (Session 1) 7 (UpdateLine (Reg 0) (codes "new"))
    ∷ line (Session 1) 8 CommitLine
    ∷ line (Archiver 1) 9 EndLine
    ∷ line (Archiver 1) 10 (ArchiveLine 1 ((codes "data1") ∷ []))
    ∷ []

abbrev pub changed_behind_prints : List ℕ
changed_behind_prints = codes "1 s1 begun 1\n2 s1 rid data1:0:0\n3 s1 committed 3\n4 a1 started 1 3 1\n5 a1 page data1:0\n6 s1 begun 4\n7 s1 changed data1:0:0\n8 s1 committed 6\n9 a1 archived 1 3 1\n10 a1 archived 2 6 1\n"

-- the next level takes the page that was changed since
abbrev pub next_level : List Line
next_level =
    line (Session 1) 1 BeginLine
    ∷ line (Session 1) 2 (InsertLine 0 (codes "data1") (codes "old"))
    ∷ line (Session 1) 3 CommitLine
    ∷ line (Archiver 1) 4 (StartLine 0 ((codes "data1") ∷ []))
    ∷ line (Session 1) 5 BeginLine
    ∷ line (Session 1) 6 (UpdateLine (Reg 0) (codes "new"))
    ∷ line (Session 1) 7 CommitLine
    ∷ line (Archiver 1) 8 (TurnLine 1)
    ∷ line (Archiver 1) 9 EndLine
    ∷ line (Archiver 1) 10 (ArchiveLine 1 ((codes "data1") ∷ []))
    ∷ []

abbrev pub next_level_prints : List ℕ
next_level_prints = codes "1 s1 begun 1\n2 s1 rid data1:0:0\n3 s1 committed 3\n4 a1 started 1 3 1\n5 s1 begun 4\n6 s1 changed data1:0:0\n7 s1 committed 6\n8 a1 page data1:0\n9 a1 archived 1 3 1\n10 a1 archived 2 6 1\n"

-- a level without the archive that it goes on from is refused
abbrev pub no_parent : List Line
no_parent =
    line (Archiver 1) 1 (ArchiveLine 1 ((codes "data1") ∷ []))
    ∷ line (Archiver 1) 2 (ArchiveLine 0 ((codes "data1") ∷ []))
    ∷ line (Archiver 1) 3 (ArchiveLine 2 ((codes "data1") ∷ []))
    ∷ []

abbrev pub no_parent_prints : List ℕ
no_parent_prints = codes "1 a1 noparent data1 0\n2 a1 archived 1 0 0\n3 a1 noparent data1 1\n"

-- a transaction that is open at the cut is rolled back behind it
abbrev pub open_at_cut : List Line
open_at_cut =
    line (Session 1) 1 BeginLine
    ∷ line (Session 1) 2 (InsertLine 0 (codes "data1") (codes "a"))
    ∷ line (Session 1) 3 CommitLine
    ∷ line (Session 1) 4 BeginLine
    ∷ line (Session 1) 5 (UpdateLine (Reg 0) (codes "b"))
    ∷ line (Archiver 1) 6 (ArchiveLine 0 ((codes "root") ∷ (codes "data1") ∷ []))
    ∷ line (Session 1) 7 RollbackLine
    ∷ []

abbrev pub open_at_cut_prints : List ℕ
open_at_cut_prints = codes "1 s1 begun 1\n2 s1 rid data1:0:0\n3 s1 committed 3\n4 s1 begun 4\n5 s1 changed data1:0:0\n6 a1 archived 1 5 1\n7 s1 rolledback 7\n"

-- a change that would keep an image too many breaks the archive
abbrev pub too_many_images : List Line
too_many_images =
    line (Session 1) 1 BeginLine
    ∷ line (Session 1) 2 (InsertLine 0 (codes "root") (codes "a"))
    ∷ line (Session 1) 3 (InsertLine 1 (codes "data1") (codes "b"))
    ∷ line (Session 1) 4 CommitLine
    ∷ line (Archiver 1) 5 (StartLine 0 ((codes "root") ∷ (codes "data1") ∷ []))
    ∷ line (Session 1) 6 BeginLine
    ∷ line (Session 1) 7 (UpdateLine (Reg 0) (codes "c"))
    ∷ line (Session 1) 8 (UpdateLine (Reg 1) (codes "d"))
    ∷ line (Archiver 1) 9 (TurnLine 1)
    ∷ line (Archiver 1) 10 EndLine
    ∷ []

abbrev pub too_many_images_prints : List ℕ
too_many_images_prints = codes "1 s1 begun 1\n2 s1 rid root:0:0\n3 s1 rid data1:0:0\n4 s1 committed 4\n5 a1 started 1 4 2\n6 s1 begun 5\n7 s1 changed root:0:0\n8 s1 changed data1:0:0\n9 a1 beforefull 8\n10 a1 noarchive\n"
