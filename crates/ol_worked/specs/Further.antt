-- Further plays, whose texts and tapes another program worked out.
use Rattle.std.specs.Prelude.{List, [], codes, ℕ, ◌∷◌}
use Rattle.ol_values.specs.declared.event.Target.TheVariants.{At as AtPlace, Reg}
use Rattle.ol_values.specs.declared.history.Actor.TheVariants.{Archiver, Backer, Checkpointer, Flusher, Session}
use Rattle.ol_values.specs.declared.line.Form.TheVariants.{Archive as ArchiveLine, Backup as BackupLine, Begin as BeginLine, Cancel as CancelLine, Checkpoint as CheckpointLine, Clean as CleanLine, Commit as CommitLine, Delete as DeleteLine, End as EndLine, Insert as InsertLine, Read as ReadLine, Rollback as RollbackLine, Start as StartLine, Switch as SwitchLine, Turn as TurnLine, Update as UpdateLine}
use Rattle.ol_values.specs.declared.line.Line.{Line}
use Rattle.ol_worked.specs.Small.{line}

-- two sessions that share, own and give back the same slots
abbrev pub two_sessions : List Line
two_sessions =
    line (Session 1) 1 BeginLine
    ∷ line (Session 1) 2 (InsertLine 0 (codes "data1") (codes "a"))
    ∷ line (Session 1) 3 (InsertLine 1 (codes "data1") (codes "b"))
    ∷ line (Session 1) 4 CommitLine
    ∷ line (Session 1) 5 BeginLine
    ∷ line (Session 2) 6 BeginLine
    ∷ line (Session 1) 7 (ReadLine (Reg 0))
    ∷ line (Session 2) 8 (ReadLine (AtPlace (codes "data1") 0 0))
    ∷ line (Session 2) 9 (UpdateLine (AtPlace (codes "data1") 0 0) (codes "c"))
    ∷ line (Session 1) 10 CommitLine
    ∷ line (Session 2) 11 (UpdateLine (AtPlace (codes "data1") 0 0) (codes "c"))
    ∷ line (Session 1) 12 BeginLine
    ∷ line (Session 1) 13 (UpdateLine (Reg 0) (codes "d"))
    ∷ line (Session 1) 14 (DeleteLine (Reg 1))
    ∷ line (Session 2) 15 (DeleteLine (AtPlace (codes "data1") 0 1))
    ∷ line (Session 2) 16 RollbackLine
    ∷ line (Session 1) 17 (UpdateLine (Reg 0) (codes "d"))
    ∷ line (Session 1) 18 RollbackLine
    ∷ []

abbrev pub two_sessions_prints : List ℕ
two_sessions_prints = codes "1 s1 begun 1\n2 s1 rid data1:0:0\n3 s1 rid data1:0:1\n4 s1 committed 4\n5 s1 begun 5\n6 s2 begun 6\n7 s1 row =a\n8 s2 row =a\n9 s2 rowlocked 1\n10 s1 committed 7\n11 s2 changed data1:0:0\n12 s1 begun 9\n13 s1 rowlocked 2\n14 s1 changed data1:0:1\n15 s2 rowlocked 1\n16 s2 rolledback 12\n17 s1 changed data1:0:0\n18 s1 rolledback 16\n"

-- a transaction that inserts, changes and deletes is taken back, and its slots are free again
abbrev pub taken_back : List Line
taken_back =
    line (Session 1) 1 BeginLine
    ∷ line (Session 1) 2 (InsertLine 0 (codes "data1") (codes "a"))
    ∷ line (Session 1) 3 (InsertLine 1 (codes "data1") (codes "b"))
    ∷ line (Session 1) 4 (UpdateLine (Reg 0) (codes "c"))
    ∷ line (Session 1) 5 (DeleteLine (Reg 1))
    ∷ line (Session 1) 6 (InsertLine 2 (codes "data1") (codes "d"))
    ∷ line (Session 1) 7 RollbackLine
    ∷ line (Session 1) 8 BeginLine
    ∷ line (Session 1) 9 (InsertLine 3 (codes "data1") (codes "e"))
    ∷ line (Session 1) 10 (ReadLine (AtPlace (codes "data1") 0 1))
    ∷ line (Session 1) 11 CommitLine
    ∷ line (Session 1) 12 CommitLine
    ∷ []

abbrev pub taken_back_prints : List ℕ
taken_back_prints = codes "1 s1 begun 1\n2 s1 rid data1:0:0\n3 s1 rid data1:0:1\n4 s1 changed data1:0:0\n5 s1 changed data1:0:1\n6 s1 rid data1:0:2\n7 s1 rolledback 12\n8 s1 begun 13\n9 s1 rid data1:0:0\n10 s1 norow\n11 s1 committed 15\n12 s1 notxn\n"

-- archives of three levels, one of them without the level that it goes on from
abbrev pub three_levels : List Line
three_levels =
    line (Session 1) 1 BeginLine
    ∷ line (Session 1) 2 (InsertLine 0 (codes "data1") (codes "a"))
    ∷ line (Session 1) 3 CommitLine
    ∷ line (Archiver 1) 4 (ArchiveLine 0 ((codes "root") ∷ (codes "data1") ∷ []))
    ∷ line (Session 1) 5 BeginLine
    ∷ line (Session 1) 6 (UpdateLine (Reg 0) (codes "b"))
    ∷ line (Session 1) 7 CommitLine
    ∷ line (Archiver 1) 8 (ArchiveLine 1 ((codes "data1") ∷ []))
    ∷ line (Session 1) 9 BeginLine
    ∷ line (Session 1) 10 (InsertLine 1 (codes "root") (codes "c"))
    ∷ line (Session 1) 11 CommitLine
    ∷ line (Archiver 2) 12 (ArchiveLine 2 ((codes "root") ∷ (codes "data1") ∷ []))
    ∷ line (Archiver 1) 13 (ArchiveLine 1 ((codes "root") ∷ []))
    ∷ line (Archiver 1) 14 (ArchiveLine 2 ((codes "root") ∷ (codes "data1") ∷ []))
    ∷ []

abbrev pub three_levels_prints : List ℕ
three_levels_prints = codes "1 s1 begun 1\n2 s1 rid data1:0:0\n3 s1 committed 3\n4 a1 archived 1 3 1\n5 s1 begun 4\n6 s1 changed data1:0:0\n7 s1 committed 6\n8 a1 archived 2 6 1\n9 s1 begun 7\n10 s1 rid root:0:0\n11 s1 committed 9\n12 a2 noparent root 1\n13 a1 archived 3 9 1\n14 a1 archived 4 9 0\n"

-- and what stands on drive 1 then
abbrev pub three_levels_tape_1 : List (List ℕ)
three_levels_tape_1 =
    (1 ∷ 1 ∷ 1 ∷ 1 ∷ 0 ∷ 3 ∷ 4 ∷ 0 ∷ [])
    ∷ (2 ∷ 1 ∷ 1 ∷ 1 ∷ 1 ∷ 1 ∷ 0 ∷ 2 ∷ [])
    ∷ (4 ∷ 1 ∷ 1 ∷ 1 ∷ 2 ∷ 3 ∷ 4 ∷ 0 ∷ [])
    ∷ (1 ∷ 1 ∷ 1 ∷ 2 ∷ 0 ∷ 6 ∷ 7 ∷ 1 ∷ [])
    ∷ (2 ∷ 1 ∷ 1 ∷ 2 ∷ 1 ∷ 1 ∷ 0 ∷ 5 ∷ [])
    ∷ (4 ∷ 1 ∷ 1 ∷ 2 ∷ 2 ∷ 6 ∷ 7 ∷ 1 ∷ [])
    ∷ (1 ∷ 1 ∷ 1 ∷ 3 ∷ 0 ∷ 9 ∷ 10 ∷ 1 ∷ [])
    ∷ (2 ∷ 1 ∷ 1 ∷ 3 ∷ 1 ∷ 0 ∷ 0 ∷ 8 ∷ [])
    ∷ (4 ∷ 1 ∷ 1 ∷ 3 ∷ 2 ∷ 9 ∷ 10 ∷ 1 ∷ [])
    ∷ (1 ∷ 1 ∷ 1 ∷ 4 ∷ 0 ∷ 9 ∷ 10 ∷ 2 ∷ [])
    ∷ (4 ∷ 1 ∷ 1 ∷ 4 ∷ 1 ∷ 9 ∷ 10 ∷ 2 ∷ [])
    ∷ []

-- two archivers, which may not archive one space at once
abbrev pub two_archivers : List Line
two_archivers =
    line (Archiver 1) 1 (StartLine 0 ((codes "data1") ∷ []))
    ∷ line (Archiver 2) 2 (StartLine 0 ((codes "data1") ∷ []))
    ∷ line (Archiver 2) 3 (StartLine 0 ((codes "root") ∷ []))
    ∷ line (Archiver 1) 4 (StartLine 0 ((codes "root") ∷ []))
    ∷ line (Session 1) 5 BeginLine
    ∷ line (Session 1) 6 (InsertLine 0 (codes "data1") (codes "a"))
    ∷ line (Session 1) 7 (InsertLine 1 (codes "root") (codes "b"))
    ∷ line (Session 1) 8 CommitLine
    ∷ line (Archiver 1) 9 (TurnLine 3)
    ∷ line (Archiver 1) 10 EndLine
    ∷ line (Archiver 2) 11 CancelLine
    ∷ line (Archiver 2) 12 EndLine
    ∷ line (Archiver 2) 13 (ArchiveLine 0 ((codes "root") ∷ []))
    ∷ []

abbrev pub two_archivers_prints : List ℕ
two_archivers_prints = codes "1 a1 started 1 0 0\n2 a2 archiving 1\n3 a2 started 2 0 0\n4 a1 archiving 1\n5 s1 begun 1\n6 s1 rid data1:0:0\n7 s1 rid root:0:0\n8 s1 committed 4\n9 a1 alltaken\n10 a1 archived 1 0 0\n11 a2 cancelled 2\n12 a2 noarchive\n13 a2 archived 3 4 1\n"

-- and what stands on drive 1 then
abbrev pub two_archivers_tape_1 : List (List ℕ)
two_archivers_tape_1 =
    (1 ∷ 1 ∷ 1 ∷ 1 ∷ 0 ∷ 0 ∷ 1 ∷ 0 ∷ [])
    ∷ (4 ∷ 1 ∷ 1 ∷ 1 ∷ 1 ∷ 0 ∷ 1 ∷ 0 ∷ [])
    ∷ []

-- and what stands on drive 2 then
abbrev pub two_archivers_tape_2 : List (List ℕ)
two_archivers_tape_2 =
    (1 ∷ 1 ∷ 1 ∷ 2 ∷ 0 ∷ 0 ∷ 1 ∷ 0 ∷ [])
    ∷ (1 ∷ 1 ∷ 1 ∷ 3 ∷ 0 ∷ 4 ∷ 5 ∷ 0 ∷ [])
    ∷ (2 ∷ 1 ∷ 1 ∷ 3 ∷ 1 ∷ 0 ∷ 0 ∷ 3 ∷ [])
    ∷ (4 ∷ 1 ∷ 1 ∷ 3 ∷ 2 ∷ 4 ∷ 5 ∷ 0 ∷ [])
    ∷ []

-- log files that are closed, backed up and reused, with transactions open over them
abbrev pub log_files : List Line
log_files =
    line (Session 1) 1 BeginLine
    ∷ line (Session 1) 2 (InsertLine 0 (codes "data1") (codes "a"))
    ∷ line Backer 3 SwitchLine
    ∷ line (Session 1) 4 (InsertLine 1 (codes "data1") (codes "b"))
    ∷ line Backer 5 SwitchLine
    ∷ line (Session 2) 6 BeginLine
    ∷ line (Session 2) 7 (InsertLine 0 (codes "data1") (codes "c"))
    ∷ line (Session 1) 8 CommitLine
    ∷ line Backer 9 (BackupLine 2)
    ∷ line Checkpointer 10 CheckpointLine
    ∷ line Backer 11 (BackupLine 1)
    ∷ line (Session 2) 12 CommitLine
    ∷ line Flusher 13 (CleanLine 1)
    ∷ line Backer 14 SwitchLine
    ∷ line (Session 1) 15 BeginLine
    ∷ line (Session 1) 16 (InsertLine 0 (codes "data1") (codes "d"))
    ∷ []

abbrev pub log_files_prints : List ℕ
log_files_prints = codes "1 s1 begun 1\n2 s1 rid data1:0:0\n3 l1 switched 1\n4 s1 rid data1:0:1\n5 l1 nothing\n6 s2 begun 4\n7 s2 rid data1:0:2\n8 s1 committed 6\n9 l1 nothing\n10 c1 checkpointed 6\n11 l1 nothing\n12 s2 committed 7\n13 f1 nothing\n14 l1 switched 2\n15 s1 begun 8\n16 s1 rid data1:0:3\n"

-- and what stands on drive 0 then
abbrev pub log_files_tape_0 : List (List ℕ)
log_files_tape_0 =
    (1 ∷ 2 ∷ 1 ∷ 1 ∷ 0 ∷ 1 ∷ 2 ∷ 0 ∷ [])
    ∷ (3 ∷ 2 ∷ 1 ∷ 1 ∷ 1 ∷ 1 ∷ 2 ∷ 0 ∷ [])
    ∷ (4 ∷ 2 ∷ 1 ∷ 1 ∷ 2 ∷ 1 ∷ 2 ∷ 0 ∷ [])
    ∷ []
