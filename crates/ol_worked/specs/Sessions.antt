-- Turns of sessions, the log and the checkpoint.
use Rattle.std.specs.Prelude.{List, [], codes, ℕ, ◌∷◌}
use Rattle.ol_values.specs.declared.event.Target.TheVariants.{At as AtPlace, Reg}
use Rattle.ol_values.specs.declared.history.Actor.TheVariants.{Backer, Checkpointer, Flusher, Session}
use Rattle.ol_values.specs.declared.line.Form.TheVariants.{Backup as BackupLine, Begin as BeginLine, Checkpoint as CheckpointLine, Clean as CleanLine, Commit as CommitLine, Insert as InsertLine, List as ListLine, Read as ReadLine, Rollback as RollbackLine, Switch as SwitchLine, Update as UpdateLine}
use Rattle.ol_values.specs.declared.line.Line.{Line}
use Rattle.ol_worked.specs.Small.{line}

-- two sessions in conflict, and places that are not there
abbrev pub conflict : List Line
conflict =
    line (Session 1) 1 BeginLine
    ∷ line (Session 1) 2 (InsertLine 0 (codes "data1") (codes "a"))
    ∷ line (Session 1) 3 CommitLine
    ∷ line (Session 1) 4 BeginLine
    ∷ line (Session 1) 5 (UpdateLine (Reg 0) (codes "b"))
    ∷ line (Session 2) 6 BeginLine
    ∷ line (Session 2) 7 (UpdateLine (AtPlace (codes "data1") 0 0) (codes "c"))
    ∷ line (Session 1) 8 (UpdateLine (Reg 0) (codes "d"))
    ∷ line (Session 2) 9 (ReadLine (AtPlace (codes "data1") 9 0))
    ∷ line (Session 2) 10 (ReadLine (AtPlace (codes "data1") 0 1))
    ∷ line (Session 2) 11 (ReadLine (Reg 5))
    ∷ []

abbrev pub conflict_prints : List ℕ
conflict_prints = codes "1 s1 begun 1\n2 s1 rid data1:0:0\n3 s1 committed 3\n4 s1 begun 4\n5 s1 changed data1:0:0\n6 s2 begun 6\n7 s2 rowlocked 1\n8 s1 changed data1:0:0\n9 s2 badrid\n10 s2 norow\n11 s2 unbound\n"

-- the shortest and the longest row
abbrev pub edge_rows : List Line
edge_rows =
    line (Session 1) 1 BeginLine
    ∷ line (Session 1) 2 (InsertLine 0 (codes "data1") [])
    ∷ line (Session 1) 3 (ReadLine (Reg 0))
    ∷ line (Session 1) 4 (InsertLine 1 (codes "data1") (codes "xxxxxxxxxxxxxxxxxxxxxxxxxxxxxxxxxxxxxxxxxxxxxxxxxxxxxxxxxxxxxxx"))
    ∷ []

abbrev pub edge_rows_prints : List ℕ
edge_rows_prints = codes "1 s1 begun 1\n2 s1 rid data1:0:0\n3 s1 row =\n4 s1 rid data1:0:1\n"

-- the log is full, and has room again behind a rollback, a backup and a checkpoint
abbrev pub full_log : List Line
full_log =
    line (Session 1) 1 BeginLine
    ∷ line (Session 1) 2 (InsertLine 0 (codes "data1") (codes "x"))
    ∷ line (Session 1) 3 CommitLine
    ∷ line (Session 1) 4 BeginLine
    ∷ line (Session 1) 5 (InsertLine 0 (codes "data1") (codes "x"))
    ∷ line (Session 1) 6 CommitLine
    ∷ line (Session 1) 7 BeginLine
    ∷ line (Session 1) 8 (InsertLine 0 (codes "data1") (codes "x"))
    ∷ line (Session 1) 9 CommitLine
    ∷ line (Session 1) 10 BeginLine
    ∷ line (Session 1) 11 (InsertLine 0 (codes "data1") (codes "x"))
    ∷ line (Session 1) 12 CommitLine
    ∷ line (Session 1) 13 BeginLine
    ∷ line (Session 1) 14 (InsertLine 0 (codes "data1") (codes "x"))
    ∷ line (Session 1) 15 CommitLine
    ∷ line (Session 1) 16 BeginLine
    ∷ line (Session 1) 17 (InsertLine 0 (codes "data1") (codes "x"))
    ∷ line (Session 1) 18 CommitLine
    ∷ line (Session 1) 19 BeginLine
    ∷ line (Session 1) 20 (InsertLine 0 (codes "data1") (codes "x"))
    ∷ line (Session 1) 21 CommitLine
    ∷ line (Session 1) 22 BeginLine
    ∷ line (Session 1) 23 (InsertLine 0 (codes "data1") (codes "x"))
    ∷ line (Session 1) 24 CommitLine
    ∷ line (Session 1) 25 BeginLine
    ∷ line (Session 1) 26 (InsertLine 0 (codes "data1") (codes "x"))
    ∷ line (Session 1) 27 CommitLine
    ∷ line (Session 1) 28 BeginLine
    ∷ line (Session 1) 29 (InsertLine 0 (codes "data1") (codes "z"))
    ∷ line (Session 1) 30 RollbackLine
    ∷ line Backer 31 (BackupLine 2)
    ∷ line Checkpointer 32 CheckpointLine
    ∷ line (Session 1) 33 BeginLine
    ∷ line (Session 1) 34 (InsertLine 0 (codes "data1") (codes "z"))
    ∷ []

abbrev pub full_log_prints : List ℕ
full_log_prints = codes "1 s1 begun 1\n2 s1 rid data1:0:0\n3 s1 committed 3\n4 s1 begun 4\n5 s1 rid data1:0:1\n6 s1 committed 6\n7 s1 begun 7\n8 s1 rid data1:0:2\n9 s1 committed 9\n10 s1 begun 10\n11 s1 rid data1:0:3\n12 s1 committed 12\n13 s1 begun 13\n14 s1 rid data1:0:4\n15 s1 committed 15\n16 s1 begun 16\n17 s1 rid data1:0:5\n18 s1 committed 18\n19 s1 begun 19\n20 s1 rid data1:0:6\n21 s1 committed 21\n22 s1 begun 22\n23 s1 rid data1:0:7\n24 s1 committed 24\n25 s1 begun 25\n26 s1 rid data1:0:8\n27 s1 committed 27\n28 s1 begun 28\n29 s1 logsfull 1\n30 s1 rolledback 29\n31 l1 backed 2\n32 c1 checkpointed 29\n33 s1 begun 30\n34 s1 rid data1:0:9\n"

-- nothing to clean, a page listed, a log file closed with nothing to back up behind it
abbrev pub clean_and_switch : List Line
clean_and_switch =
    line (Session 1) 1 BeginLine
    ∷ line (Session 1) 2 (InsertLine 0 (codes "data1") (codes "ann"))
    ∷ line (Session 1) 3 CommitLine
    ∷ line Flusher 4 (CleanLine 4)
    ∷ line (Session 1) 5 BeginLine
    ∷ line (Session 1) 6 (ListLine (codes "data1") 0)
    ∷ line Backer 7 SwitchLine
    ∷ line Backer 8 (BackupLine 9)
    ∷ []

abbrev pub clean_and_switch_prints : List ℕ
clean_and_switch_prints = codes "1 s1 begun 1\n2 s1 rid data1:0:0\n3 s1 committed 3\n4 f1 nothing\n5 s1 begun 4\n6 s1 slots 0\n7 l1 switched 1\n8 l1 nothing\n"
