-- Restores: what the tapes of a play give back.
use Rattle.std.specs.List.{enumerate_from}
use Rattle.std.specs.Prelude.{Bool, Err, List, None, Ok, Option, Result, Some, [], codes, drop, filter, flat_map, length, map, not, option_map, replicate, slice_index_or, slice_set, true, ℕ, ◌++◌, ◌+◌, ◌-◌, ◌==◌, ◌∷◌}
use Rattle.ol_values.specs.declared.event.Reply.{Reply}
use Rattle.ol_values.specs.declared.event.Target.TheVariants.{At as AtPlace, Reg}
use Rattle.ol_values.specs.declared.history.Actor.TheVariants.{Archiver, Backer, Session, Warmer}
use Rattle.ol_values.specs.declared.history.Entry.{Entry}
use Rattle.ol_values.specs.declared.line.Form.TheVariants.{Archive as ArchiveLine, Backup as BackupLine, Begin as BeginLine, Commit as CommitLine, Insert as InsertLine, Read as ReadLine, Restore as RestoreLine, Rollback as RollbackLine, Update as UpdateLine}
use Rattle.ol_values.specs.declared.line.Line.{Line}
use Rattle.ol_values.specs.declared.record.Record.{Record}
use Rattle.ol_values.specs.Blocks.{Block, mark}
use Rattle.ol_values.specs.Config.{Config}
use Rattle.ol_rules.specs.Journal.{row_at}
use Rattle.ol_rules.specs.Plan.{Chain, Plan, bad_outside, plan_of}
use Rattle.ol_rules.specs.Restored.{restored, restored_journal, salvaged, to_restore}
use Rattle.ol_rules.specs.Shelf.{Object, Placed, Shelf}
use Rattle.ol_model.specs.History.{played, state_at}
use Rattle.ol_model.specs.Listing.{list_text}
use Rattle.ol_model.specs.Machine.{Machine, formatted}
use Rattle.ol_model.specs.Opening.{last_flushed, opened_restored}
use Rattle.ol_model.specs.Tape.{tape}
use Rattle.ol_worked.specs.Small.{head_numbers, line, small}

-- ---- shelves

abbrev pub empty_shelf : Shelf
empty_shelf = replicate 5 []

-- one volume more with these blocks, where there are any
abbrev pub with_volume : List Block → List (List (Option Block)) → List (List (Option Block))
with_volume [] volumes = volumes
with_volume (b ∷ blocks) volumes = volumes ++ map (λ (x : Block). Some x) (b ∷ blocks) ∷ []

-- the shelf after a history: each drive has a volume more with what the history put on it
abbrev pub next_shelf : Shelf → Machine → List Entry → Shelf
next_shelf shelf m h = map (λ (d : ℕ × List (List (Option Block))). with_volume (tape shelf m h d.0) d.1) (enumerate_from 0 shelf)

-- these blocks stand on a volume more of drive 0
abbrev pub with_blocks : Shelf → List Block → Shelf
with_blocks shelf blocks = slice_set shelf 0 (with_volume blocks (slice_index_or shelf 0 []))

-- the journal of a machine whose start has all of it, and as much of it as stands on log pages
abbrev pub whole_journal : Machine → List Record
whole_journal m = m.work.start.kept ++ m.work.records

-- the shelf after a salvage of what a machine left
abbrev pub salvaged_shelf : Shelf → Machine → Shelf
salvaged_shelf shelf m = with_blocks shelf (salvaged m.work.start.first (whole_journal m) m.lasting m.log.ring)

-- ---- plans

abbrev pub plan_or : Result Plan Reply → Plan
plan_or (Err refusal) = record { end_ = 0; low = 0; chains = []; logs = []; short = None }
plan_or (Ok p) = p

-- up to where a restore goes, or its refusal
abbrev pub end_or : Result Plan Reply → Result ℕ Reply
end_or (Err refusal) = Err refusal
end_or (Ok p) = Ok p.end_

-- the plan of a restore of these spaces and the critical ones
abbrev pub plan_for : Config → Shelf → List ℕ → Result Plan Reply
plan_for c shelf spaces = plan_of shelf (to_restore c spaces)

-- what a listing tells after the restore by a plan, of an installation with this journal
abbrev pub listed_after : Config → Shelf → List Record → Plan → List ℕ
listed_after c shelf journal p = list_text c (restored c shelf journal p).spaces (row_at (restored_journal journal p.end_))

-- ---- plays from a newly formatted installation on

abbrev pub history_of : Config → List Line → List Entry
history_of c lines = played 400 empty_shelf (formatted c) lines

abbrev pub machine_after : Config → List Line → Machine
machine_after c lines = state_at empty_shelf (formatted c) (history_of c lines)

-- what stands on the shelf after the play, and after a salvage behind it
abbrev pub tapes_after : Config → List Line → Shelf
tapes_after c lines = next_shelf empty_shelf (formatted c) (history_of c lines)

abbrev pub all_after : Config → List Line → Shelf
all_after c lines = salvaged_shelf (tapes_after c lines) (machine_after c lines)

-- ---- the examples

-- a transaction is open at the cut of the archive, and rolled back behind it
abbrev pub open_at_cut : List Line
open_at_cut =
    line (Session 1) 1 BeginLine
    ∷ line (Session 1) 2 (InsertLine 0 (codes "data1") (codes "a"))
    ∷ line (Session 1) 3 CommitLine
    ∷ line (Session 1) 4 BeginLine
    ∷ line (Session 1) 5 (UpdateLine (Reg 0) (codes "b"))
    ∷ line (Archiver 1) 6 (ArchiveLine 0 ((codes "root") ∷ (codes "data1") ∷ []))
    ∷ line (Session 1) 7 RollbackLine
    ∷ []

-- a row is archived, and another is inserted behind
abbrev pub row_behind_archive : List Line
row_behind_archive =
    line (Session 1) 1 BeginLine
    ∷ line (Session 1) 2 (InsertLine 0 (codes "data1") (codes "ann"))
    ∷ line (Session 1) 3 CommitLine
    ∷ line (Archiver 1) 4 (ArchiveLine 0 ((codes "root") ∷ (codes "data1") ∷ []))
    ∷ line (Session 1) 5 BeginLine
    ∷ line (Session 1) 6 (InsertLine 1 (codes "data1") (codes "bob"))
    ∷ line (Session 1) 7 CommitLine
    ∷ []

-- and both are archived again
abbrev pub archived_twice : List Line
archived_twice = row_behind_archive ++ line (Archiver 1) 8 (ArchiveLine 0 ((codes "root") ∷ (codes "data1") ∷ [])) ∷ []

-- an archive, and so many rows behind it that two log files are backed up
abbrev pub two_files_backed : List Line
two_files_backed =
    line (Archiver 1) 1 (ArchiveLine 0 ((codes "root") ∷ (codes "data1") ∷ []))
    ∷ line (Session 1) 2 BeginLine
    ∷ line (Session 1) 3 (InsertLine 0 (codes "data1") (codes "x"))
    ∷ line (Session 1) 4 CommitLine
    ∷ line (Session 1) 5 BeginLine
    ∷ line (Session 1) 6 (InsertLine 0 (codes "data1") (codes "x"))
    ∷ line (Session 1) 7 CommitLine
    ∷ line (Session 1) 8 BeginLine
    ∷ line (Session 1) 9 (InsertLine 0 (codes "data1") (codes "x"))
    ∷ line (Session 1) 10 CommitLine
    ∷ line (Session 1) 11 BeginLine
    ∷ line (Session 1) 12 (InsertLine 0 (codes "data1") (codes "x"))
    ∷ line (Session 1) 13 CommitLine
    ∷ line (Session 1) 14 BeginLine
    ∷ line (Session 1) 15 (InsertLine 0 (codes "data1") (codes "x"))
    ∷ line (Session 1) 16 CommitLine
    ∷ line (Session 1) 17 BeginLine
    ∷ line (Session 1) 18 (InsertLine 0 (codes "data1") (codes "x"))
    ∷ line (Session 1) 19 CommitLine
    ∷ line (Session 1) 20 BeginLine
    ∷ line (Session 1) 21 (InsertLine 0 (codes "data1") (codes "x"))
    ∷ line (Session 1) 22 CommitLine
    ∷ line (Session 1) 23 BeginLine
    ∷ line (Session 1) 24 (InsertLine 0 (codes "data1") (codes "x"))
    ∷ line (Session 1) 25 CommitLine
    ∷ line (Session 1) 26 BeginLine
    ∷ line (Session 1) 27 (InsertLine 0 (codes "data1") (codes "x"))
    ∷ line (Session 1) 28 CommitLine
    ∷ line Backer 29 (BackupLine 2)
    ∷ []

-- the same, and an archive behind them
abbrev pub archived_again : List Line
archived_again =
    line (Archiver 1) 1 (ArchiveLine 0 ((codes "root") ∷ (codes "data1") ∷ []))
    ∷ line (Session 1) 2 BeginLine
    ∷ line (Session 1) 3 (InsertLine 0 (codes "data1") (codes "x"))
    ∷ line (Session 1) 4 CommitLine
    ∷ line (Session 1) 5 BeginLine
    ∷ line (Session 1) 6 (InsertLine 0 (codes "data1") (codes "x"))
    ∷ line (Session 1) 7 CommitLine
    ∷ line (Session 1) 8 BeginLine
    ∷ line (Session 1) 9 (InsertLine 0 (codes "data1") (codes "x"))
    ∷ line (Session 1) 10 CommitLine
    ∷ line (Session 1) 11 BeginLine
    ∷ line (Session 1) 12 (InsertLine 0 (codes "data1") (codes "x"))
    ∷ line (Session 1) 13 CommitLine
    ∷ line (Session 1) 14 BeginLine
    ∷ line (Session 1) 15 (InsertLine 0 (codes "data1") (codes "x"))
    ∷ line (Session 1) 16 CommitLine
    ∷ line (Session 1) 17 BeginLine
    ∷ line (Session 1) 18 (InsertLine 0 (codes "data1") (codes "x"))
    ∷ line (Session 1) 19 CommitLine
    ∷ line (Session 1) 20 BeginLine
    ∷ line (Session 1) 21 (InsertLine 0 (codes "data1") (codes "x"))
    ∷ line (Session 1) 22 CommitLine
    ∷ line (Session 1) 23 BeginLine
    ∷ line (Session 1) 24 (InsertLine 0 (codes "data1") (codes "x"))
    ∷ line (Session 1) 25 CommitLine
    ∷ line (Session 1) 26 BeginLine
    ∷ line (Session 1) 27 (InsertLine 0 (codes "data1") (codes "x"))
    ∷ line (Session 1) 28 CommitLine
    ∷ line Backer 29 (BackupLine 2)
    ∷ line (Archiver 1) 30 (ArchiveLine 0 ((codes "root") ∷ (codes "data1") ∷ []))
    ∷ []

-- two archives with rows between them, in an installation whose log files have a space of their own; the last log file is not on tape
abbrev pub log_file_lost : List Line
log_file_lost =
    line (Archiver 1) 1 (ArchiveLine 0 ((codes "root") ∷ (codes "logs") ∷ (codes "data1") ∷ []))
    ∷ line (Session 1) 2 BeginLine
    ∷ line (Session 1) 3 (InsertLine 0 (codes "data1") (codes "a"))
    ∷ line (Session 1) 4 CommitLine
    ∷ line (Session 1) 5 BeginLine
    ∷ line (Session 1) 6 (InsertLine 0 (codes "data1") (codes "b"))
    ∷ line (Session 1) 7 CommitLine
    ∷ line (Session 1) 8 BeginLine
    ∷ line (Session 1) 9 (InsertLine 0 (codes "data1") (codes "c"))
    ∷ line (Session 1) 10 CommitLine
    ∷ line (Session 1) 11 BeginLine
    ∷ line (Session 1) 12 (InsertLine 0 (codes "data1") (codes "d"))
    ∷ line (Session 1) 13 CommitLine
    ∷ line Backer 14 (BackupLine 1)
    ∷ line (Session 1) 15 BeginLine
    ∷ line (Session 1) 16 (InsertLine 0 (codes "data1") (codes "e"))
    ∷ line (Session 1) 17 CommitLine
    ∷ line (Archiver 1) 18 (ArchiveLine 0 ((codes "root") ∷ (codes "logs") ∷ (codes "data1") ∷ []))
    ∷ []

-- what is played behind its restore
abbrev pub behind_restore : List Line
behind_restore =
    line (Session 1) 1 BeginLine
    ∷ line (Session 1) 2 (InsertLine 0 (codes "data1") (codes "x"))
    ∷ line (Session 1) 3 CommitLine
    ∷ line (Session 1) 4 BeginLine
    ∷ line (Session 1) 5 (InsertLine 0 (codes "data1") (codes "y"))
    ∷ line (Session 1) 6 CommitLine
    ∷ []

-- a space that is down is restored while the others are on line
abbrev pub restored_warm : List Line
restored_warm =
    line (Session 1) 1 BeginLine
    ∷ line (Session 1) 2 (ReadLine (AtPlace (codes "data1") 0 0))
    ∷ line Warmer 3 (RestoreLine (codes "data1"))
    ∷ line (Session 1) 4 (ReadLine (AtPlace (codes "data1") 0 0))
    ∷ line Warmer 5 (RestoreLine (codes "data1"))
    ∷ []

-- root, logs and data1, where the log files stand in logs
abbrev pub three_spaces : Config
three_spaces = record {
  spaces = record { name = codes "root"; chunks = 60 ∷ [] } ∷ record { name = codes "logs"; chunks = 40 ∷ [] } ∷ record { name = codes "data1"; chunks = 8 ∷ [] } ∷ [];
  physical_space = 0;
  physical_entries = 8;
  log_space = 1;
  log_files = 3;
  log_file_pages = 4;
  image_limit = 2;
}

-- ---- damage

-- the shelf without the blocks of a log file on drive 0
abbrev pub without_log : ℕ → Shelf → Shelf
without_log uniq shelf =
    slice_set shelf 0 (map (λ (v : List (Option Block)). filter (λ (b : Option Block). elim b [ None ↦ true | Some x ↦ not (x.number == uniq) ]) v) (slice_index_or shelf 0 []))

-- the shelf with a block of each volume of drive 1 unreadable
abbrev pub spoilt : ℕ → Shelf → Shelf
spoilt block shelf = slice_set shelf 1 (map (λ (v : List (Option Block)). slice_set v block None) (slice_index_or shelf 1 []))

-- the heads of the readable blocks on drive 0
abbrev pub salvaged_heads : Shelf → List (List ℕ)
salvaged_heads shelf = flat_map (λ (v : List (Option Block)). flat_map (λ (b : Option Block). elim b [ None ↦ [] | Some x ↦ head_numbers x ∷ [] ]) v) (slice_index_or shelf 0 [])

-- a log object of two pages, each with the records of one flush
abbrev pub two_log_pages : List (List ℕ)
two_log_pages =
    (1 ∷ 2 ∷ 1 ∷ 1 ∷ 0 ∷ 1 ∷ 6 ∷ 0 ∷ [])
    ∷ (3 ∷ 2 ∷ 1 ∷ 1 ∷ 1 ∷ 1 ∷ 3 ∷ 0 ∷ [])
    ∷ (3 ∷ 2 ∷ 1 ∷ 1 ∷ 2 ∷ 4 ∷ 3 ∷ 0 ∷ [])
    ∷ (4 ∷ 2 ∷ 1 ∷ 1 ∷ 3 ∷ 1 ∷ 6 ∷ 0 ∷ [])
    ∷ []

-- where the first block stands that is none and belongs to no object: drive, volume and block
abbrev pub damaged_outside : Shelf → Option (ℕ × ℕ × ℕ)
damaged_outside shelf = option_map (λ (p : Placed). (p.drive, p.volume, p.block)) (bad_outside shelf)

-- ---- behind a restore

-- the machine that the opening behind a restore leaves
abbrev pub machine_restored : Config → List Line → Shelf → Plan → Machine
machine_restored c lines shelf p = opened_restored c shelf (whole_journal (machine_after c lines)) p

-- the shelf with the mark of the restore
abbrev pub marked : Shelf → Plan → Shelf
marked shelf p = with_blocks shelf (mark 2 p.end_ ∷ [])

abbrev pub lost_plan : Plan
lost_plan = plan_or (plan_for three_spaces (tapes_after three_spaces log_file_lost) (2 ∷ []))

abbrev pub lost_shelf : Shelf
lost_shelf = marked (tapes_after three_spaces log_file_lost) lost_plan

abbrev pub lost_machine : Machine
lost_machine = machine_restored three_spaces log_file_lost (tapes_after three_spaces log_file_lost) lost_plan

abbrev pub lost_history : List Entry
lost_history = played 400 lost_shelf lost_machine behind_restore

abbrev pub last_machine : Machine
last_machine = state_at lost_shelf lost_machine lost_history

abbrev pub last_shelf : Shelf
last_shelf = salvaged_shelf (next_shelf lost_shelf lost_machine lost_history) last_machine

-- the journal of that machine, from its first record on
abbrev pub last_journal : List Record
last_journal = restored_journal (whole_journal (machine_after three_spaces log_file_lost)) lost_plan.end_ ++ last_machine.work.records

abbrev pub warm_plan : Plan
warm_plan = plan_or (plan_for (small 20 2) (all_after (small 20 2) row_behind_archive) [])

abbrev pub warm_shelf : Shelf
warm_shelf = marked (all_after (small 20 2) row_behind_archive) warm_plan

abbrev pub warm_machine : Machine
warm_machine = machine_restored (small 20 2) row_behind_archive (all_after (small 20 2) row_behind_archive) warm_plan

-- the numbers of the archives of all chains
abbrev pub archives_in : Plan → List ℕ
archives_in p = flat_map (λ (c : Chain). map (λ (o : Object). o.head.number) c.archives) p.chains
