use Rattle.std.specs.Prelude.{List, OnOk, IfErr, option_to_list}
use Rattle.std.proofs.Common.{subst, sym}
use Rattle.ol_values.specs.declared.history.Entry.{Entry}
use Rattle.ol_values.specs.Text.{IsInLineOrder}
use Rattle.ol_online.specs.declared.archive.PlayEnd.TheVariants.{NoMemory}
use Rattle.ol_online.specs.Playing.{PlaysShort, PlaysWell, all_lines, line_in}
use Rattle.ol_online.proofs.PlayLaws.{run_order}
use Rattle.ol_online.proofs.WholePlay.{begun_reached, begun_waiting, short_before}
use Rattle.ol_online.proofs.play.play.Goals as goal

pub returns-in-Ok-play_session-clause-well : goal.returns-in-Ok-play_session-clause-well
returns-in-Ok-play_session-clause-well g c =
    let all = all_lines c.args.lines.now c.args.archive in
    let reached = c.in-Ok-play_session.ensures.ok c.args.table all (option_to_list (line_in c.args.archive)) (begun_reached c.args.table all c.in-Ok.core c.in-Ok.ensures) in
    let waiting = c.in-Ok-play_session.ensures.waiting c.args.table (begun_waiting c.args.table c.in-Ok.core c.in-Ok.ensures) in
    subst (λ (h : List Entry). OnOk c.play_archive-end.result (PlaysWell c.args.table all (line_in c.args.archive) c.args.writer.now h c.play_archive-end.new.writer)) (sym c.into_history.ensures)
    (c.play_archive-end.ensures.well c.args.table all c.requires.named reached waiting)

pub returns-in-Ok-play_session-clause-short : goal.returns-in-Ok-play_session-clause-short
returns-in-Ok-play_session-clause-short g c =
    let all = all_lines c.args.lines.now c.args.archive in
    let reached = c.in-Ok-play_session.ensures.ok c.args.table all (option_to_list (line_in c.args.archive)) (begun_reached c.args.table all c.in-Ok.core c.in-Ok.ensures) in
    let waiting = c.in-Ok-play_session.ensures.waiting c.args.table (begun_waiting c.args.table c.in-Ok.core c.in-Ok.ensures) in
    subst (λ (h : List Entry). IfErr c.play_archive-end.result (PlaysShort c.args.table all (line_in c.args.archive) c.args.writer.now h c.play_archive-end.new.writer)) (sym c.into_history.ensures)
    (c.play_archive-end.ensures.short c.args.table all c.requires.named reached waiting)

pub returns-in-Ok-play_session-clause-order : goal.returns-in-Ok-play_session-clause-order
returns-in-Ok-play_session-clause-order g c =
    let all = all_lines c.args.lines.now c.args.archive in
    let reached = c.in-Ok-play_session.ensures.ok c.args.table all (option_to_list (line_in c.args.archive)) (begun_reached c.args.table all c.in-Ok.core c.in-Ok.ensures) in
    let waiting = c.in-Ok-play_session.ensures.waiting c.args.table (begun_waiting c.args.table c.in-Ok.core c.in-Ok.ensures) in
    subst IsInLineOrder (sym c.into_history.ensures) (c.play_archive-end.ensures.order c.args.table all c.requires.rising c.requires.named reached waiting)

pub returns-in-Err-clause-short : goal.returns-in-Err-clause-short
returns-in-Err-clause-short g c =
    let all = all_lines c.args.lines.now c.args.archive in
    let run = c.in-Err.ensures.err c.args.table all (option_to_list (line_in c.args.archive)) (begun_reached c.args.table all c.in-Ok.core c.in-Ok.ensures) in
    subst (λ (h : List Entry). PlaysShort c.args.table all (line_in c.args.archive) c.args.writer.now h c.args.writer.now NoMemory) (sym c.into_history-in-Err.ensures)
    (short_before (line_in c.args.archive) c.args.writer.now run)

pub returns-in-Err-clause-order : goal.returns-in-Err-clause-order
returns-in-Err-clause-order g c =
    let all = all_lines c.args.lines.now c.args.archive in
    let run = c.in-Err.ensures.err c.args.table all (option_to_list (line_in c.args.archive)) (begun_reached c.args.table all c.in-Ok.core c.in-Ok.ensures) in
    subst IsInLineOrder (sym c.into_history-in-Err.ensures) (run_order c.requires.rising run)
