use Rattle.std.specs.Prelude.{IfSome, List, Option, option_to_list, ℕ, ◌++◌, ◌<◌}
use Rattle.std.proofs.Common.{ap, get_or, subst, sym, ◌∙◌}
use Rattle.std.proofs.lemmas.List.{get_or-take}
use Rattle.ol_online.specs.declared.status.Status.{Status}
use Rattle.ol_online.proofs.CommandLaws.{played_on}
use Rattle.ol_values.specs.declared.line.Line.{Line}
use Rattle.ol_online.specs.Command.{PlayedTo, archive_line_in, first_of}
use Rattle.ol_online.specs.Views.{drive_1}
use Rattle.ol_online.specs.Playing.{IsArchiveLine, IsNamed, IsSessionLine}
use Rattle.ol_online.proofs.PlanLaws.{all_planned, archive_is, first_told, sessions_are}
use Rattle.ol_online.proofs.work.play_on.Goals as goal

pub play-history-requires-clause-sessions : goal.play-history-requires-clause-sessions
play-history-requires-clause-sessions g c k d l =
    let within = subst (λ (n : ℕ). k < n) c.split_at.ensures.front_len l in
    let same = ap (λ (l : List Line). get_or l k d) c.split_at.ensures.front ∙ get_or-take c.args.sessions c.args.lines.now k d within in
    subst (λ (line : Line). IsSessionLine line) (sym same) (sessions_are c.args.table c.args.lines.now c.args.sessions c.requires.built c.requires.forms k d within)

pub play-history-requires-clause-archive : goal.play-history-requires-clause-archive
play-history-requires-clause-archive g c =
    let told = first_told c.first.result c.split_at.result.1.now c.first.ensures.value ∙ ap first_of c.split_at.ensures.back in
    subst (λ (o : Option Line). IfSome o IsArchiveLine) (sym told) (archive_is c.args.table c.args.lines.now c.args.sessions c.requires.built).0

pub play-history-requires-clause-named : goal.play-history-requires-clause-named
play-history-requires-clause-named g c =
    let told = first_told c.first.result c.split_at.result.1.now c.first.ensures.value ∙ ap first_of c.split_at.ensures.back in
    subst (λ (o : Option Line). IfSome o (IsNamed c.args.table)) (sym told) (archive_is c.args.table c.args.lines.now c.args.sessions c.requires.built).1

pub returns-clause-played : goal.returns-clause-played
returns-clause-played g c =
    let told = first_told c.first.result c.split_at.result.1.now c.first.ensures.value ∙ ap first_of c.split_at.ensures.back in
    let whole = (λ i. c.split_at.ensures.front i ++ option_to_list (told i)) ∙ all_planned c.args.table c.args.lines.now c.args.sessions c.requires.built in
    subst (λ (s : Status). PlayedTo c.args.table c.args.lines.now (archive_line_in c.args.sessions c.args.lines.now) (drive_1 (g.T.Drive.tape c.args.drive) (g.T.Drive.fault_count c.args.drive)) c.play-history.result.0 (drive_1 (g.T.Drive.tape c.into_drive.result) (g.T.Drive.fault_count c.into_drive.result)) s) (sym c.status_of.ensures)
    (played_on c.args.table _ c.args.lines.now _ (archive_line_in c.args.sessions c.args.lines.now) c.new-writer.result c.play-history.new.writer c.play-history.result.0 _ _ _ _ c.play-history.result.1
    whole told c.new-writer.ensures.tape c.new-writer.ensures.faults c.new-writer.ensures.number (sym c.into_drive.ensures.tape) (sym c.into_drive.ensures.faults) c.play-history.ensures.well c.play-history.ensures.short)
