use Rattle.std.proofs.Common.{ap, inl, refl, subst, ◌≡◌}
use Rattle.std.specs.Prelude.{IfSome, None, Option, Some, false, option_to_list}
use Rattle.ol_values.specs.declared.line.Line.{Line}
use Rattle.ol_core.specs.Lines.{First}
use Rattle.ol_core.specs.Machine.{journal_in}
use Rattle.ol_online.specs.Playing.{IsNamed, IsReached, job_of, line_in}
use Rattle.ol_online.proofs.PlayLaws.{run_order, run_stopped}
use Rattle.ol_online.proofs.WholePlay.{archive_order, archive_short, archive_well}
use Rattle.ol_online.proofs.play.play_archive.Goals as goal

pub returns-in-Some-clause-well : goal.returns-in-Some-clause-well
returns-in-Some-clause-well g c config all named reached waiting =
    let some : line_in c.args.line ≡ Some c.in-Some.line.now = ap line_in c.in-Some.is in
    let r = subst (λ (a : Option Line). IsReached config all c.args.core.now (option_to_list a) First) some reached in
    let n = subst (λ (a : Option Line). IfSome a (IsNamed config)) some named in
    archive_well config all (line_in c.args.line) c.in-Some.line.now (journal_in c.args.core.now.machine) c.args.writer.now c.archive.new.writer c.archive.new.core c.archive.result some (c.archive.ensures.well config all n r waiting)

pub returns-in-Some-clause-short : goal.returns-in-Some-clause-short
returns-in-Some-clause-short g c config all named reached waiting =
    let some : line_in c.args.line ≡ Some c.in-Some.line.now = ap line_in c.in-Some.is in
    let r = subst (λ (a : Option Line). IsReached config all c.args.core.now (option_to_list a) First) some reached in
    let n = subst (λ (a : Option Line). IfSome a (IsNamed config)) some named in
    archive_short config all (line_in c.args.line) c.in-Some.line.now (journal_in c.args.core.now.machine) c.args.writer.now c.archive.new.writer c.archive.new.core c.archive.result some (c.archive.ensures.ended config all n r waiting)

pub returns-in-Some-clause-order : goal.returns-in-Some-clause-order
returns-in-Some-clause-order g c config all ascends named reached waiting =
    let some : line_in c.args.line ≡ Some c.in-Some.line.now = ap line_in c.in-Some.is in
    let r = subst (λ (a : Option Line). IsReached config all c.args.core.now (option_to_list a) First) some reached in
    let n = subst (λ (a : Option Line). IfSome a (IsNamed config)) some named in
    archive_order all (job_of config c.in-Some.line.now (journal_in c.args.core.now.machine)) c.args.writer.now c.archive.new.writer c.archive.new.core c.archive.result ascends (c.archive.ensures.well config all n r waiting) (c.archive.ensures.ended config all n r waiting)

pub returns-in-None-clause-order : goal.returns-in-None-clause-order
returns-in-None-clause-order g c config all ascends named reached waiting =
    let none : line_in c.args.line ≡ None = ap line_in c.in-None.is in
    let r = subst (λ (a : Option Line). IsReached config all c.args.core.now (option_to_list a) First) none reached in
    run_order ascends (run_stopped false r (inl refl))
