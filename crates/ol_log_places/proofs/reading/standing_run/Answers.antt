use Rattle.std.proofs.Common.{length, map, ◌≡◌, ◌≤◌, ◌∙◌}
use Rattle.std.proofs.lemmas.Result.{IfOk-weaker}
use Rattle.ol_values.specs.Config.{log_pages}
use Rattle.ol_log_places.specs.Heads.{AreInRun, IsLastRun}
use Rattle.ol_log_places.proofs.Moves.{last_few, last_in_run}
use Rattle.ol_log_places.specs.Runs.{IsOrderly, open_logs, run_in}
use Rattle.ol_log_places.specs.Scanning.{stood_of}
use Rattle.ol_log_places.proofs.Listed.{ok_from}
use Rattle.ol_log_places.proofs.Cut.{first_shared, last_run}
use Rattle.ol_log_places.proofs.reading.standing_run.Goals as goal

pub returns-clause-run : goal.returns-clause-run
returns-clause-run g c r are = IfOk-weaker g.find_run.result (λ v. IsLastRun g.args.heads.now v.items) (λ v. v.items ≡ map (stood_of c) (run_in (open_logs c r))) (λ v is. (last_run c r are.good are.stand g.args.heads.now v.items are.are g.requires is).0) g.find_run.ensures.run

pub returns-clause-orderly : goal.returns-clause-orderly
returns-clause-orderly g c r are = ok_from g.find_run.result (λ v. IsLastRun g.args.heads.now v.items) (IsOrderly r (log_pages c)) (λ v is. (last_run c r are.good are.stand g.args.heads.now v.items are.are g.requires is).1) g.find_run.ensures.run

pub returns-clause-bad : goal.returns-clause-bad
returns-clause-bad g c r are chunk page is =
    let b = g.find_run.ensures.bad chunk page is in
    let shared = first_shared c r are.good are.stand g.args.heads.now are.are g.requires b.0 b.1 in
    (shared.0, (b.2 ∙ shared.1.0, b.3 ∙ shared.1.1), shared.2)

pub returns-clause-fits : goal.returns-clause-fits
returns-clause-fits g c inside = IfOk-weaker g.find_run.result (λ v. IsLastRun g.args.heads.now v.items) (λ v. AreInRun c.log_file_pages v.items) (λ v is. last_in_run c g.args.heads.now v.items inside is) g.find_run.ensures.run

pub returns-clause-few : goal.returns-clause-few
returns-clause-few g = IfOk-weaker g.find_run.result (λ v. IsLastRun g.args.heads.now v.items) (λ v. length v.items ≤ length g.args.heads.now) (λ v is. last_few g.args.heads.now v.items is) g.find_run.ensures.run
