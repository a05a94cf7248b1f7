use Rattle.ol_online.proofs.CalmLaws.{calm_command, calm_init, some_item}
use Rattle.ol_online.proofs.InitLaws.{reported_cause, reported_is}
use Rattle.ol_online.proofs.SourceLaws.{takes_reported}
use Rattle.std.proofs.Common.{◌∙◌}
use Rattle.ol_online.proofs.command.Goals as goal

pub returns-clause-calm : goal.returns-clause-calm
returns-clause-calm g c d play lines config n sound calm enough =
    calm_command _ _ _ _ _ _ c.work-told.result.0 _ c.work-told.result.1 _ (c.work-told.ensures.ended d) c.work-told.ensures.cause c.report-status.ensures.kind c.into_history.ensures
    play lines config n sound calm enough

pub returns-clause-calm_init : goal.returns-clause-calm_init
returns-clause-calm_init g c init config sound calm =
    let d = some_item c.args.rig.drives.items c.requires.five in
    calm_init _ _ _ _ _ _ c.work-told.result.0 c.work-told.result.1 _ (c.work-told.ensures.ended d) c.work-told.ensures.cause c.report-status.ensures.kind
    init config sound calm

pub returns-clause-untouched : goal.returns-clause-untouched
returns-clause-untouched g c init not_ok no_write no_disk =
    let same = reported_is _ _ _ _ c.report-status.ensures.kind no_write in
    c.work-told.ensures.untouched init (λ is. not_ok (same ∙ is)) (λ chunk is. no_disk chunk (same ∙ is))

pub returns-clause-reads : goal.returns-clause-reads
returns-clause-reads g c verb is =
    takes_reported _ _ _ _ _ c.work-told.result.1 _ c.report-status.ensures.kind (c.work-told.ensures.reads verb is)

pub returns-clause-cause : goal.returns-clause-cause
returns-clause-cause g c = reported_cause _ _ _ _ _ _ c.report-status.ensures.kind c.work-told.ensures.cause
