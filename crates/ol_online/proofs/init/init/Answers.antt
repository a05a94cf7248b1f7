use Rattle.std.proofs.Common.{subst, sym}
use Rattle.ol_online.proofs.InitLaws.{format_cause, init_refused, init_stops, init_unread}
use Rattle.std.specs.Prelude.{Err}
use Rattle.ol_online.specs.Initing.{EndsInit}
use Rattle.ol_online.specs.Opening.{HasStatusCause}
use Rattle.ol_online.specs.declared.status.Status.{Status}
use Rattle.ol_online.proofs.init.init.Goals as goal

pub returns-in-Ok-format-clause-stops : goal.returns-in-Ok-format-clause-stops
returns-in-Ok-format-clause-stops g c told = init_stops _ _ _ c.in-Ok.table c.in-Ok.ensures.ended (c.format.ensures.stops told)

pub returns-in-Err-format-clause-stops : goal.returns-in-Err-format-clause-stops
returns-in-Err-format-clause-stops g c told = init_stops _ _ _ c.in-Ok.table c.in-Ok.ensures.ended (c.format.ensures.stops told)

pub returns-in-Err-format-clause-cause : goal.returns-in-Err-format-clause-cause
returns-in-Err-format-clause-cause g c =
    subst (λ (s : Status). HasStatusCause (g.D.Disk.fault_counts c.args.disk.now) (g.D.Disk.fault_counts c.format.new.disk) s) (sym c.status_of.ensures)
    (format_cause _ _ c.in-Err-format.fault c.in-Err-format.ensures.cause)

pub returns-in-Err-format-clause-ended : goal.returns-in-Err-format-clause-ended
returns-in-Err-format-clause-ended g c =
    let ends = init_refused (g.S.Source.left c.args.source.now) (g.S.Source.fault_count c.args.source.now) (g.S.Source.fault_count c.read_config.new.source) g.D.Disk.tells (g.D.Disk.sizes c.args.disk.now) (g.D.Disk.past c.format.new.disk)
    c.in-Ok.table c.in-Err-format.fault c.in-Ok.ensures.ended c.in-Err-format.ensures.small c.in-Err-format.ensures.large in
    subst (λ (s : Status). EndsInit (g.S.Source.left c.args.source.now) (g.S.Source.fault_count c.args.source.now) (g.S.Source.fault_count c.read_config.new.source) g.D.Disk.tells (g.D.Disk.sizes c.args.disk.now) (g.D.Disk.past c.format.new.disk) (Err s))
    (sym c.status_of.ensures) ends

pub returns-in-Err-clause-stops : goal.returns-in-Err-clause-stops
returns-in-Err-clause-stops g c told = init_unread _ _
