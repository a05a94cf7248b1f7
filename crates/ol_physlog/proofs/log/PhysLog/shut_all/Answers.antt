use Rattle.std.proofs.Common.{sym, ◌∙◌}
use Rattle.ol_ports.proofs.FrameLaws.{framed_none, outside_both, outside_none, outside_sync}
use Rattle.ol_ports.proofs.StopLaws.{stops_none, stops_sync}
use Rattle.ol_physlog.proofs.AddLaws.{on_ok_if}
use Rattle.ol_physlog.proofs.EmptyLaws.{closing_begin, closing_done, closing_none, shut_already}
use Rattle.ol_physlog.proofs.log.PhysLog.shut_all.Goals as goal

pub returns-then-not-has_open-clause-stops : goal.returns-then-not-has_open-clause-stops
returns-then-not-has_open-clause-stops g c tells config images generation laid newer = closing_none config _ c.args.self.now 0 generation (closing_begin config _ c.args.self.now images laid) newer

pub returns-then-not-has_open-clause-ok : goal.returns-then-not-has_open-clause-ok
returns-then-not-has_open-clause-ok g c tells config images laid = shut_already config _ c.args.self.now images laid (sym c.has_open.ensures.value ∙ c.if-not-has_open.true)

pub returns-then-not-has_open-clause-frame : goal.returns-then-not-has_open-clause-frame
returns-then-not-has_open-clause-frame g c tells = stops_none _ _ (λ d rest. framed_none _ _ d rest)

pub returns-in-Ok-clause-stops : goal.returns-in-Ok-clause-stops
returns-in-Ok-clause-stops g c tells config images generation laid newer =
    stops_sync _ _ _ _ c.sync.result _ (c.in-Ok.ensures.stops tells config generation (closing_begin config _ c.args.self.now images laid) newer) (c.sync.ensures.past tells)

pub returns-in-Ok-clause-ok : goal.returns-in-Ok-clause-ok
returns-in-Ok-clause-ok g c tells config images laid =
    on_ok_if c.sync.result (λ good. closing_done _ _ c.args.self.now c.sync.result (c.sync.ensures.past tells) good (c.in-Ok.ensures.ok tells (closing_begin config _ c.args.self.now images laid)))

pub returns-in-Ok-clause-frame : goal.returns-in-Ok-clause-frame
returns-in-Ok-clause-frame g c tells = stops_sync _ _ _ _ c.sync.result _ (c.in-Ok.ensures.frame tells) (c.sync.ensures.past tells)

pub returns-in-Err-clause-stops : goal.returns-in-Err-clause-stops
returns-in-Err-clause-stops g c tells config images generation laid newer = c.in-Err.ensures.stops tells config generation (closing_begin config _ c.args.self.now images laid) newer

pub returns-then-not-has_open-clause-reads : goal.returns-then-not-has_open-clause-reads
returns-then-not-has_open-clause-reads g c tells = outside_none _ _

pub returns-in-Ok-clause-reads : goal.returns-in-Ok-clause-reads
returns-in-Ok-clause-reads g c tells = on_ok_if c.sync.result (λ good. outside_both _ _ _ _ (c.in-Ok.ensures.reads tells) (outside_sync _ _ _ _ c.sync.result (c.sync.ensures.past tells) good))
