use Rattle.std.proofs.Common.{inl, refl, sym, ◌∙◌}
use Rattle.ol_ports.proofs.FrameLaws.{framed_none, outside_none}
use Rattle.ol_ports.proofs.StopLaws.{stops_none, stops_weaker}
use Rattle.ol_physlog.proofs.AddLaws.{closed, closed_already, closing_stop, durable_here, framed_entry, on_ok, reads_durable, torn_here}
use Rattle.ol_physlog.proofs.StateLaws.{laid_holds}
use Rattle.ol_physlog.proofs.log.PhysLog.close_gate.Goals as goal

pub returns-then-not-is_open-clause-stops : goal.returns-then-not-is_open-clause-stops
returns-then-not-is_open-clause-stops g c tells config images laid free = stops_none _ _ (laid_holds config _ c.args.self.now images laid)

pub returns-then-not-is_open-clause-ok : goal.returns-then-not-is_open-clause-ok
returns-then-not-is_open-clause-ok g c tells config images laid free = closed_already config _ c.args.self.now images c.args.entry (sym c.is_open.ensures ∙ c.if-not-is_open.true) laid

pub returns-then-not-is_open-clause-frame : goal.returns-then-not-is_open-clause-frame
returns-then-not-is_open-clause-frame g c tells = stops_none _ _ (λ d rest. framed_none _ _ d rest)

pub returns-clause-stops : goal.returns-clause-stops
returns-clause-stops g c tells config images laid free =
    stops_weaker _ _ _ _ (λ d torn. closing_stop config _ c.args.self.now images c.args.entry c.requires.entry free (sym c.is_open.ensures ∙ c.if-not-is_open.false) laid d (torn_here _ _ _ _ _ 0 1 d c.chunk.ensures c.page.ensures.value torn)) (c.write_synced.ensures.stops tells)

pub returns-clause-ok : goal.returns-clause-ok
returns-clause-ok g c tells config images laid free =
    on_ok c.write_synced.result
    (λ durable. closed config _ _ c.args.self.now images c.args.entry c.requires.entry free (sym c.is_open.ensures ∙ c.if-not-is_open.false) laid (λ d rest. torn_here _ _ _ _ _ 0 1 d c.chunk.ensures c.page.ensures.value ((c.write_synced.ensures.stops tells).behind d rest)) (durable_here _ _ _ _ _ _ 0 _ c.chunk.ensures c.page.ensures.value durable))
    (c.write_synced.ensures.ok tells)

pub returns-clause-frame : goal.returns-clause-frame
returns-clause-frame g c tells =
    stops_weaker _ _ _ _ (λ d torn. framed_entry _ c.args.self.now c.args.entry _ 0 1 d c.page.ensures.log c.requires.entry (inl refl) (torn_here _ _ _ _ _ 0 1 d c.chunk.ensures c.page.ensures.value torn)) (c.write_synced.ensures.stops tells)

pub returns-then-not-is_open-clause-reads : goal.returns-then-not-is_open-clause-reads
returns-then-not-is_open-clause-reads g c tells = outside_none _ _

pub returns-clause-reads : goal.returns-clause-reads
returns-clause-reads g c tells =
    on_ok c.write_synced.result (λ durable. reads_durable _ _ c.args.self.now c.args.entry _ 0 _ c.page.ensures.log c.requires.entry (inl refl) (durable_here _ _ _ _ _ _ 0 _ c.chunk.ensures c.page.ensures.value durable)) (c.write_synced.ensures.ok tells)
