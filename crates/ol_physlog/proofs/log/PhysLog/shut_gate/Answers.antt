use Rattle.std.proofs.Common.{inl, refl, sym, ◌∙◌}
use Rattle.ol_ports.proofs.FrameLaws.{framed_none, outside_none}
use Rattle.ol_ports.proofs.StopLaws.{stops_none}
use Rattle.ol_physlog.specs.Places.{head_page}
use Rattle.ol_physlog.proofs.AddLaws.{on_ok_if, reads_write, write_framed, writes_here}
use Rattle.ol_physlog.proofs.EmptyLaws.{closing_next, closing_none, closing_skip, closing_write}
use Rattle.ol_physlog.proofs.log.PhysLog.shut_gate.Goals as goal

pub returns-then-not-is_open-clause-stops : goal.returns-then-not-is_open-clause-stops
returns-then-not-is_open-clause-stops g c tells config generation o newer = closing_none config _ c.args.self.now c.args.entry generation o newer

pub returns-then-not-is_open-clause-ok : goal.returns-then-not-is_open-clause-ok
returns-then-not-is_open-clause-ok g c tells o = closing_skip _ c.args.self.now c.args.entry c.requires.entry (sym c.is_open.ensures ∙ c.if-not-is_open.true) o

pub returns-then-not-is_open-clause-frame : goal.returns-then-not-is_open-clause-frame
returns-then-not-is_open-clause-frame g c tells = stops_none _ _ (λ d rest. framed_none _ _ d rest)

pub returns-clause-stops : goal.returns-clause-stops
returns-clause-stops g c tells config generation o newer =
    closing_write c.args.self.now c.args.entry o.is c.requires.entry (sym c.is_open.ensures ∙ c.if-not-is_open.false) _ _ c.write_at.result (writes_here _ _ _ _ _ _ 0 _ c.write_at.result c.chunk.ensures c.page.ensures.value (c.write_at.ensures.past tells)) o config generation newer

pub returns-clause-ok : goal.returns-clause-ok
returns-clause-ok g c tells o =
    on_ok_if c.write_at.result (closing_next c.args.self.now c.args.entry o.is c.requires.entry (sym c.is_open.ensures ∙ c.if-not-is_open.false) _ _ c.write_at.result (writes_here _ _ _ _ _ _ 0 _ c.write_at.result c.chunk.ensures c.page.ensures.value (c.write_at.ensures.past tells)) o)

pub returns-clause-frame : goal.returns-clause-frame
returns-clause-frame g c tells =
    write_framed _ _ c.args.self.now c.args.entry (head_page c.args.self.now.area c.args.entry) 0 _ c.write_at.result c.page.ensures.log c.requires.entry (inl refl) (writes_here _ _ _ _ _ _ 0 _ c.write_at.result c.chunk.ensures c.page.ensures.value (c.write_at.ensures.past tells))

pub returns-then-not-is_open-clause-reads : goal.returns-then-not-is_open-clause-reads
returns-then-not-is_open-clause-reads g c tells = outside_none _ _

pub returns-clause-reads : goal.returns-clause-reads
returns-clause-reads g c tells =
    on_ok_if c.write_at.result
    (reads_write _ _ c.args.self.now c.args.entry (head_page c.args.self.now.area c.args.entry) 0 _ c.write_at.result c.page.ensures.log c.requires.entry (inl refl) (writes_here _ _ _ _ _ _ 0 _ c.write_at.result c.chunk.ensures c.page.ensures.value (c.write_at.ensures.past tells)))
