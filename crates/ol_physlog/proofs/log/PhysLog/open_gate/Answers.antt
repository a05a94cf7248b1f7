use Rattle.std.proofs.Common.{ℕ, ◌∙◌, ap, inl, refl}
use Rattle.ol_physlog.specs.Places.{head_page}
use Rattle.ol_physlog.specs.States.{entry_number}
use Rattle.ol_physlog.proofs.AddLaws.{on_ok_if, reads_write, write_framed, writes_here}
use Rattle.ol_physlog.proofs.SettleLaws.{opening_next, opening_stop}
use Rattle.ol_physlog.proofs.StateLaws.{entry_below}
use Rattle.ol_physlog.proofs.log.PhysLog.open_gate.Goals as goal

pub returns-clause-stops : goal.returns-clause-stops
returns-clause-stops g c tells config images o from =
    opening_stop config c.args.self.now images c.args.turn from c.requires.turn _ _ c.write_at.result
    (writes_here _ _ _ _ _ _ 0 _ c.write_at.result c.chunk.ensures (c.page.ensures.value ∙ ap (λ (k : ℕ). head_page c.args.self.now.area k) c.entry.ensures.value) (c.write_at.ensures.past tells)) o

pub returns-clause-ok : goal.returns-clause-ok
returns-clause-ok g c tells config images o from =
    on_ok_if c.write_at.result
    (opening_next config c.args.self.now images c.args.turn from c.requires.turn _ _ c.write_at.result
    (writes_here _ _ _ _ _ _ 0 _ c.write_at.result c.chunk.ensures (c.page.ensures.value ∙ ap (λ (k : ℕ). head_page c.args.self.now.area k) c.entry.ensures.value) (c.write_at.ensures.past tells)) o)

pub returns-clause-frame : goal.returns-clause-frame
returns-clause-frame g c tells =
    write_framed _ _ c.args.self.now (entry_number c.args.self.now c.args.turn) (head_page c.args.self.now.area (entry_number c.args.self.now c.args.turn)) 0 _ c.write_at.result c.requires.log (entry_below c.args.self.now c.requires.log c.args.turn c.requires.turn) (inl refl)
    (writes_here _ _ _ _ _ _ 0 _ c.write_at.result c.chunk.ensures (c.page.ensures.value ∙ ap (λ (k : ℕ). head_page c.args.self.now.area k) c.entry.ensures.value) (c.write_at.ensures.past tells))

pub returns-clause-reads : goal.returns-clause-reads
returns-clause-reads g c tells =
    on_ok_if c.write_at.result
    (reads_write _ _ c.args.self.now (entry_number c.args.self.now c.args.turn) (head_page c.args.self.now.area (entry_number c.args.self.now c.args.turn)) 0 _ c.write_at.result c.requires.log (entry_below c.args.self.now c.requires.log c.args.turn c.requires.turn) (inl refl)
    (writes_here _ _ _ _ _ _ 0 _ c.write_at.result c.chunk.ensures (c.page.ensures.value ∙ ap (λ (k : ℕ). head_page c.args.self.now.area k) c.entry.ensures.value) (c.write_at.ensures.past tells)))
