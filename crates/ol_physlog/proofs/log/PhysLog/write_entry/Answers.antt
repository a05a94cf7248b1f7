use Rattle.std.proofs.Common.{ℕ, ◌+◌, ◌∙◌, ap, arith, inl, inr, refl, subst, ◌≡◌, false}
use Rattle.ol_ports.proofs.FrameLaws.{outside_both}
use Rattle.ol_ports.proofs.StopLaws.{stops_both, stops_framed}
use Rattle.ol_physlog.specs.Heads.{body_bytes}
use Rattle.ol_physlog.specs.Places.{head_page}
use Rattle.ol_physlog.specs.States.{gate_of, next_entry}
use Rattle.ol_physlog.proofs.AddLaws.{body_written, laid_more, on_ok_if, reads_write, still_laid, stops_adding, write_framed, writes_here}
use Rattle.ol_physlog.proofs.log.PhysLog.write_entry.Goals as goal

pub returns-in-Err-clause-stops : goal.returns-in-Err-clause-stops
returns-in-Err-clause-stops g c tells config images laid next room shut =
    let at = ap (λ (n : ℕ). n + 1) (c.page.ensures.value ∙ ap (λ (k : ℕ). head_page c.args.self.now.area k) next) in
    stops_adding config c.args.self.now images room (subst (λ (n : ℕ). gate_of c.args.self.now n ≡ false) next shut) (head_page c.args.self.now.area (next_entry c.args.self.now) + 1) 0 _ (inr refl) _ _ _ c.write_at.result refl
    (writes_here _ _ _ _ _ _ 0 _ c.write_at.result c.chunk.ensures at (c.write_at.ensures.past tells)) laid

pub returns-in-Err-clause-frame : goal.returns-in-Err-clause-frame
returns-in-Err-clause-frame g c tells =
    write_framed _ _ c.args.self.now c.args.entry (head_page c.args.self.now.area c.args.entry + 1) 0 _ c.write_at.result c.page.ensures.log c.requires.entry (inr refl)
    (writes_here _ _ _ _ _ _ 0 _ c.write_at.result c.chunk.ensures (ap (λ (n : ℕ). n + 1) c.page.ensures.value) (c.write_at.ensures.past tells))

pub returns-in-Ok-clause-stops : goal.returns-in-Ok-clause-stops
returns-in-Ok-clause-stops g c tells config images laid next room shut =
    let at = ap (λ (n : ℕ). n + 1) (c.page.ensures.value ∙ ap (λ (k : ℕ). head_page c.args.self.now.area k) next) in
    let behind = c.page-in-Ok.ensures.value ∙ ap (λ (k : ℕ). head_page c.args.self.now.area k) next in
    let is_shut = subst (λ (n : ℕ). gate_of c.args.self.now n ≡ false) next shut in
    let first = writes_here _ _ _ _ _ _ 0 _ c.write_at.result c.chunk.ensures at (c.write_at.ensures.past tells) in
    let mid = still_laid config c.args.self.now images room is_shut (head_page c.args.self.now.area (next_entry c.args.self.now) + 1) 0 _ (inr refl) _ _ _ c.write_at.result refl first (search) laid in
    stops_both _ _ _ _ (stops_adding config c.args.self.now images room is_shut (head_page c.args.self.now.area (next_entry c.args.self.now) + 1) 0 _ (inr refl) _ _ _ c.write_at.result refl first laid)
    (stops_adding config c.args.self.now images room is_shut (head_page c.args.self.now.area (next_entry c.args.self.now)) 1 _ (inl (refl, omega arith)) _ _ _ c.write_at-in-Ok.result refl (writes_here _ _ _ _ _ _ 1 _ c.write_at-in-Ok.result c.chunk-in-Ok.ensures behind (c.write_at-in-Ok.ensures.past tells)) mid)

pub returns-in-Ok-clause-ok : goal.returns-in-Ok-clause-ok
returns-in-Ok-clause-ok g c tells config images laid next room shut is_page fresh =
    let at = ap (λ (n : ℕ). n + 1) (c.page.ensures.value ∙ ap (λ (k : ℕ). head_page c.args.self.now.area k) next) in
    let behind = c.page-in-Ok.ensures.value ∙ ap (λ (k : ℕ). head_page c.args.self.now.area k) next in
    let is_shut = subst (λ (n : ℕ). gate_of c.args.self.now n ≡ false) next shut in
    let first = writes_here _ _ _ _ _ _ 0 _ c.write_at.result c.chunk.ensures at (c.write_at.ensures.past tells) in
    let second = writes_here _ _ _ _ _ _ 1 _ c.write_at-in-Ok.result c.chunk-in-Ok.ensures behind (c.write_at-in-Ok.ensures.past tells) in
    let mid = still_laid config c.args.self.now images room is_shut (head_page c.args.self.now.area (next_entry c.args.self.now) + 1) 0 _ (inr refl) _ _ _ c.write_at.result refl first (search) laid in
    on_ok_if c.write_at-in-Ok.result
    (λ good. laid_more config _ c.args.self.now images c.args.place c.args.image.now room is_shut is_page fresh
    (still_laid config c.args.self.now images room is_shut (head_page c.args.self.now.area (next_entry c.args.self.now)) 1 _ (inl (refl, omega arith)) _ _ _ c.write_at-in-Ok.result refl second good mid)
    (body_written _ _ _ c.args.self.now.area c.args.self.now.generation (next_entry c.args.self.now) c.args.place c.args.image.now _ c.write_at.result c.write_at-in-Ok.result (search)
    (c.write_body-body.ensures.value ∙ ap (λ (n : ℕ). body_bytes c.args.place n) c.generation.ensures) c.write_body-body.ensures.length first (search) second good))

pub returns-in-Ok-clause-frame : goal.returns-in-Ok-clause-frame
returns-in-Ok-clause-frame g c tells =
    stops_framed _ _ _ _
    (write_framed _ _ c.args.self.now c.args.entry (head_page c.args.self.now.area c.args.entry + 1) 0 _ c.write_at.result c.page.ensures.log c.requires.entry (inr refl)
    (writes_here _ _ _ _ _ _ 0 _ c.write_at.result c.chunk.ensures (ap (λ (n : ℕ). n + 1) c.page.ensures.value) (c.write_at.ensures.past tells)))
    (write_framed _ _ c.args.self.now c.args.entry (head_page c.args.self.now.area c.args.entry) 1 _ c.write_at-in-Ok.result c.page.ensures.log c.requires.entry (inl refl) (writes_here _ _ _ _ _ _ 1 _ c.write_at-in-Ok.result c.chunk-in-Ok.ensures c.page-in-Ok.ensures.value (c.write_at-in-Ok.ensures.past tells)))

pub returns-in-Ok-clause-reads : goal.returns-in-Ok-clause-reads
returns-in-Ok-clause-reads g c tells =
    on_ok_if c.write_at-in-Ok.result
    (λ good. outside_both _ _ _ _
    (reads_write _ _ c.args.self.now c.args.entry (head_page c.args.self.now.area c.args.entry + 1) 0 _ c.write_at.result c.page.ensures.log c.requires.entry (inr refl)
    (writes_here _ _ _ _ _ _ 0 _ c.write_at.result c.chunk.ensures (ap (λ (n : ℕ). n + 1) c.page.ensures.value) (c.write_at.ensures.past tells)) (search))
    (reads_write _ _ c.args.self.now c.args.entry (head_page c.args.self.now.area c.args.entry) 1 _ c.write_at-in-Ok.result c.page.ensures.log c.requires.entry (inl refl)
    (writes_here _ _ _ _ _ _ 1 _ c.write_at-in-Ok.result c.chunk-in-Ok.ensures c.page-in-Ok.ensures.value (c.write_at-in-Ok.ensures.past tells)) good))
