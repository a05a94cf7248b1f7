use Rattle.std.proofs.Common.{◌≡◌, ap, arith, false, refl, subst, sym, true, ℕ, ◌∙◌}
use Rattle.ol_rules.specs.Ring.{file_of}
use Rattle.ol_ports.proofs.FrameLaws.{framed_none, outside_none}
use Rattle.ol_ports.proofs.StopLaws.{stops_none, stops_weaker}
use Rattle.ol_log_places.specs.Places.{Place}
use Rattle.ol_log_places.specs.Writes.{IsFreeFile, is_in_file, without_file}
use Rattle.ol_log_places.proofs.WriteLaws.{without_in}
use Rattle.ol_log_state.specs.declared.places.NextPage.{NextPage}
use Rattle.ol_loglog.specs.RingValue.{first_unwritten, ring_value}
use Rattle.ol_loglog.specs.Ready.{IsNextShut, IsReadyBut, is_entered}
use Rattle.ol_loglog.proofs.Readies.{closing_holds, ok_both, ready_beside, ready_closed, ready_holds}
use Rattle.ol_loglog.proofs.pages.enter_file.Goals as goal

pub returns-then-page-clause-stops : goal.returns-then-page-clause-stops
returns-then-page-clause-stops g c tells r floor j ready free =
    let t = c.args.table.now in
    let s = c.args.state.now in
    let file = c.file_number.ensures.value ∙ ap (λ (n : NextPage). file_of t n.uniq) c.next_page-page.ensures.value in
    let enters = ap (λ (n : NextPage). n.enters) (sym c.next_page-page.ensures.value) ∙ c.if-page.true in
    let spare = subst (λ (f : ℕ). IsFreeFile t floor f r) (sym file) (free c.requires.some enters) in
    stops_weaker _ _ _ _ (closing_holds _ t s c.args.gates.now.items _ r floor j ready c.file_number.result spare) (c.close_file.ensures.stops tells r ready.placed ready.gates)

pub returns-then-page-clause-ok : goal.returns-then-page-clause-ok
returns-then-page-clause-ok g c tells r floor j ready free =
    let t = c.args.table.now in
    let s = c.args.state.now in
    let new = g.D.Disk.past c.close_file.new.disk in
    let now = c.close_file.new.gates.items in
    let file = c.file_number.ensures.value ∙ ap (λ (n : NextPage). file_of t n.uniq) c.next_page-page.ensures.value in
    let enters = ap (λ (n : NextPage). n.enters) (sym c.next_page-page.ensures.value) ∙ c.if-page.true in
    let spare = subst (λ (f : ℕ). IsFreeFile t floor f r) (sym file) (free c.requires.some enters) in
    let shut = λ (f : ℕ) (k : ℕ) (in_it : is_in_file t f k ≡ true). without_in t f r k in_it in
    ok_both c.close_file.result
    (λ placed are. let both : (x : ℕ → Place) × IsReadyBut (is_entered t s) new (ring_value t s now) x floor j × IsNextShut t s x = (
      without_file t c.file_number.result r,
      ready_closed _ t s c.args.gates.now.items _ r floor j ready new now c.file_number.result file enters (λ other e. refl) spare placed are,
      λ opens k lt in_it. shut c.file_number.result k (subst (λ (f : ℕ). is_in_file t f k ≡ true) (sym file) in_it),
    ) in both)
    (c.close_file.ensures.placed tells r ready.placed ready.gates) (c.close_file.ensures.gates r ready.gates)

pub returns-else-page-clause-stops : goal.returns-else-page-clause-stops
returns-else-page-clause-stops g c tells r floor j ready free = stops_none _ _ (ready_holds _ c.args.table.now c.args.state.now c.args.gates.now.items _ r floor j ready (first_unwritten c.args.state.now) (omega arith))

pub returns-else-page-clause-ok : goal.returns-else-page-clause-ok
returns-else-page-clause-ok g c tells r floor j ready free =
    let t = c.args.table.now in
    let s = c.args.state.now in
    let stays = ap (λ (n : NextPage). n.enters) (sym c.next_page-page.ensures.value) ∙ c.if-page.false in
    let both : (x : ℕ → Place) × IsReadyBut (is_entered t s) (g.D.Disk.past c.args.disk.now) (ring_value t s c.args.gates.now.items) x floor j × IsNextShut t s x = (
      r,
      ready_beside _ t s c.args.gates.now.items _ r floor j ready (λ other e. refl),
      λ enters k lt in_it. absurd (let clash : true ≡ false = sym enters ∙ stays in cc),
    ) in
    both

pub returns-else-page-clause-frame : goal.returns-else-page-clause-frame
returns-else-page-clause-frame g c tells = stops_none _ _ (λ d rest. framed_none _ _ d rest)

pub returns-else-page-clause-reads : goal.returns-else-page-clause-reads
returns-else-page-clause-reads g c tells = outside_none _ _
