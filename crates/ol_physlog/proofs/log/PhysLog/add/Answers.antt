use Rattle.std.proofs.Common.{ℕ, [], ◌++◌, ◌<◌, ◌∷◌, ◌≡◌, ap, false, length, subst, sym}
use Rattle.ol_chunks.specs.Places.{lies_in}
use Rattle.ol_chunks.specs.declared.table.Area.{Area}
use Rattle.ol_ports.specs.Frames.{FramedIn, ReadsOutside}
use Rattle.ol_ports.specs.Stops.{Stops}
use Rattle.ol_ports.proofs.FrameLaws.{outside_both}
use Rattle.ol_ports.proofs.StopLaws.{stops_both, stops_framed, stops_weaker}
use Rattle.ol_physlog.specs.States.{HoldsEntries, IsFree, IsLaid, Log, gate_of, has_entry, next_entry}
use Rattle.ol_physlog.proofs.StateLaws.{gate_now_shut, holds_shut, next_free}
use Rattle.ol_physlog.proofs.log.PhysLog.add.Goals as goal
use Rattle.ol_physlog.proofs.log.PhysLog.add.Goals.{After-close_gate, After-write_entry}

pub returns-in-Err-clause-stops : goal.returns-in-Err-clause-stops
returns-in-Err-clause-stops g c tells config images laid =
    c.in-Err.ensures.stops tells config images laid (subst (λ (n : ℕ). IsFree c.args.self.now n) (sym c.next-entry.ensures.value) (next_free c.args.self.now c.next-entry.ensures.log c.requires.spare))

pub returns-in-Err-write_entry-clause-stops : goal.returns-in-Err-write_entry-clause-stops
returns-in-Err-write_entry-clause-stops g c tells config images laid =
    let free = subst (λ (n : ℕ). IsFree c.args.self.now n) (sym c.next-entry.ensures.value) (next_free c.args.self.now c.next-entry.ensures.log c.requires.spare) in
    let back = sym c.note_shut.ensures in
    let mid = subst (λ (t : Log). IsLaid config (g.D.Disk.past c.close_gate.new.disk) t images) back (c.in-Ok.ensures.ok tells config images laid free) in
    let next = subst (λ (t : Log). c.next-entry.result ≡ next_entry t) back c.next-entry.ensures.value in
    let room = subst (λ (t : Log). length t.places < t.area.count) back c.requires.spare in
    let shut = subst (λ (t : Log). gate_of t c.next-entry.result ≡ false) back (gate_now_shut c.args.self.now c.next-entry.result c.next-entry.ensures.log c.next-entry.ensures.below) in
    stops_both _ _ _ _ (c.close_gate.ensures.stops tells config images laid free)
    (stops_weaker _ _ _ _ (λ d holds. holds_shut config c.args.self.now c.next-entry.result images d (subst (λ (t : Log). HoldsEntries config t images d) c.note_shut.ensures holds)) (c.write_entry.ensures.stops tells config images mid next room shut))

pub returns-in-Err-write_entry-clause-frame : goal.returns-in-Err-write_entry-clause-frame
returns-in-Err-write_entry-clause-frame g c tells =
    let area = ap (λ (t : Log). t.area) c.note_shut.ensures in
    stops_framed _ _ _ _ (c.close_gate.ensures.frame tells)
    (subst (λ (a : Area). Stops (g.D.Disk.past c.close_gate.new.disk) (g.D.Disk.past c.write_entry.new.disk) (FramedIn (g.D.Disk.past c.close_gate.new.disk) (lies_in a))) area (c.write_entry.ensures.frame tells))

pub returns-clause-stops : goal.returns-clause-stops
returns-clause-stops g c tells config images laid =
    let free = subst (λ (n : ℕ). IsFree c.args.self.now n) (sym c.next-entry.ensures.value) (next_free c.args.self.now c.next-entry.ensures.log c.requires.spare) in
    let back = sym c.note_shut.ensures in
    let mid = subst (λ (t : Log). IsLaid config (g.D.Disk.past c.close_gate.new.disk) t images) back (c.in-Ok.ensures.ok tells config images laid free) in
    let next = subst (λ (t : Log). c.next-entry.result ≡ next_entry t) back c.next-entry.ensures.value in
    let room = subst (λ (t : Log). length t.places < t.area.count) back c.requires.spare in
    let shut = subst (λ (t : Log). gate_of t c.next-entry.result ≡ false) back (gate_now_shut c.args.self.now c.next-entry.result c.next-entry.ensures.log c.next-entry.ensures.below) in
    stops_both _ _ _ _ (c.close_gate.ensures.stops tells config images laid free)
    (stops_weaker _ _ _ _ (λ d holds. holds_shut config c.args.self.now c.next-entry.result images d (subst (λ (t : Log). HoldsEntries config t images d) c.note_shut.ensures holds)) (c.write_entry.ensures.stops tells config images mid next room shut))

pub returns-clause-ok : goal.returns-clause-ok
returns-clause-ok g c tells config images laid there =
    let free = subst (λ (n : ℕ). IsFree c.args.self.now n) (sym c.next-entry.ensures.value) (next_free c.args.self.now c.next-entry.ensures.log c.requires.spare) in
    let back = sym c.note_shut.ensures in
    let mid = subst (λ (t : Log). IsLaid config (g.D.Disk.past c.close_gate.new.disk) t images) back (c.in-Ok.ensures.ok tells config images laid free) in
    let next = subst (λ (t : Log). c.next-entry.result ≡ next_entry t) back c.next-entry.ensures.value in
    let room = subst (λ (t : Log). length t.places < t.area.count) back c.requires.spare in
    let shut = subst (λ (t : Log). gate_of t c.next-entry.result ≡ false) back (gate_now_shut c.args.self.now c.next-entry.result c.next-entry.ensures.log c.next-entry.ensures.below) in
    let fresh = subst (λ (t : Log). has_entry t (record { space = c.args.space; page = c.args.page }) ≡ false) back c.requires.fresh in
    subst (λ (t : Log). IsLaid config (g.D.Disk.past c.write_entry.new.disk) t (images ++ c.args.image.now ∷ [])) (sym c.note_added.ensures) (c.in-Ok-write_entry.ensures.ok tells config images mid next room shut (there, c.ranges.page.fits) fresh)

pub returns-clause-frame : goal.returns-clause-frame
returns-clause-frame g c tells =
    let area = ap (λ (t : Log). t.area) c.note_shut.ensures in
    stops_framed _ _ _ _ (c.close_gate.ensures.frame tells)
    (subst (λ (a : Area). Stops (g.D.Disk.past c.close_gate.new.disk) (g.D.Disk.past c.write_entry.new.disk) (FramedIn (g.D.Disk.past c.close_gate.new.disk) (lies_in a))) area (c.write_entry.ensures.frame tells))

pub returns-clause-reads : goal.returns-clause-reads
returns-clause-reads g c tells =
    let area = ap (λ (t : Log). t.area) c.note_shut.ensures in
    outside_both _ _ _ _ (c.in-Ok.ensures.reads tells) (subst (λ (a : Area). ReadsOutside (g.D.Disk.past c.close_gate.new.disk) (g.D.Disk.past c.write_entry.new.disk) (lies_in a)) area (c.in-Ok-write_entry.ensures.reads tells))
