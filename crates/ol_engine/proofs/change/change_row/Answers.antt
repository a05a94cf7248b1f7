use Rattle.std.specs.Prelude.{List, OnOk, Option, true, ℕ, ◌+◌, ◌≡◌}
use Rattle.std.proofs.Common.{ap, arith, refl, subst, sym, ◌∙◌}
use Rattle.ol_values.specs.declared.record.Record.{Record}
use Rattle.ol_values.specs.Image.{page_bytes}
use Rattle.ol_rules.specs.Start.{page_behind, upto}
use Rattle.ol_model.specs.Machine.{Machine}
use Rattle.ol_model.specs.Steps.{after_change, append}
use Rattle.ol_before.specs.Images.{Captures, captured}
use Rattle.ol_ports.proofs.StopLaws.{stops_both, stops_weaker}
use Rattle.ol_store.specs.Stores.{image_with}
use Rattle.ol_storage.proofs.Agreeing.{upto_all}
use Rattle.ol_storage.specs.Behind.{Behind}
use Rattle.ol_storage.specs.Installation.{Installation}
use Rattle.ol_storage.specs.Storing.{IsStored}
use Rattle.ol_engine.specs.Parts.{anchor_made, behind_of, ready_for}
use Rattle.ol_engine.proofs.Changes.{change_shows}
use Rattle.ol_engine.proofs.Stops.{behind_more, either_more, either_record}
use Rattle.ol_engine.proofs.Turns.{change_rises, follow_turns, risen_both}
use Rattle.ol_engine.proofs.change.change_row.Goals as goal

pub returns-in-Err-clause-stops : goal.returns-in-Err-clause-stops
returns-in-Err-clause-stops g c tells opened m registers before shows regular is =
    let v = c.args.storage.now.now in
    stops_weaker _ _ _ _ (λ d s. either_more v (anchor_made v c.args.locks.now) before m c.args.rec.now d is.behind s) (c.make_entry.ensures.stops tells opened m registers before shows regular is)

pub returns-in-Ok-change-clause-shows : goal.returns-in-Ok-change-clause-shows
returns-in-Ok-change-clause-shows g c opened n m registers shows regular =
    let w = c.make_entry.new.storage.now in
    let ready = c.in-Ok.ensures.shows opened m registers shows regular in
    change_shows w c.change.new.self.now (ready_for (c.args.rid.space, c.args.rid.page) m) c.args.rid.space c.args.rid.page c.args.rec.now _ c.is_stopped-whole.ensures.ring.limits.first c.in-Ok-change.ensures.step c.in-Ok-change.ensures.ring c.in-Ok-change.ensures.changed.log ready.storage

pub returns-in-Ok-change-clause-turns : goal.returns-in-Ok-change-clause-turns
returns-in-Ok-change-clause-turns g c opened now turns may =
    let v = c.args.storage.now.now in
    follow_turns opened v c.make_entry.new.storage.now c.change.new.self.now c.args.locks.now now c.args.rec.now c.requires.small c.is_stopped-whole.ensures.ring.limits.first c.in-Ok-change.ensures.step c.in-Ok-change.ensures.ring c.in-Ok.ensures.beside (c.in-Ok.ensures.turns opened turns) may

pub returns-in-Ok-change-clause-risen : goal.returns-in-Ok-change-clause-risen
returns-in-Ok-change-clause-risen g c =
    risen_both 1 1 c.args.storage.now.now c.make_entry.new.storage.now c.change.new.self.now c.in-Ok.ensures.risen (change_rises c.make_entry.new.storage.now c.change.new.self.now c.args.rec.now c.in-Ok-change.ensures.step)

pub returns-in-Ok-change-clause-captured : goal.returns-in-Ok-change-clause-captured
returns-in-Ok-change-clause-captured g c tells opened m registers before shows regular is wanted =
    let b : Behind = behind_of before m in
    let held = c.in-Ok.ensures.stored tells opened m registers before shows regular is in
    let all : upto b.start b.records b.reached ≡ b.records = upto_all b.start b.records b.reached (omega arith) in
    subst (λ (k : Captures). c.change.new.self.now.store.before ≡ captured (image_with c.args.rid.space c.args.rid.page (page_bytes (page_behind m.work.start m.work.records c.args.rid.space c.args.rid.page))) k) c.in-Ok.ensures.beside.before
    (subst (λ (l : List Record). c.change.new.self.now.store.before ≡ captured (image_with c.args.rid.space c.args.rid.page (page_bytes (page_behind m.work.start l c.args.rid.space c.args.rid.page))) c.make_entry.new.storage.now.store.before) all
    (c.in-Ok-change.ensures.captured tells b held wanted))

pub returns-in-Ok-change-clause-stops : goal.returns-in-Ok-change-clause-stops
returns-in-Ok-change-clause-stops g c tells opened m registers before shows regular is =
    let v = c.args.storage.now.now in
    let held = c.in-Ok.ensures.stored tells opened m registers before shows regular is in
    stops_both _ (g.D.Disk.past c.make_entry.new.storage.disk) _ _
    (stops_weaker _ _ _ _ (λ d s. either_more v (anchor_made v c.args.locks.now) before m c.args.rec.now d is.behind s) (c.make_entry.ensures.stops tells opened m registers before shows regular is))
    (stops_weaker _ _ _ _ (λ d s. either_record v c.make_entry.new.storage.now c.args.locks.now before m c.args.rec.now d is.behind c.in-Ok.ensures.beside c.in-Ok.ensures.anchor shows.storage.next s) (c.change.ensures.stops tells (behind_of before m) held))

pub returns-in-Ok-change-clause-stored : goal.returns-in-Ok-change-clause-stored
returns-in-Ok-change-clause-stored g c tells opened m registers before shows regular is =
    let held = c.in-Ok.ensures.stored tells opened m registers before shows regular is in
    subst (λ (b : Behind). IsStored (g.D.Disk.past c.change.new.self.disk) c.change.new.self.now b) (sym (behind_more before m c.args.rec.now)) (c.in-Ok-change.ensures.stored tells (behind_of before m) held)

pub returns-in-Err-change-clause-stops : goal.returns-in-Err-change-clause-stops
returns-in-Err-change-clause-stops g c tells opened m registers before shows regular is =
    let v = c.args.storage.now.now in
    let held = c.in-Ok.ensures.stored tells opened m registers before shows regular is in
    stops_both _ (g.D.Disk.past c.make_entry.new.storage.disk) _ _
    (stops_weaker _ _ _ _ (λ d s. either_more v (anchor_made v c.args.locks.now) before m c.args.rec.now d is.behind s) (c.make_entry.ensures.stops tells opened m registers before shows regular is))
    (stops_weaker _ _ _ _ (λ d s. either_record v c.make_entry.new.storage.now c.args.locks.now before m c.args.rec.now d is.behind c.in-Ok.ensures.beside c.in-Ok.ensures.anchor shows.storage.next s) (c.change.ensures.stops tells (behind_of before m) held))

pub returns-in-Ok-change-clause-goes : goal.returns-in-Ok-change-clause-goes
returns-in-Ok-change-clause-goes g c =
    let step = c.in-Ok-change.ensures.step in
    record {
      going = ap (λ (x : Installation). x.stopped) step ∙ c.in-Ok.ensures.going;
      config = ap (λ (x : Installation). x.ring.config) step ∙ c.in-Ok.ensures.beside.config;
      states = ap (λ (x : Installation). x.anchor.states) step ∙ c.in-Ok.ensures.beside.states;
    }
