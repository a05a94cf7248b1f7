use Rattle.std.specs.Prelude.{Err, None, Ok, Option, Result, Some, true, ℕ, ◌≡◌}
use Rattle.std.proofs.Common.{ap, refl, subst, sym, ◌∙◌}
use Rattle.ol_values.specs.declared.event.Reply.{Reply}
use Rattle.ol_values.specs.declared.event.Reply.TheVariants.{SpaceFull}
use Rattle.ol_values.specs.declared.record.Rid.{Rid}
use Rattle.ol_engine.proofs.Seats.{holder_is}
use Rattle.ol_engine.specs.Parts.{behind_of}
use Rattle.ol_engine.specs.Turns.{Answers}
use Rattle.ol_free_slots.proofs.FirstFree.{first_alone}
use Rattle.ol_model.specs.Machine.{Machine, first_free, holder, seat_of}
use Rattle.ol_model.specs.SessionTurns.{insert_at}
use Rattle.ol_row_turns.proofs.Changes.{fault_answer}
use Rattle.ol_storage.specs.declared.storage.StorageFault.TheVariants.{Failed, NoMemory}
use Rattle.ol_turns.specs.Cores.{IsShown}
use Rattle.ol_turns.specs.declared.state.State.{State}
use Rattle.ol_turns.proofs.Inserting.{insert_yields, sought_told}
use Rattle.ol_turns.proofs.row_turns.insert_into.Goals as goal

pub returns-in-Ok-None-clause-answer : goal.returns-in-Ok-None-clause-answer
returns-in-Ok-None-clause-answer g c tells earlier m told =
    let old = c.args.state.now in
    let v = c.args.storage.now.now in
    let w = c.find_free.new.storage.now in
    let s : State = record old { hints = c.find_free.new.hints } in
    let past = g.D.Disk.past c.find_free.new.storage.disk in
    let shown = told.shown in
    let o = c.args.owner in
    let e = c.in-Ok-None.ensures in
    let found : first_free m c.args.space ≡ None = sym (e.found tells old.opened m old.registers earlier shown.shows told.regular shown.stored shown.full) ∙ c.in-Ok-None.field-0-is in
    let after = sought_told earlier (g.D.Disk.past c.args.storage.now.disk) past v w old c.find_free.new.hints m told (e.shows old.opened m old.registers shown.shows (λ failed. cc)) (e.images (λ failed. cc)) (e.stored tells (behind_of earlier m) shown.stored (λ failed. cc))
    (e.full tells old.opened m old.registers earlier shown.shows shown.stored shown.full) in
    subst (λ (free : Option Rid). let r : Reply × Machine = insert_at m o.entry o.session (seat_of m o.session) o.txn c.args.register c.args.row c.args.space free in (SpaceFull c.args.space ≡ r.0) × IsShown earlier past w s r.1) (sym found) (refl, after.shown)

pub returns-in-Err-clause-answer : goal.returns-in-Err-clause-answer
returns-in-Err-clause-answer g c tells earlier m told =
    let old = c.args.state.now in
    let v = c.args.storage.now.now in
    let w = c.find_free.new.storage.now in
    let s : State = record old { hints = c.find_free.new.hints } in
    let past = g.D.Disk.past c.find_free.new.storage.disk in
    let shown = told.shown in
    let o = c.args.owner in
    let e = c.in-Err.ensures in
    fault_answer m (λ n. IsShown earlier past w s n) (insert_at m o.entry o.session (seat_of m o.session) o.txn c.args.register c.args.row c.args.space (first_free m c.args.space)) c.in-Err.fault (λ is. e.only (ap (λ f. Err f) is))
    (insert_yields m o.entry o.session (seat_of m o.session) o.txn c.args.register c.args.row c.args.space (first_free m c.args.space))
    (λ starved. let never : Err c.in-Err.fault ≡ Err Failed → ⊥ = λ failed. let other : c.in-Err.fault ≡ Failed = cc in let clash : NoMemory ≡ Failed = sym starved ∙ other in absurd cc in
    (sought_told earlier (g.D.Disk.past c.args.storage.now.disk) past v w old c.find_free.new.hints m told (e.shows old.opened m old.registers shown.shows never) (e.images never) (e.stored tells (behind_of earlier m) shown.stored never)
    (e.full tells old.opened m old.registers earlier shown.shows shown.stored shown.full)).shown)

-- no session is in the way of a free slot
pub returns-in-Some-clause-answer : goal.returns-in-Some-clause-answer
returns-in-Some-clause-answer g c tells earlier m told =
    let old = c.args.state.now in
    let shown = told.shown in
    let o = c.args.owner in
    let rid = c.in-Ok-Some.rid in
    let found : first_free m c.args.space ≡ Some rid = sym (c.in-Ok-Some.ensures.found tells old.opened m old.registers earlier shown.shows told.regular shown.stored shown.full) ∙ c.in-Ok-Some.field-0-is in
    let none : holder m o.session true rid ≡ None = first_alone m c.args.space o.session true rid found in
    let clash : Some c.in-Some.holder ≡ None = sym c.in-Some.is ∙ c.holder.ensures ∙ holder_is old.locks old.registers m o.session true rid told.regular shown.shows.sessions ∙ none in
    absurd cc

pub returns-clause-answer : goal.returns-clause-answer
returns-clause-answer g c tells earlier m told =
    let old = c.args.state.now in
    let v = c.args.storage.now.now in
    let w = c.find_free.new.storage.now in
    let past = g.D.Disk.past c.find_free.new.storage.disk in
    let shown = told.shown in
    let o = c.args.owner in
    let u = c.insert_placed in
    let e = c.in-Ok-Some.ensures in
    let found : first_free m c.args.space ≡ Some c.in-Ok-Some.rid = sym (e.found tells old.opened m old.registers earlier shown.shows told.regular shown.stored shown.full) ∙ c.in-Ok-Some.field-0-is in
    let after = sought_told earlier (g.D.Disk.past c.args.storage.now.disk) past v w old c.find_free.new.hints m told (e.shows old.opened m old.registers shown.shows (λ failed. cc)) (e.images (λ failed. cc)) (e.stored tells (behind_of earlier m) shown.stored (λ failed. cc))
    (e.full tells old.opened m old.registers earlier shown.shows shown.stored shown.full) in
    subst (λ (free : Option Rid). Answers m (λ n. IsShown earlier (g.D.Disk.past u.new.storage.disk) u.new.storage.now u.new.state n) (insert_at m o.entry o.session (seat_of m o.session) o.txn c.args.register c.args.row c.args.space free) u.result) (sym found)
    (u.ensures.answer tells earlier m after)
