use Rattle.std.specs.Prelude.{Ok, OnOk, Option, Result, Some, length, true, ℕ, ◌+◌, ◌≡◌}
use Rattle.std.proofs.Common.{ap, arith, refl, subst, sym, ◌∙◌}
use Rattle.ol_values.specs.declared.event.Reply.{Reply}
use Rattle.ol_values.specs.declared.record.Record.TheVariants.{Change}
use Rattle.ol_engine.specs.Turns.{Answers}
use Rattle.ol_free_slots.specs.declared.hints.Hints.{Hints}
use Rattle.ol_free_slots.specs.Filled.{AreFull}
use Rattle.ol_model.specs.Machine.{Machine, row_in, seat_of}
use Rattle.ol_row_turns.specs.Turns.{row_turn}
use Rattle.ol_row_turns.specs.declared.owner.Owner.{Owner}
use Rattle.ol_session_turns.specs.Pending.{ArePending}
use Rattle.ol_storage.specs.Installation.{with_store}
use Rattle.ol_turns.specs.Cores.{IsShown, history_of, is_there}
use Rattle.ol_turns.specs.RowTurns.{hints_behind}
use Rattle.ol_turns.specs.declared.state.State.{State}
use Rattle.ol_turns.proofs.Archiving.{ok_from_calm, starved_calm}
use Rattle.ol_turns.proofs.Changing.{behind_full, changed_full, found_row, place_there, row_kept}
use Rattle.ol_turns.proofs.Undoing.{change_stopped, cursors_numbered, cursors_up, row_answers, starved_error, starved_row}
use Rattle.ol_turns.proofs.Wholes.{going_after, ok_map, places_same, up_same}
use Rattle.ol_turns.proofs.row_turns.change_target.Goals as goal

pub returns-clause-going : goal.returns-clause-going
returns-clause-going g c =
    let old = c.args.state.now in
    let v = c.args.storage.now.now in
    let u = c.change in
    let w = u.new.storage.now in
    let s : State = record old { hints = c.note_change.new.hints; locks = u.new.locks; archives = u.new.archives } in
    let faults = g.D.Disk.fault_counts c.args.storage.now.disk in
    let now = g.D.Disk.fault_counts u.new.storage.disk in
    let going = c.requires.going in
    let answered = u.result in
    let e = u.ensures in
    let there = place_there v c.in-Ok.rid c.in-Ok.ensures.there.0 c.in-Ok.ensures.there.1 in
    let goes = ok_from_calm answered e.goes in
    let places = ok_from_calm answered (λ calm. places_same v w u.new.locks (e.goes calm) (e.places (is_there v) going.places there calm)) in
    let up = ok_map answered goes (λ goes. up_same v w u.new.archives goes (cursors_up v.anchor old.archives u.new.archives e.cursors going.up)) in
    let numbers = ok_map answered goes (λ goes. cursors_numbered old.archives u.new.archives e.cursors going.numbers) in
    going_after faults now v w old s 2 (length (history_of old)) answered (omega arith) going refl refl goes (ok_from_calm answered e.turns) places up numbers e.risen e.cause.kept

pub returns-clause-starved : goal.returns-clause-starved
returns-clause-starved g c memory =
    let old = c.args.state.now in
    let v = c.args.storage.now.now in
    let u = c.change in
    let w = u.new.storage.now in
    let s : State = record old { hints = c.note_change.new.hints; locks = u.new.locks; archives = u.new.archives } in
    let going = c.requires.going in
    let answered = u.result in
    let e = u.ensures in
    let calm = starved_calm answered memory in
    let there = place_there v c.in-Ok.rid c.in-Ok.ensures.there.0 c.in-Ok.ensures.there.1 in
    starved_row (length (history_of old)) (g.D.Disk.fault_counts c.args.storage.now.disk) (g.D.Disk.fault_counts u.new.storage.disk) v w old s going refl refl (e.goes calm) (e.turns calm) (e.places (is_there v) going.places there calm) e.cursors
    (starved_error (w ≡ with_store v w.store) answered memory e.unwritten) (e.cause.kept calm)

pub returns-clause-answer : goal.returns-clause-answer
returns-clause-answer g c tells earlier m told =
    let old = c.args.state.now in
    let v = c.args.storage.now.now in
    let u = c.change in
    let w = u.new.storage.now in
    let s : State = record old { hints = c.note_change.new.hints; locks = u.new.locks; archives = u.new.archives } in
    let past = g.D.Disk.past u.new.storage.disk in
    let shown = told.shown in
    let sessions = shown.shows.sessions in
    let session = c.requires.session in
    let k = c.args.session in
    let rid = c.in-Ok.rid in
    let after = c.args.after in
    let o : Owner = record { session = k; txn = c.in-Some.txn; entry = c.next_entry.result } in
    let answered = u.result in
    let e = u.ensures in
    let r = row_turn m o rid after in
    let registers : (seat_of m k).registers ≡ c.of.result.now = sym (sessions.registered k session.0 session.1) ∙ sym c.of.ensures.value in
    let found = sym (c.find_target.ensures.value m (seat_of m k) shown.shows.storage registers) ∙ c.in-Ok.is in
    let is = found_row old.locks old.registers m (length (history_of old) + 1) o c.args.target.now rid after session sessions (sym c.txn.ensures ∙ c.in-Some.is) found c.next_entry.ensures in
    let behind : Hints = hints_behind after rid old.hints in
    let full = subst (λ (h : Hints). AreFull h r.1) (sym c.note_change.ensures)
    (row_kept (λ (x : Machine). AreFull behind x) m o rid after (behind_full after rid old.hints m shown.full) (changed_full old.hints m o.entry o.txn rid (row_in m rid) after shown.full)) in
    let before = subst (λ (h : Hints). AreFull h m) (sym c.note_change.ensures) (behind_full after rid old.hints m shown.full) in
    let stops = row_kept (λ (x : Machine). x.stopped ≡ m.stopped) m o rid after refl (change_stopped o.entry rid (Change o.txn rid (row_in m rid) after) m) in
    subst (λ (x : Reply × Machine). Answers m (λ n. IsShown earlier past w s n) x answered) (sym is)
    (row_answers earlier past w s m r answered (e.answer tells m old.registers earlier shown.shows told.regular shown.stored) (e.archives tells m old.registers earlier shown.shows told.regular shown.stored shown.archives)
    (e.stored tells m old.registers earlier shown.shows told.regular shown.stored) (e.still tells m earlier shown.stored) full before (stops ∙ shown.going) shown.going)
