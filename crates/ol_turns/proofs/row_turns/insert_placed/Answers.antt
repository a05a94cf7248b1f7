use Rattle.std.specs.Prelude.{None, OnOk, Some, length, true, ℕ, ◌+◌, ◌≡◌}
use Rattle.std.proofs.Common.{arith, refl, subst, sym, ◌∙◌}
use Rattle.ol_values.specs.declared.record.Record.TheVariants.{Change}
use Rattle.ol_engine.specs.Parts.{Registers, Shows}
use Rattle.ol_engine.specs.Turns.{Answers}
use Rattle.ol_free_slots.specs.Filled.{AreFull}
use Rattle.ol_model.specs.Machine.{Machine}
use Rattle.ol_row_turns.specs.Turns.{inserted_turn}
use Rattle.ol_storage.specs.Installation.{with_store}
use Rattle.ol_turns.specs.Cores.{history_of, is_there}
use Rattle.ol_turns.specs.declared.state.State.{State}
use Rattle.ol_turns.proofs.Archiving.{ok_from_calm, starved_calm}
use Rattle.ol_turns.proofs.Changing.{changed_full, place_there}
use Rattle.ol_turns.proofs.Inserting.{insert_kept}
use Rattle.ol_turns.proofs.Undoing.{change_stopped, cursors_numbered, cursors_up, row_answers, starved_error, starved_row}
use Rattle.ol_turns.proofs.Wholes.{going_after, ok_map, places_same, up_same}
use Rattle.ol_turns.proofs.row_turns.insert_placed.Goals as goal

pub returns-clause-going : goal.returns-clause-going
returns-clause-going g c =
    let old = c.args.state.now in
    let v = c.args.storage.now.now in
    let u = c.insert-answered in
    let w = u.new.storage.now in
    let s : State = record old { registers = c.note_place.new.registers; locks = u.new.locks; archives = u.new.archives } in
    let faults = g.D.Disk.fault_counts c.args.storage.now.disk in
    let now = g.D.Disk.fault_counts u.new.storage.disk in
    let going = c.requires.going in
    let answered = u.result in
    let e = u.ensures in
    let there = place_there v c.args.rid c.requires.place c.requires.up in
    let goes = ok_from_calm answered e.goes in
    let places = ok_from_calm answered (λ calm. places_same v w u.new.locks (e.goes calm) (e.places (is_there v) going.places there calm)) in
    let up = ok_map answered goes (λ goes. up_same v w u.new.archives goes (cursors_up v.anchor old.archives u.new.archives e.cursors going.up)) in
    let numbers = ok_map answered goes (λ goes. cursors_numbered old.archives u.new.archives e.cursors going.numbers) in
    going_after faults now v w old s 2 (length (history_of old)) answered (omega arith) going refl refl goes (ok_from_calm answered e.turns) places up numbers e.risen e.cause.kept

pub returns-clause-starved : goal.returns-clause-starved
returns-clause-starved g c memory =
    let old = c.args.state.now in
    let v = c.args.storage.now.now in
    let u = c.insert-answered in
    let w = u.new.storage.now in
    let s : State = record old { registers = c.note_place.new.registers; locks = u.new.locks; archives = u.new.archives } in
    let going = c.requires.going in
    let answered = u.result in
    let e = u.ensures in
    let calm = starved_calm answered memory in
    let there = place_there v c.args.rid c.requires.place c.requires.up in
    starved_row (length (history_of old)) (g.D.Disk.fault_counts c.args.storage.now.disk) (g.D.Disk.fault_counts u.new.storage.disk) v w old s going refl refl (e.goes calm) (e.turns calm) (e.places (is_there v) going.places there calm) e.cursors
    (starved_error (w ≡ with_store v w.store) answered memory e.unwritten) (e.cause.kept calm)

pub returns-clause-answer : goal.returns-clause-answer
returns-clause-answer g c tells earlier m told =
    let old = c.args.state.now in
    let u = c.insert-answered in
    let w = u.new.storage.now in
    let s : State = record old { registers = c.note_place.new.registers; locks = u.new.locks; archives = u.new.archives } in
    let past = g.D.Disk.past u.new.storage.disk in
    let shown = told.shown in
    let rid = c.args.rid in
    let row = c.args.row in
    let register = c.args.register in
    let o = c.args.owner in
    let answered = u.result in
    let e = u.ensures in
    let r = inserted_turn m o register rid row in
    let answer = subst (λ (l : Registers). Answers m (Shows old.opened w u.new.locks l) r answered) (sym c.note_place.ensures) (e.answer register m old.registers c.of-sessions.ensures.sessions shown.shows told.regular) in
    let full = insert_kept (λ (x : Machine). AreFull old.hints x) m o register rid row shown.full (changed_full old.hints m o.entry o.txn rid None (Some row) shown.full) in
    let stops = insert_kept (λ (x : Machine). x.stopped ≡ m.stopped) m o register rid row refl (change_stopped o.entry rid (Change o.txn rid None (Some row)) m) in
    row_answers earlier past w s m r answered answer (e.archives tells register m old.registers earlier shown.shows told.regular shown.stored shown.archives)
    (e.stored tells register m old.registers earlier shown.shows told.regular shown.stored) (e.still tells m earlier shown.stored) full shown.full (stops ∙ shown.going) shown.going
