use Rattle.std.specs.Prelude.{Ok, Option, Result, Some, length, ℕ, ◌+◌, ◌≡◌}
use Rattle.std.proofs.Common.{ap, refl, subst, sym, ◌∙◌}
use Rattle.ol_values.specs.declared.event.Reply.{Reply}
use Rattle.ol_engine.specs.Turns.{Answers}
use Rattle.ol_model.specs.Machine.{Machine, first_free, seat_of}
use Rattle.ol_model.specs.SessionTurns.{insert_at}
use Rattle.ol_targets.specs.Naming.{insert_found}
use Rattle.ol_turns.specs.Cores.{IsShown, history_of}
use Rattle.ol_turns.proofs.Inserting.{named_insert}
use Rattle.ol_turns.proofs.row_turns.insert_named.Goals as goal

pub returns-in-Err-clause-answer : goal.returns-in-Err-clause-answer
returns-in-Err-clause-answer g c tells earlier m told =
    let old = c.args.state.now in
    let v = c.args.storage.now.now in
    let k = c.args.session in
    let n : ℕ = length (history_of old) + 1 in
    let shows = told.shown.shows in
    let is = named_insert old.locks old.registers m n k c.in-Some.txn c.args.register c.args.name.now c.args.row c.find_space.result c.requires.session shows.sessions (sym c.txn.ensures ∙ c.in-Some.is) (c.find_space.ensures.value m shows.storage) in
    let whole = is ∙ ap (λ (f : Result ℕ Reply). insert_found m n k (seat_of m k) c.in-Some.txn c.args.register c.args.row f) c.in-Err.is in
    subst (λ (r : Reply × Machine). (c.in-Err.refusal ≡ r.0) × IsShown earlier (g.D.Disk.past c.args.storage.now.disk) v old r.1) (sym whole) (refl, told.shown)

pub returns-clause-answer : goal.returns-clause-answer
returns-clause-answer g c tells earlier m told =
    let old = c.args.state.now in
    let k = c.args.session in
    let n : ℕ = length (history_of old) + 1 in
    let shows = told.shown.shows in
    let u = c.insert_into in
    let space = c.in-Ok.space in
    let is = named_insert old.locks old.registers m n k c.in-Some.txn c.args.register c.args.name.now c.args.row c.find_space.result c.requires.session shows.sessions (sym c.txn.ensures ∙ c.in-Some.is) (c.find_space.ensures.value m shows.storage) in
    let whole = is
    ∙ ap (λ (f : Result ℕ Reply). insert_found m n k (seat_of m k) c.in-Some.txn c.args.register c.args.row f) c.in-Ok.is
    ∙ ap (λ (i : ℕ). insert_at m i k (seat_of m k) c.in-Some.txn c.args.register c.args.row space (first_free m space)) (sym c.next_entry.ensures) in
    subst (λ (r : Reply × Machine). Answers m (λ i. IsShown earlier (g.D.Disk.past u.new.storage.disk) u.new.storage.now u.new.state i) r u.result) (sym whole) (u.ensures.answer tells earlier m told)
