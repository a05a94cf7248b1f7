use Rattle.std.specs.Prelude.{Err, Ok, ◌≡◌}
use Rattle.std.proofs.Common.{refl, subst, sym, ◌∙◌}
use Rattle.ol_values.specs.declared.event.Reply.{Reply}
use Rattle.ol_values.specs.declared.event.Reply.TheVariants.{NoTxn}
use Rattle.ol_engine.specs.Parts.{Shows}
use Rattle.ol_engine.specs.Turns.{Answers}
use Rattle.ol_model.specs.Machine.{Machine, seat_of}
use Rattle.ol_turns.proofs.Named.{none_open, one_open, read_named, read_none}
use Rattle.ol_turns.proofs.reads.read_target.Goals as goal

pub returns-then-not-is_open-clause-answer : goal.returns-then-not-is_open-clause-answer
returns-then-not-is_open-clause-answer g c tells opened m earlier shows regular stored =
    let k = c.args.session in
    let none = none_open c.args.locks.now c.args.registers.now m k c.is_open.result c.requires.session shows.sessions c.is_open.ensures.value c.if-not-is_open.true in
    subst (λ (r : Reply × Machine). (NoTxn ≡ r.0) × Shows opened c.args.storage.now.now c.args.locks.now c.args.registers.now r.1) (sym (read_none m k (seat_of m k) (seat_of m k).txn c.args.target.now none)) (refl, shows)

pub returns-in-Ok-clause-answer : goal.returns-in-Ok-clause-answer
returns-in-Ok-clause-answer g c tells opened m earlier shows regular stored =
    let k = c.args.session in
    let some = one_open c.args.locks.now c.args.registers.now m k c.is_open.result c.requires.session shows.sessions c.is_open.ensures.value c.if-not-is_open.false in
    let registers : (seat_of m k).registers ≡ c.of.result.now = sym (shows.sessions.registered k c.requires.session.0 c.requires.session.1) ∙ sym c.of.ensures.value in
    let is = read_named m k (seat_of m k) (seat_of m k).txn some.0 c.args.target.now (Ok c.in-Ok.rid) some.1 (c.in-Ok.ensures.value m (seat_of m k) shows.storage registers) in
    subst (λ (r : Reply × Machine). Answers m (Shows opened c.read.new.storage.now c.read.new.locks c.args.registers.now) r c.read.result) (sym is) (c.read.ensures.answer tells opened m c.args.registers.now earlier shows regular stored)

pub returns-in-Err-clause-answer : goal.returns-in-Err-clause-answer
returns-in-Err-clause-answer g c tells opened m earlier shows regular stored =
    let k = c.args.session in
    let some = one_open c.args.locks.now c.args.registers.now m k c.is_open.result c.requires.session shows.sessions c.is_open.ensures.value c.if-not-is_open.false in
    let registers : (seat_of m k).registers ≡ c.of.result.now = sym (shows.sessions.registered k c.requires.session.0 c.requires.session.1) ∙ sym c.of.ensures.value in
    let is = read_named m k (seat_of m k) (seat_of m k).txn some.0 c.args.target.now (Err c.in-Err.refusal) some.1 (c.in-Err.ensures.value m (seat_of m k) shows.storage registers) in
    subst (λ (r : Reply × Machine). (c.in-Err.refusal ≡ r.0) × Shows opened c.args.storage.now.now c.args.locks.now c.args.registers.now r.1) (sym is) (refl, shows)
