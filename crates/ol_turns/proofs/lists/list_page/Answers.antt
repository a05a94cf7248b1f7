use Rattle.std.specs.Prelude.{Err, Ok, ◌≡◌}
use Rattle.std.proofs.Common.{refl, subst, sym}
use Rattle.ol_values.specs.declared.event.Reply.{Reply}
use Rattle.ol_values.specs.declared.event.Reply.TheVariants.{NoTxn}
use Rattle.ol_engine.specs.Parts.{Shows}
use Rattle.ol_engine.specs.Turns.{Answers}
use Rattle.ol_model.specs.Machine.{Machine, seat_of}
use Rattle.ol_turns.proofs.Named.{list_named, list_none, none_open, one_open}
use Rattle.ol_turns.proofs.lists.list_page.Goals as goal

pub returns-then-not-is_open-clause-answer : goal.returns-then-not-is_open-clause-answer
returns-then-not-is_open-clause-answer g c tells opened m registers earlier shows regular stored =
    let k = c.args.session in
    let none = none_open c.args.locks.now registers m k c.is_open.result c.requires.session shows.sessions c.is_open.ensures.value c.if-not-is_open.true in
    subst (λ (r : Reply × Machine). (NoTxn ≡ r.0) × Shows opened c.args.storage.now.now c.args.locks.now registers r.1) (sym (list_none m k (seat_of m k) (seat_of m k).txn c.args.space.now c.args.page none)) (refl, shows)

pub returns-in-Ok-clause-answer : goal.returns-in-Ok-clause-answer
returns-in-Ok-clause-answer g c tells opened m registers earlier shows regular stored =
    let k = c.args.session in
    let some = one_open c.args.locks.now registers m k c.is_open.result c.requires.session shows.sessions c.is_open.ensures.value c.if-not-is_open.false in
    let is = list_named m k (seat_of m k) (seat_of m k).txn some.0 c.args.space.now c.args.page (Ok (c.in-Ok.space, c.in-Ok.page)) some.1 (c.in-Ok.ensures.value m shows.storage) in
    subst (λ (r : Reply × Machine). Answers m (Shows opened c.list.new.storage.now c.list.new.locks registers) r c.list.result) (sym is) (c.list.ensures.answer tells opened m registers earlier shows regular stored)

pub returns-in-Err-clause-answer : goal.returns-in-Err-clause-answer
returns-in-Err-clause-answer g c tells opened m registers earlier shows regular stored =
    let k = c.args.session in
    let some = one_open c.args.locks.now registers m k c.is_open.result c.requires.session shows.sessions c.is_open.ensures.value c.if-not-is_open.false in
    let is = list_named m k (seat_of m k) (seat_of m k).txn some.0 c.args.space.now c.args.page (Err c.in-Err.refusal) some.1 (c.in-Err.ensures.value m shows.storage) in
    subst (λ (r : Reply × Machine). (c.in-Err.refusal ≡ r.0) × Shows opened c.args.storage.now.now c.args.locks.now registers r.1) (sym is) (refl, shows)
