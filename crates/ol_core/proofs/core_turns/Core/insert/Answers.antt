use Rattle.std.proofs.Common.{List, None, Some, [], ap, arith, length, refl, rules, sym, ◌*◌, ◌++◌, ◌+◌, ◌<◌, ◌∷◌, ◌≡◌, ◌∙◌}
use Rattle.ol_values.specs.declared.record.Record.{Record}
use Rattle.ol_values.specs.declared.record.Record.TheVariants.{Change}
use Rattle.ol_values.specs.declared.record.Rid.{Rid}
use Rattle.ol_values.specs.Config.{data_pages}
use Rattle.ol_core.specs.Core.{Seen}
use Rattle.ol_core.specs.Filled.{filled_at, slot_at}
use Rattle.ol_core.proofs.Changed.{row_in}
use Rattle.ol_core.proofs.Kept.{kept_insert, kept_room, moved}
use Rattle.ol_core.proofs.Turns.{takes_insert, takes_no_room}
use Rattle.ol_core.proofs.core_turns.Core.insert.Goals as goal

pub returns-then-rows-pages-clause-ok : goal.returns-then-rows-pages-clause-ok
returns-then-rows-pages-clause-ok c =
    takes_no_room c.self.inside.registers c.in-Some.txn c.args.reg c.in-Some-find.space c.self.invariant c.self.view_is c.requires.actor c.in-Some.is (sym c.find.ensures.value ∙ c.in-Some-find.is)
    (omega (arith, c.if-rows-pages.true, c.pages.ensures.value, c.rows-rows.ensures)) c.copy.ensures c.in_ok-answer-3.ensures.ok

pub invariant_of-self-in_err-make_room : goal.invariant_of-self-in_err-make_room
invariant_of-self-in_err-make_room c =
    kept_room (ap (λ (s : Seen). s.machine.archives) c.self.view_is ∙ c.requires.idle) c.make_room.ensures.whole (c.make_room.ensures.kept c.self.inside.table c.self.inside.journal.items) c.self.invariant

pub invariant_of-self-in_err-reserve : goal.invariant_of-self-in_err-reserve
invariant_of-self-in_err-reserve c =
    moved (sym c.reserve.ensures.items) refl refl refl
    (kept_room (ap (λ (s : Seen). s.machine.archives) c.self.view_is ∙ c.requires.idle) c.make_room.ensures.whole (c.make_room.ensures.kept c.self.inside.table c.self.inside.journal.items) c.self.invariant)

pub invariant_of-self-in_err-answer-4 : goal.invariant_of-self-in_err-answer-4
invariant_of-self-in_err-answer-4 c =
    moved (sym c.reserve.ensures.items) refl refl (sym c.in_err-answer-4.ensures.err)
    (kept_room (ap (λ (s : Seen). s.machine.archives) c.self.view_is ∙ c.requires.idle) c.make_room.ensures.whole (c.make_room.ensures.kept c.self.inside.table c.self.inside.journal.items) c.self.invariant)

pub invariant_of-self-2 : goal.invariant_of-self-2
invariant_of-self-2 c =
    let table = c.self.inside.table in
    let journal = c.self.inside.journal.items in
    let space = c.in-Some-find.space in
    let rows = (filled_at c.make_room.new.self space).rows in
    let count : c.rows-rows.result ≡ rows = c.rows-rows.ensures ∙ sym (c.make_room.ensures.rows space) in
    let appended : c.append.new.journal.items ≡ journal ++ row_in c.in-Some.txn space rows c.args.row.now ∷ [] =
    c.append.ensures ∙ ap (λ (l : List Record). l ++ c.inserted.result ∷ []) c.reserve.ensures.items ∙ ap (λ (r : Record). journal ++ r ∷ []) c.inserted.ensures
    ∙ ap (λ (r : Rid). journal ++ Change c.in-Some.txn r None (Some c.args.row.now) ∷ []) (c.slot_of-rid.ensures ∙ ap (slot_at space) count) in
    let room : rows < data_pages table space * 31 = omega (arith, c.if-rows-pages.false, c.pages.ensures.value, count, c.make_room.ensures.rows space, (c.self.invariant.filled space).room) in
    let stamp : c.len.result + 1 ≡ length journal + 1 = search rules in
    kept_insert c.in-Some.txn space rows c.args.row.now _ c.in-Some.is (ap (λ (s : Seen). s.machine.archives) c.self.view_is ∙ c.requires.idle) appended c.in_ok-answer-4.ensures.ok
    (c.put.ensures.whole ∙ c.make_room.ensures.whole)
    (c.put.ensures.filled table journal c.in-Some.txn (c.make_room.ensures.kept table journal c.self.invariant.filled) room stamp) c.self.invariant

pub returns-clause-ok : goal.returns-clause-ok
returns-clause-ok c =
    let journal = c.self.inside.journal.items in
    let space = c.in-Some-find.space in
    let appended : c.append.new.journal.items ≡ journal ++ Change c.in-Some.txn c.slot_of-rid.result None (Some c.args.row.now) ∷ [] =
    c.append.ensures ∙ ap (λ (l : List Record). l ++ c.inserted.result ∷ []) c.reserve.ensures.items ∙ ap (λ (r : Record). journal ++ r ∷ []) c.inserted.ensures in
    let room : c.rows-rows.result < data_pages c.self.inside.table space * 31 = omega (arith, c.if-rows-pages.false, c.pages.ensures.value, c.rows-rows.ensures, (c.self.invariant.filled space).room) in
    takes_insert c.self.inside.registers c.in-Some.txn c.args.reg space c.rows-rows.result c.self.invariant c.self.view_is c.requires.actor c.in-Some.is (sym c.find.ensures.value ∙ c.in-Some-find.is) c.rows-rows.ensures room
    c.copy.ensures c.slot_of-rid.ensures (appended ∙ ap (λ (r : Rid). journal ++ Change c.in-Some.txn r None (Some c.args.row.now) ∷ []) c.slot_of-rid.ensures) c.in_ok-answer-4.ensures.ok
