use Rattle.std.proofs.Common.{rules, List, append-nil, append_assoc, ap, arith, refl, sym, take, ◌++◌, ◌+◌, ◌∙◌, ◌≡◌, ℕ}
use Rattle.ol_script.specs.Slots.{slot_text}
use Rattle.ol_script.proofs.SlotLaws.{told_all, told_from, told_more, told_none}
use Rattle.ol_script.proofs.entry_line.put_slots.Goals as goal

pub loop-slot-init : goal.loop-slot-init
loop-slot-init c = record {
  room = omega arith;
  length_kept = refl;
  written = ap (λ (l : List ℕ). take c.args.at c.args.buf.now ++ l) (told_all c.args.bits);
}

pub loop-slot-preserved : goal.loop-slot-preserved
loop-slot-preserved c =
    let l = c.loop-slot in
    record {
      room = omega (arith, c.put_slot-end.ensures.next, l.invariant.room);
      length_kept = search rules;
      written =
          rw c.put_slot-end.ensures.front
          (append_assoc (take l.end l.buf) (slot_text c.args.bits l.slot) (told_from c.args.bits (l.slot + 1))
          ∙ ap (λ (t : List ℕ). take l.end l.buf ++ t) (sym (told_more c.args.bits l.slot (omega arith)))
          ∙ l.invariant.written);
    }

pub returns-clause-front : goal.returns-clause-front
returns-clause-front c =
    let l = c.loop-slot in
    let last : l.slot ≡ 31 = omega arith in
    let none : told_from c.args.bits l.slot ≡ told_from c.args.bits 31 = ap (told_from c.args.bits) last in
    sym (append-nil (take l.end l.buf)) ∙ ap (λ (t : List ℕ). take l.end l.buf ++ t) (sym (none ∙ told_none c.args.bits)) ∙ l.invariant.written
