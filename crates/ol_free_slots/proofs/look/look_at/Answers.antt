use Rattle.std.specs.Prelude.{Bool, ◌+◌, ◌≡◌}
use Rattle.std.proofs.Common.{arith, subst, sym, ◌∙◌}
use Rattle.ol_storage.specs.declared.storage.StorageFault.TheVariants.{Bad, NoMemory}
use Rattle.ol_txn.specs.Seats.{table_of}
use Rattle.ol_free_slots.specs.declared.look.Look.{Look}
use Rattle.ol_free_slots.specs.Slots.{AreTaken, IsTold, rows_of}
use Rattle.ol_free_slots.proofs.Reading.{other_answer, read_bad, read_more, read_unframed}
use Rattle.ol_free_slots.proofs.Telling.{taken_least, taken_more, taken_told}
use Rattle.ol_free_slots.proofs.look.look_at.Goals as goal

pub returns-in-Err-clause-good : goal.returns-in-Err-clause-good
returns-in-Err-clause-good g c tells b stored chunk at e = c.in-Err.ensures.good tells b (c.loop-slot.invariant.stored tells b stored) chunk at (other_answer c.in-Err.fault (Bad chunk at) e)

pub returns-in-Err-clause-bad : goal.returns-in-Err-clause-bad
returns-in-Err-clause-bad g c chunk at e =
    read_bad c.args.storage.now.now c.loop-slot.storage.now c.args.space c.args.page chunk at c.loop-slot.invariant.read (c.in-Err.ensures.bad chunk at (other_answer c.in-Err.fault (Bad chunk at) e))

pub returns-in-Err-clause-memory : goal.returns-in-Err-clause-memory
returns-in-Err-clause-memory g c e =
    read_unframed c.args.storage.now.now c.loop-slot.storage.now c.args.space c.args.page c.loop-slot.invariant.read (c.in-Err.ensures.memory (other_answer c.in-Err.fault NoMemory e))

pub returns-then-is_free-clause-told : goal.returns-then-is_free-clause-told
returns-then-is_free-clause-told g c tells b stored =
    let i = c.loop-slot.invariant in
    taken_least (rows_of b) (table_of c.args.locks.now) c.args.space c.args.page c.loop-slot.slot c.loop-slot.full c.in-Ok.found (c.in-Ok.ensures.value tells b (i.stored tells b stored)) (sym c.is_free.ensures ∙ c.if-is_free.true) (omega arith) (i.taken tells b stored)

pub loop-slot-preserved : goal.loop-slot-preserved
loop-slot-preserved g c =
    let i = c.loop-slot.invariant in
    record {
      read = read_more c.args.storage.now.now c.loop-slot.storage.now c.slot_at.new.storage.now i.read (c.in-Ok.ensures.still (λ e. absurd cc));
      past = λ tells. c.in-Ok.ensures.past tells ∙ i.past tells;
      stored = λ tells b stored. c.in-Ok.ensures.stored tells b (i.stored tells b stored) (λ e. absurd cc);
      faults = c.in-Ok.ensures.cause.kept (λ e. absurd cc) ∙ i.faults;
      there = λ some. c.in-Ok.ensures.there;
      taken = λ tells b stored. subst (λ (x : Bool). AreTaken (rows_of b) (table_of c.args.locks.now) c.args.space c.args.page (c.loop-slot.slot + 1) x) (sym c.keeps_full-full.ensures)
          (taken_more (rows_of b) (table_of c.args.locks.now) c.args.space c.args.page c.loop-slot.slot c.loop-slot.full c.in-Ok.found (c.in-Ok.ensures.value tells b (i.stored tells b stored)) (sym c.is_free.ensures ∙ c.if-is_free.false) (i.taken tells b stored));
    }

pub returns-clause-told : goal.returns-clause-told
returns-clause-told g c tells b stored =
    let last : c.loop-slot.slot ≡ 31 = omega arith in
    subst (λ (l : Look). IsTold (rows_of b) (table_of c.args.locks.now) c.args.space c.args.page l) (sym c.of.ensures)
    (taken_told (rows_of b) (table_of c.args.locks.now) c.args.space c.args.page c.loop-slot.full
    (subst (λ n. AreTaken (rows_of b) (table_of c.args.locks.now) c.args.space c.args.page n c.loop-slot.full) last (c.loop-slot.invariant.taken tells b stored)))
