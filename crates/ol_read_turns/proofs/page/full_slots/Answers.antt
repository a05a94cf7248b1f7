use Rattle.std.specs.Prelude.{is_some, ◌≡◌}
use Rattle.std.proofs.Common.{ap, arith, refl, sym, ◌∙◌}
use Rattle.ol_storage.specs.declared.storage.StorageFault.TheVariants.{Bad, NoMemory}
use Rattle.ol_free_slots.proofs.Reading.{other_answer, read_more, read_none, read_unframed}
use Rattle.ol_free_slots.specs.Slots.{rows_of}
use Rattle.ol_read_turns.specs.PageSlots.{bits_of, full_among}
use Rattle.ol_read_turns.proofs.PageBits.{bits_next, full_none}
use Rattle.ol_read_turns.proofs.page.full_slots.Goals as goal

pub loop-slot-init : goal.loop-slot-init
loop-slot-init g c = record {
  read = read_none c.args.storage.now.now;
  past = λ tells. refl;
  stored = λ tells b stored. stored;
  faults = refl;
  small = omega arith;
  bits = λ tells b stored. sym (ap bits_of (full_none (λ rid. is_some (rows_of b rid)) c.args.space c.args.page));
}

pub returns-in-Err-clause-good : goal.returns-in-Err-clause-good
returns-in-Err-clause-good g c tells b stored chunk at e = c.in-Err.ensures.good tells b (c.loop-slot.invariant.stored tells b stored) chunk at (other_answer c.in-Err.fault (Bad chunk at) e)

pub returns-in-Err-clause-memory : goal.returns-in-Err-clause-memory
returns-in-Err-clause-memory g c e =
    read_unframed c.args.storage.now.now c.loop-slot.storage.now c.args.space c.args.page c.loop-slot.invariant.read (c.in-Err.ensures.memory (other_answer c.in-Err.fault NoMemory e))

pub loop-slot-preserved : goal.loop-slot-preserved
loop-slot-preserved g c =
    let i = c.loop-slot.invariant in
    record {
      read = read_more c.args.storage.now.now c.loop-slot.storage.now c.is_full.new.storage.now i.read (c.in-Ok.ensures.still (λ e. absurd cc));
      past = λ tells. c.in-Ok.ensures.past tells ∙ i.past tells;
      stored = λ tells b stored. c.in-Ok.ensures.stored tells b (i.stored tells b stored) (λ e. absurd cc);
      faults = c.in-Ok.ensures.cause.kept (λ e. absurd cc) ∙ i.faults;
      small = c.with_slot-bits.ensures.small;
      bits = λ tells b stored.
          c.with_slot-bits.ensures.value
          ∙ bits_next (λ rid. is_some (rows_of b rid)) c.args.space c.args.page c.loop-slot.slot c.loop-slot.bits c.in-Ok.full (i.bits tells b stored) (c.in-Ok.ensures.value tells b (i.stored tells b stored));
    }

pub returns-clause-bits : goal.returns-clause-bits
returns-clause-bits g c tells b stored =
    let last : c.loop-slot.slot ≡ 31 = omega arith in
    c.loop-slot.invariant.bits tells b stored ∙ ap (λ n. bits_of (full_among (λ rid. is_some (rows_of b rid)) c.args.space c.args.page n)) last
