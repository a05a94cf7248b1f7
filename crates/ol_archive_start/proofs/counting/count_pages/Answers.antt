use Rattle.std.specs.Prelude.{length, ℕ, ◌+◌, ◌≡◌}
use Rattle.std.proofs.Common.{ap, arith, rules, subst, sym, ◌∙◌}
use Rattle.ol_storage.specs.Behind.{pages_of}
use Rattle.ol_storage.specs.Installation.{Installation, config_of}
use Rattle.ol_storage.specs.declared.storage.StorageFault.TheVariants.{Bad, NoMemory}
use Rattle.ol_free_slots.proofs.Reading.{other_answer, read_more}
use Rattle.ol_archive_start.specs.Starting.{changed_in, changed_of}
use Rattle.ol_archive_start.proofs.Counted.{sum_more}
use Rattle.ol_archive_start.proofs.Read.{bad_before, unread_before}
use Rattle.ol_archive_start.proofs.counting.count_pages.Goals as goal

pub returns-in-Err-clause-good : goal.returns-in-Err-clause-good
returns-in-Err-clause-good g c tells b stored chunk at e = c.in-Err.ensures.good tells b (c.loop-space.invariant.stored tells b stored) chunk at (other_answer c.in-Err.fault (Bad chunk at) e)

pub loop-space-preserved : goal.loop-space-preserved
loop-space-preserved g c =
    let v = c.args.storage.now.now in
    let w = c.loop-space.storage.now in
    let i = c.loop-space.invariant in
    record {
      read = read_more v w c.count_in.new.storage.now i.read (c.in-Ok.ensures.still (λ e. absurd cc));
      past = λ tells. c.in-Ok.ensures.past tells ∙ i.past tells;
      stored = λ tells b stored. c.in-Ok.ensures.stored tells b (i.stored tells b stored) (λ e. absurd cc);
      faults = c.in-Ok.ensures.cause.kept (λ e. absurd cc) ∙ i.faults;
      limit = omega (arith, i.limit, c.in-Ok.ensures.limit);
      counted = λ tells b stored.
          let changed : c.in-Ok.changed ≡ changed_in (pages_of v.anchor b) (config_of v) c.args.cursor.now c.loop-space.space =
          subst (λ (x : Installation). c.in-Ok.changed ≡ changed_in (pages_of x.anchor b) (config_of x) c.args.cursor.now c.loop-space.space) i.read.step (c.in-Ok.ensures.value tells b (i.stored tells b stored)) in
          (λ j. i.counted tells b stored j + changed j) ∙ sym (sum_more (changed_in (pages_of v.anchor b) (config_of v) c.args.cursor.now) c.loop-space.space);
    }

pub returns-clause-value : goal.returns-clause-value
returns-clause-value g c tells b stored =
    let v = c.args.storage.now.now in
    let spaces : c.spaces-spaces.result ≡ length (config_of v).spaces = search rules in
    let all : c.loop-space.space ≡ length (config_of v).spaces = omega (arith, spaces, c.loop-space.auto.space-end, c.loop-space-test.false) in
    c.loop-space.invariant.counted tells b stored ∙ ap (λ (n : ℕ). changed_of (pages_of v.anchor b) (config_of v) c.args.cursor.now n) all

pub returns-in-Err-clause-bad : goal.returns-in-Err-clause-bad
returns-in-Err-clause-bad g c chunk at e = bad_before c.args.storage.now.now c.loop-space.storage.now chunk at c.loop-space.invariant.read (c.in-Err.ensures.bad chunk at (other_answer c.in-Err.fault (Bad chunk at) e))

pub returns-in-Err-clause-memory : goal.returns-in-Err-clause-memory
returns-in-Err-clause-memory g c e = unread_before c.args.storage.now.now c.loop-space.storage.now c.loop-space.invariant.read (c.in-Err.ensures.memory (other_answer c.in-Err.fault NoMemory e))
