use Rattle.std.proofs.Common.{◌+◌, ◌-◌, ◌^◌, ◌<◌, min, sym, subst, arith}
use Rattle.ol_outside.specs.KeptCalls.{calls_of, kept_calls, passes, PassesOver, Agrees}
use Rattle.ol_outside.proofs.AgreeLaws.{passes-over, agrees-wrote, agrees-passed}
use Rattle.ol_outside.proofs.memory_disk.write.Goals as goal

pub returns-in-Ok-clause-agrees : goal.returns-in-Ok-clause-agrees
returns-in-Ok-clause-agrees c base sizes moment agrees =
    let new = calls_of c.keep_write.new.kept.items c.keep_write.new.passed in
    subst (λ bytes. Agrees base bytes new sizes (min (moment + 1) (2 ^ 64 - 1))) (sym c.put.ensures)
    (agrees-wrote base c.args.bytes.now _ new sizes moment agrees c.args.chunk c.args.page c.args.offset c.args.piece.now c.requires.page c.requires.range c.in-Ok.ensures.ok)

passed_over : (c : goal.After-saturating_add) → PassesOver (calls_of c.args.kept.now.items c.args.passed.now) (calls_of c.keep_write.new.kept.items c.saturating_add.result)
passed_over c =
    let calls = kept_calls c.keep_write.new.kept.items in
    let passed = c.keep_write.new.passed in
    let lt : passed < 2 ^ 64 = omega arith in
    let over = passes-over calls passed lt in
    subst (λ old. PassesOver old (calls_of c.keep_write.new.kept.items c.saturating_add.result)) c.in-Err.ensures.err
    (subst (λ n. PassesOver (passes passed calls) (passes n calls)) (sym c.saturating_add.ensures) over)

pub returns-in-Err-clause-err : goal.returns-in-Err-clause-err
returns-in-Err-clause-err c = passed_over c

pub returns-in-Err-clause-agrees : goal.returns-in-Err-clause-agrees
returns-in-Err-clause-agrees c base sizes moment agrees =
    agrees-passed base c.args.bytes.now _ _ sizes moment agrees (passed_over c)
