use Rattle.std.proofs.Common.{◌^◌, ◌<◌, sym, subst, arith}
use Rattle.ol_outside.specs.KeptCalls.{calls_of, kept_calls, passes, PassesOver}
use Rattle.ol_outside.proofs.AgreeLaws.{passes-over}
use Rattle.ol_outside.proofs.memory_disk.sync.Goals as goal

pub returns-in-Err-clause-err : goal.returns-in-Err-clause-err
returns-in-Err-clause-err c =
    let calls = kept_calls c.keep.new.kept.items in
    let passed = c.keep.new.passed in
    let lt : passed < 2 ^ 64 = omega arith in
    let over = passes-over calls passed lt in
    subst (λ old. PassesOver old (calls_of c.keep.new.kept.items c.saturating_add.result)) c.in-Err.ensures.err
    (subst (λ n. PassesOver (passes passed calls) (passes n calls)) (sym c.saturating_add.ensures) over)
