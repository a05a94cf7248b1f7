use Rattle.std.proofs.Common.{ap, arith, length, subst, suc, sym, take, List, Some, ◌+◌, ◌-◌, ◌≡◌, ◌≤◌, ◌∙◌, ℕ}
use Rattle.ol_values.specs.declared.record.Record.{Record}
use Rattle.ol_values.specs.Config.{Config}
use Rattle.ol_rollfwd.specs.Feeding.{HasFrames}
use Rattle.ol_rollfwd.specs.Rolls.{Roll, after}
use Rattle.ol_rollfwd.proofs.FeedLaws.{IsTaking, taking_next, taking_on, taking_out, taking_stopped}
use Rattle.ol_rollfwd.proofs.feed.feed_records.Goals as goal

pub loop-records-preserved : goal.loop-records-preserved
loop-records-preserved c =
    let now = c.loop-records.roll in
    let inv = c.loop-records.invariant in
    let rest = c.next-in-loop-records.new.self in
    let all = take (c.args.upto + 1 - c.args.roll.now.next) c.args.records.now in
    let within : now.next ≤ c.args.upto = omega (arith, c.next.ensures, c.loop-records-test.true) in
    let left = taking_next c.args.roll.now c.args.pages.now all now c.loop-records.pages c.args.upto c.loop-records.records c.in-Some.rec rest c.in-Some.ensures.next within inv.taking in
    let step : c.feed_one.new.roll ≡ after now c.in-Some.rec = c.in-Ok.ensures.step in
    let config : c.feed_one.new.roll.config ≡ now.config = ap (λ (r : Roll). r.config) step in
    let next : c.feed_one.new.roll.next ≡ now.next + 1 = ap (λ (r : Roll). r.next) step in
    let count : length c.loop-records.records ≡ suc (length rest) = ap (λ (l : List Record). length l) c.in-Some.ensures.next in
    let on = taking_on c.args.roll.now c.args.pages.now all now c.loop-records.pages c.in-Some.rec (take (c.args.upto + 1 - (now.next + 1)) rest) left inv.config
    c.feed_one.new.roll c.feed_one.new.pages step c.in-Ok.ensures.place c.in-Ok.ensures.pages in
    record {
      config = config ∙ inv.config;
      frames = subst (λ (x : Config). HasFrames x c.feed_one.new.pages) (sym config) c.feed_one.ensures.frames;
      positions = λ some. omega (arith, inv.positions (omega (arith, count)), count, next);
      taking = subst (λ (n : ℕ). IsTaking c.args.roll.now c.args.pages.now all (take (c.args.upto + 1 - n) rest) c.feed_one.new.roll c.feed_one.new.pages) (sym next) on;
    }

pub returns-in-Err-clause-err : goal.returns-in-Err-clause-err
returns-in-Err-clause-err c = λ v shows.
    let now = c.loop-records.roll in
    let inv = c.loop-records.invariant in
    let rest = c.next-in-loop-records.new.self in
    let all = take (c.args.upto + 1 - c.args.roll.now.next) c.args.records.now in
    let within : now.next ≤ c.args.upto = omega (arith, c.next.ensures, c.loop-records-test.true) in
    let left = taking_next c.args.roll.now c.args.pages.now all now c.loop-records.pages c.args.upto c.loop-records.records c.in-Some.rec rest c.in-Some.ensures.next within inv.taking in
    taking_stopped c.args.roll.now c.args.pages.now all now c.loop-records.pages c.in-Some.rec (take (c.args.upto + 1 - (now.next + 1)) rest) left inv.config
    c.feed_one.new.roll c.feed_one.new.pages c.in-Err.ensures.unchanged c.in-Err.ensures.same v shows

pub returns-in-Err-clause-out : goal.returns-in-Err-clause-out
returns-in-Err-clause-out c = λ v shows position e.
    let now = c.loop-records.roll in
    let inv = c.loop-records.invariant in
    let rest = c.next-in-loop-records.new.self in
    let all = take (c.args.upto + 1 - c.args.roll.now.next) c.args.records.now in
    let within : now.next ≤ c.args.upto = omega (arith, c.next.ensures, c.loop-records-test.true) in
    let left = taking_next c.args.roll.now c.args.pages.now all now c.loop-records.pages c.args.upto c.loop-records.records c.in-Some.rec rest c.in-Some.ensures.next within inv.taking in
    taking_out c.args.roll.now c.args.pages.now all now c.loop-records.pages c.in-Some.rec (take (c.args.upto + 1 - (now.next + 1)) rest) left inv.config
    (λ w shown. c.in-Err.ensures.out w shown position e) v shows
    ∙ ap (λ n. Some n) (sym (c.in-Err.ensures.position position e))
