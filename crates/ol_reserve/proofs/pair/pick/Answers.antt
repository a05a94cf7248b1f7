use Rattle.std.proofs.Common.{None, Option, Some, ℕ, subst, ◌≡◌}
use Rattle.ol_reserve.specs.Pair.{IsDamaged, TellsPage}
use Rattle.ol_reserve.proofs.Answering.{first_alone, first_newest, same_serials, second_alone, second_newest}
use Rattle.ol_reserve.proofs.pair.pick.Goals as goal

pub returns-in-Some-None-clause-ok : goal.returns-in-Some-None-clause-ok
returns-in-Some-None-clause-ok c d p q =
    first_alone d c.args.buf.now c.args.other.now c.in-Some-None.field-0-0 (subst (λ s. TellsPage d 0 c.args.buf.now s) c.in-Some-None.is-0 p) (subst (λ s. TellsPage d 1 c.args.other.now s) c.in-Some-None.is-1 q)

pub returns-in-None-Some-clause-ok : goal.returns-in-None-Some-clause-ok
returns-in-None-Some-clause-ok c d p q =
    second_alone d c.args.buf.now c.args.other.now c.in-None-Some.field-0-1 (subst (λ s. TellsPage d 0 c.args.buf.now s) c.in-None-Some.is-0 p) (subst (λ s. TellsPage d 1 c.args.other.now s) c.in-None-Some.is-1 q)

pub returns-then-a-b-clause-bad : goal.returns-then-a-b-clause-bad
returns-then-a-b-clause-bad c d p q chunk page is =
    let one = subst (λ s. TellsPage d 0 c.args.buf.now s) c.in-Some-Some.is-0 p in
    let two = subst (λ s. TellsPage d 1 c.args.other.now s) c.in-Some-Some.is-1 q in
    let damaged = same_serials d c.args.buf.now c.args.other.now c.in-Some-Some.a c.in-Some-Some.b c.if-a-b.true one two in
    let same : 1 ≡ page = cc in
    subst (λ n. IsDamaged d n) same damaged

pub returns-then-a-b-2-clause-ok : goal.returns-then-a-b-2-clause-ok
returns-then-a-b-2-clause-ok c d p q =
    first_newest d c.args.buf.now c.args.other.now c.in-Some-Some.a c.in-Some-Some.b c.if-a-b-2.true
    (subst (λ s. TellsPage d 0 c.args.buf.now s) c.in-Some-Some.is-0 p) (subst (λ s. TellsPage d 1 c.args.other.now s) c.in-Some-Some.is-1 q)

pub returns-else-a-b-2-clause-ok : goal.returns-else-a-b-2-clause-ok
returns-else-a-b-2-clause-ok c d p q =
    second_newest d c.args.buf.now c.args.other.now c.in-Some-Some.a c.in-Some-Some.b c.if-a-b-2.false c.if-a-b.false
    (subst (λ s. TellsPage d 0 c.args.buf.now s) c.in-Some-Some.is-0 p) (subst (λ s. TellsPage d 1 c.args.other.now s) c.in-Some-Some.is-1 q)
