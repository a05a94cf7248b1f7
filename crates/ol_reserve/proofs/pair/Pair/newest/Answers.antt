use Rattle.std.proofs.Common.{ap, arith, subst, ◌∙◌, ◌≡◌, ℕ}
use Rattle.ol_ports.specs.Disk.{Bytes, Past, seen}
use Rattle.ol_reserve.specs.Pair.{IsDamaged, TellsPage, there}
use Rattle.ol_reserve.proofs.Answering.{answer_fault, answer_from}
use Rattle.ol_reserve.proofs.pair.Pair.newest.Goals as goal

-- the disk after a page was read has the bytes of before
there_kept : (sizes sizes_now : ℕ → ℕ) (past now : Past) → sizes_now ≡ sizes → now ≡ past → there sizes_now (seen now) ≡ there sizes (seen past)
there_kept sizes sizes_now past now s p = ap (λ (z : ℕ → ℕ). there z (seen now)) s ∙ ap (λ (q : Past). there sizes (seen q)) p

pub returns-in-Err-clause-answer : goal.returns-in-Err-clause-answer
returns-in-Err-clause-answer g c tells low now is =
    answer_fault _ now c.read_page.new.buf c.in-Err.fault low is c.in-Err.ensures.blank (c.in-Err.ensures.bad tells) (λ chunk page e. omega (arith, (c.in-Err.ensures.place chunk page e).1)) (λ chunk e. (c.in-Err.ensures.cause.fault chunk e).0)

pub returns-in-Err-read_page-clause-answer : goal.returns-in-Err-read_page-clause-answer
returns-in-Err-read_page-clause-answer g c tells low now is =
    let same = there_kept _ _ _ _ c.read_page.ensures.sizes (c.read_page.ensures.past tells) in
    answer_fault _ now c.read_page.new.buf c.in-Err-read_page.fault low is c.in-Err-read_page.ensures.blank (λ chunk page e. subst (λ (d : Bytes). IsDamaged d page) same (c.in-Err-read_page.ensures.bad tells chunk page e))
    (λ chunk page e. omega (arith, (c.in-Err-read_page.ensures.place chunk page e).1)) (λ chunk e. (c.in-Err-read_page.ensures.cause.fault chunk e).0)

pub returns-in-Err-read_page-clause-bad : goal.returns-in-Err-read_page-clause-bad
returns-in-Err-read_page-clause-bad g c tells chunk page is =
    let same = there_kept _ _ _ _ c.read_page.ensures.sizes (c.read_page.ensures.past tells) in
    subst (λ (d : Bytes). IsDamaged d page) same (c.in-Err-read_page.ensures.bad tells chunk page (search))

pub returns-in-Ok-read_page-clause-blank : goal.returns-in-Ok-read_page-clause-blank
returns-in-Ok-read_page-clause-blank g c tells is =
    let same = there_kept _ _ _ _ c.read_page.ensures.sizes (c.read_page.ensures.past tells) in
    c.pick.ensures.blank (there (g.D.Disk.sizes c.args.disk.now) (seen (g.D.Disk.past c.args.disk.now))) (c.in-Ok.ensures.told tells) (subst (λ (d : Bytes). TellsPage d 1 c.read_page-2.new.buf c.in-Ok-read_page.second) same (c.in-Ok-read_page.ensures.told tells)) is

pub returns-in-Ok-read_page-clause-bad : goal.returns-in-Ok-read_page-clause-bad
returns-in-Ok-read_page-clause-bad g c tells chunk page is =
    let same = there_kept _ _ _ _ c.read_page.ensures.sizes (c.read_page.ensures.past tells) in
    c.pick.ensures.bad (there (g.D.Disk.sizes c.args.disk.now) (seen (g.D.Disk.past c.args.disk.now))) (c.in-Ok.ensures.told tells) (subst (λ (d : Bytes). TellsPage d 1 c.read_page-2.new.buf c.in-Ok-read_page.second) same (c.in-Ok-read_page.ensures.told tells)) chunk page is

pub returns-in-Ok-read_page-clause-answer : goal.returns-in-Ok-read_page-clause-answer
returns-in-Ok-read_page-clause-answer g c tells low now is =
    let same = there_kept _ _ _ _ c.read_page.ensures.sizes (c.read_page.ensures.past tells) in
    let first = c.in-Ok.ensures.told tells in
    let second = subst (λ (d : Bytes). TellsPage d 1 c.read_page-2.new.buf c.in-Ok-read_page.second) same (c.in-Ok-read_page.ensures.told tells) in
    answer_from _ now c.pick.new.buf c.pick.result low is (c.pick.ensures.ok (there (g.D.Disk.sizes c.args.disk.now) (seen (g.D.Disk.past c.args.disk.now))) first second) (c.pick.ensures.blank (there (g.D.Disk.sizes c.args.disk.now) (seen (g.D.Disk.past c.args.disk.now))) first second) (c.pick.ensures.bad (there (g.D.Disk.sizes c.args.disk.now) (seen (g.D.Disk.past c.args.disk.now))) first second) c.pick.ensures.place (λ chunk e. absurd (c.pick.ensures.fault chunk e))
