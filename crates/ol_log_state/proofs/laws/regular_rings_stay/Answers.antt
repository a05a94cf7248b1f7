use Rattle.std.proofs.Common.{arith, length, subst, ◌+◌, ◌-◌, ◌≡◌}
use Rattle.ol_rules.specs.Ring.{use_numbered, with_page_in}
use Rattle.ol_log_state.specs.Regular.{EndBefore, OthersEndBefore}
use Rattle.ol_log_state.proofs.RegularLaws.{page_ends, page_others, page_regular, page_there, switched_regular}
use Rattle.ol_log_state.proofs.laws.regular_rings_stay.Goals as goal

pub returns-clause-written : goal.returns-clause-written
returns-clause-written c = λ k r last is some before.
    (let now = page_regular k r (last + 1 - length r.buffer) (length r.buffer) is (omega (arith, some)) before in
    record { files = now.files; ends = now.ends })

pub returns-clause-last : goal.returns-clause-last
returns-clause-last c = λ k r last some less before.
    (let behind : last + 1 - length r.buffer + length r.buffer ≡ last + 1 = omega (arith, less) in
    subst (λ n. EndBefore n (with_page_in k r (use_numbered r r.uniq) (last + 1 - length r.buffer) (length r.buffer))) behind
    (page_ends k r (last + 1 - length r.buffer) (length r.buffer) (omega (arith, some)) before))

pub returns-clause-switched : goal.returns-clause-switched
returns-clause-switched c = λ k r is. switched_regular k r is

pub returns-clause-current : goal.returns-clause-current
returns-clause-current c = λ k r last some. page_there k r (last + 1 - length r.buffer) (length r.buffer)

pub returns-clause-others : goal.returns-clause-others
returns-clause-others c = λ k r last some less before.
    (let s = with_page_in k r (use_numbered r r.uniq) (last + 1 - length r.buffer) (length r.buffer) in
    let end : last + 1 - length r.buffer + length r.buffer - 1 ≡ last = omega (arith, less) in
    subst (λ n. OthersEndBefore s.uniq n s) end (page_others k r (last + 1 - length r.buffer) (length r.buffer) (omega (arith, some)) before))
