use Rattle.std.proofs.Common.{◌∙◌, ap, arith, length, subst, sym}
use Rattle.std.specs.List.Sorted.{IsNonDecreasingBy}
use Rattle.ol_object_spans.specs.Passing.{bad_of_stopped, start_of}
use Rattle.ol_object_spans.proofs.CodeLaws.{IsPoint, found_at, found_elsewhere, found_nowhere}
use Rattle.ol_object_spans.proofs.headers.Headers.bad_of_stopped.Goals as goal

pub returns-then-at-len : goal.returns-then-at-len
returns-then-at-len c = λ rising.
    let items = c.args.self.now.stopped.items in
    let point = subst (λ l. IsPoint c.args.start l c.first_from-at.result) c.deref.ensures.value
    (c.first_from-at.ensures.point (subst (IsNonDecreasingBy start_of) (sym c.deref.ensures.value) rising)) in
    ap (bad_of_stopped c.args.first c.args.trailer.now)
    (sym (found_nowhere c.args.start items c.first_from-at.result point (omega (arith, ap (λ l. length l) c.deref.ensures.value))))

pub returns-then-stopped-start : goal.returns-then-stopped-start
returns-then-stopped-start c = λ rising.
    let items = c.args.self.now.stopped.items in
    let point = subst (λ l. IsPoint c.args.start l c.first_from-at.result) c.deref.ensures.value
    (c.first_from-at.ensures.point (subst (IsNonDecreasingBy start_of) (sym c.deref.ensures.value) rising)) in
    ap (bad_of_stopped c.args.first c.args.trailer.now)
    (sym (found_elsewhere c.args.start items c.first_from-at.result c.index-stopped.result.now rising point
    (omega (arith, ap (λ l. length l) c.deref.ensures.value, c.first_from-at.ensures.bound)) c.index-stopped.ensures c.if-stopped-start.true))

pub returns : goal.returns
returns c = λ rising.
    let items = c.args.self.now.stopped.items in
    let point = subst (λ l. IsPoint c.args.start l c.first_from-at.result) c.deref.ensures.value
    (c.first_from-at.ensures.point (subst (IsNonDecreasingBy start_of) (sym c.deref.ensures.value) rising)) in
    c.bad_behind.ensures
    ∙ ap (bad_of_stopped c.args.first c.args.trailer.now)
    (sym (found_at c.args.start items c.first_from-at.result c.index-stopped.result.now point
    (omega (arith, ap (λ l. length l) c.deref.ensures.value, c.first_from-at.ensures.bound)) c.index-stopped.ensures c.if-stopped-start.false))
