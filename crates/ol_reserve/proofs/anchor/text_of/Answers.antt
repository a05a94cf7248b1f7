use Rattle.std.proofs.Common.{◌≡◌, ◌∙◌, ap, arith, drop, length, refl, take, ℕ}
use Rattle.std.proofs.lemmas.List.{length-append, take_at}
use Rattle.ol_reserve.proofs.Fields.{text_in}
use Rattle.ol_reserve.proofs.Results.{some_when}
use Rattle.ol_reserve.proofs.anchor.text_of.Goals as goal

pub returns-then-count-text : goal.returns-then-count-text
returns-then-count-text c gate a is e =
    let at = text_in gate a c.args.page.now c.split_at-2.result.0.now c.split_at-2.result.1.now is e (c.split_at-2.ensures.front ∙ ap (take 2) c.split_at.ensures.back) (c.split_at-2.ensures.back ∙ ap (λ l. drop 2 l) c.split_at.ensures.back) in
    absurd (omega (arith, c.if-count-text.true, c.from_be_bytes-count.ensures, at.0, ap length at.1, length-append {A = ℕ}))

pub returns : goal.returns
returns c gate a is e =
    let at = text_in gate a c.args.page.now c.split_at-2.result.0.now c.split_at-2.result.1.now is e (c.split_at-2.ensures.front ∙ ap (take 2) c.split_at.ensures.back) (c.split_at-2.ensures.back ∙ ap (λ l. drop 2 l) c.split_at.ensures.back) in
    let count : c.from_be_bytes-count.result ≡ length a.text = c.from_be_bytes-count.ensures ∙ at.0 in
    let text : c.split_at-3.result.0.now ≡ a.text =
    c.split_at-3.ensures.front ∙ ap (λ n. take n c.split_at-2.result.1.now) count ∙ ap (take (length a.text)) at.1 ∙ take_at a.text _ (length a.text) refl in
    some_when c.new.result c.split_at-3.result.0.now a.text text is.short c.new.ensures
