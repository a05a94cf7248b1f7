use Rattle.std.proofs.Common.{ap, arith, sym, slice_get, true, ◌≡◌, ◌∙◌, get_or, remove, ℕ}
use Rattle.ol_before.specs.Images.{Image, is_of, no_image, rank_of}
use Rattle.ol_before.proofs.OrderLaws.{drops_at, found_at, none_at}
use Rattle.ol_before.proofs.order.index_of.Goals as goal
use Rattle.ol_before.proofs.order.index_of.Goals.{else-at-held-via-then-at-held+else-is_of, else-at-held-via-else-at-held}

pub returns-then-is_of-clause-found : goal.returns-then-is_of-clause-found
returns-then-is_of-clause-found c =
    let space = c.args.space in
    let page = c.args.page in
    let held = c.args.held.now in
    let i = c.index-held-at.result in
    let at : c.rank-at.result ≡ rank_of space page held = c.rank-at.ensures.value in
    let here : is_of space page (get_or held (rank_of space page held) i) ≡ true =
    ap (λ (n : ℕ). is_of space page (get_or held n i)) (sym at) ∙ ap (λ (j : Image). is_of space page j) (sym c.index-held-at.is) ∙ sym c.is_of.ensures ∙ c.if-is_of.true in
    found_at space page held i (omega arith) here ∙ ap (λ (n : ℕ). slice_get held n) (sym at)

pub returns-then-is_of-clause-kept : goal.returns-then-is_of-clause-kept
returns-then-is_of-clause-kept c =
    let space = c.args.space in
    let page = c.args.page in
    let held = c.args.held.now in
    let i = c.index-held-at.result in
    let at : c.rank-at.result ≡ rank_of space page held = c.rank-at.ensures.value in
    let here : is_of space page (get_or held (rank_of space page held) i) ≡ true =
    ap (λ (n : ℕ). is_of space page (get_or held n i)) (sym at) ∙ ap (λ (j : Image). is_of space page j) (sym c.index-held-at.is) ∙ sym c.is_of.ensures ∙ c.if-is_of.true in
    drops_at space page held i c.requires (omega arith) here ∙ ap (λ (n : ℕ). remove held n) (sym at)

pub returns-clause-found : goal.returns-clause-found
returns-clause-found c =
    let space = c.args.space in
    let page = c.args.page in
    let held = c.args.held.now in
    let at : c.rank-at.result ≡ rank_of space page held = c.rank-at.ensures.value in
    elim c.else-at-held.branch [
      | else-at-held-via-then-at-held+else-is_of w ↦
          let i = w.index-held-at.result in
          none_at space page held i c.requires (λ within.
          ap (λ (n : ℕ). is_of space page (get_or held n i)) (sym at) ∙ ap (λ (j : Image). is_of space page j) (sym w.index-held-at.is) ∙ sym w.is_of.ensures ∙ w.if-is_of.false)
      | else-at-held-via-else-at-held w ↦ none_at space page held no_image c.requires (λ within. absurd (omega (arith, within, at, w.if-at-held.false)))
    ]
