use Rattle.std.proofs.Common.{◌∷◌, ℕ, List, ◌+◌, ◌==◌, ◌∙◌, ap, sym, take}
use Rattle.std.proofs.lemmas.List.{take_rest}
use Rattle.std.specs.List.{slice_split}
use Rattle.ol_words.proofs.Pieces.{split_none, split_some}
use Rattle.ol_words.proofs.cut_at_first.Goals as goal

pub returns-in_err-end-clause-none : goal.returns-in_err-end-clause-none
returns-in_err-end-clause-none c =
    rw c.from_residual.ensures (split_none c.args.separator c.args.text.now (sym c.in_err-end.ensures))

pub returns-clause-some : goal.returns-clause-some
returns-clause-some c =
    let text = c.args.text.now in
    let end = c.in_ok-end.end in
    split_some c.args.separator text end (sym c.in_ok-end.ensures)
    ∙ ap (λ (l : List ℕ). take end text ∷ slice_split (λ b. b == c.args.separator) l) (sym (take_rest text (end + 1)))
