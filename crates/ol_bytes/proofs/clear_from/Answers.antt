use Rattle.std.proofs.Common.{◌≡◌, ◌++◌, ◌-◌, ◌∙◌, List, arith, ap, length, length-drop, length-take, replicate, take, ℕ}
use Rattle.ol_bytes.proofs.Tail.{written_to_end}
use Rattle.ol_bytes.proofs.clear_from.Goals as goal

pub returns : goal.returns
returns c =
    let rest = length c.args.out.now - c.args.at in
    let zeros : c.fill.new.self ≡ replicate rest 0 = c.fill.ensures.after (λ y same. same) ∙ ap (λ (n : ℕ). replicate n 0) (simp (length-take, length-drop) (omega arith)) in
    written_to_end c.args.at rest c.args.out.now c.fill.new.self (omega arith)
    ∙ ap (λ (l : List ℕ). take c.args.at c.args.out.now ++ l) zeros
