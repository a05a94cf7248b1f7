use Rattle.std.proofs.Common.{◌≡◌, ℕ, ◌+◌, ◌≤◌, ◌++◌, ◌∙◌, List, [], ap, drop, length, take}
use Rattle.std.proofs.lemmas.List.{append-nil, drop-drop, drop_all}

-- a part that is written up to the end of a list leaves nothing behind it
pub written_to_end : (at k : ℕ) (all part : List ℕ) → length all ≤ at + k → take at all ++ (part ++ drop k (drop at all)) ≡ take at all ++ part
written_to_end at k all part le =
    let none : drop k (drop at all) ≡ [] = drop-drop k at all ∙ drop_all (at + k) all le in
    ap (λ (l : List ℕ). take at all ++ (part ++ l)) none ∙ ap (λ (l : List ℕ). take at all ++ l) (append-nil part)
