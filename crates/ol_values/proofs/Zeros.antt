-- Bytes that are all zero.
use Rattle.std.proofs.Common.{◌≡◌, ℕ, zero, suc, true, eqb, List, [], ◌∷◌, length, replicate, refl, ap, ◌∙◌}
use Rattle.std.specs.List.{list_all}
use Rattle.std.proofs.lemmas.Bool.{and_parts, eqb-true}

pub zeros_from : (bytes : List ℕ) → list_all (λ b. eqb b 0) bytes ≡ true → bytes ≡ replicate (length bytes) 0
zeros_from [] e = refl
zeros_from (b ∷ bytes) e =
    let both = and_parts (eqb b 0) (list_all (λ b. eqb b 0) bytes) e in
    ap (λ (n : ℕ). n ∷ bytes) (eqb-true b 0 both.0) ∙ ap (λ (l : List ℕ). 0 ∷ l) (zeros_from bytes both.1)

pub zeros_again : (n : ℕ) → list_all (λ b. eqb b 0) (replicate n 0) ≡ true
zeros_again zero = refl
zeros_again (suc n) = zeros_again n
