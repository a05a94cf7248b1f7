-- The known levels of spaces, one space more.
use Rattle.std.proofs.Common.{◌≡◌, ℕ, zero, suc, ◌<◌, ◌++◌, List, [], ◌∷◌, ap, arith, get_or, length, refl, take}
use Rattle.ol_reserve.specs.Anchor.{known_of}

abbrev pub four : ℕ × ℕ → ℕ × ℕ → List ℕ
four z o = z.0 ∷ z.1 ∷ o.0 ∷ o.1 ∷ []

pub known_of-take : (zeros ones : List (ℕ × ℕ)) (k : ℕ) (d : ℕ × ℕ) → k < length zeros → length ones ≡ length zeros
    → known_of (take (suc k) zeros) (take (suc k) ones) ≡ known_of (take k zeros) (take k ones) ++ four (get_or zeros k d) (get_or ones k d)
known_of-take [] ones k d lt same = absurd (omega arith)
known_of-take (z ∷ zeros) [] k d lt same = absurd (omega arith)
known_of-take (z ∷ zeros) (o ∷ ones) zero d lt same = refl
known_of-take (z ∷ zeros) (o ∷ ones) (suc k) d lt same =
    ap (λ (l : List ℕ). z.0 ∷ z.1 ∷ o.0 ∷ o.1 ∷ l) (known_of-take zeros ones k d (omega arith) (omega arith))
