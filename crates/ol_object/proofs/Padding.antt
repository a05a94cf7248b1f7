-- A payload that is used whole needs no padding.
use Rattle.std.proofs.Common.{◌≡◌, ℕ, ◌-◌, ◌++◌, ◌∙◌, List, ap, arith, length, replicate}
use Rattle.std.proofs.lemmas.List.{append-nil}
use Rattle.ol_object.specs.Bytes.{padded_to}

pub padded_to_whole : (n : ℕ) (bytes : List ℕ) → length bytes ≡ n → padded_to n bytes ≡ bytes
unfolding padded_to
padded_to_whole n bytes whole =
    let none : n - length bytes ≡ 0 = omega arith in
    ap (λ (k : ℕ). bytes ++ replicate k 0) none ∙ append-nil bytes
