-- Numbers of 8 bytes each, one after the other: how many bytes they have, and where each one stands.
use Rattle.std.proofs.Common.{◌≡◌, ℕ, zero, suc, ◌+◌, ◌*◌, ◌<◌, ◌++◌, ◌∙◌, List, [], ◌∷◌, ap, append_assoc, arith, drop, flat_map, get_or, length, refl, take}
use Rattle.std.specs.Int.{to_be_bytes, w64}
use Rattle.std.proofs.Math.Seq.{drop-append-add}
use Rattle.std.proofs.lemmas.List.{append-nil, length-append, take_at}
use Rattle.std.proofs.lemmas.List.Concat.{flat_map-append}
use Rattle.ol_bytes.specs.Numbers.{numbers_bytes}

pub length-numbers_bytes : (numbers : List ℕ) → length (numbers_bytes numbers) ≡ 8 * length numbers
unfolding numbers_bytes
length-numbers_bytes [] = refl
length-numbers_bytes (n ∷ numbers) = omega (arith, length-append (to_be_bytes w64 n) (flat_map (to_be_bytes w64) numbers), length-numbers_bytes numbers)

pub numbers_bytes-append : (a b : List ℕ) → numbers_bytes (a ++ b) ≡ numbers_bytes a ++ numbers_bytes b
unfolding numbers_bytes
numbers_bytes-append a b = flat_map-append (to_be_bytes w64) a b

pub numbers_bytes-one : (n : ℕ) → numbers_bytes (n ∷ []) ≡ to_be_bytes w64 n
unfolding numbers_bytes
numbers_bytes-one n = append-nil (to_be_bytes w64 n)

-- the bytes of the number at an index, whatever stands behind the numbers
pub number_at : (numbers rest : List ℕ) (k : ℕ) → k < length numbers → take 8 (drop (8 * k) (numbers_bytes numbers ++ rest)) ≡ to_be_bytes w64 (get_or numbers k 0)
unfolding numbers_bytes
number_at [] rest k lt = absurd (omega arith)
number_at (n ∷ numbers) rest zero lt =
    ap (λ (l : List ℕ). take 8 l) (append_assoc (to_be_bytes w64 n) (flat_map (to_be_bytes w64) numbers) rest)
    ∙ take_at (to_be_bytes w64 n) (flat_map (to_be_bytes w64) numbers ++ rest) 8 refl
number_at (n ∷ numbers) rest (suc k) lt =
    let past : 8 * suc k ≡ length (to_be_bytes w64 n) + 8 * k = omega arith in
    ap (λ (l : List ℕ). take 8 (drop (8 * suc k) l)) (append_assoc (to_be_bytes w64 n) (flat_map (to_be_bytes w64) numbers) rest)
    ∙ ap (λ (i : ℕ). take 8 (drop i (to_be_bytes w64 n ++ (flat_map (to_be_bytes w64) numbers ++ rest)))) past
    ∙ ap (λ (l : List ℕ). take 8 l) (drop-append-add (to_be_bytes w64 n) (flat_map (to_be_bytes w64) numbers ++ rest) (8 * k))
    ∙ number_at numbers rest k (omega arith)
