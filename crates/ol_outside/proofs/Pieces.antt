-- A piece of the bytes that are left.
use Rattle.std.proofs.Common.{◌≡◌, ℕ, ◌+◌, ◌-◌, ◌<◌, ◌≤◌, min, List, [], ◌++◌, length, take, drop, sym, ap, ◌∙◌, arith, length-drop}
use Rattle.std.proofs.lemmas.List.{length-take, take_at, take-append-drop, drop-drop, drop_all, take_all}

-- a slice to the end of the bytes
pub rest-whole : (bytes : List ℕ) (position : ℕ) → take (length bytes - position) (drop position bytes) ≡ drop position bytes
rest-whole bytes position =
    take_all (length bytes - position) (drop position bytes) (omega (arith, length-drop position bytes))

-- the piece stands at the front of the buffer, and what follows it is left
pub left-split : (bytes piece rest : List ℕ) (position n : ℕ) → n ≤ length (drop position bytes) → piece ≡ take n (drop position bytes) → drop position bytes ≡ take n (piece ++ rest) ++ drop (position + n) bytes
left-split bytes piece rest position n fits is =
    let len : length piece ≡ n = ap length is ∙ omega (arith, length-take n (drop position bytes)) in
    sym (
    ap (λ (x : List ℕ). x ++ drop (position + n) bytes) (take_at piece rest n len ∙ is)
    ∙ ap (λ (x : List ℕ). take n (drop position bytes) ++ x) (sym (drop-drop n position bytes))
    ∙ take-append-drop n (drop position bytes)
    )

-- a piece that has room and is empty leaves nothing
pub left-empty : (bytes : List ℕ) (position n room most : ℕ) → n ≡ min room (min most (length (drop position bytes))) → 0 < most → 0 < room → n ≡ 0 → drop (position + n) bytes ≡ []
left-empty bytes position n room most is above roomy none =
    drop_all (position + n) bytes (omega (arith, length-drop position bytes))
