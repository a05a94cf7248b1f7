-- How a text falls into pieces at its first separator.
use Rattle.std.specs.List.{onto_first, position, position_or_len, slice_split}
use Rattle.std.specs.Prelude.{Bool, List, None, Some, [], cond, drop, false, get_or, length, nat_lt, not, refl, suc, take, true, zero, ℕ, ◌+◌, ◌<◌, ◌==◌, ◌∷◌, ◌≡◌, ◌≤◌}
use Rattle.std.proofs.Common.{ap, arith, sym, tests, ◌∙◌}
use Rattle.std.proofs.lemmas.List.Quantifiers.{position-Some}

none_step : (s b : ℕ) (text : List ℕ) (u : Bool) (n : ℕ) → length (b ∷ text) ≤ cond (not u) (1 + n) 0 → (length text ≤ n → slice_split (λ x. x == s) text ≡ text ∷ [])
    → cond u ([] ∷ slice_split (λ x. x == s) text) (onto_first b (slice_split (λ x. x == s) text)) ≡ (b ∷ text) ∷ []
none_step s b text true n h rest = absurd (omega arith)
none_step s b text false n h rest = ap (onto_first b) (rest (omega arith))

one_piece : (s : ℕ) (text : List ℕ) → length text ≤ position_or_len (λ b. b == s) text → slice_split (λ b. b == s) text ≡ text ∷ []
one_piece s [] h = refl
one_piece s (b ∷ text) h = none_step s b text (b == s) (position_or_len (λ b. b == s) text) h (one_piece s text)

pub split_none : (s : ℕ) (text : List ℕ) → position (λ b. b == s) text ≡ None → slice_split (λ b. b == s) text ≡ text ∷ []
split_none s text e = go (nat_lt (position_or_len (λ b. b == s) text) (length text)) refl e
  where
    go : (t : Bool) → nat_lt (position_or_len (λ b. b == s) text) (length text) ≡ t → cond t (Some (position_or_len (λ b. b == s) text)) None ≡ None → slice_split (λ b. b == s) text ≡ text ∷ []
    go true at e = cc
    go false at e = one_piece s text (grind (arith, tests, at))

cut_at : (s : ℕ) (text : List ℕ) (i : ℕ) → i < length text → (get_or text i 0 == s) ≡ true → ((k : ℕ) → k < i → (get_or text k 0 == s) ≡ false)
    → slice_split (λ b. b == s) text ≡ take i text ∷ slice_split (λ b. b == s) (drop (i + 1) text)
cut_at s [] i lt at before = absurd (omega arith)
cut_at s (b ∷ text) zero lt at before = ap (λ u. cond u ([] ∷ slice_split (λ x. x == s) text) (onto_first b (slice_split (λ x. x == s) text))) at
cut_at s (b ∷ text) (suc i) lt at before =
    let past : suc i + 1 ≡ suc (i + 1) = omega arith in
    ap (λ u. cond u ([] ∷ slice_split (λ x. x == s) text) (onto_first b (slice_split (λ x. x == s) text))) (before 0 (omega arith))
    ∙ ap (onto_first b) (cut_at s text i (omega arith) at (λ k l. before (suc k) (omega arith)))
    ∙ ap (λ n. (b ∷ take i text) ∷ slice_split (λ x. x == s) (drop n (b ∷ text))) (sym past)

pub split_some : (s : ℕ) (text : List ℕ) (i : ℕ) → position (λ b. b == s) text ≡ Some i → slice_split (λ b. b == s) text ≡ take i text ∷ slice_split (λ b. b == s) (drop (i + 1) text)
split_some s text i e =
    let h = position-Some (λ b. b == s) text i 0 e in
    cut_at s text i h.0 h.1 h.2
