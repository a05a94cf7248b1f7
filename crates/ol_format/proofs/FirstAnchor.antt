-- The first anchor of a configuration is an anchor of the grammar.
use Rattle.std.specs.List.{list_all}
use Rattle.std.specs.Prelude.{Bool, List, [], length, replicate, true, suc, zero, ℕ, ◌&&◌, ◌++◌, ◌-◌, ◌==◌, ◌||◌, ◌∷◌, ◌≡◌, ◌≤◌}
use Rattle.std.proofs.Common.{arith, inl, length-append, refl}
use Rattle.std.proofs.lemmas.List.{length-replicate}
use Rattle.ol_chunks.specs.Limits.{IsConfig}
use Rattle.ol_chunks.proofs.AgainLaws.{length-text, read_again}
use Rattle.ol_values.specs.Config.{Config}
use Rattle.ol_reserve.specs.Anchor.{IsAnchor, are_downs, are_states}
use Rattle.ol_format.specs.First.{first_anchor}

absent : (n : ℕ) → list_all (λ s. s == 0) (replicate n 0) ≡ true
absent zero = refl
absent (suc n) = absent n

-- the first spaces are up, and no others are there
all_up : (n rest : ℕ) → are_states n (replicate n 1 ++ replicate rest 0) ≡ true
all_up zero rest = absent rest
all_up (suc n) rest = all_up n rest

-- where no position is told, any states will do
no_downs : (states : List ℕ) (n : ℕ) → are_downs states (replicate n 0) ≡ true
no_downs [] n = refl
no_downs (s ∷ states) zero = refl
no_downs (s ∷ states) (suc n) = rw (no_downs states n) (either (s == 2))
  where
    either : (b : Bool) → (b || true) && true ≡ true
    either b = grind arith

each_space : (n : ℕ) → n ≤ 16 → length {A = ℕ} (replicate n 1 ++ replicate (16 - n) 0) ≡ 16
each_space n few =
    let up : length {A = ℕ} (replicate n 1) ≡ n = length-replicate {A = ℕ} n 1 in
    let none : length {A = ℕ} (replicate (16 - n) 0) ≡ 16 - n = length-replicate {A = ℕ} (16 - n) 0 in
    omega (arith, few, up, none, length-append {A = ℕ} (replicate n 1) (replicate (16 - n) 0))

pub is_first : (c : Config) → IsConfig c → IsAnchor (first_anchor c)
is_first c is = record {
  state = inl refl;
  numbers = refl;
  downs = refl;
  zeros = refl;
  ones = refl;
  down_at = no_downs (replicate (length c.spaces) 1 ++ replicate (16 - length c.spaces) 0) 16;
  configured = (c, read_again c is, all_up (length c.spaces) (16 - length c.spaces));
  each = (each_space (length c.spaces) is.few, refl, refl, refl);
  short = omega (arith, length-text c is);
}
