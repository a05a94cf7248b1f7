-- The tests of an anchor are its grammar.
use Rattle.std.proofs.Common.{◌≡◌, ◌⊎◌, inl, inr, ℕ, ◌≤◌, ◌∙◌, Bool, true, false, eqb, List, [], ◌∷◌, Ok, ap, arith, drop, length, refl, subst, sym}
use Rattle.std.specs.Prelude.{bytes_eq, slice_index, ◌||◌}
use Rattle.std.specs.List.{list_all}
use Rattle.std.proofs.lemmas.Bool.{and_parts, eqb-true}
use Rattle.std.proofs.lemmas.Slice.Eq.{bytes_eq-Decides}
use Rattle.ol_chunks.specs.Reading.{config_in_text}
use Rattle.ol_values.specs.Config.{Config}
use Rattle.ol_reserve.specs.Anchor.{HasEach, IsAnchor, anchor_bytes, are_downs, are_states, front_bytes, anchor_in_limits, is_known, is_number, anchor_numbers}
use Rattle.ol_reserve.specs.declared.anchor.Anchor.{Anchor}

-- ---- limits

state_from : (s : ℕ) → (eqb s 1 || eqb s 2) ≡ true → (s ≡ 1) ⊎ (s ≡ 2)
state_from s e = cases (eqb s 1) refl e
  where
    cases : (b : Bool) → eqb s 1 ≡ b → (b || eqb s 2) ≡ true → (s ≡ 1) ⊎ (s ≡ 2)
    cases true one e = inl (eqb-true s 1 one)
    cases false one e = inr (eqb-true s 2 e)

state_again : (s : ℕ) → (s ≡ 1) ⊎ (s ≡ 2) → (eqb s 1 || eqb s 2) ≡ true
state_again s (inl e) = ap (λ (n : ℕ). eqb n 1 || eqb n 2) e
state_again s (inr e) = ap (λ (n : ℕ). eqb n 1 || eqb n 2) e

pub limits_again : (a : Anchor) → IsAnchor a → anchor_in_limits a ≡ true
unfolding anchor_in_limits
limits_again a is = rw (state_again a.state is.state, is.numbers, is.downs, is.zeros, is.ones, is.down_at) refl

pub anchor_from : (a : Anchor) (n : ℕ) → anchor_in_limits a ≡ true → HasEach a → length a.text ≤ 1024 → (c : Config) × (config_in_text a.text ≡ Ok c) × (n ≡ length c.spaces) → are_states n a.states ≡ true → IsAnchor a
unfolding anchor_in_limits
anchor_from a n e each short config states =
    let p5 = and_parts _ (are_downs a.states a.down_at) e in
    let p4 = and_parts _ (list_all is_known a.one) p5.0 in
    let p3 = and_parts _ (list_all is_known a.zero) p4.0 in
    let p2 = and_parts _ (list_all is_number a.down_at) p3.0 in
    let p1 = and_parts (eqb a.state 1 || eqb a.state 2) (list_all is_number (anchor_numbers a)) p2.0 in
    record {
      state = state_from a.state p1.0;
      numbers = p1.1;
      downs = p2.1;
      zeros = p3.1;
      ones = p4.1;
      down_at = p5.1;
      configured = (config.0, config.1, subst (λ (k : ℕ). are_states k a.states ≡ true) config.2 states);
      each = each;
      short = short;
    }

-- ---- bytes

body_same : (gate : ℕ) (a : Anchor) → drop 1 (anchor_bytes gate a) ≡ drop 1 (anchor_bytes 1 a)
unfolding anchor_bytes front_bytes
body_same gate a = refl

whole : (gate : ℕ) (a : Anchor) → anchor_bytes gate a ≡ gate ∷ drop 1 (anchor_bytes gate a)
unfolding anchor_bytes front_bytes
whole gate a = refl

first_of : (b : List ℕ) → length b ≡ 2048 → b ≡ slice_index b 0 ∷ drop 1 b
first_of [] long = absurd (omega arith)
first_of (x ∷ b) long = refl

pub spelled_from : (b : List ℕ) (a : Anchor) → length b ≡ 2048 → bytes_eq (drop 1 b) (drop 1 (anchor_bytes 1 a)) ≡ true → b ≡ anchor_bytes (slice_index b 0) a
spelled_from b a long e =
    let body : drop 1 b ≡ drop 1 (anchor_bytes 1 a) = (bytes_eq-Decides (drop 1 b) (drop 1 (anchor_bytes 1 a))).0 e in
    first_of b long ∙ ap (λ (l : List ℕ). slice_index b 0 ∷ l) (body ∙ sym (body_same (slice_index b 0) a)) ∙ sym (whole (slice_index b 0) a)

pub spelled_again : (b : List ℕ) (gate : ℕ) (a : Anchor) → b ≡ anchor_bytes gate a → bytes_eq (drop 1 b) (drop 1 (anchor_bytes 1 a)) ≡ true
spelled_again b gate a e = (bytes_eq-Decides (drop 1 b) (drop 1 (anchor_bytes 1 a))).1 (ap (λ (l : List ℕ). drop 1 l) e ∙ body_same gate a)
