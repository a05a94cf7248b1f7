-- The slots that a reply tells, from one on.
use Rattle.std.specs.Prelude.{Bool, List, [], decimal, false, filter, if◌then◌else◌, length, refl, suc, true, ℕ, ◌%◌, ◌++◌, ◌+◌, ◌-◌, ◌/◌, ◌<◌, ◌==◌, ◌^◌, ◌∷◌, ◌≡◌, ◌≤◌}
use Rattle.std.specs.List.{range_with_len}
use Rattle.std.proofs.Common.{ap, arith, ◌∙◌}
use Rattle.std.proofs.lemmas.Fmt.{length-decimal-le}
use Rattle.ol_values.specs.Config.{number_words}
use Rattle.ol_values.specs.Text.{slots_told}
use Rattle.ol_script.specs.Slots.{slot_text}

pub told_from : ℕ → ℕ → List ℕ
told_from bits slot = number_words (filter (λ i. (bits / 2 ^ i) % 2 == 1) (range_with_len slot (31 - slot)))

pub told_all : (bits : ℕ) → told_from bits 0 ≡ number_words (slots_told bits)
unfolding told_from slots_told
told_all bits = refl

pub told_none : (bits : ℕ) → told_from bits 31 ≡ []
unfolding told_from
told_none bits = refl

words_step : (bits slot : ℕ) (u : Bool) (rest : List ℕ) → number_words (if u then slot ∷ rest else rest) ≡ (if u then 32 ∷ decimal slot else []) ++ number_words rest
words_step bits slot true rest = refl
words_step bits slot false rest = refl

pub told_more : (bits slot : ℕ) → slot < 31 → told_from bits slot ≡ slot_text bits slot ++ told_from bits (slot + 1)
unfolding told_from
told_more bits slot few =
    let is : 31 - slot ≡ suc (31 - (slot + 1)) = omega arith in
    ap (λ n. number_words (filter (λ i. (bits / 2 ^ i) % 2 == 1) (range_with_len slot n))) is
    ∙ words_step bits slot ((bits / 2 ^ slot) % 2 == 1) (filter (λ i. (bits / 2 ^ i) % 2 == 1) (range_with_len (slot + 1) (31 - (slot + 1))))

pub two_digits : (slot : ℕ) → slot < 31 → length (decimal slot) ≤ 2
two_digits slot few = length-decimal-le 2 slot (omega arith) (omega arith) (omega arith)
