-- Numbers of a line, and the words that they are.
use Rattle.std.specs.Fmt.{decimal}
use Rattle.std.specs.Prelude.{Bool, List, None, Option, Some, [], false, if◌then◌else◌, map, refl, true, ℕ, ◌∷◌, ◌≡◌}
use Rattle.ol_values.specs.Config.{Config}
use Rattle.std.proofs.Common.{ap, arith, subst, ◌∙◌}
use Rattle.ol_words.specs.Words.{with_number}
use Rattle.ol_words.proofs.Decimals.{IsNumber, number_again, number_is}
use Rattle.ol_chunks.specs.Limits.{AreInLimits}
use Rattle.ol_chunks.specs.Pieces.{IsNoneOrMany}
use Rattle.ol_chunks.specs.Reading.{before_read, logs_read, number_in_word, numbers_in_words, physical_read}

pub record AreNumbers (words : List (List ℕ)) (numbers : List ℕ) : Type 0 where
  pub text : words ≡ map decimal numbers
  pub limits : AreInLimits numbers

more_numbers : (word : List ℕ) (words : List (List ℕ)) (n : ℕ) (numbers : List ℕ) → IsNumber 65535 word n → AreNumbers words numbers → AreNumbers (word ∷ words) (n ∷ numbers)
more_numbers word words n numbers a b = record { text = let p = a.text in let q = b.text in cc; limits = (a.limits, b.limits) }

numbers_step : (word : List ℕ) (words : List (List ℕ)) (numbers : List ℕ) (o : Option ℕ) (p : Option (List ℕ)) → number_in_word word ≡ o
    → ((rest : List ℕ) → p ≡ Some rest → AreNumbers words rest) → with_number o p ≡ Some numbers → AreNumbers (word ∷ words) numbers
numbers_step word words numbers None p a b e = cc
numbers_step word words numbers (Some n) None a b e = cc
numbers_step word words numbers (Some n) (Some rest) a b e =
    let is : n ∷ rest ≡ numbers = cc in
    subst (λ (l : List ℕ). AreNumbers (word ∷ words) l) is (more_numbers word words n rest (number_is 65535 word n (omega arith) a) (b rest refl))

pub numbers_are : (words : List (List ℕ)) (numbers : List ℕ) → numbers_in_words words ≡ Some numbers → AreNumbers words numbers
numbers_are [] numbers e = let is : [] ≡ numbers = cc in subst (λ (l : List ℕ). AreNumbers [] l) is (record { text = refl; limits = tt })
numbers_are (word ∷ words) numbers e =
    numbers_step word words numbers (number_in_word word) (numbers_in_words words) refl (λ rest is. numbers_are words rest is) e

pub numbers_again : (numbers : List ℕ) → AreInLimits numbers → numbers_in_words (map decimal numbers) ≡ Some numbers
numbers_again [] h = refl
numbers_again (n ∷ numbers) h =
    ap (λ o. with_number o (numbers_in_words (map decimal numbers))) (number_again 65535 n (omega arith) h.0.0 h.0.1)
    ∙ ap (with_number (Some n)) (numbers_again numbers h.1)

-- ---- no numbers, or too many

pub no_physical : (c : Config) (space : Option ℕ) (given : Option (List ℕ)) → IsNoneOrMany given → physical_read c space given ≡ None
no_physical c None given h = refl
no_physical c (Some space) None h = refl
no_physical c (Some space) (Some []) h = refl
no_physical c (Some space) (Some (entries ∷ [])) h = absurd (omega (arith, h (entries ∷ []) refl))
no_physical c (Some space) (Some (n ∷ k ∷ numbers)) h = refl

pub no_logs : (c : Config) (space : Option ℕ) (given : Option (List ℕ)) → IsNoneOrMany given → logs_read c space given ≡ None
no_logs c None given h = refl
no_logs c (Some space) None h = refl
no_logs c (Some space) (Some []) h = refl
no_logs c (Some space) (Some (n ∷ [])) h = refl
no_logs c (Some space) (Some (files ∷ pages ∷ [])) h = absurd (omega (arith, h (files ∷ pages ∷ []) refl))
no_logs c (Some space) (Some (n ∷ k ∷ m ∷ numbers)) h = refl

-- whatever the first word is
pub no_before : (c : Config) (first : Bool) (given : Option (List ℕ)) → IsNoneOrMany given → (if first then before_read c given else None) ≡ None
no_before c false given h = refl
no_before c true None h = refl
no_before c true (Some []) h = refl
no_before c true (Some (limit ∷ [])) h = absurd (omega (arith, h (limit ∷ []) refl))
no_before c true (Some (n ∷ k ∷ numbers)) h = refl
