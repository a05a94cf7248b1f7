-- Numbers in decimal: how a word is read, and that reading and spelling are inverse.
use Rattle.std.specs.Char.{digit_value, is_ascii_digit}
use Rattle.std.specs.Fmt.{decimal}
use Rattle.std.specs.Int.{IsInRange}
use Rattle.std.specs.List.{list_all}
use Rattle.std.specs.Str.Parse.{digits_value}
use Rattle.std.specs.Prelude.{Bool, List, None, Option, Some, [], cond, false, get_or, length, nat_le, nat_lt, refl, slice_index, take, true, ℕ, ◌&&◌, ◌++◌, ◌+◌, ◌*◌, ◌-◌, ◌<◌, ◌∷◌, ◌≡◌, ◌≤◌, ◌^◌}
use Rattle.std.proofs.Common.{ap, append_assoc, arith, rules, sym, ◌∙◌}
use Rattle.std.proofs.lemmas.Bool.{and_from, and_parts, cond-true, le-leb, leb-true, lt-ltb, ltb-true}
use Rattle.std.proofs.lemmas.Bool.Decides.{nat_tests}
use Rattle.std.proofs.lemmas.Fmt.{decimal-digits_value, digits_decimal, digits_value-decimal, first_decimal}
use Rattle.std.proofs.lemmas.Int.Digits.{digits_value_more}
use Rattle.std.proofs.lemmas.List.Folds.{list_all_at, list_all_more}
use Rattle.std.proofs.lemmas.Str.{digit_value_digit}
use Rattle.std.proofs.lemmas.Str.Parse.{IsNumeralModel, digits_value-take-le, numerals_by_value}
use Rattle.ol_words.specs.Words.{number_up_to, with_number}

-- ---- numbers of a list

-- numbers that were read, and then the rest
abbrev pub behind : List ℕ → Option (List ℕ) → Option (List ℕ)
behind numbers None = None
behind numbers (Some more) = Some (numbers ++ more)

pub behind_none : (o : Option (List ℕ)) → behind [] o ≡ o
behind_none None = refl
behind_none (Some more) = refl

-- one number more
pub behind_more : (numbers : List ℕ) (n : ℕ) (o : Option (List ℕ)) → behind (numbers ++ n ∷ []) o ≡ behind numbers (with_number (Some n) o)
behind_more numbers n None = refl
behind_more numbers n (Some more) = ap (λ (l : List ℕ). Some l) (append_assoc numbers (n ∷ []) more)

-- ---- the digits of a number

none_where : (d f v : Bool) (n : ℕ) → d ≡ false → None ≡ (cond (d && (f && v)) (Some n) None)
none_where false f v n e = refl
none_where true f v n e = cc

none_above : (d f v : Bool) (n : ℕ) → v ≡ false → None ≡ (cond (d && (f && v)) (Some n) None)
none_above false f v n e = refl
none_above true false v n e = refl
none_above true true false n e = refl
none_above true true true n e = cc

pub no_digit : (most : ℕ) (word : List ℕ) (i : ℕ) → i < length word → is_ascii_digit (get_or word i 0) ≡ false → None ≡ number_up_to most word
no_digit most word i lt e = none_where (list_all is_ascii_digit word) (nat_lt 48 (slice_index word 0)) (nat_le (digits_value 10 word) most) (digits_value 10 word) (list_all_at is_ascii_digit word i 0 lt e)

pub digits_more : (word : List ℕ) (i : ℕ) → i < length word → list_all is_ascii_digit (take i word) ≡ true → is_ascii_digit (get_or word i 0) ≡ true
    → list_all is_ascii_digit (take (i + 1) word) ≡ true
digits_more word i lt so_far e = list_all_more is_ascii_digit word i 0 lt ∙ ap (λ b. b && is_ascii_digit (get_or word i 0)) so_far ∙ e

digit_is : (b : ℕ) → is_ascii_digit b ≡ true → digit_value b ≡ b - 48
digit_is b e = let at : IsInRange 48 57 b = grind (arith, nat_tests) in omega (arith, digit_value_digit b at)

pub value_more : (word : List ℕ) (i value : ℕ) → i < length word → value ≡ digits_value 10 (take i word) → is_ascii_digit (get_or word i 0) ≡ true
    → value * 10 + (get_or word i 0 - 48) ≡ digits_value 10 (take (i + 1) word)
value_more word i value lt so_far e = omega (arith, so_far, digit_is (get_or word i 0) e, digits_value_more 10 word i lt)

pub number_above : (most : ℕ) (word : List ℕ) (i value : ℕ) → i < length word → value ≡ digits_value 10 (take i word) → is_ascii_digit (get_or word i 0) ≡ true
    → most < value * 10 + (get_or word i 0 - 48) → None ≡ number_up_to most word
number_above most word i value lt so_far e above =
    none_above (list_all is_ascii_digit word) (nat_lt 48 (slice_index word 0)) (nat_le (digits_value 10 word) most) (digits_value 10 word)
    (let le : digits_value 10 (take (i + 1) word) ≤ digits_value 10 word = digits_value-take-le 10 word (i + 1) (omega arith) in
    let n : most < digits_value 10 word = omega (arith, le, value_more word i value lt so_far e) in
    grind (arith, nat_tests))

-- ---- numbers and their text

-- digits and their value, in the words of std's laws on decimal text
pub own : IsNumeralModel (λ ds. list_all is_ascii_digit ds ≡ true) (digits_value 10)
own = numerals_by_value _ (search rules)

pub record IsNumber (most : ℕ) (word : List ℕ) (n : ℕ) : Type 0 where
  pub text : word ≡ decimal n
  pub limits : (1 ≤ n) × (n ≤ most)

first_digit : (word : List ℕ) → nat_lt 48 (slice_index word 0) ≡ true → (0 < length word) × (48 < get_or word 0 0)
first_digit [] e = cc
first_digit (b ∷ word) e = (omega arith, ltb-true 48 b e)

at_least_one : (word : List ℕ) → list_all is_ascii_digit word ≡ true → 48 < get_or word 0 0 → 1 ≤ digits_value 10 word
at_least_one [] d h = absurd (omega arith)
at_least_one (b ∷ word) d h =
    let le : digits_value 10 (take 1 (b ∷ word)) ≤ digits_value 10 (b ∷ word) = digits_value-take-le 10 (b ∷ word) 1 (omega arith) in
    omega (arith, le, digit_is b ((and_parts (is_ascii_digit b) (list_all is_ascii_digit word) d).0))

pub number_is : (most : ℕ) (word : List ℕ) (n : ℕ) → most < 2 ^ 64 → number_up_to most word ≡ Some n → IsNumber most word n
number_is most word n bound e = go (list_all is_ascii_digit word) (nat_lt 48 (slice_index word 0)) (nat_le (digits_value 10 word) most) refl refl refl e
  where
    go : (d f v : Bool) → list_all is_ascii_digit word ≡ d → nat_lt 48 (slice_index word 0) ≡ f → nat_le (digits_value 10 word) most ≡ v
        → cond (d && (f && v)) (Some (digits_value 10 word)) None ≡ Some n → IsNumber most word n
    go false f v a b c e = cc
    go true false v a b c e = cc
    go true true false a b c e = cc
    go true true true a b c e =
        let is : digits_value 10 word ≡ n = cc in
        let le : digits_value 10 word ≤ most = leb-true (digits_value 10 word) most c in
        let first = first_digit word b in
        record {
          text = sym (decimal-digits_value own word a first.0 (λ z. absurd (omega (arith, z, first.1))) (omega arith)) ∙ ap decimal is;
          limits = (omega (arith, is, at_least_one word a first.1), omega arith);
        }

pub number_again : (most n : ℕ) → most < 2 ^ 64 → 1 ≤ n → n ≤ most → number_up_to most (decimal n) ≡ Some n
number_again most n bound least limit =
    let small : n < 2 ^ 64 = omega arith in
    let value : digits_value 10 (decimal n) ≡ n = digits_value-decimal own n small in
    let digits : list_all is_ascii_digit (decimal n) ≡ true = digits_decimal own n small in
    let first : nat_lt 48 (slice_index (decimal n) 0) ≡ true = lt-ltb 48 (get_or (decimal n) 0 0) (first_decimal n (omega arith) small) in
    let fits : nat_le (digits_value 10 (decimal n)) most ≡ true = le-leb (digits_value 10 (decimal n)) most (omega (arith, value)) in
    cond-true (list_all is_ascii_digit (decimal n) && (nat_lt 48 (slice_index (decimal n) 0) && nat_le (digits_value 10 (decimal n)) most)) (Some (digits_value 10 (decimal n))) None
    (and_from _ _ digits (and_from _ _ first fits))
    ∙ ap (λ (k : ℕ). Some k) value
