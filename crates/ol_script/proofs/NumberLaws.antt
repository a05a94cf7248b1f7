-- Numbers in decimal.
use Rattle.std.specs.Prelude.{List, None, Option, Some, [], decimal, fold, get_or, length, nat_le, refl, suc, take, true, zero, ℕ, ◌&&◌, ◌*◌, ◌+◌, ◌-◌, ◌<◌, ◌^◌, ◌∷◌, ◌≡◌, ◌≤◌, ◌⊎◌}
use Rattle.std.specs.List.{list_all}
use Rattle.std.proofs.Common.{ap, arith, inl, inr, rules, sym, tests, ◌∙◌}
use Rattle.std.proofs.lemmas.Bool.{and_from, and_parts, cases_lt, le-leb, leb-true}
use Rattle.std.proofs.lemmas.Fmt.{decimal-digits_value, decimal_digit, decimal_nonempty, digits_decimal, digits_value-decimal, first_decimal, length-decimal-le}
use Rattle.std.proofs.lemmas.List.{length-take}
use Rattle.std.proofs.lemmas.Option.{cond_some}
use Rattle.std.proofs.lemmas.Str.Parse.{IsNumeralModel, digits_value_short, numerals_by_fold}
use Rattle.ol_values.specs.Config.{is_digit}
use Rattle.ol_script.specs.Words.{is_decimal, leads_well, number_between, value_of}

abbrev pub AreDigits : List ℕ → Type 0
AreDigits word = list_all is_digit word ≡ true

-- the words of a script's numbers are those of std
pub numerals : IsNumeralModel AreDigits value_of
numerals = numerals_by_fold _ (search rules) (λ (n : ℕ) (word : List ℕ). fold (λ (n b : ℕ). n * 10 + (b - 48)) n word) (search rules)

digits_front : (word : List ℕ) (i : ℕ) → AreDigits word → AreDigits (take i word)
digits_front word zero digits = refl
digits_front [] (suc i) digits = refl
digits_front (b ∷ word) (suc i) digits =
    let parts = and_parts (is_digit b) (list_all is_digit word) digits in
    and_from (is_digit b) (list_all is_digit (take i word)) parts.0 (digits_front word i parts.1)

pub value_of_front : (word : List ℕ) (i : ℕ) → AreDigits word → length word ≤ 5 → value_of (take i word) ≤ 99999
value_of_front word i digits short =
    let least : value_of (take i word) < 10 ^ 5 = digits_value_short numerals (take i word) 5 (digits_front word i digits) (omega (arith, length-take i word)) in
    omega arith

-- a number of a script, where it is the one that stands there
pub record IsRead (least most : ℕ) (word : List ℕ) (n : ℕ) : Type 0 where
  pub is : n ≡ value_of word
  pub leads : leads_well word ≡ true
  pub digits : AreDigits word
  pub above : least ≤ n
  pub below : n ≤ most

pub number_between-Some : (least most : ℕ) (word : List ℕ) (n : ℕ) → number_between least most word ≡ Some n → IsRead least most word n
unfolding number_between
number_between-Some least most word n e =
    let v = value_of word in
    let c = cond_some (is_decimal word && (nat_le least v && nat_le v most)) v n e in
    let a = and_parts (is_decimal word) (nat_le least v && nat_le v most) c.0 in
    let r = and_parts (nat_le least v) (nat_le v most) a.1 in
    let d = and_parts (leads_well word) (list_all is_digit word) a.0 in
    record { is = sym c.1; leads = d.0; digits = d.1; above = omega (arith, leb-true least v r.0, c.1); below = omega (arith, leb-true v most r.1, c.1) }

first_digit : (word : List ℕ) → leads_well word ≡ true → (0 < length word) × (get_or word 0 0 ≡ 48 → length word ≡ 1)
first_digit [] e = cc
first_digit (b ∷ []) e = (omega arith, λ z. omega arith)
first_digit (b ∷ c ∷ word) e = (omega arith, λ z. absurd (grind (arith, tests, e, z)))

-- the digits of a number are its decimal spelling
pub spelled : (word : List ℕ) → leads_well word ≡ true → AreDigits word → value_of word < 2 ^ 64 → decimal (value_of word) ≡ word
spelled word leads digits small =
    let f = first_digit word leads in
    decimal-digits_value numerals word digits f.0 f.1 small

pub number_takes : (least most : ℕ) (word : List ℕ) (n : ℕ) → most ≤ 99999 → number_between least most word ≡ Some n → (word ≡ decimal n) × (least ≤ n) × (n ≤ most)
number_takes least most word n limit e =
    let r = number_between-Some least most word n e in
    (sym (spelled word r.leads r.digits (omega (arith, r.is, r.below))) ∙ ap (λ (m : ℕ). decimal m) (sym r.is), r.above, r.below)

-- a number of more than five digits is greater than 99,999
pub long_is_large : (least most : ℕ) (word : List ℕ) → most ≤ 99999 → 5 < length word → number_between least most word ≡ None
long_is_large least most word limit long = go (number_between least most word) refl
  where
    go : (r : Option ℕ) → number_between least most word ≡ r → r ≡ None
    go None e = refl
    go (Some n) e =
        let t = number_takes least most word n limit e in
        absurd (omega (arith, ap (λ (l : List ℕ). length l) t.0, length-decimal-le 5 n (omega arith) (omega (arith, t.2)) (omega (arith, t.2))))

leads_decimal : (word : List ℕ) → 0 < length word → (48 < get_or word 0 0) ⊎ (length word ≡ 1) → leads_well word ≡ true
leads_decimal [] some h = absurd (omega arith)
leads_decimal (b ∷ []) some h = refl
leads_decimal (b ∷ c ∷ word) some (inl h) = grind (arith, tests, h)
leads_decimal (b ∷ c ∷ word) some (inr h) = absurd (omega arith)

number_leads : (n : ℕ) → n ≤ 99999 → leads_well (decimal n) ≡ true
number_leads n small = elim (cases_lt 0 n) [
  | inl some ↦ leads_decimal (decimal n) (decimal_nonempty n (omega arith)) (inl (first_decimal n some (omega arith)))
  | inr none ↦ leads_decimal (decimal n) (decimal_nonempty n (omega arith)) (inr (ap (λ (l : List ℕ). length l) (decimal_digit n (omega arith))))
]

pub number_digits : (n : ℕ) → n ≤ 99999 → AreDigits (decimal n)
number_digits n small = digits_decimal numerals n (omega arith)

pub number_again : (least most n : ℕ) → most ≤ 99999 → least ≤ n → n ≤ most → number_between least most (decimal n) ≡ Some n
unfolding number_between
number_again least most n limit above below =
    let small : n ≤ 99999 = omega arith in
    let back : value_of (decimal n) ≡ n = digits_value-decimal numerals n (omega arith) in
    rw (number_leads n small, number_digits n small, back, le-leb least n above, le-leb n most below) refl
