-- Lists of names.
use Rattle.std.specs.Prelude.{Bool, List, None, Option, Some, [], bytes_eq, false, if◌then◌else◌, length, nat_le, not, option_map, refl, true, ℕ, ◌&&◌, ◌++◌, ◌==◌, ◌∷◌, ◌≡◌, ◌≤◌, ◌||◌}
use Rattle.std.specs.List.{list_all, list_any}
use Rattle.std.proofs.Common.{ap, append-nil, append_assoc, arith, inl, inr, length-append, subst, sym, tests, ◌∙◌}
use Rattle.std.proofs.lemmas.Bool.{and_from, and_left, and_parts, and_right, le-leb, lt-leb, not-true, or_cases, or_from, or_left, or_parts, or_right}
use Rattle.std.proofs.lemmas.Option.{cond_some}
use Rattle.std.proofs.lemmas.List.Folds.{list_all-append, list_any-append}
use Rattle.ol_values.specs.Config.{is_name}
use Rattle.ol_script.specs.Pieces.{first_piece}
use Rattle.ol_script.specs.Words.{are_different, are_names, name_of, names_in_words}

pub first_is : (pieces : List (List ℕ)) (piece : List ℕ) (more : List (List ℕ)) → first_piece pieces ≡ Some (piece, more) → pieces ≡ piece ∷ more
first_is [] piece more e = cc
first_is (p ∷ pieces) piece more e =
    let front = ap (λ (o : Option (List ℕ × List (List ℕ))). option_map (λ (q : List ℕ × List (List ℕ)). q.0) o) e in
    let back = ap (λ (o : Option (List ℕ × List (List ℕ))). option_map (λ (q : List ℕ × List (List ℕ)). q.1) o) e in
    cc

-- a name that is not among the others
pub different_push : (names : List (List ℕ)) (word : List ℕ) → are_different names ≡ true → list_any (λ (n : List ℕ). bytes_eq n word) names ≡ false → are_different (names ++ word ∷ []) ≡ true
different_push [] word d new = refl
different_push (n ∷ names) word d new =
    let a = and_parts (not (list_any (bytes_eq n) names)) (are_different names) d in
    let o = or_parts (bytes_eq n word) (list_any (λ (m : List ℕ). bytes_eq m word) names) new in
    let alone : list_any (bytes_eq n) (names ++ word ∷ []) ≡ false =
    list_any-append (bytes_eq n) names (word ∷ []) ∙ or_from (list_any (bytes_eq n) names) (bytes_eq n word || false) (not-true _ a.0) (or_from (bytes_eq n word) false o.0 refl) in
    and_from (not (list_any (bytes_eq n) (names ++ word ∷ []))) (are_different (names ++ word ∷ [])) (ap not alone) (different_push names word a.1 o.1)

-- a name that is among the others
twice_in : (names : List (List ℕ)) (word : List ℕ) (more : List (List ℕ)) → list_any (λ (n : List ℕ). bytes_eq n word) names ≡ true → are_different (names ++ word ∷ more) ≡ false
twice_in [] word more found = cc
twice_in (n ∷ names) word more found = elim (or_cases (bytes_eq n word) (list_any (λ (m : List ℕ). bytes_eq m word) names) found) [
  | inl here ↦ and_left (not (list_any (bytes_eq n) (names ++ word ∷ more))) (are_different (names ++ word ∷ more))
      (ap not (list_any-append (bytes_eq n) names (word ∷ more) ∙ or_right (list_any (bytes_eq n) names) (bytes_eq n word || list_any (bytes_eq n) more) (or_left (bytes_eq n word) (list_any (bytes_eq n) more) here)))
  | inr later ↦ and_right (not (list_any (bytes_eq n) (names ++ word ∷ more))) (are_different (names ++ word ∷ more)) (twice_in names word more later)
]

-- ---- the names that were read

-- the names that were read, and the words that are left
pub record IsReading (words names left : List (List ℕ)) : Type 0 where
  pub all : names ++ left ≡ words
  pub each : list_all is_name names ≡ true
  pub different : are_different names ≡ true

left_is : (words names left : List (List ℕ)) (word : List ℕ) (more : List (List ℕ)) → IsReading words names left → first_piece left ≡ Some (word, more) → names ++ word ∷ more ≡ words
left_is words names left word more r first = ap (λ (l : List (List ℕ)). names ++ l) (sym (first_is left word more first)) ∙ r.all

-- ---- what makes words no list of names

refused : (words : List (List ℕ)) → are_names words ≡ false → names_in_words words ≡ None
refused words e = ap (λ b. if b then Some words else None) e

abbrev few : List (List ℕ) → Bool
few words = nat_le (length words) 16

abbrev rest : List (List ℕ) → Bool
rest words = list_all is_name words && are_different words

pub too_many : (words names left : List (List ℕ)) (word : List ℕ) (more : List (List ℕ)) → IsReading words names left → first_piece left ≡ Some (word, more) → length names ≡ 16 → names_in_words words ≡ None
too_many words names left word more r first full =
    let is : words ≡ names ++ word ∷ more = sym (left_is words names left word more r first) in
    refused words (and_right (nat_le 1 (length words)) (few words && rest words) (and_left (few words) (rest words)
    (lt-leb (length words) 16 (omega (arith, length-append names (word ∷ more), ap (λ (l : List (List ℕ)). length l) is)))))

pub twice : (words names left : List (List ℕ)) (word : List ℕ) (more : List (List ℕ)) → IsReading words names left → first_piece left ≡ Some (word, more) → list_any (λ (n : List ℕ). bytes_eq n word) names ≡ true → names_in_words words ≡ None
twice words names left word more r first found =
    let is : words ≡ names ++ word ∷ more = sym (left_is words names left word more r first) in
    refused words (and_right (nat_le 1 (length words)) (few words && rest words) (and_right (few words) (rest words)
    (and_right (list_all is_name words) (are_different words) (ap are_different is ∙ twice_in names word more found))))

no_name_is : (word : List ℕ) → name_of word ≡ None → is_name word ≡ false
no_name_is word e = go (is_name word) e
  where
    go : (b : Bool) → (if b then Some word else None) ≡ None → b ≡ false
    go true e = cc
    go false e = refl

pub no_name : (words names left : List (List ℕ)) (word : List ℕ) (more : List (List ℕ)) → IsReading words names left → first_piece left ≡ Some (word, more) → name_of word ≡ None → names_in_words words ≡ None
no_name words names left word more r first e =
    let is : words ≡ names ++ word ∷ more = sym (left_is words names left word more r first) in
    let bad : list_all is_name words ≡ false =
    ap (list_all is_name) is ∙ list_all-append is_name names (word ∷ more) ∙ and_right (list_all is_name names) (is_name word && list_all is_name more) (and_left (is_name word) (list_all is_name more) (no_name_is word e)) in
    refused words (and_right (nat_le 1 (length words)) (few words && rest words) (and_right (few words) (rest words) (and_left (list_all is_name words) (are_different words) bad)))

none_left : (left : List (List ℕ)) → first_piece left ≡ None → left ≡ []
none_left [] e = refl
none_left (piece ∷ left) e = cc

whole : (words names left : List (List ℕ)) → IsReading words names left → first_piece left ≡ None → words ≡ names
whole words names left r end = sym r.all ∙ ap (λ (l : List (List ℕ)). names ++ l) (none_left left end) ∙ append-nil names

pub none_read : (words names left : List (List ℕ)) → IsReading words names left → first_piece left ≡ None → (length names == 0) ≡ true → names_in_words words ≡ None
none_read words [] left r end e = ap names_in_words (whole words [] left r end)
none_read words (n ∷ names) left r end e = absurd (grind (arith, tests, e))

all_named : (names : List (List ℕ)) → (length names == 0) ≡ false → length names ≤ 16 → list_all is_name names ≡ true → are_different names ≡ true → names_in_words names ≡ Some names
all_named [] some limit each different = cc
all_named (n ∷ names) some limit each different =
    let words = n ∷ names in
    ap (λ b. if b then Some words else None)
    (and_from (nat_le 1 (length words)) (few words && rest words) (le-leb 1 (length words) (omega arith)) (and_from (few words) (rest words) (le-leb (length words) 16 limit) (and_from (list_all is_name words) (are_different words) each different)))

pub all_read : (words names left : List (List ℕ)) → IsReading words names left → first_piece left ≡ None → (length names == 0) ≡ false → length names ≤ 16 → names_in_words words ≡ Some names
all_read words names left r end some limit = ap names_in_words (whole words names left r end) ∙ all_named names some limit r.each r.different

-- ---- one name more

named_is : (word name : List ℕ) → name_of word ≡ Some name → (is_name word ≡ true) × (word ≡ name)
named_is word name e = cond_some (is_name word) word name e

pub name_read : (words names left : List (List ℕ)) (word name : List ℕ) (more : List (List ℕ)) → IsReading words names left → first_piece left ≡ Some (word, more) → list_any (λ (n : List ℕ). bytes_eq n word) names ≡ false → name_of word ≡ Some name
    → IsReading words (names ++ name ∷ []) more
name_read words names left word name more r first new named =
    let n = named_is word name named in
    let one : IsReading words (names ++ word ∷ []) more = record {
      all = append_assoc names (word ∷ []) more ∙ left_is words names left word more r first;
      each = list_all-append is_name names (word ∷ []) ∙ and_from (list_all is_name names) (is_name word && true) r.each (and_from (is_name word) true n.0 refl);
      different = different_push names word r.different new;
    } in
    subst (λ (x : List ℕ). IsReading words (names ++ x ∷ []) more) n.1 one
