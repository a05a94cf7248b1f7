-- A word that is read is spelled so, and a word that is spelled so is read.
use Rattle.std.specs.Prelude.{Bool, List, None, Option, Some, [], bytes_eq, decimal, false, if◌then◌else◌, length, nat_le, nat_lt, not, option_map, refl, true, ℕ, ◌&&◌, ◌==◌, ◌∷◌, ◌≡◌, ◌≢◌, ◌≤◌, ◌||◌}
use Rattle.std.specs.List.{AllByRecursion, IsDistinct, join_with_byte, list_all, list_any}
use Rattle.std.proofs.Common.{ap, arith, inl, inr, subst, sym, ◌∙◌}
use Rattle.std.proofs.lemmas.List.Splits.{join_with_byte-slice_split}
use Rattle.std.proofs.lemmas.Bool.{and_from, and_parts, eqb-true, le-leb, leb-true, lt-ltb, ltb-true, ne_eqb, not-true, or_cases, or_from, or_parts}
use Rattle.std.proofs.lemmas.Fmt.{decimal_digit}
use Rattle.std.proofs.lemmas.List.Folds.{list_all-append}
use Rattle.std.proofs.lemmas.Map.Made.{AllPairs-from_IsDistinct, IsDistinct-from_AllPairs}
use Rattle.std.proofs.lemmas.Option.{cond_some, same_Some}
use Rattle.std.proofs.lemmas.Slice.Eq.{bytes_eq-Decides}
use Rattle.ol_values.specs.declared.event.Target.{Target}
use Rattle.ol_values.specs.declared.event.Target.TheVariants.{At, Reg}
use Rattle.ol_values.specs.declared.history.Actor.{Actor}
use Rattle.ol_values.specs.declared.history.Actor.TheVariants.{Archiver, Backer, Checkpointer, Flusher, Session, Warmer}
use Rattle.ol_values.specs.declared.row.Row.{Row}
use Rattle.ol_values.specs.Config.{begins_small, is_digit, is_name, is_small_letter}
use Rattle.ol_values.specs.Text.{actor_text, is_plain}
use Rattle.ol_script.proofs.NumberLaws.{number_again, number_digits, number_takes}
use Rattle.ol_script.proofs.PieceLaws.{lacks, lacks_by, pieces-joined, pieces_whole}
use Rattle.ol_script.proofs.Steps.{bind_some, chosen, map_some}
use Rattle.ol_script.specs.Pieces.{pieces_of, two_of}
use Rattle.ol_script.specs.Spelling.{AreNames, IsActor, IsName, IsPlainRow, IsScriptTarget, register_text, target_text}
use Rattle.ol_script.specs.Words.{actor_by, actor_of, are_different, are_names, is_row, name_of, names_in_words, number_between, place_by_parts, place_number, register_of, row_of, target_by_parts, target_in_text}

-- ---- actors

-- a letter, and a number that an actor is made of
record Lettered (make : ℕ → Actor) (letter least most : ℕ) (number : List ℕ) (a : Actor) : Type 0 where
  n : ℕ
  digits : number ≡ decimal n
  above : least ≤ n
  below : n ≤ most
  is : make n ≡ a

lettered : (make : ℕ → Actor) (letter least most : ℕ) (number : List ℕ) (a : Actor) → most ≤ 99999 → option_map make (number_between least most number) ≡ Some a → Lettered make letter least most number a
lettered make letter least most number a limit e =
    let m = map_some (number_between least most number) make a e in
    let t = number_takes least most number m.0 limit m.1 in
    record { n = m.0; digits = t.0; above = t.1; below = t.2; is = m.2 }

-- what holds of an actor that is read
abbrev Actored : ℕ → List ℕ → Actor → Type 0
Actored letter number a = (letter ∷ number ≡ actor_text a) × IsActor a

numbered : (make : ℕ → Actor) (letter c least most : ℕ) (number : List ℕ) (a : Actor) → most ≤ 99999 → (letter == c) ≡ true
    → ((n : ℕ) → least ≤ n → n ≤ most → Actored c (decimal n) (make n)) → option_map make (number_between least most number) ≡ Some a → Actored letter number a
numbered make letter c least most number a limit at made e =
    let l = lettered make letter least most number a limit e in
    let m : Actored c (decimal l.n) a = subst (λ (x : Actor). Actored c (decimal l.n) x) l.is (made l.n l.above l.below) in
    (ap (λ (x : ℕ). x ∷ number) (eqb-true letter c at) ∙ ap (λ (x : List ℕ). c ∷ x) l.digits ∙ m.0, m.1)

-- the number of an actor that there is one of
one_digit : (n : ℕ) → 1 ≤ n → n ≤ 1 → decimal n ≡ 49 ∷ []
one_digit n above below = let one : n ≡ 1 = omega arith in ap (λ (k : ℕ). decimal k) one ∙ decimal_digit 1 (omega arith)

actor_by_takes : (letter : ℕ) (number : List ℕ) (a : Actor) → actor_by letter number ≡ Some a → Actored letter number a
unfolding actor_by
actor_by_takes letter number a e = elim (chosen (letter == 115) _ _ (Some a) e) [
  | inl s ↦ numbered (λ k. Session k) letter 115 1 16 number a (omega arith) s.0 (λ n p q. (refl, (p, q))) s.1
  | inr s ↦ elim (chosen (letter == 97) _ _ (Some a) s.1) [
    | inl r ↦ numbered (λ k. Archiver k) letter 97 1 4 number a (omega arith) r.0 (λ n p q. (refl, (p, q))) r.1
    | inr r ↦ elim (chosen (letter == 108) _ _ (Some a) r.1) [
      | inl l ↦ numbered (λ k. Backer) letter 108 1 1 number a (omega arith) l.0 (λ n p q. (ap (λ (d : List ℕ). 108 ∷ d) (one_digit n p q), tt)) l.1
      | inr l ↦ elim (chosen (letter == 102) _ _ (Some a) l.1) [
        | inl f ↦ numbered (λ k. Flusher) letter 102 1 1 number a (omega arith) f.0 (λ n p q. (ap (λ (d : List ℕ). 102 ∷ d) (one_digit n p q), tt)) f.1
        | inr f ↦ elim (chosen (letter == 99) _ _ (Some a) f.1) [
          | inl c ↦ numbered (λ k. Checkpointer) letter 99 1 1 number a (omega arith) c.0 (λ n p q. (ap (λ (d : List ℕ). 99 ∷ d) (one_digit n p q), tt)) c.1
          | inr c ↦ elim (chosen (letter == 119) _ _ (Some a) c.1) [
            | inl w ↦ numbered (λ k. Warmer) letter 119 1 1 number a (omega arith) w.0 (λ n p q. (ap (λ (d : List ℕ). 119 ∷ d) (one_digit n p q), tt)) w.1
            | inr w ↦ absurd (let x = w.1 in cc)
          ]
        ]
      ]
    ]
  ]
]

pub actor_takes : (word : List ℕ) (a : Actor) → actor_of word ≡ Some a → (word ≡ actor_text a) × IsActor a
actor_takes [] a e = absurd cc
actor_takes (letter ∷ number) a e = actor_by_takes letter number a e

pub actor_again : (a : Actor) → IsActor a → actor_of (actor_text a) ≡ Some a
unfolding actor_by number_between
actor_again (Session k) is = ap (λ (o : Option ℕ). option_map (λ k. Session k) o) (number_again 1 16 k (omega arith) is.0 is.1)
actor_again (Archiver k) is = ap (λ (o : Option ℕ). option_map (λ k. Archiver k) o) (number_again 1 4 k (omega arith) is.0 is.1)
actor_again Backer is = refl
actor_again Flusher is = refl
actor_again Checkpointer is = refl
actor_again Warmer is = refl

-- ---- registers

pub register_takes : (word : List ℕ) (reg : ℕ) → register_of word ≡ Some reg → (word ≡ register_text reg) × (reg ≤ 9)
register_takes [] reg e = absurd cc
register_takes (letter ∷ number) reg e =
    elim (chosen (letter == 114) (number_between 0 9 number) None (Some reg) e) [
      | inl g ↦
          let t = number_takes 0 9 number reg (omega arith) g.1 in
          (ap (λ (x : ℕ). x ∷ number) (eqb-true letter 114 g.0) ∙ ap (λ (x : List ℕ). 114 ∷ x) t.0, t.2)
      | inr g ↦ absurd (let x = g.1 in cc)
    ]

pub register_again : (reg : ℕ) → reg ≤ 9 → register_of (register_text reg) ≡ Some reg
register_again reg limit = number_again 0 9 reg (omega arith) (omega arith) limit

-- ---- names and rows

pub name_takes : (word name : List ℕ) → name_of word ≡ Some name → (word ≡ name) × IsName name
name_takes word name e =
    let c = cond_some (is_name word) word name e in
    (c.1, subst (λ (x : List ℕ). IsName x) c.1 c.0)

pub name_again : (name : List ℕ) → IsName name → name_of name ≡ Some name
name_again name is = ap (λ b. if b then Some name else None) is

pub row_takes : (word : List ℕ) (row : Row) → row_of word ≡ Some row → (word ≡ 61 ∷ row) × IsPlainRow row
row_takes [] row e = absurd cc
row_takes (sign ∷ bytes) row e =
    let c = cond_some ((sign == 61) && is_row bytes) bytes row e in
    let a = and_parts (sign == 61) (is_row bytes) c.0 in
    let r = and_parts (nat_le (length bytes) 63) (list_all is_plain bytes) a.1 in
    let plain : IsPlainRow bytes = (leb-true (length bytes) 63 r.0, r.1) in
    (ap (λ (x : ℕ). x ∷ bytes) (eqb-true sign 61 a.0) ∙ ap (λ (x : List ℕ). 61 ∷ x) c.1, subst (λ (x : List ℕ). IsPlainRow x) c.1 plain)

pub row_again : (row : Row) → IsPlainRow row → row_of (61 ∷ row) ≡ Some row
row_again row is = ap (λ b. if b then Some row else None) (and_from (nat_le (length row) 63) (list_all is_plain row) (le-leb (length row) 63 is.0) is.1)

-- ---- lists of names

apart_from : (name : List ℕ) (names : List (List ℕ)) → list_any (bytes_eq name) names ≡ false → AllByRecursion (λ (other : List ℕ). bytes_eq name other ≡ false) names
apart_from name [] e = tt
apart_from name (other ∷ names) e =
    let o = or_parts (bytes_eq name other) (list_any (bytes_eq name) names) e in
    (o.0, apart_from name names o.1)

apart_again : (name : List ℕ) (names : List (List ℕ)) → AllByRecursion (λ (other : List ℕ). bytes_eq name other ≡ false) names → list_any (bytes_eq name) names ≡ false
apart_again name [] all = refl
apart_again name (other ∷ names) all = or_from (bytes_eq name other) (list_any (bytes_eq name) names) all.0 (apart_again name names all.1)

distinct_from : (names : List (List ℕ)) → are_different names ≡ true → IsDistinct bytes_eq names
unfolding IsDistinct
distinct_from [] e = tt
distinct_from (name ∷ names) e =
    let a = and_parts (not (list_any (bytes_eq name) names)) (are_different names) e in
    (apart_from name names (not-true (list_any (bytes_eq name) names) a.0), distinct_from names a.1)

distinct_again : (names : List (List ℕ)) → IsDistinct bytes_eq names → are_different names ≡ true
unfolding IsDistinct
distinct_again [] d = refl
distinct_again (name ∷ names) d = and_from (not (list_any (bytes_eq name) names)) (are_different names) (ap not (apart_again name names d.0)) (distinct_again names d.1)

pub names_takes : (words names : List (List ℕ)) → names_in_words words ≡ Some names → (words ≡ names) × AreNames names
names_takes words names e =
    let c = cond_some (are_names words) words names e in
    let some = and_parts (nat_le 1 (length words)) _ c.0 in
    let few = and_parts (nat_le (length words) 16) _ some.1 in
    let rest = and_parts (list_all is_name words) (are_different words) few.1 in
    let all : AreNames words = record {
      some = leb-true 1 (length words) some.0;
      few = leb-true (length words) 16 few.0;
      each = rest.0;
      different = AllPairs-from_IsDistinct bytes_eq-Decides words (distinct_from words rest.1);
    } in
    (c.1, subst (λ (x : List (List ℕ)). AreNames x) c.1 all)

pub names_again : (names : List (List ℕ)) → AreNames names → names_in_words names ≡ Some names
names_again names are =
    ap (λ b. if b then Some names else None)
    (and_from (nat_le 1 (length names)) _ (le-leb 1 (length names) are.some) (and_from (nat_le (length names) 16) _ (le-leb (length names) 16 are.few)
    (and_from (list_all is_name names) (are_different names) are.each (distinct_again names (IsDistinct-from_AllPairs bytes_eq-Decides names are.different)))))

-- ---- bytes of words

abbrev is_name_byte : ℕ → Bool
is_name_byte b = is_small_letter b || is_digit b

all_by : (p q : ℕ → Bool) → ((b : ℕ) → p b ≡ true → q b ≡ true) → (word : List ℕ) → list_all p word ≡ true → list_all q word ≡ true
all_by p q by [] e = refl
all_by p q by (b ∷ word) e =
    let a = and_parts (p b) (list_all p word) e in
    and_from (q b) (list_all q word) (by b a.0) (all_by p q by word a.1)

-- no blank is in a word, and no line feed
abbrev pub is_high : List ℕ → Bool
is_high word = list_all (λ b. nat_lt 32 b) word

pub high_lacks : (mark : ℕ) → mark ≤ 32 → (word : List ℕ) → is_high word ≡ true → lacks mark word ≡ true
high_lacks mark low word e = lacks_by mark (λ b. nat_lt 32 b) (λ b h. ne_eqb b mark (λ same. omega (arith, ltb-true 32 b h))) word e

pub number_high : (n : ℕ) → n ≤ 99999 → is_high (decimal n) ≡ true
number_high n limit = all_by is_digit (λ b. nat_lt 32 b) (λ b e. let a = and_parts (nat_le 48 b) (nat_le b 57) e in lt-ltb 32 b (omega (arith, leb-true 48 b a.0))) (decimal n) (number_digits n limit)

name_byte_least : (b : ℕ) → is_name_byte b ≡ true → (48 ≤ b) × (b ≢ 58)
name_byte_least b e = elim (or_cases (is_small_letter b) (is_digit b) e) [
  | inl small ↦ let a = and_parts (nat_le 97 b) (nat_le b 122) small in (omega (arith, leb-true 97 b a.0), λ same. omega (arith, leb-true 97 b a.0))
  | inr digit ↦ let a = and_parts (nat_le 48 b) (nat_le b 57) digit in (leb-true 48 b a.0, λ same. omega (arith, leb-true b 57 a.1))
]

name_bytes : (name : List ℕ) → IsName name → list_all is_name_byte name ≡ true
name_bytes name is =
    let a = and_parts (begins_small name) _ is in
    (and_parts (nat_le (length name) 8) _ a.1).1

pub name_high : (name : List ℕ) → IsName name → is_high name ≡ true
name_high name is = all_by is_name_byte (λ b. nat_lt 32 b) (λ b e. lt-ltb 32 b (omega (arith, (name_byte_least b e).0))) name (name_bytes name is)

pub row_high : (row : Row) → IsPlainRow row → is_high (61 ∷ row) ≡ true
row_high row is = all_by is_plain (λ b. nat_lt 32 b) (λ b e. (and_parts (nat_lt 32 b) _ e).0) row is.1

pub names_high : (names : List (List ℕ)) → list_all is_name names ≡ true → list_all is_high names ≡ true
names_high [] e = refl
names_high (name ∷ names) e =
    let a = and_parts (is_name name) (list_all is_name names) e in
    and_from (is_high name) (list_all is_high names) (name_high name a.0) (names_high names a.1)

-- pieces with a colon between them
joined_high : (piece : List ℕ) (pieces : List (List ℕ)) → is_high piece ≡ true → list_all is_high pieces ≡ true → is_high (join_with_byte 58 (piece ∷ pieces)) ≡ true
joined_high piece [] e all = e
joined_high piece (next ∷ pieces) e all =
    let a = and_parts (is_high next) (list_all is_high pieces) all in
    list_all-append (λ b. nat_lt 32 b) piece (58 ∷ join_with_byte 58 (next ∷ pieces))
    ∙ and_from (is_high piece) (is_high (58 ∷ join_with_byte 58 (next ∷ pieces))) e (joined_high next pieces a.0 a.1)

pub target_high : (target : Target) → IsScriptTarget target → is_high (target_text target) ≡ true
target_high (Reg reg) is = number_high reg (omega arith)
target_high (At space page slot) is =
    joined_high space (decimal page ∷ decimal slot ∷ []) (name_high space is.0)
    (and_from (is_high (decimal page)) _ (number_high page is.1) (and_from (is_high (decimal slot)) true (number_high slot is.2) refl))

pub actor_high : (a : Actor) → IsActor a → is_high (actor_text a) ≡ true
actor_high (Session k) is = number_high k (omega (arith, is.1))
actor_high (Archiver k) is = number_high k (omega (arith, is.1))
actor_high Backer is = refl
actor_high Flusher is = refl
actor_high Checkpointer is = refl
actor_high Warmer is = refl

-- no colon is in a part of a place
number_lacks : (n : ℕ) → n ≤ 99999 → lacks 58 (decimal n) ≡ true
number_lacks n limit =
    lacks_by 58 is_digit (λ b e. let a = and_parts (nat_le 48 b) (nat_le b 57) e in ne_eqb b 58 (λ same. omega (arith, leb-true b 57 a.1))) (decimal n) (number_digits n limit)

name_lacks : (name : List ℕ) → IsName name → lacks 58 name ≡ true
name_lacks name is = lacks_by 58 is_name_byte (λ b e. ne_eqb b 58 (name_byte_least b e).1) name (name_bytes name is)

-- ---- targets

pub two_is : (pieces : List (List ℕ)) (w : List ℕ × List ℕ) → two_of pieces ≡ Some w → pieces ≡ w.0 ∷ w.1 ∷ []
two_is [] w e = absurd cc
two_is (a ∷ []) w e = absurd cc
two_is (a ∷ b ∷ []) w e = let is : (a, b) ≡ w = same_Some (a, b) w e in ap (λ (p : List ℕ × List ℕ). p.0 ∷ p.1 ∷ []) is
two_is (a ∷ b ∷ c ∷ pieces) w e = absurd cc

place_takes : (word : List ℕ) (parts : List (List ℕ)) (t : Target) → place_by_parts word parts ≡ Some t → (join_with_byte 58 (word ∷ parts) ≡ target_text t) × IsScriptTarget t
unfolding place_by_parts
place_takes word parts t e =
    let w = bind_some (two_of parts) _ t e in
    let s = bind_some (name_of word) _ t w.2 in
    let p = bind_some (place_number w.0.0) _ t s.2 in
    let n = bind_some (place_number w.0.1) _ t p.2 in
    let space = name_takes word s.0 s.1 in
    let page = number_takes 0 99999 w.0.0 p.0 (omega arith) p.1 in
    let slot = number_takes 0 99999 w.0.1 n.0 (omega arith) n.1 in
    let is : At s.0 p.0 n.0 ≡ t = same_Some (At s.0 p.0 n.0) t n.2 in
    let one : word ∷ parts ≡ s.0 ∷ decimal p.0 ∷ decimal n.0 ∷ [] =
    ap (λ (l : List (List ℕ)). word ∷ l) (two_is parts w.0 w.1) ∙ ap (λ (x : List ℕ). x ∷ w.0.0 ∷ w.0.1 ∷ []) space.0
    ∙ ap (λ (x : List ℕ). s.0 ∷ x ∷ w.0.1 ∷ []) page.0 ∙ ap (λ (x : List ℕ). s.0 ∷ decimal p.0 ∷ x ∷ []) slot.0 in
    let made : (join_with_byte 58 (word ∷ parts) ≡ target_text (At s.0 p.0 n.0)) × IsScriptTarget (At s.0 p.0 n.0) = (ap (join_with_byte 58) one, (space.1, page.2, slot.2)) in
    subst (λ (x : Target). (join_with_byte 58 (word ∷ parts) ≡ target_text x) × IsScriptTarget x) is made

target_by_takes : (pieces : List (List ℕ)) (t : Target) → target_by_parts pieces ≡ Some t → (join_with_byte 58 pieces ≡ target_text t) × IsScriptTarget t
unfolding target_by_parts
target_by_takes [] t e = absurd cc
target_by_takes (word ∷ []) t e =
    let m = map_some (register_of word) (λ reg. Reg reg) t e in
    let r = register_takes word m.0 m.1 in
    let made : (join_with_byte 58 (word ∷ []) ≡ target_text (Reg m.0)) × IsScriptTarget (Reg m.0) = r in
    subst (λ (x : Target). (join_with_byte 58 (word ∷ []) ≡ target_text x) × IsScriptTarget x) m.2 made
target_by_takes (word ∷ next ∷ parts) t e = place_takes word (next ∷ parts) t e

pub target_takes : (word : List ℕ) (t : Target) → target_in_text word ≡ Some t → (word ≡ target_text t) × IsScriptTarget t
target_takes word t e =
    let r = target_by_takes (pieces_of 58 word) t e in
    (sym (join_with_byte-slice_split 58 word) ∙ r.0, r.1)

pub target_again : (t : Target) → IsScriptTarget t → target_in_text (target_text t) ≡ Some t
unfolding target_by_parts place_by_parts
target_again (Reg reg) is =
    ap target_by_parts (pieces_whole 58 (register_text reg) (number_lacks reg (omega arith)))
    ∙ ap (λ (o : Option ℕ). option_map (λ reg. Reg reg) o) (register_again reg is)
target_again (At space page slot) is =
    let rest : list_all (lacks 58) (decimal page ∷ decimal slot ∷ []) ≡ true =
    and_from (lacks 58 (decimal page)) _ (number_lacks page is.1) (and_from (lacks 58 (decimal slot)) true (number_lacks slot is.2) refl) in
    ap target_by_parts (pieces-joined 58 space (decimal page ∷ decimal slot ∷ []) (name_lacks space is.0) rest)
    ∙ rw (name_again space is.0, number_again 0 99999 page (omega arith) (omega arith) is.1, number_again 0 99999 slot (omega arith) (omega arith) is.2) refl
