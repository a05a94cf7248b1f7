-- Where the fields of an anchor stand in its bytes.
use Rattle.std.proofs.Common.{◌≡◌, ℕ, zero, suc, ◌+◌, ◌-◌, ◌*◌, ◌<◌, ◌^◌, ◌++◌, ◌∙◌, List, [], ◌∷◌, ap, append_assoc, arith, drop, get_or, length, refl, replicate, true, sym, take}
use Rattle.std.specs.Prelude.{codes}
use Rattle.std.specs.List.{list_all}
use Rattle.std.specs.Int.{from_be_bytes, to_be_bytes, w16, w64}
use Rattle.std.proofs.lemmas.Bool.{and_parts, leb-true}
use Rattle.std.proofs.lemmas.List.{drop-drop, drop_at, ext_get_or, length-append, length-replicate, take_at}
use Rattle.std.proofs.lemmas.Nat.{from_be_bytes-to_be_bytes_2, from_be_bytes-to_be_bytes_8}
use Rattle.ol_bytes.specs.Numbers.{number_in, numbers_bytes}
use Rattle.ol_bytes.proofs.Numbers.{length-numbers_bytes, number_at}
use Rattle.ol_reserve.specs.Anchor.{IsAnchor, anchor_bytes, front_bytes, is_known, is_number, known_of, anchor_numbers}
use Rattle.ol_reserve.specs.Pair.{serial_in}
use Rattle.ol_reserve.specs.declared.anchor.Anchor.{Anchor}

pub length-known_of : (zeros ones : List (ℕ × ℕ)) → length ones ≡ length zeros → length (known_of zeros ones) ≡ 4 * length zeros
length-known_of [] ones same = refl
length-known_of (z ∷ zeros) [] same = absurd (omega arith)
length-known_of (z ∷ zeros) (o ∷ ones) same = omega (arith, length-known_of zeros ones (omega arith))

-- the gate, the mark and the state
abbrev pub head_bytes : ℕ → Anchor → List ℕ
head_bytes gate a = gate ∷ codes "ANC" ++ (a.state ∷ 0 ∷ 0 ∷ 0 ∷ [])

-- what stands behind each field
abbrev pub behind_down : Anchor → List ℕ
behind_down a = numbers_bytes (known_of a.zero a.one) ++ (to_be_bytes w16 (length a.text) ++ (a.text ++ replicate (1262 - length a.text) 0))

abbrev pub behind_numbers : Anchor → List ℕ
behind_numbers a = replicate 56 0 ++ (a.states ++ (numbers_bytes a.down_at ++ behind_down a))

nested : (gate : ℕ) (a : Anchor) → anchor_bytes gate a ≡ head_bytes gate a ++ (numbers_bytes (anchor_numbers a) ++ behind_numbers a)
unfolding anchor_bytes front_bytes
nested gate a = simp append_assoc

pub length-anchor_bytes : (gate : ℕ) (a : Anchor) → IsAnchor a → length (anchor_bytes gate a) ≡ 2048
length-anchor_bytes gate a is =
    ap length (nested gate a)
    ∙ simp length-append
    (omega (
      arith,
      length-numbers_bytes (anchor_numbers a),
      length-numbers_bytes a.down_at,
      length-numbers_bytes (known_of a.zero a.one),
      length-known_of a.zero a.one (is.each.3 ∙ sym is.each.2),
      length-replicate {A = ℕ} (1262 - length a.text) 0,
      is.each.0,
      is.each.1,
      is.each.2,
      is.short,
    ))

pub gate_back : (gate : ℕ) (a : Anchor) → get_or (anchor_bytes gate a) 0 0 ≡ gate
unfolding anchor_bytes front_bytes
gate_back gate a = refl

numbers_behind : (gate : ℕ) (a : Anchor) → drop 8 (anchor_bytes gate a) ≡ numbers_bytes (anchor_numbers a) ++ behind_numbers a
numbers_behind gate a = ap (λ (l : List ℕ). drop 8 l) (nested gate a) ∙ drop_at (head_bytes gate a) (numbers_bytes (anchor_numbers a) ++ behind_numbers a) 8 refl

serial_small : (a : Anchor) → IsAnchor a → a.serial < 2 ^ 64
serial_small a is = let both = and_parts (is_number a.serial) _ is.numbers in omega (arith, leb-true a.serial (2 ^ 62) both.0)

pub serial_back : (gate : ℕ) (a : Anchor) → IsAnchor a → serial_in (anchor_bytes gate a) ≡ a.serial
serial_back gate a is =
    ap (λ (l : List ℕ). from_be_bytes w64 (take 8 l)) (numbers_behind gate a)
    ∙ ap (λ (l : List ℕ). from_be_bytes w64 l) (number_at (anchor_numbers a) (behind_numbers a) 0 (omega arith))
    ∙ from_be_bytes-to_be_bytes_8 a.serial (serial_small a is)

-- ---- the fields, each found again

-- the bytes behind the front of so many
behind : (front rest : List ℕ) (n : ℕ) (b : List ℕ) → b ≡ front ++ rest → length front ≡ n → drop n b ≡ rest
behind front rest n b is long = ap (λ (l : List ℕ). drop n l) is ∙ drop_at front rest n long

further : (n m : ℕ) (b front rest : List ℕ) → drop n b ≡ front ++ rest → length front ≡ m → drop (n + m) b ≡ rest
further n m b front rest is long = sym (drop-drop m n b) ∙ behind front rest m (drop n b) is long

pub record FieldsIn (a : Anchor) (b : List ℕ) : Type 0 where
  pub state : get_or b 4 0 ≡ a.state
  pub numbers : drop 8 b ≡ numbers_bytes (anchor_numbers a) ++ behind_numbers a
  pub states : drop 128 b ≡ a.states ++ (numbers_bytes a.down_at ++ behind_down a)
  pub downs : drop 144 b ≡ numbers_bytes a.down_at ++ behind_down a
  pub known : drop 272 b ≡ behind_down a
  pub text : drop 784 b ≡ to_be_bytes w16 (length a.text) ++ (a.text ++ replicate (1262 - length a.text) 0)

pub fields_in : (gate : ℕ) (a : Anchor) (b : List ℕ) → IsAnchor a → b ≡ anchor_bytes gate a → FieldsIn a b
fields_in gate a b is e =
    let d8 : drop 8 b ≡ numbers_bytes (anchor_numbers a) ++ behind_numbers a = ap (λ (l : List ℕ). drop 8 l) e ∙ numbers_behind gate a in
    let d72 : drop 72 b ≡ behind_numbers a = further 8 64 b (numbers_bytes (anchor_numbers a)) (behind_numbers a) d8 (length-numbers_bytes (anchor_numbers a)) in
    let d128 = further 72 56 b (replicate 56 0) (a.states ++ (numbers_bytes a.down_at ++ behind_down a)) d72 refl in
    let d144 = further 128 16 b a.states (numbers_bytes a.down_at ++ behind_down a) d128 is.each.0 in
    let d272 = further 144 128 b (numbers_bytes a.down_at) (behind_down a) d144 (length-numbers_bytes a.down_at ∙ ap (λ (n : ℕ). 8 * n) is.each.1) in
    let wide : length (numbers_bytes (known_of a.zero a.one)) ≡ 512 = omega (arith, length-numbers_bytes (known_of a.zero a.one), length-known_of a.zero a.one (is.each.3 ∙ sym is.each.2), is.each.2) in
    record {
      state = ap (λ (l : List ℕ). get_or l 4 0) (e ∙ nested gate a);
      numbers = d8;
      states = d128;
      downs = d144;
      known = d272;
      text = further 272 512 b (numbers_bytes (known_of a.zero a.one)) (to_be_bytes w16 (length a.text) ++ (a.text ++ replicate (1262 - length a.text) 0)) d272 wide;
    }

-- a number that was written is read again
pub number_back : (numbers rest bytes : List ℕ) (k : ℕ) → bytes ≡ numbers_bytes numbers ++ rest → k < length numbers → get_or numbers k 0 < 2 ^ 64 → number_in bytes k ≡ get_or numbers k 0
number_back numbers rest bytes k is lt small =
    ap (λ (l : List ℕ). from_be_bytes w64 (take 8 (drop (8 * k) l))) is
    ∙ ap (λ (l : List ℕ). from_be_bytes w64 l) (number_at numbers rest k lt)
    ∙ from_be_bytes-to_be_bytes_8 (get_or numbers k 0) small

-- numbers within their limit fit 8 bytes
pub fits : (numbers : List ℕ) (k : ℕ) → list_all is_number numbers ≡ true → get_or numbers k 0 < 2 ^ 64
fits [] k all = omega arith
fits (n ∷ numbers) zero all = let both = and_parts (is_number n) (list_all is_number numbers) all in omega (arith, leb-true n (2 ^ 62) both.0)
fits (n ∷ numbers) (suc k) all = fits numbers k (and_parts (is_number n) (list_all is_number numbers) all).1

-- numbers that were read are those that were written
pub numbers_back : (numbers rest bytes read : List ℕ) → bytes ≡ numbers_bytes numbers ++ rest → list_all is_number numbers ≡ true → length read ≡ length numbers → ((k : ℕ) → k < length read → get_or read k 0 ≡ number_in bytes k) → read ≡ numbers
numbers_back numbers rest bytes read is all same each =
    ext_get_or 0 read numbers same (λ k lt. each k lt ∙ number_back numbers rest bytes k is (omega (arith, same)) (fits numbers k all))

-- the text and its length
pub text_in : (gate : ℕ) (a : Anchor) (b size text : List ℕ) → IsAnchor a → b ≡ anchor_bytes gate a → size ≡ take 2 (drop 784 b) → text ≡ drop 2 (drop 784 b)
    → (get_or size 0 0 * 256 + get_or size 1 0 ≡ length a.text) × (text ≡ a.text ++ replicate (1262 - length a.text) 0)
text_in gate a b size text is e front rest =
    let at = (fields_in gate a b is e).text in
    let n = length a.text in
    let two : take 2 (drop 784 b) ≡ to_be_bytes w16 n = ap (λ (l : List ℕ). take 2 l) at ∙ take_at (to_be_bytes w16 n) (a.text ++ replicate (1262 - n) 0) 2 refl in
    let number : get_or size 0 0 * 256 + get_or size 1 0 ≡ get_or (to_be_bytes w16 n) 0 0 * 256 + get_or (to_be_bytes w16 n) 1 0 =
    ap (λ (l : List ℕ). get_or l 0 0 * 256 + get_or l 1 0) (front ∙ two) in (
      number ∙ from_be_bytes-to_be_bytes_2 n (omega (arith, is.short)),
      rest ∙ ap (λ (l : List ℕ). drop 2 l) at ∙ drop_at (to_be_bytes w16 n) (a.text ++ replicate (1262 - n) 0) 2 refl,
    )

-- the known levels, one by one
pub known_of-at : (zeros ones : List (ℕ × ℕ)) (k : ℕ) → k < length zeros → length ones ≡ length zeros
    → (get_or (known_of zeros ones) (4 * k) 0 ≡ (get_or zeros k (0, 0)).0) × (get_or (known_of zeros ones) (4 * k + 1) 0 ≡ (get_or zeros k (0, 0)).1)
    × (get_or (known_of zeros ones) (4 * k + 2) 0 ≡ (get_or ones k (0, 0)).0) × (get_or (known_of zeros ones) (4 * k + 3) 0 ≡ (get_or ones k (0, 0)).1)
known_of-at [] ones k lt same = absurd (omega arith)
known_of-at (z ∷ zeros) [] k lt same = absurd (omega arith)
known_of-at (z ∷ zeros) (o ∷ ones) zero lt same = (refl, refl, refl, refl)
known_of-at (z ∷ zeros) (o ∷ ones) (suc k) lt same =
    let rest = known_of-at zeros ones k (omega arith) (omega arith) in
    let past : (n : ℕ) → get_or (known_of (z ∷ zeros) (o ∷ ones)) (4 * suc k + n) 0 ≡ get_or (known_of zeros ones) (4 * k + n) 0 =
    λ n. ap (λ (i : ℕ). get_or (known_of (z ∷ zeros) (o ∷ ones)) i 0) (let at : 4 * suc k + n ≡ suc (suc (suc (suc (4 * k + n)))) = omega arith in at) in
    (ap (λ (i : ℕ). get_or (known_of (z ∷ zeros) (o ∷ ones)) i 0) (let at : 4 * suc k ≡ suc (suc (suc (suc (4 * k)))) = omega arith in at) ∙ rest.0, past 1 ∙ rest.1, past 2 ∙ rest.2, past 3 ∙ rest.3)

-- numbers of both levels are within their limit where those of each are
pub known_fit : (zeros ones : List (ℕ × ℕ)) → list_all is_known zeros ≡ true → list_all is_known ones ≡ true → list_all is_number (known_of zeros ones) ≡ true
known_fit [] ones z o = refl
known_fit (z ∷ zeros) [] fz fo = refl
known_fit (z ∷ zeros) (o ∷ ones) fz fo =
    let a = and_parts (is_known z) (list_all is_known zeros) fz in
    let b = and_parts (is_known o) (list_all is_known ones) fo in
    let c = and_parts (is_number z.0) (is_number z.1) a.0 in
    let d = and_parts (is_number o.0) (is_number o.1) b.0 in
    let rest = known_fit zeros ones a.1 b.1 in
    rw (c.0, c.1, d.0, d.1) rest

-- the known levels that were read are those that were written
pub known_back : (gate : ℕ) (a : Anchor) (b front known : List ℕ) → IsAnchor a → b ≡ anchor_bytes gate a → front ≡ drop 272 b → length known ≡ 64 → ((k : ℕ) → k < length known → get_or known k 0 ≡ number_in front k) → known ≡ known_of a.zero a.one
known_back gate a b front known is e at long each =
    let wide = length-known_of a.zero a.one (is.each.3 ∙ sym is.each.2) in
    numbers_back (known_of a.zero a.one) (to_be_bytes w16 (length a.text) ++ (a.text ++ replicate (1262 - length a.text) 0)) front known (at ∙ (fields_in gate a b is e).known) (known_fit a.zero a.one is.zeros is.ones)
    (omega (arith, long, wide, is.each.2)) each

abbrev pub pair_at : List ℕ → ℕ → ℕ → ℕ × ℕ
pair_at known place k = (get_or known (4 * k + place) 0, get_or known (4 * k + place + 1) 0)

pair_is : (x y : ℕ) (p : ℕ × ℕ) → x ≡ p.0 → y ≡ p.1 → ◌≡◌ {A = ℕ × ℕ} (x, y) p
pair_is x y p e f = ap (λ (u : ℕ). let r : ℕ × ℕ = (u, y) in r) e ∙ ap (λ (v : ℕ). let r : ℕ × ℕ = (p.0, v) in r) f

-- the levels of a space among them
pub zero_at : (a : Anchor) → IsAnchor a → (k : ℕ) → k < 16 → pair_at (known_of a.zero a.one) 0 k ≡ get_or a.zero k (0, 0)
zero_at a is k lt =
    let all = known_of a.zero a.one in
    let at = known_of-at a.zero a.one k (omega (arith, is.each.2)) (is.each.3 ∙ sym is.each.2) in
    pair_is (get_or all (4 * k + 0) 0) (get_or all (4 * k + 0 + 1) 0) (get_or a.zero k (0, 0))
    (ap (λ (i : ℕ). get_or all i 0) (let i : 4 * k + 0 ≡ 4 * k = omega arith in i) ∙ at.0)
    (ap (λ (i : ℕ). get_or all i 0) (let i : 4 * k + 0 + 1 ≡ 4 * k + 1 = omega arith in i) ∙ at.1)

pub one_at : (a : Anchor) → IsAnchor a → (k : ℕ) → k < 16 → pair_at (known_of a.zero a.one) 2 k ≡ get_or a.one k (0, 0)
one_at a is k lt =
    let all = known_of a.zero a.one in
    let at = known_of-at a.zero a.one k (omega (arith, is.each.2)) (is.each.3 ∙ sym is.each.2) in
    pair_is (get_or all (4 * k + 2) 0) (get_or all (4 * k + 2 + 1) 0) (get_or a.one k (0, 0)) at.2
    (ap (λ (i : ℕ). get_or all i 0) (let i : 4 * k + 2 + 1 ≡ 4 * k + 3 = omega arith in i) ∙ at.3)

pub zero_back : (a : Anchor) (known : List ℕ) (levels : List (ℕ × ℕ)) → IsAnchor a → known ≡ known_of a.zero a.one → length levels ≡ 16 → ((k : ℕ) → k < 16 → get_or levels k (0, 0) ≡ pair_at known 0 k) → levels ≡ a.zero
zero_back a known levels is e long each =
    ext_get_or (0, 0) levels a.zero (long ∙ sym is.each.2) (λ k lt.
    let here : k < 16 = omega (arith, long) in each k here ∙ ap (λ (l : List ℕ). pair_at l 0 k) e ∙ zero_at a is k here)

pub one_back : (a : Anchor) (known : List ℕ) (levels : List (ℕ × ℕ)) → IsAnchor a → known ≡ known_of a.zero a.one → length levels ≡ 16 → ((k : ℕ) → k < 16 → get_or levels k (0, 0) ≡ pair_at known 2 k) → levels ≡ a.one
one_back a known levels is e long each =
    ext_get_or (0, 0) levels a.one (long ∙ sym is.each.3) (λ k lt.
    let here : k < 16 = omega (arith, long) in each k here ∙ ap (λ (l : List ℕ). pair_at l 2 k) e ∙ one_at a is k here)

-- ---- an anchor whose fields are those of another

pub same_anchor : (x a : Anchor) (n : List ℕ) → n ≡ anchor_numbers a → x.state ≡ a.state → x.serial ≡ get_or n 0 0 → x.incarnation ≡ get_or n 1 0 → x.position ≡ get_or n 2 0 → x.generation ≡ get_or n 3 0
    → x.next_archive ≡ get_or n 4 0 → x.backed ≡ get_or n 5 0 → x.uniq ≡ get_or n 6 0 → x.need ≡ get_or n 7 0 → x.states ≡ a.states → x.down_at ≡ a.down_at → x.zero ≡ a.zero → x.one ≡ a.one → x.text ≡ a.text → x ≡ a
same_anchor x a n e state n0 n1 n2 n3 n4 n5 n6 n7 states downs zeros ones text =
    let f : (k : ℕ) → get_or n k 0 ≡ get_or (anchor_numbers a) k 0 = λ k. ap (λ (l : List ℕ). get_or l k 0) e in
    let m0 : x.serial ≡ a.serial = n0 ∙ f 0 in
    let m1 : x.incarnation ≡ a.incarnation = n1 ∙ f 1 in
    let m2 : x.position ≡ a.position = n2 ∙ f 2 in
    let m3 : x.generation ≡ a.generation = n3 ∙ f 3 in
    let m4 : x.next_archive ≡ a.next_archive = n4 ∙ f 4 in
    let m5 : x.backed ≡ a.backed = n5 ∙ f 5 in
    let m6 : x.uniq ≡ a.uniq = n6 ∙ f 6 in
    let m7 : x.need ≡ a.need = n7 ∙ f 7 in
    λ i. record {
      state = state i;
      serial = m0 i;
      incarnation = m1 i;
      position = m2 i;
      generation = m3 i;
      next_archive = m4 i;
      backed = m5 i;
      uniq = m6 i;
      need = m7 i;
      states = states i;
      down_at = downs i;
      zero = zeros i;
      one = ones i;
      text = text i;
    }
