-- A field that is read is the field that was written, and what was written is read again.
use Rattle.std.proofs.Common.{◌≡◌, ℕ, zero, suc, ◌+◌, ◌-◌, ◌^◌, ◌<◌, ◌≤◌, Bool, true, false, cond, eqb, ltb, List, [], ◌∷◌, ◌++◌, length, get_or, take, drop, Option, Some, None, refl, sym, ap, subst, ◌∙◌, append_assoc, arith, inl, inr, ◌⊎◌, ◌≢◌}
use Rattle.std.specs.Int.{Width, w16, w32, w64, byte_len, from_be_bytes, to_be_bytes}
use Rattle.std.proofs.lemmas.Bool.{cases_lt, eqb-true, eqb-false, ltb-false, le-ltb}
use Rattle.std.proofs.lemmas.List.{take_at, drop_at, take-append-drop, length-append, length-take, get_or-drop, get_or-take, get_or_past}
use Rattle.std.proofs.lemmas.Nat.{be_bytes_2, be_bytes_4, be_bytes_8, from_be_bytes-to_be_bytes_2, from_be_bytes-to_be_bytes_4, from_be_bytes-to_be_bytes_8}
use Rattle.ol_values.specs.declared.record.Rid.{Rid}
use Rattle.ol_values.specs.declared.row.Row.{Row}
use Rattle.ol_values.specs.Spelling.{IsPlace, IsValue, place_bytes, value_bytes}
use Rattle.ol_bytes.specs.Reading.{◌>>=◌}
use Rattle.ol_record.specs.Reading.{number_at, place_at, row_at, value_at}

abbrev pub IsBytes : List ℕ → Type 0
IsBytes bytes = (i : ℕ) → get_or bytes i 0 < 256

pub IsBytes-drop : (n : ℕ) (bytes : List ℕ) → IsBytes bytes → IsBytes (drop n bytes)
IsBytes-drop n bytes h i = rw get_or-drop (h (n + i))

pub IsBytes-take : (n : ℕ) (bytes : List ℕ) → IsBytes bytes → IsBytes (take n bytes)
IsBytes-take n bytes h i =
    elim (cases_lt i n) [
      | inl lt ↦ rw (get_or-take n bytes i 0 lt) (h i)
      | inr le ↦ rw (get_or_past (take n bytes) i 0 (omega (arith, length-take n bytes))) (omega arith)
    ]

pub IsBytes-rest : (b : ℕ) (bytes : List ℕ) → IsBytes (b ∷ bytes) → IsBytes bytes
IsBytes-rest b bytes h i = h (suc i)

-- the value of a step that found something
pub bind_some : {A B : Type 0} (r : Option A) (f : A → Option B) (y : B) → (r >>= f) ≡ Some y → (x : A) × (r ≡ Some x) × (f x ≡ Some y)
bind_some (Some x) f y e = (x, refl, e)
bind_some None f y e = absurd cc

-- a test that was to be false, and one that was to be true
pub guard_false : {A : Type 0} (b : Bool) (o : Option A) (y : A) → cond b None o ≡ Some y → (b ≡ false) × (o ≡ Some y)
guard_false true o y e = absurd cc
guard_false false o y e = (refl, e)

pub guard_true : {A : Type 0} (b : Bool) (o : Option A) (y : A) → cond b o None ≡ Some y → (b ≡ true) × (o ≡ Some y)
guard_true true o y e = (refl, e)
guard_true false o y e = absurd cc

-- the branch that a test chose
pub chosen : {A : Type 0} (b : Bool) (x y z : A) → cond b x y ≡ z → ((b ≡ true) × (x ≡ z)) ⊎ ((b ≡ false) × (y ≡ z))
chosen true x y z e = inl (refl, e)
chosen false x y z e = inr (refl, e)

abbrev found : {A : Type 0} → A → Option A
found x = Some x

pub some_is : {A : Type 0} (x y : A) → found x ≡ found y → x ≡ y
some_is x y e = cc

-- what a reader took from the front
pub record Takes (bytes text rest : List ℕ) : Type 0 where
  pub parts : bytes ≡ text ++ rest
  pub rest_fits : IsBytes rest

pub Takes-then : (a x b y c : List ℕ) → Takes a x b → Takes b y c → Takes a (x ++ y) c
Takes-then a x b y c p q = record { parts = p.parts ∙ ap (λ (t : List ℕ). x ++ t) q.parts ∙ sym (append_assoc x y c); rest_fits = q.rest_fits }

-- ---- numbers

pub record IsWide (w : Width) (limit : ℕ) : Type 0 where
  pub len : (n : ℕ) → length (to_be_bytes w n) ≡ byte_len w
  pub back : (bytes : List ℕ) → length bytes ≡ byte_len w → IsBytes bytes → to_be_bytes w (from_be_bytes w bytes) ≡ bytes
  pub again : (n : ℕ) → n < limit → from_be_bytes w (to_be_bytes w n) ≡ n
  pub below : (bytes : List ℕ) → IsBytes bytes → from_be_bytes w bytes < limit

pub wide16 : IsWide w16 (2 ^ 16)
wide16 = record {
  len = λ n. refl;
  back = λ bytes len fits. be_bytes_2 bytes _ len fits refl;
  again = λ n lt. from_be_bytes-to_be_bytes_2 n lt;
  below = λ bytes fits. omega (arith, fits 0, fits 1);
}

pub wide32 : IsWide w32 (2 ^ 32)
wide32 = record {
  len = λ n. refl;
  back = λ bytes len fits. be_bytes_4 bytes _ len fits refl;
  again = λ n lt. from_be_bytes-to_be_bytes_4 n lt;
  below = λ bytes fits. omega (arith, fits 0, fits 1, fits 2, fits 3);
}

pub wide64 : IsWide w64 (2 ^ 64)
wide64 = record {
  len = λ n. refl;
  back = λ bytes len fits. be_bytes_8 bytes _ len fits refl;
  again = λ n lt. from_be_bytes-to_be_bytes_8 n lt;
  below = λ bytes fits. omega (arith, fits 0, fits 1, fits 2, fits 3, fits 4, fits 5, fits 6, fits 7);
}

pub number_takes : (w : Width) (limit : ℕ) (wide : IsWide w limit) (bytes : List ℕ) (x : ℕ × List ℕ) → IsBytes bytes → number_at w bytes ≡ Some x → Takes bytes (to_be_bytes w x.0) x.1 × (x.0 < limit)
number_takes w limit wide bytes x fits e =
    let g = guard_false (ltb (length bytes) (byte_len w)) (Some (from_be_bytes w (take (byte_len w) bytes), drop (byte_len w) bytes)) x e in
    let long : byte_len w ≤ length bytes = ltb-false _ _ g.0 in
    let is : (from_be_bytes w (take (byte_len w) bytes), drop (byte_len w) bytes) ≡ x = some_is _ _ g.1 in
    let n-is : from_be_bytes w (take (byte_len w) bytes) ≡ x.0 = ap (λ (p : ℕ × List ℕ). p.0) is in
    let rest-is : drop (byte_len w) bytes ≡ x.1 = ap (λ (p : ℕ × List ℕ). p.1) is in
    let front : to_be_bytes w x.0 ≡ take (byte_len w) bytes = rw (← n-is) (wide.back (take (byte_len w) bytes) (omega (arith, length-take (byte_len w) bytes)) (IsBytes-take (byte_len w) bytes fits)) in
    (record { parts = rw (front, ← rest-is) (sym (take-append-drop (byte_len w) bytes)); rest_fits = rw (← rest-is) (IsBytes-drop (byte_len w) bytes fits) }, rw (← n-is) (wide.below (take (byte_len w) bytes) (IsBytes-take (byte_len w) bytes fits)))

pub number_again : (w : Width) (limit : ℕ) (wide : IsWide w limit) (n : ℕ) (rest : List ℕ) → n < limit → number_at w (to_be_bytes w n ++ rest) ≡ Some (n, rest)
number_again w limit wide n rest lt =
    let len = wide.len n in
    let long : ltb (length (to_be_bytes w n ++ rest)) (byte_len w) ≡ false = le-ltb _ _ (omega (arith, length-append (to_be_bytes w n) rest)) in
    rw (long, take_at (to_be_bytes w n) rest (byte_len w) len, drop_at (to_be_bytes w n) rest (byte_len w) len, wide.again n lt) refl

-- ---- places

abbrev made_place : ℕ → ℕ → ℕ → ℕ → Rid
made_place space high low slot = record { space = space; page = from_be_bytes w16 (high ∷ low ∷ []); slot = slot }

IsBytes-pair : (a b : ℕ) → a < 256 → b < 256 → IsBytes (a ∷ b ∷ [])
IsBytes-pair a b p q zero = p
IsBytes-pair a b p q (suc zero) = q
IsBytes-pair a b p q (suc (suc i)) = omega arith

pub place_takes : (bytes : List ℕ) (x : Rid × List ℕ) → IsBytes bytes → place_at bytes ≡ Some x → Takes bytes (place_bytes x.0) x.1 × IsPlace x.0
unfolding place_at
place_takes [] x fits e = absurd cc
place_takes (a ∷ []) x fits e = absurd cc
place_takes (a ∷ b ∷ []) x fits e = absurd cc
place_takes (a ∷ b ∷ c ∷ []) x fits e = absurd cc
place_takes (a ∷ b ∷ c ∷ d ∷ rest) x fits e =
    let g = guard_false (ltb 30 d) (Some (made_place a b c d, rest)) x e in
    let small : d ≤ 30 = ltb-false _ _ g.0 in
    let two : IsBytes (b ∷ c ∷ []) = IsBytes-pair b c (fits 1) (fits 2) in
    let back : to_be_bytes w16 (from_be_bytes w16 (b ∷ c ∷ [])) ≡ b ∷ c ∷ [] = wide16.back (b ∷ c ∷ []) refl two in
    let parts : a ∷ b ∷ c ∷ d ∷ rest ≡ place_bytes (made_place a b c d) ++ rest = ap (λ (m : List ℕ). (a ∷ m ++ (d ∷ [])) ++ rest) (sym back) in
    let rest_fits : IsBytes rest = λ i. fits (suc (suc (suc (suc i)))) in
    let page : from_be_bytes w16 (b ∷ c ∷ []) < 2 ^ 16 = wide16.below (b ∷ c ∷ []) two in
    let taken : Takes (a ∷ b ∷ c ∷ d ∷ rest) (place_bytes (made_place a b c d)) rest × IsPlace (made_place a b c d) = (record { parts = parts; rest_fits = rest_fits }, record { space = fits 0; page = page; slot = small }) in
    subst (λ (y : Rid × List ℕ). Takes (a ∷ b ∷ c ∷ d ∷ rest) (place_bytes y.0) y.1 × IsPlace y.0) (some_is (made_place a b c d, rest) x g.1) taken

pub place_again : (rid : Rid) (rest : List ℕ) → IsPlace rid → place_at (place_bytes rid ++ rest) ≡ Some (rid, rest)
unfolding place_at
place_again rid rest is =
    let low : ltb 30 rid.slot ≡ false = le-ltb _ _ is.slot in
    rw low (ap (λ (n : ℕ). let r : Rid = record { space = rid.space; page = n; slot = rid.slot } in Some (r, rest)) (wide16.again rid.page is.page))

-- ---- values

row_takes : (n : ℕ) (bytes : List ℕ) (x : Option Row × List ℕ) → IsBytes bytes → n ≤ 63 → row_at n bytes ≡ Some x → Takes ((n + 1) ∷ bytes) (value_bytes x.0) x.1 × IsValue x.0
row_takes n bytes x fits small e =
    let h = guard_false (ltb (length bytes) n) (Some (Some (take n bytes), drop n bytes)) x e in
    let long : n ≤ length bytes = ltb-false _ _ h.0 in
    let len : length (take n bytes) ≡ n = omega (arith, length-take n bytes) in
    let parts : (n + 1) ∷ bytes ≡ value_bytes (Some (take n bytes)) ++ drop n bytes = ap (λ (k : ℕ). (k + 1) ∷ bytes) (sym len) ∙ ap (λ (l : List ℕ). (length (take n bytes) + 1) ∷ l) (sym (take-append-drop n bytes)) in
    let taken : Takes ((n + 1) ∷ bytes) (value_bytes (Some (take n bytes))) (drop n bytes) × (length (take n bytes) ≤ 63) = (record { parts = parts; rest_fits = IsBytes-drop n bytes fits }, omega arith) in
    subst (λ (y : Option Row × List ℕ). Takes ((n + 1) ∷ bytes) (value_bytes y.0) y.1 × IsValue y.0) (some_is (Some (take n bytes), drop n bytes) x h.1) taken

pub value_takes : (bytes : List ℕ) (x : Option Row × List ℕ) → IsBytes bytes → value_at bytes ≡ Some x → Takes bytes (value_bytes x.0) x.1 × IsValue x.0
unfolding value_at
value_takes [] x fits e = absurd cc
value_takes (n ∷ bytes) x fits e =
    let rest = IsBytes-rest n bytes fits in
    let nothing : Option (Option Row × List ℕ) = Some (None, bytes) in
    let row : Option (Option Row × List ℕ) = cond (ltb 64 n) None (row_at (n - 1) bytes) in
    elim (chosen (eqb n 0) nothing row (Some x) e) [
      | inl g ↦
          let taken : Takes (0 ∷ bytes) (value_bytes None) bytes × IsValue None = (record { parts = refl; rest_fits = rest }, tt) in
          rw (eqb-true n 0 g.0) (subst (λ (y : Option Row × List ℕ). Takes (0 ∷ bytes) (value_bytes y.0) y.1 × IsValue y.0) (some_is (None, bytes) x g.1) taken)
      | inr g ↦
          let h = guard_false (ltb 64 n) (row_at (n - 1) bytes) x g.1 in
          let small : n ≤ 64 = ltb-false _ _ h.0 in
          let some : n ≢ 0 = eqb-false n 0 g.0 in
          let back : n - 1 + 1 ≡ n = omega arith in
          subst (λ (k : ℕ). Takes (k ∷ bytes) (value_bytes x.0) x.1 × IsValue x.0) back (row_takes (n - 1) bytes x rest (omega arith) h.1)
    ]

pub value_again : (o : Option Row) (rest : List ℕ) → IsValue o → value_at (value_bytes o ++ rest) ≡ Some (o, rest)
unfolding value_at
value_again None rest h = refl
value_again (Some row) rest h =
    let some : eqb (length row + 1) 0 ≡ false = grind arith in
    let small : ltb 64 (length row + 1) ≡ false = le-ltb _ _ (omega arith) in
    let back : length row + 1 - 1 ≡ length row = omega arith in
    let long : ltb (length (row ++ rest)) (length row) ≡ false = le-ltb _ _ (omega (arith, length-append row rest)) in
    rw (some, small, back, long, take_at row rest (length row) refl, drop_at row rest (length row) refl) refl
