-- The full slots of a page, slot by slot, and their bits.
use Rattle.std.specs.Int.{bit_at}
use Rattle.std.specs.Int.Bits.{bit_or, or_shifted_r}
use Rattle.std.specs.Prelude.{Bool, List, [], cond, false, if◌then◌else◌, suc, true, zero, ℕ, ◌%◌, ◌*◌, ◌++◌, ◌+◌, ◌-◌, ◌<◌, ◌==◌, ◌^◌, ◌∷◌, ◌≡◌, ◌≤◌}
use Rattle.std.proofs.Common.{ap, arith, inl, inr, refl, subst, sym, ◌∙◌}
use Rattle.std.proofs.lemmas.Bool.Decides.{eqb_tells}
use Rattle.std.proofs.lemmas.List.FromFn.{filter_of_map_range_with_len_more}
use Rattle.std.proofs.lemmas.List.Sums.{fold-append, sum_by-append, sum_by-cons}
use Rattle.std.proofs.lemmas.Nat.Bits.{bit_at_cat_high, bit_at_cat_low}
use Rattle.std.proofs.Math.Nat.{two-pow-succ}
use Rattle.std.proofs.Math.Pow.{pow_mono}
use Rattle.ol_values.specs.declared.record.Rid.{Rid}
use Rattle.ol_values.specs.Pages.{rid_of}
use Rattle.ol_txn.specs.Seats.{Seat, shared_more}
use Rattle.ol_read_turns.specs.PageSlots.{bits_of, full_among, is_set, shared_if}
use Rattle.ol_read_turns.specs.Sharing.{shared_all}

-- ---- one slot more

pub full_none : (full : Rid → Bool) (space page : ℕ) → full_among full space page 0 ≡ []
unfolding full_among
full_none full space page = refl

full_more : (full : Rid → Bool) (space page n : ℕ) → full_among full space page (n + 1) ≡ full_among full space page n ++ cond (full (rid_of space page n)) (rid_of space page n ∷ []) []
unfolding full_among
full_more full space page n = filter_of_map_range_with_len_more full (rid_of space page) 0 n n (omega arith)

-- two tests that agree at these slots
pub full_same : (p q : Rid → Bool) (space page n : ℕ) → ((slot : ℕ) → slot < n → p (rid_of space page slot) ≡ q (rid_of space page slot)) → full_among p space page n ≡ full_among q space page n
full_same p q space page zero same = full_none p space page ∙ sym (full_none q space page)
full_same p q space page (suc n) same =
    let next : suc n ≡ n + 1 = omega arith in
    ap (λ c. full_among p space page c) next
    ∙ full_more p space page n
    ∙ ap (λ (l : List Rid). l ++ cond (p (rid_of space page n)) (rid_of space page n ∷ []) []) (full_same p q space page n (λ slot there. same slot (omega (arith, there))))
    ∙ ap (λ b. full_among q space page n ++ cond b (rid_of space page n ∷ []) []) (same n (omega arith))
    ∙ sym (full_more q space page n)
    ∙ ap (λ c. full_among q space page c) (sym next)

-- ---- as bits

one_bit : (b : Bool) (rid : Rid) → bits_of (cond b (rid ∷ []) []) ≡ (if b then 2 ^ rid.slot else 0)
one_bit true rid = sum_by-cons (λ (r : Rid). 2 ^ r.slot) rid [] ∙ omega arith
one_bit false rid = refl

pub bits_more : (full : Rid → Bool) (space page n : ℕ) → bits_of (full_among full space page (n + 1)) ≡ bits_of (full_among full space page n) + (if full (rid_of space page n) then 2 ^ n else 0)
bits_more full space page n =
    ap bits_of (full_more full space page n)
    ∙ sum_by-append (λ (r : Rid). 2 ^ r.slot) (full_among full space page n) (cond (full (rid_of space page n)) (rid_of space page n ∷ []) [])
    ∙ ap (λ k. bits_of (full_among full space page n) + k) (one_bit (full (rid_of space page n)) (rid_of space page n))

-- by the bits so far, and whether the next slot is full
pub bits_next : (full : Rid → Bool) (space page n bits : ℕ) (b : Bool) → bits ≡ bits_of (full_among full space page n) → b ≡ full (rid_of space page n) → bits + (if b then 2 ^ n else 0) ≡ bits_of (full_among full space page (n + 1))
bits_next full space page n bits b is next =
    ap (λ k. k + (if b then 2 ^ n else 0)) is ∙ ap (λ c. bits_of (full_among full space page n) + (if c then 2 ^ n else 0)) next ∙ sym (bits_more full space page n)

-- a bit more in front of others
pub one_more : (n bits : ℕ) (b : Bool) → bits < 2 ^ n → bits + (if b then 2 ^ n else 0) < 2 ^ (n + 1)
one_more n bits true small = omega (arith, small, ap (λ k. 2 ^ k) (let e : n + 1 ≡ suc n = omega arith in e), two-pow-succ n)
one_more n bits false small = omega (arith, small, ap (λ k. 2 ^ k) (let e : n + 1 ≡ suc n = omega arith in e), two-pow-succ n)

pub bits_small : (full : Rid → Bool) (space page n : ℕ) → bits_of (full_among full space page n) < 2 ^ n
bits_small full space page zero = omega (arith, ap bits_of (full_none full space page))
bits_small full space page (suc n) =
    let next : suc n ≡ n + 1 = omega arith in
    subst (λ c. bits_of (full_among full space page c) < 2 ^ c) (sym next)
    (subst (λ k. k < 2 ^ (n + 1)) (sym (bits_more full space page n)) (one_more n (bits_of (full_among full space page n)) (full (rid_of space page n)) (bits_small full space page n)))

-- the bit is in front of all others
one_set : (n bits : ℕ) (b : Bool) → bits < 2 ^ n → bit_at (bits + (if b then 2 ^ n else 0)) n ≡ (if b then 1 else 0)
one_set n bits true small =
    let e : bits + 2 ^ n ≡ 1 * 2 ^ n + bits = omega arith in
    ap (λ k. bit_at k n) e ∙ bit_at_cat_high 1 n bits n small (omega arith) ∙ ap (λ k. bit_at 1 k) (let z : n - n ≡ 0 = omega arith in z)
one_set n bits false small =
    let e : bits + 0 ≡ 0 * 2 ^ n + bits = omega arith in
    ap (λ k. bit_at k n) e ∙ bit_at_cat_high 0 n bits n small (omega arith) ∙ ap (λ k. bit_at 0 k) (let z : n - n ≡ 0 = omega arith in z)

others_kept : (n bits i : ℕ) (b : Bool) → i < n → bit_at (bits + (if b then 2 ^ n else 0)) i ≡ bit_at bits i
others_kept n bits i true there = ap (λ k. bit_at k i) (let e : bits + 2 ^ n ≡ 1 * 2 ^ n + bits = omega arith in e) ∙ bit_at_cat_low 1 n bits i there
others_kept n bits i false there = ap (λ k. bit_at k i) (let e : bits + 0 ≡ bits = omega arith in e)

bit_is : (b : Bool) → ((if b then 1 else 0) == 1) ≡ b
bit_is true = refl
bit_is false = refl

-- the bits that are set are those of the full slots
pub bits_set : (full : Rid → Bool) (space page n slot : ℕ) → slot < n → is_set (bits_of (full_among full space page n)) (rid_of space page slot) ≡ full (rid_of space page slot)
bits_set full space page zero slot there = absurd (omega (arith, there))
bits_set full space page (suc n) slot there =
    let next : suc n ≡ n + 1 = omega arith in
    let b = full (rid_of space page n) in
    let bits = bits_of (full_among full space page n) in
    let whole : bits_of (full_among full space page (suc n)) ≡ bits + (if b then 2 ^ n else 0) = ap (λ c. bits_of (full_among full space page c)) next ∙ bits_more full space page n in
    ap (λ k. bit_at k slot == 1) whole
    ∙ elim (eqb_tells slot n) [
      | inl here ↦ subst (λ s. (bit_at (bits + (if b then 2 ^ n else 0)) s == 1) ≡ full (rid_of space page s)) (sym here.1) (ap (λ k. k == 1) (one_set n bits b (bits_small full space page n)) ∙ bit_is b)
      | inr other ↦ (let low : slot < n = omega (arith, there, other.1) in ap (λ k. k == 1) (others_kept n bits slot b low) ∙ bits_set full space page n slot low)
    ]

-- ---- as slots that are shared

shared_one : (b : Bool) (rid : Rid) (s : Seat) → shared_all (cond b (rid ∷ []) []) s ≡ shared_if b rid s
shared_one true rid s = refl
shared_one false rid s = refl

pub shared_none : (full : Rid → Bool) (space page : ℕ) (s : Seat) → shared_all (full_among full space page 0) s ≡ s
shared_none full space page s = ap (λ (l : List Rid). shared_all l s) (full_none full space page)

pub shared_one_more : (full : Rid → Bool) (space page n : ℕ) (s : Seat) → shared_all (full_among full space page (n + 1)) s ≡ shared_if (full (rid_of space page n)) (rid_of space page n) (shared_all (full_among full space page n) s)
shared_one_more full space page n s =
    let rid = rid_of space page n in
    ap (λ (l : List Rid). shared_all l s) (full_more full space page n)
    ∙ fold-append (λ (t : Seat) (r : Rid). shared_more r t) s (full_among full space page n) (cond (full rid) (rid ∷ []) [])
    ∙ shared_one (full rid) rid (shared_all (full_among full space page n) s)

-- ---- as the code sets them

pub or_bit : (bits slot : ℕ) → bits < 2 ^ slot → slot < 31 → bit_or bits (1 * 2 ^ slot % 4294967296) ≡ bits + 2 ^ slot
or_bit bits slot below small =
    let most : 2 ^ slot ≤ 2 ^ 31 = pow_mono {i = slot} {j = 31} (omega (arith, small)) in
    ap (λ k. bit_or bits k) (let e : 1 * 2 ^ slot % 4294967296 ≡ 1 * 2 ^ slot = omega (arith, most) in e) ∙ or_shifted_r 1 slot bits below ∙ omega arith
