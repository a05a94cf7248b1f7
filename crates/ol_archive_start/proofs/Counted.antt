-- Counts over the pages of a space and over spaces, one more at a time.
use Rattle.std.specs.List.{range_with_len}
use Rattle.std.specs.Prelude.{Bool, List, [], cond, false, filter, if◌then◌else◌, length, nat_lt, suc, sum_by, true, zero, ℕ, ◌++◌, ◌+◌, ◌∷◌, ◌≡◌}
use Rattle.std.proofs.Common.{ap, arith, length-append, refl, sym, ◌∙◌}
use Rattle.std.proofs.lemmas.List.Elements.{filter-append}
use Rattle.std.proofs.lemmas.List.Sums.{sum_by_push}
use Rattle.ol_running.proofs.CountLaws.{one_of}
use Rattle.ol_store.specs.Pages.{Pages}
use Rattle.ol_archive_start.specs.Starting.{changed_upto}

-- ---- ranges

last : (a n j : ℕ) → a + n ≡ j → range_with_len a (suc n) ≡ range_with_len a n ++ j ∷ []
last a zero j e = let same : a ≡ j = omega (arith, e) in ap (λ k. k ∷ []) same
last a (suc n) j e = ap (λ l. a ∷ l) (last (a + 1) n j (omega (arith, e)))

range_more : (n : ℕ) → range_with_len 0 (n + 1) ≡ range_with_len 0 n ++ n ∷ []
range_more n = let on : n + 1 ≡ suc n = omega arith in ap (range_with_len 0) on ∙ last 0 n n (omega arith)

-- ---- one more

single : (b : Bool) (n : ℕ) → length {A = ℕ} (cond b (n ∷ []) []) ≡ one_of b
single true n = refl
single false n = refl

more_counted : (t : ℕ → Bool) (n : ℕ) → length (filter t (range_with_len 0 (n + 1))) ≡ length (filter t (range_with_len 0 n)) + one_of (t n)
more_counted t n =
    ap (λ l. length (filter t l)) (range_more n)
    ∙ ap (λ (l : List ℕ). length l) (filter-append t (range_with_len 0 n) (n ∷ []))
    ∙ length-append (filter t (range_with_len 0 n)) (cond (t n) (n ∷ []) [])
    ∙ ap (λ k. length (filter t (range_with_len 0 n)) + k) (single (t n) n)

abbrev counted_if : Bool → ℕ → ℕ
counted_if b count = if b then count + 1 else count

if_more : (b : Bool) (count : ℕ) → counted_if b count ≡ count + one_of b
if_more true count = omega arith
if_more false count = omega arith

-- a page more
pub changed_more : (v : Pages) (space base page count stamp : ℕ) → count ≡ changed_upto v space base page → stamp ≡ (v.now space page).stamp → counted_if (nat_lt base stamp) count ≡ changed_upto v space base (page + 1)
changed_more v space base page count stamp is same =
    ap (λ (n : ℕ). counted_if (nat_lt base n) count) same
    ∙ if_more (nat_lt base (v.now space page).stamp) count
    ∙ ap (λ (n : ℕ). n + one_of (nat_lt base (v.now space page).stamp)) is
    ∙ sym (more_counted (λ p. nat_lt base (v.now space p).stamp) page)

-- a space more
pub sum_more : (f : ℕ → ℕ) (n : ℕ) → sum_by f (range_with_len 0 (n + 1)) ≡ sum_by f (range_with_len 0 n) + f n
sum_more f n = ap (sum_by f) (range_more n) ∙ sum_by_push f (range_with_len 0 n) n
