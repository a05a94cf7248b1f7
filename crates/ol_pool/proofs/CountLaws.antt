-- How many marks are set.
use Rattle.std.specs.List.{range_with_len}
use Rattle.std.specs.Prelude.{Bool, List, [], false, length, map, replicate, slice_index_or, slice_set, suc, sum_by, true, zero, ℕ, ◌+◌, ◌<◌, ◌∷◌, ◌≡◌, ◌≤◌, refl}
use Rattle.std.proofs.Common.{ap, arith, length-set}
use Rattle.std.proofs.lemmas.List.Folds.{sum_by-replicate}
use Rattle.std.proofs.lemmas.List.Sums.{sum_by-cons, sum_by-le-sum_by, sum_by-set}
use Rattle.ol_pool.specs.Frames.{item_at, with_item}
use Rattle.ol_pool.specs.Stored.{bit, count_marks, count_pages}
use Rattle.ol_pool.proofs.ListLaws.{bit_few}

-- one mark in place of another
pub count_set : (marks : List (List Bool)) (space page : ℕ) (mark : Bool) → space < length marks → page < length (slice_index_or marks space []) → count_marks (with_item marks space page mark) + bit (item_at false marks space page) ≡ count_marks marks + bit mark
count_set marks space page mark there within =
    let row = slice_index_or marks space [] in
    omega (arith, sum_by-set (λ (r : List Bool). sum_by bit r) marks space (slice_set row page mark) [] there, sum_by-set bit row page mark false within)

pub pages_set : (marks : List (List Bool)) (space page : ℕ) (mark : Bool) → space < length marks → count_pages (with_item marks space page mark) ≡ count_pages marks
pages_set marks space page mark there =
    let row = slice_index_or marks space [] in
    omega (arith, sum_by-set (λ (r : List Bool). length r) marks space (slice_set row page mark) [] there, length-set row page mark)

bits_few : (row : List Bool) → sum_by bit row ≤ length row
bits_few [] = omega arith
bits_few (mark ∷ row) = let more = bits_few row in omega (arith, more, sum_by-cons bit mark row, bit_few mark)

marks_few : (marks : List (List Bool)) → count_marks marks ≤ count_pages marks
marks_few marks = sum_by-le-sum_by (λ (r : List Bool). sum_by bit r) (λ (r : List Bool). length r) marks bits_few

-- where a page has no mark, there are fewer marks than pages
pub marks_fewer : (marks : List (List Bool)) (space page : ℕ) → space < length marks → page < length (slice_index_or marks space []) → item_at false marks space page ≡ false → count_marks marks < count_pages marks
marks_fewer marks space page there within unset =
    omega (arith, count_set marks space page true there within, pages_set marks space page true there, marks_few (with_item marks space page true), ap bit unset)

pub none_set : (count : ℕ → ℕ) (first n : ℕ) → count_marks (map (λ space. replicate (count space) false) (range_with_len first n)) ≡ 0
none_set count first zero = refl
none_set count first (suc n) =
    let row = replicate (count first) false in
    let rest = map (λ space. replicate (count space) false) (range_with_len (first + 1) n) in
    let more = none_set count (first + 1) n in
    omega (arith, more, sum_by-cons (λ (r : List Bool). sum_by bit r) row rest, sum_by-replicate bit (count first) false)
