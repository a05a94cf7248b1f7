-- How many records of a page touch data pages, and the records that are left of a page.
use Rattle.std.proofs.Common.{◌≡◌, ◌≢◌, ℕ, zero, suc, ◌+◌, ◌-◌, ◌*◌, ◌≤◌, cond, List, [], ◌∷◌, ◌++◌, length, take, drop, get_or, Option, Some, None, refl, sym, ap, ◌∙◌, arith}
use Rattle.std.specs.Prelude.{count_by, slice_range}
use Rattle.std.specs.Int.{w16, w64, from_be_bytes, to_be_bytes}
use Rattle.std.proofs.lemmas.List.{get_or-drop, get_or-take, length-append, length-drop, take_all}
use Rattle.std.proofs.lemmas.List.Sums.{sum_by-cons}
use Rattle.std.proofs.lemmas.List.Concat.{flat_map-cons}
use Rattle.ol_values.specs.declared.record.Record.{Record}
use Rattle.ol_values.specs.declared.record.Record.TheVariants.{Begin, Change, Commit, Rolled, Undo}
use Rattle.ol_values.specs.declared.row.Row.{Row}
use Rattle.ol_values.specs.LogPages.{LogPage}
use Rattle.ol_record.specs.LogPages.{IsFilling, page_in, touches_page}
use Rattle.ol_values.specs.Spelling.{IsRecord, IsValue, KeepsRules, place_bytes, record_bytes, records_bytes, value_bytes}
use Rattle.ol_record.specs.Reading.{record_at, records_in}
use Rattle.ol_record.proofs.Filled.{pair_at}

-- ---- what a record costs

some_byte : (value : Option Row) → 1 ≤ length (value_bytes value)
some_byte None = omega arith
some_byte (Some row) = omega arith

weight : (r : Record) → 14 * cond (touches_page r) 1 0 ≤ length (record_bytes r)
unfolding record_bytes
weight (Begin txn) = omega arith
weight (Change txn rid before after) =
    omega (arith, some_byte before, length-append ((2 ∷ to_be_bytes w64 txn) ++ place_bytes rid ++ value_bytes before) (value_bytes after), length-append ((2 ∷ to_be_bytes w64 txn) ++ place_bytes rid) (value_bytes before))
weight (Undo txn rid value) = omega (arith, some_byte value, length-append ((3 ∷ to_be_bytes w64 txn) ++ place_bytes rid) (value_bytes value))
weight (Commit txn) = omega arith
weight (Rolled txn) = omega arith

weights : (rs : List Record) → 14 * count_by touches_page rs ≤ length (records_bytes rs)
weights [] = omega arith
weights (r ∷ rs) =
    let step : count_by touches_page (r ∷ rs) ≡ cond (touches_page r) 1 0 + count_by touches_page rs = sum_by-cons (λ x. cond (touches_page x) 1 0) r rs in
    omega (arith, weights rs, weight r, ap length (flat_map-cons record_bytes r rs), length-append (record_bytes r) (records_bytes rs))

pub few_touch : (p : LogPage) → IsFilling p → count_by touches_page p.records ≤ 143
few_touch p is = omega (arith, weights p.records, is.room)

-- ---- the longest record

value_most : (value : Option Row) → IsValue value → length (value_bytes value) ≤ 64
value_most None is = omega arith
value_most (Some row) is = omega (arith, is)

pub bytes_most : (r : Record) → IsRecord r → length (record_bytes r) ≤ 141
unfolding record_bytes
bytes_most (Begin txn) is = omega arith
bytes_most (Change txn rid before after) is =
    omega (arith, value_most before is.2, value_most after is.3, length-append ((2 ∷ to_be_bytes w64 txn) ++ place_bytes rid ++ value_bytes before) (value_bytes after), length-append ((2 ∷ to_be_bytes w64 txn) ++ place_bytes rid) (value_bytes before))
bytes_most (Undo txn rid value) is = omega (arith, value_most value is.2, length-append ((3 ∷ to_be_bytes w64 txn) ++ place_bytes rid) (value_bytes value))
bytes_most (Commit txn) is = omega arith
bytes_most (Rolled txn) is = omega arith

pub rules_kept : (r : Record) → IsRecord r → KeepsRules r
rules_kept (Begin txn) is = tt
rules_kept (Change txn rid before after) is = (is.1.slot, is.4)
rules_kept (Undo txn rid value) is = is.1.slot
rules_kept (Commit txn) is = tt
rules_kept (Rolled txn) is = tt

-- ---- the records that are left

pub none_left : (left : ℕ) (rest : List ℕ) → left ≡ 0 → records_in left rest ≡ []
unfolding records_in
none_left zero rest e = refl
none_left (suc n) rest e = absurd cc

pub none_there : (left : ℕ) (rest : List ℕ) → record_at rest ≡ None → records_in left rest ≡ []
unfolding records_in
none_there zero rest e = refl
none_there (suc n) rest e = rw e refl

pub one_there : (left : ℕ) (rest : List ℕ) (x : Record × List ℕ) → left ≢ 0 → record_at rest ≡ Some x → records_in left rest ≡ x.0 ∷ records_in (left - 1) x.1
unfolding records_in
one_there zero rest x some e = absurd (some refl)
one_there (suc n) rest x some e =
    let back : suc n - 1 ≡ n = omega arith in
    rw (e, back) refl

same_pair : (a b : List ℕ) → get_or a 0 0 ≡ get_or b 0 0 → get_or a 1 0 ≡ get_or b 1 0 → from_be_bytes w16 a ≡ from_be_bytes w16 b
same_pair a b zeroth first = rw (zeroth, first) refl

-- all records of a page, as a reader begins with them
pub all_left : (bytes : List ℕ) (left : ℕ) → length bytes ≡ 2048 → left ≡ pair_at bytes 32 → records_in left (take 2012 (drop 36 bytes)) ≡ (page_in bytes).records
unfolding page_in
all_left bytes left long e =
    let two = slice_range bytes 32 34 in
    let zeroth : get_or two 0 0 ≡ get_or bytes 32 0 = get_or-take 2 (drop 32 bytes) 0 0 (omega arith) ∙ get_or-drop 32 bytes 0 0 in
    let first : get_or two 1 0 ≡ get_or bytes 33 0 = get_or-take 2 (drop 32 bytes) 1 0 (omega arith) ∙ get_or-drop 32 bytes 1 0 in
    let count : left ≡ from_be_bytes w16 two = e ∙ sym (same_pair two (get_or bytes 32 0 ∷ get_or bytes 33 0 ∷ []) zeroth first) in
    let whole : take 2012 (drop 36 bytes) ≡ drop 36 bytes = take_all 2012 (drop 36 bytes) (omega (arith, length-drop 36 bytes)) in
    rw (count, whole) refl
