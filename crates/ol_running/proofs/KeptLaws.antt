-- A page whose stamp does not lie above a position is as it was there.
use Rattle.std.specs.List.{list_any}
use Rattle.std.specs.Prelude.{Bool, List, None, Option, [], drop, false, if◌then◌else◌, length, refl, slice_index_or, take, true, ℕ, ◌++◌, ◌+◌, ◌-◌, ◌<◌, ◌∷◌, ◌≡◌, ◌≤◌}
use Rattle.std.proofs.Common.{ap, arith, inl, inr, sym, ◌∙◌}
use Rattle.std.proofs.lemmas.Bool.{cases_Bool, or_parts}
use Rattle.std.proofs.lemmas.List.{length-take, take-append-drop}
use Rattle.std.proofs.lemmas.List.Sums.{fold-append}
use Rattle.ol_values.specs.declared.record.Record.{Record}
use Rattle.ol_values.specs.declared.row.Row.{Row}
use Rattle.ol_values.specs.Pages.{Page, rid_of}
use Rattle.ol_rules.specs.Journal.{page_from, row_after, row_from, stamp_after, stamp_from, touches}
use Rattle.ol_rules.specs.Start.{start_page}
use Rattle.ol_laws.proofs.JournalLaws.{map_same, row_kept, same_pages}
use Rattle.ol_laws.proofs.PageLaws.{stamp_from-append}
use Rattle.ol_model.specs.Machine.{Machine, last_of, page_upto, stamp_in}
use Rattle.ol_running.proofs.StartLaws.{all_upto}

-- whether a record among these changes the page
abbrev some_touch : List Record → ℕ → ℕ → Bool
some_touch records space page = list_any (touches space page) records

stamp_kept : (records : List Record) (stamp first space page : ℕ) → some_touch records space page ≡ false → stamp_from stamp first records space page ≡ stamp
stamp_kept [] stamp first space page none = refl
stamp_kept (r ∷ records) stamp first space page none =
    let q = or_parts (touches space page r) (list_any (touches space page) records) none in
    stamp_kept records (stamp_after space page stamp (first, r)) (first + 1) space page q.1 ∙ (rw (q.0))

stamp_rises : (records : List Record) (stamp first least space page : ℕ) → least ≤ stamp → least ≤ first → least ≤ stamp_from stamp first records space page
stamp_rises [] stamp first least space page low here = low
stamp_rises (r ∷ records) stamp first least space page low here =
    stamp_rises records (stamp_after space page stamp (first, r)) (first + 1) least space page
    (elim (touches space page r) as (λ b. least ≤ (if b then first else stamp)) [ true ↦ here | false ↦ low ]) (omega (arith, here))

stamp_touched : (records : List Record) (stamp first space page : ℕ) → some_touch records space page ≡ true → first ≤ stamp_from stamp first records space page
stamp_touched [] stamp first space page some = absurd (let e : false ≡ true = some in cc)
stamp_touched (r ∷ records) stamp first space page some =
    elim (cases_Bool (touches space page r)) [
      | inl e ↦ (let f : stamp_after space page stamp (first, r) ≡ first = rw (e) refl in stamp_rises records (stamp_after space page stamp (first, r)) (first + 1) first space page (omega (arith, f)) (omega arith))
      | inr e ↦ (let q = stamp_touched records (stamp_after space page stamp (first, r)) (first + 1) space page (rw (e) at some) in omega (arith, q))
    ]

rows_kept : (records : List Record) (space page slot : ℕ) (held : Option Row) → some_touch records space page ≡ false → row_from held records (rid_of space page slot) ≡ held
rows_kept [] space page slot held none = refl
rows_kept (r ∷ records) space page slot held none =
    let q = or_parts (touches space page r) (list_any (touches space page) records) none in
    rows_kept records space page slot (row_after (rid_of space page slot) held r) q.1 ∙ row_kept r space page slot held q.0

untouched : (base : Page) (first : ℕ) (xs ys : List Record) (space page : ℕ) → some_touch ys space page ≡ false → page_from base first (xs ++ ys) space page ≡ page_from base first xs space page
unfolding page_from
untouched base first xs ys space page none =
    same_pages _ _ _ _
    (stamp_from-append base.stamp first xs ys space page ∙ stamp_kept ys (stamp_from base.stamp first xs space page) (first + length xs) space page none)
    (map_same (λ k. row_from (slice_index_or base.slots k None) (xs ++ ys) (rid_of space page k)) (λ k. row_from (slice_index_or base.slots k None) xs (rid_of space page k)) 0 31
    (λ k le lt. fold-append (row_after (rid_of space page k)) (slice_index_or base.slots k None) xs ys ∙ rows_kept ys space page k (row_from (slice_index_or base.slots k None) xs (rid_of space page k)) none))

early : (base : Page) (first : ℕ) (xs ys : List Record) (space page : ℕ) → stamp_from base.stamp first (xs ++ ys) space page < first + length xs → page_from base first (xs ++ ys) space page ≡ page_from base first xs space page
early base first xs ys space page low =
    elim (cases_Bool (some_touch ys space page)) [
      | inl e ↦ absurd (let high = stamp_touched ys (stamp_from base.stamp first xs space page) (first + length xs) space page e in omega (arith, high, low, stamp_from-append base.stamp first xs ys space page))
      | inr e ↦ untouched base first xs ys space page e
    ]

-- a page whose stamp now does not lie above the cut is as it was at the cut
pub page_at_cut : (m : Machine) (cut space page : ℕ) → m.work.start.last ≤ cut → cut ≤ last_of m → stamp_in m space page ≤ cut → page_upto m (last_of m) space page ≡ page_upto m cut space page
page_at_cut m cut space page from to low =
    let first : List Record = take (cut - m.work.start.last) m.work.records in
    let rest : List Record = drop (cut - m.work.start.last) m.work.records in
    let whole : first ++ rest ≡ m.work.records = take-append-drop (cut - m.work.start.last) m.work.records in
    let base : Page = start_page m.work.start space page in
    let long : length first ≡ cut - m.work.start.last = length_first in
    let stamp : stamp_from base.stamp (m.work.start.last + 1) (first ++ rest) space page ≡ stamp_in m space page = ap (λ (l : List Record). stamp_from base.stamp (m.work.start.last + 1) l space page) whole in
    ap (λ (l : List Record). page_from base (m.work.start.last + 1) l space page) (all_upto m ∙ sym whole)
    ∙ early base (m.work.start.last + 1) first rest space page (omega (arith, low, stamp, long, from))
  where
    length_first : length (take (cut - m.work.start.last) m.work.records) ≡ cut - m.work.start.last
    length_first = omega (arith, length-take (cut - m.work.start.last) m.work.records, to)

-- the stamp of a page as at the last position is its stamp now
pub stamp_of_page : (m : Machine) (space page : ℕ) → (page_upto m (last_of m) space page).stamp ≡ stamp_in m space page
unfolding page_from
stamp_of_page m space page = ap (λ (l : List Record). stamp_from (start_page m.work.start space page).stamp (m.work.start.last + 1) l space page) (all_upto m)
