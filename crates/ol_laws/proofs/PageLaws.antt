-- Pages after a part of the journal: folded on from an earlier page, and the same where no record changes them.
use Rattle.std.specs.List.{enumerate_from, list_any}
use Rattle.std.specs.Prelude.{Bool, List, None, Option, [], false, fold, if◌then◌else◌, length, refl, slice_index_or, true, ℕ, ◌++◌, ◌+◌, ◌<◌, ◌∷◌, ◌≡◌, ◌≤◌}
use Rattle.std.proofs.Common.{ap, arith, inl, inr, sym, ◌∙◌}
use Rattle.std.proofs.lemmas.Bool.{cases_Bool, or_parts}
use Rattle.std.proofs.lemmas.List.FromFn.{get_or-map-range_with_len}
use Rattle.std.proofs.lemmas.List.Sums.{fold-append}
use Rattle.ol_values.specs.declared.record.Record.{Record}
use Rattle.ol_values.specs.declared.row.Row.{Row}
use Rattle.ol_values.specs.Pages.{Page, blank}
use Rattle.ol_values.specs.Pages.{rid_of}
use Rattle.ol_rules.specs.Journal.{page_at, page_from, row_after, row_from, stamp_after, stamp_at, stamp_from, touches}
use Rattle.ol_laws.proofs.JournalLaws.{enumerate_from-append, map_same, row_kept, same_pages}

-- ---- folded on

pub stamp_from-append : (stamp first : ℕ) (xs ys : List Record) (space page : ℕ) → stamp_from stamp first (xs ++ ys) space page ≡ stamp_from (stamp_from stamp first xs space page) (first + length xs) ys space page
stamp_from-append stamp first xs ys space page =
    ap (λ (l : List (ℕ × Record)). fold (stamp_after space page) stamp l) (enumerate_from-append first xs ys)
    ∙ fold-append (stamp_after space page) stamp (enumerate_from first xs) (enumerate_from (first + length xs) ys)

-- what slot k of a page holds after these records
abbrev slot_from : Page → List Record → ℕ → ℕ → ℕ → Option Row
slot_from base records space page k = row_from (slice_index_or base.slots k None) records (rid_of space page k)

slot_from-append : (base : Page) (first : ℕ) (xs ys : List Record) (space page k : ℕ) → k < 31
    → slot_from base (xs ++ ys) space page k ≡ slot_from (page_from base first xs space page) ys space page k
unfolding page_from
slot_from-append base first xs ys space page k lt =
    fold-append (row_after (rid_of space page k)) (slice_index_or base.slots k None) xs ys
    ∙ ap (λ (held : Option Row). row_from held ys (rid_of space page k)) (sym (get_or-map-range_with_len (slot_from base xs space page) 0 31 k k None (omega arith) (omega arith)))

pub page_from-append : (base : Page) (first : ℕ) (xs ys : List Record) (space page : ℕ) → page_from base first (xs ++ ys) space page ≡ page_from (page_from base first xs space page) (first + length xs) ys space page
unfolding page_from
page_from-append base first xs ys space page =
    same_pages _ _ _ _
    (stamp_from-append base.stamp first xs ys space page)
    (map_same (slot_from base (xs ++ ys) space page) (slot_from (page_from base first xs space page) ys space page) 0 31 (λ k le lt. slot_from-append base first xs ys space page k (omega arith)))

-- ---- kept

-- whether a record among these changes the page
abbrev some_touch : List Record → ℕ → ℕ → Bool
some_touch records space page = list_any (touches space page) records

stamp_kept : (records : List Record) (stamp first space page : ℕ) → some_touch records space page ≡ false → stamp_from stamp first records space page ≡ stamp
stamp_kept [] stamp first space page h = refl
stamp_kept (r ∷ records) stamp first space page h =
    let q = or_parts (touches space page r) (list_any (touches space page) records) h in
    stamp_kept records (stamp_after space page stamp (first, r)) (first + 1) space page q.1 ∙ (rw (q.0))

stamp_rises : (records : List Record) (stamp first least space page : ℕ) → least ≤ stamp → least ≤ first → least ≤ stamp_from stamp first records space page
stamp_rises [] stamp first least space page h k = h
stamp_rises (r ∷ records) stamp first least space page h k =
    stamp_rises records (stamp_after space page stamp (first, r)) (first + 1) least space page
    (elim (touches space page r) as (λ b. least ≤ (if b then first else stamp)) [ true ↦ k | false ↦ h ]) (omega arith)

-- a page that is touched has its stamp among the positions of these records
stamp_touched : (records : List Record) (stamp first space page : ℕ) → some_touch records space page ≡ true → first ≤ stamp_from stamp first records space page
stamp_touched [] stamp first space page h = absurd (let e : false ≡ true = h in cc)
stamp_touched (r ∷ records) stamp first space page h =
    elim (cases_Bool (touches space page r)) [
      | inl e ↦ (let f : stamp_after space page stamp (first, r) ≡ first = rw (e) refl in stamp_rises records (stamp_after space page stamp (first, r)) (first + 1) first space page (omega (arith, f)) (omega arith))
      | inr e ↦ (let q = stamp_touched records (stamp_after space page stamp (first, r)) (first + 1) space page (rw (e) at h) in omega (arith, q))
    ]

rows_kept : (records : List Record) (space page slot : ℕ) (held : Option Row) → some_touch records space page ≡ false → row_from held records (rid_of space page slot) ≡ held
rows_kept [] space page slot held h = refl
rows_kept (r ∷ records) space page slot held h =
    let q = or_parts (touches space page r) (list_any (touches space page) records) h in
    rows_kept records space page slot (row_after (rid_of space page slot) held r) q.1 ∙ row_kept r space page slot held q.0

page_kept : (journal more : List Record) (space page : ℕ) → some_touch more space page ≡ false → page_at (journal ++ more) space page ≡ page_at journal space page
unfolding page_from
page_kept journal more space page h =
    same_pages _ _ _ _
    (stamp_from-append 0 1 journal more space page ∙ stamp_kept more (stamp_at journal space page) (1 + length journal) space page h)
    (map_same (slot_from blank (journal ++ more) space page) (slot_from blank journal space page) 0 31
    (λ k le lt. fold-append (row_after (rid_of space page k)) (slice_index_or blank.slots k None) journal more ∙ rows_kept more space page k (slot_from blank journal space page k) h))

-- a page whose stamp is at most a position is as it was there
pub page_below : (journal more : List Record) (space page : ℕ) → stamp_at (journal ++ more) space page ≤ length journal → page_at (journal ++ more) space page ≡ page_at journal space page
page_below journal more space page h =
    elim (cases_Bool (some_touch more space page)) [
      | inl e ↦ absurd (let q : 1 + length journal ≤ stamp_at (journal ++ more) space page = rw (stamp_from-append 0 1 journal more space page) (stamp_touched more (stamp_at journal space page) (1 + length journal) space page e) in omega (arith, q))
      | inr e ↦ page_kept journal more space page e
    ]
