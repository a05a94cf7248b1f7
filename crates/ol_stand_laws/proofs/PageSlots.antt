-- Slots and stamps of pages that records are folded on.
use Rattle.std.specs.Prelude.{List, None, Option, [], if◌then◌else◌, length, slice_index_or, ℕ, ◌+◌, ◌<◌, ◌≡◌, ◌∷◌, true, false}
use Rattle.std.proofs.Common.{ap, arith, ◌∙◌}
use Rattle.std.proofs.lemmas.List.{get_or-replicate}
use Rattle.std.proofs.lemmas.List.FromFn.{get_or-map-range_with_len}
use Rattle.ol_values.specs.declared.record.Record.{Record}
use Rattle.ol_values.specs.declared.row.Row.{Row}
use Rattle.ol_values.specs.Pages.{Page, blank, rid_of}
use Rattle.ol_rules.specs.Journal.{page_at, page_from, row_at, row_from, stamp_after, stamp_from, touches}

pub slot_folded : (base : Page) (first : ℕ) (records : List Record) (space page slot : ℕ) → slot < 31
    → slice_index_or (page_from base first records space page).slots slot None ≡ row_from (slice_index_or base.slots slot None) records (rid_of space page slot)
unfolding page_from
slot_folded base first records space page slot lt =
    get_or-map-range_with_len (λ k. row_from (slice_index_or base.slots k None) records (rid_of space page k)) 0 31 slot slot None (omega (arith, lt)) (omega arith)

blank_slot : (slot : ℕ) → slot < 31 → slice_index_or blank.slots slot None ≡ None
blank_slot slot lt = get_or-replicate 31 slot None None lt

pub slot_of_journal : (journal : List Record) (space page slot : ℕ) → slot < 31 → slice_index_or (page_at journal space page).slots slot None ≡ row_at journal (rid_of space page slot)
slot_of_journal journal space page slot lt =
    slot_folded blank 1 journal space page slot lt ∙ ap (λ (held : Option Row). row_from held journal (rid_of space page slot)) (blank_slot slot lt)

stamp_one : (space page stamp first : ℕ) (r : Record) → stamp < first → stamp_after space page stamp (first, r) < first + 1
stamp_one space page stamp first r lt =
    elim (touches space page r) as (λ b. (if b then first else stamp) < first + 1) [ true ↦ omega arith | false ↦ omega (arith, lt) ]

pub stamp_within : (stamp first : ℕ) (records : List Record) (space page : ℕ) → stamp < first → stamp_from stamp first records space page < first + length records
stamp_within stamp first [] space page lt = omega (arith, lt)
stamp_within stamp first (r ∷ records) space page lt =
    omega (arith, stamp_within (stamp_after space page stamp (first, r)) (first + 1) records space page (stamp_one space page stamp first r lt))
