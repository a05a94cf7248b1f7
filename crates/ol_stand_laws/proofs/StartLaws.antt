-- What a start with records behind it gives, where it is a journal's.
use Rattle.std.specs.Prelude.{Bool, List, None, Option, drop, length, slice_index_or, take, true, ℕ, ◌++◌, ◌+◌, ◌-◌, ◌<◌, ◌≡◌, ◌≤◌}
use Rattle.std.proofs.Common.{ap, append_assoc, arith, subst, sym, take-append-drop, ◌∙◌}
use Rattle.std.proofs.lemmas.List.{length-append, length-take}
use Rattle.std.proofs.lemmas.List.Sums.{fold-append}
use Rattle.ol_values.specs.declared.record.Record.{Record}
use Rattle.ol_values.specs.declared.record.Rid.{Rid}
use Rattle.ol_values.specs.declared.row.Row.{Row}
use Rattle.ol_values.specs.Config.{Config, data_pages}
use Rattle.ol_values.specs.Pages.{Page, blank}
use Rattle.ol_rules.specs.Journal.{page_at, page_from, row_after, row_at, row_from, stamp_at, stamp_from}
use Rattle.ol_rules.specs.Sound.{Sound}
use Rattle.ol_rules.specs.Start.{IsStartOf, Start, last_behind, low_behind, page_behind, row_behind, stamp_behind, txns_behind, upto}
use Rattle.ol_rules.specs.Transactions.{Txn, low_at, low_of, open_at}
use Rattle.ol_laws.proofs.NeedLaws.{open_from_need}
use Rattle.ol_laws.proofs.PageLaws.{page_below, page_from-append, stamp_from-append}
use Rattle.ol_stand_laws.proofs.PageSlots.{slot_of_journal, stamp_within}

pub last_is : (c : Config) (up : ℕ → Bool) (journal records : List Record) (s : Start) → IsStartOf c up journal s → last_behind s records ≡ length (journal ++ records)
last_is c up journal records s is = omega (arith, is.last, length-append journal records)

pub rows_are : (c : Config) (up : ℕ → Bool) (journal records : List Record) (s : Start) (rid : Rid) → IsStartOf c up journal s → up rid.space ≡ true → rid.page < data_pages c rid.space → rid.slot < 31
    → row_behind s records rid ≡ row_at (journal ++ records) rid
rows_are c up journal records s rid is on there slot =
    ap (λ (p : Page). row_from (slice_index_or p.slots rid.slot None) records rid) (is.pages rid.space rid.page on there)
    ∙ ap (λ (held : Option Row). row_from held records rid) (slot_of_journal journal rid.space rid.page rid.slot slot)
    ∙ sym (fold-append (row_after rid) None journal records)

pub pages_are : (c : Config) (up : ℕ → Bool) (journal records : List Record) (s : Start) (space page : ℕ) → IsStartOf c up journal s → up space ≡ true → page < data_pages c space
    → page_behind s records space page ≡ page_at (journal ++ records) space page
pages_are c up journal records s space page is on there =
    ap (λ (p : Page). page_from p (s.last + 1) records space page) (is.pages space page on there)
    ∙ ap (λ (n : ℕ). page_from (page_at journal space page) n records space page) (omega (arith, is.last))
    ∙ sym (page_from-append blank 1 journal records space page)

pub stamps_are : (c : Config) (up : ℕ → Bool) (journal records : List Record) (s : Start) (space page : ℕ) → IsStartOf c up journal s → up space ≡ true → page < data_pages c space
    → stamp_behind s records space page ≡ stamp_at (journal ++ records) space page
unfolding page_from
stamps_are c up journal records s space page is on there =
    ap (λ (p : Page). stamp_from p.stamp (s.last + 1) records space page) (is.pages space page on there)
    ∙ ap (λ (n : ℕ). stamp_from (stamp_at journal space page) n records space page) (omega (arith, is.last))
    ∙ sym (stamp_from-append 0 1 journal records space page)

-- the journal in two parts: what the log pages have lost, and what they keep
kept_part : (c : Config) (up : ℕ → Bool) (journal : List Record) (s : Start) → IsStartOf c up journal s → take (s.first - 1) journal ++ s.kept ≡ journal
kept_part c up journal s is = ap (λ (l : List Record). take (s.first - 1) journal ++ l) is.kept ∙ take-append-drop (s.first - 1) journal

pub txns_are : (c : Config) (up : ℕ → Bool) (journal records : List Record) (s : Start) → IsStartOf c up journal s → Sound c (journal ++ records) → txns_behind s records ≡ open_at (journal ++ records)
txns_are c up journal records s is sound =
    let past = take (s.first - 1) journal in
    let parts = kept_part c up journal s is in
    let whole : past ++ (s.kept ++ records) ≡ journal ++ records = sym (append_assoc past s.kept records) ∙ ap (λ (l : List Record). l ++ records) parts in
    let count : length past + 1 ≤ low_at (past ++ s.kept) =
    subst (λ (l : List Record). length past + 1 ≤ low_at l) (sym parts) (omega (arith, is.need, is.first.0, is.first.1, is.last, length-take (s.first - 1) journal)) in
    open_from_need c past s.kept records (subst (λ (l : List Record). Sound c l) (sym whole) sound) count ∙ ap (λ (l : List Record). open_at l) whole

pub need_is : (c : Config) (up : ℕ → Bool) (journal records : List Record) (s : Start) → IsStartOf c up journal s → Sound c (journal ++ records) → low_behind s records ≡ low_at (journal ++ records)
need_is c up journal records s is sound =
    ap (λ (l : List Txn). low_of l (last_behind s records)) (txns_are c up journal records s is sound)
    ∙ ap (λ (n : ℕ). low_of (open_at (journal ++ records)) n) (last_is c up journal records s is)

-- a page whose stamp is at most a position is as it was there
pub stays_below : (c : Config) (up : ℕ → Bool) (journal records : List Record) (s : Start) (position space page : ℕ) → IsStartOf c up journal s → up space ≡ true → page < data_pages c space
    → s.last ≤ position → stamp_behind s records space page ≤ position → page_behind s records space page ≡ page_behind s (upto s records position) space page
stays_below c up journal records s position space page is on there from within =
    let first = upto s records position in
    let rest = drop (position - s.last) records in
    let join : (journal ++ first) ++ rest ≡ journal ++ records =
    append_assoc journal first rest ∙ ap (λ (l : List Record). journal ++ l) (take-append-drop (position - s.last) records) in
    let stamp : stamp_at ((journal ++ first) ++ rest) space page ≡ stamp_behind s records space page =
    ap (λ (l : List Record). stamp_at l space page) join ∙ sym (stamps_are c up journal records s space page is on there) in
    let most : stamp_at ((journal ++ first) ++ rest) space page < 1 + length ((journal ++ first) ++ rest) = stamp_within 0 1 ((journal ++ first) ++ rest) space page (omega arith) in
    let whole : length ((journal ++ first) ++ rest) ≡ length journal + length records = ap (λ (l : List Record). length l) join ∙ length-append journal records in
    let below : stamp_at ((journal ++ first) ++ rest) space page ≤ length (journal ++ first) =
    omega (arith, stamp, most, whole, within, from, is.last, length-append journal first, length-take (position - s.last) records) in
    pages_are c up journal records s space page is on there
    ∙ ap (λ (l : List Record). page_at l space page) (sym join)
    ∙ page_below (journal ++ first) rest space page below
    ∙ sym (pages_are c up journal first s space page is on there)
