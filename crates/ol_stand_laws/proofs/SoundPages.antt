-- Each place of a sound journal holds nothing or a row, and each page is one that a disk may hold.
use Rattle.std.specs.Prelude.{All, IfSome, List, None, Option, Some, [], false, if◌then◌else◌, length, refl, slice_get, slice_index_or, true, ℕ, ◌++◌, ◌+◌, ◌<◌, ◌==◌, ◌^◌, ◌≡◌, ◌≤◌, ◌∷◌}
use Rattle.std.proofs.Common.{arith, inl, inr, subst, sym, ◌∙◌}
use Rattle.std.proofs.lemmas.Bool.{cases_Bool, leb-true}
use Rattle.std.proofs.lemmas.List.Elements.{All-cons, All-drop, All-from_get_or, All-head, All-nil, All-tail}
use Rattle.std.proofs.lemmas.List.FromFn.{length-map-range_with_len}
use Rattle.ol_values.specs.declared.record.Record.{Record}
use Rattle.ol_values.specs.declared.record.Record.TheVariants.{Begin as BeginRecord, Change, Commit as CommitRecord, Rolled, Undo}
use Rattle.ol_values.specs.declared.record.Rid.{Rid}
use Rattle.ol_values.specs.declared.row.Row.{Row}
use Rattle.ol_values.specs.Config.{Config}
use Rattle.ol_values.specs.Image.{IsDataPage}
use Rattle.ol_values.specs.Pages.{Page, blank, rid_of}
use Rattle.ol_rules.specs.Journal.{page_at, page_from, row_at, row_from, same_place, stamp_at}
use Rattle.ol_rules.specs.Sound.{Before, HasRoom, IsNewUndo, IsOne, Meets, Sound, after, afterwards, is_value, start}
use Rattle.ol_rules.specs.Transactions.{Txn, txn_numbered}
use Rattle.ol_laws.proofs.Found.{some_is}
use Rattle.ol_laws.proofs.PageLaws.{page_below}
use Rattle.ol_laws.proofs.SoundLaws.{kept_by_all, last_after, rows_of}
use Rattle.ol_laws.proofs.TxnLaws.{all_after}
use Rattle.ol_stand_laws.proofs.PageSlots.{slot_of_journal, stamp_within}

-- the values that a transaction's changes had before
abbrev pub HoldsValues : Txn → Type 0
HoldsValues t = All (λ (p : Rid × Option Row). is_value p.1 ≡ true) t.pending

-- what precedes a record holds rows alone, and so do the changes that are not taken back
pub record AllValues (b : Before) : Type 0 where
  pub rows : (place : Rid) → is_value (b.row place) ≡ true
  pub txns : All HoldsValues b.txns

-- what holds of all open transactions holds of the one that is found
found_in : (n : ℕ) (P Q : Txn → Type 0) (txns : List Txn) → All Q txns → IsOne (txn_numbered n txns) P → IsOne (txn_numbered n txns) (λ t. P t × Q t)
found_in n P Q [] all h = h
found_in n P Q (t ∷ txns) all h =
    elim (cases_Bool (t.number == n)) [
      | inl e ↦ rw (e) ((rw (e) at h), All-head Q t txns all)
      | inr e ↦ rw (e) (found_in n P Q txns (All-tail Q t txns all) (rw (e) at h))
    ]

newest_value : (rid : Rid) (value : Option Row) (pending : List (Rid × Option Row)) → slice_get pending 0 ≡ Some (rid, value) → All (λ (p : Rid × Option Row). is_value p.1 ≡ true) pending → is_value value ≡ true
newest_value rid value [] e all = absurd (let never = e in cc)
newest_value rid value (p ∷ pending) e all =
    let same : p ≡ (rid, value) = (let whole = e in cc) in
    subst (λ (q : Rid × Option Row). is_value q.1 ≡ true) same (All-head (λ (q : Rid × Option Row). is_value q.1 ≡ true) p pending all)

-- the value that a place holds after a change or an undo there
placed : (place rid : Rid) (held value : Option Row) → is_value held ≡ true → is_value value ≡ true → is_value (if same_place rid place then value else held) ≡ true
placed place rid held value h v = elim (same_place rid place) as (λ b. is_value (if b then value else held) ≡ true) [ true ↦ v | false ↦ h ]

values_after : (c : Config) (b : Before) (r : Record) → AllValues b → Meets c b r → HasRoom c b r → AllValues (after b r)
values_after c b (BeginRecord n) v m room = record {
  rows = v.rows;
  txns = all_after HoldsValues b.txns (BeginRecord n) (All-nil (λ (p : Rid × Option Row). is_value p.1 ≡ true)) v.txns;
}
values_after c b (Change n rid before value) v m room =
    let held : is_value before ≡ true = some_is (txn_numbered n b.txns) m (λ t s. subst (λ (o : Option Row). is_value o ≡ true) (sym s.held) (v.rows rid)) in
    let new : is_value value ≡ true = some_is (txn_numbered n b.txns) m (λ t s. s.value) in
    record {
      rows = λ place. placed place rid (b.row place) value (v.rows place) new;
      txns = all_after HoldsValues b.txns (Change n rid before value)
          (λ t h. All-cons (λ (p : Rid × Option Row). is_value p.1 ≡ true) (let p : Rid × Option Row = (rid, before) in p) t.pending held h) v.txns;
    }
values_after c b (Undo n rid value) v m room =
    let new : is_value value ≡ true =
    some_is (txn_numbered n b.txns) (found_in n (IsNewUndo c rid value) HoldsValues b.txns v.txns m) (λ t s. newest_value rid value t.pending s.0.newest s.1) in
    record {
      rows = λ place. placed place rid (b.row place) value (v.rows place) new;
      txns = all_after HoldsValues b.txns (Undo n rid value) (λ t h. All-drop (λ (p : Rid × Option Row). is_value p.1 ≡ true) 1 t.pending h) v.txns;
    }
values_after c b (CommitRecord n) v m room = record { rows = v.rows; txns = all_after HoldsValues b.txns (CommitRecord n) tt v.txns }
values_after c b (Rolled n) v m room = record { rows = v.rows; txns = all_after HoldsValues b.txns (Rolled n) tt v.txns }

values_of_start : AllValues start
values_of_start = record { rows = λ place. refl; txns = All-nil HoldsValues }

pub value_at : (c : Config) (journal : List Record) (place : Rid) → Sound c journal → is_value (row_at journal place) ≡ true
value_at c journal place sound =
    subst (λ (o : Option Row). is_value o ≡ true) (rows_of start journal place)
    ((kept_by_all c AllValues (values_after c) start journal values_of_start sound).rows place)

-- ---- pages

last_within : (c : Config) (journal : List Record) → Sound c journal → length journal < 2 ^ 62
last_within c journal sound =
    let below : (afterwards start journal).last < 2 ^ 62 =
    kept_by_all c (λ (b : Before). b.last < 2 ^ 62) (λ b r p m room. omega (arith, room.1)) start journal (omega arith) sound in
    omega (arith, below, last_after start journal)

fits_of : (o : Option Row) → is_value o ≡ true → IfSome o (λ row. length row ≤ 63)
fits_of None v = tt
fits_of (Some row) v = leb-true (length row) 63 v

pub slots_whole : (base : Page) (first : ℕ) (records : List Record) (space page : ℕ) → length (page_from base first records space page).slots ≡ 31
unfolding page_from
slots_whole base first records space page = length-map-range_with_len (λ k. row_from (slice_index_or base.slots k None) records (rid_of space page k)) 0 31

no_records : (space page : ℕ) → page_at [] space page ≡ blank
unfolding page_from
no_records space page = refl

stamp_of : (journal : List Record) (space page : ℕ) → (page_at journal space page).stamp < 1 + length journal
unfolding page_from
stamp_of journal space page = stamp_within 0 1 journal space page (omega arith)

stamp_none : (journal : List Record) (space page : ℕ) → (page_at journal space page).stamp ≡ 0 → stamp_at ([] ++ journal) space page ≤ length {A = Record} []
unfolding page_from
stamp_none journal space page none = omega (arith, none)

pub data_page : (c : Config) (journal : List Record) (space page : ℕ) → Sound c journal → IsDataPage (page_at journal space page)
data_page c journal space page sound =
    let whole = slots_whole blank 1 journal space page in
    let within : (page_at journal space page).stamp < 1 + length journal = stamp_of journal space page in
    let below = last_within c journal sound in
    record {
      page = record {
        whole = whole;
        rows = All-from_get_or (λ s. IfSome s (λ row. length row ≤ 63)) (page_at journal space page).slots None
            (λ k lt. subst (λ (o : Option Row). IfSome o (λ row. length row ≤ 63)) (sym (slot_of_journal journal space page k (omega (arith, lt, whole))))
            (fits_of (row_at journal (rid_of space page k)) (value_at c journal (rid_of space page k) sound)));
        stamp = omega (arith, within, below);
      };
      stamp = omega (arith, within, below);
      unchanged = λ none. page_below [] journal space page (stamp_none journal space page none) ∙ no_records space page;
    }
