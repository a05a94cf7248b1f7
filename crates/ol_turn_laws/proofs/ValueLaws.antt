-- The values in sound journals: nothing, or rows of at most 63 bytes.
use Rattle.std.specs.Prelude.{All, List, None, Option, Some, [], false, if◌then◌else◌, refl, slice_get, true, ℕ, ◌==◌, ◌∷◌, ◌≡◌}
use Rattle.std.proofs.Common.{ap, inl, inr, subst, ◌∙◌}
use Rattle.std.proofs.lemmas.Bool.{cases_Bool}
use Rattle.std.proofs.lemmas.List.Elements.{All-cons, All-drop, All-head, All-nil, All-tail}
use Rattle.ol_values.specs.declared.record.Record.{Record}
use Rattle.ol_values.specs.declared.record.Record.TheVariants.{Begin as BeginRecord, Change, Commit as CommitRecord, Rolled, Undo}
use Rattle.ol_values.specs.declared.record.Rid.{Rid}
use Rattle.ol_values.specs.declared.row.Row.{Row}
use Rattle.ol_values.specs.Config.{Config}
use Rattle.ol_rules.specs.Journal.{row_after, row_at, same_place}
use Rattle.ol_rules.specs.Sound.{Before, HasRoom, IsNewUndo, IsOne, Meets, Sound, SoundFrom, after, afterwards, is_value, start}
use Rattle.ol_rules.specs.Transactions.{Ascending, Txn, open_at, txn_numbered}
use Rattle.ol_laws.proofs.Found.{some_is}
use Rattle.ol_laws.proofs.SoundLaws.{fine, kept_by_all, rows_of, txns_of}
use Rattle.ol_laws.proofs.TxnLaws.{Gives, all_after}
use Rattle.ol_turn_laws.specs.Room.{HasValues, LeavesShort}

-- ---- what is found

-- what holds of all holds of the one that is found
pub all_found : (P : Txn → Type 0) (n : ℕ) (txns : List Txn) (t : Txn) → All P txns → txn_numbered n txns ≡ Some t → P t
all_found P n [] t all is = absurd (let h : None ≡ Some t = is in cc)
all_found P n (u ∷ txns) t all is =
    elim (cases_Bool (u.number == n)) [
      | inl e ↦ (let h : Some u ≡ Some t = (rw (e) at is) in let same : u ≡ t = cc in subst P same (All-head P u txns all))
      | inr e ↦ all_found P n txns t (All-tail P u txns all) (rw (e) at is)
    ]

-- a rule of an open transaction, of which this holds too
found_with : {Q : Type 0} (P R : Txn → Type 0) (n : ℕ) (txns : List Txn) → All R txns → IsOne (txn_numbered n txns) P → ((t : Txn) → P t → R t → Q) → Q
found_with {Q = Q} P R n txns all h f = go (txn_numbered n txns) refl h
  where
    go : (o : Option Txn) → txn_numbered n txns ≡ o → IsOne o P → Q
    go None is h = absurd h
    go (Some t) is h = f t h (all_found R n txns t all is)

-- ---- what each record keeps

pub record Valued (b : Before) : Type 0 where
  pub rows : (rid : Rid) → is_value (b.row rid) ≡ true
  pub pending : All HasValues b.txns

-- the newest change has a value
newest_value : (rid : Rid) (value : Option Row) (pending : List (Rid × Option Row)) → All (λ (p : Rid × Option Row). is_value p.1 ≡ true) pending
    → slice_get pending 0 ≡ Some (rid, value) → is_value value ≡ true
newest_value rid value [] all is = absurd (let q : Rid × Option Row = (rid, value) in let h : None ≡ Some q = is in cc)
newest_value rid value (p ∷ rest) all is =
    let q : Rid × Option Row = (rid, value) in
    let h : Some p ≡ Some q = is in
    let same : p ≡ q = cc in
    subst (λ (x : Rid × Option Row). is_value x.1 ≡ true) same (All-head (λ (x : Rid × Option Row). is_value x.1 ≡ true) p rest all)

pub either : (place rid : Rid) (value held : Option Row) → is_value value ≡ true → is_value held ≡ true → is_value (if same_place rid place then value else held) ≡ true
either place rid value held v h = elim (same_place rid place) as (λ b. is_value (if b then value else held) ≡ true) [ true ↦ v | false ↦ h ]

row_valued : (c : Config) (b : Before) (r : Record) → Valued b → Meets c b r → (place : Rid) → is_value (row_after place (b.row place) r) ≡ true
row_valued c b (BeginRecord n) v m place = v.rows place
row_valued c b (Change n rid before after) v m place = either place rid after (b.row place) (some_is (txn_numbered n b.txns) m (λ t h. h.value)) (v.rows place)
row_valued c b (Undo n rid value) v m place =
    either place rid value (b.row place)
    (found_with (IsNewUndo c rid value) HasValues n b.txns v.pending m (λ t h values. newest_value rid value t.pending values h.newest)) (v.rows place)
row_valued c b (CommitRecord n) v m place = v.rows place
row_valued c b (Rolled n) v m place = v.rows place

gives_values : (c : Config) (b : Before) (r : Record) → Valued b → Meets c b r → Gives HasValues r
gives_values c b (BeginRecord n) v m = All-nil (λ (p : Rid × Option Row). is_value p.1 ≡ true)
gives_values c b (Change n rid before after) v m =
    let value : is_value before ≡ true = some_is (txn_numbered n b.txns) m (λ t h. ap (λ (o : Option Row). is_value o) h.held ∙ v.rows rid) in
    λ t h. All-cons (λ (p : Rid × Option Row). is_value p.1 ≡ true) (let p : Rid × Option Row = (rid, before) in p) t.pending value h
gives_values c b (Undo n rid value) v m = λ t h. All-drop (λ (p : Rid × Option Row). is_value p.1 ≡ true) 1 t.pending h
gives_values c b (CommitRecord n) v m = tt
gives_values c b (Rolled n) v m = tt

valued_after : (c : Config) (b : Before) (r : Record) → Valued b → Meets c b r → HasRoom c b r → Valued (after b r)
valued_after c b r v m h = record { rows = row_valued c b r v m; pending = all_after HasValues b.txns r (gives_values c b r v m) v.pending }

-- ---- of sound journals

valued : (c : Config) (journal : List Record) → Sound c journal → Valued (afterwards start journal)
valued c journal s = kept_by_all c Valued (valued_after c) start journal (record { rows = λ rid. refl; pending = All-nil HasValues }) s

pub sound_rows : (c : Config) (journal : List Record) (rid : Rid) → Sound c journal → is_value (row_at journal rid) ≡ true
sound_rows c journal rid s = subst (λ (o : Option Row). is_value o ≡ true) (rows_of start journal rid) ((valued c journal s).rows rid)

pub sound_pending : (c : Config) (journal : List Record) → Sound c journal → All HasValues (open_at journal)
sound_pending c journal s = subst (λ (l : List Txn). All HasValues l) (txns_of start journal) (valued c journal s).pending

pub sound_ascending : (c : Config) (journal : List Record) → Sound c journal → Ascending (open_at journal)
sound_ascending c journal s = subst (λ (l : List Txn). Ascending l) (txns_of start journal) (fine c journal s).order.ascending

-- ---- the records themselves

leaves_short : (c : Config) (b : Before) (r : Record) → Valued b → Meets c b r → LeavesShort r
leaves_short c b (BeginRecord n) v m = tt
leaves_short c b (Change n rid before after) v m = some_is (txn_numbered n b.txns) m (λ t h. h.value)
leaves_short c b (Undo n rid value) v m = found_with (IsNewUndo c rid value) HasValues n b.txns v.pending m (λ t h values. newest_value rid value t.pending values h.newest)
leaves_short c b (CommitRecord n) v m = tt
leaves_short c b (Rolled n) v m = tt

all_short : (c : Config) (b : Before) (records : List Record) → Valued b → SoundFrom c b records → All LeavesShort records
all_short c b [] v s = All-nil LeavesShort
all_short c b (r ∷ records) v s = All-cons LeavesShort r records (leaves_short c b r v s.0) (all_short c (after b r) records (valued_after c b r v s.0 s.1) s.2)

pub sound_records : (c : Config) (journal : List Record) → Sound c journal → All LeavesShort journal
sound_records c journal s = all_short c start journal (record { rows = λ rid. refl; pending = All-nil HasValues }) s
