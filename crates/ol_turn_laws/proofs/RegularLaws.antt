-- Regular states: what steps without a record, records and seats leave of them.
use Rattle.std.specs.List.{range_with_len}
use Rattle.std.specs.Prelude.{All, List, None, Option, Some, [], false, if◌then◌else◌, is_some, length, refl, slice_index_or, slice_set, suc, true, zero, ℕ, ◌++◌, ◌+◌, ◌-◌, ◌<◌, ◌==◌, ◌∷◌, ◌≡◌, ◌≢◌, ◌≤◌, ◌⊎◌}
use Rattle.std.proofs.Common.{ap, arith, inl, inr, subst, sym, ◌∙◌}
use Rattle.std.proofs.lemmas.Bool.{cases_Bool}
use Rattle.std.proofs.lemmas.Bool.Decides.{eqb_tells}
use Rattle.std.proofs.lemmas.List.Elements.{All-cons, All-drop, All-head, All-nil, All-push, All-tail, All-weaker}
use Rattle.ol_values.specs.declared.record.Record.{Record}
use Rattle.ol_values.specs.declared.record.Record.TheVariants.{Begin as BeginRecord, Change, Commit as CommitRecord, Rolled, Undo}
use Rattle.ol_values.specs.declared.record.Rid.{Rid}
use Rattle.ol_values.specs.declared.row.Row.{Row}
use Rattle.ol_values.specs.Config.{Config}
use Rattle.ol_values.specs.Pages.{Page}
use Rattle.ol_rules.specs.Sound.{is_value}
use Rattle.ol_rules.specs.Start.{Start, last_behind, low_behind, start_page, txns_behind}
use Rattle.ol_rules.specs.Transactions.{Ascending, BeginsFrom, Txn, at_txn, begun, txn_numbered, txns_after, with_change, with_undo, without_txn}
use Rattle.ol_model.specs.Machine.{Machine, Picking, Seat, Work, formatted, last_of, low_in, no_seat, seat_of, txns_in, with_seat}
use Rattle.ol_model.specs.Steps.{append, before_change, change_row, is_page_in, make_checkpoint, needs_checkpoint, touch}
use Rattle.ol_laws.proofs.TxnLaws.{Gives, KeepsNumber, all_after, ascending_at, ascending_push, ascending_without, at_one, number_kept}
use Rattle.ol_turn_laws.proofs.DrawnLaws.{blank_short, row_short}
use Rattle.ol_turn_laws.proofs.LowLaws.{all_blank, appended_low, formatted_orderly, no_txn, of_equal}
use Rattle.ol_turn_laws.proofs.StepLaws.{appended_last, appended_txns}
use Rattle.ol_turn_laws.specs.Room.{HasValues, HoldsShort, LeavesShort, Regular}

-- ---- its parts

-- what is told by the start and the records behind it
pub record Told (s : Start) (records : List Record) : Type 0 where
  pub ascending : Ascending (txns_behind s records)
  pub pending : All HasValues (txns_behind s records)
  pub numbers : All (λ (t : Txn). t.number ≤ last_behind s records) (txns_behind s records)
  pub pages : (space page : ℕ) → HoldsShort (start_page s space page)
  pub kept : All LeavesShort s.kept
  pub short : All LeavesShort records

-- the transaction of the session with this index, from 0
abbrev pub txn_in : List Seat → ℕ → Option ℕ
txn_in seats i = (slice_index_or seats i no_seat).txn

-- a session without a transaction shares nothing
abbrev pub IsIdle : Seat → Type 0
IsIdle s = s.txn ≡ None → s.shares ≡ []

-- the sessions have open transactions, each its own
pub record Seated (seats : List Seat) (txns : List Txn) : Type 0 where
  pub named : (i n : ℕ) → txn_in seats i ≡ Some n → is_some (txn_numbered n txns) ≡ true
  pub alone : (i j n : ℕ) → txn_in seats i ≡ Some n → txn_in seats j ≡ Some n → i ≡ j
  pub idle : (i : ℕ) → IsIdle (slice_index_or seats i no_seat)

-- the log file that is picked is not backed up yet
abbrev pub Picks : Machine → Type 0
Picks m = (p : Picking) → m.log.picking ≡ Some p → m.lasting.backed ≤ p.uniq

pub regular : (m : Machine) → Told m.work.start m.work.records → Seated m.work.sessions (txns_in m) → m.checkpoint.need ≤ low_in m → Picks m → Regular m
regular m t s need picks = record {
  orderly = record {
    ascending = t.ascending;
    pending = t.pending;
    rows = λ rid. row_short (slice_index_or (start_page m.work.start rid.space rid.page).slots rid.slot None) m.work.records rid (t.pages rid.space rid.page rid.slot) t.short;
    sessions = λ k n is. s.named (k - 1) n is;
    need = need;
    picking = picks;
  };
  numbers = t.numbers;
  alone = λ j k n from_j from_k is_j is_k. omega (arith, from_j, from_k, s.alone (j - 1) (k - 1) n is_j is_k);
  idle = λ k. s.idle (k - 1);
  pages = t.pages;
  kept = t.kept;
  records = t.short;
}

pub told : (m : Machine) → Regular m → Told m.work.start m.work.records
told m h = record { ascending = h.orderly.ascending; pending = h.orderly.pending; numbers = h.numbers; pages = h.pages; kept = h.kept; short = h.records }

pub seated : (m : Machine) → Regular m → Seated m.work.sessions (txns_in m)
seated m h = record {
  named = λ i n is. h.orderly.sessions (suc i) n (moved i n is);
  alone = λ i j n is_i is_j. omega (arith, h.alone (suc i) (suc j) n (omega arith) (omega arith) (moved i n is_i) (moved j n is_j));
  idle = λ i. subst (λ (j : ℕ). IsIdle (slice_index_or m.work.sessions j no_seat)) (before i) (h.idle (suc i));
}
  where
    before : (i : ℕ) → suc i - 1 ≡ i
    before i = omega arith

    moved : (i n : ℕ) → txn_in m.work.sessions i ≡ Some n → (seat_of m (suc i)).txn ≡ Some n
    moved i n is = ap (λ (j : ℕ). txn_in m.work.sessions j) (before i) ∙ is

-- ---- steps without a record

-- the same work; the checkpoint's need and what is picked stay in order
pub record Calm (m n : Machine) : Type 0 where
  pub work : n.work ≡ m.work
  pub need : m.checkpoint.need ≤ low_in m → n.checkpoint.need ≤ low_in m
  pub picks : Picks m → Picks n

pub calm : (m : Machine) → Calm m m
calm m = record { work = refl; need = λ h. h; picks = λ h. h }

pub calm_then : (m n o : Machine) → Calm m n → Calm n o → Calm m o
calm_then m n o a b = record {
  work = b.work ∙ a.work;
  need = λ h. (let same : low_in n ≡ low_in m = ap (λ (w : Work). low_behind w.start w.records) a.work in omega (arith, same, b.need (omega (arith, same, a.need h))));
  picks = λ h. b.picks (a.picks h);
}

pub calm_regular : (m n : Machine) → Calm m n → Regular m → Regular n
calm_regular m n c h =
    let same : low_in n ≡ low_in m = ap (λ (w : Work). low_behind w.start w.records) c.work in
    regular n (subst (λ (w : Work). Told w.start w.records) (sym c.work) (told m h)) (subst (λ (w : Work). Seated w.sessions (txns_behind w.start w.records)) (sym c.work) (seated m h))
    (omega (arith, same, c.need h.orderly.need)) (c.picks h.orderly.picking)

pub checkpoint_calm : (m : Machine) → Calm m (make_checkpoint m)
checkpoint_calm m = record { work = refl; need = λ h. omega arith; picks = λ h. h }

before_calm : (n : ℕ) (p : ℕ × ℕ) (m : Machine) → Calm m (before_change n p m)
before_calm n p m =
    let ready : Machine = if needs_checkpoint m p then make_checkpoint m else m in
    let first : Calm m ready = elim (needs_checkpoint m p) as (λ b. Calm m (if b then make_checkpoint m else m)) [ true ↦ checkpoint_calm m | false ↦ calm m ] in
    let second : Calm ready (touch p ready) =
    elim (is_page_in p ready.checkpoint.touched) as (λ b. Calm ready (if b then ready else record ready { checkpoint = record ready.checkpoint { touched = ready.checkpoint.touched ++ p ∷ [] } })) [
      | true ↦ calm ready
      | false ↦ record { work = refl; need = λ h. h; picks = λ h. h }
    ] in
    let both = calm_then m ready (touch p ready) first second in
    record { work = both.work; need = both.need; picks = both.picks }

-- ---- a record more

-- a begin has the next position as its number; values are nothing or rows of at most 63 bytes
abbrev pub Fits : ℕ → Record → Type 0
Fits last (BeginRecord n) = n ≡ last + 1
Fits last (Change n rid before after) = (is_value before ≡ true) × (is_value after ≡ true)
Fits last (Undo n rid value) = is_value value ≡ true
Fits last (CommitRecord n) = Unit {0}
Fits last (Rolled n) = Unit {0}

fits_short : (last : ℕ) (r : Record) → Fits last r → LeavesShort r
fits_short last (BeginRecord n) f = tt
fits_short last (Change n rid before after) f = f.1
fits_short last (Undo n rid value) f = f
fits_short last (CommitRecord n) f = tt
fits_short last (Rolled n) f = tt

fits_begins : (last : ℕ) (r : Record) → Fits last r → BeginsFrom (last + 1) r
fits_begins last (BeginRecord n) f = omega (arith, f)
fits_begins last (Change n rid before after) f = tt
fits_begins last (Undo n rid value) f = tt
fits_begins last (CommitRecord n) f = tt
fits_begins last (Rolled n) f = tt

fits_ascending : (last : ℕ) (txns : List Txn) (r : Record) → Fits last r → All (λ (t : Txn). t.number ≤ last) txns → Ascending txns → Ascending (txns_after txns r)
fits_ascending last txns (BeginRecord n) f within order =
    ascending_push txns (begun n) (All-weaker (λ (t : Txn). t.number ≤ last) (λ (t : Txn). t.number < n) (λ t le. omega (arith, f, le)) txns within) order
fits_ascending last txns (Change n rid before after) f within order = ascending_at n (with_change rid before) txns (λ t. refl) order
fits_ascending last txns (Undo n rid value) f within order = ascending_at n with_undo txns (λ t. refl) order
fits_ascending last txns (CommitRecord n) f within order = ascending_without n txns order
fits_ascending last txns (Rolled n) f within order = ascending_without n txns order

fits_within : (last : ℕ) (r : Record) → Fits last r → Gives (λ (t : Txn). t.number ≤ last + 1) r
fits_within last (BeginRecord n) f = omega (arith, f)
fits_within last (Change n rid before after) f = λ t le. le
fits_within last (Undo n rid value) f = λ t le. le
fits_within last (CommitRecord n) f = tt
fits_within last (Rolled n) f = tt

fits_values : (last : ℕ) (r : Record) → Fits last r → Gives HasValues r
fits_values last (BeginRecord n) f = All-nil (λ (p : Rid × Option Row). is_value p.1 ≡ true)
fits_values last (Change n rid before after) f = λ t h. All-cons (λ (p : Rid × Option Row). is_value p.1 ≡ true) (let p : Rid × Option Row = (rid, before) in p) t.pending f.0 h
fits_values last (Undo n rid value) f = λ t h. All-drop (λ (p : Rid × Option Row). is_value p.1 ≡ true) 1 t.pending h
fits_values last (CommitRecord n) f = tt
fits_values last (Rolled n) f = tt

told_after : (r : Record) (m : Machine) → Fits (last_of m) r → Told m.work.start m.work.records → Told m.work.start (m.work.records ++ r ∷ [])
told_after r m f t =
    let numbers : All (λ (u : Txn). u.number ≤ last_of m + 1) (txns_after (txns_in m) r) =
    all_after (λ (u : Txn). u.number ≤ last_of m + 1) (txns_in m) r (fits_within (last_of m) r f)
    (All-weaker (λ (u : Txn). u.number ≤ last_of m) (λ (u : Txn). u.number ≤ last_of m + 1) (λ u le. omega (arith, le)) (txns_in m) t.numbers) in
    record {
      ascending = subst (λ (l : List Txn). Ascending l) (sym (appended_txns r m)) (fits_ascending (last_of m) (txns_in m) r f t.numbers t.ascending);
      pending = subst (λ (l : List Txn). All HasValues l) (sym (appended_txns r m)) (all_after HasValues (txns_in m) r (fits_values (last_of m) r f) t.pending);
      numbers =
          subst (λ (l : List Txn). All (λ (u : Txn). u.number ≤ last_of (append r m)) l) (sym (appended_txns r m))
          (All-weaker (λ (u : Txn). u.number ≤ last_of m + 1) (λ (u : Txn). u.number ≤ last_of (append r m)) (λ u le. omega (arith, le, appended_last r m)) (txns_after (txns_in m) r) numbers);
      pages = t.pages;
      kept = t.kept;
      short = All-push LeavesShort m.work.records r t.short (fits_short (last_of m) r f);
    }

abbrev pub with_seats : List Seat → Machine → Machine
with_seats seats m = record m { work = record m.work { sessions = seats } }

-- a record more, with seats that go with what is open then
pub after_regular : (r : Record) (m : Machine) (seats : List Seat) → Fits (last_of m) r → Seated seats (txns_after (txns_in m) r) → Regular m → Regular (with_seats seats (append r m))
after_regular r m seats f s h =
    regular (with_seats seats (append r m)) (told_after r m f (told m h)) (subst (λ (l : List Txn). Seated seats l) (sym (appended_txns r m)) s)
    (omega (arith, h.orderly.need, appended_low r m h.orderly.ascending h.numbers (fits_begins (last_of m) r f))) h.orderly.picking

-- ---- what is open after a record

kept_at : (n k : ℕ) (f : Txn → Txn) (txns : List Txn) → KeepsNumber f → is_some (txn_numbered n txns) ≡ true → is_some (txn_numbered n (at_txn k f txns)) ≡ true
kept_at n k f [] keeps h = h
kept_at n k f (t ∷ txns) keeps h =
    let same = number_kept k f t keeps in
    elim (cases_Bool (t.number == n)) [
      | inl e ↦ (let g : ((at_one k f t).number == n) ≡ true = rw (same) e in rw (g) refl)
      | inr e ↦ (let g : ((at_one k f t).number == n) ≡ false = rw (same) e in rw (g) (kept_at n k f txns keeps (rw (e) at h)))
    ]

kept_pushed : (n : ℕ) (txns : List Txn) (u : Txn) → is_some (txn_numbered n txns) ≡ true → is_some (txn_numbered n (txns ++ u ∷ [])) ≡ true
kept_pushed n [] u h = absurd (let never : false ≡ true = h in cc)
kept_pushed n (t ∷ txns) u h = elim (cases_Bool (t.number == n)) [ inl e ↦ rw (e) refl | inr e ↦ rw (e) (kept_pushed n txns u (rw (e) at h)) ]

new_pushed : (n : ℕ) (txns : List Txn) → is_some (txn_numbered n (txns ++ begun n ∷ [])) ≡ true
new_pushed n [] = elim (eqb_tells n n) [ inl e ↦ rw (e.0) refl | inr e ↦ absurd (e.1 refl) ]
new_pushed n (t ∷ txns) = elim (cases_Bool (t.number == n)) [ inl e ↦ rw (e) refl | inr e ↦ rw (e) (new_pushed n txns) ]

kept_without : (n k : ℕ) (txns : List Txn) → (k == n) ≡ false → is_some (txn_numbered n txns) ≡ true → is_some (txn_numbered n (without_txn k txns)) ≡ true
kept_without n k [] d h = h
kept_without n k (t ∷ txns) d h =
    elim (eqb_tells t.number k) [
      | inl e ↦ (let g : (t.number == n) ≡ false = rw (e.1) d in rw (e.0) (kept_without n k txns d (rw (g) at h)))
      | inr e ↦ elim (cases_Bool (t.number == n)) [
        | inl g ↦ rw (e.0, g) refl
        | inr g ↦ rw (e.0, g) (kept_without n k txns d (rw (g) at h))
      ]
    ]

-- an open transaction's number keeps within what all keep within
within_all : (n last : ℕ) (txns : List Txn) → All (λ (t : Txn). t.number ≤ last) txns → is_some (txn_numbered n txns) ≡ true → n ≤ last
within_all n last [] all h = absurd (let never : false ≡ true = h in cc)
within_all n last (t ∷ txns) all h =
    elim (eqb_tells t.number n) [
      | inl e ↦ omega (arith, e.1, All-head (λ (u : Txn). u.number ≤ last) t txns all)
      | inr e ↦ within_all n last txns (All-tail (λ (u : Txn). u.number ≤ last) t txns all) (rw (e.0) at h)
    ]

-- ---- seats

-- a transaction of a session after a seat is set: that of the set seat, or that of another session as before
set_txn : (seats : List Seat) (i j n : ℕ) (s : Seat) → txn_in (slice_set seats i s) j ≡ Some n → ((j ≡ i) × (s.txn ≡ Some n)) ⊎ ((j ≢ i) × (txn_in seats j ≡ Some n))
set_txn [] i j n s h = absurd (let never : None ≡ Some n = h in cc)
set_txn (t ∷ seats) zero zero n s h = inl (refl, h)
set_txn (t ∷ seats) zero (suc j) n s h = inr ((λ e. absurd (omega (arith, e))), h)
set_txn (t ∷ seats) (suc i) zero n s h = inr ((λ e. absurd (omega (arith, e))), h)
set_txn (t ∷ seats) (suc i) (suc j) n s h =
    elim (set_txn seats i j n s h) [
      | inl e ↦ inl (ap (λ k. suc k) e.0, e.1)
      | inr e ↦ inr ((λ same. e.0 (omega (arith, same))), e.1)
    ]

pub seats_at : (n : ℕ) (f : Txn → Txn) (seats : List Seat) (txns : List Txn) → KeepsNumber f → Seated seats txns → Seated seats (at_txn n f txns)
seats_at n f seats txns keeps s = record { named = λ i k is. kept_at k n f txns keeps (s.named i k is); alone = s.alone; idle = s.idle }

-- what holds of each entry of a list and of one that is set holds of each entry then
pub set_holds : {A : Type 0} (P : A → Type 0) (l : List A) (i : ℕ) (x none : A) → P x → ((j : ℕ) → P (slice_index_or l j none)) → (j : ℕ) → P (slice_index_or (slice_set l i x) j none)
set_holds P [] i x none p h j = h j
set_holds P (a ∷ l) zero x none p h zero = p
set_holds P (a ∷ l) zero x none p h (suc j) = h (suc j)
set_holds P (a ∷ l) (suc i) x none p h zero = h 0
set_holds P (a ∷ l) (suc i) x none p h (suc j) = set_holds P l i x none p (λ k. h (suc k)) j

-- a seat with a transaction is no idle one
has_txn : (u : Seat) (txn : ℕ) → u.txn ≡ Some txn → IsIdle u
has_txn u txn is = λ none. absurd (let never : None ≡ Some txn = sym none ∙ is in cc)

-- a session's seat with the same transaction
seats_same : (seats : List Seat) (txns : List Txn) (i txn : ℕ) (u : Seat) → txn_in seats i ≡ Some txn → u.txn ≡ Some txn → Seated seats txns → Seated (slice_set seats i u) txns
seats_same seats txns i txn u own same s = record {
  named = λ j n is. s.named j n (before j n is);
  alone = λ j k n is_j is_k. s.alone j k n (before j n is_j) (before k n is_k);
  idle = set_holds IsIdle seats i u no_seat (has_txn u txn same) s.idle;
}
  where
    before : (j n : ℕ) → txn_in (slice_set seats i u) j ≡ Some n → txn_in seats j ≡ Some n
    before j n is = elim (set_txn seats i j n u is) [ inl e ↦ ap (λ k. txn_in seats k) e.0 ∙ own ∙ sym same ∙ e.1 | inr e ↦ e.1 ]

-- a session begins a transaction behind all others
seats_begun : (seats : List Seat) (txns : List Txn) (i last : ℕ) (u : Seat) → All (λ (t : Txn). t.number ≤ last) txns → Seated seats txns
    → Seated (slice_set seats i (record u { txn = Some (last + 1) })) (txns ++ begun (last + 1) ∷ [])
seats_begun seats txns i last u within s = record {
  named = λ j n is. elim (split j n is) [
    | inl e ↦ subst (λ (k : ℕ). is_some (txn_numbered k (txns ++ begun (last + 1) ∷ [])) ≡ true) e.1 (new_pushed (last + 1) txns)
    | inr e ↦ kept_pushed n txns (begun (last + 1)) (s.named j n e.1)
  ];
  alone = λ j k n is_j is_k. elim (split j n is_j) [
    | inl e ↦ elim (split k n is_k) [ inl f ↦ e.0 ∙ sym f.0 | inr f ↦ absurd (omega (arith, e.1, within_all n last txns within (s.named k n f.1))) ]
    | inr e ↦ elim (split k n is_k) [ inl f ↦ absurd (omega (arith, f.1, within_all n last txns within (s.named j n e.1))) | inr f ↦ s.alone j k n e.1 f.1 ]
  ];
  idle = set_holds IsIdle seats i (record u { txn = Some (last + 1) }) no_seat (has_txn (record u { txn = Some (last + 1) }) (last + 1) refl) s.idle;
}
  where
    number : (n : ℕ) → Some (last + 1) ≡ Some n → last + 1 ≡ n
    number n h = cc

    split : (j n : ℕ) → txn_in (slice_set seats i (record u { txn = Some (last + 1) })) j ≡ Some n → ((j ≡ i) × (last + 1 ≡ n)) ⊎ ((j ≢ i) × (txn_in seats j ≡ Some n))
    split j n is = elim (set_txn seats i j n (record u { txn = Some (last + 1) }) is) [ inl e ↦ inl (e.0, number n e.1) | inr e ↦ inr e ]

-- a session's transaction ends
seats_ended : (seats : List Seat) (txns : List Txn) (i txn : ℕ) (u : Seat) → u.txn ≡ None → u.shares ≡ [] → txn_in seats i ≡ Some txn → Seated seats txns → Seated (slice_set seats i u) (without_txn txn txns)
seats_ended seats txns i txn u none free own s = record {
  named = λ j n is. (let o = other j n is in
      elim (eqb_tells txn n) [
        | inl e ↦ absurd (o.0 (s.alone j i n o.1 (own ∙ ap (λ (k : ℕ). Some k) e.1)))
        | inr e ↦ kept_without n txn txns e.0 (s.named j n o.1)
      ]);
  alone = λ j k n is_j is_k. s.alone j k n (other j n is_j).1 (other k n is_k).1;
  idle = set_holds IsIdle seats i u no_seat (λ n. free) s.idle;
}
  where
    other : (j n : ℕ) → txn_in (slice_set seats i u) j ≡ Some n → (j ≢ i) × (txn_in seats j ≡ Some n)
    other j n is = elim (set_txn seats i j n u is) [ inl e ↦ absurd (let never : None ≡ Some n = sym none ∙ e.1 in cc) | inr e ↦ e ]

-- ---- steps of the machine

pub seat_regular : (m : Machine) (k txn : ℕ) (s : Seat) → (seat_of m k).txn ≡ Some txn → s.txn ≡ Some txn → Regular m → Regular (with_seat k s m)
seat_regular m k txn s own same h =
    let t = told m h in
    regular (with_seat k s m) (record { ascending = t.ascending; pending = t.pending; numbers = t.numbers; pages = t.pages; kept = t.kept; short = t.short })
    (seats_same m.work.sessions (txns_in m) (k - 1) txn s own same (seated m h)) h.orderly.need h.orderly.picking

-- a change or an undo of a row
row_regular : (n : ℕ) (rid : Rid) (r : Record) (m : Machine) → ((last : ℕ) → Fits last r) → ((seats : List Seat) (txns : List Txn) → Seated seats txns → Seated seats (txns_after txns r))
    → Regular m → Regular (change_row n rid r m)
row_regular n rid r m f keeps h =
    let ready = before_change n (rid.space, rid.page) m in
    let g = calm_regular m ready (before_calm n (rid.space, rid.page) m) h in
    after_regular r ready ready.work.sessions (f (last_of ready)) (keeps ready.work.sessions (txns_in ready) (seated ready g)) g

pub changed_regular : (n txn : ℕ) (rid : Rid) (before after : Option Row) (m : Machine) → is_value before ≡ true → is_value after ≡ true → Regular m
    → Regular (change_row n rid (Change txn rid before after) m)
changed_regular n txn rid before after m b a h =
    row_regular n rid (Change txn rid before after) m (λ last. (b, a)) (λ seats txns s. seats_at txn (with_change rid before) seats txns (λ t. refl) s) h

pub undone_regular : (n txn : ℕ) (rid : Rid) (value : Option Row) (m : Machine) → is_value value ≡ true → Regular m → Regular (change_row n rid (Undo txn rid value) m)
undone_regular n txn rid value m v h =
    row_regular n rid (Undo txn rid value) m (λ last. v) (λ seats txns s. seats_at txn with_undo seats txns (λ t. refl) s) h

pub begun_regular : (m : Machine) (k : ℕ) (s : Seat) → Regular m → Regular (with_seat k (record s { txn = Some (last_of m + 1) }) (append (BeginRecord (last_of m + 1)) m))
begun_regular m k s h =
    let seats = slice_set m.work.sessions (k - 1) (record s { txn = Some (last_of m + 1) }) in
    after_regular (BeginRecord (last_of m + 1)) m seats refl (seats_begun m.work.sessions (txns_in m) (k - 1) (last_of m) s h.numbers (seated m h)) h

pub ended_regular : (r : Record) (m : Machine) (k txn : ℕ) (s : Seat) → Fits (last_of m) r → txns_after (txns_in m) r ≡ without_txn txn (txns_in m) → s.txn ≡ None → s.shares ≡ [] → (seat_of m k).txn ≡ Some txn → Regular m
    → Regular (with_seat k s (append r m))
ended_regular r m k txn s f ends none free own h =
    let seats = slice_set m.work.sessions (k - 1) s in
    after_regular r m seats f (subst (λ (l : List Txn). Seated seats l) (sym ends) (seats_ended m.work.sessions (txns_in m) (k - 1) txn s none free own (seated m h))) h

-- ---- a newly formatted disk

pub formatted_regular : (c : Config) → Regular (formatted c)
formatted_regular c = record {
  orderly = formatted_orderly c;
  numbers = All-nil (λ (t : Txn). t.number ≤ 0);
  alone = λ j k n from_j from_k is_j is_k. absurd (let none = no_txn c j in cc);
  idle = λ k none. ap (λ (s : Seat). s.shares) (of_equal 16 (k - 1) no_seat);
  pages = λ space page. subst (λ (p : Page). HoldsShort p) (sym (all_blank c (range_with_len 0 (length c.spaces)) space page)) blank_short;
  kept = All-nil LeavesShort;
  records = All-nil LeavesShort;
}
