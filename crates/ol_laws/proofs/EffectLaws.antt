-- A sound journal with its roll back holds the effects of its committed transactions, and nothing else.
use Rattle.std.specs.Prelude.{Bool, List, None, Option, Some, [], false, refl, slice_get, true, ℕ, ◌&&◌, ◌++◌, ◌+◌, ◌<◌, ◌==◌, ◌||◌, ◌∷◌, ◌≡◌, ◌≤◌, ◌⊎◌}
use Rattle.std.proofs.Common.{ap, append-nil, append_assoc, arith, inl, inr, sym, ◌∙◌}
use Rattle.std.proofs.lemmas.Bool.{and_right, cases_Bool, eqb-true, or_cases, or_right}
use Rattle.std.proofs.lemmas.Bool.Decides.{eqb_tells}
use Rattle.std.proofs.lemmas.List.Elements.{All-nil}
use Rattle.std.proofs.lemmas.List.Folds.{list_any-append}
use Rattle.std.proofs.lemmas.List.Sums.{fold-append}
use Rattle.ol_values.specs.declared.record.Record.{Record}
use Rattle.ol_values.specs.declared.record.Record.TheVariants.{Begin as BeginRecord, Change, Commit as CommitRecord, Rolled, Undo}
use Rattle.ol_values.specs.declared.record.Rid.{Rid}
use Rattle.ol_values.specs.declared.row.Row.{Row}
use Rattle.ol_values.specs.Config.{Config}
use Rattle.ol_rules.specs.Effects.{commits, effect_after, effect_at, effect_from, is_committed}
use Rattle.ol_rules.specs.Journal.{row_after, row_at, same_place}
use Rattle.ol_rules.specs.Sound.{Before, IsNewChange, IsNewUndo, IsOne, Meets, Sound, SoundFrom, after, afterwards, start}
use Rattle.ol_rules.specs.Transactions.{Txn, at_txn, back, begun, open_at, rolled_back, txn_numbered, txns_after, with_change, with_undo, without_txn}
use Rattle.ol_laws.proofs.Found.{find_at, find_or_new, find_without, found_any, found_number, found_within, none_without, one_as, some_is}
use Rattle.ol_laws.proofs.JournalLaws.{same_self}
use Rattle.ol_laws.proofs.LockLaws.{AllCover, Covers, FreeBut, Locks, all_cover_after, eq_turn, locks_change, locks_new, locks_undo, locks_without, pends, same_place_is}
use Rattle.ol_laws.proofs.SoundLaws.{rows_of, txns_of}
use Rattle.ol_laws.proofs.TakenBack.{Others, all_of, and_one, change_elsewhere, change_there, kept_there, or_none, others_of, undo_all, undo_back, undo_committed, undo_elsewhere, undo_new, undo_rolled, undo_there}
use Rattle.ol_laws.proofs.TxnLaws.{InOrder, KeepsNumber, at_one, differ, distinct, in_order_after, none_open}

-- ---- numbers that are open or still to come

-- the number is still to come, or its transaction is open, and this holds of it
abbrev Seen : List Txn → ℕ → ℕ → (Txn → Type 0) → Type 0
Seen txns last n P = (last < n) ⊎ IsOne (txn_numbered n txns) P

seen_begin : (txns : List Txn) (last n : ℕ) (P : Txn → Type 0) → Seen (txns ++ begun (last + 1) ∷ []) (last + 1) n P → Seen txns last n P
seen_begin txns last n P (inl h) = inl (omega arith)
seen_begin txns last n P (inr h) = elim (find_or_new n (last + 1) P txns h) [ inl f ↦ inr f | inr e ↦ inl (omega (arith, e)) ]

seen_at : (txns : List Txn) (last n m : ℕ) (f : Txn → Txn) (P : Txn → Type 0) → KeepsNumber f → ((t : Txn) → P (at_one m f t) → P t) → Seen (at_txn m f txns) (last + 1) n P → Seen txns last n P
seen_at txns last n m f P keeps less (inl h) = inl (omega arith)
seen_at txns last n m f P keeps less (inr h) = inr (one_as (λ t. P (at_one m f t)) P (txn_numbered n txns) less (find_at n m f P txns keeps h))

seen_without : (txns : List Txn) (last n m : ℕ) (P : Txn → Type 0) → Seen (without_txn m txns) (last + 1) n P → Seen txns last n P
seen_without txns last n m P (inl h) = inl (omega arith)
seen_without txns last n m P (inr h) =
    elim (eqb_tells m n) [ inl e ↦ absurd (none_without n P txns (rw (e.1) at h)) | inr e ↦ inr (find_without n m P txns e.0 h) ]

seen_not : (txns : List Txn) (last n m : ℕ) (P : Txn → Type 0) → m ≤ last → Seen (without_txn m txns) (last + 1) n P → (m == n) ≡ false
seen_not txns last n m P le (inl h) = sym (eq_turn n m) ∙ differ m n (omega arith)
seen_not txns last n m P le (inr h) =
    elim (eqb_tells m n) [ inl e ↦ absurd (none_without n P txns (rw (e.1) at h)) | inr e ↦ e.0 ]

-- ---- which changes count

-- the committed transactions count, and those kept
abbrev counts : (ℕ → Bool) → List Record → ℕ → Bool
counts keeps done n = is_committed done n || keeps n

effect_after-same : (f g : ℕ → Bool) (place : Rid) (held : Option Row) (r : Record) → ((n : ℕ) → f n ≡ g n) → effect_after f place held r ≡ effect_after g place held r
effect_after-same f g place held (BeginRecord n) h = refl
effect_after-same f g place held (Change n rid before after) h = rw (h n) refl
effect_after-same f g place held (Undo n rid value) h = refl
effect_after-same f g place held (CommitRecord n) h = refl
effect_after-same f g place held (Rolled n) h = refl

effect_from-same : (f g : ℕ → Bool) (place : Rid) (held : Option Row) (records : List Record) → ((n : ℕ) → f n ≡ g n) → effect_from f held records place ≡ effect_from g held records place
effect_from-same f g place held [] h = refl
effect_from-same f g place held (r ∷ records) h =
    ap (λ (x : Option Row). effect_from f x records place) (effect_after-same f g place held r h) ∙ effect_from-same f g place (effect_after g place held r) records h

is_committed-push : (done : List Record) (r : Record) (n : ℕ) → is_committed (done ++ r ∷ []) n ≡ (is_committed done n || commits n r)
is_committed-push done r n = list_any-append (commits n) done (r ∷ []) ∙ ap (λ (x : Bool). is_committed done n || x) (or_none (commits n r))

-- a record that is no commit leaves what counts
counts-push : (keeps : ℕ → Bool) (done : List Record) (r : Record) → ((n : ℕ) → commits n r ≡ false) → (n : ℕ) → counts keeps done n ≡ counts keeps (done ++ r ∷ []) n
counts-push keeps done r h n =
    ap (λ (x : Bool). x || keeps n) (sym (is_committed-push done r n ∙ ap (λ (x : Bool). is_committed done n || x) (h n) ∙ or_none (is_committed done n)))

or_turn : (a b c : Bool) → (a || (b || c)) ≡ ((a || c) || b)
or_turn true b c = refl
or_turn false true true = refl
or_turn false true false = refl
or_turn false false true = refl
or_turn false false false = refl

-- what commits was to be kept before
counts-commit : (keeps : ℕ → Bool) (done : List Record) (m n : ℕ) → counts (and_one keeps m) done n ≡ counts keeps (done ++ CommitRecord m ∷ []) n
counts-commit keeps done m n =
    or_turn (is_committed done n) (keeps n) (n == m)
    ∙ ap (λ (x : Bool). (is_committed done n || x) || keeps n) (eq_turn n m)
    ∙ ap (λ (x : Bool). x || keeps n) (sym (is_committed-push done (CommitRecord m) n))

-- ---- what is kept

-- those kept are still to come, or open with nothing taken back
abbrev Valid : (ℕ → Bool) → List Txn → ℕ → Type 0
Valid keeps txns last = (n : ℕ) → keeps n ≡ true → Seen txns last n (λ t. t.undone ≡ false)

-- the open transactions hold different places, none of them has committed, and all taken back but those kept, the effects of what counts are left
record Unwinds (done : List Record) (b : Before) : Type 0 where
  order : InOrder b.txns b.last
  covers : AllCover b.txns
  locks : Locks b.txns
  uncommitted : (n : ℕ) → Seen b.txns b.last n (λ t. Unit {0}) → is_committed done n ≡ false
  rows : (keeps : ℕ → Bool) → Valid keeps b.txns b.last → (place : Rid) → undo_all keeps place (b.row place) b.txns ≡ effect_from (counts keeps done) None done place

-- what a record has to give for it
record Goes (done : List Record) (b : Before) (r : Record) : Type 0 where
  locks : Locks (txns_after b.txns r)
  uncommitted : (n : ℕ) → Seen (txns_after b.txns r) (b.last + 1) n (λ t. Unit {0}) → (is_committed done n || commits n r) ≡ false
  rows : (keeps : ℕ → Bool) → Valid keeps (txns_after b.txns r) (b.last + 1) → (place : Rid)
      → undo_all keeps place (row_after place (b.row place) r) (txns_after b.txns r) ≡ effect_after (counts keeps (done ++ r ∷ [])) place (effect_from (counts keeps (done ++ r ∷ [])) None done place) r

unwinds_push : (c : Config) (done : List Record) (b : Before) (r : Record) → Unwinds done b → Meets c b r → Goes done b r → Unwinds (done ++ r ∷ []) (after b r)
unwinds_push c done b r u m g = record {
  order = in_order_after c b r u.order m;
  covers = all_cover_after b.txns r u.covers;
  locks = g.locks;
  uncommitted = λ n seen. is_committed-push done r n ∙ g.uncommitted n seen;
  rows = λ keeps valid place. g.rows keeps valid place ∙ sym (fold-append (effect_after (counts keeps (done ++ r ∷ [])) place) None done (r ∷ []));
}

-- the effects before a record, with what counts after it
effects_as : (keeps before : ℕ → Bool) (done : List Record) (b : Before) (r : Record) → Unwinds done b → Valid before b.txns b.last → ((n : ℕ) → counts before done n ≡ counts keeps (done ++ r ∷ []) n) → (place : Rid)
    → undo_all before place (b.row place) b.txns ≡ effect_from (counts keeps (done ++ r ∷ [])) None done place
effects_as keeps before done b r u v h place = u.rows before v place ∙ effect_from-same (counts before done) (counts keeps (done ++ r ∷ [])) place None done h

-- ---- a begin and the ends

goes_begin : (done : List Record) (b : Before) (n : ℕ) → Unwinds done b → n ≡ b.last + 1 → Goes done b (BeginRecord n)
goes_begin done b n u e = rw (e) (record {
  locks = locks_new (b.last + 1) b.txns u.locks;
  uncommitted = λ m seen. or_none (is_committed done m) ∙ u.uncommitted m (seen_begin b.txns b.last m (λ t. Unit {0}) seen);
  rows = λ keeps valid place.
      undo_new keeps place (b.row place) (b.last + 1) b.txns
      ∙ effects_as keeps keeps done b (BeginRecord (b.last + 1)) u (λ m k. seen_begin b.txns b.last m (λ t. t.undone ≡ false) (valid m k)) (counts-push keeps done (BeginRecord (b.last + 1)) (λ m. refl)) place;
})

goes_rolled : (done : List Record) (b : Before) (n : ℕ) → Unwinds done b → IsOne (txn_numbered n b.txns) (λ t. t.pending ≡ []) → Goes done b (Rolled n)
goes_rolled done b n u m = record {
  locks = locks_without n b.txns u.locks;
  uncommitted = λ k seen. or_none (is_committed done k) ∙ u.uncommitted k (seen_without b.txns b.last k n (λ t. Unit {0}) seen);
  rows = λ keeps valid place.
      undo_rolled keeps place (b.row place) n b.txns (all_of n (λ t. t.pending ≡ []) b.txns (distinct b.txns u.order.ascending) m)
      ∙ effects_as keeps keeps done b (Rolled n) u (λ k h. seen_without b.txns b.last k n (λ t. t.undone ≡ false) (valid k h)) (counts-push keeps done (Rolled n) (λ k. refl)) place;
}

valid_commit : (keeps : ℕ → Bool) (b : Before) (n k : ℕ) → Valid keeps (without_txn n b.txns) (b.last + 1) → IsOne (txn_numbered n b.txns) (λ t. t.undone ≡ false) → and_one keeps n k ≡ true → Seen b.txns b.last k (λ t. t.undone ≡ false)
valid_commit keeps b n k valid m h =
    elim (or_cases (keeps k) (k == n) h) [
      | inl kept ↦ seen_without b.txns b.last k n (λ t. t.undone ≡ false) (valid k kept)
      | inr same ↦ inr (rw (eqb-true k n same) m)
    ]

goes_commit : (done : List Record) (b : Before) (n : ℕ) → Unwinds done b → IsOne (txn_numbered n b.txns) (λ t. t.undone ≡ false) → Goes done b (CommitRecord n)
goes_commit done b n u m = record {
  locks = locks_without n b.txns u.locks;
  uncommitted = λ k seen.
      let other : (n == k) ≡ false = seen_not b.txns b.last k n (λ t. Unit {0}) (found_within n b.last (λ t. t.undone ≡ false) b.txns u.order.within m) seen in
      rw (other, u.uncommitted k (seen_without b.txns b.last k n (λ t. Unit {0}) seen)) refl;
  rows = λ keeps valid place.
      undo_committed keeps place (b.row place) n b.txns
      ∙ effects_as keeps (and_one keeps n) done b (CommitRecord n) u (λ k h. valid_commit keeps b n k valid m h) (counts-commit keeps done n) place;
}

-- ---- a change

undone_kept : (n : ℕ) (rid : Rid) (before : Option Row) (t : Txn) → (at_one n (with_change rid before) t).undone ≡ false → t.undone ≡ false
undone_kept n rid before t h =
    elim (cases_Bool (t.number == n)) [ inl e ↦ (rw (e) at h) | inr e ↦ (rw (e) at h) ]

-- the effect of a change: none elsewhere or where it does not count, else what it leaves
effect_off : (f : ℕ → Bool) (place : Rid) (held : Option Row) (n : ℕ) (rid : Rid) (before after : Option Row) → (f n && same_place rid place) ≡ false → effect_after f place held (Change n rid before after) ≡ held
effect_off f place held n rid before after h = rw (h) refl

effect_on : (f : ℕ → Bool) (place : Rid) (held : Option Row) (n : ℕ) (rid : Rid) (before after : Option Row) → (f n && same_place rid place) ≡ true → effect_after f place held (Change n rid before after) ≡ after
effect_on f place held n rid before after h = rw (h) refl

row_off : (place : Rid) (held : Option Row) (n : ℕ) (rid : Rid) (before after : Option Row) → same_place rid place ≡ false → row_after place held (Change n rid before after) ≡ held
row_off place held n rid before after h = rw (h) refl

row_on : (place : Rid) (held : Option Row) (n : ℕ) (rid : Rid) (before after : Option Row) → same_place rid place ≡ true → row_after place held (Change n rid before after) ≡ after
row_on place held n rid before after h = rw (h) refl

change_rows : (c : Config) (done : List Record) (b : Before) (n : ℕ) (rid : Rid) (before value : Option Row) → Unwinds done b → IsOne (txn_numbered n b.txns) (IsNewChange c b n rid before value)
    → before ≡ b.row rid → FreeBut n rid b.txns
    → (keeps : ℕ → Bool) → Valid keeps (at_txn n (with_change rid before) b.txns) (b.last + 1) → (place : Rid)
    → (let r : Record = Change n rid before value in
    undo_all keeps place (row_after place (b.row place) r) (at_txn n (with_change rid before) b.txns) ≡ effect_after (counts keeps (done ++ r ∷ [])) place (effect_from (counts keeps (done ++ r ∷ [])) None done place) r)
change_rows c done b n rid before value u m holds free keeps valid place =
    let r : Record = Change n rid before value in
    let f = counts keeps (done ++ r ∷ []) in
    let was = effects_as keeps keeps done b r u (λ k h. seen_at b.txns b.last k n (with_change rid before) (λ t. t.undone ≡ false) (λ t. refl) (undone_kept n rid before) (valid k h)) (counts-push keeps done r (λ k. refl)) place in
    elim (cases_Bool (same_place rid place)) [
      | inr off ↦
          ap (λ (x : Option Row). undo_all keeps place x (at_txn n (with_change rid before) b.txns)) (row_off place (b.row place) n rid before value off)
          ∙ change_elsewhere keeps place (b.row place) n rid before b.txns off
          ∙ was
          ∙ sym (effect_off f place (effect_from f None done place) n rid before value (and_right (f n) (same_place rid place) off))
      | inl there ↦
          (let others : Others n place b.txns = rw (← same_place_is rid place there) (others_of n rid b.txns u.covers free) in
          let first = ap (λ (x : Option Row). undo_all keeps place x (at_txn n (with_change rid before) b.txns)) (row_on place (b.row place) n rid before value there) in
          elim (cases_Bool (keeps n)) [
            | inl kept ↦ first ∙ kept_there keeps place value n (with_change rid before) b.txns kept (λ t. refl) others
                ∙ sym (effect_on f place (effect_from f None done place) n rid before value (rw (kept, there, or_right (is_committed (done ++ r ∷ []) n) true refl) refl))
            | inr not_kept ↦
                (let still_open : is_committed done n ≡ false = u.uncommitted n (inr (one_as (IsNewChange c b n rid before value) (λ t. Unit {0}) (txn_numbered n b.txns) (λ t k. tt) m)) in
                let uncounted : is_committed (done ++ r ∷ []) n ≡ false = is_committed-push done r n ∙ rw (still_open) refl in
                let row_is : before ≡ b.row place = holds ∙ ap b.row (same_place_is rid place there) in
                first
                ∙ change_there keeps place before value n rid b.txns there not_kept (distinct b.txns u.order.ascending) others (found_any n (IsNewChange c b n rid before value) b.txns m)
                ∙ ap (λ (x : Option Row). undo_all keeps place x b.txns) row_is
                ∙ was
                ∙ sym (effect_off f place (effect_from f None done place) n rid before value (rw (uncounted, not_kept) refl)))
          ])
    ]

goes_change : (c : Config) (done : List Record) (b : Before) (n : ℕ) (rid : Rid) (before value : Option Row) → Unwinds done b → IsOne (txn_numbered n b.txns) (IsNewChange c b n rid before value) → Goes done b (Change n rid before value)
goes_change c done b n rid before value u m =
    let free : FreeBut n rid b.txns = some_is (txn_numbered n b.txns) m (λ t s. s.alone) in
    let holds : before ≡ b.row rid = some_is (txn_numbered n b.txns) m (λ t s. s.held) in
    record {
      locks = locks_change n rid before b.txns u.covers free u.locks;
      uncommitted = λ k seen. or_none (is_committed done k) ∙ u.uncommitted k (seen_at b.txns b.last k n (with_change rid before) (λ t. Unit {0}) (λ t. refl) (λ t h. tt) seen);
      rows = change_rows c done b n rid before value u m holds free;
    }

-- ---- an undo

abbrev PendsFirst : Rid → Option Row → Txn → Type 0
PendsFirst rid value t = slice_get t.pending 0 ≡ Some (rid, value)

same_place_self : (a : Rid) → same_place a a ≡ true
same_place_self a = rw (same_self a.space, same_self a.page, same_self a.slot) refl

first_pends : (rid : Rid) (value : Option Row) (pending : List (Rid × Option Row)) → slice_get pending 0 ≡ Some (rid, value) → pends rid pending ≡ true
first_pends rid value [] h = absurd (let e : None ≡ Some (rid, value) = h in cc)
first_pends rid value (p ∷ pending) h =
    let e : p ≡ (rid, value) = cc in
    let f : p.0 ≡ rid = ap (λ (q : Rid × Option Row). q.0) e in
    rw (f, same_place_self rid) refl

undone_not : (n : ℕ) (t : Txn) → (at_one n with_undo t).undone ≡ false → t.undone ≡ false
undone_not n t h =
    elim (cases_Bool (t.number == n)) [ inl e ↦ absurd (let f : true ≡ false = (rw (e) at h) in cc) | inr e ↦ (rw (e) at h) ]

undone_never : (n : ℕ) (txns : List Txn) → IsOne (txn_numbered n (at_txn n with_undo txns)) (λ t. t.undone ≡ false) → ⊥
undone_never n txns h =
    some_is (txn_numbered n txns) (found_number n (λ t. (at_one n with_undo t).undone ≡ false) txns (find_at n n with_undo (λ t. t.undone ≡ false) txns (λ t. refl) h))
    (λ t q. let e : (t.number == n) ≡ true = rw (q.1) (same_self n) in let k : (at_one n with_undo t).undone ≡ false = q.0 in let f : true ≡ false = (rw (e) at k) in absurd (let g : true ≡ false = f in cc))

-- a transaction of which a change was taken back is not kept
not_kept_undone : (b : Before) (n : ℕ) (keeps : ℕ → Bool) → n ≤ b.last → Valid keeps (at_txn n with_undo b.txns) (b.last + 1) → keeps n ≡ false
not_kept_undone b n keeps le valid =
    elim (cases_Bool (keeps n)) [
      | inl k ↦ elim (valid n k) [ inl later ↦ absurd (let h : b.last + 1 < n = later in omega arith) | inr found ↦ absurd (undone_never n b.txns found) ]
      | inr k ↦ k
    ]

undo_rows : (done : List Record) (b : Before) (n : ℕ) (rid : Rid) (value : Option Row) → Unwinds done b → IsOne (txn_numbered n b.txns) (PendsFirst rid value)
    → (keeps : ℕ → Bool) → Valid keeps (at_txn n with_undo b.txns) (b.last + 1) → (place : Rid)
    → undo_all keeps place (row_after place (b.row place) (Undo n rid value)) (at_txn n with_undo b.txns) ≡ effect_from (counts keeps (done ++ Undo n rid value ∷ [])) None done place
undo_rows done b n rid value u m keeps valid place =
    let r : Record = Undo n rid value in
    let apart = distinct b.txns u.order.ascending in
    let firsts = all_of n (PendsFirst rid value) b.txns apart m in
    let was = effects_as keeps keeps done b r u (λ k h. seen_at b.txns b.last k n with_undo (λ t. t.undone ≡ false) (λ t. refl) (undone_not n) (valid k h)) (counts-push keeps done r (λ k. refl)) place in
    elim (cases_Bool (same_place rid place)) [
      | inr off ↦
          (let same : row_after place (b.row place) r ≡ b.row place = rw (off) refl in
          ap (λ (x : Option Row). undo_all keeps place x (at_txn n with_undo b.txns)) same
          ∙ undo_elsewhere keeps place (b.row place) n rid value b.txns off firsts ∙ was)
      | inl there ↦
          (let same : row_after place (b.row place) r ≡ value = rw (there) refl in
          let lock : FreeBut n rid b.txns = u.locks n rid (one_as (PendsFirst rid value) (λ t. pends rid t.pending ≡ true) (txn_numbered n b.txns) (λ t h. first_pends rid value t.pending h) m) in
          let others : Others n place b.txns = rw (← same_place_is rid place there) (others_of n rid b.txns u.covers lock) in
          let not_kept = not_kept_undone b n keeps (found_within n b.last (PendsFirst rid value) b.txns u.order.within m) valid in
          ap (λ (x : Option Row). undo_all keeps place x (at_txn n with_undo b.txns)) same
          ∙ undo_there keeps place (b.row place) n rid value b.txns there not_kept apart others firsts (found_any n (PendsFirst rid value) b.txns m) ∙ was)
    ]

goes_undo : (done : List Record) (b : Before) (n : ℕ) (rid : Rid) (value : Option Row) → Unwinds done b → IsOne (txn_numbered n b.txns) (PendsFirst rid value) → Goes done b (Undo n rid value)
goes_undo done b n rid value u m = record {
  locks = locks_undo n b.txns u.locks;
  uncommitted = λ k seen. or_none (is_committed done k) ∙ u.uncommitted k (seen_at b.txns b.last k n with_undo (λ t. Unit {0}) (λ t. refl) (λ t h. tt) seen);
  rows = undo_rows done b n rid value u m;
}

-- ---- whole journals

goes : (c : Config) (done : List Record) (b : Before) (r : Record) → Unwinds done b → Meets c b r → Goes done b r
goes c done b (BeginRecord n) u m = goes_begin done b n u m.0
goes c done b (Change n rid before value) u m = goes_change c done b n rid before value u m
goes c done b (Undo n rid value) u m = goes_undo done b n rid value u (one_as (IsNewUndo c rid value) (PendsFirst rid value) (txn_numbered n b.txns) (λ t s. s.newest) m)
goes c done b (CommitRecord n) u m = goes_commit done b n u m
goes c done b (Rolled n) u m = goes_rolled done b n u m

unwinds_from : (c : Config) (done : List Record) (b : Before) (rest : List Record) → Unwinds done b → SoundFrom c b rest → Unwinds (done ++ rest) (afterwards b rest)
unwinds_from c done b [] u s = rw (append-nil) u
unwinds_from c done b (r ∷ rest) u s =
    rw (← append_assoc done (r ∷ []) rest) (unwinds_from c (done ++ r ∷ []) (after b r) rest (unwinds_push c done b r u s.0 (goes c done b r u s.0)) s.2)

unwinds : (c : Config) (journal : List Record) → Sound c journal → Unwinds journal (afterwards start journal)
unwinds c journal s =
    unwinds_from c [] start journal (record { order = none_open; covers = All-nil Covers; locks = λ n place h. refl; uncommitted = λ n h. refl; rows = λ keeps v place. refl }) s

pub rows_are_effects : (c : Config) (journal : List Record) → Sound c journal → (place : Rid) → row_at (rolled_back journal) place ≡ effect_at journal place
rows_are_effects c journal s place =
    let b = afterwards start journal in
    let none : ℕ → Bool = λ n. false in
    let left : undo_all none place (row_at journal place) (open_at journal) ≡ undo_all none place (b.row place) b.txns =
    ap (λ (x : Option Row). undo_all none place x (open_at journal)) (sym (rows_of start journal place))
    ∙ ap (λ (l : List Txn). undo_all none place (b.row place) l) (sym (txns_of start journal)) in
    fold-append (row_after place) None journal (back (open_at journal))
    ∙ undo_back (open_at journal) (row_at journal place) place
    ∙ left
    ∙ (unwinds c journal s).rows none (λ n k. absurd (let e : false ≡ true = k in cc)) place
    ∙ effect_from-same (counts none journal) (is_committed journal) place None journal (λ n. or_none (is_committed journal n))
