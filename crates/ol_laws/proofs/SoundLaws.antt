-- Sound journals: their parts, the state after them, and what holds of it.
use Rattle.std.specs.Prelude.{All, Bool, List, None, Option, Some, [], is_some, length, refl, ℕ, ◌++◌, ◌+◌, ◌<◌, ◌^◌, ◌∷◌, ◌≡◌, ◌≤◌, true}
use Rattle.std.proofs.Common.{ap, arith, subst, ◌∙◌}
use Rattle.std.proofs.lemmas.List.Elements.{All-cons, All-drop, All-head, All-nil}
use Rattle.ol_values.specs.declared.record.Record.{Record}
use Rattle.ol_values.specs.declared.record.Record.TheVariants.{Begin as BeginRecord, Change, Commit as CommitRecord, Rolled, Undo}
use Rattle.ol_values.specs.declared.record.Rid.{Rid}
use Rattle.ol_values.specs.declared.row.Row.{Row}
use Rattle.ol_values.specs.Config.{Config, has_place, log_pages}
use Rattle.ol_rules.specs.Journal.{row_from}
use Rattle.ol_rules.specs.Sound.{Before, HasRoom, IsOne, Meets, Sound, SoundFrom, after, afterwards, start}
use Rattle.ol_rules.specs.Transactions.{Txn, back, open_at, owed, txn_numbered, txns_from}
use Rattle.ol_laws.proofs.BackLaws.{back_step, owed_is}
use Rattle.ol_laws.proofs.Found.{some_is}
use Rattle.ol_laws.proofs.JournalLaws.{same_self}
use Rattle.ol_laws.proofs.TxnLaws.{Distinct, Gives, InOrder, all_after, distinct, in_order_after, none_open}

-- ---- the state after records

pub rows_of : (b : Before) (records : List Record) (place : Rid) → (afterwards b records).row place ≡ row_from (b.row place) records place
rows_of b [] place = refl
rows_of b (r ∷ records) place = rows_of (after b r) records place

pub txns_of : (b : Before) (records : List Record) → (afterwards b records).txns ≡ txns_from b.txns records
txns_of b [] = refl
txns_of b (r ∷ records) = txns_of (after b r) records

pub last_after : (b : Before) (records : List Record) → (afterwards b records).last ≡ b.last + length records
last_after b [] = omega arith
last_after b (r ∷ records) = last_after (after b r) records ∙ omega arith

-- ---- parts of a journal

pub sound_join : (c : Config) (b : Before) (xs ys : List Record) → SoundFrom c b xs → SoundFrom c (afterwards b xs) ys → SoundFrom c b (xs ++ ys)
sound_join c b [] ys s t = t
sound_join c b (r ∷ xs) ys s t = (s.0, s.1, sound_join c (after b r) xs ys s.2 t)

pub sound_split : (c : Config) (b : Before) (xs ys : List Record) → SoundFrom c b (xs ++ ys) → SoundFrom c b xs × SoundFrom c (afterwards b xs) ys
sound_split c b [] ys s = (tt, s)
sound_split c b (r ∷ xs) ys s =
    let parts = sound_split c (after b r) xs ys s.2 in
    ((s.0, s.1, parts.0), parts.1)

-- what each sound record keeps holds after them all
pub kept_by_all : (c : Config) (P : Before → Type 0) → ((b : Before) (r : Record) → P b → Meets c b r → HasRoom c b r → P (after b r))
    → (b : Before) (records : List Record) → P b → SoundFrom c b records → P (afterwards b records)
kept_by_all c P keeps b [] p s = p
kept_by_all c P keeps b (r ∷ records) p s = kept_by_all c P keeps (after b r) records (keeps b r p s.0 s.1) s.2

-- ---- open transactions

-- each change not taken back is at a place of the configuration
abbrev pub IsThere : Config → Txn → Type 0
IsThere c t = All (λ (p : Rid × Option Row). has_place c p.0 ≡ true) t.pending

gives_there : (c : Config) (b : Before) (r : Record) → Meets c b r → Gives (IsThere c) r
gives_there c b (BeginRecord n) m = All-nil (λ (p : Rid × Option Row). has_place c p.0 ≡ true)
gives_there c b (Change n rid before after) m =
    λ t h. All-cons (λ (p : Rid × Option Row). has_place c p.0 ≡ true) (let p : Rid × Option Row = (rid, before) in p) t.pending (some_is (txn_numbered n b.txns) m (λ u s. s.there)) h
gives_there c b (Undo n rid value) m = λ t h. All-drop (λ (p : Rid × Option Row). has_place c p.0 ≡ true) 1 t.pending h
gives_there c b (CommitRecord n) m = tt
gives_there c b (Rolled n) m = tt

-- what holds after each sound journal
pub record Fine (c : Config) (b : Before) : Type 0 where
  pub order : InOrder b.txns b.last
  pub there : All (IsThere c) b.txns
  pub fits : owed b.txns ≤ log_pages c
  pub low : b.last + owed b.txns < 2 ^ 62

pub fine_after : (c : Config) (b : Before) (r : Record) → Fine c b → Meets c b r → HasRoom c b r → Fine c (after b r)
fine_after c b r f m h = record {
  order = in_order_after c b r f.order m;
  there = all_after (IsThere c) b.txns r (gives_there c b r m) f.there;
  fits = h.0;
  low = h.1;
}

pub fine_start : (c : Config) → Fine c start
fine_start c = record { order = none_open; there = All-nil (IsThere c); fits = omega arith; low = omega arith }

pub fine : (c : Config) (journal : List Record) → Sound c journal → Fine c (afterwards start journal)
fine c journal s = kept_by_all c (Fine c) (fine_after c) start journal (fine_start c) s

pub distinct_open : (c : Config) (journal : List Record) → Sound c journal → Distinct (open_at journal)
distinct_open c journal s = rw (← txns_of start journal) (distinct (afterwards start journal).txns (fine c journal s).order.ascending)

-- ---- the records of the roll back are sound

meets_step : (c : Config) (b : Before) (n : ℕ) (pending : List (Rid × Option Row)) (changed : List Rid) (undone : Bool) (txns : List Txn) (r : Record) (rest : List Record)
    → (let t : Txn = record { number = n; pending = pending; changed = changed; undone = undone } in
    IsThere c t → b.txns ≡ t ∷ txns → back (t ∷ txns) ≡ r ∷ rest → Meets c b r)
meets_step c b n [] changed undone txns r rest h e f =
    let q : r ≡ Rolled n = cc in
    rw (q, e, same_self n) refl
meets_step c b n (p ∷ pending) changed undone txns r rest h e f =
    let q : r ≡ Undo n p.0 p.1 = cc in
    rw (q, e, same_self n) (record { newest = refl; there = All-head (λ (x : Rid × Option Row). has_place c x.0 ≡ true) p pending h })

meets_first : (c : Config) (b : Before) (txns : List Txn) (r : Record) (rest : List Record) → All (IsThere c) txns → b.txns ≡ txns → back txns ≡ r ∷ rest → Meets c b r
meets_first c b [] r rest h e f = absurd (let g : [] ≡ r ∷ rest = f in cc)
meets_first c b (t ∷ txns) r rest h e f = meets_step c b t.number t.pending t.changed t.undone txns r rest (All-head (IsThere c) t txns h) e f

room_first : (c : Config) (b : Before) (r : Record) (rest : List Record) → Fine c b → back b.txns ≡ r ∷ rest → HasRoom c b r
room_first c b r rest f e =
    let old : owed b.txns ≡ length (r ∷ rest) = owed_is b.txns ∙ ap (λ (l : List Record). length l) e in
    let left = (back_step b.txns r rest (distinct b.txns f.order.ascending) e).0 in
    let new : owed (after b r).txns ≡ length rest = owed_is (after b r).txns ∙ ap (λ (l : List Record). length l) left in
    let more : length (r ∷ rest) ≡ length rest + 1 = omega arith in
    (omega (arith, old, new, more, f.fits), omega (arith, old, new, more, f.low))

pub sound_back : (c : Config) (b : Before) (rest : List Record) → Fine c b → back b.txns ≡ rest → SoundFrom c b rest
sound_back c b [] f e = tt
sound_back c b (r ∷ rest) f e =
    let m = meets_first c b b.txns r rest f.there refl e in
    let h = room_first c b r rest f e in
    (m, h, sound_back c (after b r) rest (fine_after c b r f m h) (back_step b.txns r rest (distinct b.txns f.order.ascending) e).0)

-- a sound journal with a first part of its roll back is sound
pub sound_with_back : (c : Config) (journal first rest : List Record) → Sound c journal → back (open_at journal) ≡ first ++ rest → Sound c (journal ++ first)
sound_with_back c journal first rest s e =
    let b = afterwards start journal in
    let whole : back b.txns ≡ first ++ rest = ap (λ (l : List Txn). back l) (txns_of start journal) ∙ e in
    sound_join c start journal first s (sound_split c b first rest (sound_back c b (first ++ rest) (fine c journal s) whole)).0

-- ---- what is found open before a record

one_there : (P : Txn → Type 0) (o : Option Txn) → IsOne o P → is_some o ≡ true
one_there P None h = absurd h
one_there P (Some t) h = refl

pub open_before : (c : Config) (journal more : List Record) (r : Record) (n : ℕ) (P : Txn → Type 0) → Sound c (journal ++ r ∷ more)
    → (Meets c (afterwards start journal) r → IsOne (txn_numbered n (afterwards start journal).txns) P) → is_some (txn_numbered n (open_at journal)) ≡ true
open_before c journal more r n P s found =
    subst (λ (l : List Txn). is_some (txn_numbered n l) ≡ true) (txns_of start journal) (one_there P (txn_numbered n (afterwards start journal).txns) (found (sound_split c start journal (r ∷ more) s).1.0))
