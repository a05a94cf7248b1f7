-- Folding the records from a checkpoint's need on gives the open transactions of the whole journal.
use Rattle.std.specs.Prelude.{All, List, [], false, length, nat_le, refl, true, ℕ, ◌++◌, ◌+◌, ◌<◌, ◌==◌, ◌∷◌, ◌≡◌, ◌≤◌}
use Rattle.std.proofs.Common.{ap, append_assoc, arith, inl, inr, length-append, subst, sym, ◌∙◌}
use Rattle.std.proofs.lemmas.Bool.{cases_Bool, le-leb, lt-leb}
use Rattle.std.proofs.lemmas.List.Elements.{All-cons, All-head, All-nil, All-tail, All-weaker, filter-append}
use Rattle.std.proofs.lemmas.List.Sums.{fold-append}
use Rattle.ol_values.specs.declared.record.Record.{Record}
use Rattle.ol_values.specs.declared.record.Record.TheVariants.{Begin as BeginRecord, Change, Commit as CommitRecord, Rolled, Undo}
use Rattle.ol_values.specs.Config.{Config}
use Rattle.ol_rules.specs.Sound.{Before, Meets, Sound, SoundFrom, after, afterwards, start}
use Rattle.ol_rules.specs.Transactions.{Ascending, AllBegin, BeginsFrom, Txn, at_txn, begun, low_at, low_of, numbered_from, open_at, txns_after, txns_from, with_change, with_undo, without_txn}
use Rattle.ol_laws.proofs.SoundLaws.{fine, last_after, sound_split, txns_of}
use Rattle.ol_laws.proofs.TxnLaws.{Gives, InOrder, KeepsNumber, all_after, at_one, number_kept}

-- ---- the transactions from a number on, after records

from_at : (low n : ℕ) (f : Txn → Txn) (txns : List Txn) → KeepsNumber f → numbered_from low (at_txn n f txns) ≡ at_txn n f (numbered_from low txns)
from_at low n f [] keeps = refl
from_at low n f (t ∷ txns) keeps =
    let same = number_kept n f t keeps in
    let rest = from_at low n f txns keeps in
    elim (cases_Bool (nat_le low t.number)) [
      | inl e ↦ (let g : nat_le low (at_one n f t).number ≡ true = rw (same) e in rw (g, e) (ap (λ (l : List Txn). at_one n f t ∷ l) rest))
      | inr e ↦ (let g : nat_le low (at_one n f t).number ≡ false = rw (same) e in rw (g, e) rest)
    ]

from_without : (low n : ℕ) (txns : List Txn) → numbered_from low (without_txn n txns) ≡ without_txn n (numbered_from low txns)
from_without low n [] = refl
from_without low n (t ∷ txns) =
    let rest = from_without low n txns in
    elim (cases_Bool (t.number == n)) [
      | inl e ↦ elim (cases_Bool (nat_le low t.number)) [ inl f ↦ rw (e, f, e) rest | inr f ↦ rw (e, f) rest ]
      | inr e ↦ elim (cases_Bool (nat_le low t.number)) [ inl f ↦ rw (e, f, e) (ap (λ (l : List Txn). t ∷ l) rest) | inr f ↦ rw (e, f) rest ]
    ]

from_after : (low : ℕ) (txns : List Txn) (r : Record) → BeginsFrom low r → numbered_from low (txns_after txns r) ≡ txns_after (numbered_from low txns) r
from_after low txns (BeginRecord n) h = filter-append (λ (t : Txn). nat_le low t.number) txns (begun n ∷ []) ∙ rw (le-leb low n h) refl
from_after low txns (Change n rid before after) h = from_at low n (with_change rid before) txns (λ t. refl)
from_after low txns (Undo n rid value) h = from_at low n with_undo txns (λ t. refl)
from_after low txns (CommitRecord n) h = from_without low n txns
from_after low txns (Rolled n) h = from_without low n txns

-- folding records that begin from a number on gives the transactions from that number on
pub from_records : (low : ℕ) (txns : List Txn) (records : List Record) → AllBegin low records → numbered_from low (txns_from txns records) ≡ txns_from (numbered_from low txns) records
from_records low txns [] h = refl
from_records low txns (r ∷ records) h =
    from_records low (txns_after txns r) records (All-tail (BeginsFrom low) r records h)
    ∙ ap (λ (l : List Txn). txns_from l records) (from_after low txns r (All-head (BeginsFrom low) r records h))

-- ---- where all or none have such a number

abbrev IsFrom : ℕ → Txn → Type 0
IsFrom low t = low ≤ t.number

from_all : (low : ℕ) (txns : List Txn) → All (IsFrom low) txns → numbered_from low txns ≡ txns
from_all low [] h = refl
from_all low (t ∷ txns) h =
    rw (le-leb low t.number (All-head (IsFrom low) t txns h)) (ap (λ (l : List Txn). t ∷ l) (from_all low txns (All-tail (IsFrom low) t txns h)))

from_none : (low : ℕ) (txns : List Txn) → All (λ (t : Txn). t.number < low) txns → numbered_from low txns ≡ []
from_none low [] h = refl
from_none low (t ∷ txns) h =
    rw (lt-leb low t.number (All-head (λ (u : Txn). u.number < low) t txns h)) (from_none low txns (All-tail (λ (u : Txn). u.number < low) t txns h))

gives_from : (low : ℕ) (r : Record) → BeginsFrom low r → Gives (IsFrom low) r
gives_from low (BeginRecord n) h = h
gives_from low (Change n rid before after) h = λ t le. le
gives_from low (Undo n rid value) h = λ t le. le
gives_from low (CommitRecord n) h = tt
gives_from low (Rolled n) h = tt

all_from : (low : ℕ) (txns : List Txn) (records : List Record) → AllBegin low records → All (IsFrom low) txns → All (IsFrom low) (txns_from txns records)
all_from low txns [] b h = h
all_from low txns (r ∷ records) b h =
    all_from low (txns_after txns r) records (All-tail (BeginsFrom low) r records b)
    (all_after (IsFrom low) txns r (gives_from low r (All-head (BeginsFrom low) r records b)) h)

-- the need is at most the number of each open transaction
from_low : (txns : List Txn) (last : ℕ) → Ascending txns → All (IsFrom (low_of txns last)) txns
from_low [] last h = All-nil (IsFrom (last + 1))
from_low (t ∷ txns) last h =
    All-cons (IsFrom t.number) t txns (omega arith) (All-weaker (λ (u : Txn). t.number < u.number) (IsFrom t.number) (λ u lt. omega (arith, lt)) txns h.0)

-- ---- sound journals

in_order : (c : Config) (journal : List Record) → Sound c journal → InOrder (open_at journal) (length journal)
in_order c journal s =
    let last : (afterwards start journal).last ≡ length journal = last_after start journal ∙ omega arith in
    subst (λ (n : ℕ). InOrder (open_at journal) n) last
    (subst (λ (l : List Txn). InOrder l (afterwards start journal).last) (txns_of start journal) (fine c journal s).order)

begins_one : (c : Config) (low : ℕ) (b : Before) (r : Record) → low ≤ b.last + 1 → Meets c b r → BeginsFrom low r
begins_one c low b (BeginRecord n) le m = omega (arith, m.0)
begins_one c low b (Change n rid before after) le m = tt
begins_one c low b (Undo n rid value) le m = tt
begins_one c low b (CommitRecord n) le m = tt
begins_one c low b (Rolled n) le m = tt

-- the transactions of a sound journal's part begin at its positions
begins : (c : Config) (low : ℕ) (b : Before) (records : List Record) → low ≤ b.last + 1 → SoundFrom c b records → AllBegin low records
begins c low b [] le s = All-nil (BeginsFrom low)
begins c low b (r ∷ records) le s =
    All-cons (BeginsFrom low) r records (begins_one c low b r le s.0) (begins c low (after b r) records (omega (arith, le)) s.2)

-- the same for what stands behind so many records
begins_behind : (c : Config) (low : ℕ) (past more : List Record) → low ≤ length past + 1 → Sound c (past ++ more) → AllBegin low more
begins_behind c low past more le s =
    begins c low (afterwards start past) more (omega (arith, last_after start past, le)) (sound_split c start past more s).1

open_more : (past more : List Record) → open_at (past ++ more) ≡ txns_from (open_at past) more
open_more past more = fold-append txns_after [] past more

-- where a checkpoint needs the records from a position on, those and the later ones tell what is open
pub open_from_need : (c : Config) (past kept more : List Record) → Sound c (past ++ (kept ++ more)) → length past + 1 ≤ low_at (past ++ kept)
    → txns_from [] (kept ++ more) ≡ open_at (past ++ (kept ++ more))
open_from_need c past kept more s e =
    let need = length past + 1 in
    let whole : Sound c ((past ++ kept) ++ more) = rw (append_assoc past kept more) s in
    let old = in_order c past (sound_split c start past (kept ++ more) s).0 in
    let at_cut = in_order c (past ++ kept) (sound_split c start (past ++ kept) more whole).0 in
    let closed : numbered_from need (open_at past) ≡ [] =
    from_none need (open_at past) (All-weaker (λ (t : Txn). t.number ≤ length past) (λ (t : Txn). t.number < need) (λ t le. omega (arith, le)) (open_at past) old.within) in
    let above : All (IsFrom need) (open_at (past ++ kept)) =
    All-weaker (IsFrom (low_at (past ++ kept))) (IsFrom need) (λ t from. omega (arith, from, e)) (open_at (past ++ kept)) (from_low (open_at (past ++ kept)) (length (past ++ kept)) at_cut.ascending) in
    let below : need ≤ length (past ++ kept) + 1 = omega (arith, length-append past kept) in
    let all : All (IsFrom need) (open_at (past ++ (kept ++ more))) =
    subst (λ (j : List Record). All (IsFrom need) (open_at j)) (append_assoc past kept more)
    (rw (open_more (past ++ kept) more) (all_from need (open_at (past ++ kept)) more (begins_behind c need (past ++ kept) more below whole) above)) in
    ap (λ (l : List Txn). txns_from l (kept ++ more)) (sym closed)
    ∙ sym (from_records need (open_at past) (kept ++ more) (begins_behind c need past (kept ++ more) (omega arith) s))
    ∙ ap (λ (l : List Txn). numbered_from need l) (sym (open_more past (kept ++ more)))
    ∙ from_all need (open_at (past ++ (kept ++ more))) all
