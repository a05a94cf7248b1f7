-- Open transactions after a record: what holds of each of them, and the order of their numbers.
use Rattle.std.specs.List.{list_any}
use Rattle.std.specs.Prelude.{All, List, [], false, if◌then◌else◌, not, refl, true, ℕ, ◌++◌, ◌+◌, ◌<◌, ◌==◌, ◌∷◌, ◌≡◌, ◌≤◌}
use Rattle.std.proofs.Common.{arith, inl, inr}
use Rattle.std.proofs.lemmas.Bool.{or_parts}
use Rattle.std.proofs.lemmas.Bool.Decides.{eqb_tells}
use Rattle.std.proofs.lemmas.List.Elements.{All-filter, All-head, All-map, All-nil, All-push, All-tail, All-weaker}
use Rattle.ol_values.specs.declared.record.Record.{Record}
use Rattle.ol_values.specs.declared.record.Record.TheVariants.{Begin as BeginRecord, Change, Commit as CommitRecord, Rolled, Undo}
use Rattle.ol_values.specs.Config.{Config}
use Rattle.ol_rules.specs.Sound.{Before, Meets}
use Rattle.ol_rules.specs.Transactions.{Ascending, Txn, at_txn, begun, txns_after, with_change, with_undo, without_txn}

-- ---- one transaction changed

-- a transaction, changed where it has this number
abbrev pub at_one : ℕ → (Txn → Txn) → Txn → Txn
at_one n f t = if t.number == n then f t else t

abbrev pub KeepsNumber : (Txn → Txn) → Type 0
KeepsNumber f = (t : Txn) → (f t).number ≡ t.number

pub at_one-keeps : (n : ℕ) (f : Txn → Txn) (P : Txn → Type 0) → ((t : Txn) → P t → P (f t)) → (t : Txn) → P t → P (at_one n f t)
at_one-keeps n f P keeps t h = elim (t.number == n) as (λ b. P (if b then f t else t)) [ true ↦ keeps t h | false ↦ h ]

pub number_kept : (n : ℕ) (f : Txn → Txn) (t : Txn) → KeepsNumber f → (at_one n f t).number ≡ t.number
number_kept n f t keeps = elim (t.number == n) as (λ b. (if b then f t else t).number ≡ t.number) [ true ↦ keeps t | false ↦ refl ]

pub all_at : (n : ℕ) (f : Txn → Txn) (P : Txn → Type 0) (txns : List Txn) → ((t : Txn) → P t → P (f t)) → All P txns → All P (at_txn n f txns)
all_at n f P txns keeps h = All-map P (at_one n f) txns (All-weaker P (λ t. P (at_one n f t)) (at_one-keeps n f P keeps) txns h)

-- what a record has to give so that this holds of each open transaction after it
abbrev pub Gives : (Txn → Type 0) → Record → Type 0
Gives P (BeginRecord n) = P (begun n)
Gives P (Change n rid before after) = (t : Txn) → P t → P (with_change rid before t)
Gives P (Undo n rid value) = (t : Txn) → P t → P (with_undo t)
Gives P (CommitRecord n) = Unit {0}
Gives P (Rolled n) = Unit {0}

pub all_after : (P : Txn → Type 0) (txns : List Txn) (r : Record) → Gives P r → All P txns → All P (txns_after txns r)
all_after P txns (BeginRecord n) g h = All-push P txns (begun n) h g
all_after P txns (Change n rid before after) g h = all_at n (with_change rid before) P txns g h
all_after P txns (Undo n rid value) g h = all_at n with_undo P txns g h
all_after P txns (CommitRecord n) g h = All-filter (λ (t : Txn). not (t.number == n)) P txns h
all_after P txns (Rolled n) g h = All-filter (λ (t : Txn). not (t.number == n)) P txns h

-- ---- ascending numbers

pub ascending_at : (n : ℕ) (f : Txn → Txn) (txns : List Txn) → KeepsNumber f → Ascending txns → Ascending (at_txn n f txns)
ascending_at n f [] keeps h = tt
ascending_at n f (t ∷ txns) keeps h =
    (rw (number_kept n f t keeps) (all_at n f (λ (u : Txn). t.number < u.number) txns (λ u k. rw (keeps u) k) h.0), ascending_at n f txns keeps h.1)

pub ascending_without : (n : ℕ) (txns : List Txn) → Ascending txns → Ascending (without_txn n txns)
ascending_without n [] h = tt
ascending_without n (t ∷ txns) h =
    let rest = ascending_without n txns h.1 in
    elim (not (t.number == n)) as (λ b. Ascending (if b then t ∷ without_txn n txns else without_txn n txns)) [
      | true ↦ (All-filter (λ (u : Txn). not (u.number == n)) (λ (u : Txn). t.number < u.number) txns h.0, rest)
      | false ↦ rest
    ]

pub ascending_push : (txns : List Txn) (t : Txn) → All (λ (u : Txn). u.number < t.number) txns → Ascending txns → Ascending (txns ++ t ∷ [])
ascending_push [] t below h = (All-nil (λ (u : Txn). t.number < u.number), tt)
ascending_push (u ∷ txns) t below h =
    let first : u.number < t.number = All-head (λ (v : Txn). v.number < t.number) u txns below in
    (All-push (λ (v : Txn). u.number < v.number) txns t h.0 first, ascending_push txns t (All-tail (λ (v : Txn). v.number < t.number) u txns below) h.1)

-- open transactions stand in ascending order, with numbers up to the last position
pub record InOrder (txns : List Txn) (last : ℕ) : Type 0 where
  pub ascending : Ascending txns
  pub within : All (λ (t : Txn). t.number ≤ last) txns

pub none_open : InOrder [] 0
none_open = record { ascending = tt; within = All-nil (λ (t : Txn). t.number ≤ 0) }

ascending_after : (c : Config) (b : Before) (r : Record) → InOrder b.txns b.last → Meets c b r → Ascending (txns_after b.txns r)
ascending_after c b (BeginRecord n) o m =
    ascending_push b.txns (begun n) (All-weaker (λ (t : Txn). t.number ≤ b.last) (λ (t : Txn). t.number < n) (λ t le. omega (arith, m.0, le)) b.txns o.within) o.ascending
ascending_after c b (Change n rid before after) o m = ascending_at n (with_change rid before) b.txns (λ t. refl) o.ascending
ascending_after c b (Undo n rid value) o m = ascending_at n with_undo b.txns (λ t. refl) o.ascending
ascending_after c b (CommitRecord n) o m = ascending_without n b.txns o.ascending
ascending_after c b (Rolled n) o m = ascending_without n b.txns o.ascending

gives_within : (c : Config) (b : Before) (r : Record) → Meets c b r → Gives (λ (t : Txn). t.number ≤ b.last + 1) r
gives_within c b (BeginRecord n) m = omega (arith, m.0)
gives_within c b (Change n rid before after) m = λ t le. le
gives_within c b (Undo n rid value) m = λ t le. le
gives_within c b (CommitRecord n) m = tt
gives_within c b (Rolled n) m = tt

pub in_order_after : (c : Config) (b : Before) (r : Record) → InOrder b.txns b.last → Meets c b r → InOrder (txns_after b.txns r) (b.last + 1)
in_order_after c b r o m = record {
  ascending = ascending_after c b r o m;
  within =
      all_after (λ (t : Txn). t.number ≤ b.last + 1) b.txns r (gives_within c b r m)
      (All-weaker (λ (t : Txn). t.number ≤ b.last) (λ (t : Txn). t.number ≤ b.last + 1) (λ t le. omega (arith, le)) b.txns o.within);
}

-- ---- different numbers

-- no open transaction has this number
abbrev pub IsNew : ℕ → List Txn → Type 0
IsNew n txns = list_any (λ (t : Txn). t.number == n) txns ≡ false

abbrev pub Distinct : List Txn → Type 0
Distinct [] = Unit {0}
Distinct (t ∷ txns) = IsNew t.number txns × Distinct txns

pub differ : (a b : ℕ) → a < b → (b == a) ≡ false
differ a b h = elim (eqb_tells b a) [ inl e ↦ absurd (let f : b ≡ a = e.1 in omega arith) | inr e ↦ e.0 ]

new_below : (n : ℕ) (txns : List Txn) → All (λ (t : Txn). n < t.number) txns → IsNew n txns
new_below n [] h = refl
new_below n (t ∷ txns) h =
    rw (differ n t.number (All-head (λ (u : Txn). n < u.number) t txns h)) (new_below n txns (All-tail (λ (u : Txn). n < u.number) t txns h))

pub distinct : (txns : List Txn) → Ascending txns → Distinct txns
distinct [] h = tt
distinct (t ∷ txns) h = (new_below t.number txns h.0, distinct txns h.1)

-- a step of a transaction that is not open changes nothing
pub at_txn-other : (n : ℕ) (f : Txn → Txn) (txns : List Txn) → IsNew n txns → at_txn n f txns ≡ txns
at_txn-other n f [] h = refl
at_txn-other n f (t ∷ txns) h =
    let q = or_parts (t.number == n) (list_any (λ (u : Txn). u.number == n) txns) h in
    rw (q.0, at_txn-other n f txns q.1) refl

pub without_txn-other : (n : ℕ) (txns : List Txn) → IsNew n txns → without_txn n txns ≡ txns
without_txn-other n [] h = refl
without_txn-other n (t ∷ txns) h =
    let q = or_parts (t.number == n) (list_any (λ (u : Txn). u.number == n) txns) h in
    rw (q.0, without_txn-other n txns q.1) refl
