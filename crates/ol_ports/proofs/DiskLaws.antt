-- What a stop may leave, a call further: the laws that clauses on several calls of a disk are joined by.
use Rattle.std.proofs.Common.{◌≡◌, ℕ, ◌+◌, ◌-◌, ◌<◌, ◌≤◌, ◌⊎◌, inl, inr, ⊎_elim, Bool, true, false, ◌==◌, if◌then◌else◌, List, [], ◌∷◌, length, get_or, refl, sym, ◌∙◌, arith}
use Rattle.std.proofs.lemmas.Bool.{cases_eq}
use Rattle.std.proofs.lemmas.Bool.Decides.{nat_tests}
use Rattle.std.proofs.lemmas.List.{ext_get_or}
use Rattle.std.proofs.lemmas.List.FromFn.{get_or-map-range_with_len, length-map-range_with_len}
use Rattle.ol_ports.specs.Disk.{Bytes, Call, Wrote, Synced, Passed, Past, is_within, bytes_after, is_open, page_list, seen, Rest, moments, with_call, Within, LeftOf, Left, Leaves}
use Rattle.ol_ports.specs.Frames.{SameBut, TornFrom}

-- whether a byte is one of a range, at each kind of place
pub within-elsewhere : (chunk page offset size c p i : ℕ) → (c ≡ chunk → p ≡ page → ⊥) → is_within chunk page offset size c p i ≡ false
unfolding is_within
within-elsewhere chunk page offset size c p i other = elim (cases_eq c chunk) [
  | inl same ↦ elim (cases_eq p page) [ inl page_same ↦ absurd (other same page_same) | inr differs ↦ grind (arith, nat_tests) ]
  | inr differs ↦ grind (arith, nat_tests)
]

pub within-front : (chunk page offset size i : ℕ) → i < offset → is_within chunk page offset size chunk page i ≡ false
unfolding is_within
within-front chunk page offset size i lt = grind (arith, nat_tests)

pub within-behind : (chunk page offset size i : ℕ) → offset + size ≤ i → is_within chunk page offset size chunk page i ≡ false
unfolding is_within
within-behind chunk page offset size i le = grind (arith, nat_tests)

pub within-inside : (chunk page offset size i : ℕ) → offset ≤ i → i < offset + size → is_within chunk page offset size chunk page i ≡ true
unfolding is_within
within-inside chunk page offset size i le lt = grind (arith, nat_tests)

-- and where such a byte stands
pub within-place : (chunk page offset size c p i : ℕ) → is_within chunk page offset size c p i ≡ true → (c ≡ chunk) × (p ≡ page) × (offset ≤ i) × (i < offset + size)
unfolding is_within
within-place chunk page offset size c p i is = (grind (arith, nat_tests), grind (arith, nat_tests), grind (arith, nat_tests), grind (arith, nat_tests))

-- a write is read back, and the rest reads as before
pub seen-wrote-same : (past : Past) (chunk page offset : ℕ) (bytes : List ℕ) → SameBut (is_within chunk page offset (length bytes)) (seen past) (seen (with_call past (Wrote chunk page offset bytes)))
unfolding seen bytes_after
seen-wrote-same past chunk page offset bytes c p i is_out = rw is_out refl

pub seen-wrote : (past : Past) (chunk page offset : ℕ) (bytes : List ℕ) (i : ℕ) → offset ≤ i → i < offset + length bytes → seen (with_call past (Wrote chunk page offset bytes)) chunk page i ≡ get_or bytes (i - offset) 0
unfolding seen bytes_after
seen-wrote past chunk page offset bytes i le lt =
    rw (within-inside chunk page offset (length bytes) i le lt) refl

pub seen-synced : (past : Past) (chunk : ℕ) → seen (with_call past (Synced chunk)) ≡ seen past
unfolding seen bytes_after
seen-synced past chunk = refl

pub seen-passed : (past : Past) → seen (with_call past Passed) ≡ seen past
unfolding seen bytes_after
seen-passed past = refl

-- what it reads is one of the things that a stop may leave
pub rest-seen : (past : Past) → Rest past (seen past)
rest-seen past = record { as_written = λ c p i shut. refl }

bool_is : (b : Bool) → (b ≡ true) ⊎ (b ≡ false)
bool_is true = inl refl
bool_is false = inr refl

-- after a write a stop leaves what one before might have left, torn in the range
pub rest-wrote : (past : Past) (chunk page offset : ℕ) (bytes : List ℕ) (d : Bytes) → Rest (with_call past (Wrote chunk page offset bytes)) d → TornFrom past chunk page offset (length bytes) d
unfolding seen bytes_after is_open
rest-wrote past chunk page offset bytes d rest = record { origin = e; rest = record { as_written = as_written }; same = λ c p i is_out. rw is_out refl }
  where
    e : Bytes
    e c p i = if is_within chunk page offset (length bytes) c p i then seen past c p i else d c p i

    as_written : (c p i : ℕ) → is_open past.calls c p i ≡ false → e c p i ≡ seen past c p i
    as_written c p i shut = elim (bool_is (is_within chunk page offset (length bytes) c p i)) [
      | inl is_in ↦ rw is_in refl
      | inr is_out ↦ rw is_out (rest.as_written c p i (rw is_out shut) ∙ rw is_out refl)
    ]

-- after a sync it leaves of the chunk what is read
pub rest-synced : (past : Past) (chunk : ℕ) (d : Bytes) → Rest (with_call past (Synced chunk)) d → Rest past d × ((p i : ℕ) → d chunk p i ≡ seen past chunk p i)
unfolding seen bytes_after is_open
rest-synced past chunk d rest = (record { as_written = as_written }, λ p i. rest.as_written chunk p i (shut p i))
  where
    as_written : (c p i : ℕ) → is_open past.calls c p i ≡ false → d c p i ≡ seen past c p i
    as_written c p i shut = rest.as_written c p i (elim (cases_eq c chunk) [ inl same ↦ grind (arith, nat_tests) | inr differs ↦ grind (arith, nat_tests) ])

    shut : (p i : ℕ) → (if chunk == chunk then false else is_open past.calls chunk p i) ≡ false
    shut p i = grind (arith, nat_tests)

pub rest-passed : (past : Past) (d : Bytes) → Rest (with_call past Passed) d → Rest past d
unfolding seen bytes_after is_open
rest-passed past d rest = record { as_written = rest.as_written }

-- no call was made
pub leaves_none : (past : Past) (P : Bytes → Type 0) → Leaves past past P
unfolding Left LeftOf
leaves_none past P = record { later = omega arith; each = λ m d above left. absurd (none past.base past.calls m d above left); before = λ m d le left. left }
  where
    none : (base : List (List ℕ)) (calls : List Call) (m : ℕ) (d : Bytes) → length calls < m → LeftOf base calls m d → ⊥
    none base [] m d gt left = omega (arith, gt, left.0)
    none base (call ∷ calls) m d gt left = ⊎_elim (λ here. omega (arith, here.0)) (λ earlier. none base calls m d (omega arith) earlier) left

-- one call was made
pub leaves_call : (past : Past) (call : Call) (P : Bytes → Type 0) → ((d : Bytes) → Within past call d → P d) → Leaves past (with_call past call) P
unfolding Left LeftOf
leaves_call past call P here = record {
  later = omega arith;
  each = λ m d gt left. ⊎_elim (λ now. here d now.1) (λ earlier. (leaves_none past P).each m d gt earlier) left;
  before = λ m d le left. ⊎_elim (λ now. absurd (omega (arith, now.0))) (λ earlier. earlier) left;
}

-- one run of calls after another
pub leaves_both : (old mid new : Past) (P : Bytes → Type 0) → Leaves old mid P → Leaves mid new P → Leaves old new P
leaves_both old mid new P first second = record {
  later = omega (arith, first.later, second.later);
  each = λ m d gt left. ⊎_elim (λ le. first.each m d gt (second.before m d le left)) (λ lt. second.each m d lt left) (split m (moments mid));
  before = λ m d le left. first.before m d le (second.before m d (omega (arith, first.later)) left);
}
  where
    split : (m n : ℕ) → (m ≤ n) ⊎ (n < m)
    split m n = grind arith

-- what has P has Q too
pub leaves_weaker : (old new : Past) (P Q : Bytes → Type 0) → ((d : Bytes) → P d → Q d) → Leaves old new P → Leaves old new Q
leaves_weaker old new P Q weaker leaves = record { later = leaves.later; each = λ m d gt left. weaker d (leaves.each m d gt left); before = leaves.before }

-- what is left has both P and Q
pub leaves_with : (old new : Past) (P Q : Bytes → Type 0) → Leaves old new P → Leaves old new Q → Leaves old new (λ d. P d × Q d)
leaves_with old new P Q p q = record { later = p.later; each = λ m d gt left. (p.each m d gt left, q.each m d gt left); before = p.before }

-- ---- a page as a list

-- what a read gives of a page, byte by byte
pub length-page_list : (d : Bytes) (chunk page : ℕ) → length (page_list d chunk page) ≡ 2048
unfolding page_list
length-page_list d chunk page = length-map-range_with_len (d chunk page) 0 2048

pub page_list-at : (d : Bytes) (chunk page i : ℕ) → i < 2048 → get_or (page_list d chunk page) i 0 ≡ d chunk page i
unfolding page_list
page_list-at d chunk page i lt = get_or-map-range_with_len (d chunk page) 0 2048 i i 0 lt (omega arith)

-- and the page is the list that has its bytes
pub page_list-is : (d : Bytes) (chunk page : ℕ) (bytes : List ℕ) → length bytes ≡ 2048 → ((i : ℕ) → i < 2048 → get_or bytes i 0 ≡ d chunk page i) → bytes ≡ page_list d chunk page
page_list-is d chunk page bytes size each =
    ext_get_or 0 bytes (page_list d chunk page) (size ∙ sym (length-page_list d chunk page))
    (λ i lt. let below : i < 2048 = omega (arith, lt, size) in each i below ∙ sym (page_list-at d chunk page i below))
