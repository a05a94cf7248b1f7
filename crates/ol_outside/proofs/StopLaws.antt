-- The calls that have left something at a stop, and what a choice gives after them.
use Rattle.std.proofs.Common.{◌≡◌, inl, inr, ℕ, zero, suc, ◌+◌, ◌-◌, ◌^◌, ◌<◌, ◌≤◌, ◌==◌, Bool, true, false, ◌||◌, min, List, [], ◌∷◌, length, get_or, take, drop, fold, refl, sym, ◌∙◌, ap, subst, arith}
use Rattle.std.proofs.lemmas.Bool.{cases_eq}
use Rattle.std.proofs.lemmas.Bool.Decides.{nat_tests}
use Rattle.std.proofs.lemmas.List.{take-append-drop}
use Rattle.std.proofs.lemmas.List.Sums.{fold-append}
use Rattle.ol_outside.specs.Chunks.{ChunksHold}
use Rattle.ol_outside.specs.Devices.{DiskState, fresh_disk}
use Rattle.ol_ports.specs.Disk.{Bytes, Call, Wrote, Synced, Passed, bytes_after, first_bytes, is_within, is_open, seen, Rest, Within, LeftOf}
use Rattle.ol_outside.specs.Images.{last_synced, filled_image, chosen, begun_calls, stopped_within, is_after_stop, SameImages}
use Rattle.ol_outside.specs.KeptCalls.{passes, after_kept, kept_calls, calls_of, call_of}
use Rattle.ol_outside.specs.declared.kept_calls.Kept.{Kept}
use Rattle.ol_outside.specs.declared.memory_disk.Choice.{Choice}
use Rattle.ol_outside.specs.declared.memory_disk.Choice.TheVariants.{Old, New, Fill}
use Rattle.ol_outside.proofs.ImageLaws.{chosen-passes}
use Rattle.ol_outside.proofs.KeptLaws.{kept_calls-more}

-- what a choice gives is as written in each place that is not open
or_false : (a b : Bool) → (a || b) ≡ false → (a ≡ false) × (b ≡ false)
or_false true b is = absurd (cc)
or_false false b is = (refl, is)

last_synced-shut : (base : List (List ℕ)) (calls : List Call) (c p i : ℕ) → is_open calls c p i ≡ false → last_synced base calls c p i ≡ bytes_after base calls c p i
unfolding last_synced bytes_after is_open
last_synced-shut base [] c p i shut = refl
last_synced-shut base (Wrote chunk page offset bytes ∷ calls) c p i shut =
    let both = or_false (is_within chunk page offset (length bytes) c p i) (is_open calls c p i) shut in
    last_synced-shut base calls c p i both.1 ∙ rw both.0 refl
last_synced-shut base (Synced chunk ∷ calls) c p i shut = elim (cases_eq c chunk) [
  | inl same ↦ grind (arith, nat_tests)
  | inr other ↦ let still : is_open calls c p i ≡ false = grind (arith, nat_tests) in let older = last_synced-shut base calls c p i still in grind (arith, nat_tests)
]
last_synced-shut base (Passed ∷ calls) c p i shut = last_synced-shut base calls c p i shut

pub chosen-shut : (choice : Choice) (base : List (List ℕ)) (calls : List Call) (c p i : ℕ) → is_open calls c p i ≡ false → chosen choice base calls c p i ≡ bytes_after base calls c p i
unfolding chosen filled_image
chosen-shut Old base calls c p i shut = last_synced-shut base calls c p i shut
chosen-shut New base calls c p i shut = refl
chosen-shut (Fill byte) base calls c p i shut = rw shut refl

-- a stop after these calls may leave what a choice gives
pub rest-chosen : (choice : Choice) (base : List (List ℕ)) (calls : List Call) (d : Bytes) → ((c p i : ℕ) → d c p i ≡ chosen choice base calls c p i) → Rest (record { base = base; calls = calls }) d
unfolding seen
rest-chosen choice base calls d is = record { as_written = λ c p i shut. is c p i ∙ chosen-shut choice base calls c p i shut }

-- a stop within the last call, and one within a call before it
stopped-here : (call : Call) (calls : List Call) (m : ℕ) → m ≡ length calls + 1 → stopped_within (call ∷ calls) m ≡ begun_calls call calls
unfolding stopped_within
stopped-here call calls m same =
    let test : (m == length calls + 1) ≡ true = grind (arith, nat_tests) in rw test refl

stopped-earlier : (call : Call) (calls : List Call) (m : ℕ) → (m ≡ length calls + 1 → ⊥) → stopped_within (call ∷ calls) m ≡ stopped_within calls m
unfolding stopped_within
stopped-earlier call calls m other =
    let test : (m == length calls + 1) ≡ false = grind (arith, nat_tests) in rw test refl

within-chosen : (choice : Choice) (base : List (List ℕ)) (call : Call) (calls : List Call) (d : Bytes) → ((c p i : ℕ) → d c p i ≡ chosen choice base (begun_calls call calls) c p i) → Within (record { base = base; calls = calls }) call d
unfolding Within
within-chosen choice base (Wrote chunk page offset bytes) calls d is = rest-chosen choice base (Wrote chunk page offset bytes ∷ calls) d is
within-chosen choice base (Synced chunk) calls d is = rest-chosen choice base calls d is
within-chosen choice base Passed calls d is = rest-chosen choice base calls d is

-- before the first call the disk is as it began
chosen-none : (choice : Choice) (base : List (List ℕ)) (m c p i : ℕ) → chosen choice base (stopped_within [] m) c p i ≡ first_bytes base c p i
unfolding chosen filled_image last_synced bytes_after is_open stopped_within
chosen-none Old base m c p i = refl
chosen-none New base m c p i = refl
chosen-none (Fill byte) base m c p i = refl

-- and a stop within one of them what it gives after those that have left something
pub left-chosen : (choice : Choice) (base : List (List ℕ)) (calls : List Call) (m : ℕ) (d : Bytes) → m ≤ length calls → ((c p i : ℕ) → d c p i ≡ chosen choice base (stopped_within calls m) c p i) → LeftOf base calls m d
unfolding LeftOf
left-chosen choice base [] m d le is = (omega arith, λ c p i. is c p i ∙ chosen-none choice base m c p i)
left-chosen choice base (call ∷ calls) m d le is = elim (cases_eq m (length calls + 1)) [
  | inl same ↦ inl (same, within-chosen choice base call calls d (λ c p i. is c p i ∙ ap (λ l. chosen choice base l c p i) (stopped-here call calls m same)))
  | inr other ↦ inr (left-chosen choice base calls m d (omega arith) (λ c p i. is c p i ∙ ap (λ l. chosen choice base l c p i) (stopped-earlier call calls m other)))
]

-- the calls after a stop don't matter
length-passes : (n : ℕ) (calls : List Call) → length (passes n calls) ≡ n + length calls
length-passes zero calls = omega arith
length-passes (suc n) calls = omega (arith, length-passes n calls)

stopped-passes : (n : ℕ) (calls : List Call) (m : ℕ) → m ≤ length calls → stopped_within (passes n calls) m ≡ stopped_within calls m
stopped-passes zero calls m le = refl
stopped-passes (suc n) calls m le =
    stopped-earlier Passed (passes n calls) m (λ same. omega (arith, same, length-passes n calls)) ∙ stopped-passes n calls m le

stopped-kept : (calls : List Call) (kept : List Kept) (m : ℕ) → m ≤ length calls → stopped_within (fold after_kept calls kept) m ≡ stopped_within calls m
stopped-kept calls [] m le = refl
stopped-kept calls (k ∷ kept) m le =
    let longer = length-passes k.passed calls in
    stopped-kept (after_kept calls k) kept m (omega arith) ∙ stopped-earlier (call_of k.order) (passes k.passed calls) m (λ same. omega (arith, same)) ∙ stopped-passes k.passed calls m le

kept-longer : (calls : List Call) (kept : List Kept) → length calls ≤ length (fold after_kept calls kept)
kept-longer calls [] = omega arith
kept-longer calls (k ∷ kept) = omega (arith, kept-longer (after_kept calls k) kept, length-passes k.passed calls)

-- the calls that left nothing don't either; a stop within the last call leaves all of it where that is a write, or where none was made
abbrev pub starts_with_write : List Call → Bool
starts_with_write [] = true
starts_with_write (Wrote chunk page offset bytes ∷ calls) = true
starts_with_write (Synced chunk ∷ calls) = false
starts_with_write (Passed ∷ calls) = false

same-refl : (calls others : List Call) → calls ≡ others → SameImages calls others
same-refl calls others same = record { each = λ choice base c p i. ap (λ l. chosen choice base l c p i) same }

same-passes : (n : ℕ) (calls : List Call) → SameImages calls (passes n calls)
same-passes n calls = record { each = λ choice base c p i. sym (chosen-passes choice base n calls c p i) }

-- a stop within the last call, which is a write
stopped-write : (calls : List Call) (m : ℕ) → length calls ≡ m → (length calls ≡ m → starts_with_write calls ≡ true) → stopped_within calls m ≡ calls
unfolding stopped_within
stopped-write [] m same write = refl
stopped-write (Wrote chunk page offset bytes ∷ calls) m same write = stopped-here (Wrote chunk page offset bytes) calls m (omega arith)
stopped-write (Synced chunk ∷ calls) m same write = absurd (let no_write = write same in cc)
stopped-write (Passed ∷ calls) m same write = absurd (let no_write = write same in cc)

-- a stop within one of some calls that left nothing
stopped-among : (n : ℕ) (calls : List Call) (m : ℕ) → length calls ≤ m → m ≤ n + length calls → (length calls ≡ m → starts_with_write calls ≡ true) → SameImages calls (stopped_within (passes n calls) m)
stopped-among zero calls m low high write =
    same-refl calls (stopped_within calls m) (sym (stopped-write calls m (omega arith) write))
stopped-among (suc n) calls m low high write = elim (cases_eq m (length (passes n calls) + 1)) [
  | inl same ↦ subst (SameImages calls) (sym (stopped-here Passed (passes n calls) m same)) (same-passes n calls)
  | inr other ↦ subst (SameImages calls) (sym (stopped-earlier Passed (passes n calls) m other)) (stopped-among n calls m low (let longer = length-passes n calls in omega arith) write)
]

-- how far the calls have come that are kept and whose number is at most m
pub record ComeTo (calls : List Call) (number m : ℕ) : Type 0 where
  pub counted : number ≡ length calls
  pub low : length calls ≤ m
  pub write : length calls ≡ m → starts_with_write calls ≡ true

pub come-none : (m : ℕ) → ComeTo [] 0 m
come-none m = record { counted = refl; low = omega arith; write = λ same. refl }

-- the next is not after the stop
pub come-more : (call : Call) (n : ℕ) (calls : List Call) (number next m : ℕ) → m < 2 ^ 64 - 1 → ComeTo calls number m → next ≡ min (min (number + n) (2 ^ 64 - 1) + 1) (2 ^ 64 - 1) → is_after_stop call next m ≡ false → ComeTo (call ∷ passes n calls) next m
come-more (Wrote chunk page offset bytes) n calls number next m below come is before =
    let longer = length-passes n calls in
    let le : next ≤ m = grind (arith, nat_tests) in
    record { counted = omega (arith, come.counted); low = omega (arith, come.counted); write = λ same. refl }
come-more (Synced chunk) n calls number next m below come is before =
    let longer = length-passes n calls in
    let lt : next < m = grind (arith, nat_tests) in
    record { counted = omega (arith, come.counted); low = omega (arith, come.counted); write = λ same. absurd (omega (arith, same, come.counted)) }
come-more Passed n calls number next m below come is before =
    let longer = length-passes n calls in
    let lt : next < m = grind (arith, nat_tests) in
    record { counted = omega (arith, come.counted); low = omega (arith, come.counted); write = λ same. absurd (omega (arith, same, come.counted)) }

-- the next is after the stop, or the stop is within it and it leaves nothing before its end
ended : (call : Call) (n : ℕ) (calls : List Call) (number next m : ℕ) → m < 2 ^ 64 - 1 → ComeTo calls number m → next ≡ min (min (number + n) (2 ^ 64 - 1) + 1) (2 ^ 64 - 1) → m ≤ next → begun_calls call (passes n calls) ≡ passes n calls → SameImages calls (stopped_within (call ∷ passes n calls) m) × (m ≤ length (passes n calls) + 1)
ended call n calls number next m below come is le nothing =
    let longer = length-passes n calls in
    let high : m ≤ length (passes n calls) + 1 = omega (arith, come.counted) in (
      elim (cases_eq m (length (passes n calls) + 1)) [
        | inl same ↦ subst (SameImages calls) (sym (stopped-here call (passes n calls) m same ∙ nothing)) (same-passes n calls)
        | inr other ↦ subst (SameImages calls) (sym (stopped-earlier call (passes n calls) m other)) (stopped-among n calls m come.low (omega arith) come.write)
      ],
      high,
    )

-- the next is after the stop
here-stopped : (call : Call) (n : ℕ) (calls : List Call) (number next m : ℕ) → m < 2 ^ 64 - 1 → ComeTo calls number m → next ≡ min (min (number + n) (2 ^ 64 - 1) + 1) (2 ^ 64 - 1) → is_after_stop call next m ≡ true → SameImages calls (stopped_within (call ∷ passes n calls) m) × (m ≤ length (passes n calls) + 1)
here-stopped (Wrote chunk page offset bytes) n calls number next m below come is after_it =
    let longer = length-passes n calls in
    let lt : m < next = grind (arith, nat_tests) in
    let high : m ≤ n + length calls = omega (arith, come.counted) in (
      subst (SameImages calls) (sym (stopped-earlier (Wrote chunk page offset bytes) (passes n calls) m (λ same. omega (arith, same)))) (stopped-among n calls m come.low high come.write),
      omega arith,
    )
here-stopped (Synced chunk) n calls number next m below come is after_it = ended (Synced chunk) n calls number next m below come is (grind (arith, nat_tests)) refl
here-stopped Passed n calls number next m below come is after_it = ended Passed n calls number next m below come is (grind (arith, nat_tests)) refl

-- the stop is within the last call that is kept, or after it
pub stopped-last : (kept : List Kept) (passed number m : ℕ) → ComeTo (kept_calls kept) number m → m ≤ length (calls_of kept passed) → SameImages (kept_calls kept) (stopped_within (calls_of kept passed) m)
stopped-last kept passed number m come le =
    stopped-among passed (kept_calls kept) m come.low (let longer = length-passes passed (kept_calls kept) in omega arith) come.write

-- it is before the next
pub stopped-before : (kept : List Kept) (i : ℕ) (k : Kept) (passed number next m : ℕ) → i < length kept → k ≡ get_or kept i k → m < 2 ^ 64 - 1 → ComeTo (kept_calls (take i kept)) number m → next ≡ min (min (number + k.passed) (2 ^ 64 - 1) + 1) (2 ^ 64 - 1) → is_after_stop (call_of k.order) next m ≡ true → SameImages (kept_calls (take i kept)) (stopped_within (calls_of kept passed) m)
stopped-before kept i k passed number next m lt is below come counted after_it =
    let calls = kept_calls (take i kept) in
    let upto : List Call = call_of k.order ∷ passes k.passed calls in
    let here = here-stopped (call_of k.order) k.passed calls number next m below come counted after_it in
    let all : kept_calls kept ≡ fold after_kept upto (drop (i + 1) kept) = ap kept_calls (sym (take-append-drop (i + 1) kept)) ∙ fold-append after_kept [] (take (i + 1) kept) (drop (i + 1) kept) ∙ ap (λ l. fold after_kept l (drop (i + 1) kept)) (kept_calls-more kept i k lt is) in
    let longer = kept-longer upto (drop (i + 1) kept) in
    let same = stopped-passes passed (kept_calls kept) m (omega (arith, ap length all, here.1)) ∙ ap (λ l. stopped_within l m) all ∙ stopped-kept upto (drop (i + 1) kept) m (omega (arith, here.1)) in
    subst (SameImages calls) (sym same) here.0

-- a disk that begins with some bytes reads them
pub fresh-seen : (bytes : List (List ℕ)) (sizes failing : List ℕ) (d : Bytes) (disk : DiskState) → ChunksHold bytes d → disk ≡ fresh_disk bytes sizes failing → (c p i : ℕ) → seen disk.past c p i ≡ d c p i
unfolding seen bytes_after
fresh-seen bytes sizes failing d disk holds is c p i =
    ap (λ (s : DiskState). seen s.past c p i) is ∙ holds.each c p i
