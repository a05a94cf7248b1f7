-- The pages that running archives wait for: what they depend on, and what a page that passes takes away.
use Rattle.std.specs.Prelude.{Bool, List, None, Option, Some, [], cond, drop, false, filter, if◌then◌else◌, length, nat_lt, refl, slice_index_or, sum_by, true, ℕ, ◌++◌, ◌+◌, ◌-◌, ◌<◌, ◌∷◌, ◌≡◌, ◌≢◌, ◌≤◌}
use Rattle.std.proofs.Common.{ap, sym, ◌∙◌}
use Rattle.std.proofs.lemmas.List.{drop-drop, get_or-set_same}
use Rattle.ol_values.specs.declared.event.Reply.{Reply}
use Rattle.ol_values.specs.declared.event.Reply.TheVariants.{PageIs}
use Rattle.ol_values.specs.declared.event.Why.{Why}
use Rattle.ol_values.specs.declared.record.Record.{Record}
use Rattle.ol_values.specs.Config.{Config}
use Rattle.ol_rules.specs.Start.{Start}
use Rattle.ol_model.specs.ArchiveTurns.{cancel_at, end_at, end_unless, end_with, keep, take_at, take_page, take_unless}
use Rattle.ol_model.specs.Machine.{Archive, Fixed, Machine, Work, archive_of, config_of, formatted, stamp_in, with_archive, with_lasting}
use Rattle.ol_model.specs.Waiting.{images_held, left_of, pages_of, waiting, waiting_of}
use Rattle.ol_turn_laws.proofs.KeptLaws.{Beside, Rests, Stays, no_archive}

-- ---- what they depend on

-- a machine with this configuration, start and records, and nothing else
abbrev bare : Config → Start → List Record → Machine
bare c s records = record (formatted c) { work = record { start = s; records = records; sessions = [] } }

left_bare : (m : Machine) (a : Archive) → left_of m a ≡ left_of (bare (config_of m) m.work.start m.work.records) a
unfolding pages_of
left_bare m a = refl

waiting_bare : (m : Machine) (a : Option Archive) → waiting_of m a ≡ waiting_of (bare (config_of m) m.work.start m.work.records) a
unfolding pages_of
waiting_bare m None = refl
waiting_bare m (Some a) = refl

bare_same : (m n : Machine) → config_of n ≡ config_of m → n.work.start ≡ m.work.start → n.work.records ≡ m.work.records
    → bare (config_of n) n.work.start n.work.records ≡ bare (config_of m) m.work.start m.work.records
bare_same m n c s r =
    ap (λ (x : Config). bare x n.work.start n.work.records) c
    ∙ ap (λ (x : Start). bare (config_of m) x n.work.records) s
    ∙ ap (λ (x : List Record). bare (config_of m) m.work.start x) r

pub same_left : (m n : Machine) (a : Archive) → config_of n ≡ config_of m → n.work.start ≡ m.work.start → n.work.records ≡ m.work.records → left_of n a ≡ left_of m a
same_left m n a c s r = left_bare n a ∙ ap (λ (x : Machine). left_of x a) (bare_same m n c s r) ∙ sym (left_bare m a)

pub same_waiting : (m n : Machine) (a : Option Archive) → config_of n ≡ config_of m → n.work.start ≡ m.work.start → n.work.records ≡ m.work.records → waiting_of n a ≡ waiting_of m a
same_waiting m n a c s r = waiting_bare n a ∙ ap (λ (x : Machine). waiting_of x a) (bare_same m n c s r) ∙ sym (waiting_bare m a)

-- ---- turns that leave them as they were

-- where the work stays, and the archive of an archiver too, so do its pages
waits_by : (m n : Machine) (k : ℕ) → Stays m n → archive_of n k ≡ archive_of m k → waiting_of n (archive_of n k) ≡ waiting_of m (archive_of m k)
waits_by m n k st same =
    same_waiting m n (archive_of n k) (ap (λ (f : Fixed). f.config) st.fixed) (ap (λ (w : Work). w.start) st.work) (ap (λ (w : Work). w.records) st.work)
    ∙ ap (λ (a : Option Archive). waiting_of m a) same

pub waits : (m n : Machine) (k : ℕ) → Rests m n → waiting_of n (archive_of n k) ≡ waiting_of m (archive_of m k)
waits m n k r = waits_by m n k r.stays (ap (λ (l : List (Option Archive)). slice_index_or l (k - 1) None) r.archives)

-- the turns of other archivers leave them as they were
pub waits_beside : (m n : Machine) (k j : ℕ) → Beside k m n → 1 ≤ k → 1 ≤ j → j ≢ k → waiting_of n (archive_of n j) ≡ waiting_of m (archive_of m j)
waits_beside m n k j b from_k from_j differ = waits_by m n j b.stays (b.archives j from_k from_j differ)

-- ---- how many images are kept

pub same_images : (m n : Machine) → config_of n ≡ config_of m → n.work.start ≡ m.work.start → n.work.records ≡ m.work.records → n.archives ≡ m.archives → images_held n ≡ images_held m
same_images m n c s r archives =
    (λ i. sum_by (λ (a : Option Archive). length (same_waiting m n a c s r i)) n.archives)
    ∙ ap (λ (l : List (Option Archive)). sum_by (λ (a : Option Archive). length (waiting_of m a)) l) archives

-- ---- a page passes

abbrev pub passed_one : Archive → Archive
passed_one a = record a { passed = a.passed + 1 }

pub left_passed : (m : Machine) (a : Archive) → left_of m (passed_one a) ≡ drop 1 (left_of m a)
unfolding pages_of
left_passed m a = sym (drop-drop 1 a.passed (pages_of m a))

pub takes_page : (m : Machine) (k : ℕ) (a : Archive) (p : ℕ × ℕ) (rest : List (ℕ × ℕ)) → a.broken ≡ None → left_of m a ≡ p ∷ rest
    → take_at m k (Some a) ≡ (PageIs p.0 p.1, with_archive k (Some (passed_one a)) m)
takes_page m k a p rest whole left =
    ap (λ (b : Option ℕ). take_unless m k a b) whole ∙ ap (λ (l : List (ℕ × ℕ)). take_page m k a l) left

pub takes_left : (m : Machine) (k : ℕ) (a : Archive) (p : ℕ × ℕ) (rest : List (ℕ × ℕ)) → a.broken ≡ None → left_of m a ≡ p ∷ rest
    → left_of (take_at m k (Some a)).1 (passed_one a) ≡ rest
takes_left m k a p rest whole left =
    let after : Machine = with_archive k (Some (passed_one a)) m in
    ap (λ (r : Reply × Machine). left_of r.1 (passed_one a)) (takes_page m k a p rest whole left)
    ∙ same_left m after (passed_one a) refl refl refl
    ∙ left_passed m a
    ∙ ap (λ (l : List (ℕ × ℕ)). drop 1 l) left

-- of the pages whose images are kept, it is the first where it was changed since the cut
pub takes_waiting : (m : Machine) (a : Archive) (p : ℕ × ℕ) (rest : List (ℕ × ℕ)) → left_of m a ≡ p ∷ rest
    → waiting m a ≡ (if nat_lt a.cut (stamp_in m p.0 p.1) then p ∷ [] else []) ++ waiting m (passed_one a)
takes_waiting m a p rest left =
    let test : ℕ × ℕ → Bool = λ (q : ℕ × ℕ). nat_lt a.cut (stamp_in m q.0 q.1) in
    let now : waiting m a ≡ filter test (p ∷ rest) = ap (λ (l : List (ℕ × ℕ)). filter test l) left in
    let then_ : waiting m (passed_one a) ≡ filter test rest = ap (λ (l : List (ℕ × ℕ)). filter test l) (left_passed m a ∙ ap (λ (l : List (ℕ × ℕ)). drop 1 l) left) in
    now
    ∙ (elim (test p) as (λ b. cond b (p ∷ filter test rest) (filter test rest) ≡ (if b then p ∷ [] else []) ++ filter test rest) [ true ↦ refl | false ↦ refl ])
    ∙ ap (λ (l : List (ℕ × ℕ)). (if test p then p ∷ [] else []) ++ l) (sym then_)

pub takes_own : (m : Machine) (k : ℕ) (a : Archive) (p : ℕ × ℕ) (rest : List (ℕ × ℕ)) → k - 1 < length m.archives → a.broken ≡ None → left_of m a ≡ p ∷ rest
    → archive_of (take_at m k (Some a)).1 k ≡ Some (passed_one a)
takes_own m k a p rest within whole left =
    ap (λ (r : Reply × Machine). archive_of r.1 k) (takes_page m k a p rest whole left) ∙ get_or-set_same m.archives (k - 1) (Some (passed_one a)) None within

-- ---- an archive ends

pub cancelled_none : (count : ℕ) (m : Machine) (k : ℕ) (why : Why) → archive_of (cancel_at count m k why (archive_of m k)).1 k ≡ None
cancelled_none count m k why = go (archive_of m k) refl
  where
    go : (a : Option Archive) → archive_of m k ≡ a → archive_of (cancel_at count m k why (archive_of m k)).1 k ≡ None
    go None is = ap (λ (a : Option Archive). archive_of (cancel_at count m k why a).1 k) is ∙ is
    go (Some a) is = ap (λ (b : Option Archive). archive_of (cancel_at count m k why b).1 k) is ∙ no_archive m k

pub ended_none : (m : Machine) (k : ℕ) (a : Archive) → a.broken ≡ None → left_of m a ≡ [] → archive_of (end_at m k (Some a)).1 k ≡ None
ended_none m k a whole left =
    ap (λ (b : Option ℕ). archive_of (end_unless m k a b).1 k) whole
    ∙ ap (λ (l : List (ℕ × ℕ)). archive_of (end_with m k a (length l)).1 k) left
    ∙ no_archive (with_lasting (keep a m.lasting) m) k

pub broken_end_none : (m : Machine) (k : ℕ) (a : Archive) (entry : ℕ) → a.broken ≡ Some entry → archive_of (end_at m k (Some a)).1 k ≡ None
broken_end_none m k a entry broken = ap (λ (b : Option ℕ). archive_of (end_unless m k a b).1 k) broken ∙ no_archive m k

pub broken_take_none : (m : Machine) (k : ℕ) (a : Archive) (entry : ℕ) → a.broken ≡ Some entry → archive_of (take_at m k (Some a)).1 k ≡ None
broken_take_none m k a entry broken = ap (λ (b : Option ℕ). archive_of (take_unless m k a b).1 k) broken ∙ no_archive m k
