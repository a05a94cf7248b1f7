-- The uses that the heads of a run give.
use Rattle.std.specs.List.{AllByRecursion, list_any, position_from}
use Rattle.std.specs.Prelude.{Bool, Err, List, None, Ok, OnOk, Result, Some, [], false, fold, if◌then◌else◌, length, max, slice_index_or, slice_set, suc, take, true, zero, ℕ, ◌||◌, ◌++◌, ◌+◌, ◌<◌, ◌==◌, ◌∷◌, ◌≡◌, ◌≤◌}
use Rattle.std.proofs.Common.{ap, arith, cond, ne_eqb, refl, subst, sym, ◌∙◌}
use Rattle.std.proofs.lemmas.Bool.{eqb-false}
use Rattle.std.proofs.lemmas.List.{length-append, map-append, take_more}
use Rattle.ol_record.specs.declared.head.LogHead.{LogHead}
use Rattle.ol_log_places.specs.declared.heads.Stood.{Stood}
use Rattle.ol_log_state.specs.Files.{extended, greatest_of, use_with_head}
use Rattle.ol_log_state.specs.StoredFiles.{AreApart, AreTaken, IsRoomy, failing, heads_in, helds, uniqs}
use Rattle.ol_log_state.specs.Uses.{HeldUse, Stored, fresh, with_head}
use Rattle.ol_log_state.proofs.FileLaws.{is_numbered, set_is_map, uniqs_set, use_at}
use Rattle.ol_log_state.proofs.ListLaws.{all_mapped, all_pushed, all_set, all_wider, located, missed}

pub on_ok : {A E : Type 0} (r : Result A E) (P Q : Type 0) → (P → Q) → OnOk r P → OnOk r Q
on_ok (Ok x) P Q f h = f h
on_ok (Err x) P Q f h = h

-- ---- folds over one item more

fold_more : {X Y : Type 0} (f : Y → X → Y) (y : Y) (items : List X) (x : X) → fold f y (items ++ x ∷ []) ≡ f (fold f y items) x
fold_more f y [] x = refl
fold_more f y (z ∷ items) x = fold_more f (f y z) items x

-- ---- whether a use has the number

any_located : (uniq n i : ℕ) (items : List Stored) → position_from (is_numbered uniq) n items ≡ Some i → list_any (λ (u : HeldUse). u.uniq == uniq) (helds items) ≡ true
any_located uniq n i [] e = absurd (let g : None ≡ Some i = e in cc)
any_located uniq n i (s ∷ items) e =
    elim (s.held.uniq == uniq) as (λ b. cond b (Some n) (position_from (is_numbered uniq) (n + 1) items) ≡ Some i → (b || list_any (λ (u : HeldUse). u.uniq == uniq) (helds items)) ≡ true) [
      | true ↦ λ is. refl
      | false ↦ λ is. any_located uniq (n + 1) i items is
    ] e

any_missed : (uniq : ℕ) (items : List Stored) → AllByRecursion (λ (s : Stored). is_numbered uniq s ≡ false) items → list_any (λ (u : HeldUse). u.uniq == uniq) (helds items) ≡ false
any_missed uniq [] all = refl
any_missed uniq (s ∷ items) all = ap (λ b. b || list_any (λ (u : HeldUse). u.uniq == uniq) (helds items)) all.0 ∙ any_missed uniq items all.1

apart_more : (numbers : List ℕ) (m : ℕ) → AreApart numbers → AllByRecursion (λ n. (n == m) ≡ false) numbers → AreApart (numbers ++ m ∷ [])
apart_more [] m apart off = (tt, tt)
apart_more (n ∷ numbers) m apart off =
    (all_pushed (λ k. (k == n) ≡ false) numbers m apart.0 (ne_eqb m n (λ e. eqb-false n m off.0 (sym e))), apart_more numbers m apart.1 off.1)

-- a use with a head more, and memory for a whole file
abbrev pub grown : ℕ → LogHead → HeldUse → Stored
grown pages h u = record { held = with_head h u; room = pages }

grown_roomy : (pages : ℕ) (h : LogHead) (u : HeldUse) → AllByRecursion (λ (g : LogHead). g.index < pages) u.heads → h.index < pages → IsRoomy pages (grown pages h u)
grown_roomy pages h u placed within = record {
  placed = all_pushed (λ (g : LogHead). g.index < pages) u.heads h placed within;
  rest = omega arith;
  whole = omega (arith, length-append u.heads (h ∷ []));
}

-- ---- a page is taken in

pub taken_old : (pages uniq : ℕ) (heads : List LogHead) (h : LogHead) (items : List Stored) (i : ℕ) (d t : Stored) → AreTaken pages uniq heads items → position_from (is_numbered h.uniq) 0 items ≡ Some i
    → d ≡ slice_index_or items i d → h.index < pages → t ≡ grown pages h d.held → AreTaken pages uniq (heads ++ h ∷ []) (slice_set items i t)
taken_old pages uniq heads h items i d t is e at within step =
    let there = located (is_numbered h.uniq) i items e in
    let number : t.held.uniq ≡ (slice_index_or items i d).held.uniq = ap (λ (s : Stored). s.held.uniq) step ∙ ap (λ (s : Stored). s.held.uniq) at in
    let numbers = uniqs_set items i t d there.within number in
    let grows = fold_more (λ n (g : LogHead). max n g.uniq) uniq heads h in
    let longer = length-append heads (h ∷ []) in
    record {
      uses = set_is_map h.uniq (with_head h) items i t d is.apart there.within (there.passes d) (ap (λ (s : Stored). s.held) step ∙ ap (λ (s : Stored). with_head h s.held) at)
          ∙ sym (ap (λ b. (let l : List HeldUse = (if b then extended h.uniq h (helds items) else helds items ++ with_head h (fresh h.uniq) ∷ []) in l)) (any_located h.uniq 0 i items e))
          ∙ ap (λ l. use_with_head l h) is.uses
          ∙ sym (fold_more use_with_head [] heads h);
      roomy = all_set (IsRoomy pages) items i t is.roomy (subst (IsRoomy pages) (sym step) (grown_roomy pages h d.held (use_at (IsRoomy pages) items i d there.within at is.roomy).placed within));
      up_to = subst (AllByRecursion (λ n. n ≤ greatest_of uniq (heads ++ h ∷ []))) (sym numbers) (all_wider (λ n. n ≤ greatest_of uniq heads) (λ n. n ≤ greatest_of uniq (heads ++ h ∷ [])) (uniqs items) (λ n le. omega (arith, le, grows)) is.up_to);
      apart = subst AreApart (sym numbers) is.apart;
      few = all_set (λ (s : Stored). length s.held.heads ≤ length (heads ++ h ∷ [])) items i t
          (all_wider (λ (s : Stored). length s.held.heads ≤ length heads) (λ (s : Stored). length s.held.heads ≤ length (heads ++ h ∷ [])) items (λ s le. omega (arith, le, longer)) is.few)
          (omega (arith, ap (λ (s : Stored). length s.held.heads) step, length-append d.held.heads (h ∷ []), use_at (λ (s : Stored). length s.held.heads ≤ length heads) items i d there.within at is.few, longer));
    }

pub taken_new : (pages uniq : ℕ) (heads : List LogHead) (h : LogHead) (items : List Stored) (t : Stored) → AreTaken pages uniq heads items → position_from (is_numbered h.uniq) 0 items ≡ None
    → h.index < pages → t ≡ grown pages h (fresh h.uniq) → AreTaken pages uniq (heads ++ h ∷ []) (items ++ t ∷ [])
taken_new pages uniq heads h items t is e within step =
    let off = missed (is_numbered h.uniq) 0 items e in
    let numbers : uniqs (items ++ t ∷ []) ≡ uniqs items ++ h.uniq ∷ [] = map-append (λ (s : Stored). s.held.uniq) items (t ∷ []) ∙ ap (λ (s : Stored). uniqs items ++ s.held.uniq ∷ []) step in
    let grows = fold_more (λ n (g : LogHead). max n g.uniq) uniq heads h in
    let longer = length-append heads (h ∷ []) in
    record {
      uses = map-append (λ (s : Stored). s.held) items (t ∷ [])
          ∙ ap (λ (s : Stored). helds items ++ s.held ∷ []) step
          ∙ sym (ap (λ b. (let l : List HeldUse = (if b then extended h.uniq h (helds items) else helds items ++ with_head h (fresh h.uniq) ∷ []) in l)) (any_missed h.uniq items off))
          ∙ ap (λ l. use_with_head l h) is.uses
          ∙ sym (fold_more use_with_head [] heads h);
      roomy = all_pushed (IsRoomy pages) items t is.roomy (subst (IsRoomy pages) (sym step) (grown_roomy pages h (fresh h.uniq) tt within));
      up_to = subst (AllByRecursion (λ n. n ≤ greatest_of uniq (heads ++ h ∷ []))) (sym numbers)
          (all_pushed (λ n. n ≤ greatest_of uniq (heads ++ h ∷ [])) (uniqs items) h.uniq (all_wider (λ n. n ≤ greatest_of uniq heads) (λ n. n ≤ greatest_of uniq (heads ++ h ∷ [])) (uniqs items) (λ n le. omega (arith, le, grows)) is.up_to) (omega (arith, grows)));
      apart = subst AreApart (sym numbers) (apart_more (uniqs items) h.uniq is.apart (all_mapped (λ n. (n == h.uniq) ≡ false) (λ (s : Stored). s.held.uniq) items off));
      few = all_pushed (λ (s : Stored). length s.held.heads ≤ length (heads ++ h ∷ [])) items t
          (all_wider (λ (s : Stored). length s.held.heads ≤ length heads) (λ (s : Stored). length s.held.heads ≤ length (heads ++ h ∷ [])) items (λ s le. omega (arith, le, longer)) is.few)
          (omega (arith, ap (λ (s : Stored). length s.held.heads) step, longer));
    }

pub taken_none : (pages uniq : ℕ) → AreTaken pages uniq [] []
taken_none pages uniq = record { uses = refl; roomy = tt; up_to = tt; apart = tt; few = tt }

-- ---- a run, page by page

pub heads_more : (run : List Stood) (i : ℕ) (d : Stood) → i < length run → heads_in (take (i + 1) run) ≡ heads_in (take i run) ++ (slice_index_or run i d).head ∷ []
heads_more run i d there = ap heads_in (take_more run i d there) ∙ map-append (λ (t : Stood). t.head) (take i run) (slice_index_or run i d ∷ [])

pub greatest_more : (uniq : ℕ) (heads : List LogHead) (h : LogHead) → greatest_of uniq (heads ++ h ∷ []) ≡ max (greatest_of uniq heads) h.uniq
greatest_more uniq heads h = fold_more (λ n (g : LogHead). max n g.uniq) uniq heads h

pub failing_most : (test : ℕ → Bool) (n : ℕ) → failing test n ≤ n
unfolding failing
failing_most test zero = omega arith
failing_most test (suc n) = elim (test n) as (λ b. (if b then 0 else 1) + failing test n ≤ suc n) [ true ↦ omega (arith, failing_most test n) | false ↦ omega (arith, failing_most test n) ]

pub greatest_within : (heads : List LogHead) (uniq top : ℕ) → uniq ≤ top → AllByRecursion (λ (h : LogHead). h.uniq ≤ top) heads → (uniq ≤ greatest_of uniq heads) × (greatest_of uniq heads ≤ top)
greatest_within [] uniq top low all = (omega arith, low)
greatest_within (h ∷ heads) uniq top low all =
    let rest = greatest_within heads (max uniq h.uniq) top (omega (arith, low, all.0)) all.1 in
    (omega (arith, rest.0), rest.1)

pub all_front : {X : Type 0} (P : X → Type 0) (n : ℕ) (items : List X) → AllByRecursion P items → AllByRecursion P (take n items)
all_front P zero [] all = tt
all_front P zero (x ∷ items) all = tt
all_front P (suc n) [] all = tt
all_front P (suc n) (x ∷ items) all = (all.0, all_front P n items all.1)
