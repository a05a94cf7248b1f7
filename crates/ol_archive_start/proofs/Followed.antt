-- The cursor of an archive that starts is of it, and counts its pages.
use Rattle.std.specs.List.{AllByRecursion, list_any, range_with_len}
use Rattle.std.specs.Prelude.{All, Bool, List, None, [], cond, false, filter, flat_map, if◌then◌else◌, length, map, nat_le, nat_lt, not, slice_index, slice_index_or, suc, sum_by, true, zero, ℕ, ◌&&◌, ◌+◌, ◌<◌, ◌==◌, ◌∷◌, ◌≡◌, ◌≤◌, ◌||◌}
use Rattle.std.proofs.Common.{ap, arith, inl, inr, length-append, refl, subst, sym, ◌∙◌}
use Rattle.std.proofs.lemmas.Bool.Decides.{eqb_tells, nat_tests}
use Rattle.std.proofs.lemmas.List.{get_or_past, length-map}
use Rattle.std.proofs.lemmas.List.Elements.{All-head, All-tail}
use Rattle.std.proofs.lemmas.List.FromFn.{get_or-map-range_with_len, length-map-range_with_len}
use Rattle.std.proofs.lemmas.List.Sums.{sum_by-cons}
use Rattle.std.proofs.lemmas.Map.Views.{any-filter_same}
use Rattle.ol_values.specs.declared.record.Record.{Record}
use Rattle.ol_values.specs.Blocks.{Saved}
use Rattle.ol_values.specs.Config.{Config, data_pages}
use Rattle.ol_rules.specs.Lasting.{Kept, Lasting}
use Rattle.ol_rules.specs.Start.{stamp_behind}
use Rattle.ol_model.specs.ArchiveTurns.{kept_at, saved_of}
use Rattle.ol_model.specs.Machine.{Archive, Machine, config_of, has_space, last_of, low_in, page_upto, stamp_upto}
use Rattle.ol_model.specs.Waiting.{pages_of}
use Rattle.ol_model.specs.Waiting.{changed_upto as changed_in_machine}
use Rattle.ol_turn_laws.specs.Room.{Regular}
use Rattle.ol_cursor.specs.Following.{IsOf}
use Rattle.ol_cursor.specs.Order.{archives}
use Rattle.ol_running.proofs.KeptLaws.{stamp_of_page}
use Rattle.ol_running.proofs.StartLaws.{all_upto}
use Rattle.ol_storage.specs.Behind.{is_up}
use Rattle.ol_storage.specs.Behind.{pages_of as pages_behind}
use Rattle.ol_storage.specs.Installation.{Installation}
use Rattle.ol_storage.specs.Installation.{config_of as config_in}
use Rattle.ol_txn.specs.Seats.{Seat}
use Rattle.ol_engine.specs.Parts.{Registers, Shows, behind_of}
use Rattle.ol_engine.proofs.Lows.{need_is}
use Rattle.ol_archive_start.specs.Refusing.{AreSpaces, is_down, parent_of}
use Rattle.ol_archive_start.specs.Starting.{AreThere, bases_of, changed_in, changed_of, changed_upto, cursor_begun, named_of}
use Rattle.ol_archive_start.proofs.Refused.{parent_is}

-- ---- among the spaces that are named

abbrev pub is_named : List ℕ → ℕ → Bool
is_named spaces space = list_any (λ t. t == space) spaces

-- what holds of all holds of one that is named
pub named_has : (P : ℕ → Type 0) (spaces : List ℕ) (space : ℕ) → All P spaces → is_named spaces space ≡ true → P space
named_has P [] space all named = absurd (let never : false ≡ true = named in cc)
named_has P (t ∷ spaces) space all named =
    elim (eqb_tells t space) [
      | inl e ↦ subst P e.1 (All-head P t spaces all)
      | inr e ↦ named_has P spaces space (All-tail P t spaces all) (rw (e.0) at named)
    ]

not_named : (spaces : List ℕ) (n space : ℕ) → All (λ s. s < n) spaces → n ≤ space → is_named spaces space ≡ false
not_named spaces n space within high = go (is_named spaces space) refl
  where
    go : (b : Bool) → is_named spaces space ≡ b → is_named spaces space ≡ false
    go false e = e
    go true e = absurd (omega (arith, high, named_has (λ s. s < n) spaces space within e))

-- the cursor has the spaces that are named
pub named_is : (spaces : List ℕ) (n space : ℕ) → All (λ s. s < n) spaces → n ≤ 16 → slice_index_or (named_of spaces) space false ≡ is_named spaces space
unfolding named_of
named_is spaces n space within few = go (nat_lt space 16) refl
  where
    go : (b : Bool) → nat_lt space 16 ≡ b → slice_index_or (map (is_named spaces) (range_with_len 0 16)) space false ≡ is_named spaces space
    go true e = get_or-map-range_with_len (is_named spaces) 0 16 space space false (grind (arith, nat_tests, e)) (omega arith)
    go false e =
        let high : 16 ≤ space = grind (arith, nat_tests, e) in
        get_or_past (map (is_named spaces) (range_with_len 0 16)) space false (omega (arith, high, length-map-range_with_len (is_named spaces) 0 16)) ∙ sym (not_named spaces n space within (omega (arith, high, few)))

-- ---- the spaces that are saved

in_numbers : (space first count : ℕ) → list_any (λ k. k == space) (range_with_len first count) ≡ (nat_le first space && nat_lt space (first + count))
in_numbers space first zero = grind (arith, nat_tests)
in_numbers space first (suc count) = ap (λ (b : Bool). (first == space) || b) (in_numbers space (first + 1) count) ∙ grind (arith, nat_tests)

same_tested : (t : ℕ → Bool) (space k : ℕ) → (k == space) ≡ true → t k ≡ t space
same_tested t space k same = let is : k ≡ space = grind (arith, nat_tests, same) in ap t is

module _ (f : ℕ → Saved) (same : (k : ℕ) → (f k).space ≡ k) where
  in_saved : (l : List ℕ) (space : ℕ) → list_any (λ (s : Saved). s.space == space) (map f l) ≡ list_any (λ k. k == space) l
  in_saved [] space = refl
  in_saved (k ∷ l) space = (λ j. (same k j == space) || in_saved l space j)

  saved_has : (t : ℕ → Bool) (count space : ℕ) → list_any (λ (s : Saved). s.space == space) (map f (filter t (range_with_len 0 count))) ≡ (t space && (nat_le 0 space && nat_lt space (0 + count)))
  saved_has t count space =
      in_saved (filter t (range_with_len 0 count)) space
      ∙ any-filter_same (λ k. k == space) t (t space) (same_tested t space) (range_with_len 0 count)
      ∙ ap (λ (b : Bool). t space && b) (in_numbers space 0 count)

both_or_none : (b c : Bool) → (b ≡ true → c ≡ true) → (b && c) ≡ b
both_or_none true c both = both refl
both_or_none false c both = refl

first_of : (b c : Bool) → (b && c) ≡ true → b ≡ true
first_of true c both = refl
first_of false c both = both

-- each of them has what holds of each number
saved_all : (P : Saved → Type 0) (f : ℕ → Saved) (t : ℕ → Bool) (first count : ℕ) → ((k : ℕ) → first ≤ k → k < first + count → P (f k)) → AllByRecursion P (map f (filter t (range_with_len first count)))
saved_all P f t first zero each = tt
saved_all P f t first (suc count) each =
    let more : AllByRecursion P (map f (filter t (range_with_len (first + 1) count))) = saved_all P f t (first + 1) count (λ k from to. each k (omega (arith, from)) (omega (arith, to))) in
    elim (t first) as (λ b. AllByRecursion P (map f (cond b (first ∷ filter t (range_with_len (first + 1) count)) (filter t (range_with_len (first + 1) count))))) [
      | true ↦ (each first (omega arith) (omega arith), more)
      | false ↦ more
    ]

-- ---- sums over them

abbrev counted_of : (Saved → List (ℕ × ℕ)) → (ℕ → Saved) → (ℕ → Bool) → ℕ → ℕ
counted_of h f t k = if t k then length (h (f k)) else 0

length_saved : (h : Saved → List (ℕ × ℕ)) (f : ℕ → Saved) (t : ℕ → Bool) (l : List ℕ) → length (flat_map h (map f (filter t l))) ≡ sum_by (counted_of h f t) l
length_saved h f t [] = refl
length_saved h f t (k ∷ l) = by_case (t k) (length_saved h f t l) ∙ sym (sum_by-cons (counted_of h f t) k l)
  where
    by_case : (b : Bool) → length (flat_map h (map f (filter t l))) ≡ sum_by (counted_of h f t) l → length (flat_map h (map f (cond b (k ∷ filter t l) (filter t l)))) ≡ (let n : ℕ = (if b then length (h (f k)) else 0) in n) + sum_by (counted_of h f t) l
    by_case true more = length-append (h (f k)) (flat_map h (map f (filter t l))) ∙ ap (λ (n : ℕ). length (h (f k)) + n) more
    by_case false more = omega (arith, more)

sum_alike : (f g : ℕ → ℕ) (first count : ℕ) → ((k : ℕ) → first ≤ k → k < first + count → f k ≡ g k) → sum_by f (range_with_len first count) ≡ sum_by g (range_with_len first count)
sum_alike f g first zero same = refl
sum_alike f g first (suc count) same =
    let more = sum_alike f g (first + 1) count (λ k from to. same k (omega (arith, from)) (omega (arith, to))) in
    let here : f first ≡ g first = same first (omega arith) (omega arith) in
    omega (arith, sum_by-cons f first (range_with_len (first + 1) count), sum_by-cons g first (range_with_len (first + 1) count), more, here)

-- ---- the archive

abbrev pub archive_started : Machine → ℕ → List ℕ → Archive
archive_started m level spaces = record { number = m.lasting.next_archive; level = level; cut = last_of m; low = low_in m; spaces = saved_of m level spaces; passed = 0; broken = None }

abbrev saved_at : Machine → ℕ → ℕ → Saved
saved_at m level k = record { space = k; parent = (kept_at m level k).number; base = (kept_at m level k).cut }

-- its spaces are those that are named
pub in_saved_named : (m : Machine) (level : ℕ) (spaces : List ℕ) (space : ℕ) → has_space space (archive_started m level spaces) ≡ true → is_named spaces space ≡ true
in_saved_named m level spaces space has =
    first_of (is_named spaces space) (nat_le 0 space && nat_lt space (0 + length (config_of m).spaces)) (sym (saved_has (saved_at m level) (λ k. refl) (is_named spaces) (length (config_of m).spaces) space) ∙ has)

-- the stamp of a page that the disk has is that as at the last position
stamp_is : (m : Machine) (space page : ℕ) → (page_upto m (last_of m) space page).stamp ≡ stamp_upto m (last_of m) space page
stamp_is m space page = stamp_of_page m space page ∙ ap (λ (l : List Record). stamp_behind m.work.start l space page) (sym (all_upto m))

module _ (opened : ℕ) (v : Installation) (seats : List Seat) (registers : Registers) (m : Machine) (level : ℕ) (spaces : List ℕ) (shows : Shows opened v seats registers m) (there : AreSpaces (config_in v) spaces) (few : length (config_in v).spaces ≤ 16) where
  within : All (λ s. s < length (config_of m).spaces) spaces
  within = subst (λ (c : Config). All (λ s. s < length c.spaces) spaces) shows.storage.config there

  most : length (config_of m).spaces ≤ 16
  most = subst (λ (c : Config). length c.spaces ≤ 16) shows.storage.config few

  base_is : (k : ℕ) → k < length (config_of m).spaces → slice_index (bases_of v.anchor level) k ≡ (kept_at m level k).cut
  unfolding bases_of
  base_is k low = get_or-map-range_with_len (λ i. (parent_of v.anchor level i).1) 0 16 k k 0 (omega (arith, low, most)) (omega arith) ∙ ap (λ (x : Kept). x.cut) (sym (parent_is v m level k shows.storage low))

  spaces_are : (left space : ℕ) → archives (cursor_begun v seats level spaces left) space ≡ has_space space (archive_started m level spaces)
  spaces_are left space =
      named_is spaces (length (config_of m).spaces) space within most
      ∙ sym (both_or_none (is_named spaces space) (nat_le 0 space && nat_lt space (0 + length (config_of m).spaces)) (λ named. let low = named_has (λ s. s < length (config_of m).spaces) spaces space within named in grind (arith, nat_tests, low)))
      ∙ sym (saved_has (saved_at m level) (λ k. refl) (is_named spaces) (length (config_of m).spaces) space)

  pub begun_is : (left : ℕ) → Regular m → IsOf (cursor_begun v seats level spaces left) (archive_started m level spaces)
  begun_is left regular = record {
    number = ap (λ (l : Lasting). l.next_archive) shows.storage.lasting;
    level = refl;
    cut = omega (arith, shows.storage.next);
    low = need_is opened v seats registers m shows regular.orderly.ascending;
    spaces = spaces_are left;
    bases = saved_all (λ (s : Saved). slice_index (bases_of v.anchor level) s.space ≡ s.base) (saved_at m level) (is_named spaces) 0 (length (config_of m).spaces) (λ k from to. base_is k (omega (arith, to)));
  }

  -- ---- its pages

  one_counted : (before : ℕ → Record) (left k : ℕ) → k < length (config_of m).spaces
      → changed_in (pages_behind v.anchor (behind_of before m)) (config_of m) (cursor_begun v seats level spaces left) k ≡ counted_of (changed_in_machine m (last_of m)) (saved_at m level) (is_named spaces) k
  one_counted before left k low =
      let g = pages_behind v.anchor (behind_of before m) in
      let base = slice_index (bases_of v.anchor level) k in
      let count = data_pages (config_of m) k in
      ap (λ (b : Bool). (let n : ℕ = (if b then changed_upto g k base count else 0) in n)) (named_is spaces (length (config_of m).spaces) k within most)
      ∙ ap (λ (n : ℕ). (let i : ℕ = (if is_named spaces k then n else 0) in i)) (
      (λ j. length (filter (λ p. nat_lt (base_is k low j) (stamp_is m k p j)) (range_with_len 0 count)))
      ∙ sym (length-map (filter (λ p. nat_lt (kept_at m level k).cut (stamp_upto m (last_of m) k p)) (range_with_len 0 count)) (λ p. let r : ℕ × ℕ = (k, p) in r)))

  pub pages_counted : (before : ℕ → Record) (left : ℕ)
      → changed_of (pages_behind v.anchor (behind_of before m)) (config_in v) (cursor_begun v seats level spaces left) (length (config_in v).spaces) ≡ length (pages_of m (archive_started m level spaces))
  unfolding pages_of
  pages_counted before left =
      ap (λ (c : Config). changed_of (pages_behind v.anchor (behind_of before m)) c (cursor_begun v seats level spaces left) (length c.spaces)) shows.storage.config
      ∙ sum_alike _ _ 0 (length (config_of m).spaces) (λ k from to. one_counted before left k (omega (arith, to)))
      ∙ sym (length_saved (changed_in_machine m (last_of m)) (saved_at m level) (is_named spaces) (range_with_len 0 (length (config_of m).spaces)))

-- ---- its spaces

up_of : (b : Bool) → not b ≡ false → b ≡ true
up_of true e = refl
up_of false e = absurd (let never : true ≡ false = e in cc)

-- they are up
pub begun_up : (v : Installation) (seats : List Seat) (level left : ℕ) (spaces : List ℕ) → AreSpaces (config_in v) spaces → length (config_in v).spaces ≤ 16 → All (λ s. is_down v.anchor s ≡ false) spaces
    → (space : ℕ) → archives (cursor_begun v seats level spaces left) space ≡ true → is_up v.anchor space ≡ true
begun_up v seats level left spaces there few up space has =
    up_of (is_up v.anchor space) (named_has (λ s. is_down v.anchor s ≡ false) spaces space up (sym (named_is spaces (length (config_in v).spaces) space there few) ∙ has))

-- and there
pub begun_there : (v : Installation) (seats : List Seat) (level left : ℕ) (spaces : List ℕ) → AreSpaces (config_in v) spaces → length (config_in v).spaces ≤ 16 → All (λ s. is_down v.anchor s ≡ false) spaces → AreThere v (cursor_begun v seats level spaces left)
begun_there v seats level left spaces there few up space has = (
  named_has (λ s. s < length (config_in v).spaces) spaces space there (sym (named_is spaces (length (config_in v).spaces) space there few) ∙ has),
  begun_up v seats level left spaces there few up space has,
)
