-- The pages of an archive ascend.
use Rattle.std.specs.List.{range_with_len}
use Rattle.std.specs.Prelude.{Bool, List, [], cond, false, filter, flat_map, length, map, nat_lt, suc, true, zero, ℕ, ◌++◌, ◌+◌, ◌∷◌, ◌≡◌, ◌≤◌, refl}
use Rattle.std.proofs.Common.{arith, subst, sym}
use Rattle.ol_values.specs.Blocks.{Saved}
use Rattle.ol_values.specs.Config.{data_pages}
use Rattle.ol_model.specs.ArchiveTurns.{saved_of}
use Rattle.ol_model.specs.Machine.{Archive, Machine, config_of, stamp_upto}
use Rattle.ol_model.specs.Waiting.{changed_upto, pages_of}
use Rattle.ol_cursor.specs.Following.{HasShortSpaces, SpacesFrom}
use Rattle.ol_cursor.specs.Order.{AscendFrom, place_behind}
use Rattle.ol_cursor.proofs.OrderLaws.{from_earlier, later_page, later_space, next_page, next_space, same_or_later_space}

-- ---- the pages of one space, and of later ones behind them

abbrev pub picked : ℕ → (ℕ → Bool) → ℕ → ℕ → List (ℕ × ℕ)
picked space test first count = map (λ p. let r : ℕ × ℕ = (space, p) in r) (filter test (range_with_len first count))

-- what ascends from the page behind this one does so from the place behind it
behind_one : (space first count : ℕ) (test : ℕ → Bool) (rest : List (ℕ × ℕ)) → first + 1 + count ≤ 65536 → AscendFrom (space + 1, 0) rest
    → AscendFrom (space, first + 1) (picked space test (first + 1) count ++ rest) → AscendFrom (place_behind (space, first)) (picked space test (first + 1) count ++ rest)
behind_one space first zero test rest within ascend here = from_earlier rest (space + 1, 0) (place_behind (space, first)) (next_space space first) ascend
behind_one space first (suc count) test rest within ascend here =
    from_earlier (picked space test (first + 1) (suc count) ++ rest) (space, first + 1) (place_behind (space, first)) (next_page space first (omega arith)) here

picked_ascend : (space : ℕ) (test : ℕ → Bool) (rest : List (ℕ × ℕ)) (first count : ℕ) → first + count ≤ 65536 → AscendFrom (space + 1, 0) rest
    → AscendFrom (space, first) (picked space test first count ++ rest)
picked_ascend space test rest first zero within ascend = from_earlier rest (space + 1, 0) (space, first) (later_space (space + 1) space 0 first (omega arith)) ascend
picked_ascend space test rest first (suc count) within ascend =
    let more : AscendFrom (space, first + 1) (picked space test (first + 1) count ++ rest) = picked_ascend space test rest (first + 1) count (omega arith) ascend in
    elim (test first) as (λ b. AscendFrom (space, first) (map (λ p. let r : ℕ × ℕ = (space, p) in r) (cond b (first ∷ filter test (range_with_len (first + 1) count)) (filter test (range_with_len (first + 1) count))) ++ rest)) [
      | true ↦ (later_page space first first (omega arith), behind_one space first count test rest (omega arith) ascend more)
      | false ↦ from_earlier (picked space test (first + 1) count ++ rest) (space, first + 1) (space, first) (later_page space (first + 1) first (omega arith)) more
    ]

-- ---- of all spaces

spaces_ascend : (m : Machine) (position : ℕ) → HasShortSpaces (config_of m) → (spaces : List Saved) (space : ℕ) → SpacesFrom space spaces
    → AscendFrom (space, 0) (flat_map (changed_upto m position) spaces)
spaces_ascend m position short [] space from = tt
spaces_ascend m position short (s ∷ spaces) space from =
    let rest = flat_map (changed_upto m position) spaces in
    let test : ℕ → Bool = λ p. nat_lt s.base (stamp_upto m position s.space p) in
    let count = data_pages (config_of m) s.space in
    from_earlier (picked s.space test 0 count ++ rest) (s.space, 0) (space, 0) (same_or_later_space s.space space from.0)
    (picked_ascend s.space test rest 0 count (omega (arith, short s.space)) (spaces_ascend m position short spaces (s.space + 1) from.1))

pub pages_ascend : (m : Machine) (a : Archive) → HasShortSpaces (config_of m) → SpacesFrom 0 a.spaces → AscendFrom (0, 0) (pages_of m a)
unfolding pages_of
pages_ascend m a short from = spaces_ascend m a.cut short a.spaces 0 from

-- ---- the spaces of an archive that starts

spaces_earlier : (spaces : List Saved) (space earlier : ℕ) → earlier ≤ space → SpacesFrom space spaces → SpacesFrom earlier spaces
spaces_earlier [] space earlier later from = tt
spaces_earlier (s ∷ spaces) space earlier later from = (omega (arith, from.0, later), from.1)

saved_from : (f : ℕ → Saved) → ((n : ℕ) → (f n).space ≡ n) → (test : ℕ → Bool) (first count : ℕ) → SpacesFrom first (map f (filter test (range_with_len first count)))
saved_from f same test first zero = tt
saved_from f same test first (suc count) =
    let rest = map f (filter test (range_with_len (first + 1) count)) in
    let more : SpacesFrom (first + 1) rest = saved_from f same test (first + 1) count in
    elim (test first) as (λ b. SpacesFrom first (map f (cond b (first ∷ filter test (range_with_len (first + 1) count)) (filter test (range_with_len (first + 1) count))))) [
      | true ↦ (omega (arith, same first), subst (λ (n : ℕ). SpacesFrom (n + 1) rest) (sym (same first)) more)
      | false ↦ spaces_earlier rest (first + 1) first (omega arith) more
    ]

pub started_ascend : (m : Machine) (level : ℕ) (spaces : List ℕ) → SpacesFrom 0 (saved_of m level spaces)
started_ascend m level spaces = saved_from _ (λ n. refl) _ 0 (length (config_of m).spaces)
