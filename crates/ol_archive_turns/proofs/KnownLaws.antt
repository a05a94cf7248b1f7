-- Known archives in an anchor: they fit it, and it keeps of each space what the machine keeps.
use Rattle.std.specs.List.{list_all, range_with_len}
use Rattle.std.specs.Prelude.{Bool, List, [], false, if◌then◌else◌, length, map, slice_index_or, suc, true, zero, ℕ, ◌+◌, ◌∷◌, ◌<◌, ◌^◌, ◌≡◌, ◌≤◌}
use Rattle.std.proofs.Common.{arith, refl, ◌∙◌}
use Rattle.std.proofs.lemmas.Bool.{and_parts}
use Rattle.std.proofs.lemmas.Bool.Decides.{nat_tests}
use Rattle.std.proofs.lemmas.List.FromFn.{get_or-map-range_with_len, length-map-range_with_len}
use Rattle.ol_rules.specs.Lasting.{Kept, SpaceState}
use Rattle.ol_model.specs.ArchiveTurns.{kept_after}
use Rattle.ol_cursor.specs.declared.cursor.Cursor.{Cursor}
use Rattle.ol_cursor.specs.Order.{archives}
use Rattle.ol_reserve.specs.Anchor.{IsAnchor, is_known}
use Rattle.ol_reserve.specs.declared.anchor.Anchor.{Anchor}
use Rattle.ol_storage.specs.Installation.{lasting_anchor}
use Rattle.ol_engine.specs.Parts.{kept_in, space_in}
use Rattle.ol_archive_turns.specs.Ending.{kept_of, known_in, known_with, lasting_ended}

-- ---- they fit

-- a test of all items holds of one that is read, and of what is read past the end
all_read : (l : List (ℕ × ℕ)) (i : ℕ) → list_all is_known l ≡ true → is_known (slice_index_or l i (0, 0)) ≡ true
all_read [] i all = refl
all_read (x ∷ l) zero all = (and_parts (is_known x) (list_all is_known l) all).0
all_read (x ∷ l) (suc i) all = all_read l i (and_parts (is_known x) (list_all is_known l) all).1

all_mapped : (f : ℕ → ℕ × ℕ) (from n : ℕ) → ((i : ℕ) → is_known (f i) ≡ true) → list_all is_known (map f (range_with_len from n)) ≡ true
all_mapped f from zero each = refl
all_mapped f from (suc n) each = rw (each from) (all_mapped f (from + 1) n each)

one_known : (b : Bool) (kept other : ℕ × ℕ) → is_known kept ≡ true → is_known other ≡ true → is_known (let k : ℕ × ℕ = (if b then kept else other) in k) ≡ true
one_known true kept other first second = first
one_known false kept other first second = second

-- those of the spaces, with one that fits
known_fit : (c : Cursor) (kept : ℕ × ℕ) (known : List (ℕ × ℕ)) → is_known kept ≡ true → list_all is_known known ≡ true → list_all is_known (known_with c kept known) ≡ true
unfolding known_with
known_fit c kept known fits all = all_mapped (known_in c kept known) 0 16 (λ i. one_known (archives c i) kept (slice_index_or known i (0, 0)) fits (all_read known i all))

known_long : (c : Cursor) (kept : ℕ × ℕ) (known : List (ℕ × ℕ)) → length (known_with c kept known) ≡ 16
unfolding known_with
known_long c kept known = length-map-range_with_len (known_in c kept known) 0 16

module _ (a : Anchor) (c : Cursor) (uniq : ℕ) (serial : a.serial < 2 ^ 62) (number : uniq ≤ 2 ^ 62) (fits : is_known (kept_of c) ≡ true) (is : IsAnchor a) where
  -- the anchor that is written is one
  pub ended_is_anchor : (level : ℕ) → IsAnchor (lasting_anchor a (lasting_ended a c level) uniq)
  ended_is_anchor zero = record {
    state = is.state;
    numbers = grind (arith, nat_tests, serial, number, is.numbers);
    downs = is.downs;
    zeros = known_fit c (kept_of c) a.zero fits is.zeros;
    ones = known_fit c (0, 0) a.one refl is.ones;
    down_at = is.down_at;
    configured = is.configured;
    each = (is.each.0, is.each.1, known_long c (kept_of c) a.zero, known_long c (0, 0) a.one);
    short = is.short;
  }
  ended_is_anchor (suc level) = record {
    state = is.state;
    numbers = grind (arith, nat_tests, serial, number, is.numbers);
    downs = is.downs;
    zeros = is.zeros;
    ones = known_fit c (kept_of c) a.one fits is.ones;
    down_at = is.down_at;
    configured = is.configured;
    each = (is.each.0, is.each.1, is.each.2, known_long c (kept_of c) a.one);
    short = is.short;
  }

-- ---- what is kept of a space

-- what a space keeps behind an archive's end, where it is one of the archive's
abbrev pub kept_if : Bool → ℕ → Kept → SpaceState → SpaceState
kept_if true level kept s = kept_after level kept s
kept_if false level kept s = s

read_known : (c : Cursor) (kept : ℕ × ℕ) (known : List (ℕ × ℕ)) (i : ℕ) → i < 16 → slice_index_or (known_with c kept known) i (0, 0) ≡ known_in c kept known i
unfolding known_with
read_known c kept known i within = get_or-map-range_with_len (known_in c kept known) 0 16 i i (0, 0) within (omega arith)

-- the anchor's space behind the end of an archive of level 0 and of level 1
pub space_zero : (a : Anchor) (c : Cursor) (uniq i : ℕ) → i < 16 → space_in (lasting_anchor a (lasting_ended a c 0) uniq) i ≡ kept_if (archives c i) 0 (kept_in (kept_of c)) (space_in a i)
space_zero a c uniq i within =
    (λ j. record (space_in a i) { zero = kept_in (read_known c (kept_of c) a.zero i within j); one = kept_in (read_known c (0, 0) a.one i within j) })
    ∙ elim (archives c i) as (λ b. (let s : SpaceState = record (space_in a i) { zero = kept_in (if b then kept_of c else slice_index_or a.zero i (0, 0)); one = kept_in (if b then (0, 0) else slice_index_or a.one i (0, 0)) } in s) ≡ kept_if b 0 (kept_in (kept_of c)) (space_in a i)) [
      | true ↦ refl
      | false ↦ refl
    ]

pub space_one : (a : Anchor) (c : Cursor) (uniq i : ℕ) → i < 16 → space_in (lasting_anchor a (lasting_ended a c 1) uniq) i ≡ kept_if (archives c i) 1 (kept_in (kept_of c)) (space_in a i)
space_one a c uniq i within =
    (λ j. record (space_in a i) { one = kept_in (read_known c (kept_of c) a.one i within j) })
    ∙ elim (archives c i) as (λ b. (let s : SpaceState = record (space_in a i) { one = kept_in (if b then kept_of c else slice_index_or a.one i (0, 0)) } in s) ≡ kept_if b 1 (kept_in (kept_of c)) (space_in a i)) [
      | true ↦ refl
      | false ↦ refl
    ]
