-- The places of a drive's blocks rise.
use Rattle.std.proofs.Common.{◌≡◌, ℕ, ◌+◌, ◌-◌, ◌<◌, ◌≤◌, ◌++◌, ◌⊎◌, ◌∙◌, List, [], ◌∷◌, arith, eqb, get_or, inl, inr, length, ltb, map, refl, suc, true, zero}
use Rattle.std.specs.List.{range_with_len}
use Rattle.std.specs.Prelude.{◌&&◌, ◌||◌}
use Rattle.std.proofs.lemmas.Bool.{and_from, eq-eqb, lt-ltb, or_left, or_right}
use Rattle.std.proofs.lemmas.List.{get_or-map, length-map}
use Rattle.ol_ports.specs.Shelf.{shape_of}
use Rattle.ol_rules.specs.Plan.{is_before}
use Rattle.ol_rules.specs.Shelf.{Placed}
use Rattle.ol_object_spans.specs.Scans.{AreRising, block_at, no_block}
use Rattle.ol_shelf_reader.specs.Streams.{places_from, places_of}
use Rattle.ol_catalog.specs.Streams.{drive_blocks, placed_at}

-- a place is not before this volume and block
abbrev IsFrom : ℕ → ℕ → ℕ × ℕ → Type 0
IsFrom volume block p = (volume < p.0) ⊎ ((volume ≡ p.0) × (block ≤ p.1))

-- each place is behind the one before it, and the first not before this volume and block
abbrev Climbs : ℕ → ℕ → List (ℕ × ℕ) → Type 0
Climbs volume block [] = Unit {0}
Climbs volume block (p ∷ rest) = IsFrom volume block p × Climbs p.0 (p.1 + 1) rest

from_next : (v n : ℕ) (p : ℕ × ℕ) → IsFrom (v + 1) 0 p → IsFrom v n p
from_next v n p (inl below) = inl (omega (arith, below))
from_next v n p (inr (same, _)) = inl (omega (arith, same))

climbs_next : (v n : ℕ) (l : List (ℕ × ℕ)) → Climbs (v + 1) 0 l → Climbs v n l
climbs_next v n [] c = tt
climbs_next v n (p ∷ rest) (from, c) = (from_next v n p from, c)

volume_climbs : (v n count : ℕ) (rest : List (ℕ × ℕ)) → Climbs (v + 1) 0 rest → Climbs v n (map (λ (b : ℕ). (v, b)) (range_with_len n count) ++ rest)
volume_climbs v n zero rest c = climbs_next v n rest c
volume_climbs v n (suc count) rest c = (inr (refl, omega arith), volume_climbs v (n + 1) count rest c)

all_climb : (v n : ℕ) (counts : List ℕ) → Climbs v n (places_from v n counts)
all_climb v n [] = tt
all_climb v n (count ∷ counts) = volume_climbs v n (count - n) (places_from (v + 1) 0 counts) (all_climb (v + 1) 0 counts)

from_later : (v n : ℕ) (p q : ℕ × ℕ) → IsFrom v n p → IsFrom p.0 (p.1 + 1) q → IsFrom v n q
from_later v n p q (inl one) (inl two) = inl (omega (arith, one, two))
from_later v n p q (inl one) (inr (same, two)) = inl (omega (arith, one, same))
from_later v n p q (inr (same, one)) (inl two) = inl (omega (arith, same, two))
from_later v n p q (inr (same, one)) (inr (equal, two)) = inr (omega (arith, same, equal), omega (arith, one, two))

all_from : (v n : ℕ) (l : List (ℕ × ℕ)) → Climbs v n l → (j : ℕ) → j < length l → IsFrom v n (get_or l j (0, 0))
all_from v n [] c j h = absurd (omega (arith, h))
all_from v n (p ∷ rest) c zero h = c.0
all_from v n (p ∷ rest) c (suc j) h = from_later v n p (get_or rest j (0, 0)) c.0 (all_from p.0 (p.1 + 1) rest c.1 j (omega (arith, h)))

later_from : (v n : ℕ) (l : List (ℕ × ℕ)) → Climbs v n l → (i j : ℕ) → i < j → j < length l → IsFrom (get_or l i (0, 0)).0 ((get_or l i (0, 0)).1 + 1) (get_or l j (0, 0))
later_from v n [] c i j less h = absurd (omega (arith, h))
later_from v n (p ∷ rest) c i zero less h = absurd (omega (arith, less))
later_from v n (p ∷ rest) c zero (suc j) less h = all_from p.0 (p.1 + 1) rest c.1 j (omega (arith, h))
later_from v n (p ∷ rest) c (suc i) (suc j) less h = later_from p.0 (p.1 + 1) rest c.1 i j (omega (arith, less)) (omega (arith, h))

is_behind : (p q : Placed) → p.drive ≡ q.drive → IsFrom p.volume (p.block + 1) (q.volume, q.block) → is_before p q ≡ true
is_behind p q same (inl below) =
    or_right (ltb p.drive q.drive) (eqb p.drive q.drive && (ltb p.volume q.volume || (eqb p.volume q.volume && ltb p.block q.block)))
    (and_from (eqb p.drive q.drive) (ltb p.volume q.volume || (eqb p.volume q.volume && ltb p.block q.block)) (eq-eqb p.drive q.drive same)
    (or_left (ltb p.volume q.volume) (eqb p.volume q.volume && ltb p.block q.block) (lt-ltb p.volume q.volume below)))
is_behind p q same (inr (equal, below)) =
    or_right (ltb p.drive q.drive) (eqb p.drive q.drive && (ltb p.volume q.volume || (eqb p.volume q.volume && ltb p.block q.block)))
    (and_from (eqb p.drive q.drive) (ltb p.volume q.volume || (eqb p.volume q.volume && ltb p.block q.block)) (eq-eqb p.drive q.drive same)
    (or_right (ltb p.volume q.volume) (eqb p.volume q.volume && ltb p.block q.block)
    (and_from (eqb p.volume q.volume) (ltb p.block q.block) (eq-eqb p.volume q.volume equal) (lt-ltb p.block q.block (omega (arith, below))))))

-- the block of an index stands at the place of that index
at_place : (tapes : List (List (List (List ℕ)))) (drive : ℕ) (l : List (ℕ × ℕ)) (i : ℕ) → i < length l → block_at (map (placed_at tapes drive) l) i ≡ placed_at tapes drive (get_or l i (0, 0))
at_place tapes drive l i h = get_or-map (placed_at tapes drive) l i (0, 0) no_block h

rises : (tapes : List (List (List (List ℕ)))) (drive v n : ℕ) (l : List (ℕ × ℕ)) → Climbs v n l → AreRising (map (placed_at tapes drive) l)
rises tapes drive v n l c i j less h =
    let long : length (map (placed_at tapes drive) l) ≡ length l = length-map l (placed_at tapes drive) in
    let two : j < length l = omega (arith, h, long) in
    let one : i < length l = omega (arith, less, two) in
    (λ k. is_before (at_place tapes drive l i one k) (at_place tapes drive l j two k))
    ∙ is_behind (placed_at tapes drive (get_or l i (0, 0))) (placed_at tapes drive (get_or l j (0, 0))) refl (later_from v n l c i j less two)

pub drive_rises : (tapes : List (List (List (List ℕ)))) (drive : ℕ) → AreRising (drive_blocks tapes drive)
drive_rises tapes drive =
    let counts : List ℕ = get_or (shape_of tapes) drive [] in
    rises tapes drive 1 0 (places_of (shape_of tapes) drive) (all_climb 1 0 counts)
