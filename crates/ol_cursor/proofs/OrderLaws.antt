-- The order of places.
use Rattle.std.specs.Prelude.{Bool, List, [], false, true, ℕ, ◌&&◌, ◌+◌, ◌==◌, ◌∷◌, ◌≡◌, ◌≤◌}
use Rattle.std.proofs.Common.{arith}
use Rattle.std.proofs.lemmas.Bool.Decides.{nat_tests}
use Rattle.ol_cursor.specs.Order.{AscendFrom, place_behind, precedes}

-- what does not stand before a place does not stand before an earlier one
pub not_before : (p q r : ℕ × ℕ) → precedes q r ≡ false → precedes p q ≡ false → precedes p r ≡ false
not_before p q r from behind = grind (arith, nat_tests)

-- a place stands before the one behind it
pub before_behind : (p : ℕ × ℕ) → precedes p (place_behind p) ≡ true
before_behind p = grind (arith, nat_tests)

-- and so does what stands before a place that is not behind it
pub before_more : (q p next : ℕ × ℕ) → precedes p next ≡ false → precedes q next ≡ true → precedes q (place_behind p) ≡ true
before_more q p next ahead behind = grind (arith, nat_tests)

-- the place behind one that is not before another is not before it either
pub behind_more : (p next : ℕ × ℕ) → precedes p next ≡ false → precedes (place_behind p) next ≡ false
behind_more p next ahead = grind (arith, nat_tests)

-- the place behind one of a space does not lie behind the next space's first
pub next_space : (space page : ℕ) → precedes (space + 1, 0) (place_behind (space, page)) ≡ false
next_space space page = grind (arith, nat_tests)

-- nor behind that of the next page, where that has a number of two bytes
pub next_page : (space page : ℕ) → page + 2 ≤ 65536 → precedes (space, page + 1) (place_behind (space, page)) ≡ false
next_page space page within = grind (arith, nat_tests)

-- places of a later space, and later places of one, do not stand before earlier ones
pub later_space : (space other page first : ℕ) → other + 1 ≤ space → precedes (space, page) (other, first) ≡ false
later_space space other page first later = grind (arith, nat_tests)

pub later_page : (space page first : ℕ) → first ≤ page → precedes (space, page) (space, first) ≡ false
later_page space page first later = grind (arith, nat_tests)

pub same_or_later_space : (space other : ℕ) → other ≤ space → precedes (space, 0) (other, 0) ≡ false
same_or_later_space space other later = grind (arith, nat_tests)

-- a place that is the same as another stands alike to a third
pub same_before : (q p next : ℕ × ℕ) (b : Bool) → ((q.0 == p.0) && (q.1 == p.1)) ≡ true → precedes p next ≡ b → precedes q next ≡ b
same_before q p next b same is = grind (arith, nat_tests)

-- pages that ascend from a place ascend from an earlier one
pub from_earlier : (pages : List (ℕ × ℕ)) (place earlier : ℕ × ℕ) → precedes place earlier ≡ false → AscendFrom place pages → AscendFrom earlier pages
from_earlier [] place earlier later ascend = tt
from_earlier (p ∷ pages) place earlier later ascend = (not_before p place earlier later ascend.0, ascend.1)
