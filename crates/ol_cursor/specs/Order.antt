-- Places of pages, and what a cursor answers of them.
use Rattle.std.specs.Prelude.{Bool, List, [], false, if◌then◌else◌, nat_le, nat_lt, slice_index, slice_index_or, ℕ, ◌&&◌, ◌+◌, ◌-◌, ◌==◌, ◌||◌, ◌∷◌, ◌≡◌}
use Rattle.ol_cursor.specs.declared.cursor.Cursor.{Cursor}

-- whether a place stands before another, in order of space and page
abbrev pub precedes : ℕ × ℕ → ℕ × ℕ → Bool
precedes p q = nat_lt p.0 q.0 || ((p.0 == q.0) && nat_lt p.1 q.1)

-- the place just behind another: the page after, or the first of the next space behind the greatest page
abbrev pub place_behind : ℕ × ℕ → ℕ × ℕ
place_behind p = if p.1 == 65535 then (p.0 + 1, 0) else (p.0, p.1 + 1)

-- these pages ascend strictly, from this place on
abbrev pub AscendFrom : ℕ × ℕ → List (ℕ × ℕ) → Type 0
AscendFrom place [] = Unit {0}
AscendFrom place (p ∷ pages) = (precedes p place ≡ false) × AscendFrom (place_behind p) pages

-- whether a space is one of the archive's
abbrev pub archives : Cursor → ℕ → Bool
archives c space = slice_index_or c.spaces space false

-- whether a page of this space and stamp is to be taken: the space is one of the archive's, and the stamp lies above its base and not above the cut
abbrev pub is_wanted : Cursor → ℕ → ℕ → Bool
is_wanted c space stamp = archives c space && (nat_lt (slice_index c.bases space) stamp && nat_le stamp c.cut)

-- a cursor that a page has passed
abbrev pub advanced : Cursor → ℕ → ℕ → Cursor
advanced c space page = record {
  number = c.number;
  level = c.level;
  cut = c.cut;
  low = c.low;
  spaces = c.spaces;
  bases = c.bases;
  next = place_behind (space, page);
  left = c.left - 1;
}
