-- That a cursor tells of a running archive of the machine.
use Rattle.std.specs.List.{AllByRecursion}
use Rattle.std.specs.Prelude.{List, [], length, slice_index, take, true, ℕ, ◌+◌, ◌∷◌, ◌≡◌, ◌≤◌}
use Rattle.ol_values.specs.Blocks.{Saved}
use Rattle.ol_values.specs.Config.{Config, data_pages}
use Rattle.ol_rules.specs.Start.{start_page}
use Rattle.ol_model.specs.Machine.{Archive, Machine, has_space}
use Rattle.ol_model.specs.Waiting.{left_of, pages_of}
use Rattle.ol_cursor.specs.declared.cursor.Cursor.{Cursor}
use Rattle.ol_cursor.specs.Order.{AscendFrom, archives, precedes}

-- the spaces of an archive ascend strictly, from this number on
abbrev pub SpacesFrom : ℕ → List Saved → Type 0
SpacesFrom space [] = Unit {0}
SpacesFrom space (s ∷ spaces) = (space ≤ s.space) × SpacesFrom (s.space + 1) spaces

-- no space has more data pages than there are page numbers of two bytes
abbrev pub HasShortSpaces : Config → Type 0
HasShortSpaces c = (space : ℕ) → data_pages c space ≤ 65536

-- the cut of an archive does not lie before what the opening read, nor does a stamp that it read lie behind that
pub record CutsBehind (m : Machine) (a : Archive) : Type 0 where
  pub last : m.work.start.last ≤ a.cut
  pub stamps : (space page : ℕ) → (start_page m.work.start space page).stamp ≤ m.work.start.last

-- a cursor has the numbers, the spaces and the bases of an archive
pub record IsOf (c : Cursor) (a : Archive) : Type 0 where
  pub number : c.number ≡ a.number
  pub level : c.level ≡ a.level
  pub cut : c.cut ≡ a.cut
  pub low : c.low ≡ a.low
  pub spaces : (space : ℕ) → archives c space ≡ has_space space a
  pub bases : AllByRecursion (λ (s : Saved). slice_index c.bases s.space ≡ s.base) a.spaces

-- a cursor is of an archive, counts its pages that have not passed, and stands before these and behind those that have
pub record Follows (c : Cursor) (m : Machine) (a : Archive) : Type 0 where
  pub of_it : IsOf c a
  pub left : c.left ≡ length (left_of m a)
  pub ahead : AscendFrom c.next (left_of m a)
  pub behind : AllByRecursion (λ p. precedes p c.next ≡ true) (take a.passed (pages_of m a))
