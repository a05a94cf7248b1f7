-- The uses of the log files as the ring holds them, each with the heads of its written pages.
use Rattle.std.specs.List.{AllByRecursion}
use Rattle.std.specs.Prelude.{Bool, List, [], false, length, map, nat_le, nat_lt, true, ℕ, ◌&&◌, ◌++◌, ◌+◌, ◌-◌, ◌<◌, ◌^◌, ◌∷◌, ◌≤◌}
use Rattle.ol_record.specs.declared.head.LogHead.{LogHead}
use Rattle.ol_rules.specs.Ring.{LogRange, Use}
use Rattle.ol_log_places.specs.Heads.{IsUniq, IsWritten}

-- one use of a file, with the heads of its written pages; switched where it was closed before all its pages were written
pub record HeldUse : Type 0 where
  pub uniq : ℕ
  pub heads : List LogHead
  pub switched : Bool

-- a use, and how many heads more it takes before memory is needed
pub record Stored : Type 0 where
  pub held : HeldUse
  pub room : ℕ

-- the place and the positions that a head tells
abbrev pub range_of_head : LogHead → LogRange
range_of_head h = record { index = h.index; first = h.first; count = h.count }

-- the use by the rules of the ring, without heads
abbrev pub use_of : HeldUse → Use
use_of u = record { uniq = u.uniq; pages = map range_of_head u.heads; switched = u.switched }

-- whether the page of a head holds a position
abbrev pub head_holds : ℕ → LogHead → Bool
head_holds position h = nat_le h.first position && nat_lt position (h.first + h.count)

-- how a use is stored: its heads are in limits, and there is memory for so many more
pub record IsStored (uniq count room capacity : ℕ) (heads : List LogHead) : Type 0 where
  pub limits : IsUniq uniq
  pub fits : count + room ≤ capacity
  pub few : count + room < 2 ^ 32
  pub written : AllByRecursion IsWritten heads

-- ---- steps of one use

-- a use with a head more
abbrev pub with_head : LogHead → HeldUse → HeldUse
with_head h u = record { uniq = u.uniq; heads = u.heads ++ h ∷ []; switched = u.switched }

-- a head more, for which a place less is left
abbrev pub pushed : LogHead → Stored → Stored
pushed h s = record { held = with_head h s.held; room = s.room - 1 }

-- a use with no page yet
abbrev pub fresh : ℕ → HeldUse
fresh uniq = record { uniq = uniq; heads = []; switched = false }

-- the memory of a use for another one
abbrev pub emptied : ℕ → Stored → Stored
emptied uniq s = record { held = fresh uniq; room = s.room + length s.held.heads }

-- a use that was closed by a switch
abbrev pub closed_use : HeldUse → HeldUse
closed_use u = record { uniq = u.uniq; heads = u.heads; switched = true }
