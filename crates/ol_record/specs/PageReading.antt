-- Reading the front of a log page from left to right, and testing what stands behind it.
use Rattle.std.specs.Prelude.{Bool, List, None, Option, Some, drop, if◌then◌else◌, length, nat_le, nat_lt, take, ℕ, ◌&&◌, ◌-◌, ◌==◌, ◌^◌, ◌∷◌}
use Rattle.std.specs.List.{list_all}
use Rattle.std.specs.Int.{w16, w32, w64}
use Rattle.ol_record.specs.declared.head.LogHead.{LogHead}
use Rattle.ol_bytes.specs.Reading.{◌>>=◌}
use Rattle.ol_record.specs.Reading.{number_at, whole_in}

-- behind the gate, whatever it is, and the mark of the format
unfoldable pub mark_at : List ℕ → Option (List ℕ)
mark_at (gate ∷ a ∷ b ∷ c ∷ rest) = if (a == 76) && ((b == 79) && (c == 71)) then Some rest else None
mark_at _ = None

-- the fields at the front of a page
unfoldable pub head_at : List ℕ → Option (LogHead × List ℕ)
head_at bytes = do
  rest ← mark_at bytes
  index ← number_at w32 rest
  uniq ← number_at w64 index.1
  incarnation ← number_at w64 uniq.1
  first ← number_at w64 incarnation.1
  count ← number_at w16 first.1
  used ← number_at w16 count.1
  Some (record { index = index.0; uniq = uniq.0; incarnation = incarnation.0; first = first.0; count = count.0; used = used.0 }, used.1)

-- whether a number is from 1 to 2^62
abbrev pub in_range : ℕ → Bool
in_range n = nat_le 1 n && nat_le n (2 ^ 62)

-- whether the numbers of a page may stand on disk
unfoldable pub in_limits : LogHead → Bool
in_limits h =
    in_range h.uniq
    && (in_range h.incarnation && ((nat_le 1 h.first && nat_le h.first (2 ^ 62 - h.count)) && nat_le 1 h.count))

-- the records that the head tells, and zeros
unfoldable pub body_at : LogHead → List ℕ → Option LogHead
body_at h rest =
    if nat_lt (length rest) h.used
    then None
    else (if whole_in h.count (take h.used rest) && list_all (λ b. b == 0) (drop h.used rest) then Some h else None)

-- the head of a whole page
unfoldable pub page_at : List ℕ → Option LogHead
page_at bytes = do
  h ← head_at bytes
  if in_limits h.0 then body_at h.0 h.1 else None
