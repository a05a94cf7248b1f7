-- The image of a data page: the 2,048 bytes that stand for it.
use Rattle.std.specs.Prelude.{All, IfSome, List, None, Option, Some, [], drop, flat_map, length, replicate, slice_set, suc, take, zero, ℕ, ◌++◌, ◌+◌, ◌-◌, ◌<◌, ◌^◌, ◌∷◌, ◌≡◌, ◌≤◌}
use Rattle.std.specs.Int.{w64, from_be_bytes, to_be_bytes}
use Rattle.ol_values.specs.declared.row.Row.{Row}
use Rattle.ol_values.specs.Pages.{Page, blank}

-- a slot has 64 bytes: 0 for empty, else the length plus 1, the row, and zeros
abbrev pub slot_bytes : Option Row → List ℕ
slot_bytes None = replicate 64 0
slot_bytes (Some row) = (length row + 1) ∷ row ++ replicate (63 - length row) 0

-- the slots one after the other
unfoldable pub slots_bytes : List (Option Row) → List ℕ
slots_bytes slots = flat_map slot_bytes slots

-- the stamp, 24 zeros, the slots from byte 32 on, 24 zeros, and the stamp again
abbrev pub page_bytes : Page → List ℕ
page_bytes p =
    to_be_bytes w64 p.stamp ++ replicate 24 0 ++ slots_bytes p.slots ++ replicate 24 0 ++ to_be_bytes w64 p.stamp

-- a page that an image stands for: 31 slots with rows of at most 63 bytes
pub record IsPage (p : Page) : Type 0 where
  pub whole : length p.slots ≡ 31
  pub rows : All (λ s. IfSome s (λ row. length row ≤ 63)) p.slots
  pub stamp : p.stamp < 2 ^ 64

-- a page that a disk may hold: a stamp is at most 2^62, and a page that was never changed is blank
pub record IsDataPage (p : Page) : Type 0 where
  pub page : IsPage p
  pub stamp : p.stamp ≤ 2 ^ 62
  pub unchanged : p.stamp ≡ 0 → p ≡ blank

-- what the bytes of a slot hold
abbrev pub slot_in : List ℕ → Option Row
slot_in [] = None
slot_in (zero ∷ rest) = None
slot_in (suc n ∷ rest) = Some (take n rest)

-- what so many slots hold
unfoldable pub slots_in : ℕ → List ℕ → List (Option Row)
slots_in zero bytes = []
slots_in (suc n) bytes = slot_in (take 64 bytes) ∷ slots_in n (drop 64 bytes)

-- the page that bytes stand for, where they stand for one
abbrev pub page_in : List ℕ → Page
page_in bytes = record { stamp = from_be_bytes w64 (take 8 bytes); slots = slots_in 31 (drop 32 bytes) }

-- the page with another row in a slot, or with none
abbrev pub with_slot : Page → ℕ → Option Row → ℕ → Page
with_slot p slot row stamp = record { stamp = stamp; slots = slice_set p.slots slot row }
