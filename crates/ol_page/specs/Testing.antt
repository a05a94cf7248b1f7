-- The test whether bytes are the image of a data page.
use Rattle.std.specs.List.{list_all}
use Rattle.std.specs.Prelude.{Bool, List, [], bytes_eq, drop, false, nat_le, not, suc, take, true, zero, ℕ, ◌&&◌, ◌-◌, ◌==◌, ◌^◌, ◌||◌, ◌∷◌}
use Rattle.std.specs.Int.{w64, from_be_bytes}

abbrev pub are_zeros : List ℕ → Bool
are_zeros bytes = list_all (λ b. b == 0) bytes

-- a slot: the length of its row is at most 63, and zeros stand behind the row
abbrev pub is_slot : List ℕ → Bool
is_slot [] = false
is_slot (n ∷ rest) = nat_le n 64 && are_zeros (drop (n - 1) rest)

-- so many slots, one after the other
unfoldable pub are_slots : ℕ → List ℕ → Bool
are_slots zero bytes = true
are_slots (suc n) bytes = is_slot (take 64 bytes) && are_slots n (drop 64 bytes)

-- one stamp of at most 2^62 at both ends
unfoldable pub has_stamp : List ℕ → Bool
has_stamp bytes = bytes_eq (take 8 bytes) (drop 2040 bytes) && nat_le (from_be_bytes w64 (take 8 bytes)) (2 ^ 62)

-- zeros before and behind the slots
unfoldable pub has_gaps : List ℕ → Bool
has_gaps bytes = are_zeros (take 24 (drop 8 bytes)) && are_zeros (take 24 (drop 2016 bytes))

-- the stamp is 0 on a page of zeros alone
unfoldable pub is_stamped : List ℕ → Bool
is_stamped bytes = not (from_be_bytes w64 (take 8 bytes) == 0) || are_zeros bytes

-- all of these
abbrev pub is_data_page : List ℕ → Bool
is_data_page bytes = has_stamp bytes && has_gaps bytes && are_slots 31 (drop 32 bytes) && is_stamped bytes
