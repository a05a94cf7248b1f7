-- The lock table as a value: a seat for each of the sessions 1 to 16.
use Rattle.std.specs.Option.{option_map}
use Rattle.std.specs.Prelude.{Bool, IsSome, List, None, Option, Some, [], drop, false, if◌then◌else◌, map, max, replicate, reverse, slice_get, slice_index_or, slice_set, true, ℕ, ◌++◌, ◌+◌, ◌-◌, ◌∷◌, ◌≡◌, ◌≤◌}
use Rattle.ol_values.specs.declared.record.Rid.{Rid}
use Rattle.ol_values.specs.declared.row.Row.{Row}
use Rattle.ol_rules.specs.Locks.{Holding, owns, shares}

-- what a session holds, and how many locks and changes more it can hold before memory is needed
pub record Seat : Type 0 where
  pub holding : Option Holding
  pub spare : ℕ

abbrev pub empty_seat : Seat
empty_seat = record { holding = None; spare = 0 }

-- no transaction is open
abbrev pub no_locks : List Seat
no_locks = replicate 16 empty_seat

-- what each session holds
abbrev pub table_of : List Seat → List (Option Holding)
table_of seats = map (λ (s : Seat). s.holding) seats

-- session k, from 1
abbrev pub seat_of : List Seat → ℕ → Seat
seat_of seats k = slice_index_or seats (k - 1) empty_seat

abbrev pub with_seat : List Seat → ℕ → Seat → List Seat
with_seat seats k s = slice_set seats (k - 1) s

abbrev pub IsSession : ℕ → Type 0
IsSession k = (1 ≤ k) × (k ≤ 16)

-- session k has an open transaction
abbrev pub HasTxn : List Seat → ℕ → Type 0
HasTxn seats k = IsSome (seat_of seats k).holding

-- ---- one seat

-- a transaction that began
abbrev pub begun : ℕ → Holding
begun txn = record { number = txn; pending = []; undone = false; shared = []; owned = [] }

abbrev pub begun_seat : ℕ → Seat → Seat
begun_seat txn s = record { holding = Some (begun txn); spare = s.spare }

-- a slot more that is shared
abbrev pub sharing : Rid → Holding → Holding
sharing rid h = record { number = h.number; pending = h.pending; undone = h.undone; shared = h.shared ++ rid ∷ []; owned = h.owned }

-- a slot more that is owned
abbrev pub owning : Rid → Holding → Holding
owning rid h = record { number = h.number; pending = h.pending; undone = h.undone; shared = h.shared; owned = h.owned ++ rid ∷ [] }

-- a change more, as the newest
abbrev pub changing : Rid × Option Row → Holding → Holding
changing change h = record { number = h.number; pending = change ∷ h.pending; undone = h.undone; shared = h.shared; owned = h.owned }

-- the newest change is taken back
abbrev pub undoing : Holding → Holding
undoing h = record { number = h.number; pending = drop 1 h.pending; undone = true; shared = h.shared; owned = h.owned }

-- a seat that holds more, for which it has a place less
abbrev pub filled : (Holding → Holding) → Seat → Seat
filled step s = record { holding = option_map step s.holding; spare = s.spare - 1 }

-- the slot is shared; where it was, nothing changes
abbrev pub shared_more : Rid → Seat → Seat
shared_more rid s = if shares rid s.holding then s else filled (sharing rid) s

-- the slot is owned; where it was, nothing changes
abbrev pub owned_more : Rid → Seat → Seat
owned_more rid s = if owns rid s.holding then s else filled (owning rid) s

abbrev pub noted_seat : Rid × Option Row → Seat → Seat
noted_seat change s = filled (changing change) s

abbrev pub undone_seat : Seat → Seat
undone_seat s = record { holding = option_map undoing s.holding; spare = s.spare }

abbrev pub forgotten_seat : Seat → Seat
forgotten_seat s = record { holding = None; spare = s.spare }

abbrev pub reserved_seat : ℕ → Seat → Seat
reserved_seat n s = record { holding = s.holding; spare = max n s.spare }

-- the changes not taken back, the newest first
abbrev pub pending_of : Option Holding → List (Rid × Option Row)
pending_of None = []
pending_of (Some h) = h.pending

-- whether a change was taken back
abbrev pub has_undone : Option Holding → Bool
has_undone None = false
has_undone (Some h) = h.undone

-- the newest change not taken back
abbrev pub last_of : Seat → Option (Rid × Option Row)
last_of s = slice_get (pending_of s.holding) 0

-- ---- how a seat is stored

-- what a session holds, from its lists, of which that of changes has the newest last
abbrev pub holding_from : Option ℕ → Bool → List (Rid × Option Row) → List Rid → List Rid → Option Holding
holding_from None undone pending shared owned = None
holding_from (Some txn) undone pending shared owned = Some (record { number = txn; pending = reverse pending; undone = undone; shared = shared; owned = owned })

-- with no open transaction nothing is held
abbrev pub IsClear : Option ℕ → List (Rid × Option Row) → List Rid → List Rid → Type 0
IsClear None pending shared owned = (pending ≡ []) × (shared ≡ []) × (owned ≡ [])
IsClear (Some txn) pending shared owned = Unit {0}

-- each of the three lists has places for so many more
pub record HasSpare (spare changes room shared owned : ℕ) : Type 0 where
  pub for_changes : changes + spare ≤ room
  pub for_shared : spare ≤ shared
  pub for_owned : spare ≤ owned
