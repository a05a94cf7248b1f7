-- Rolling forward, record by record: what is out of place, what is applied, and what is open then.
use Rattle.std.specs.Prelude.{Bool, List, None, Option, Some, [], false, fold, if◌then◌else◌, length, min, nat_le, nat_lt, not, option_map, slice_index_or, true, unwrap_or, ℕ, ◌&&◌, ◌+◌, ◌==◌, ◌^◌, ◌||◌}
use Rattle.ol_values.specs.declared.record.Record.{Record}
use Rattle.ol_values.specs.declared.record.Record.TheVariants.{Begin as BeginRecord, Change, Commit as CommitRecord, Rolled, Undo}
use Rattle.ol_values.specs.declared.record.Rid.{Rid}
use Rattle.ol_values.specs.declared.row.Row.{Row}
use Rattle.ol_values.specs.Config.{Config, has_place, log_pages}
use Rattle.ol_rollfwd.specs.Losers.{Loser, is_forward, is_newest, is_one, is_taken_back, loser_numbered, losers_after, owed_of, same_value}

-- a roll forward before its next record: the configuration, the first position that is read, for each space the position up to which its pages have the records (none for a space that gets no records), the least of these, the next position, and the open transactions
pub record Roll : Type 0 where
  pub config : Config
  pub low : ℕ
  pub cuts : List (Option ℕ)
  pub least : ℕ
  pub next : ℕ
  pub losers : List Loser

-- the lesser of two cuts, where there are both
abbrev pub lesser : Option ℕ → Option ℕ → Option ℕ
lesser None cut = cut
lesser (Some least) None = Some least
lesser (Some least) (Some cut) = Some (min least cut)

-- the least cut of a space, 0 where there is none
abbrev pub least_cut : List (Option ℕ) → ℕ
least_cut cuts = unwrap_or (fold lesser None cuts) 0

-- before its first record
abbrev pub rolling : Config → ℕ → List (Option ℕ) → Roll
rolling c low cuts = record { config = c; low = low; cuts = cuts; least = least_cut cuts; next = low; losers = [] }

-- ---- what is passed over, and what is applied

-- the transaction of a record
abbrev pub txn_of : Record → ℕ
txn_of (BeginRecord n) = n
txn_of (Change n rid before after) = n
txn_of (Undo n rid value) = n
txn_of (CommitRecord n) = n
txn_of (Rolled n) = n

abbrev pub is_begin : Record → Bool
is_begin (BeginRecord n) = true
is_begin (Change n rid before after) = false
is_begin (Undo n rid value) = false
is_begin (CommitRecord n) = false
is_begin (Rolled n) = false

-- whether the next record is passed over: its transaction began before the first position that is read, and the pages of all spaces have it
abbrev pub is_passed : Roll → Record → Bool
is_passed s r = not (is_begin r) && (nat_lt (txn_of r) s.low && nat_le s.next s.least)

abbrev pub is_below : Option ℕ → ℕ → Bool
is_below None position = false
is_below (Some cut) position = nat_lt cut position

-- whether the pages of a space lack the next record
abbrev pub is_due : Roll → ℕ → Bool
is_due s space = is_below (slice_index_or s.cuts space None) s.next

-- the place, where it is there, and the pages of its space lack the next record
abbrev pub due_place : Roll → Rid → Option Rid
due_place s rid = if is_due s rid.space && has_place s.config rid then Some rid else None

-- the place that a record changes, where it is due
abbrev pub place_due : Roll → Record → Option Rid
place_due s (BeginRecord n) = None
place_due s (Change n rid before after) = due_place s rid
place_due s (Undo n rid value) = due_place s rid
place_due s (CommitRecord n) = None
place_due s (Rolled n) = None

-- the place that the next record changes, where it is applied
abbrev pub place_moved : Roll → Record → Option Rid
place_moved s r = if is_passed s r then None else place_due s r

-- what a record leaves in the slot that it changes
abbrev pub row_left : Record → Option Row
row_left (BeginRecord n) = None
row_left (Change n rid before after) = after
row_left (Undo n rid value) = value
row_left (CommitRecord n) = None
row_left (Rolled n) = None

-- the place and its new row, where the next record is applied
abbrev pub applied : Roll → Record → Option (Rid × Option Row)
applied s r = option_map (λ (rid : Rid). let p : Rid × Option Row = (rid, row_left r) in p) (place_moved s r)

-- ---- what is out of place

-- whether the next record keeps the rules of its kind, where the slot that it changes holds this
abbrev pub keeps_rules : Roll → Option Row → Record → Bool
-- its number is its position, and it is not the 17th that is open
keeps_rules s held (BeginRecord n) = (n == s.next) && nat_lt (length s.losers) 16
-- its transaction is open and took nothing back, its place is there, and where it is applied the slot holds its before value
keeps_rules s held (Change n rid before after) =
    is_one (loser_numbered n s.losers) is_forward && (has_place s.config rid && (not (is_due s rid.space) || same_value before held))
-- its transaction is open, it has the place and the before value of the newest change not taken back, and the place is there
keeps_rules s held (Undo n rid value) = is_one (loser_numbered n s.losers) (is_newest rid value) && has_place s.config rid
-- its transaction is open and took nothing back
keeps_rules s held (CommitRecord n) = is_one (loser_numbered n s.losers) is_forward
-- its transaction is open, and took all back
keeps_rules s held (Rolled n) = is_one (loser_numbered n s.losers) is_taken_back

-- whether the log pages have room for what is owed then, and the positions do not end
abbrev pub has_room : Roll → ℕ → Bool
has_room s due = nat_le due (log_pages s.config) && nat_lt (s.next + due) (2 ^ 62)

-- whether the next record is in place, where the slot that it changes holds this; else it is out of place
abbrev pub is_in_place : Roll → Option Row → Record → Bool
is_in_place s held r = is_passed s r || (keeps_rules s held r && has_room s (owed_of (losers_after s.losers r)))

-- ---- the next record is taken

abbrev pub with_losers : Roll → List Loser → Roll
with_losers s losers = record { config = s.config; low = s.low; cuts = s.cuts; least = s.least; next = s.next + 1; losers = losers }

abbrev pub after : Roll → Record → Roll
after s r = with_losers s (if is_passed s r then s.losers else losers_after s.losers r)
