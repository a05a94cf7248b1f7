-- Room for what is owed, and what the turns that append records count on to keep it.
use Rattle.std.specs.Prelude.{All, List, None, Option, Some, [], is_some, slice_index_or, true, ℕ, ◌+◌, ◌-◌, ◌<◌, ◌^◌, ◌≡◌, ◌≤◌}
use Rattle.ol_values.specs.declared.event.Event.{Event}
use Rattle.ol_values.specs.declared.event.Event.TheVariants.{Insert as InsertTurn, Update as UpdateTurn}
use Rattle.ol_values.specs.declared.record.Record.{Record}
use Rattle.ol_values.specs.declared.record.Record.TheVariants.{Change, Undo}
use Rattle.ol_values.specs.declared.record.Rid.{Rid}
use Rattle.ol_values.specs.declared.row.Row.{Row}
use Rattle.ol_values.specs.Blocks.{Block, LogHeld, PageHeld, Payload}
use Rattle.ol_values.specs.Pages.{Page}
use Rattle.ol_rules.specs.Ring.{free}
use Rattle.ol_rules.specs.Shelf.{Object, Placed, Shelf, objects}
use Rattle.ol_rules.specs.Sound.{is_value}
use Rattle.ol_rules.specs.Start.{last_behind, start_page, txns_behind}
use Rattle.ol_rules.specs.Transactions.{Ascending, Txn, owed, txn_numbered}
use Rattle.ol_model.specs.Machine.{Machine, Picking, config_of, last_of, low_in, owed_in, reuse_of, row_in, seat_of, txns_in}
use Rattle.ol_model.specs.Opening.{Found}

-- the log has a page for each record that the open transactions owe, and the journal a position
pub record Roomy (m : Machine) : Type 0 where
  pub log : owed_in m ≤ free (config_of m) (reuse_of m) m.log.ring
  pub opened : last_of m - m.fixed.opened + owed_in m ≤ 1048576
  pub positions : last_of m + 1 + owed_in m ≤ 2 ^ 62

-- the values before the changes of a transaction that are not taken back are nothing or rows of at most 63 bytes
abbrev pub HasValues : Txn → Type 0
HasValues t = All (λ (p : Rid × Option Row). is_value p.1 ≡ true) t.pending

-- open transactions ascend; what they take back and what places hold is nothing or a row of at most 63 bytes; a session's transaction is open; the last checkpoint's need does not lie above the least open transaction; the log file that is picked is not backed up yet
pub record Orderly (m : Machine) : Type 0 where
  pub ascending : Ascending (txns_in m)
  pub pending : All HasValues (txns_in m)
  pub rows : (rid : Rid) → is_value (row_in m rid) ≡ true
  pub sessions : (k n : ℕ) → (seat_of m k).txn ≡ Some n → is_some (txn_numbered n (txns_in m)) ≡ true
  pub need : m.checkpoint.need ≤ low_in m
  pub picking : (p : Picking) → m.log.picking ≡ Some p → m.lasting.backed ≤ p.uniq

-- where an event has a row, it has at most 63 bytes
abbrev pub HasShortRow : Event → Type 0
HasShortRow (InsertTurn reg name row) = is_value (Some row) ≡ true
HasShortRow (UpdateTurn target row) = is_value (Some row) ≡ true
HasShortRow _ = Unit {0}

-- ---- what turns keep

-- a record leaves nothing or a row of at most 63 bytes in its place
abbrev pub LeavesShort : Record → Type 0
LeavesShort (Change n rid before after) = is_value after ≡ true
LeavesShort (Undo n rid value) = is_value value ≡ true
LeavesShort _ = Unit {0}

-- each slot of a page holds nothing or such a row
abbrev pub HoldsShort : Page → Type 0
HoldsShort p = (slot : ℕ) → is_value (slice_index_or p.slots slot None) ≡ true

-- so do the page or the records in a block of tape
abbrev pub HasShortPayload : Payload → Type 0
HasShortPayload (PageHeld page) = HoldsShort page
HasShortPayload (LogHeld page) = All LeavesShort page.records
HasShortPayload _ = Unit {0}

abbrev pub HasShortItem : Option Block → Type 0
HasShortItem None = Unit {0}
HasShortItem (Some b) = HasShortPayload b.payload

-- so do all blocks on a shelf
abbrev pub HoldsShortBlocks : Shelf → Type 0
HoldsShortBlocks shelf = All (λ (volumes : List (List (Option Block))). All (λ (blocks : List (Option Block)). All HasShortItem blocks) volumes) shelf

abbrev pub HasShortBlocks : Object → Type 0
HasShortBlocks o = All (λ (p : Placed). HasShortItem p.item) o.span

-- so do all objects on a shelf
abbrev pub HoldsShortRows : Shelf → Type 0
HoldsShortRows shelf = All HasShortBlocks (objects shelf)

-- an orderly state of which turns leave an orderly one: no transaction's number lies above the last position, no two sessions have one transaction, one without shares nothing, and the pages that the opening read, the records that it read and those since hold rows of at most 63 bytes
pub record Regular (m : Machine) : Type 0 where
  pub orderly : Orderly m
  pub numbers : All (λ (t : Txn). t.number ≤ last_of m) (txns_in m)
  pub alone : (j k n : ℕ) → 1 ≤ j → 1 ≤ k → (seat_of m j).txn ≡ Some n → (seat_of m k).txn ≡ Some n → j ≡ k
  pub idle : (k : ℕ) → (seat_of m k).txn ≡ None → (seat_of m k).shares ≡ []
  pub pages : (space page : ℕ) → HoldsShort (start_page m.work.start space page)
  pub kept : All LeavesShort m.work.start.kept
  pub records : All LeavesShort m.work.records

-- what an opening found is in order: its open transactions ascend, and their roll back keeps within the positions; what they take back, and what pages and records hold, is short
pub record IsFoundWell (f : Found) : Type 0 where
  pub ascending : Ascending (txns_behind f.start f.redo)
  pub pending : All HasValues (txns_behind f.start f.redo)
  pub positions : last_behind f.start f.redo + owed (txns_behind f.start f.redo) < 2 ^ 62
  pub pages : (space page : ℕ) → HoldsShort (start_page f.start space page)
  pub kept : All LeavesShort f.start.kept
  pub redo : All LeavesShort f.redo
