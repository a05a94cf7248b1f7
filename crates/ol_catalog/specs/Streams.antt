-- The blocks of a shelf's drives as a scan is fed with them, and what an answer says of faults.
use Rattle.std.specs.Prelude.{Err, List, Result, map, take, ℕ, ◌++◌, ◌≡◌, ◌≤◌}
use Rattle.ol_ports.specs.Causes.{Rose}
use Rattle.ol_ports.specs.Shelf.{block_at, shape_of}
use Rattle.ol_rules.specs.Shelf.{Placed, Shelf, readable_item}
use Rattle.ol_object_spans.specs.Scans.{IsScanOf}
use Rattle.ol_object_spans.specs.Values.{ScanValue}
use Rattle.ol_block_values.specs.Items.{item_in, shelf_of}
use Rattle.ol_shelf_reader.specs.Streams.{Position, places_left, places_of}
use Rattle.ol_catalog.specs.declared.fault.CatalogFault.{CatalogFault}
use Rattle.ol_catalog.specs.declared.fault.CatalogFault.TheVariants.{ShelfFault}

-- the shelf of the first drives, so many
abbrev pub shelf_to : List (List (List (List ℕ))) → ℕ → Shelf
shelf_to tapes count = shelf_of (take count tapes)

-- the shelf of the five drives
abbrev pub shelf_value : List (List (List (List ℕ))) → Shelf
shelf_value tapes = shelf_to tapes 5

-- the block at a place of a drive, given as volume and block
abbrev pub placed_at : List (List (List (List ℕ))) → ℕ → ℕ × ℕ → Placed
placed_at tapes drive p = record { drive = drive; volume = p.0; block = p.1; item = readable_item (item_in (block_at tapes drive p.0 p.1)) }

-- the blocks of a drive in order
abbrev pub drive_blocks : List (List (List (List ℕ))) → ℕ → List Placed
drive_blocks tapes drive = map (placed_at tapes drive) (places_of (shape_of tapes) drive)

-- the blocks that a reader has still to give
abbrev pub blocks_left : List (List (List (List ℕ))) → Position → List Placed
blocks_left tapes at = map (placed_at tapes at.drive) (places_left (shape_of tapes) at)

-- a scan was fed all blocks of a drive but those that its reader has still to give
abbrev pub IsFed : List (List (List (List ℕ))) → Position → ScanValue → Type 0
IsFed tapes at s = (fed : List Placed) × IsScanOf fed s × (fed ++ blocks_left tapes at ≡ drive_blocks tapes at.drive)

-- a fault of the shelf raised the count of faults, and tells it; no other answer changes the count
abbrev pub HasFaults : {T : Type 0} → ℕ → ℕ → Result T CatalogFault → Type 0
HasFaults before now (Err (ShelfFault count)) = (before ≤ now) × Rose before now × (count ≡ now)
HasFaults before now _ = now ≡ before
