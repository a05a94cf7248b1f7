-- What the contracts of the storage speak of: what an opening read, the records behind it, and how far the pages have come.
use Rattle.std.specs.Prelude.{Bool, List, Option, false, if◌then◌else◌, nat_lt, slice_index, slice_index_or, true, ℕ, ◌++◌, ◌+◌, ◌-◌, ◌==◌, ◌∷◌, ◌≡◌, ◌≤◌, [], length}
use Rattle.ol_values.specs.declared.record.Record.{Record}
use Rattle.ol_values.specs.declared.record.Record.TheVariants.{Begin, Change, Commit, Rolled, Undo}
use Rattle.ol_values.specs.declared.record.Rid.{Rid}
use Rattle.ol_values.specs.declared.row.Row.{Row}
use Rattle.ol_values.specs.Config.{Config, has_page}
use Rattle.ol_rules.specs.Journal.{touches}
use Rattle.ol_rules.specs.Start.{Start, last_behind, page_behind, upto}
use Rattle.ol_reserve.specs.declared.anchor.Anchor.{Anchor}
use Rattle.ol_store.specs.Pages.{Pages}

-- the records before the start, as far as log pages still have them, the start, the records behind it, and the position up to which the pages have them
pub record Behind : Type 0 where
  pub before : ℕ → Record
  pub start : Start
  pub records : List Record
  pub reached : ℕ

-- the position of the last record
abbrev pub last_of : Behind → ℕ
last_of g = last_behind g.start g.records

-- one record more, which the pages have, too
abbrev pub with_record : Record → Behind → Behind
with_record r g = record { before = g.before; start = g.start; records = g.records ++ r ∷ []; reached = g.reached + 1 }

-- the pages have one record more of those that are there
abbrev pub with_redone : Behind → Behind
with_redone g = record { before = g.before; start = g.start; records = g.records; reached = g.reached + 1 }

-- the record at a position
abbrev pub record_at : Behind → ℕ → Record
record_at g position = if nat_lt position g.start.first then g.before position else slice_index_or (g.start.kept ++ g.records) (position - g.start.first) (Commit 0)

-- whether an anchor has a space as up
abbrev pub is_up : Anchor → ℕ → Bool
is_up a space = slice_index a.states space == 1

-- the pages: as the records that they have give them, and as at the checkpoint of an anchor
abbrev pub pages_of : Anchor → Behind → Pages
pages_of a g = record {
  is_up = is_up a;
  now = λ space page. page_behind g.start (upto g.start g.records g.reached) space page;
  saved = λ space page. page_behind g.start (upto g.start g.records a.position) space page;
}

-- a record changes no page of a space that an anchor has as up
abbrev pub TouchesNone : Config → Anchor → Record → Type 0
TouchesNone c a r = (space page : ℕ) → is_up a space ≡ true → has_page c space page ≡ true → touches space page r ≡ false

-- the start keeps the records from its first position to its last, and the pages have come to a position between its last and the last record
pub record IsBehind (g : Behind) : Type 0 where
  pub kept : g.start.first + length g.start.kept ≡ g.start.last + 1
  pub from : g.start.last ≤ g.reached
  pub to : g.reached ≤ last_of g

-- a record leaves this in a slot of a page
abbrev pub Moves : Record → Rid → Option Row → Type 0
Moves (Begin txn) rid row = ⊥
Moves (Change txn at before after) rid row = (at ≡ rid) × (after ≡ row)
Moves (Undo txn at value) rid row = (at ≡ rid) × (value ≡ row)
Moves (Commit txn) rid row = ⊥
Moves (Rolled txn) rid row = ⊥
