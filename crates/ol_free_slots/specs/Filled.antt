-- Which pages are known to be full.
use Rattle.std.specs.Prelude.{Bool, if◌then◌else◌, false, is_none, is_some, min, replicate, slice_index, slice_set, true, ℕ, ◌+◌, ◌<◌, ◌==◌, ◌≡◌, ◌≤◌}
use Rattle.ol_values.specs.declared.record.Record.{Record}
use Rattle.ol_values.specs.declared.record.Record.TheVariants.{Begin, Change, Commit, Rolled, Undo}
use Rattle.ol_values.specs.Config.{Config, has_place}
use Rattle.ol_values.specs.Pages.{rid_of}
use Rattle.ol_model.specs.Machine.{Machine, config_of, row_in}
use Rattle.ol_free_slots.specs.declared.hints.Hints.{Hints}
use Rattle.ol_free_slots.specs.declared.look.Look.{Look}
use Rattle.ol_free_slots.specs.declared.look.Look.TheVariants.{Free, Full, Locked}
use Rattle.ol_free_slots.specs.Slots.{Rows}

-- the page below which all pages of a space are known to be full
abbrev pub hint_of : Hints → ℕ → ℕ
hint_of h space = slice_index h.first space

-- nothing is known to be full
abbrev pub no_hints : Hints
no_hints = record { first = replicate 16 0 }

-- another page for a space
abbrev pub with_hint : Hints → ℕ → ℕ → Hints
with_hint h space page = record { first = slice_set h.first space page }

-- a slot of a page was emptied
abbrev pub with_emptied : Hints → ℕ → ℕ → Hints
with_emptied h space page = with_hint h space (min (hint_of h space) page)

-- a page was looked at: a full one that adjoins those that are known to be full is known from now on
abbrev pub with_look : Hints → ℕ → ℕ → Look → Hints
with_look h space page Full = if hint_of h space == page then with_hint h space (page + 1) else h
with_look h space page (Free slot) = h
with_look h space page Locked = h

-- each slot of a page that is known to be full holds a row
pub record AreFilled (h : Hints) (c : Config) (rows : Rows) : Type 0 where
  pub filled : (space page slot : ℕ) → has_place c (rid_of space page slot) ≡ true → page < hint_of h space → is_some (rows (rid_of space page slot)) ≡ true

-- the same, of the machine
abbrev pub AreFull : Hints → Machine → Type 0
AreFull h m = AreFilled h (config_of m) (row_in m)

-- the hint of a space may have risen, and the others are as they were
pub record HasRisenFor (space : ℕ) (old new : Hints) : Type 0 where
  pub least : hint_of old space ≤ hint_of new space
  pub others : (other : ℕ) → (other ≡ space → ⊥) → hint_of new other ≡ hint_of old other

-- whether a record empties a slot
abbrev pub empties : Record → Bool
empties (Begin txn) = false
empties (Change txn rid before after) = is_none after
empties (Undo txn rid value) = is_none value
empties (Commit txn) = false
empties (Rolled txn) = false
