-- The turns that change a row, as the owner of a transaction takes them.
use Rattle.std.specs.Option.{option_map}
use Rattle.std.specs.Prelude.{Err, List, None, Ok, Option, Result, Some, slice_set, true, ℕ, ◌-◌, ◌≡◌}
use Rattle.ol_values.specs.declared.event.Reply.{Reply}
use Rattle.ol_values.specs.declared.event.Reply.TheVariants.{At}
use Rattle.ol_values.specs.declared.record.Rid.{Rid}
use Rattle.ol_values.specs.declared.row.Row.{Row}
use Rattle.ol_values.specs.Config.{has_place}
use Rattle.ol_storage.specs.Behind.{is_up}
use Rattle.ol_storage.specs.Installation.{Installation, config_of}
use Rattle.ol_model.specs.Answering.{no_room, unless}
use Rattle.ol_model.specs.Machine.{Machine, seat_of}
use Rattle.ol_model.specs.Steps.{change_row as row_changed}
use Rattle.ol_values.specs.declared.record.Record.TheVariants.{Change}
use Rattle.ol_model.specs.SessionTurns.{change_at, insert_at, undo_turn}
use Rattle.ol_storage.specs.declared.storage.StorageFault.{StorageFault}
use Rattle.ol_storage.specs.declared.storage.StorageFault.TheVariants.{Bad, Failed, NoMemory, Stopped}
use Rattle.ol_cursor.specs.declared.cursor.Cursor.{Cursor}
use Rattle.ol_running.specs.declared.running.Running.{Running}
use Rattle.ol_running.specs.Running.{running_of}
use Rattle.ol_engine.specs.Parts.{Registers, registers_of}
use Rattle.ol_row_turns.specs.declared.owner.Owner.{Owner}

-- the row of a place becomes another, or none
abbrev pub row_turn : Machine → Owner → Rid → Option Row → Reply × Machine
row_turn m o rid after = change_at m o.entry o.session o.txn after (Ok rid)

-- a row is written, and that is answered, where there is room for the record
abbrev pub written_turn : Machine → Owner → Rid → Option Row → Option Row → Reply → Reply × Machine
written_turn m o rid before after done = unless m (no_room m) (done, row_changed o.entry rid (Change o.txn rid before after) m)

-- the row goes to an empty slot, which the register holds then
abbrev pub inserted_turn : Machine → Owner → ℕ → Rid → Row → Reply × Machine
inserted_turn m o register rid row = insert_at m o.entry o.session (seat_of m o.session) o.txn register row rid.space (Some rid)

-- the registers behind an insert of session k
abbrev pub with_register : ℕ → ℕ → Registers → Result Reply StorageFault → Registers
with_register k register registers (Ok (At rid)) = slice_set registers (k - 1) (slice_set (registers_of registers k) register (Some rid))
with_register k register registers _ = registers

-- the cursor of an archive that may run
abbrev pub cursor_in : Option Running → Option Cursor
cursor_in running = option_map (λ (r : Running). r.cursor) running

-- what a turn leaves is shown, and where it was refused memory or met a bad page, what it began with; a failed call stops the engine
abbrev pub Leaves : Machine → (Machine → Type 0) → Machine → Result Reply StorageFault → Type 0
Leaves m shown n (Ok reply) = shown n
Leaves m shown n (Err NoMemory) = shown m
Leaves m shown n (Err (Bad chunk page)) = shown m
Leaves m shown n (Err Failed) = Unit {0}
Leaves m shown n (Err Stopped) = Unit {0}

-- entry n: the newest change of session k is taken back
abbrev pub undone_turn : Machine → ℕ → ℕ → Reply × Machine
undone_turn m n k = undo_turn m n k (seat_of m k).txn

-- the place of a change is there, in a space that is up
abbrev pub IsUndoable : Installation → Option (Rid × Option Row) → Type 0
IsUndoable v None = Unit {0}
IsUndoable v (Some last) = (has_place (config_of v) last.0 ≡ true) × (is_up v.anchor last.0.space ≡ true)

-- the archives are those that ran, perhaps broken
abbrev pub SameCursors : List (Option Running) → List (Option Running) → Type 0
SameCursors l n = (k : ℕ) → cursor_in (running_of n k) ≡ cursor_in (running_of l k)
