-- What a line of a script names, or its refusal: spaces by name, rows by a register or by their place.
use Rattle.std.specs.Prelude.{Bool, Err, List, None, Ok, Option, Result, Some, if◌then◌else◌, slice_index_or, ℕ, ◌≤◌}
use Rattle.ol_values.specs.declared.event.Reply.{Reply}
use Rattle.ol_values.specs.declared.event.Reply.TheVariants.{BadRid, NoSpace, SpaceDown, Unbound}
use Rattle.ol_values.specs.declared.event.Target.{Target}
use Rattle.ol_values.specs.declared.event.Target.TheVariants.{At, Reg}
use Rattle.ol_values.specs.declared.record.Rid.{Rid}
use Rattle.ol_values.specs.declared.row.Row.{Row}
use Rattle.ol_values.specs.Config.{Config, has_page, has_place, space_named}
use Rattle.ol_values.specs.Pages.{rid_of}
use Rattle.ol_rules.specs.Lasting.{is_up}
use Rattle.ol_model.specs.Machine.{Machine, Seat, config_of, first_free}
use Rattle.ol_model.specs.SessionTurns.{insert_at, list_at}

-- ---- where these spaces are up

-- the space that a name gave
abbrev pub space_among : (ℕ → Bool) → Option ℕ → Result ℕ Reply
space_among up None = Err NoSpace
space_among up (Some space) = if up space then Ok space else Err (SpaceDown space)

-- a page of the space that a name gave
abbrev pub page_among : Config → (ℕ → Bool) → ℕ → Option ℕ → Result (ℕ × ℕ) Reply
page_among c up page None = Err NoSpace
page_among c up page (Some space) = if has_page c space page then (if up space then Ok (space, page) else Err (SpaceDown space)) else Err BadRid

-- a place
abbrev pub place_among : Config → (ℕ → Bool) → Rid → Result Rid Reply
place_among c up rid = if has_place c rid then (if up rid.space then Ok rid else Err (SpaceDown rid.space)) else Err BadRid

-- a place in the space that a name gave
abbrev pub named_place : Config → (ℕ → Bool) → ℕ → ℕ → Option ℕ → Result Rid Reply
named_place c up page slot None = Err NoSpace
named_place c up page slot (Some space) = place_among c up (rid_of space page slot)

-- the place that a register holds
abbrev pub held_place : Config → (ℕ → Bool) → Option Rid → Result Rid Reply
held_place c up None = Err Unbound
held_place c up (Some rid) = place_among c up rid

-- the place that a target names, with these registers
abbrev pub target_among : Config → (ℕ → Bool) → List (Option Rid) → Target → Result Rid Reply
target_among c up registers (Reg reg) = held_place c up (slice_index_or registers reg None)
target_among c up registers (At name page slot) = named_place c up page slot (space_named c name)

-- ---- in a machine

-- the space that an insert names
abbrev pub space_of : Machine → Option ℕ → Result ℕ Reply
space_of m named = space_among (is_up m.lasting) named

-- the page that a list names
abbrev pub page_of : Machine → ℕ → Option ℕ → Result (ℕ × ℕ) Reply
page_of m page named = page_among (config_of m) (is_up m.lasting) page named

-- a register that a target names is one of the ten
abbrev pub IsTarget : Target → Type 0
IsTarget (Reg reg) = reg ≤ 9
IsTarget (At name page slot) = Unit {0}

-- ---- turns with what was found

-- an insert into the space
abbrev pub insert_found : Machine → ℕ → ℕ → Seat → ℕ → ℕ → Row → Result ℕ Reply → Reply × Machine
insert_found m n k s txn reg row (Err refusal) = (refusal, m)
insert_found m n k s txn reg row (Ok space) = insert_at m n k s txn reg row space (first_free m space)

-- a list of the page
abbrev pub list_found : Machine → ℕ → Seat → Result (ℕ × ℕ) Reply → Reply × Machine
list_found m k s (Err refusal) = (refusal, m)
list_found m k s (Ok p) = list_at m k s p.1 (Some p.0)
