-- The turns of the warm restorer: what they answer and leave, with their refusals in order.
use Rattle.std.specs.List.{range_with_len}
use Rattle.std.specs.Prelude.{List, None, Option, Some, [], map, slice_set, true, ℕ, ◌+◌, ◌∷◌}
use Rattle.ol_values.specs.declared.event.Known.{Known}
use Rattle.ol_values.specs.declared.event.Reply.{Reply}
use Rattle.ol_values.specs.declared.event.Reply.TheVariants.{MissingLog, NoSpace, NotDown, NothingDirty, Put, Up, WarmLog, Warming as WarmingUpTo}
use Rattle.ol_values.specs.Config.{data_pages}
use Rattle.ol_values.specs.Pages.{Page}
use Rattle.ol_rules.specs.Drawn.{drawn}
use Rattle.ol_rules.specs.Lasting.{Kept, SpaceState, is_up, space_state, with_space}
use Rattle.ol_rules.specs.Ring.{LogRange}
use Rattle.ol_rules.specs.Shelf.{Shelf}
use Rattle.ol_model.specs.Answering.{unless}
use Rattle.ol_model.specs.Machine.{Machine, Warming, config_of, with_lasting}

abbrev pub warm_at : Machine → Option ℕ → Reply × Machine
warm_at m None = (NoSpace, m)
warm_at m (Some space) =
    unless m
    ((is_up m.lasting space, NotDown space) ∷ [])
    (WarmingUpTo space (space_state m.lasting space).down_at, record m { warm = Some (record { space = space; put = 0 }) })

abbrev pub warm_log_at : Machine → ℕ → Option LogRange → Reply × Machine
warm_log_at m position None = (MissingLog position, record m { warm = None })
warm_log_at m position (Some p) = (WarmLog p.first, m)

abbrev pub warm_put_at : Machine → ℕ → Option Warming → Reply × Machine
warm_put_at m page None = (Put page, m)
warm_put_at m page (Some w) = (Put page, record m { warm = Some (record w { put = w.put + 1 }) })

abbrev pub kept_of : ℕ × ℕ → Kept
kept_of p = record { number = p.0; cut = p.1 }

-- each page of the space as at the position since which it is down
abbrev pub pages_drawn : Shelf → Machine → ℕ → List Page
pages_drawn shelf m space =
    map (drawn shelf m.work.start m.work.records (space_state m.lasting space).down_at space) (range_with_len 0 (data_pages (config_of m) space))

-- the pages of a space stand in the start as they were drawn: the records behind it that they have already change them to the same
abbrev pub with_pages : ℕ → List Page → Machine → Machine
with_pages space pages m = record m { work = record m.work { start = record m.work.start { pages = slice_set m.work.start.pages space pages } } }

abbrev pub warm_end_at : Shelf → Machine → Known → Option Warming → Reply × Machine
warm_end_at shelf m known None = (NothingDirty, m)
warm_end_at shelf m known (Some w) =
    let up : SpaceState = record { up = true; down_at = 0; zero = kept_of known.zero; one = kept_of known.one } in
    (Up w.space, record (with_lasting (with_space w.space up m.lasting) (with_pages w.space (pages_drawn shelf m w.space) m)) { warm = None })
