-- The log files as a value, and the steps that calls make of it.
use Rattle.std.specs.List.{list_any}
use Rattle.std.specs.Prelude.{Bool, List, None, Option, Some, [], false, filter, fold, if◌then◌else◌, length, map, max, not, true, ℕ, ◌++◌, ◌+◌, ◌==◌, ◌∷◌}
use Rattle.ol_chunks.specs.declared.table.Area.{Area}
use Rattle.ol_record.specs.declared.head.LogHead.{LogHead}
use Rattle.ol_rules.specs.Ring.{Ring, Use, file_of, first_position, is_closed, last_position, last_range, use_numbered}
use Rattle.ol_values.specs.Config.{Config}
use Rattle.ol_log_state.specs.declared.places.Use.{Use as ToldUse}
use Rattle.ol_log_state.specs.declared.places.NextPage.{NextPage}
use Rattle.ol_log_state.specs.Uses.{HeldUse, closed_use, fresh, use_of, with_head}

-- where the log files lie, the uses that stand in them, and the unique number of the current file
pub record Files : Type 0 where
  pub area : Area
  pub uses : List HeldUse
  pub uniq : ℕ

-- a configuration with these log files, and nothing else
abbrev pub log_config : Area → Config
log_config a = record {
  spaces = [];
  physical_space = 0;
  physical_entries = 0;
  log_space = 0;
  log_files = a.count;
  log_file_pages = a.pages;
  image_limit = 0;
}

-- the ring of these files, with nothing buffered
abbrev pub ring_in : Files → Ring
ring_in f = record { uses = map use_of f.uses; uniq = f.uniq; buffer = [] }

-- the use of the current file
abbrev pub current_use : Files → Option Use
current_use f = use_numbered (ring_in f) f.uniq

-- whether there is a use, and it is closed
abbrev pub is_closed_use : Config → Ring → Option Use → Bool
is_closed_use c r None = false
is_closed_use c r (Some u) = is_closed c r u

-- what is told of a use that is to be backed up
abbrev pub told_use : Use → ToldUse
told_use u = record { uniq = u.uniq; pages = length u.pages; first = first_position u; last = last_position u }

-- ---- the page that is written next

-- the first page of the current file where no use stands in it, the next page of its use, or the first page of the next file where that is closed
abbrev pub page_behind : Config → Ring → Option Use → NextPage
page_behind c r None = record { uniq = r.uniq; index = 0; enters = true }
page_behind c r (Some u) =
    if is_closed c r u
    then record { uniq = r.uniq + 1; index = 0; enters = true }
    else record { uniq = r.uniq; index = (last_range u).index + 1; enters = false }

-- the page that these files take next
abbrev pub next_page : Files → NextPage
next_page f = page_behind (log_config f.area) (ring_in f) (current_use f)

-- ---- steps

-- a new use takes its file over
abbrev pub entered : Area → ℕ → LogHead → List HeldUse → List HeldUse
entered a uniq h uses =
    filter (λ (u : HeldUse). not (file_of (log_config a) u.uniq == file_of (log_config a) uniq)) uses
    ++ with_head h (fresh uniq) ∷ []

-- the use of this number has a page more
abbrev pub extended : ℕ → LogHead → List HeldUse → List HeldUse
extended uniq h uses = map (λ (u : HeldUse). if u.uniq == uniq then with_head h u else u) uses

-- the page of this head is written at its place
abbrev pub with_page_at : NextPage → LogHead → Files → Files
with_page_at p h f = record {
  area = f.area;
  uses = if p.enters then entered f.area p.uniq h f.uses else extended p.uniq h f.uses;
  uniq = p.uniq;
}

-- the current file is closed
abbrev pub switched_files : Files → Files
switched_files f = record {
  area = f.area;
  uses = map (λ (u : HeldUse). if u.uniq == f.uniq then closed_use u else u) f.uses;
  uniq = f.uniq;
}

-- ---- the uses of a run

-- one page of the run more, in its use
abbrev pub use_with_head : List HeldUse → LogHead → List HeldUse
use_with_head uses h =
    if list_any (λ (u : HeldUse). u.uniq == h.uniq) uses then extended h.uniq h uses else uses ++ with_head h (fresh h.uniq) ∷ []

-- the uses of pages with these heads, in the order of the run
abbrev pub uses_of_heads : List LogHead → List HeldUse
uses_of_heads heads = fold use_with_head [] heads

-- the greatest of a number and those of the uses of these heads
abbrev pub greatest_of : ℕ → List LogHead → ℕ
greatest_of uniq heads = fold (λ n (h : LogHead). max n h.uniq) uniq heads
