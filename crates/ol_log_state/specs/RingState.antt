-- The ring as a value, and the steps that calls make of it.
use Rattle.std.specs.List.{find}
use Rattle.std.specs.Option.{option_map}
use Rattle.std.specs.Prelude.{List, Option, Some, [], flat_map, length, map, max, ℕ, ◌*◌, ◌++◌, ◌+◌, ◌-◌, ◌<◌, ◌^◌, ◌∷◌, ◌≡◌, ◌≤◌}
use Rattle.ol_chunks.specs.declared.table.Area.{Area}
use Rattle.ol_record.specs.LogPages.{head_of}
use Rattle.ol_record.specs.declared.head.LogHead.{LogHead}
use Rattle.ol_rules.specs.DiskValue.{OpenLog}
use Rattle.ol_rules.specs.Ring.{Reuse, Ring, Use, file_of, to_back_up}
use Rattle.ol_values.specs.Config.{Config}
use Rattle.ol_values.specs.LogPages.{LogPage}
use Rattle.ol_values.specs.declared.record.Record.{Record}
use Rattle.ol_log_places.specs.declared.heads.Stood.{Stood}
use Rattle.ol_log_state.specs.declared.places.RingStart.{RingStart}
use Rattle.ol_log_state.specs.Files.{Files, greatest_of, log_config, next_page, switched_files, uses_of_heads, with_page_at}
use Rattle.ol_log_state.specs.Uses.{HeldUse, head_holds, use_of}
use Rattle.ol_log_places.specs.Heads.{IsUniq}

-- the log files, the records not yet written, what may be reused, the incarnation, and the position of the next record
pub record RingState : Type 0 where
  pub files : Files
  pub buffer : List Record
  pub reuse : Reuse
  pub incarnation : ℕ
  pub next : ℕ

-- the configuration by which the ring goes
abbrev pub config_of : RingState → Config
config_of s = log_config s.files.area

-- the ring by the rules
abbrev pub ring_of : RingState → Ring
ring_of s = record { uses = map use_of s.files.uses; uniq = s.files.uniq; buffer = s.buffer }

-- the page that the buffered records make, at the place that is next
abbrev pub page_to_write : RingState → LogPage
page_to_write s = record {
  index = (next_page s.files).index;
  uniq = (next_page s.files).uniq;
  incarnation = s.incarnation;
  first = s.next - length s.buffer;
  records = s.buffer;
}

-- ---- the start

-- the greater of the anchor's file and the one behind those that are backed up
abbrev pub first_uniq : RingStart → ℕ
first_uniq start = max start.uniq (start.backed + 1)

-- the greatest of that and those of the run
abbrev pub current_uniq : RingStart → List LogHead → ℕ
current_uniq start heads = greatest_of (first_uniq start) heads

-- the ring of a run with these heads, with nothing buffered
abbrev pub started : Area → RingStart → List LogHead → RingState
started area start heads = record {
  files = record { area = area; uses = uses_of_heads heads; uniq = current_uniq start heads };
  buffer = [];
  reuse = record { backed = start.backed; need = start.need };
  incarnation = start.incarnation;
  next = start.next;
}

-- the heads of open log pages
abbrev pub heads_of_logs : List OpenLog → List LogHead
heads_of_logs logs = map (λ (l : OpenLog). head_of l.page) logs

-- numbers that a ring may start with
pub record IsStart (start : RingStart) : Type 0 where
  pub incarnation : (1 ≤ start.incarnation) × (start.incarnation ≤ 2 ^ 62)
  pub uniq : IsUniq start.uniq
  pub backed : start.backed < 2 ^ 62
  pub next : (1 ≤ start.next) × (start.next ≤ 2 ^ 62)

-- ---- written pages

-- the place of a page on the disk, and its head
abbrev pub stood_in : Area → LogHead → Stood
stood_in a h = record { chunk = a.chunk; page = a.first + file_of (log_config a) h.uniq * a.pages + h.index; head = h }

-- the written page that holds a position
abbrev pub stood_holding : RingState → ℕ → Option Stood
stood_holding s position = option_map (stood_in s.files.area) (find (head_holds position) (flat_map (λ (u : HeldUse). u.heads) s.files.uses))

-- ---- steps

-- one record more in the buffer
abbrev pub buffered : Record → RingState → RingState
buffered rec s = record { files = s.files; buffer = s.buffer ++ rec ∷ []; reuse = s.reuse; incarnation = s.incarnation; next = s.next + 1 }

-- the buffered records have become a written page
abbrev pub turned : RingState → RingState
turned s = record { files = with_page_at (next_page s.files) (head_of (page_to_write s)) s.files; buffer = []; reuse = s.reuse; incarnation = s.incarnation; next = s.next }

-- the current file is closed
abbrev pub switched : RingState → RingState
switched s = record { files = switched_files s.files; buffer = s.buffer; reuse = s.reuse; incarnation = s.incarnation; next = s.next }

-- the uses up to this number are backed up
abbrev pub with_backed : ℕ → RingState → RingState
with_backed uniq s = record { files = s.files; buffer = s.buffer; reuse = record { backed = uniq; need = s.reuse.need }; incarnation = s.incarnation; next = s.next }

-- no position below this one is needed
abbrev pub with_need : ℕ → RingState → RingState
with_need need s = record { files = s.files; buffer = s.buffer; reuse = record { backed = s.reuse.backed; need = need }; incarnation = s.incarnation; next = s.next }

-- the use of this number is closed, and the least that is not backed up
abbrev pub IsNextToBack : RingState → ℕ → Type 0
IsNextToBack s uniq = option_map (λ (u : Use). u.uniq) (to_back_up (config_of s) s.reuse (ring_of s)) ≡ Some uniq
