-- The machine that an opening leaves: what was read is redone, open transactions are rolled back, and a checkpoint is made.
use Rattle.std.specs.List.{enumerate_from, list_any, range_with_len}
use Rattle.std.specs.Prelude.{Bool, List, [], drop, false, filter, fold, if◌then◌else◌, length, map, max, ℕ, ◌&&◌, ◌+◌, ◌-◌, ◌==◌, ◌∷◌}
use Rattle.ol_values.specs.declared.record.Record.{Record}
use Rattle.ol_values.specs.declared.record.Record.TheVariants.{Change, Undo}
use Rattle.ol_values.specs.Config.{Config, data_pages}
use Rattle.ol_values.specs.Pages.{Page}
use Rattle.ol_rules.specs.DiskValue.{AnchorValue, DiskValue, EntryValue, ring_found, run_of, start_in, to_redo}
use Rattle.ol_rules.specs.Journal.{page_at}
use Rattle.ol_rules.specs.Lasting.{Lasting, SpaceState, is_up, none_kept}
use Rattle.ol_rules.specs.Plan.{Plan}
use Rattle.ol_rules.specs.Restored.{restored, restored_journal, restored_uniq}
use Rattle.ol_rules.specs.Ring.{Ring, Use, flushed, logged}
use Rattle.ol_rules.specs.Shelf.{Shelf}
use Rattle.ol_rules.specs.Start.{Start, records_behind}
use Rattle.ol_rules.specs.Transactions.{back}
use Rattle.ol_model.specs.Machine.{Machine, config_of, formatted, last_of, page_upto, txns_in}
use Rattle.ol_model.specs.Steps.{append, before_change, make_checkpoint, needs_checkpoint, touch}

-- ---- redo and roll back

-- a page that redo changes takes an entry; where none is unused a checkpoint empties them all
abbrev pub touch_or_empty : ℕ × ℕ → Machine → Machine
touch_or_empty p m = touch p (if needs_checkpoint m p then record m { checkpoint = record m.checkpoint { touched = [] } } else m)

-- a record is redone, where its space is up
abbrev pub redo_step : Machine → Record → Machine
redo_step m (Change n rid before after) = if is_up m.lasting rid.space then touch_or_empty (rid.space, rid.page) m else m
redo_step m (Undo n rid value) = if is_up m.lasting rid.space then touch_or_empty (rid.space, rid.page) m else m
redo_step m _ = m

-- a record of the roll back is appended; it changes its page, where the space is up
abbrev pub undo_step : Machine → Record → Machine
undo_step m (Undo n rid value) = append (Undo n rid value) (if is_up m.lasting rid.space then before_change 0 (rid.space, rid.page) m else m)
undo_step m r = append r m

-- ---- the opening

-- the spaces of these numbers are down from a position on, and know no archive any more
abbrev pub marked_down : List ℕ → ℕ → ℕ × SpaceState → SpaceState
marked_down downs last s =
    if list_any (λ d. d == s.0) downs && s.1.up then record { up = false; down_at = last; zero = none_kept; one = none_kept } else s.1

abbrev pub pages_left : List ℕ → ℕ × List Page → List Page
pages_left downs p = if list_any (λ d. d == p.0) downs then [] else p.1

-- what an opening found: the start, the records behind it, the lasting state, the ring, the checkpoint's need, the pages with an entry, and the spaces that it marks down
pub record Found : Type 0 where
  pub start : Start
  pub redo : List Record
  pub lasting : Lasting
  pub ring : Ring
  pub need : ℕ
  pub touched : List (ℕ × ℕ)
  pub downs : List ℕ

-- the state before anything is redone
abbrev pub found : Config → Found → Machine
found c f =
    record (formatted c) {
      work = record (formatted c).work { start = record f.start { pages = map (pages_left f.downs) (enumerate_from 0 f.start.pages) }; records = f.redo };
      lasting = f.lasting;
      log = record (formatted c).log { ring = f.ring };
      checkpoint = record { position = f.start.last; need = f.need; touched = f.touched };
    }

-- the records of the roll back that is due, and the last position behind it
abbrev pub due_back : Machine → List Record
due_back m = back (txns_in m)

-- the spaces that this opening marks down are so from the end of the roll back on
abbrev pub with_downs : List ℕ → Machine → Machine
with_downs downs m =
    record m { lasting = record m.lasting { spaces = map (marked_down downs (last_of m + length (due_back m))) (enumerate_from 0 m.lasting.spaces) } }

-- the checkpoint at the end, from which on the journal's records are counted
abbrev pub ready : Machine → Machine
ready m = let done = make_checkpoint m in record done { fixed = record done.fixed { opened = last_of m } }

-- the machine behind an opening
unfoldable pub opened : Config → Found → Machine
opened c f =
    let m = with_downs f.downs (found c f) in
    ready (fold undo_step (fold redo_step m f.redo) (due_back m))

-- ---- on a disk

-- the machine that the opening of a disk with this newest anchor leaves, where it marks these spaces down
abbrev pub opened_on : Config → DiskValue → AnchorValue → List ℕ → Machine
opened_on c d a downs =
    opened c (record {
      start = start_in c d a;
      redo = to_redo d a;
      lasting = a.lasting;
      ring = ring_found a (run_of d);
      need = a.need;
      touched = map (λ (e : EntryValue). let p : ℕ × ℕ = (e.space, e.page) in p) (filter (λ (e : EntryValue). e.generation == a.generation) d.entries);
      downs = downs;
    })

-- ---- behind a machine that stopped

-- the positions that stand on written log pages: the first of them, and the last
abbrev pub first_in_ring : Ring → ℕ → ℕ
first_in_ring r none = elim r.uses [ [] ↦ none | u ∷ uses ↦ elim u.pages [ [] ↦ none | p ∷ pages ↦ p.first ] ]

abbrev pub last_flushed : Machine → ℕ
last_flushed m = last_of m - length m.log.ring.buffer

-- the ring that the next opening finds: no switch is remembered, so the last file is current again, unless it was backed up
abbrev pub ring_again : Ring → ℕ → Ring
ring_again r backed = record {
  uses = map (λ (u : Use). record u { switched = false }) r.uses;
  uniq = max r.uniq (max (fold (λ n (u : Use). max n u.uniq) 0 r.uses) (backed + 1));
  buffer = [];
}

-- what the next opening finds of a machine that stopped between two calls, with all entries settled
abbrev pub found_again : Machine → Found
found_again m =
    let position = m.checkpoint.position in
    let first = first_in_ring m.log.ring (position + 1) in record {
      start = record {
        first = first;
        kept = records_behind m.work.start m.work.records first (position + 1 - first);
        last = position;
        pages = map (λ s. if is_up m.lasting s then map (page_upto m position s) (range_with_len 0 (data_pages (config_of m) s)) else []) (range_with_len 0 (length (config_of m).spaces));
      };
      redo = records_behind m.work.start m.work.records (position + 1) (last_flushed m - position);
      lasting = m.lasting;
      ring = ring_again m.log.ring m.lasting.backed;
      need = m.checkpoint.need;
      touched = m.checkpoint.touched;
      downs = [];
    }

abbrev pub opened_again : Machine → Machine
opened_again m = opened (config_of m) (found_again m)

-- ---- behind a cold restore

-- the ring that a restore leaves: the records of its roll back, packed from the first page of a new use on
abbrev pub restored_ring : Config → Shelf → List Record → ℕ → Ring
restored_ring c shelf rollback end_ =
    let start_ : Ring = record { uses = []; uniq = restored_uniq shelf; buffer = [] } in
    let filled = fold (λ (r : Ring) (p : ℕ × Record). logged c r p.0 p.1) start_ (enumerate_from end_ rollback) in
    flushed c filled (end_ + length rollback)

-- the machine that the opening behind a restore of this journal by this plan leaves
abbrev pub opened_restored : Config → Shelf → List Record → Plan → Machine
opened_restored c shelf journal p =
    let new = restored_journal journal p.end_ in
    let r = restored_ring c shelf (drop p.end_ new) p.end_ in
    let l = restored c shelf journal p in
    let first = first_in_ring r (length new + 1) in
    opened c (record {
      start = record {
        first = first;
        kept = drop (first - 1) new;
        last = length new;
        pages = map (λ s. if is_up l s then map (page_at new s) (range_with_len 0 (data_pages c s)) else []) (range_with_len 0 (length c.spaces));
      };
      redo = [];
      lasting = l;
      ring = ring_again r l.backed;
      need = length new + 1;
      touched = [];
      downs = [];
    })
