-- What turns do to the state: the log is flushed, a record is appended, a checkpoint is made, a page changes.
use Rattle.std.specs.List.{list_any}
use Rattle.std.specs.Prelude.{Bool, List, None, Option, Some, [], if◌then◌else◌, is_none, length, map, nat_le, not, ℕ, ◌&&◌, ◌++◌, ◌==◌, ◌∷◌}
use Rattle.ol_values.specs.declared.record.Record.{Record}
use Rattle.ol_values.specs.declared.record.Rid.{Rid}
use Rattle.ol_rules.specs.Ring.{flushed, logged}
use Rattle.ol_model.specs.Machine.{Archive, Machine, config_of, last_of, low_in, stamp_in, with_ring}
use Rattle.ol_model.specs.Waiting.{images_held, left_of}

-- all buffered records go to a log page
abbrev pub flush : Machine → Machine
flush m = with_ring (flushed (config_of m) m.log.ring (last_of m)) m

-- a record is appended to the journal, and goes into the log buffer
abbrev pub append : Record → Machine → Machine
append r m =
    with_ring (logged (config_of m) m.log.ring (last_of m) r) (record m { work = record m.work { records = m.work.records ++ r ∷ [] } })

-- the log is flushed, all changed pages go to their places, and the last position becomes that of the checkpoint
abbrev pub make_checkpoint : Machine → Machine
make_checkpoint m = record (flush m) { checkpoint = record { position = last_of m; need = low_in m; touched = [] } }

-- ---- a page that changes

abbrev pub same_page : ℕ × ℕ → ℕ × ℕ → Bool
same_page p q = (p.0 == q.0) && (p.1 == q.1)

abbrev pub is_page_in : ℕ × ℕ → List (ℕ × ℕ) → Bool
is_page_in p pages = list_any (same_page p) pages

-- whether a change of the page has a checkpoint before it: the page is untouched, and no physical entry is unused
abbrev pub needs_checkpoint : Machine → ℕ × ℕ → Bool
needs_checkpoint m p = not (is_page_in p m.checkpoint.touched) && nat_le (config_of m).physical_entries (length m.checkpoint.touched)

-- the page takes a physical entry, where it has none since the checkpoint
abbrev pub touch : ℕ × ℕ → Machine → Machine
touch p m = if is_page_in p m.checkpoint.touched then m else record m { checkpoint = record m.checkpoint { touched = m.checkpoint.touched ++ p ∷ [] } }

-- whether a change of the page first keeps its image for this archive
abbrev pub wants_image : Machine → ℕ × ℕ → Archive → Bool
wants_image m p a = is_none a.broken && (is_page_in p (left_of m a) && nat_le (stamp_in m p.0 p.1) a.cut)

-- an archive after a change of the page by entry n: broken where that would keep an image too many
abbrev pub after_change : Machine → ℕ → ℕ × ℕ → Option Archive → Option Archive
after_change m n p None = None
after_change m n p (Some a) =
    Some (if wants_image m p a && nat_le (config_of m).image_limit (images_held m) then record a { broken = Some n } else a)

-- what a change of a page by entry n does before its record: a checkpoint where one is needed, the image, the physical entry
abbrev pub before_change : ℕ → ℕ × ℕ → Machine → Machine
before_change n p m =
    let ready = touch p (if needs_checkpoint m p then make_checkpoint m else m) in
    record ready { archives = map (after_change m n p) m.archives }

-- a change of a row by entry n
abbrev pub change_row : ℕ → Rid → Record → Machine → Machine
change_row n rid r m = append r (before_change n (rid.space, rid.page) m)
