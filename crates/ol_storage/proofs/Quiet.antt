-- Calls that write nothing, and those on the parts in memory alone: the disk stands as it did.
use Rattle.std.specs.List.{list_any}
use Rattle.std.specs.Prelude.{Err, List, None, Ok, OnErr, OnOk, Option, Result, Some, [], false, ℕ, ◌-◌, ◌+◌, ◌<◌, ◌≡◌, ◌≤◌}
use Rattle.std.proofs.Common.{ap, arith, refl, subst, sym, ◌∙◌}
use Rattle.ol_ports.specs.Disk.{Bytes, Past, Rest}
use Rattle.ol_ports.specs.Frames.{FramedIn}
use Rattle.ol_before.specs.Images.{Captures, is_of, without}
use Rattle.ol_log_state.specs.RingState.{switched}
use Rattle.ol_loglog.proofs.Kept.{order_switched, ready_switched, unbacked_switched}
use Rattle.ol_loglog.specs.RingValue.{first_unwritten}
use Rattle.ol_pool.specs.Frames.{same_place}
use Rattle.ol_store.specs.Archives.{with_passed}
use Rattle.ol_store.specs.Holding.{CleanAreFlushed, IsOnDisk}
use Rattle.ol_store.specs.Pages.{Pages}
use Rattle.ol_store.specs.Stores.{IsLoaded, Store, with_before}
use Rattle.ol_storage.specs.Behind.{Behind, pages_of, record_at}
use Rattle.ol_storage.specs.Installation.{Installation, IsGoing, config_of, flushed_of, with_ring, with_store}
use Rattle.ol_storage.specs.Standing.{StandsFrom}
use Rattle.ol_storage.specs.Storing.{IsStored}
use Rattle.ol_storage.proofs.Images.{Known, log_beside, next_number, number_low, pages_beside, stands_up_to}
use Rattle.ol_storage.proofs.Parts.{anchor_framed}

-- ---- the pages

loaded_flushed : (old new : Store) (v : Pages) (space page : ℕ) → IsLoaded old new space page → CleanAreFlushed old v → CleanAreFlushed new v
loaded_flushed old new v space page l f =
    subst (λ (s : Store). CleanAreFlushed s v) (sym l.rest)
    (λ at_space at_page up clean. f at_space at_page up (subst (λ (d : List (ℕ × ℕ)). list_any (same_place (at_space, at_page)) d ≡ false) l.dirty clean))

-- a page has come into memory
pub loaded_stored : (past : Past) (v : Installation) (t : Store) (g : Behind) (space page : ℕ) → IsLoaded v.store t space page → IsOnDisk past t (pages_of v.anchor g) → IsStored past v g → IsStored past (with_store v t) g
loaded_stored past v t g space page l on_disk is = record {
  going = is.going;
  behind = is.behind;
  reached = is.reached;
  next = is.next;
  checkpoint = is.checkpoint;
  written = is.written;
  anchor = is.anchor;
  log = record { places = is.log.places; floor = is.log.floor; low = is.log.low; is_floor = is.log.is_floor; ready = is.log.ready; order = is.log.order };
  pages = record { on_disk = on_disk; flushed = loaded_flushed v.store t (pages_of v.anchor g) space page l is.pages.flushed };
}

-- other captured images
pub before_stored : (past : Past) (v : Installation) (b : Captures) (g : Behind) → IsStored past v g → IsStored past (with_store v (with_before v.store b)) g
before_stored past v b g is = record {
  going = is.going;
  behind = is.behind;
  reached = is.reached;
  next = is.next;
  checkpoint = is.checkpoint;
  written = is.written;
  anchor = is.anchor;
  log = record { places = is.log.places; floor = is.log.floor; low = is.log.low; is_floor = is.log.is_floor; ready = is.log.ready; order = is.log.order };
  pages = record { on_disk = is.pages.on_disk; flushed = is.pages.flushed };
}

-- memory for one more, where there was some
pub room_stored : {E : Type 0} (past : Past) (v : Installation) (t : Store) (b : Captures) (g : Behind) (result : Result Unit E) → OnOk result (t ≡ with_before v.store b) → OnErr result (t ≡ v.store) → IsStored past v g → IsStored past (with_store v t) g
room_stored past v t b g (Ok x) made same is = subst (λ (s : Store). IsStored past (with_store v s) g) (sym made) (before_stored past v b g is)
room_stored past v t b g (Err e) made same is = subst (λ (s : Store). IsStored past (with_store v s) g) (sym same) is

-- a page of an archive has passed
pub passed_stored : (past : Past) (v : Installation) (place : Option (ℕ × ℕ)) (g : Behind) → IsStored past v g → IsStored past (with_store v (with_passed v.store place)) g
passed_stored past v None g is = is
passed_stored past v (Some place) g is = before_stored past v (without (is_of place.0 place.1) v.store.before) g is

-- ---- the log

-- the current file is closed
pub switched_stored : (past : Past) (v : Installation) (g : Behind) → IsStored past v g → IsStored past (with_ring v (switched v.ring.state) v.ring.gates) g
switched_stored past v g is = record {
  going = is.going;
  behind = is.behind;
  reached = is.reached;
  next = is.next;
  checkpoint = is.checkpoint;
  written = is.written;
  anchor = is.anchor;
  log = record {
    places = is.log.places;
    floor = is.log.floor;
    low = is.log.low;
    is_floor = is.log.is_floor;
    ready = ready_switched past v.ring is.log.places is.log.floor (record_at g) is.log.ready;
    order = order_switched (config_of v) v.ring.state is.log.order;
  };
  pages = record { on_disk = is.pages.on_disk; flushed = is.pages.flushed };
}

pub switched_going : (v : Installation) → IsGoing v → IsGoing (with_ring v (switched v.ring.state) v.ring.gates)
switched_going v is = record {
  config = is.config;
  generation = is.generation;
  reuse = is.reuse;
  anchor = is.anchor;
  text = is.text;
  flushed = is.flushed;
  reached = is.reached;
  uniq = is.uniq;
  unbacked = unbacked_switched v.ring.state is.unbacked;
}

-- ---- what a stop leaves between two calls

pub stored_stands : (past : Past) (v : Installation) (g : Behind) → Known v → IsStored past v g → (d : Bytes) → Rest past d → StandsFrom (config_of v) g v.anchor (flushed_of v) (flushed_of v) d
stored_stands past v g known is d rest =
    let none : FramedIn past (λ chunk page. false) d = record { origin = d; rest = rest; same = λ c p i out. refl } in
    stands_up_to (config_of v) g v.anchor is.log.floor (first_unwritten v.ring.state) (first_unwritten v.ring.state) (next_number v) d is.checkpoint is.written is.log.low (number_low v known.going)
    (anchor_framed past v.anchor (λ chunk page. false) (λ chunk page pair. refl) is.anchor d none)
    (pages_beside past v (pages_of v.anchor g) known is.pages.on_disk (λ chunk page. false) (λ chunk page in_it. refl) d none)
    (log_beside past v g is.log (λ chunk page. false) (λ chunk page in_it. refl) d none)
