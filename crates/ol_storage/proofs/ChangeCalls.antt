-- A change of a page, and then its record: what a stop leaves, and what stands behind both.
use Rattle.std.specs.Prelude.{Bool, Option, Some, false, true, ℕ, ◌+◌, ◌<◌, ◌≡◌}
use Rattle.std.proofs.Common.{ap, arith, refl, subst, sym, ◌∙◌}
use Rattle.ol_values.specs.Config.{Config}
use Rattle.ol_values.specs.declared.record.Record.{Record}
use Rattle.ol_values.specs.declared.record.Rid.{Rid}
use Rattle.ol_values.specs.declared.row.Row.{Row}
use Rattle.ol_chunks.specs.Places.{physical_area}
use Rattle.ol_ports.specs.Disk.{Bytes, Past}
use Rattle.ol_ports.specs.Disk.{Rest as DiskRest}
use Rattle.ol_ports.specs.Frames.{FramedIn, ReadsOutside}
use Rattle.ol_ports.specs.Stops.{Stops}
use Rattle.ol_ports.proofs.StopLaws.{stops_weaker}
use Rattle.ol_physlog.specs.States.{Log}
use Rattle.ol_reserve.proofs.PairLaws.{ready_kept}
use Rattle.ol_log_places.specs.Places.{Place, in_log}
use Rattle.ol_log_places.specs.Runs.{HoldsLog}
use Rattle.ol_loglog.specs.Ready.{IsInOrder, IsNextFree, IsReady}
use Rattle.ol_loglog.specs.RingValue.{HasRoom, RingValue, first_unwritten, logged_state}
use Rattle.ol_store.specs.Holding.{CleanAreFlushed, HoldsPages, IsOnDisk, in_store}
use Rattle.ol_store.specs.Pages.{changed}
use Rattle.ol_store.specs.Stores.{IsChanged, Store, is_touched, with_entry}
use Rattle.ol_storage.specs.Behind.{Behind, Moves, pages_of, with_record}
use Rattle.ol_storage.specs.Behind.{last_of as last_behind}
use Rattle.ol_storage.specs.Installation.{Installation, config_of, flushed_of, last_of, with_store}
use Rattle.ol_storage.specs.Standing.{StandsFrom}
use Rattle.ol_storage.specs.Storing.{IsLogStored, IsStored}
use Rattle.ol_storage.proofs.Agreeing.{held_agree}
use Rattle.ol_storage.proofs.Images.{Known, next_number, pages_beside, ring_beside, stands_wider, store_stops}
use Rattle.ol_storage.proofs.LogSteps.{Rest, append_behind, ring_stops_by, with_log}
use Rattle.ol_storage.proofs.PageSteps.{changed_agree}
use Rattle.ol_storage.proofs.Parts.{is_pair_at, log_not_store, pair_not_store, store_not_log}

-- ---- another store

-- a store of the same configuration, in the same generation of the physical log, that knows of no other flush
pub record IsAlike (s t : Store) : Type 0 where
  pub config : t.config ≡ s.config
  pub area : t.log.area ≡ s.log.area
  pub generation : t.log.generation ≡ s.log.generation
  pub flushed : t.flushed ≡ s.flushed

entry_area : (log : Log) (space page : ℕ) → (with_entry log space page).area ≡ log.area
entry_area log space page = by_case (is_touched log space page) refl
  where
    by_case : (b : Bool) → is_touched log space page ≡ b → (with_entry log space page).area ≡ log.area
    by_case true e = rw e refl
    by_case false e = rw e refl

entry_generation : (log : Log) (space page : ℕ) → (with_entry log space page).generation ≡ log.generation
entry_generation log space page = by_case (is_touched log space page) refl
  where
    by_case : (b : Bool) → is_touched log space page ≡ b → (with_entry log space page).generation ≡ log.generation
    by_case true e = rw e refl
    by_case false e = rw e refl

pub changed_alike : (s t : Store) (space page stamp : ℕ) → IsChanged s t space page stamp → IsAlike s t
changed_alike s t space page stamp is = record {
  config = is.config;
  area = ap (λ (l : Log). l.area) is.log ∙ entry_area s.log space page;
  generation = ap (λ (l : Log). l.generation) is.log ∙ entry_generation s.log space page;
  flushed = is.flushed;
}

pub store_known : (v : Installation) (t : Store) → IsAlike v.store t → Known v → Known (with_store v t)
store_known v t is known = record {
  going = record {
    config = is.config ∙ known.going.config;
    generation = is.generation ∙ known.going.generation;
    reuse = known.going.reuse;
    anchor = known.going.anchor;
    text = known.going.text;
    flushed = omega (arith, is.flushed, known.going.flushed);
    reached = known.going.reached;
    uniq = known.going.uniq;
    unbacked = known.going.unbacked;
  };
  ring = known.ring;
  area = is.area ∙ known.area ∙ ap physical_area (sym is.config);
}

log_moved : (past : Past) (v : Installation) (t : Store) (g : Behind) → IsLogStored past v g → IsLogStored past (with_store v t) g
log_moved past v t g l = record { places = l.places; floor = l.floor; low = l.low; is_floor = l.is_floor; ready = l.ready; order = l.order }

-- all but the pages stands still behind a call of the store
pub rest_beside : (old new : Past) (v : Installation) (t : Store) (g : Behind) → Known v → Rest old v g → ((d : Bytes) → DiskRest new d → FramedIn old (in_store (config_of v)) d) → Rest new (with_store v t) g
rest_beside old new v t g known is frame = record {
  going = is.going;
  behind = is.behind;
  reached = is.reached;
  next = is.next;
  checkpoint = is.checkpoint;
  written = is.written;
  anchor = ready_kept old new (in_store (config_of v)) (Some v.anchor) (λ page below. pair_not_store (config_of v) known.ring.config 0 page (is_pair_at page below)) frame is.anchor;
  log = log_moved new v t g (ring_beside old new v g is.log (in_store (config_of v)) (λ chunk page in_it. log_not_store (config_of v) known.ring.config chunk page in_it) frame);
}

-- ---- stops

-- a stop within a call of the store, or behind it
pub store_call_stops : (old new : Past) (v : Installation) (g : Behind) → Known v → Rest old v g → Stops old new (FramedIn old (in_store v.store.config)) → Stops old new (HoldsPages v.store.config v.store.log.generation (pages_of v.anchor g))
    → Stops old new (StandsFrom (config_of v) g v.anchor (flushed_of v) (last_of v))
store_call_stops old new v g known is frame holds =
    stops_weaker old new _ _
    (λ d s. stands_wider (config_of v) g v.anchor (flushed_of v) (flushed_of v) (flushed_of v) (last_of v) d (omega arith) (omega arith) s)
    (store_stops v known.going known.ring.config old new g is.anchor is.log is.checkpoint is.written
    (subst (λ (c : Config). Stops old new (FramedIn old (in_store c))) known.going.config frame)
    (subst (λ (c : Config). Stops old new (HoldsPages c v.anchor.generation (pages_of v.anchor g))) known.going.config
    (subst (λ (n : ℕ). Stops old new (HoldsPages v.store.config n (pages_of v.anchor g))) known.going.generation holds)))

-- and within the append behind a change
pub append_call_stops : (mid new : Past) (v : Installation) (t : Store) (g : Behind) (rid : Rid) (row : Option Row) (stamp : ℕ) → Known (with_store v t) → HasRoom v.ring.config v.ring.state → Rest mid (with_store v t) g → IsOnDisk mid t (changed (pages_of v.anchor g) rid row stamp)
    → Stops mid new (FramedIn mid (in_log (config_of v)))
    → ((r : ℕ → Place) (floor : ℕ) (j : ℕ → Record) → IsReady mid v.ring r floor j → IsNextFree v.ring r floor → Stops mid new (HoldsLog v.ring.config j floor (first_unwritten v.ring.state) v.ring.state.next (next_number v)))
    → Stops mid new (StandsFrom (config_of v) g v.anchor (flushed_of v) (last_of v))
append_call_stops mid new v t g rid row stamp known room is on_disk frame stops =
    ring_stops_by mid new (with_store v t) g known room is.anchor is.log is.checkpoint is.written
    (λ d f. held_agree (config_of v) v.anchor.generation (changed (pages_of v.anchor g) rid row stamp) (pages_of v.anchor g) d (λ space page up. up) refl
    (pages_beside mid (with_store v t) (changed (pages_of v.anchor g) rid row stamp) known on_disk (in_log (config_of v)) (λ chunk page in_it. store_not_log (config_of v) known.ring.config chunk page in_it) d f))
    frame stops

-- ---- behind both

pub change_result : (mid new : Past) (v : Installation) (t : Store) (w : RingValue) (g : Behind) (rec : Record) (rid : Rid) (row : Option Row) → Known (with_store v t) → HasRoom v.ring.config v.ring.state → w.config ≡ v.ring.config → w.state ≡ logged_state rec v.ring.state → v.reached + 1 ≡ v.ring.state.next
    → rid.slot < 31 → Moves rec rid row → (is : Rest mid (with_store v t) g) → IsOnDisk mid t (changed (pages_of v.anchor g) rid row v.ring.state.next) → CleanAreFlushed t (changed (pages_of v.anchor g) rid row v.ring.state.next)
    → ((d : Bytes) → DiskRest new d → FramedIn mid (in_log (config_of v)) d) → ReadsOutside mid new (in_log (config_of v)) → (IsInOrder v.ring.config v.ring.state → IsInOrder w.config w.state)
    → ((r : ℕ → Place) (floor : ℕ) (j : ℕ → Record) → IsReady mid v.ring r floor j → IsNextFree v.ring r floor → j v.ring.state.next ≡ rec → (s : ℕ → Place) × IsReady new w s floor j)
    → IsStored new (with_log (with_store v t) w (v.reached + 1)) (with_record rec g)
change_result mid new v t w g rec rid row known room config state at_end slot moves is on_disk flushed frame reads order ok =
    let all : g.reached ≡ last_behind g = omega (arith, at_end, is.reached, is.next) in
    append_behind mid new (with_store v t) w (changed (pages_of v.anchor g) rid row v.ring.state.next) g rec known room config state is on_disk flushed
    (changed_agree (config_of v) g v.anchor rec rid row v.ring.state.next is.behind is.checkpoint.to all slot moves is.next)
    frame reads order ok
