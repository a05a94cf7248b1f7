-- A record appended, and the log flushed: the disk holds the records behind it.
use Rattle.std.specs.Prelude.{Bool, List, Some, false, is_some, length, max, min, nat_le, slice_get, true, ℕ, [], ◌+◌, ◌-◌, ◌<◌, ◌∷◌, ◌≡◌, ◌≤◌}
use Rattle.std.proofs.Common.{ap, arith, length-append, refl, subst, sym, ◌∙◌}
use Rattle.ol_values.specs.Config.{Config}
use Rattle.ol_values.specs.LogPages.{log_room, record_length, records_length}
use Rattle.ol_values.specs.declared.record.Record.{Record}
use Rattle.ol_rules.specs.Ring.{Reuse}
use Rattle.ol_ports.specs.Disk.{Bytes, Past}
use Rattle.ol_ports.specs.Disk.{Rest as DiskRest}
use Rattle.ol_ports.specs.Frames.{FramedIn, ReadsOutside}
use Rattle.ol_ports.specs.Stops.{Stops}
use Rattle.ol_reserve.proofs.PairLaws.{ready_kept}
use Rattle.ol_reserve.specs.Pair.{IsReady as IsAnchorReady}
use Rattle.ol_log_places.specs.Places.{Place, in_log}
use Rattle.ol_log_places.specs.Runs.{HoldsLog}
use Rattle.ol_log_state.specs.RingState.{RingState, buffered}
use Rattle.ol_loglog.proofs.Kept.{ready_higher, room_free, unbacked_turned}
use Rattle.ol_loglog.proofs.Readies.{flushed_empty}
use Rattle.ol_loglog.proofs.Steps.{number_between}
use Rattle.ol_loglog.specs.Ready.{IsInOrder, IsNextFree, IsNextUnbacked, IsReady}
use Rattle.ol_loglog.specs.RingValue.{HasRoom, RingValue, first_unwritten, flushed_state, logged_state, ring_value}
use Rattle.ol_store.specs.Holding.{CleanAreFlushed, HoldsPages, IsOnDisk}
use Rattle.ol_store.specs.Pages.{Pages}
use Rattle.ol_store.specs.Stores.{Store, with_flushed}
use Rattle.ol_storage.specs.Behind.{Behind, IsBehind, TouchesNone, pages_of, record_at, with_record}
use Rattle.ol_storage.specs.Behind.{last_of as last_behind}
use Rattle.ol_storage.specs.Installation.{Installation, IsGoing, appended, config_of, flushed, flushed_of, last_of}
use Rattle.ol_storage.specs.Standing.{IsAnchorOf, StandsFrom}
use Rattle.ol_storage.specs.Storing.{IsLogStored, IsStored}
use Rattle.ol_storage.proofs.Agreeing.{Agree, anchor_kept, flushed_agree, pages_kept, stored_agree}
use Rattle.ol_storage.proofs.Images.{Known, log_stops, next_number, pages_beside, stored_beside}
use Rattle.ol_storage.proofs.Records.{ready_same, record_kept, record_new}
use Rattle.ol_storage.proofs.Parts.{is_pair_at, pair_not_log, store_not_log}

-- ---- the ring's state behind a step

-- the next position, the first that is not written, what may be reused, and the unique numbers
pub record Goes (s t : RingState) (more : ℕ) : Type 0 where
  pub next : t.next ≡ s.next + more
  pub first : first_unwritten s ≤ first_unwritten t
  pub reuse : t.reuse ≡ s.reuse
  pub long : length t.buffer < t.next
  pub uniq : s.files.uniq ≤ t.files.uniq
  pub unbacked : IsNextUnbacked s → IsNextUnbacked t

-- a flush leaves the next position, and writes no less
pub flushed_first : (s : RingState) → (first_unwritten s ≤ first_unwritten (flushed_state s)) × ((flushed_state s).next ≡ s.next)
flushed_first s = by_case (is_some (slice_get s.buffer 0)) refl
  where
    by_case : (b : Bool) → is_some (slice_get s.buffer 0) ≡ b → (first_unwritten s ≤ first_unwritten (flushed_state s)) × ((flushed_state s).next ≡ s.next)
    by_case true e = rw e (omega arith, refl)
    by_case false e = rw e (omega arith, refl)

-- nothing has changed
stays : (s : RingState) → length s.buffer < s.next → Goes s s 0
stays s long = record { next = omega arith; first = omega arith; reuse = refl; long = long; uniq = omega arith; unbacked = λ is. is }

pub flushed_goes : (s : RingState) → length s.buffer < s.next → Goes s (flushed_state s) 0
flushed_goes s long = by_case (is_some (slice_get s.buffer 0)) refl
  where
    by_case : (b : Bool) → is_some (slice_get s.buffer 0) ≡ b → Goes s (flushed_state s) 0
    by_case true e = rw e (record { next = omega arith; first = omega (arith, long); reuse = refl; long = omega (arith, long); uniq = (number_between s.files).0; unbacked = unbacked_turned s })
    by_case false e = rw e (stays s long)

buffered_goes : (rec : Record) (s t : RingState) → Goes s t 0 → (let u : RingState = buffered rec t in Goes s u 1)
buffered_goes rec s t g = record {
  next = omega (arith, g.next);
  first = omega (arith, g.first, g.long, length-append t.buffer (rec ∷ []));
  reuse = g.reuse;
  long = omega (arith, g.long, length-append t.buffer (rec ∷ []));
  uniq = g.uniq;
  unbacked = g.unbacked;
}

pub logged_goes : (rec : Record) (s : RingState) → length s.buffer < s.next → Goes s (logged_state rec s) 1
logged_goes rec s long = by_case (nat_le (records_length s.buffer + record_length rec) log_room) refl
  where
    by_case : (b : Bool) → nat_le (records_length s.buffer + record_length rec) log_room ≡ b → Goes s (logged_state rec s) 1
    by_case true e = rw e (buffered_goes rec s s (stays s long))
    by_case false e = rw e (buffered_goes rec s (flushed_state s) (flushed_goes s long))

-- ---- a floor that is raised

-- the position below which a page may be closed: what is needed is above it, and so is the last record
abbrev raised : ℕ → ℕ → RingState → ℕ
raised floor need s = max floor (min need (first_unwritten s - 1))

pub log_raised : (past : Past) (v w : Installation) (g : Behind) (floor : ℕ) (r : ℕ → Place) → floor ≤ w.anchor.need → w.ring.state.reuse.need ≡ w.anchor.need → IsReady past w.ring r floor (record_at g) → IsInOrder w.ring.config w.ring.state → IsLogStored past w g
log_raised past v w g floor r low need ready order = record {
  places = r;
  floor = raised floor w.anchor.need w.ring.state;
  low = omega (arith, low);
  is_floor = rw need (omega arith);
  ready = ready_higher past w.ring r floor (raised floor w.anchor.need w.ring.state) (record_at g) (omega arith) ready;
  order = order;
}

-- ---- the steps

need_of : (v : Installation) → Known v → v.ring.state.reuse.need ≡ v.anchor.need
need_of v known = ap (λ (m : Reuse). m.need) known.going.reuse

-- all but the pages
pub record Rest (past : Past) (v : Installation) (g : Behind) : Type 0 where
  pub going : v.stopped ≡ false
  pub behind : IsBehind g
  pub reached : v.reached ≡ g.reached
  pub next : v.ring.state.next ≡ last_behind g + 1
  pub checkpoint : IsAnchorOf (config_of v) g v.anchor
  pub written : v.anchor.position < first_unwritten v.ring.state
  pub anchor : IsAnchorReady past (Some v.anchor)
  pub log : IsLogStored past v g

pub rest_of : (past : Past) (v : Installation) (g : Behind) → IsStored past v g → Rest past v g
rest_of past v g is = record { going = is.going; behind = is.behind; reached = is.reached; next = is.next; checkpoint = is.checkpoint; written = is.written; anchor = is.anchor; log = is.log }

-- pages that agree with those behind the record
pub append_stored : (old new : Past) (v : Installation) (g : Behind) (w : Pages) (rec : Record) (gates : List Bool) → Known v → (is : Rest old v g) → IsOnDisk old v.store w → CleanAreFlushed v.store w → Agree (config_of v) w (pages_of v.anchor (with_record rec g))
    → ((d : Bytes) → DiskRest new d → FramedIn old (in_log (config_of v)) d) → ReadsOutside old new (in_log (config_of v)) → IsInOrder v.ring.config (logged_state rec v.ring.state)
    → (r : ℕ → Place) × IsReady new (ring_value v.ring.config (logged_state rec v.ring.state) gates) r is.log.floor (record_at (with_record rec g))
    → IsStored new (appended v rec gates) (with_record rec g)
append_stored old new v g w rec gates known is on_disk flushed agree frame reads order ready =
    let goes = logged_goes rec v.ring.state known.ring.limits.first in
    let here = subst (λ (c : Config). Agree c w (pages_of v.anchor (with_record rec g))) (sym known.going.config) agree in
    record {
      going = is.going;
      behind = record { kept = is.behind.kept; from = omega (arith, is.behind.from); to = omega (arith, is.behind.to, length-append g.records (rec ∷ [])) };
      reached = ap (λ n. n + 1) is.reached;
      next = omega (arith, goes.next, is.next, length-append g.records (rec ∷ []));
      checkpoint = anchor_kept (config_of v) g rec v.anchor is.behind is.checkpoint;
      written = omega (arith, is.written, goes.first);
      anchor = ready_kept old new (in_log (config_of v)) (Some v.anchor) (λ page below. pair_not_log (config_of v) known.ring.config 0 page (is_pair_at page below)) frame is.anchor;
      log = log_raised new v (appended v rec gates) (with_record rec g) is.log.floor ready.0 is.log.low (ap (λ (m : Reuse). m.need) goes.reuse ∙ need_of v known) ready.1 order;
      pages = record {
        on_disk = stored_agree new v.store.config v.store.pool v.store.log v.store.written w (pages_of v.anchor (with_record rec g)) here
            (stored_beside old new v w known (in_log (config_of v)) (λ chunk page in_it. store_not_log (config_of v) known.ring.config chunk page in_it) frame reads on_disk);
        flushed = flushed_agree v.store w (pages_of v.anchor (with_record rec g)) here flushed;
      };
    }

-- the store knows of a later flush
known_later : (s : Store) (position : ℕ) (past : Past) (w : Pages) → s.flushed ≤ position → IsOnDisk past s w × CleanAreFlushed s w → IsOnDisk past (with_flushed s position) w × CleanAreFlushed (with_flushed s position) w
known_later s position past w later both = (both.0, λ space page up clean. omega (arith, later, both.1 space page up clean))

pub flush_stored : (old new : Past) (v : Installation) (g : Behind) (gates : List Bool) → Known v → (is : IsStored old v g)
    → ((d : Bytes) → DiskRest new d → FramedIn old (in_log (config_of v)) d) → ReadsOutside old new (in_log (config_of v)) → IsInOrder v.ring.config (flushed_state v.ring.state)
    → (r : ℕ → Place) × IsReady new (ring_value v.ring.config (flushed_state v.ring.state) gates) r is.log.floor (record_at g)
    → IsStored new (flushed v gates) g
flush_stored old new v g gates known is frame reads order ready =
    let goes = flushed_goes v.ring.state known.ring.limits.first in
    let pages = known_later v.store (last_of v) new (pages_of v.anchor g) (omega (arith, known.going.flushed))
    (stored_beside old new v (pages_of v.anchor g) known (in_log (config_of v)) (λ chunk page in_it. store_not_log (config_of v) known.ring.config chunk page in_it) frame reads is.pages.on_disk, is.pages.flushed) in
    record {
      going = is.going;
      behind = is.behind;
      reached = is.reached;
      next = omega (arith, goes.next, is.next);
      checkpoint = is.checkpoint;
      written = omega (arith, is.written, goes.first);
      anchor = ready_kept old new (in_log (config_of v)) (Some v.anchor) (λ page below. pair_not_log (config_of v) known.ring.config 0 page (is_pair_at page below)) frame is.anchor;
      log = log_raised new v (flushed v gates) g is.log.floor ready.0 is.log.low (ap (λ (m : Reuse). m.need) goes.reuse ∙ need_of v known) ready.1 order;
      pages = record { on_disk = pages.0; flushed = pages.1 };
    }

-- ---- the ring that a call leaves

-- an installation with another ring
abbrev pub with_log : Installation → RingValue → ℕ → Installation
with_log v w reached = record { ring = w; store = v.store; anchor = v.anchor; reached = reached; stopped = v.stopped }

ring_is : (w : RingValue) (c : Config) (s : RingState) → w.config ≡ c → w.state ≡ s → w ≡ ring_value c s w.gates
ring_is w c s config state = ap (λ (x : Config). ring_value x w.state w.gates) config ∙ ap (λ (x : RingState). ring_value c x w.gates) state

pub log_going : (v : Installation) (w : RingValue) (s : RingState) (more reached : ℕ) → Goes v.ring.state s more → w.config ≡ v.ring.config → w.state ≡ s → reached < v.ring.state.next + more → IsGoing v → IsGoing (with_log v w reached)
log_going v w s more reached goes config state below is =
    subst (λ (x : RingValue). IsGoing (with_log v x reached)) (sym (ring_is w v.ring.config s config state)) (record {
      config = is.config;
      generation = is.generation;
      reuse = goes.reuse ∙ is.reuse;
      anchor = is.anchor;
      text = is.text;
      flushed = omega (arith, is.flushed, goes.first);
      reached = omega (arith, below, goes.next);
      uniq = omega (arith, is.uniq, goes.uniq);
      unbacked = goes.unbacked is.unbacked;
    })

-- a stop within an append or a flush, or behind it
pub ring_stops_by : (old new : Past) (v : Installation) (g : Behind) → Known v → HasRoom v.ring.config v.ring.state → IsAnchorReady old (Some v.anchor) → (l : IsLogStored old v g) → IsAnchorOf (config_of v) g v.anchor → v.anchor.position < first_unwritten v.ring.state → ((d : Bytes) → FramedIn old (in_log (config_of v)) d → HoldsPages (config_of v) v.anchor.generation (pages_of v.anchor g) d)
    → Stops old new (FramedIn old (in_log (config_of v)))
    → ((r : ℕ → Place) (floor : ℕ) (j : ℕ → Record) → IsReady old v.ring r floor j → IsNextFree v.ring r floor → Stops old new (HoldsLog v.ring.config j floor (first_unwritten v.ring.state) v.ring.state.next (next_number v)))
    → Stops old new (StandsFrom (config_of v) g v.anchor (flushed_of v) (last_of v))
ring_stops_by old new v g known room anchor l checkpoint written pages frame stops =
    log_stops v known.going known.ring.config old new g anchor l checkpoint written pages frame
    (stops l.places l.floor (record_at g) l.ready (room_free old v.ring l.places l.floor (record_at g) l.ready l.is_floor known.ring l.order room))

pub ring_stops : (old new : Past) (v : Installation) (g : Behind) → Known v → HasRoom v.ring.config v.ring.state → (is : IsStored old v g) → Stops old new (FramedIn old (in_log (config_of v)))
    → ((r : ℕ → Place) (floor : ℕ) (j : ℕ → Record) → IsReady old v.ring r floor j → IsNextFree v.ring r floor → Stops old new (HoldsLog v.ring.config j floor (first_unwritten v.ring.state) v.ring.state.next (next_number v)))
    → Stops old new (StandsFrom (config_of v) g v.anchor (flushed_of v) (last_of v))
ring_stops old new v g known room is frame stops =
    ring_stops_by old new v g known room is.anchor is.log is.checkpoint is.written
    (λ d f. pages_beside old v (pages_of v.anchor g) known is.pages.on_disk (in_log (config_of v)) (λ chunk page in_it. store_not_log (config_of v) known.ring.config chunk page in_it) d f)
    frame stops

-- a record appended, where the pages agree with those behind it
pub append_behind : (old new : Past) (v : Installation) (w : RingValue) (pages : Pages) (g : Behind) (rec : Record) → Known v → HasRoom v.ring.config v.ring.state → w.config ≡ v.ring.config → w.state ≡ logged_state rec v.ring.state → (is : Rest old v g) → IsOnDisk old v.store pages → CleanAreFlushed v.store pages
    → Agree (config_of v) pages (pages_of v.anchor (with_record rec g))
    → ((d : Bytes) → DiskRest new d → FramedIn old (in_log (config_of v)) d) → ReadsOutside old new (in_log (config_of v)) → (IsInOrder v.ring.config v.ring.state → IsInOrder w.config w.state)
    → ((r : ℕ → Place) (floor : ℕ) (j : ℕ → Record) → IsReady old v.ring r floor j → IsNextFree v.ring r floor → j v.ring.state.next ≡ rec → (s : ℕ → Place) × IsReady new w s floor j)
    → IsStored new (with_log v w (v.reached + 1)) (with_record rec g)
append_behind old new v w pages g rec known room config state is on_disk flushed agree frame reads order ok =
    let j = record_at (with_record rec g) in
    let ready = ready_same old v.ring is.log.places is.log.floor (record_at g) j known.ring.limits.first (λ position below. record_kept g rec position is.behind (omega (arith, below, is.next))) is.log.ready in
    let free = room_free old v.ring is.log.places is.log.floor j ready is.log.is_floor known.ring is.log.order room in
    let behind : j v.ring.state.next ≡ rec = ap j is.next ∙ record_new g rec is.behind in
    let here = ring_is w v.ring.config (logged_state rec v.ring.state) config state in
    subst (λ (x : RingValue). IsStored new (with_log v x (v.reached + 1)) (with_record rec g)) (sym here)
    (append_stored old new v g pages rec w.gates known is on_disk flushed agree frame reads
    (subst (λ (x : RingValue). IsInOrder x.config x.state) here (order is.log.order))
    (subst (λ (x : RingValue). (r : ℕ → Place) × IsReady new x r is.log.floor j) here (ok is.log.places is.log.floor j ready free behind)))

pub append_result : (old new : Past) (v : Installation) (w : RingValue) (g : Behind) (rec : Record) → Known v → HasRoom v.ring.config v.ring.state → w.config ≡ v.ring.config → w.state ≡ logged_state rec v.ring.state → v.reached + 1 ≡ v.ring.state.next → (is : IsStored old v g) → TouchesNone (config_of v) v.anchor rec
    → ((d : Bytes) → DiskRest new d → FramedIn old (in_log (config_of v)) d) → ReadsOutside old new (in_log (config_of v)) → (IsInOrder v.ring.config v.ring.state → IsInOrder w.config w.state)
    → ((r : ℕ → Place) (floor : ℕ) (j : ℕ → Record) → IsReady old v.ring r floor j → IsNextFree v.ring r floor → j v.ring.state.next ≡ rec → (s : ℕ → Place) × IsReady new w s floor j)
    → IsStored new (with_log v w (v.reached + 1)) (with_record rec g)
append_result old new v w g rec known room config state at_end is none frame reads order ok =
    let all : g.reached ≡ last_behind g = omega (arith, at_end, is.reached, is.next) in
    append_behind old new v w (pages_of v.anchor g) g rec known room config state (rest_of old v g is) is.pages.on_disk is.pages.flushed (pages_kept (config_of v) g rec v.anchor is.behind is.checkpoint.to all none) frame reads order ok

pub flush_result : (old new : Past) (v : Installation) (w : RingValue) (s : Store) (g : Behind) → Known v → HasRoom v.ring.config v.ring.state → w.config ≡ v.ring.config → w.state ≡ flushed_state v.ring.state → s ≡ with_flushed v.store (last_of v) → (is : IsStored old v g)
    → ((d : Bytes) → DiskRest new d → FramedIn old (in_log (config_of v)) d) → ReadsOutside old new (in_log (config_of v)) → (IsInOrder v.ring.config v.ring.state → IsInOrder w.config w.state)
    → ((r : ℕ → Place) (floor : ℕ) (j : ℕ → Record) → IsReady old v.ring r floor j → IsNextFree v.ring r floor → (s : ℕ → Place) × IsReady new w s floor j)
    → IsStored new (record { ring = w; store = s; anchor = v.anchor; reached = v.reached; stopped = v.stopped }) g
flush_result old new v w s g known room config state store is frame reads order ok =
    let free = room_free old v.ring is.log.places is.log.floor (record_at g) is.log.ready is.log.is_floor known.ring is.log.order room in
    let here = ring_is w v.ring.config (flushed_state v.ring.state) config state in
    subst (λ (x : RingValue). IsStored new (record { ring = x; store = s; anchor = v.anchor; reached = v.reached; stopped = v.stopped }) g) (sym here)
    (subst (λ (x : Store). IsStored new (record { ring = ring_value v.ring.config (flushed_state v.ring.state) w.gates; store = x; anchor = v.anchor; reached = v.reached; stopped = v.stopped }) g) (sym store)
    (flush_stored old new v g w.gates known is frame reads
    (subst (λ (x : RingValue). IsInOrder x.config x.state) here (order is.log.order))
    (subst (λ (x : RingValue). (r : ℕ → Place) × IsReady new x r is.log.floor (record_at g)) here (ok is.log.places is.log.floor (record_at g) is.log.ready free))))

-- the position behind the last record is the same behind a flush
pub flush_next : (s t : RingState) (n : ℕ) → length s.buffer < s.next → t ≡ flushed_state s → n ≡ t.next → n ≡ s.next
flush_next s t n long is next = next ∙ ap (λ (x : RingState). x.next) is ∙ omega (arith, (flushed_goes s long).next)

-- all is flushed then, and the store knows it
pub flush_going : (v : Installation) (w : RingValue) (s : Store) → length v.ring.state.buffer < v.ring.state.next → w.config ≡ v.ring.config → w.state ≡ flushed_state v.ring.state → s ≡ with_flushed v.store (last_of v) → IsGoing v
    → IsGoing (record { ring = w; store = s; anchor = v.anchor; reached = v.reached; stopped = v.stopped })
flush_going v w s long config state store is =
    let goes = flushed_goes v.ring.state long in
    let none : length (flushed_state v.ring.state).buffer ≡ 0 = ap length (flushed_empty v.ring.state) in
    subst (λ (x : Store). IsGoing (record { ring = w; store = x; anchor = v.anchor; reached = v.reached; stopped = v.stopped })) (sym store)
    (subst (λ (x : RingValue). IsGoing (record { ring = x; store = with_flushed v.store (last_of v); anchor = v.anchor; reached = v.reached; stopped = v.stopped })) (sym (ring_is w v.ring.config (flushed_state v.ring.state) config state)) (record {
      config = is.config;
      generation = is.generation;
      reuse = goes.reuse ∙ is.reuse;
      anchor = is.anchor;
      text = is.text;
      flushed = omega (arith, none, goes.next, long);
      reached = omega (arith, is.reached, goes.next);
      uniq = omega (arith, is.uniq, goes.uniq);
      unbacked = goes.unbacked is.unbacked;
    }))
