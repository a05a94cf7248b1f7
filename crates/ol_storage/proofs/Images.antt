-- What a stop leaves within the calls on one part of the disk, beside what the other parts hold.
use Rattle.std.specs.Prelude.{Bool, Some, false, true, ℕ, ◌-◌, ◌<◌, ◌≡◌, ◌≤◌}
use Rattle.std.proofs.Common.{ap, arith, subst, sym, ◌∙◌}
use Rattle.ol_values.specs.Config.{Config}
use Rattle.ol_values.specs.declared.record.Record.{Record}
use Rattle.ol_rules.specs.Ring.{Reuse}
use Rattle.ol_chunks.specs.Limits.{IsConfig}
use Rattle.ol_chunks.specs.Places.{physical_area}
use Rattle.ol_ports.specs.Disk.{Bytes, Past, Rest}
use Rattle.ol_ports.specs.Frames.{FramedIn, ReadsOutside}
use Rattle.ol_ports.specs.Stops.{Stops}
use Rattle.ol_ports.proofs.StopLaws.{stops_weaker, stops_with}
use Rattle.ol_reserve.specs.Pair.{IsReady, Newest}
use Rattle.ol_reserve.specs.declared.anchor.Anchor.{Anchor}
use Rattle.ol_log_places.proofs.Files.{holds_none}
use Rattle.ol_log_places.proofs.WriteLaws.{others_shown}
use Rattle.ol_log_places.specs.Places.{Place, in_log, places}
use Rattle.ol_log_places.specs.Runs.{HoldsLog, IsLogged}
use Rattle.ol_log_state.specs.Files.{next_page}
use Rattle.ol_loglog.proofs.Kept.{ready_elsewhere}
use Rattle.ol_loglog.proofs.Readies.{near_next}
use Rattle.ol_loglog.proofs.Steps.{number_between}
use Rattle.ol_loglog.specs.RingValue.{IsLogRing, first_unwritten}
use Rattle.ol_store.proofs.ApartLaws.{framed_holds, stored_apart}
use Rattle.ol_store.specs.Holding.{HoldsPages, IsOnDisk, in_store}
use Rattle.ol_store.specs.Pages.{Pages}
use Rattle.ol_storage.specs.Behind.{Behind, pages_of, record_at}
use Rattle.ol_storage.specs.Installation.{Installation, IsGoing, config_of, flushed_of, last_of}
use Rattle.ol_storage.specs.Standing.{IsAnchorOf, StandsFrom, first_number}
use Rattle.ol_storage.specs.Storing.{IsLogStored}
use Rattle.ol_storage.proofs.Parts.{anchor_framed, log_not_store, pair_not_log, pair_not_store}

-- what is known of an installation in a call, by the types of its parts
pub record Known (v : Installation) : Type 0 where
  pub going : IsGoing v
  pub ring : IsLogRing v.ring
  pub area : v.store.log.area ≡ physical_area v.store.config

-- its store is of a configuration
pub store_config : (v : Installation) → Known v → IsConfig v.store.config
store_config v known = subst IsConfig (sym known.going.config) known.ring.config

-- a higher need asks for less of the log
pub logged_higher : (c : Config) (r : ℕ → Place) (j : ℕ → Record) (need higher upto : ℕ) → need ≤ higher → IsLogged c r j need upto → IsLogged c r j higher upto
logged_higher c r j need higher upto le l = record {
  orderly = l.orderly;
  covers = record { each = λ position from to. l.covers.each position (omega (arith, from, le)) to; last = l.covers.last };
  agrees = l.agrees;
  one_use = l.one_use;
  order = l.order;
}

-- ---- the pages beside

-- calls on another part leave the pages as a stop leaves them
pub pages_beside : (past : Past) (v : Installation) (w : Pages) → Known v → IsOnDisk past v.store w → (is_part : ℕ → ℕ → Bool) → ((chunk page : ℕ) → in_store (config_of v) chunk page ≡ true → is_part chunk page ≡ false) → (d : Bytes) → FramedIn past is_part d
    → HoldsPages (config_of v) v.anchor.generation w d
pages_beside past v w known h is_part apart d f =
    subst (λ (c : Config). HoldsPages c v.anchor.generation w d) known.going.config
    (subst (λ (n : ℕ). HoldsPages v.store.config n w d) known.going.generation
    (framed_holds v.store.config (store_config v known) (λ chunk page i. is_part chunk page)
    (λ chunk page i in_it. apart chunk page (subst (λ (c : Config). in_store c chunk page ≡ true) known.going.config in_it))
    v.store.pool v.store.log v.store.written w known.area past h d f))

-- and between calls
pub stored_beside : (old new : Past) (v : Installation) (w : Pages) → Known v → (is_part : ℕ → ℕ → Bool) → ((chunk page : ℕ) → in_store (config_of v) chunk page ≡ true → is_part chunk page ≡ false)
    → ((d : Bytes) → Rest new d → FramedIn old is_part d) → ReadsOutside old new is_part → IsOnDisk old v.store w → IsOnDisk new v.store w
stored_beside old new v w known is_part apart frame reads h =
    stored_apart v.store.config (store_config v known) (λ chunk page i. is_part chunk page)
    (λ chunk page i in_it. apart chunk page (subst (λ (c : Config). in_store c chunk page ≡ true) known.going.config in_it))
    v.store.pool v.store.log v.store.written w known.area old new frame reads h

-- ---- the log beside

-- the unique number of the next page
abbrev pub next_number : Installation → ℕ
next_number v = (next_page v.ring.state.files).uniq

-- an opening begins with that number or a lower one
pub number_low : (v : Installation) → IsGoing v → first_number v.anchor ≤ next_number v
number_low v is =
    let backed : v.anchor.backed ≡ v.ring.state.reuse.backed = sym (ap (λ (m : Reuse). m.backed) is.reuse) in
    omega (arith, backed, is.uniq, is.unbacked, (number_between v.ring.state.files).0)

-- calls on another part leave the log as a stop leaves it
pub log_beside : (past : Past) (v : Installation) (g : Behind) (l : IsLogStored past v g) → (is_part : ℕ → ℕ → Bool) → ((chunk page : ℕ) → in_log (config_of v) chunk page ≡ true → is_part chunk page ≡ false) → (d : Bytes) → FramedIn past is_part d
    → HoldsLog (config_of v) (record_at g) l.floor (first_unwritten v.ring.state) (first_unwritten v.ring.state) (next_number v) d
log_beside past v g l is_part apart d f =
    holds_none (config_of v) l.places (record_at g) l.floor (first_unwritten v.ring.state) (next_number v) d l.ready.logged (near_next _ v.ring.config v.ring.state v.ring.gates past l.places l.floor (record_at g) l.ready)
    (others_shown past (config_of v) l.places (λ chunk page i. is_part chunk page) d (λ chunk page i in_it. apart chunk page in_it) l.ready.placed f)

-- and between calls
pub ring_beside : (old new : Past) (v : Installation) (g : Behind) (l : IsLogStored old v g) → (is_part : ℕ → ℕ → Bool) → ((chunk page : ℕ) → in_log (config_of v) chunk page ≡ true → is_part chunk page ≡ false)
    → ((d : Bytes) → Rest new d → FramedIn old is_part d) → IsLogStored new v g
ring_beside old new v g l is_part apart frame = record {
  places = l.places;
  floor = l.floor;
  low = l.low;
  is_floor = l.is_floor;
  ready = ready_elsewhere old new v.ring l.places l.floor (record_at g) (record { each = λ d rest. others_shown old (config_of v) l.places (λ chunk page i. is_part chunk page) d (λ chunk page i in_it. apart chunk page in_it) l.ready.placed (frame d rest) }) l.ready;
  order = l.order;
}

-- ---- the log's own calls, and those of the store

-- an image that holds the log up to some position stands for the records up to that
pub stands_up_to : (c : Config) (g : Behind) (a : Anchor) (floor from to uniq : ℕ) (d : Bytes) → IsAnchorOf c g a → a.position < from → floor ≤ a.need → first_number a ≤ uniq → Newest d (Some a) → HoldsPages c a.generation (pages_of a g) d → HoldsLog c (record_at g) floor from to uniq d → StandsFrom c g a (from - 1) (to - 1) d
stands_up_to c g a floor from to uniq d checkpoint written low below newest pages h = record {
  last = h.upto - 1;
  from = omega (arith, h.from);
  to = omega (arith, h.to);
  stands = record {
    newest = newest;
    checkpoint = checkpoint;
    position = omega (arith, written, h.from);
    pages = pages;
    log = subst (λ (n : ℕ). IsLogged c (places c d) (record_at g) a.need n) (omega (arith, written, h.from)) (logged_higher c (places c d) (record_at g) floor a.need h.upto low h.logged);
    near = λ p stands ends. omega (arith, below, h.near p stands (ends ∙ omega (arith, written, h.from)));
  };
}

-- a later last position, a lesser first
pub stands_wider : (c : Config) (g : Behind) (a : Anchor) (from to from2 to2 : ℕ) (d : Bytes) → from2 ≤ from → to ≤ to2 → StandsFrom c g a from to d → StandsFrom c g a from2 to2 d
stands_wider c g a from to from2 to2 d low high s = record { last = s.last; from = omega (arith, s.from, low); to = omega (arith, s.to, high); stands = s.stands }

module _ (v : Installation) (going : IsGoing v) (config : IsConfig (config_of v)) (old new : Past) (g : Behind) (ready : IsReady old (Some v.anchor)) (l : IsLogStored old v g) (checkpoint : IsAnchorOf (config_of v) g v.anchor) (written : v.anchor.position < first_unwritten v.ring.state) where
  pub log_stops : ((d : Bytes) → FramedIn old (in_log (config_of v)) d → HoldsPages (config_of v) v.anchor.generation (pages_of v.anchor g) d) → Stops old new (FramedIn old (in_log (config_of v)))
      → Stops old new (HoldsLog (config_of v) (record_at g) l.floor (first_unwritten v.ring.state) v.ring.state.next (next_number v)) → Stops old new (StandsFrom (config_of v) g v.anchor (flushed_of v) (last_of v))
  log_stops pages frame holds =
      stops_weaker old new _ _
      (λ d both. stands_up_to (config_of v) g v.anchor l.floor (first_unwritten v.ring.state) v.ring.state.next (next_number v) d checkpoint written l.low (number_low v going)
      (anchor_framed old v.anchor (in_log (config_of v)) (λ chunk page pair. pair_not_log (config_of v) config chunk page pair) ready d both.0)
      (pages d both.0)
      both.1)
      (stops_with old new (FramedIn old (in_log (config_of v))) (HoldsLog (config_of v) (record_at g) l.floor (first_unwritten v.ring.state) v.ring.state.next (next_number v)) frame holds)

  pub store_stops : Stops old new (FramedIn old (in_store (config_of v))) → Stops old new (HoldsPages (config_of v) v.anchor.generation (pages_of v.anchor g))
      → Stops old new (StandsFrom (config_of v) g v.anchor (flushed_of v) (flushed_of v))
  store_stops frame holds =
      stops_weaker old new _ _
      (λ d both. stands_up_to (config_of v) g v.anchor l.floor (first_unwritten v.ring.state) (first_unwritten v.ring.state) (next_number v) d checkpoint written l.low (number_low v going)
      (anchor_framed old v.anchor (in_store (config_of v)) (λ chunk page pair. pair_not_store (config_of v) config chunk page pair) ready d both.0)
      both.1
      (log_beside old v g l (in_store (config_of v)) (λ chunk page in_it. log_not_store (config_of v) config chunk page in_it) d both.0))
      (stops_with old new (FramedIn old (in_store (config_of v))) (HoldsPages (config_of v) v.anchor.generation (pages_of v.anchor g)) frame holds)
