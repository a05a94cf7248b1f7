-- The anchor of a checkpoint, and the new generation behind it: what a stop leaves, and what stands behind both.
use Rattle.std.specs.Prelude.{replicate, slice_index_or, suc, zero, Bool, List, Some, [], false, length, ℕ, ◌+◌, ◌<◌, ◌^◌, ◌≡◌, ◌≤◌}
use Rattle.std.proofs.Common.{ap, arith, inl, inr, refl, subst, sym, ◌∙◌, ⊎_elim}
use Rattle.std.proofs.lemmas.Bool.Decides.{nat_tests}
use Rattle.ol_values.specs.Config.{Config}
use Rattle.ol_rules.specs.Ring.{Reuse}
use Rattle.ol_rules.specs.Start.{low_behind, page_behind, upto}
use Rattle.ol_ports.specs.Disk.{Bytes, Past}
use Rattle.ol_ports.specs.Disk.{Rest as DiskRest}
use Rattle.ol_ports.specs.Frames.{FramedIn, ReadsOutside}
use Rattle.ol_ports.specs.Stops.{Stops}
use Rattle.ol_ports.proofs.StopLaws.{stops_weaker, stops_with}
use Rattle.ol_physlog.specs.States.{emptied}
use Rattle.ol_reserve.proofs.PairLaws.{ready_kept}
use Rattle.ol_reserve.specs.Anchor.{IsAnchor}
use Rattle.ol_reserve.specs.Pair.{IsOneOf, IsReady, is_pair}
use Rattle.ol_reserve.specs.declared.anchor.Anchor.{Anchor}
use Rattle.ol_data_pages.specs.Places.{HasNoMark}
use Rattle.ol_log_state.specs.RingState.{with_need}
use Rattle.ol_loglog.proofs.Kept.{order_need, ready_need}
use Rattle.ol_loglog.proofs.Steps.{number_between}
use Rattle.ol_loglog.specs.RingValue.{RingValue, first_unwritten, ring_value}
use Rattle.ol_store.proofs.ApartLaws.{later_holds}
use Rattle.ol_store.specs.Holding.{HoldsPages, IsOnDisk, in_store}
use Rattle.ol_store.specs.Pages.{checkpointed}
use Rattle.ol_store.specs.Stores.{Store, checkpointed_of, with_log}
use Rattle.ol_storage.specs.Behind.{Behind, pages_of, record_at}
use Rattle.ol_storage.specs.Installation.{Installation, IsGoing, flushed, with_store, checkpoint_anchor, config_of, flushed_of, last_of, moved}
use Rattle.ol_storage.specs.Standing.{IsAnchorOf, StandsBetween, StandsFrom, first_number}
use Rattle.ol_storage.specs.Storing.{IsStored}
use Rattle.ol_storage.proofs.Agreeing.{held_agree, stored_agree}
use Rattle.ol_storage.proofs.Images.{Known, stands_wider, log_beside, next_number, number_low, pages_beside, ring_beside, stands_up_to, store_config, stored_beside}
use Rattle.ol_storage.proofs.LogSteps.{flushed_first, log_raised}
use Rattle.ol_storage.proofs.Parts.{anchor_framed, is_pair_at, log_not_pair, log_not_store, pair_not_store, store_not_pair}

-- the next anchor
abbrev pub next_anchor : Installation → ℕ → ℕ → Anchor
next_anchor v need archive = checkpoint_anchor v.anchor v.reached need archive v.ring.state.files.uniq

-- all pages as they are become those at the checkpoint
saved_next : (v : Installation) (g : Behind) (need archive : ℕ) → v.reached ≡ g.reached → (pages_of (next_anchor v need archive) g).saved ≡ (checkpointed (pages_of v.anchor g)).saved
saved_next v g need archive reached = ap (λ (n : ℕ). λ (space page : ℕ). page_behind g.start (upto g.start g.records n) space page) reached

-- an opening that finds it begins with no greater number
next_low : (v : Installation) (need archive : ℕ) → IsGoing v → first_number (next_anchor v need archive) ≤ next_number v
next_low v need archive is =
    let backed : v.anchor.backed ≡ v.ring.state.reuse.backed = sym (ap (λ (m : Reuse). m.backed) is.reuse) in
    omega (arith, backed, is.unbacked, (number_between v.ring.state.files).0)

module _ (v : Installation) (known : Known v) (g : Behind) (need archive : ℕ) (more : v.anchor.need ≤ need) (old : Past) (is : IsStored old v g) where
  -- the next anchor is that of a checkpoint
  next_anchor_of : need ≡ low_behind g.start (upto g.start g.records g.reached) → IsAnchorOf (config_of v) g (next_anchor v need archive)
  next_anchor_of least = record {
    online = is.checkpoint.online;
    text = is.checkpoint.text;
    from = omega (arith, is.reached, is.behind.from);
    to = omega (arith, is.reached);
    need = least ∙ ap (λ (n : ℕ). low_behind g.start (upto g.start g.records n)) (sym is.reached);
  }

  next_written : v.ring.state.buffer ≡ [] → v.reached < first_unwritten v.ring.state
  next_written none = omega (arith, known.going.reached, ap length none)

  -- the pages for the next generation, where all stand at their places
  later : v.store.pool.dirty ≡ [] → HasNoMark v.store.written → v.anchor.generation + 1 < 2 ^ 64 → (d : Bytes) → FramedIn old is_pair d → HoldsPages (config_of v) (v.anchor.generation + 1) (pages_of (next_anchor v need archive) g) d
  later clean synced small d f =
      held_agree (config_of v) (v.anchor.generation + 1) (checkpointed (pages_of v.anchor g)) (pages_of (next_anchor v need archive) g) d (λ space page up. up) (saved_next v g need archive is.reached)
      (subst (λ (c : Config). HoldsPages c (v.anchor.generation + 1) (checkpointed (pages_of v.anchor g)) d) known.going.config
      (later_holds v.store.config (store_config v known) (λ chunk page i. is_pair chunk page)
      (λ chunk page i in_it. store_not_pair v.store.config (store_config v known) chunk page in_it)
      v.store.pool v.store.log v.store.written (pages_of v.anchor g) known.area old (v.anchor.generation + 1) is.pages.on_disk clean synced (omega (arith, known.going.generation)) small d f))

  -- a stop within the write of the anchor, or behind it
  pub anchor_stops : (mid : Past) → need ≡ low_behind g.start (upto g.start g.records g.reached) → v.ring.state.buffer ≡ [] → v.store.pool.dirty ≡ [] → HasNoMark v.store.written → v.anchor.generation + 1 < 2 ^ 64 → Stops old mid (FramedIn old is_pair) → Stops old mid (IsOneOf (Some v.anchor) (Some (next_anchor v need archive)))
      → Stops old mid (StandsBetween (config_of v) g v.anchor (next_anchor v need archive) (flushed_of v) (flushed_of v))
  anchor_stops mid least none clean synced small frame newest =
      stops_weaker old mid _ _
      (λ d both. let log = log_beside old v g is.log is_pair (λ chunk page in_it. log_not_pair (config_of v) known.ring.config chunk page in_it) d both.0 in
      ⊎_elim
      (λ one. inl (stands_up_to (config_of v) g v.anchor is.log.floor (first_unwritten v.ring.state) (first_unwritten v.ring.state) (next_number v) d is.checkpoint is.written is.log.low (number_low v known.going) one
      (pages_beside old v (pages_of v.anchor g) known is.pages.on_disk is_pair (λ chunk page in_it. store_not_pair (config_of v) known.ring.config chunk page in_it) d both.0) log))
      (λ other. inr (stands_up_to (config_of v) g (next_anchor v need archive) is.log.floor (first_unwritten v.ring.state) (first_unwritten v.ring.state) (next_number v) d (next_anchor_of least) (next_written none) (omega (arith, is.log.low, more)) (next_low v need archive known.going) other
      (later clean synced small d both.0) log))
      both.1)
      (stops_with old mid (FramedIn old is_pair) (IsOneOf (Some v.anchor) (Some (next_anchor v need archive))) frame newest)

  -- and within the closing of the entries' gates
  pub empty_stops : (mid new : Past) → need ≡ low_behind g.start (upto g.start g.records g.reached) → v.ring.state.buffer ≡ [] → ((d : Bytes) → DiskRest mid d → FramedIn old is_pair d) → IsReady mid (Some (next_anchor v need archive)) → Stops mid new (FramedIn mid (in_store (config_of v))) → Stops mid new (HoldsPages (config_of v) (v.anchor.generation + 1) (checkpointed (pages_of v.anchor g)))
      → Stops mid new (StandsFrom (config_of v) g (next_anchor v need archive) (flushed_of v) (flushed_of v))
  empty_stops mid new least none behind ready frame holds =
      let log = ring_beside old mid v g is.log is_pair (λ chunk page in_it. log_not_pair (config_of v) known.ring.config chunk page in_it) behind in
      stops_weaker mid new _ _
      (λ d both. stands_up_to (config_of v) g (next_anchor v need archive) log.floor (first_unwritten v.ring.state) (first_unwritten v.ring.state) (next_number v) d (next_anchor_of least) (next_written none) (omega (arith, log.low, more)) (next_low v need archive known.going)
      (anchor_framed mid (next_anchor v need archive) (in_store (config_of v)) (λ chunk page pair. pair_not_store (config_of v) known.ring.config chunk page pair) ready d both.0)
      (held_agree (config_of v) (v.anchor.generation + 1) (checkpointed (pages_of v.anchor g)) (pages_of (next_anchor v need archive) g) d (λ space page up. up) (saved_next v g need archive is.reached) both.1)
      (log_beside mid v g log (in_store (config_of v)) (λ chunk page in_it. log_not_store (config_of v) known.ring.config chunk page in_it) d both.0))
      (stops_with mid new (FramedIn mid (in_store (config_of v))) (HoldsPages (config_of v) (v.anchor.generation + 1) (checkpointed (pages_of v.anchor g))) frame holds)

  -- the pages stand as they did, behind the anchor
  pub pages_behind : (mid : Past) → ((d : Bytes) → DiskRest mid d → FramedIn old is_pair d) → ReadsOutside old mid is_pair → IsOnDisk mid v.store (pages_of v.anchor g)
  pages_behind mid behind reads = stored_beside old mid v (pages_of v.anchor g) known is_pair (λ chunk page in_it. store_not_pair (config_of v) known.ring.config chunk page in_it) behind reads is.pages.on_disk

  -- behind both
  pub moved_stored : (mid new : Past) → need ≡ low_behind g.start (upto g.start g.records g.reached) → v.ring.state.buffer ≡ [] → ((d : Bytes) → DiskRest mid d → FramedIn old is_pair d) → IsReady mid (Some (next_anchor v need archive)) → ((d : Bytes) → DiskRest new d → FramedIn mid (in_store (config_of v)) d)
      → IsOnDisk new (with_log v.store (emptied v.store.log (v.anchor.generation + 1))) (checkpointed (pages_of v.anchor g)) → IsStored new (moved v need archive) g
  moved_stored mid new least none behind ready frame on_disk =
      let middle = ring_beside old mid v g is.log is_pair (λ chunk page in_it. log_not_pair (config_of v) known.ring.config chunk page in_it) behind in
      let log = ring_beside mid new v g middle (in_store (config_of v)) (λ chunk page in_it. log_not_store (config_of v) known.ring.config chunk page in_it) frame in
      record {
        going = is.going;
        behind = is.behind;
        reached = is.reached;
        next = is.next;
        checkpoint = next_anchor_of least;
        written = next_written none;
        anchor = ready_kept mid new (in_store (config_of v)) (Some (next_anchor v need archive)) (λ page below. pair_not_store (config_of v) known.ring.config 0 page (is_pair_at page below)) frame ready;
        log = log_raised new v (moved v need archive) g log.floor log.places (omega (arith, log.low, more)) refl (ready_need new v.ring log.places log.floor need (record_at g) log.ready) (order_need v.ring.config v.ring.state need log.order);
        pages = record {
          on_disk = stored_agree new v.store.config v.store.pool (emptied v.store.log (v.anchor.generation + 1)) v.store.written (checkpointed (pages_of v.anchor g)) (pages_of (next_anchor v need archive) g)
              (record { up = λ space page up. up; now = λ space page up. refl; saved = saved_next v g need archive is.reached }) on_disk;
          flushed = is.pages.flushed;
        };
      }

pub moved_going : (v : Installation) (need archive : ℕ) → IsAnchor (next_anchor v need archive) → IsGoing v → IsGoing (moved v need archive)
moved_going v need archive anchor is = record {
  config = is.config;
  generation = refl;
  reuse = ap (λ (m : Reuse). let r : Reuse = record { backed = m.backed; need = need } in r) is.reuse;
  anchor = anchor;
  text = is.text;
  flushed = is.flushed;
  reached = is.reached;
  uniq = omega arith;
  unbacked = is.unbacked;
}

-- numbers that stay within limits make an anchor again
pub next_is_anchor : (a : Anchor) (position need archive uniq : ℕ) → a.serial < 2 ^ 62 → a.generation < 2 ^ 62 → position ≤ 2 ^ 62 → need ≤ 2 ^ 62 → archive ≤ 2 ^ 62 → uniq ≤ 2 ^ 62 → IsAnchor a → IsAnchor (checkpoint_anchor a position need archive uniq)
next_is_anchor a position need archive uniq serial generation at least named number is = record {
  state = is.state;
  numbers = grind (arith, nat_tests, serial, generation, at, least, named, number, is.numbers);
  downs = is.downs;
  zeros = is.zeros;
  ones = is.ones;
  down_at = is.down_at;
  configured = is.configured;
  each = is.each;
  short = is.short;
}

pub moved_is : (v : Installation) (need archive uniq : ℕ) (ring : RingValue) (store : Store) → ring ≡ ring_value v.ring.config (with_need need v.ring.state) v.ring.gates → store ≡ with_log v.store (emptied v.store.log (v.anchor.generation + 1)) → uniq ≡ v.ring.state.files.uniq
    → (let x : Installation = record { ring = ring; store = store; anchor = checkpoint_anchor v.anchor v.reached need archive uniq; reached = v.reached; stopped = v.stopped } in x ≡ moved v need archive)
moved_is v need archive uniq ring store one two three =
    ap (λ (r : RingValue). let x : Installation = record { ring = r; store = store; anchor = checkpoint_anchor v.anchor v.reached need archive uniq; reached = v.reached; stopped = v.stopped } in x) one
    ∙ ap (λ (s : Store). let x : Installation = record { ring = ring_value v.ring.config (with_need need v.ring.state) v.ring.gates; store = s; anchor = checkpoint_anchor v.anchor v.reached need archive uniq; reached = v.reached; stopped = v.stopped } in x) two
    ∙ ap (λ (n : ℕ). let x : Installation = record { ring = ring_value v.ring.config (with_need need v.ring.state) v.ring.gates; store = with_log v.store (emptied v.store.log (v.anchor.generation + 1)); anchor = checkpoint_anchor v.anchor v.reached need archive n; reached = v.reached; stopped = v.stopped } in x) three

-- ---- a whole checkpoint

no_mark : (n chunk : ℕ) → slice_index_or (replicate n false) chunk false ≡ false
no_mark zero chunk = refl
no_mark (suc n) zero = refl
no_mark (suc n) (suc chunk) = no_mark n chunk

pub none_marked : (v : Installation) (s : Store) → v.store ≡ checkpointed_of s → HasNoMark v.store.written
none_marked v s is chunk = ap (λ (t : Store). slice_index_or t.written chunk false) is ∙ no_mark 31 chunk

-- what a stop leaves behind the flush and the pages, said of the state before
pub moved_wider : (v w : Installation) (t : Store) (gates : List Bool) (need archive : ℕ) (g : Behind) (d : Bytes) → w ≡ with_store (flushed v gates) t → StandsBetween (config_of w) g w.anchor (moved w need archive).anchor (flushed_of w) (flushed_of w) d
    → StandsBetween (config_of v) g v.anchor (moved (with_store (flushed v gates) t) need archive).anchor (flushed_of v) (last_of v) d
moved_wider v w t gates need archive g d is s =
    let u = with_store (flushed v gates) t in
    let from : flushed_of v ≤ flushed_of u = omega (arith, (flushed_first v.ring.state).0) in
    let to : flushed_of u ≤ last_of v = omega (arith, (flushed_first v.ring.state).1) in
    ⊎_elim
    (λ one. inl (stands_wider (config_of v) g v.anchor (flushed_of u) (flushed_of u) (flushed_of v) (last_of v) d from to one))
    (λ other. inr (stands_wider (config_of v) g (moved u need archive).anchor (flushed_of u) (flushed_of u) (flushed_of v) (last_of v) d from to other))
    (subst (λ (x : Installation). StandsBetween (config_of x) g x.anchor (moved x need archive).anchor (flushed_of x) (flushed_of x) d) is s)
