-- An anchor that is written at the same checkpoint: another lasting state, or more that is backed up.
use Rattle.std.specs.Prelude.{None, Option, Some, List, Bool, option_map, true, ℕ, ◌-◌, ◌+◌, ◌<◌, ◌^◌, ◌≡◌, ◌≤◌}
use Rattle.std.proofs.Common.{ap, arith, inl, inr, refl, subst, sym, ◌∙◌, ⊎_elim}
use Rattle.std.proofs.lemmas.Bool.Decides.{nat_tests}
use Rattle.ol_values.specs.Config.{Config}
use Rattle.ol_rules.specs.Ring.{Reuse, Use}
use Rattle.ol_rules.specs.Start.{low_behind, page_behind, upto}
use Rattle.ol_ports.specs.Disk.{Bytes, Past}
use Rattle.ol_ports.specs.Disk.{Rest as DiskRest}
use Rattle.ol_ports.specs.Frames.{FramedIn, ReadsOutside}
use Rattle.ol_ports.specs.Stops.{Stops}
use Rattle.ol_ports.proofs.StopLaws.{stops_weaker, stops_with}
use Rattle.ol_reserve.specs.Anchor.{IsAnchor}
use Rattle.ol_reserve.specs.Pair.{IsOneOf, IsReady, is_pair}
use Rattle.ol_reserve.specs.declared.anchor.Anchor.{Anchor}
use Rattle.ol_log_state.specs.Files.{next_page, told_use}
use Rattle.ol_log_state.specs.declared.places.Use.{Use as ToldUse}
use Rattle.ol_log_state.specs.RingState.{with_backed}
use Rattle.ol_loglog.proofs.Kept.{order_backed, ready_backed}
use Rattle.ol_loglog.proofs.Steps.{number_between}
use Rattle.ol_loglog.specs.RingValue.{RingValue, first_unwritten, ring_value}
use Rattle.ol_store.specs.Holding.{HoldsPages}
use Rattle.ol_storage.specs.declared.lasting.Lasting.{Lasting}
use Rattle.ol_storage.specs.Behind.{Behind, is_up, pages_of, record_at}
use Rattle.ol_storage.specs.Installation.{Installation, IsGoing, backed_anchor, backed_up, config_of, flushed_of, lasting_anchor, with_anchor, with_ring}
use Rattle.ol_storage.specs.Standing.{IsAnchorOf, StandsBetween, first_number}
use Rattle.ol_storage.specs.Storing.{IsStored}
use Rattle.ol_storage.proofs.Agreeing.{Agree, flushed_agree, held_agree, stored_agree}
use Rattle.ol_storage.proofs.Images.{Known, log_beside, next_number, number_low, pages_beside, ring_beside, stands_up_to, stored_beside}
use Rattle.ol_storage.proofs.Parts.{log_not_pair, store_not_pair}

-- an anchor of the same checkpoint
pub record IsAtCheckpoint (a b : Anchor) : Type 0 where
  pub state : b.state ≡ a.state
  pub text : b.text ≡ a.text
  pub position : b.position ≡ a.position
  pub need : b.need ≡ a.need
  pub generation : b.generation ≡ a.generation

pub lasting_is_at : (a : Anchor) (l : Lasting) (uniq : ℕ) → IsAtCheckpoint a (lasting_anchor a l uniq)
lasting_is_at a l uniq = record { state = refl; text = refl; position = refl; need = refl; generation = refl }

pub backed_is_at : (a : Anchor) (backed uniq : ℕ) → IsAtCheckpoint a (backed_anchor a backed uniq)
backed_is_at a backed uniq = record { state = refl; text = refl; position = refl; need = refl; generation = refl }

-- an opening that finds the one begins with no greater number than the next page's
pub lasting_low : (v : Installation) (l : Lasting) → IsGoing v → first_number (lasting_anchor v.anchor l v.ring.state.files.uniq) ≤ next_number v
lasting_low v l is =
    let backed : v.anchor.backed ≡ v.ring.state.reuse.backed = sym (ap (λ (m : Reuse). m.backed) is.reuse) in
    omega (arith, backed, is.unbacked, (number_between v.ring.state.files).0)

-- and so of the other
pub backed_low : (v : Installation) (backed : ℕ) → backed < next_number v → first_number (backed_anchor v.anchor backed v.ring.state.files.uniq) ≤ next_number v
backed_low v backed below = omega (arith, below, (number_between v.ring.state.files).0)

-- pages that are up by both are the same
pages_agree : (c : Config) (g : Behind) (a b : Anchor) → IsAtCheckpoint a b → ((space : ℕ) → is_up b space ≡ true → is_up a space ≡ true) → Agree c (pages_of a g) (pages_of b g)
pages_agree c g a b same fewer = record {
  up = λ space page up. (fewer space up.0, up.1);
  now = λ space page up. refl;
  saved = ap (λ (n : ℕ). λ (space page : ℕ). page_behind g.start (upto g.start g.records n) space page) same.position;
}

module _ (v : Installation) (known : Known v) (g : Behind) (b : Anchor) (same : IsAtCheckpoint v.anchor b) (fewer : (space : ℕ) → is_up b space ≡ true → is_up v.anchor space ≡ true) (old : Past) (is : IsStored old v g) where
  put_anchor_of : IsAnchorOf (config_of v) g b
  put_anchor_of = record {
    online = same.state ∙ is.checkpoint.online;
    text = same.text ∙ is.checkpoint.text;
    from = omega (arith, is.checkpoint.from, same.position);
    to = omega (arith, is.checkpoint.to, same.position);
    need = same.need ∙ is.checkpoint.need ∙ ap (λ (n : ℕ). low_behind g.start (upto g.start g.records n)) (sym same.position);
  }

  put_written : b.position < first_unwritten v.ring.state
  put_written = omega (arith, is.written, same.position)

  held : (d : Bytes) → FramedIn old is_pair d → HoldsPages (config_of v) b.generation (pages_of b g) d
  held d f =
      let agree = pages_agree (config_of v) g v.anchor b same fewer in
      subst (λ (n : ℕ). HoldsPages (config_of v) n (pages_of b g) d) (sym same.generation)
      (held_agree (config_of v) v.anchor.generation (pages_of v.anchor g) (pages_of b g) d agree.up agree.saved
      (pages_beside old v (pages_of v.anchor g) known is.pages.on_disk is_pair (λ chunk page in_it. store_not_pair (config_of v) known.ring.config chunk page in_it) d f))

  -- a stop within the write, or behind it
  pub put_stops : (new : Past) → first_number b ≤ next_number v → Stops old new (FramedIn old is_pair) → Stops old new (IsOneOf (Some v.anchor) (Some b)) → Stops old new (StandsBetween (config_of v) g v.anchor b (flushed_of v) (flushed_of v))
  put_stops new low frame newest =
      stops_weaker old new _ _
      (λ d both. let log = log_beside old v g is.log is_pair (λ chunk page in_it. log_not_pair (config_of v) known.ring.config chunk page in_it) d both.0 in
      ⊎_elim
      (λ one. inl (stands_up_to (config_of v) g v.anchor is.log.floor (first_unwritten v.ring.state) (first_unwritten v.ring.state) (next_number v) d is.checkpoint is.written is.log.low (number_low v known.going) one
      (pages_beside old v (pages_of v.anchor g) known is.pages.on_disk is_pair (λ chunk page in_it. store_not_pair (config_of v) known.ring.config chunk page in_it) d both.0) log))
      (λ other. inr (stands_up_to (config_of v) g b is.log.floor (first_unwritten v.ring.state) (first_unwritten v.ring.state) (next_number v) d put_anchor_of put_written (omega (arith, is.log.low, same.need)) low other (held d both.0) log))
      both.1)
      (stops_with old new (FramedIn old is_pair) (IsOneOf (Some v.anchor) (Some b)) frame newest)

  -- behind it
  pub put_stored : (new : Past) → ((d : Bytes) → DiskRest new d → FramedIn old is_pair d) → ReadsOutside old new is_pair → IsReady new (Some b) → IsStored new (with_anchor v b) g
  put_stored new frame reads ready =
      let log = ring_beside old new v g is.log is_pair (λ chunk page in_it. log_not_pair (config_of v) known.ring.config chunk page in_it) frame in
      let agree = pages_agree v.store.config g v.anchor b same fewer in
      record {
        going = is.going;
        behind = is.behind;
        reached = is.reached;
        next = is.next;
        checkpoint = put_anchor_of;
        written = put_written;
        anchor = ready;
        log = record { places = log.places; floor = log.floor; low = omega (arith, log.low, same.need); is_floor = log.is_floor; ready = log.ready; order = log.order };
        pages = record {
          on_disk = stored_agree new v.store.config v.store.pool v.store.log v.store.written (pages_of v.anchor g) (pages_of b g) agree
              (stored_beside old new v (pages_of v.anchor g) known is_pair (λ chunk page in_it. store_not_pair (config_of v) known.ring.config chunk page in_it) frame reads is.pages.on_disk);
          flushed = flushed_agree v.store (pages_of v.anchor g) (pages_of b g) agree is.pages.flushed;
        };
      }

-- the ring is told of what is backed up
pub backed_stored : (past : Past) (v : Installation) (g : Behind) (uniq : ℕ) → IsStored past v g → IsStored past (with_ring v (with_backed uniq v.ring.state) v.ring.gates) g
backed_stored past v g uniq is = record {
  going = is.going;
  behind = is.behind;
  reached = is.reached;
  next = is.next;
  checkpoint = is.checkpoint;
  written = is.written;
  anchor = is.anchor;
  log = record { places = is.log.places; floor = is.log.floor; low = is.log.low; is_floor = is.log.is_floor; ready = ready_backed past v.ring is.log.places is.log.floor uniq (record_at g) is.log.ready; order = order_backed (config_of v) v.ring.state uniq is.log.order };
  pages = record { on_disk = is.pages.on_disk; flushed = is.pages.flushed };
}

-- the use that is told has the number of that to be backed up
pub told_number : (o : Option Use) (t : ToldUse) → option_map told_use o ≡ Some t → Some t.uniq ≡ option_map (λ (u : Use). u.uniq) o
told_number None t is = absurd (let clash : None ≡ Some t = is in cc)
told_number (Some u) t is = let x = told_use u in let same : x ≡ t = cc in ap (λ (y : ToldUse). Some y.uniq) (sym same)

-- ---- what is always so

-- numbers that stay within limits make an anchor again
pub backed_is_anchor : (a : Anchor) (backed uniq : ℕ) → a.serial < 2 ^ 62 → backed ≤ 2 ^ 62 → uniq ≤ 2 ^ 62 → IsAnchor a → IsAnchor (backed_anchor a backed uniq)
backed_is_anchor a backed uniq serial least number is = record {
  state = is.state;
  numbers = grind (arith, nat_tests, serial, least, number, is.numbers);
  downs = is.downs;
  zeros = is.zeros;
  ones = is.ones;
  down_at = is.down_at;
  configured = is.configured;
  each = is.each;
  short = is.short;
}

pub backed_going : (v : Installation) (uniq : ℕ) → uniq < next_number v → IsAnchor (backed_anchor v.anchor uniq v.ring.state.files.uniq) → IsGoing v → IsGoing (backed_up v uniq)
backed_going v uniq below anchor is = record {
  config = is.config;
  generation = is.generation;
  reuse = ap (λ (m : Reuse). let r : Reuse = record { backed = uniq; need = m.need } in r) is.reuse;
  anchor = anchor;
  text = is.text;
  flushed = is.flushed;
  reached = is.reached;
  uniq = omega arith;
  unbacked = below;
}

pub backed_is : (v : Installation) (backed uniq : ℕ) (ring : RingValue) → ring ≡ ring_value v.ring.config (with_backed backed v.ring.state) v.ring.gates → uniq ≡ v.ring.state.files.uniq
    → (let x : Installation = record { ring = ring; store = v.store; anchor = backed_anchor v.anchor backed uniq; reached = v.reached; stopped = v.stopped } in x ≡ backed_up v backed)
backed_is v backed uniq ring one two =
    ap (λ (r : RingValue). let x : Installation = record { ring = r; store = v.store; anchor = backed_anchor v.anchor backed uniq; reached = v.reached; stopped = v.stopped } in x) one
    ∙ ap (λ (n : ℕ). let x : Installation = record { ring = ring_value v.ring.config (with_backed backed v.ring.state) v.ring.gates; store = v.store; anchor = backed_anchor v.anchor backed n; reached = v.reached; stopped = v.stopped } in x) two
