-- The parts of an opened disk, joined: what the storage asks for, and that it stands on its disk.
use Rattle.std.specs.Prelude.{Bool, List, Some, length, min, true, ℕ, ◌+◌, ◌-◌, ◌<◌, ◌≡◌, ◌≤◌}
use Rattle.std.proofs.Common.{ap, arith, refl, subst, sym, ◌∙◌}
use Rattle.ol_values.specs.Config.{Config, config_text}
use Rattle.ol_values.specs.Image.{IsDataPage}
use Rattle.ol_values.specs.Pages.{Page}
use Rattle.ol_values.specs.declared.record.Record.{Record}
use Rattle.ol_rules.specs.Ring.{Reuse}
use Rattle.ol_rules.specs.Start.{page_behind, upto}
use Rattle.ol_anchor_opening.specs.Opening.{IsNewestRead, IsOnline}
use Rattle.ol_chunks.specs.Limits.{IsConfig}
use Rattle.ol_chunks.specs.Places.{is_in}
use Rattle.ol_chunks.specs.Places.Part.{Data}
use Rattle.ol_log_opening.specs.Opened.{IsOpenedLog}
use Rattle.ol_log_places.proofs.WriteLaws.{others_shown}
use Rattle.ol_log_places.specs.Places.{IsPlaced, in_log, places}
use Rattle.ol_log_places.specs.Runs.{IsLogged, IsNear}
use Rattle.ol_loglog.proofs.Kept.{ready_elsewhere}
use Rattle.ol_loglog.specs.Ready.{IsInOrder}
use Rattle.ol_loglog.specs.Ready.{IsReady as IsRingReady}
use Rattle.ol_loglog.specs.RingValue.{RingValue, first_unwritten}
use Rattle.ol_page_opening.specs.Opening.{AreSaved, IsOpened}
use Rattle.ol_ports.specs.Disk.{Bytes, Past, Rest, seen}
use Rattle.ol_ports.specs.Frames.{FramedIn, IsQuiet}
use Rattle.ol_ports.specs.Stops.{Stops}
use Rattle.ol_ports.proofs.FrameLaws.{framed_none}
use Rattle.ol_ports.proofs.StopLaws.{stops_none}
use Rattle.ol_reserve.proofs.PairLaws.{ready_kept}
use Rattle.ol_reserve.specs.Pair.{Newest, there}
use Rattle.ol_reserve.specs.declared.anchor.Anchor.{Anchor}
use Rattle.ol_store.specs.Holding.{HoldsPages, IsOnDisk}
use Rattle.ol_store.specs.Pages.{IsUp, Pages}
use Rattle.ol_store.specs.Stores.{Store}
use Rattle.ol_storage.proofs.Parts.{is_pair_at}
use Rattle.ol_storage.specs.Behind.{Behind, last_of, pages_of, record_at}
use Rattle.ol_storage.specs.Installation.{Installation, IsGoing, config_of}
use Rattle.ol_storage.specs.Standing.{IsAnchorOf, Stands, first_number}
use Rattle.ol_storage.specs.Storing.{IsStored}
use Rattle.ol_opening.proofs.Anchors.{anchor_is, config_is}
use Rattle.ol_opening.proofs.Images.{log_not_data, pair_not_data, pair_ready, stands_stops}
use Rattle.ol_opening.specs.Opening.{IsLeft, IsOpenedOn, IsStoredOf, begun}
use Rattle.ol_opening.specs.declared.opening.Parts.{Parts}

-- ---- what the storage asks for

-- nothing is buffered, so all records are written
pub all_written : (t : Config) (x : Anchor) (r : RingValue) → IsOpenedLog t x r → first_unwritten r.state ≡ r.state.next
all_written t x r opened = let none : length r.state.buffer ≡ 0 = ap (λ (l : List Record). length l) opened.buffer in omega (arith, none)

pub opened_going : (sizes : ℕ → ℕ) (v : Installation) → IsOpenedOn sizes v → IsGoing v
opened_going sizes v o =
    let written = all_written (config_of v) v.anchor v.ring o.ring in
    record {
      config = ap (λ (s : Store). s.config) o.flushed ∙ o.pages.config;
      generation = ap (λ (s : Store). s.log.generation) o.flushed ∙ o.pages.generation;
      reuse = o.ring.reuse;
      anchor = o.online.anchor;
      text = o.online.text;
      flushed = (let at : v.store.flushed ≡ v.ring.state.next - 1 = ap (λ (s : Store). s.flushed) o.flushed in omega (arith, at, written, o.ring.position));
      reached = omega (arith, o.reached, o.ring.position);
      uniq = o.ring.uniq;
      unbacked = o.ring.unbacked;
    }

pub opened_stamps : (sizes : ℕ → ℕ) (v : Installation) → IsOpenedOn sizes v → v.store.last < v.ring.state.next
opened_stamps sizes v o = let last : v.store.last ≡ 0 = ap (λ (s : Store). s.last) o.flushed ∙ o.pages.last in omega (arith, last, o.ring.position)

-- the parts are what was opened
pub parts_opened : (sizes : ℕ → ℕ) (t : Config) (p : Parts) → IsOnline sizes p.anchor t → IsOpenedLog t p.anchor p.ring → IsOpened t p.anchor.generation p.store → IsOpenedOn sizes (begun p)
parts_opened sizes t p online ring store = record {
  online = subst (λ (c : Config). IsOnline sizes p.anchor c) (sym ring.config) online;
  ring = subst (λ (c : Config). IsOpenedLog c p.anchor p.ring) (sym ring.config) ring;
  store = p.store;
  pages = subst (λ (c : Config). IsOpened c p.anchor.generation p.store) (sym ring.config) store;
  flushed = refl;
  reached = refl;
  going = refl;
}

-- ---- it stands on its disk

-- what a stop left is said of the anchor and the configuration that are read
pub left_read : (sizes : ℕ → ℕ) (d : Bytes) (x a : Anchor) (t c : Config) (g : Behind) → IsOnline sizes x t → IsNewestRead (there sizes d) d x → IsLeft c g a d → (x ≡ a) × (t ≡ c) × IsLeft t g x d
left_read sizes d x a t c g online read left =
    let same : x ≡ a = anchor_is sizes d x a read left.stands.newest in
    let config : t ≡ c = config_is sizes x c t left.config online (ap (λ (b : Anchor). b.text) same ∙ left.stands.checkpoint.text) in
    (same, config, subst (λ (b : Anchor). IsLeft t g b d) (sym same) (subst (λ (k : Config). IsLeft k g a d) (sym config) left))

module _ (t : Config) (g : Behind) (x : Anchor) (old : Past) (left : IsLeft t g x (seen old)) where
  -- the pages are as at the checkpoint
  now_saved : (space page : ℕ) → (pages_of x g).now space page ≡ (pages_of x g).saved space page
  now_saved space page = ap (λ (n : ℕ). page_behind g.start (upto g.start g.records n) space page) left.reached

  pub left_saved : AreSaved t (pages_of x g)
  left_saved = record {
    same = λ space page up. now_saved space page;
    pages = λ space page up. subst IsDataPage (sym (now_saved space page)) (left.pages space page up);
  }

  module _ (quiet : IsQuiet old) (new : Past) (frame : (d : Bytes) → Rest new d → FramedIn old (is_in t Data) d) (r : RingValue) (s : Store) (ring : IsOpenedLog t x r) (store : IsOpened t x.generation s)
      (next : r.state.next ≡ last_of g + 1) (ready : IsRingReady old r (places t (seen old)) x.need (record_at g)) (order : IsInOrder t r.state) where
    -- the log is as it was
    log_kept : IsPlaced new r.config (places t (seen old))
    log_kept = record {
      each = λ d rest. others_shown old r.config (places t (seen old)) (λ chunk page i. is_in t Data chunk page) d
          (λ chunk page i log. log_not_data t left.config chunk page (subst (λ (c : Config). in_log c chunk page ≡ true) ring.config log)) ready.placed (frame d rest);
    }

    pub joined : IsOnDisk new s (pages_of x g) → IsStored new (begun (record { anchor = x; ring = r; store = s })) g
    joined on_disk =
        let written = all_written t x r ring in
        record {
          going = refl;
          behind = left.behind;
          reached = sym left.reached;
          next = next;
          checkpoint = subst (λ (c : Config). IsAnchorOf c g x) (sym ring.config) left.stands.checkpoint;
          written = omega (arith, written, ring.position);
          anchor = ready_kept old new (is_in t Data) (Some x) (λ page below. pair_not_data t left.config 0 page (is_pair_at page below)) frame (pair_ready old quiet t left.config g x (last_of g) left.stands);
          log = record {
            places = places t (seen old);
            floor = x.need;
            low = omega arith;
            is_floor = (let need : r.state.reuse.need ≡ x.need = ap (λ (m : Reuse). m.need) ring.reuse in rw need (min_first x.need (first_unwritten r.state - 1)));
            ready = ready_elsewhere old new r (places t (seen old)) x.need (record_at g) log_kept ready;
            order = subst (λ (c : Config). IsInOrder c r.state) (sym ring.config) order;
          };
          pages = record {
            on_disk = on_disk;
            flushed = λ space page up clean.
                let there : IsUp t (pages_of x g) space page = subst (λ (c : Config). IsUp c (pages_of x g) space page) store.config up in
                let stamp = left.stamps space page there in
                let now : ((pages_of x g).now space page).stamp ≡ ((pages_of x g).saved space page).stamp = ap (λ (q : Page). q.stamp) (now_saved space page) in
                omega (arith, stamp, now, next);
          };
        }
      where
        min_first : (m n : ℕ) → min m n ≤ m
        min_first m n = omega arith

-- ---- the calls, over the disk as it was

-- nothing but data pages is written: where a part was not read, nothing
pub frame_unwritten : (old new : Past) (is_part : ℕ → ℕ → Bool) → new ≡ old → Stops old new (FramedIn old is_part)
frame_unwritten old new is_part same = subst (λ (p : Past). Stops old p (FramedIn old is_part)) (sym same) (stops_none old (FramedIn old is_part) (λ d rest. framed_none old (λ chunk page i. is_part chunk page) d rest))

-- and where the pages were, those of the configuration of the newest anchor
pub frame_of : (sizes : ℕ → ℕ) (old two new : Past) (x : Anchor) (t : Config) → IsOnline sizes x t → IsNewestRead (there sizes (seen old)) (seen old) x → two ≡ old → Stops two new (FramedIn two (is_in t Data))
    → (c : Config) (a : Anchor) → IsConfig c → Newest (seen old) (Some a) → a.text ≡ config_text c → Stops old new (FramedIn old (is_in c Data))
frame_of sizes old two new x t online read same frame c a is newest text =
    let config : t ≡ c = config_is sizes x c t is online (ap (λ (b : Anchor). b.text) (anchor_is sizes (seen old) x a read newest) ∙ text) in
    subst (λ (k : Config). Stops old new (FramedIn old (is_in k Data))) config (subst (λ (p : Past). Stops p new (FramedIn p (is_in t Data))) same frame)

-- the log and the pages that were read, from what the calls say of the disk as each found it
module _ (sizes : ℕ → ℕ) (old one two new : Past) (x : Anchor) (t : Config) (online : IsOnline sizes x t) (read : IsNewestRead (there sizes (seen old)) (seen old) x) (first : one ≡ old) (second : two ≡ one) (quiet : IsQuiet old) where
  pub stored_of : (r : RingValue) (s : Store) → IsOpenedLog t x r → IsOpened t x.generation s
      → (IsQuiet one → (j : ℕ → Record) (last : ℕ) → x.need ≤ x.position + 1 → x.position ≤ last → IsLogged t (places t (seen one)) j x.need (last + 1) → IsNear t (places t (seen one)) (first_number x) (last + 1)
      → (r.state.next ≡ last + 1) × IsRingReady two r (places t (seen one)) x.need j × IsInOrder t r.state)
      → (IsQuiet two → (v : Pages) → AreSaved t v → HoldsPages t x.generation v (seen two) → IsOnDisk new s v)
      → Stops two new (FramedIn two (is_in t Data))
      → (c : Config) (g : Behind) (a : Anchor) → IsLeft c g a (seen old) → IsStoredOf c a new g (begun (record { anchor = x; ring = r; store = s }))
  stored_of r s ring store ready pages frame c g a left =
      let is = left_read sizes (seen old) x a t c g online read left in
      let left1 = subst (λ (p : Past). IsLeft t g x (seen p)) (sym first) is.2 in
      let left2 = subst (λ (p : Past). IsLeft t g x (seen p)) (sym second) left1 in
      let quiet1 = subst (λ (p : Past). IsQuiet p) (sym first) quiet in
      let quiet2 = subst (λ (p : Past). IsQuiet p) (sym second) quiet1 in
      let got = ready quiet1 (record_at g) (last_of g) left1.need left1.stands.position left1.stands.log left1.stands.near in
      record {
        config = ring.config ∙ is.1;
        anchor = is.0;
        stored = joined t g x two left2 quiet2 new frame.behind r s ring store got.0 (subst (λ (p : Past). IsRingReady two r (places t (seen p)) x.need (record_at g)) (sym second) got.1) got.2
            (pages quiet2 (pages_of x g) (left_saved t g x two left2) left2.stands.pages);
      }

  pub stops_of : Stops two new (FramedIn two (is_in t Data)) → (IsQuiet two → (v : Pages) → HoldsPages t x.generation v (seen two) → Stops two new (HoldsPages t x.generation v))
      → (c : Config) (g : Behind) (a : Anchor) (last : ℕ) → IsConfig c → Stands c g a last (seen old) → Stops old new (Stands c g a last)
  stops_of frame holds c g a last is stands =
      let same : x ≡ a = anchor_is sizes (seen old) x a read stands.newest in
      let config : t ≡ c = config_is sizes x c t is online (ap (λ (b : Anchor). b.text) same ∙ stands.checkpoint.text) in
      let at_x = subst (λ (b : Anchor). Stands t g b last (seen old)) (sym same) (subst (λ (k : Config). Stands k g a last (seen old)) (sym config) stands) in
      let at_two = subst (λ (p : Past). Stands t g x last (seen p)) (sym (second ∙ first)) at_x in
      let quiet2 = subst (λ (p : Past). IsQuiet p) (sym (second ∙ first)) quiet in
      let is_t = subst IsConfig (sym config) is in
      let stops = stands_stops two quiet2 t is_t g x last at_two new frame (holds quiet2 (pages_of x g) at_two.pages) in
      subst (λ (p : Past). Stops p new (Stands c g a last)) (second ∙ first)
      (subst (λ (b : Anchor). Stops two new (Stands c g b last)) same (subst (λ (k : Config). Stops two new (Stands k g x last)) config stops))
