-- What calls on the physical log and on data pages leave of what is stored.
use Rattle.std.proofs.Common.{◌≡◌, ℕ, ◌<◌, Bool, true, false, List, refl, sym, ◌∙◌, subst}
use Rattle.ol_values.specs.Config.{Config, has_page}
use Rattle.ol_values.specs.Image.{page_bytes}
use Rattle.ol_chunks.specs.Limits.{IsConfig}
use Rattle.ol_chunks.specs.Places.{lies_in, physical_area}
use Rattle.ol_chunks.specs.Places.Part.{Data, Physical}
use Rattle.ol_chunks.specs.declared.table.Area.{Area}
use Rattle.ol_chunks.proofs.PartLaws.{parts_apart}
use Rattle.ol_ports.specs.Disk.{Bytes, Past, Rest, seen}
use Rattle.ol_ports.specs.Frames.{FramedIn, ReadsOutside, SameBut}
use Rattle.ol_ports.specs.Stops.{Stops}
use Rattle.ol_ports.proofs.StopLaws.{stops_weaker, stops_with}
use Rattle.ol_physlog.specs.Places.{Counts, entry_at}
use Rattle.ol_physlog.specs.Reading.{IsRefused}
use Rattle.ol_physlog.specs.States.{HoldsEntries, IsLaid, IsLog, Log, NoneLater}
use Rattle.ol_physlog.proofs.StateLaws.{laid_holds}
use Rattle.ol_physlog.proofs.StopLaws.{counts_added, none_refused}
use Rattle.ol_data_pages.specs.Overlays.{images_of, is_settled}
use Rattle.ol_data_pages.specs.Places.{standing_bytes, place_of}
use Rattle.ol_data_pages.proofs.OverlayLaws.{image_kept, overlaid_kept}
use Rattle.ol_data_pages.proofs.PlaceLaws.{in_data, page_same}
use Rattle.ol_pool.specs.Frames.{Frames}
use Rattle.ol_store.specs.Holding.{AreOnDisk, HoldsPages}
use Rattle.ol_store.specs.Pages.{IsUp, Pages}
use Rattle.ol_store.specs.Stores.{is_touched}

-- data pages outside of what was written are as they were
pub page_outside : (c : Config) → IsConfig c → (is_part : ℕ → ℕ → ℕ → Bool) (e d : Bytes) (space page : ℕ) → has_page c space page ≡ true
    → ((i : ℕ) → is_part (place_of c space page).0 (place_of c space page).1 i ≡ false) → SameBut is_part e d → standing_bytes c d space page ≡ standing_bytes c e space page
page_outside c is is_part e d space page has out same = page_same c e d space page (λ i. same (place_of c space page).0 (place_of c space page).1 i (out i))

-- no data page lies in the physical log
pub unlogged : (c : Config) → IsConfig c → (a : Area) → a ≡ physical_area c → (space page : ℕ) → has_page c space page ≡ true → lies_in a (place_of c space page).0 (place_of c space page).1 ≡ false
unlogged c is a same space page has = subst (λ (b : Area). lies_in b (place_of c space page).0 (place_of c space page).1 ≡ false) (sym same) (parts_apart c is Data Physical (λ e. cc) (place_of c space page).0 (place_of c space page).1 (in_data c is space page has))

-- so calls on the log leave data pages
pub page_beside_log : (c : Config) → IsConfig c → (a : Area) → a ≡ physical_area c → (e d : Bytes) (space page : ℕ) → has_page c space page ≡ true → SameBut (λ k p i. lies_in a k p) e d → standing_bytes c d space page ≡ standing_bytes c e space page
page_beside_log c is a area e d space page has same = page_outside c is (λ k p i. lies_in a k p) e d space page has (λ i. unlogged c is a area space page has) same

-- of a disk: each page of a space that is up, without a settled entry, stands at its place as at the last checkpoint
abbrev pub StandUnsettled : Config → Log → Pages → Bytes → Type 0
StandUnsettled c s v d = (space page : ℕ) → IsUp c v space page → is_settled s space page ≡ false → standing_bytes c d space page ≡ page_bytes (v.saved space page)

-- with the entries that is what a reader needs
pub holds_pages : (c : Config) (s : Log) (v : Pages) (d : Bytes) → IsLog s → s.area ≡ physical_area c → HoldsEntries c s (images_of v.saved s.places) d → StandUnsettled c s v d → HoldsPages c s.generation v d
holds_pages c s v d is area holds stand = record {
  pages = λ space page up. overlaid_kept c s v.saved d space page (counts_added c s (images_of v.saved s.places) d holds) is area holds (stand space page up);
  good = λ k lt. subst (λ (a : Area). k < a.count → IsRefused c a s.generation d k → ⊥) area (none_refused c s (images_of v.saved s.places) d holds is k) lt;
  images = λ k place image lt counts. image_kept c s v.saved d place.space place.page (counts_added c s (images_of v.saved s.places) d holds) k place image (subst (λ (a : Area). k < a.count) (sym area) lt) (subst (λ (a : Area). entry_at c a s.generation d k ≡ Counts place image) (sym area) counts);
  older = subst (λ (a : Area). NoneLater a d s.generation) area holds.older;
}

-- ---- calls on the log

module _ (c : Config) (is : IsConfig c) (pool : Frames) (log : Log) (written : List Bool) (v : Pages) (area : log.area ≡ physical_area c) where
  pub stored_holds : (past : Past) → AreOnDisk past c pool log written v → (d : Bytes) → Rest past d → HoldsPages c log.generation v d
  stored_holds past h d rest = holds_pages c log v d h.laid.is area (laid_holds c past log (images_of v.saved log.places) h.laid d rest) (h.unsettled d rest)

  module _ (old new : Past) (h : AreOnDisk old c pool log written v) where
    beside : (e d : Bytes) (space page : ℕ) → IsUp c v space page → SameBut (λ k p i. lies_in log.area k p) e d → standing_bytes c d space page ≡ standing_bytes c e space page
    beside e d space page up same = page_beside_log c is log.area area e d space page up.1 same

    -- at each moment the pages are held
    pub log_stops : Stops old new (HoldsEntries c log (images_of v.saved log.places)) → Stops old new (FramedIn old (lies_in log.area)) → Stops old new (HoldsPages c log.generation v)
    log_stops holds frame =
        stops_weaker old new _ (HoldsPages c log.generation v)
        (λ d both. holds_pages c log v d h.laid.is area both.0 (λ space page up un. let f = both.1 in beside f.origin d space page up f.same ∙ h.unsettled f.origin f.rest space page up un))
        (stops_with old new (HoldsEntries c log (images_of v.saved log.places)) (FramedIn old (lies_in log.area)) holds frame)

    -- and behind them all is stored with the log as it then is
    pub log_moved : (now : Log) → IsLaid c new now (images_of v.saved now.places) → ((space page : ℕ) → is_settled now space page ≡ false → is_settled log space page ≡ false)
        → ((space page : ℕ) → is_touched now space page ≡ false → is_touched log space page ≡ false) → ((d : Bytes) → Rest new d → FramedIn old (lies_in log.area) d) → ReadsOutside old new (lies_in log.area) → AreOnDisk new c pool now written v
    log_moved now laid settled touched frame reads = record {
      laid = laid;
      unsettled = λ d rest space page up un. let f = frame d rest in beside f.origin d space page up f.same ∙ h.unsettled f.origin f.rest space page up (settled space page un);
      clean = λ space page up not_dirty. beside (seen old) (seen new) space page up reads ∙ h.clean space page up not_dirty;
      synced = λ d rest space page up not_dirty unmarked. let f = frame d rest in beside f.origin d space page up f.same ∙ h.synced f.origin f.rest space page up not_dirty unmarked;
      dirty = λ space page is_dirty. dirty_still space page (is_touched now space page) refl (h.dirty space page is_dirty);
      in_memory = h.in_memory;
      untouched = λ space page up none. h.untouched space page up (touched space page none);
      pages = h.pages;
    }
      where
        dirty_still : (space page : ℕ) (b : Bool) → is_touched now space page ≡ b → is_touched log space page ≡ true → is_touched now space page ≡ true
        dirty_still space page true is was = is
        dirty_still space page false is was = absurd (let clash : false ≡ true = sym (touched space page is) ∙ was in cc)
