-- Data pages are written to their places, their chunks are synced, and the physical log is emptied.
use Rattle.std.proofs.Common.{◌≡◌, ◌≢◌, ℕ, ◌<◌, ◌^◌, ◌⊎◌, inl, inr, ⊎_elim, Bool, true, false, Some, List, [], length, get_or, refl, sym, ◌∙◌, ap, subst}
use Rattle.std.proofs.lemmas.Bool.{cases_eq}
use Rattle.std.proofs.lemmas.List.{get_or-set_other, get_or-set_same}
use Rattle.std.specs.Prelude.{slice_set}
use Rattle.ol_values.specs.Config.{Config, has_page}
use Rattle.ol_values.specs.Image.{page_bytes}
use Rattle.ol_chunks.specs.Limits.{IsConfig}
use Rattle.ol_chunks.specs.Places.{lies_in, physical_area}
use Rattle.ol_chunks.specs.declared.table.Area.{Area}
use Rattle.ol_ports.specs.Disk.{Bytes, Past, Rest, seen}
use Rattle.ol_ports.specs.Frames.{FramedIn, ReadsOutside, SameBut}
use Rattle.ol_ports.specs.Stops.{Stops}
use Rattle.ol_ports.proofs.StopLaws.{stops_weaker, stops_with}
use Rattle.ol_physlog.specs.Places.{AreApart}
use Rattle.ol_physlog.specs.States.{HoldsEntries, IsLaid, Log, emptied}
use Rattle.ol_physlog.proofs.EmptyLaws.{log_emptied}
use Rattle.ol_physlog.proofs.KeptLaws.{held_kept, laid_kept}
use Rattle.ol_physlog.proofs.StateLaws.{laid_holds}
use Rattle.ol_pool.specs.Frames.{Frames, frame_of, is_dirty}
use Rattle.ol_data_pages.specs.Overlays.{images_of, is_settled}
use Rattle.ol_data_pages.specs.Places.{IsSynced, is_place, standing_bytes, place_of}
use Rattle.ol_data_pages.proofs.PlaceLaws.{page_same, place_other, place_unlogged}
use Rattle.ol_store.specs.Holding.{AreOnDisk, HoldsPages}
use Rattle.ol_store.specs.Pages.{IsUp, Pages, checkpointed}
use Rattle.ol_store.specs.Stores.{is_written}
use Rattle.ol_store.proofs.HoldLaws.{holds_pages, page_beside_log, page_outside}

-- two pages are one or not
pub one_or_two : (space page at_space at_page : ℕ) → ((space ≡ at_space) × (page ≡ at_page)) ⊎ ((space ≡ at_space) × (page ≡ at_page) → ⊥)
one_or_two space page at_space at_page =
    ⊎_elim
    (λ s. ⊎_elim (λ p. inl (s, p)) (λ p. inr (λ both. p both.1)) (cases_eq page at_page))
    (λ s. inr (λ both. s both.0)) (cases_eq space at_space)

module _ (c : Config) (is : IsConfig c) (pool : Frames) (log : Log) (written : List Bool) (v : Pages) (area : log.area ≡ physical_area c) where
  -- ---- a write of a page with a settled entry
  module _ (old new : Past) (space page : ℕ) (has : has_page c space page ≡ true) (settled : is_settled log space page ≡ true) (h : AreOnDisk old c pool log written v) where
    abbrev Here : ℕ → ℕ → ℕ → Bool
    Here k p i = is_place c space page k p

    apart : AreApart log.area Here
    apart = subst (λ (a : Area). AreApart a Here) (sym area) (place_unlogged c is space page has)

    other : (e d : Bytes) (at_space at_page : ℕ) → has_page c at_space at_page ≡ true → ((space ≡ at_space) × (page ≡ at_page) → ⊥) → SameBut Here e d → standing_bytes c d at_space at_page ≡ standing_bytes c e at_space at_page
    other e d at_space at_page has_other differ same = page_outside c is Here e d at_space at_page has_other (λ i. place_other c is space page at_space at_page has has_other differ) same

    unsettled_differ : (at_space at_page : ℕ) → is_settled log at_space at_page ≡ false → (space ≡ at_space) × (page ≡ at_page) → ⊥
    unsettled_differ at_space at_page un both =
        let here : is_settled log at_space at_page ≡ true = subst (λ (k : ℕ). is_settled log k at_page ≡ true) both.0 (subst (λ (k : ℕ). is_settled log space k ≡ true) both.1 settled) in
        let clash : true ≡ false = sym here ∙ un in cc

    pub write_stops : Stops old new (FramedIn old (is_place c space page)) → Stops old new (HoldsPages c log.generation v)
    write_stops frame =
        stops_weaker old new (FramedIn old (is_place c space page)) (HoldsPages c log.generation v)
        (λ d f. holds_pages c log v d h.laid.is area
        (held_kept log h.laid.is Here apart c (images_of v.saved log.places) f.origin d f.same (laid_holds c old log (images_of v.saved log.places) h.laid f.origin f.rest))
        (λ at_space at_page up un. other f.origin d at_space at_page up.1 (unsettled_differ at_space at_page un) f.same ∙ h.unsettled f.origin f.rest at_space at_page up un))
        frame

    module _ (now : Frames) (bytes : List ℕ) (there : frame_of pool space page ≡ Some bytes) (frames : (at_space at_page : ℕ) → frame_of now at_space at_page ≡ frame_of pool at_space at_page)
        (dirty : (at_space at_page : ℕ) → ((space ≡ at_space) × (page ≡ at_page) → ⊥) → is_dirty now at_space at_page ≡ is_dirty pool at_space at_page) (dirty_before : (at_space at_page : ℕ) → is_dirty now at_space at_page ≡ true → is_dirty pool at_space at_page ≡ true)
        (small : (place_of c space page).0 < length written) (frame : (d : Bytes) → Rest new d → FramedIn old (is_place c space page) d)
        (reads : ReadsOutside old new (is_place c space page)) (put : standing_bytes c (seen new) space page ≡ bytes) where
      clean_now : (at_space at_page : ℕ) → IsUp c v at_space at_page → is_dirty now at_space at_page ≡ false → standing_bytes c (seen new) at_space at_page ≡ page_bytes (v.now at_space at_page)
      clean_now at_space at_page up not_dirty = elim (one_or_two space page at_space at_page) [
        | inl both ↦ subst (λ (k : ℕ). standing_bytes c (seen new) k at_page ≡ page_bytes (v.now k at_page)) both.0
            (subst (λ (k : ℕ). standing_bytes c (seen new) space k ≡ page_bytes (v.now space k)) both.1
            (put ∙ h.in_memory space page bytes (subst (λ (k : ℕ). IsUp c v space k) (sym both.1) (subst (λ (k : ℕ). IsUp c v k at_page) (sym both.0) up)) there))
        | inr differ ↦ other (seen old) (seen new) at_space at_page up.1 differ reads ∙ h.clean at_space at_page up (sym (dirty at_space at_page differ) ∙ not_dirty)
      ]

      synced_now : (d : Bytes) → Rest new d → (at_space at_page : ℕ) → IsUp c v at_space at_page → is_dirty now at_space at_page ≡ false
          → is_written (slice_set written (place_of c space page).0 true) (place_of c at_space at_page).0 ≡ false → standing_bytes c d at_space at_page ≡ page_bytes (v.now at_space at_page)
      synced_now d rest at_space at_page up not_dirty unmarked =
          let f = frame d rest in
          let elsewhere : (place_of c at_space at_page).0 ≢ (place_of c space page).0 = λ same.
          let marked : is_written (slice_set written (place_of c space page).0 true) (place_of c at_space at_page).0 ≡ true = ap (λ (k : ℕ). get_or (slice_set written (place_of c space page).0 true) k false) same ∙ get_or-set_same written (place_of c space page).0 true false small in
          let clash : true ≡ false = sym marked ∙ unmarked in cc in
          let differ : (space ≡ at_space) × (page ≡ at_page) → ⊥ = λ both. elsewhere (ap (λ (k : ℕ). (place_of c k at_page).0) (sym both.0) ∙ ap (λ (k : ℕ). (place_of c space k).0) (sym both.1)) in
          other f.origin d at_space at_page up.1 differ f.same
          ∙ h.synced f.origin f.rest at_space at_page up (sym (dirty at_space at_page differ) ∙ not_dirty) (sym (get_or-set_other written (place_of c space page).0 (place_of c at_space at_page).0 true false elsewhere) ∙ unmarked)

      pub page_written : AreOnDisk new c now log (slice_set written (place_of c space page).0 true) v
      page_written = record {
        laid = laid_kept log h.laid.is Here apart c old new (images_of v.saved log.places) frame h.laid reads;
        unsettled = λ d rest at_space at_page up un. let f = frame d rest in other f.origin d at_space at_page up.1 (unsettled_differ at_space at_page un) f.same ∙ h.unsettled f.origin f.rest at_space at_page up un;
        dirty = λ at_space at_page is_dirty. h.dirty at_space at_page (dirty_before at_space at_page is_dirty);
        clean = clean_now;
        synced = synced_now;
        in_memory = λ at_space at_page b up is_there. h.in_memory at_space at_page b up (sym (frames at_space at_page) ∙ is_there);
        untouched = h.untouched;
        pages = h.pages;
      }

  -- ---- a sync of the marked chunks
  pub chunks_synced : (old new : Past) → AreOnDisk old c pool log written v → ((d : Bytes) → Rest new d → Rest old d) → IsSynced old new written → (marks : List Bool) → AreOnDisk new c pool log marks v
  chunks_synced old new h kept sync marks = record {
    laid = laid_kept log h.laid.is (λ k p i. false) (λ k p i lies. refl) c old new (images_of v.saved log.places) (λ d rest. record { origin = d; rest = kept d rest; same = λ k p i out. refl }) h.laid (λ k p i out. ap (λ (b : Bytes). b k p i) sync.reads);
    unsettled = λ d rest. h.unsettled d (kept d rest);
    dirty = h.dirty;
    clean = clean_now;
    synced = λ d rest space page up not_dirty unmarked. each d rest space page up not_dirty (is_written written (place_of c space page).0) refl;
    in_memory = h.in_memory;
    untouched = h.untouched;
    pages = h.pages;
  }
    where
      clean_now : (space page : ℕ) → IsUp c v space page → is_dirty pool space page ≡ false → standing_bytes c (seen new) space page ≡ page_bytes (v.now space page)
      clean_now space page up not_dirty = page_same c (seen old) (seen new) space page (λ i. ap (λ (b : Bytes). b (place_of c space page).0 (place_of c space page).1 i) sync.reads) ∙ h.clean space page up not_dirty

      each : (d : Bytes) → Rest new d → (space page : ℕ) → IsUp c v space page → is_dirty pool space page ≡ false → (b : Bool) → is_written written (place_of c space page).0 ≡ b → standing_bytes c d space page ≡ page_bytes (v.now space page)
      each d rest space page up not_dirty true marked = page_same c (seen old) d space page (λ i. sync.durable d rest (place_of c space page).0 (place_of c space page).1 i marked) ∙ h.clean space page up not_dirty
      each d rest space page up not_dirty false unmarked = h.synced d (kept d rest) space page up not_dirty unmarked

  -- ---- a new generation, where all pages stand at their places
  module _ (old new : Past) (generation : ℕ) (small : generation < 2 ^ 64) (h : AreOnDisk old c pool log written v) (clean : (space page : ℕ) → is_dirty pool space page ≡ false) (unmarked : (chunk : ℕ) → is_written written chunk ≡ false) where
    at_place : (d : Bytes) → FramedIn old (lies_in log.area) d → (space page : ℕ) → IsUp c v space page → standing_bytes c d space page ≡ page_bytes (v.now space page)
    at_place d f space page up = page_beside_log c is log.area area f.origin d space page up.1 f.same ∙ h.synced f.origin f.rest space page up (clean space page) (unmarked (place_of c space page).0)

    pub empty_stops : Stops old new (HoldsEntries c (emptied log generation) []) → Stops old new (FramedIn old (lies_in log.area)) → Stops old new (HoldsPages c generation (checkpointed v))
    empty_stops holds frame =
        stops_weaker old new _ (HoldsPages c generation (checkpointed v))
        (λ d both. holds_pages c (emptied log generation) (checkpointed v) d (log_emptied log generation h.laid.is small) area both.0 (λ space page up un. at_place d both.1 space page up))
        (stops_with old new (HoldsEntries c (emptied log generation) []) (FramedIn old (lies_in log.area)) holds frame)

    pub pages_emptied : IsLaid c new (emptied log generation) [] → ((d : Bytes) → Rest new d → FramedIn old (lies_in log.area) d) → ReadsOutside old new (lies_in log.area) → AreOnDisk new c pool (emptied log generation) written (checkpointed v)
    pages_emptied laid frame reads = record {
      laid = laid;
      unsettled = λ d rest space page up un. at_place d (frame d rest) space page up;
      dirty = λ space page is_dirty. absurd (let clash : false ≡ true = sym (clean space page) ∙ is_dirty in cc);
      clean = λ space page up not_dirty. page_beside_log c is log.area area (seen old) (seen new) space page up.1 reads ∙ h.clean space page up not_dirty;
      synced = λ d rest space page up not_dirty none. at_place d (frame d rest) space page up;
      in_memory = h.in_memory;
      untouched = λ space page up none. refl;
      pages = h.pages;
    }
