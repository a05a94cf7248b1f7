-- The entry of a page is added to a store's physical log.
use Rattle.std.proofs.Common.{◌≡◌, ℕ, ◌<◌, ◌||◌, Bool, true, false, Some, List, [], ◌∷◌, ◌++◌, Result, Ok, Err, OnOk, refl, sym, ◌∙◌, ap, subst, arith}
use Rattle.ol_values.specs.Config.{has_page}
use Rattle.ol_values.specs.Image.{page_bytes}
use Rattle.ol_chunks.specs.Limits.{chunk_count}
use Rattle.ol_chunks.specs.Places.{is_in, lies_in, physical_area}
use Rattle.ol_chunks.specs.Places.Part.{Data, Physical}
use Rattle.ol_chunks.specs.declared.table.Area.{Area}
use Rattle.ol_chunks.proofs.Chunks.{has_chunk, physical_inside, up_to}
use Rattle.ol_ports.specs.Causes.{HasChunkCause}
use Rattle.ol_ports.specs.Disk.{Past, Rest}
use Rattle.ol_ports.specs.Frames.{FramedIn, ReadsOutside}
use Rattle.ol_ports.specs.Stops.{Stops}
use Rattle.ol_ports.proofs.FrameLaws.{outside_wider}
use Rattle.ol_ports.proofs.StopLaws.{stops_wider}
use Rattle.ol_physlog.specs.Places.{HasArea}
use Rattle.ol_physlog.specs.States.{IsLaid, Log, with_added}
use Rattle.ol_pool.specs.Frames.{frame_of}
use Rattle.ol_data_pages.specs.Overlays.{images_of}
use Rattle.ol_data_pages.specs.Places.{HasSpaceCause, HasSpaces}
use Rattle.ol_store.specs.Holding.{IsOnDisk, in_store}
use Rattle.ol_store.specs.Pages.{Pages}
use Rattle.ol_store.specs.Stores.{IsStore, Store, is_touched, place_of_entry, with_log}
use Rattle.ol_store.proofs.EntryLaws.{entry_added, images_added, settled_added}
use Rattle.ol_store.proofs.HoldLaws.{log_moved}

module _ (s : Store) (is : IsStore s) where
  -- the physical log lies in a chunk of a space
  pub log_chunk : s.log.area.chunk < chunk_count s.config.spaces
  log_chunk = subst (λ (a : Area). a.chunk < chunk_count s.config.spaces) (sym is.area)
      (omega (arith, up_to s.config s.config.physical_space is.config.physical_space, has_chunk s.config is.config s.config.physical_space is.config.physical_space))

  -- and the disk has all of it
  pub has_area : (sizes : ℕ → ℕ) → HasSpaces s.config sizes → HasArea s.log.area sizes
  has_area sizes has = subst (λ (a : Area). HasArea a sizes) (sym is.area)
      (omega (arith, has (physical_area s.config).chunk (subst (λ (a : Area). a.chunk < chunk_count s.config.spaces) is.area log_chunk), physical_inside s.config is.config))

  -- what is written in the physical log is written in the store's part of the disk
  log_within : (chunk at : ℕ) → in_store s.config chunk at ≡ false → lies_in s.log.area chunk at ≡ false
  log_within chunk at out = subst (λ (a : Area). lies_in a chunk at ≡ false) (sym is.area) (or_left (is_in s.config Physical chunk at) (is_in s.config Data chunk at) out)
    where
      or_left : (a b : Bool) → (a || b) ≡ false → a ≡ false
      or_left false b none = refl
      or_left true b none = none

  pub log_framed : (old new : Past) → Stops old new (FramedIn old (lies_in s.log.area)) → Stops old new (FramedIn old (in_store s.config))
  log_framed old new frame = stops_wider old new (λ k p i. lies_in s.log.area k p) (λ k p i. in_store s.config k p) (λ k p i out. log_within k p out) frame

  pub log_reads : {E : Type 0} (old new : Past) (result : Result Unit E) → OnOk result (ReadsOutside old new (lies_in s.log.area)) → OnOk result (ReadsOutside old new (in_store s.config))
  log_reads old new (Ok u) reads = outside_wider old new (lies_in s.log.area) (in_store s.config) log_within reads
  log_reads old new (Err e) reads = tt

  pub log_cause : {E : Type 0} (before now : ℕ → ℕ) (result : Result Unit E) → HasChunkCause s.log.area.chunk before now result → HasSpaceCause s.config before now result
  log_cause before now (Ok u) cause = record { later = cause.later; failed = tt; kept = cause.kept }
  log_cause before now (Err e) cause = record { later = cause.later; failed = (s.log.area.chunk, log_chunk, record { later = cause.later s.log.area.chunk; rose = cause.failed; others = cause.others }); kept = tt }

  module _ (old new : Past) (space page : ℕ) (has : has_page s.config space page ≡ true) (v : Pages) (h : IsOnDisk old s v) (up : v.is_up space ≡ true) (fresh : is_touched s.log space page ≡ false) (image : List ℕ) (there : frame_of s.pool space page ≡ Some image) where
    abbrev added : Log
    added = with_added s.log (place_of_entry space page)

    -- its image is that of the page as at the last checkpoint
    image_saved : image ≡ page_bytes (v.saved space page)
    image_saved = h.in_memory space page image (up, has) there ∙ ap page_bytes (h.untouched space page (up, has) fresh)

    added_now : IsLaid s.config new added (images_of v.saved s.log.places ++ image ∷ []) → ((d : _) → Rest new d → FramedIn old (lies_in s.log.area) d) → ReadsOutside old new (lies_in s.log.area) → IsOnDisk new (with_log s added) v
    added_now laid frame reads =
        log_moved s.config is.config s.pool s.log s.written v is.area old new h added
        (subst (λ (images : List (List ℕ)). IsLaid s.config new added images) (ap (λ (b : List ℕ). images_of v.saved s.log.places ++ b ∷ []) image_saved ∙ sym (images_added v.saved s.log.places (place_of_entry space page))) laid)
        (λ at_space at_page un. sym (settled_added s.log (place_of_entry space page) at_space at_page h.laid.is.settled) ∙ un)
        (λ at_space at_page none. entry_added s.log (place_of_entry space page) (place_of_entry at_space at_page) none) frame reads

    pub entry_stored : {E : Type 0} (now : Store) (result : Result Unit E) → OnOk result (now ≡ with_log s added) → OnOk result (IsLaid s.config new now.log (images_of v.saved s.log.places ++ image ∷ []))
        → ((d : _) → Rest new d → FramedIn old (lies_in s.log.area) d) → OnOk result (ReadsOutside old new (lies_in s.log.area)) → OnOk result (IsOnDisk new now v)
    entry_stored now (Err e) value laid frame reads = tt
    entry_stored now (Ok u) value laid frame reads = subst (λ (t : Store). IsOnDisk new t v) (sym value) (added_now (subst (λ (t : Store). IsLaid s.config new t.log (images_of v.saved s.log.places ++ image ∷ [])) value laid) frame reads)
