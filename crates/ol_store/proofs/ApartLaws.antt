-- Calls on other parts of a disk, and later generations.
use Rattle.std.proofs.Common.{◌≡◌, ℕ, ◌<◌, ◌^◌, ◌||◌, Bool, true, false, List, [], refl, ◌∙◌, subst}
use Rattle.ol_values.specs.Config.{Config, has_page}
use Rattle.ol_chunks.specs.Limits.{IsConfig}
use Rattle.ol_chunks.specs.Places.{is_in, lies_in, physical_area}
use Rattle.ol_chunks.specs.Places.Part.{Data, Physical}
use Rattle.ol_chunks.specs.declared.table.Area.{Area}
use Rattle.ol_ports.specs.Disk.{Bytes, Past, Rest, seen}
use Rattle.ol_ports.specs.Frames.{FramedAt, SameBut}
use Rattle.ol_physlog.specs.States.{Log, emptied}
use Rattle.ol_physlog.proofs.EmptyLaws.{emptied_holds, log_emptied}
use Rattle.ol_physlog.proofs.KeptLaws.{held_kept, laid_kept}
use Rattle.ol_physlog.proofs.StateLaws.{laid_holds}
use Rattle.ol_pool.specs.Frames.{Frames}
use Rattle.ol_data_pages.specs.Overlays.{images_of}
use Rattle.ol_data_pages.specs.Places.{standing_bytes, place_of}
use Rattle.ol_data_pages.proofs.PlaceLaws.{in_data}
use Rattle.ol_store.specs.Holding.{AreOnDisk, HoldsPages, in_store}
use Rattle.ol_store.specs.Pages.{Pages, checkpointed}
use Rattle.ol_store.specs.Stores.{is_written}
use Rattle.ol_store.proofs.CheckpointSteps.{none_dirty}
use Rattle.ol_store.proofs.HoldLaws.{holds_pages, page_outside}

or_first : (a b : Bool) → a ≡ true → (a || b) ≡ true
or_first true b is = refl
or_first false b is = absurd (let clash : false ≡ true = is in cc)

or_second : (a b : Bool) → b ≡ true → (a || b) ≡ true
or_second true b is = refl
or_second false b is = is

module _ (c : Config) (is : IsConfig c) (is_part : ℕ → ℕ → ℕ → Bool) (apart : (chunk at i : ℕ) → in_store c chunk at ≡ true → is_part chunk at i ≡ false) where
  page_apart : (e d : Bytes) (space page : ℕ) → has_page c space page ≡ true → SameBut is_part e d → standing_bytes c d space page ≡ standing_bytes c e space page
  page_apart e d space page has same =
      page_outside c is is_part e d space page has
      (λ i. apart (place_of c space page).0 (place_of c space page).1 i (or_second (is_in c Physical (place_of c space page).0 (place_of c space page).1) (is_in c Data (place_of c space page).0 (place_of c space page).1) (in_data c is space page has))) same

  log_apart : (a : Area) → a ≡ physical_area c → (chunk at i : ℕ) → lies_in a chunk at ≡ true → is_part chunk at i ≡ false
  log_apart a same chunk at i lies = apart chunk at i (or_first (is_in c Physical chunk at) (is_in c Data chunk at) (subst (λ (b : Area). lies_in b chunk at ≡ true) same lies))

  pub stored_apart : (pool : Frames) (log : Log) (written : List Bool) (v : Pages) → log.area ≡ physical_area c → (old new : Past) → ((d : Bytes) → Rest new d → FramedAt old is_part d) → SameBut is_part (seen old) (seen new) → AreOnDisk old c pool log written v → AreOnDisk new c pool log written v
  stored_apart pool log written v area old new frame reads h = record {
    laid = laid_kept log h.laid.is is_part (log_apart log.area area) c old new (images_of v.saved log.places) frame h.laid reads;
    unsettled = λ d rest space page up un. let f = frame d rest in page_apart f.origin d space page up.1 f.same ∙ h.unsettled f.origin f.rest space page up un;
    dirty = h.dirty;
    clean = λ space page up clean. page_apart (seen old) (seen new) space page up.1 reads ∙ h.clean space page up clean;
    synced = λ d rest space page up clean unmarked. let f = frame d rest in page_apart f.origin d space page up.1 f.same ∙ h.synced f.origin f.rest space page up clean unmarked;
    in_memory = h.in_memory;
    untouched = h.untouched;
    pages = h.pages;
  }

  -- what a stop within such calls leaves has all pages as at the last checkpoint
  pub framed_holds : (pool : Frames) (log : Log) (written : List Bool) (v : Pages) → log.area ≡ physical_area c → (past : Past) → AreOnDisk past c pool log written v → (d : Bytes) → FramedAt past is_part d → HoldsPages c log.generation v d
  framed_holds pool log written v area past h d f =
      holds_pages c log v d h.laid.is area
      (held_kept log h.laid.is is_part (log_apart log.area area) c (images_of v.saved log.places) f.origin d f.same (laid_holds c past log (images_of v.saved log.places) h.laid f.origin f.rest))
      (λ space page up un. page_apart f.origin d space page up.1 f.same ∙ h.unsettled f.origin f.rest space page up un)

  -- and for a later generation as they are now, where all stand at their places
  pub later_holds : (pool : Frames) (log : Log) (written : List Bool) (v : Pages) → log.area ≡ physical_area c → (past : Past) (generation : ℕ) → AreOnDisk past c pool log written v → pool.dirty ≡ [] → ((chunk : ℕ) → is_written written chunk ≡ false) → log.generation < generation → generation < 2 ^ 64
      → (d : Bytes) → FramedAt past is_part d → HoldsPages c generation (checkpointed v) d
  later_holds pool log written v area past generation h clean unmarked newer small d f =
      holds_pages c (emptied log generation) (checkpointed v) d (log_emptied log generation h.laid.is small) area
      (held_kept (emptied log generation) (log_emptied log generation h.laid.is small) is_part (log_apart log.area area) c [] f.origin d f.same
      (emptied_holds c log generation f.origin newer (laid_holds c past log (images_of v.saved log.places) h.laid f.origin f.rest).older))
      (λ space page up un. page_apart f.origin d space page up.1 f.same ∙ h.synced f.origin f.rest space page up (none_dirty pool clean space page) (unmarked (place_of c space page).0))
