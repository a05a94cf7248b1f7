-- The entries are settled, dirty pages written, their chunks synced, and the physical log emptied.
use Rattle.std.proofs.Common.{◌≡◌, ℕ, ◌<◌, ◌≤◌, ◌^◌, ◌&&◌, ◌||◌, ⊎_elim, inl, inr, zero, suc, Bool, true, false, Some, None, Option, List, [], ◌∷◌, length, not, Result, Ok, Err, OnOk, OnErr, IfSome, refl, sym, ◌∙◌, ap, subst, arith}
use Rattle.std.specs.List.{list_any}
use Rattle.std.specs.Prelude.{take, slice_get}
use Rattle.std.proofs.lemmas.List.{take_all}
use Rattle.ol_values.specs.Config.{Config, has_page}
use Rattle.ol_values.specs.Image.{page_bytes}
use Rattle.ol_chunks.specs.Limits.{IsConfig}
use Rattle.ol_chunks.specs.Places.{is_in, lies_in, physical_area}
use Rattle.ol_chunks.specs.Places.Part.{Data, Physical}
use Rattle.ol_ports.specs.Causes.{HasChunkCause}
use Rattle.ol_ports.specs.Disk.{Bytes, Past, Rest, seen}
use Rattle.ol_ports.specs.Frames.{FramedIn, ReadsOutside}
use Rattle.ol_ports.specs.Stops.{Stops}
use Rattle.ol_ports.proofs.FrameLaws.{outside_wider}
use Rattle.ol_ports.proofs.StopLaws.{stops_weaker, stops_wider}
use Rattle.ol_physlog.specs.States.{IsLaid, Log, emptied, same_page, with_settled}
use Rattle.ol_physlog.specs.declared.place.Place.{Place}
use Rattle.ol_pool.specs.Frames.{Frames, frame_of, is_dirty, same_place, without_dirty}
use Rattle.ol_pool.proofs.MapLaws.{clean_is}
use Rattle.ol_pool.proofs.PlaceLaws.{same_self, same_tells}
use Rattle.ol_data_pages.specs.Overlays.{images_of, is_settled}
use Rattle.ol_data_pages.specs.Places.{HasSpaceCause, IsSynced, is_place, standing_bytes, place_of}
use Rattle.ol_data_pages.proofs.PlaceLaws.{place_bounds, place_inside}
use Rattle.ol_store.specs.Holding.{AreOnDisk, CleanAreFlushed, HoldsPages, IsOnDisk, in_store}
use Rattle.ol_store.specs.Pages.{IsUp, Pages, checkpointed}
use Rattle.ol_store.specs.Stores.{AreSettled, IsFlushedAt, IsStore, Store, is_touched, is_written, no_marks, place_of_entry, with_clean, with_written}
use Rattle.ol_store.proofs.EntryLaws.{settled_all}
use Rattle.ol_store.proofs.HoldLaws.{log_moved, stored_holds}
use Rattle.ol_store.proofs.RowSteps.{stamp_back}
use Rattle.ol_store.proofs.StoreLaws.{store_unmarked}
use Rattle.ol_store.proofs.WriteLaws.{chunks_synced, one_or_two, page_written, pages_emptied, write_stops}

-- a page that has no entry has no settled one
none_taken : (test : Place → Bool) (n : ℕ) (places : List Place) → list_any test places ≡ false → list_any test (take n places) ≡ false
none_taken test zero places none = refl
none_taken test (suc n) [] none = refl
none_taken test (suc n) (p ∷ places) none = both (test p) (list_any test places) (list_any test (take n places)) none (λ rest. none_taken test n places rest)
  where
    both : (a b d : Bool) → (a || b) ≡ false → (b ≡ false → d ≡ false) → (a || d) ≡ false
    both false b d is next = next is
    both true b d is next = is

-- where all are settled a page with an entry has a settled one
pub settled_entry : (log : Log) (space page : ℕ) → AreSettled log → is_touched log space page ≡ true → is_settled log space page ≡ true
settled_entry log space page all touched = ap (λ (l : List Place). list_any (same_page (place_of_entry space page)) l) (ap (λ (n : ℕ). take n log.places) all ∙ take_all (length log.places) log.places (omega arith)) ∙ touched

-- behind a write of a page, it alone is clean that was dirty
pub dirty_without : (p : Frames) (space page at_space at_page : ℕ) → ((space ≡ at_space) × (page ≡ at_page) → ⊥) → is_dirty (without_dirty p space page) at_space at_page ≡ is_dirty p at_space at_page
dirty_without p space page at_space at_page differ =
    clean_is p space page at_space at_page ∙ ap (λ (b : Bool). not b && is_dirty p at_space at_page) (⊎_elim (λ same. absurd (differ (sym same.1, sym same.2))) (λ out. out.0) (same_tells space page at_space at_page))

pub dirty_still : (p : Frames) (space page at_space at_page : ℕ) → is_dirty (without_dirty p space page) at_space at_page ≡ true → is_dirty p at_space at_page ≡ true
dirty_still p space page at_space at_page is = second (not (same_place (space, page) (at_space, at_page))) (is_dirty p at_space at_page) (sym (clean_is p space page at_space at_page) ∙ is)
  where
    second : (a b : Bool) → (a && b) ≡ true → b ≡ true
    second true b is = is
    second false b is = absurd (let clash : false ≡ true = is in cc)

-- the area of a log that was settled, or emptied, or not
pub area_kept : {E : Type 0} (log done now : Log) (result : Result Unit E) → done.area ≡ log.area → OnOk result (now ≡ done) → OnErr result (now ≡ log) → now.area ≡ log.area
area_kept log done now (Ok u) same ok err = ap (λ (l : Log). l.area) ok ∙ same
area_kept log done now (Err e) same ok err = ap (λ (l : Log). l.area) err

module _ (c : Config) (is : IsConfig c) (pool : Frames) (log : Log) (written : List Bool) (v : Pages) (area : log.area ≡ physical_area c) (old new : Past) (h : AreOnDisk old c pool log written v) where
  pub settle_stored : {E : Type 0} (now : Log) (result : Result Unit E) → OnOk result (now ≡ with_settled log) → OnOk result (IsLaid c new now (images_of v.saved log.places))
      → ((d : Bytes) → Rest new d → FramedIn old (lies_in log.area) d) → OnOk result (ReadsOutside old new (lies_in log.area)) → OnOk result (AreOnDisk new c pool now written v)
  settle_stored now (Err e) value laid frame reads = tt
  settle_stored now (Ok u) value laid frame reads =
      subst (λ (l : Log). AreOnDisk new c pool l written v) (sym value)
      (log_moved c is pool log written v area old new h (with_settled log) (subst (λ (l : Log). IsLaid c new l (images_of v.saved log.places)) value laid)
      (λ space page un. none_taken (same_page (place_of_entry space page)) log.settled log.places (sym (settled_all log space page) ∙ un)) (λ space page none. none) frame reads)

  pub empty_stored : {E : Type 0} (generation : ℕ) → generation < 2 ^ 64 → ((space page : ℕ) → is_dirty pool space page ≡ false) → ((chunk : ℕ) → is_written written chunk ≡ false) → (now : Log) (result : Result Unit E) → OnOk result (now ≡ emptied log generation) → OnOk result (IsLaid c new now [])
      → ((d : Bytes) → Rest new d → FramedIn old (lies_in log.area) d) → OnOk result (ReadsOutside old new (lies_in log.area)) → OnOk result (AreOnDisk new c pool now written (checkpointed v))
  empty_stored generation small clean unmarked now (Err e) value laid frame reads = tt
  empty_stored generation small clean unmarked now (Ok u) value laid frame reads =
      subst (λ (l : Log). AreOnDisk new c pool l written (checkpointed v)) (sym value)
      (pages_emptied c is pool log written v area old new generation small h clean unmarked (subst (λ (l : Log). IsLaid c new l []) value laid) frame reads)

  pub sync_stored : {E : Type 0} (marks : List Bool) (result : Result Unit E) → OnOk result (IsSynced old new written) → ((d : Bytes) → Rest new d → Rest old d) → OnOk result (AreOnDisk new c pool log marks v)
  sync_stored marks (Err e) synced kept = tt
  sync_stored marks (Ok u) synced kept = chunks_synced c is pool log written v area old new h kept synced marks

  pub sync_stops : Stops old new (Rest old) → Stops old new (HoldsPages c log.generation v)
  sync_stops stops = stops_weaker old new (Rest old) (HoldsPages c log.generation v) (λ d rest. stored_holds c is pool log written v area old h d rest) stops

-- ---- a page is written

module _ (s : Store) (is : IsStore s) (space page : ℕ) (has : has_page s.config space page ≡ true) where
  place_within : (chunk at : ℕ) → in_store s.config chunk at ≡ false → is_place s.config space page chunk at ≡ false
  place_within chunk at out = each (is_place s.config space page chunk at) refl
    where
      right : (a b : Bool) → (a || b) ≡ false → b ≡ false
      right false b none = none
      right true b none = absurd (let clash : true ≡ false = none in cc)

      each : (b : Bool) → is_place s.config space page chunk at ≡ b → is_place s.config space page chunk at ≡ false
      each false not_here = not_here
      each true here = absurd (let clash : true ≡ false = sym (place_inside s.config is.config space page chunk at has here) ∙ right (is_in s.config Physical chunk at) (is_in s.config Data chunk at) out in cc)

  pub place_framed : (old new : Past) → Stops old new (FramedIn old (is_place s.config space page)) → Stops old new (FramedIn old (in_store s.config))
  place_framed old new frame = stops_wider old new (λ k p i. is_place s.config space page k p) (λ k p i. in_store s.config k p) (λ k p i out. place_within k p out) frame

  pub place_reads : {E : Type 0} (old new : Past) (result : Result Unit E) → OnOk result (ReadsOutside old new (is_place s.config space page)) → OnOk result (ReadsOutside old new (in_store s.config))
  place_reads old new (Ok u) reads = outside_wider old new (is_place s.config space page) (in_store s.config) place_within reads
  place_reads old new (Err e) reads = tt

  pub place_cause : {E : Type 0} (before now : ℕ → ℕ) (result : Result Unit E) → HasChunkCause (place_of s.config space page).0 before now result → HasSpaceCause s.config before now result
  place_cause before now (Ok u) cause = record { later = cause.later; failed = tt; kept = cause.kept }
  place_cause before now (Err e) cause = record { later = cause.later; failed = ((place_of s.config space page).0, (place_bounds s.config is.config space page has).0, record { later = cause.later (place_of s.config space page).0; rose = cause.failed; others = cause.others }); kept = tt }

  module _ (old new : Past) (v : Pages) (h : IsOnDisk old s v) (all : AreSettled s.log) (dirty : is_dirty s.pool space page ≡ true) where
    settled : is_settled s.log space page ≡ true
    settled = settled_entry s.log space page all (h.dirty space page dirty)

    pub dirty_stops : Stops old new (FramedIn old (is_place s.config space page)) → Stops old new (HoldsPages s.config s.log.generation v)
    dirty_stops frame = write_stops s.config is.config s.pool s.log s.written v is.area old new space page has settled h frame

    pub dirty_stored : {E : Type 0} (now : Store) (result : Result Unit E) → now ≡ with_clean s space page → ((d : Bytes) → Rest new d → FramedIn old (is_place s.config space page) d) → OnOk result (ReadsOutside old new (is_place s.config space page))
        → ((bytes : List ℕ) → frame_of s.pool space page ≡ Some bytes → OnOk result (standing_bytes s.config (seen new) space page ≡ bytes)) → OnOk result (IsOnDisk new now v)
    dirty_stored now (Err e) value frame reads put = tt
    dirty_stored now (Ok u) value frame reads put =
        let f = is.framed space page dirty in
        subst (λ (t : Store). IsOnDisk new t v) (sym value)
        (page_written s.config is.config s.pool s.log s.written v is.area old new space page has settled h (without_dirty s.pool space page) f.0 f.1 (λ at_space at_page. refl)
        (λ at_space at_page differ. dirty_without s.pool space page at_space at_page differ) (λ at_space at_page still. dirty_still s.pool space page at_space at_page still)
        (omega (arith, is.chunks, (place_bounds s.config is.config space page has).0, is.config.chunks)) frame reads (put f.0 f.1))

  -- the log is flushed to the stamp of a page that is written
  pub dirty_flushed : (past : Past) (v : Pages) → IsOnDisk past s v → is_dirty s.pool space page ≡ true → IsFlushedAt s space page → CleanAreFlushed s v → CleanAreFlushed (with_clean s space page) v
  dirty_flushed past v h dirty flushed before at_space at_page up clean = elim (one_or_two space page at_space at_page) [
    | inl both ↦ subst (λ (k : ℕ). IsUp s.config v k at_page → (v.now k at_page).stamp ≤ s.flushed) both.0 (subst (λ (k : ℕ). IsUp s.config v space k → (v.now space k).stamp ≤ s.flushed) both.1 here) up
    | inr differ ↦ before at_space at_page up (sym (dirty_without s.pool space page at_space at_page differ) ∙ clean)
  ]
    where
      here : IsUp s.config v space page → (v.now space page).stamp ≤ s.flushed
      here is_up =
          let f = is.framed space page dirty in
          let same = h.in_memory space page f.0 is_up f.1 in
          subst (λ (n : ℕ). n ≤ s.flushed) (stamp_back (v.now space page) (h.pages space page is_up).page) (flushed (page_bytes (v.now space page)) (f.1 ∙ ap (λ (b : List ℕ). Some b) same))

-- the first dirty page is one of the dirty ones
first_in : (pages : List (ℕ × ℕ)) (place : ℕ × ℕ) → (let o : Option (ℕ × ℕ) = Some place in o ≡ slice_get pages 0) → list_any (same_place (place.0, place.1)) pages ≡ true
first_in [] place same = absurd (let clash : Some place ≡ None = same in cc)
first_in (p ∷ pages) place same =
    let one : place ≡ p = cc in
    subst (λ (q : ℕ × ℕ). list_any (same_place (q.0, q.1)) (p ∷ pages) ≡ true) (sym one) (ap (λ (b : Bool). b || list_any (same_place (p.0, p.1)) pages) (same_self p.0 p.1))

pub first_dirty : (s : Store) → IsStore s → (first : Option (ℕ × ℕ)) → first ≡ slice_get s.pool.dirty 0 → IfSome first (λ place. (has_page s.config place.0 place.1 ≡ true) × (is_dirty s.pool place.0 place.1 ≡ true))
first_dirty s is (Some place) same = let dirty = first_in s.pool.dirty place same in (is.dirty place.0 place.1 dirty, dirty)
first_dirty s is None same = tt

pub none_dirty : (p : Frames) → p.dirty ≡ [] → (space page : ℕ) → is_dirty p space page ≡ false
none_dirty p none space page = ap (λ (l : List (ℕ × ℕ)). list_any (same_place (space, page)) l) none

-- the marks behind a sync
pub marks_kept : {E : Type 0} (s : Store) → IsStore s → (marks : List Bool) (result : Result Unit E) → OnOk result (marks ≡ no_marks) → OnErr result (marks ≡ s.written) → IsStore (with_written s marks)
marks_kept s is marks (Ok u) ok err = subst (λ (m : List Bool). IsStore (with_written s m)) (sym ok) (store_unmarked s is)
marks_kept s is marks (Err e) ok err = subst (λ (m : List Bool). IsStore (with_written s m)) (sym err) is
