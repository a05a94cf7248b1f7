-- What is always so of a store is kept by its steps.
use Rattle.std.proofs.Common.{◌≡◌, ℕ, ◌<◌, ◌≤◌, ◌⊎◌, ◌||◌, ◌==◌, ◌++◌, ◌∷◌, if◌then◌else◌, not, inl, inr, ⊎_elim, Bool, true, false, Some, None, Option, List, [], length, max, Result, Ok, Err, OnOk, OnErr, refl, sym, ◌∙◌, ap, subst, arith}
use Rattle.std.proofs.lemmas.Bool.{and_parts, cases_eq, eqb-true}
use Rattle.std.proofs.lemmas.List.Folds.{list_any-append}
use Rattle.std.specs.List.{list_any}
use Rattle.std.proofs.lemmas.List.{get_or-set_other, length-set}
use Rattle.std.specs.Prelude.{slice_set, slice_index_or}
use Rattle.ol_values.specs.Config.{Config, data_pages, has_page}
use Rattle.ol_chunks.specs.Limits.{IsConfig, chunk_count}
use Rattle.ol_chunks.specs.Places.{physical_area}
use Rattle.ol_physlog.specs.States.{Log}
use Rattle.ol_before.specs.Images.{Captures}
use Rattle.ol_pool.specs.Frames.{Frames, HasPlace, frame_of, is_dirty, no_frames, same_place, with_dirty, with_frame, without_dirty}
use Rattle.ol_pool.proofs.ItemLaws.{each_is, item_either, pages_stay}
use Rattle.ol_pool.proofs.ListLaws.{replicated}
use Rattle.ol_pool.proofs.MapLaws.{clean_is, places_are}
use Rattle.ol_data_pages.specs.Places.{place_of}
use Rattle.ol_data_pages.proofs.PlaceLaws.{place_bounds}
use Rattle.ol_store.specs.Stores.{IsImage, IsStore, Store, begun, is_written, stamp_in, no_marks, with_before, with_clean, with_flushed, with_image, with_log, with_pool, with_written}

pub some_one : (a b : List ℕ) → Some a ≡ Some b → a ≡ b
some_one a b same = cc

pub not_none : {A : Type 0} (bytes : List ℕ) (o : Option (List ℕ)) → o ≡ None → o ≡ Some bytes → A
not_none bytes o none some = absurd (let clash : None ≡ Some bytes = sym none ∙ some in cc)

-- a page that is dirty behind the marking of one was so before, or is that one
marked_before : (pages : List (ℕ × ℕ)) (space page at_space at_page : ℕ) (b : Bool) → list_any (same_place (at_space, at_page)) (if b then pages else pages ++ (space, page) ∷ []) ≡ true → ((at_space ≡ space) × (at_page ≡ page)) ⊎ (list_any (same_place (at_space, at_page)) pages ≡ true)
marked_before pages space page at_space at_page true dirty = inr dirty
marked_before pages space page at_space at_page false dirty = each (list_any (same_place (at_space, at_page)) pages) refl (sym (list_any-append (same_place (at_space, at_page)) pages ((space, page) ∷ [])) ∙ dirty)
  where
    or-false : (b : Bool) → (b || false) ≡ true → b ≡ true
    or-false true is = refl
    or-false false is = is

    each : (b : Bool) → list_any (same_place (at_space, at_page)) pages ≡ b → (b || (same_place (at_space, at_page) (space, page) || false)) ≡ true → ((at_space ≡ space) × (at_page ≡ page)) ⊎ (list_any (same_place (at_space, at_page)) pages ≡ true)
    each true was is = inr was
    each false was is = let both = and_parts (at_space == space) (at_page == page) (or-false (same_place (at_space, at_page) (space, page)) is) in inl (eqb-true at_space space both.0, eqb-true at_page page both.1)

module _ (s : Store) (is : IsStore s) where
  -- a frame more leaves the places of all pages
  place_kept : (space page : ℕ) (image : List ℕ) (at_space at_page : ℕ) → HasPlace s.pool at_space at_page → HasPlace (with_frame s.pool space page image) at_space at_page
  place_kept space page image at_space at_page has = (
    subst (λ (n : ℕ). at_space < n) (sym (length-set s.pool.spaces space (slice_set (slice_index_or s.pool.spaces space []) page (Some image)))) has.0,
    subst (λ (n : ℕ). at_page < n) (sym (pages_stay s.pool.spaces space page (Some image) at_space)) has.1,
  )

  pub store_loaded : (space page : ℕ) (image : List ℕ) → frame_of s.pool space page ≡ None → IsImage image → IsStore (with_pool s (with_frame s.pool space page image))
  store_loaded space page image none good = record {
    config = is.config;
    area = is.area;
    places = λ at_space at_page has. place_kept space page image at_space at_page (is.places at_space at_page has);
    images = λ at_space at_page bytes there. ⊎_elim (λ here. subst IsImage (some_one image bytes (sym here.0 ∙ there)) good) (λ same. is.images at_space at_page bytes (sym same ∙ there)) (item_either None s.pool.spaces space page (Some image) at_space at_page);
    dirty = is.dirty;
    framed = λ at_space at_page dirty. let f = is.framed at_space at_page dirty in ⊎_elim (λ here. (image, here.0)) (λ same. (f.0, same ∙ f.1)) (item_either None s.pool.spaces space page (Some image) at_space at_page);
    stamps = λ at_space at_page bytes dirty there. ⊎_elim
        (λ here. let f = is.framed at_space at_page dirty in not_none f.0 (frame_of s.pool at_space at_page) (ap (λ (k : ℕ). frame_of s.pool k at_page) here.1 ∙ ap (λ (k : ℕ). frame_of s.pool space k) here.2 ∙ none) f.1)
        (λ same. is.stamps at_space at_page bytes dirty (sym same ∙ there)) (item_either None s.pool.spaces space page (Some image) at_space at_page);
    chunks = is.chunks;
    written = is.written;
  }

  pub store_changed : (space page : ℕ) (image : List ℕ) (stamp : ℕ) → has_page s.config space page ≡ true → frame_of (with_frame s.pool space page image) space page ≡ Some image → IsImage image → stamp_in image ≡ stamp → IsStore (with_image s space page image stamp)
  store_changed space page image stamp has put good stamped = record {
    config = is.config;
    area = is.area;
    places = λ at_space at_page there. place_kept space page image at_space at_page (is.places at_space at_page there);
    images = λ at_space at_page bytes there. ⊎_elim (λ here. subst IsImage (some_one image bytes (sym here.0 ∙ there)) good) (λ same. is.images at_space at_page bytes (sym same ∙ there)) (item_either None s.pool.spaces space page (Some image) at_space at_page);
    dirty = λ at_space at_page dirty. ⊎_elim
        (λ here. subst (λ (k : ℕ). has_page s.config k at_page ≡ true) (sym here.0) (subst (λ (k : ℕ). has_page s.config space k ≡ true) (sym here.1) has))
        (λ before. is.dirty at_space at_page before) (dirty_before at_space at_page dirty);
    framed = λ at_space at_page dirty. framed_now at_space at_page (dirty_before at_space at_page dirty);
    stamps = λ at_space at_page bytes dirty there. ⊎_elim
        (λ here. omega (arith, ap (λ (b : List ℕ). stamp_in b) (some_one image bytes (sym here.0 ∙ there)), stamped))
        (λ same. stamps_now at_space at_page bytes (sym same ∙ there) (dirty_before at_space at_page dirty) same there) (item_either None s.pool.spaces space page (Some image) at_space at_page);
    chunks = is.chunks;
    written = is.written;
  }
    where
      dirty_before : (at_space at_page : ℕ) → is_dirty (with_dirty (with_frame s.pool space page image) space page) at_space at_page ≡ true → ((at_space ≡ space) × (at_page ≡ page)) ⊎ (is_dirty s.pool at_space at_page ≡ true)
      dirty_before at_space at_page dirty = marked_before s.pool.dirty space page at_space at_page (is_dirty s.pool space page) dirty

      framed_now : (at_space at_page : ℕ) → ((at_space ≡ space) × (at_page ≡ page)) ⊎ (is_dirty s.pool at_space at_page ≡ true) → (bytes : List ℕ) × (frame_of (with_frame s.pool space page image) at_space at_page ≡ Some bytes)
      framed_now at_space at_page (inl here) = (image, ap (λ (k : ℕ). frame_of (with_frame s.pool space page image) k at_page) here.0 ∙ ap (λ (k : ℕ). frame_of (with_frame s.pool space page image) space k) here.1 ∙ put)
      framed_now at_space at_page (inr before) = let f = is.framed at_space at_page before in ⊎_elim (λ here. (image, here.0)) (λ same. (f.0, same ∙ f.1)) (item_either None s.pool.spaces space page (Some image) at_space at_page)

      stamps_now : (at_space at_page : ℕ) (bytes : List ℕ) → frame_of s.pool at_space at_page ≡ Some bytes → ((at_space ≡ space) × (at_page ≡ page)) ⊎ (is_dirty s.pool at_space at_page ≡ true) → frame_of (with_frame s.pool space page image) at_space at_page ≡ frame_of s.pool at_space at_page
          → frame_of (with_frame s.pool space page image) at_space at_page ≡ Some bytes → stamp_in bytes ≤ max s.last stamp
      stamps_now at_space at_page bytes was (inl here) same there =
          let new : image ≡ bytes = some_one image bytes (sym put ∙ sym (ap (λ (k : ℕ). frame_of (with_frame s.pool space page image) k at_page) here.0 ∙ ap (λ (k : ℕ). frame_of (with_frame s.pool space page image) space k) here.1) ∙ there) in
          omega (arith, ap (λ (b : List ℕ). stamp_in b) new, stamped)
      stamps_now at_space at_page bytes was (inr before) same there = omega (arith, is.stamps at_space at_page bytes before was)

  pub store_logged : (now : Log) → now.area ≡ s.log.area → IsStore (with_log s now)
  store_logged now area = record {
    config = is.config;
    area = area ∙ is.area;
    places = is.places;
    images = is.images;
    dirty = is.dirty;
    framed = is.framed;
    stamps = is.stamps;
    chunks = is.chunks;
    written = is.written;
  }

  pub store_before : (before : Captures) → IsStore (with_before s before)
  store_before before = record { config = is.config; area = is.area; places = is.places; images = is.images; dirty = is.dirty; framed = is.framed; stamps = is.stamps; chunks = is.chunks; written = is.written }

  pub store_flushed : (position : ℕ) → IsStore (with_flushed s position)
  store_flushed position = record { config = is.config; area = is.area; places = is.places; images = is.images; dirty = is.dirty; framed = is.framed; stamps = is.stamps; chunks = is.chunks; written = is.written }

  pub store_cleaned : (space page : ℕ) → has_page s.config space page ≡ true → IsStore (with_clean s space page)
  store_cleaned space page has = record {
    config = is.config;
    area = is.area;
    places = is.places;
    images = is.images;
    dirty = λ at_space at_page dirty. is.dirty at_space at_page (dirty_before at_space at_page dirty);
    framed = λ at_space at_page dirty. is.framed at_space at_page (dirty_before at_space at_page dirty);
    stamps = λ at_space at_page bytes dirty there. is.stamps at_space at_page bytes (dirty_before at_space at_page dirty) there;
    chunks = length-set s.written (place_of s.config space page).0 true ∙ is.chunks;
    written = λ chunk marked. elim (cases_eq chunk (place_of s.config space page).0) [
      | inl same ↦ subst (λ (k : ℕ). k < chunk_count s.config.spaces) (sym same) (place_bounds s.config is.config space page has).0
      | inr other ↦ is.written chunk (sym (get_or-set_other s.written (place_of s.config space page).0 chunk true false other) ∙ marked)
    ];
  }
    where
      dirty_before : (at_space at_page : ℕ) → is_dirty (without_dirty s.pool space page) at_space at_page ≡ true → is_dirty s.pool at_space at_page ≡ true
      dirty_before at_space at_page dirty = (and_parts (not (same_place (space, page) (at_space, at_page))) (is_dirty s.pool at_space at_page) (sym (clean_is s.pool space page at_space at_page) ∙ dirty)).1

  pub store_unmarked : IsStore (with_written s no_marks)
  store_unmarked = record {
    config = is.config;
    area = is.area;
    places = is.places;
    images = is.images;
    dirty = is.dirty;
    framed = is.framed;
    stamps = is.stamps;
    chunks = refl;
    written = λ chunk marked. absurd (none chunk marked);
  }
    where
      none : (chunk : ℕ) → is_written no_marks chunk ≡ true → ⊥
      none chunk marked = let clash : false ≡ true = sym (replicated 31 chunk false) ∙ marked in cc

-- memory for a page may be refused
pub store_put : {E : Type 0} (s : Store) → IsStore s → (space page : ℕ) (image : List ℕ) (now : Frames) (result : Result Unit E) → frame_of s.pool space page ≡ None → IsImage image → OnOk result (now ≡ with_frame s.pool space page image) → OnErr result (now ≡ s.pool) → IsStore (with_pool s now)
store_put s is space page image now (Ok u) none good put kept = subst (λ (p : Frames). IsStore (with_pool s p)) (sym put) (store_loaded s is space page image none good)
store_put s is space page image now (Err e) none good put kept = subst (λ (p : Frames). IsStore (with_pool s p)) (sym kept) is

-- a store that begins
pub store_begun : (c : Config) (log : Log) (before : Captures) → IsConfig c → log.area ≡ physical_area c → IsStore (begun c log before)
store_begun c log before is area = record {
  config = is;
  area = area;
  places = λ space page has. (places_are c space page).1 has;
  images = λ space page bytes there. not_none bytes (frame_of (no_frames c) space page) (each_is (data_pages c) None 0 (length c.spaces) space page) there;
  dirty = λ space page dirty. absurd (let clash : false ≡ true = dirty in cc);
  framed = λ space page dirty. absurd (let clash : false ≡ true = dirty in cc);
  stamps = λ space page bytes dirty there. absurd (let clash : false ≡ true = dirty in cc);
  chunks = refl;
  written = λ chunk marked. absurd (let clash : false ≡ true = sym (replicated 31 chunk false) ∙ marked in cc);
}
