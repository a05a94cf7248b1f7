-- A page comes into memory.
use Rattle.std.proofs.Common.{◌≡◌, ℕ, ◌<◌, ⊎_elim, Bool, true, false, Some, None, Option, is_some, List, length, Result, Ok, Err, OnOk, refl, sym, ◌∙◌, ap, subst}
use Rattle.std.proofs.lemmas.Bool.{and_parts, ltb-true}
use Rattle.std.specs.Prelude.{nat_lt}
use Rattle.ol_values.specs.Config.{Config, has_page, has_place}
use Rattle.ol_values.specs.Image.{IsDataPage, page_bytes}
use Rattle.ol_values.specs.declared.record.Rid.{Rid}
use Rattle.ol_ports.specs.Disk.{Past, seen}
use Rattle.ol_ports.proofs.DiskLaws.{rest-seen}
use Rattle.ol_physlog.specs.States.{Log}
use Rattle.ol_before.specs.Images.{Captures}
use Rattle.ol_pool.specs.Frames.{frame_of, is_dirty, no_frames, with_frame}
use Rattle.ol_pool.proofs.ItemLaws.{each_is, item_either, item_same}
use Rattle.ol_values.specs.Config.{data_pages}
use Rattle.ol_data_pages.specs.Places.{standing_bytes}
use Rattle.ol_store.specs.Holding.{IsFresh, IsOnDisk}
use Rattle.ol_store.specs.Pages.{IsUp, Pages}
use Rattle.ol_store.specs.Stores.{IsLoaded, IsStore, Store, begun, with_pool}
use Rattle.ol_store.proofs.ChangeLaws.{page_loaded}
use Rattle.ol_store.proofs.StoreLaws.{not_none, some_one}

-- the place of a row is one of a page
pub page_of_place : (c : Config) (rid : Rid) → has_place c rid ≡ true → has_page c rid.space rid.page ≡ true
page_of_place c rid has = (and_parts (has_page c rid.space rid.page) (nat_lt rid.slot 31) has).0

pub slot_of_place : (c : Config) (rid : Rid) → has_place c rid ≡ true → rid.slot < 31
slot_of_place c rid has = ltb-true rid.slot 31 (and_parts (has_page c rid.space rid.page) (nat_lt rid.slot 31) has).1

-- a page that is not found in memory
pub is_none : (o : Option (List ℕ)) (b : Bool) → b ≡ is_some o → b ≡ false → o ≡ None
is_none None b is not = refl
is_none (Some bytes) b is not = absurd (let clash : false ≡ true = sym not ∙ is in cc)

-- an error of one result is that of another
pub err_moved : {A B E : Type 0} (e f : E) → (let r : Result A E = Err e in r ≡ Err f) → (let r : Result B E = Err e in r ≡ Err f)
err_moved e f same = ap Err (let one : e ≡ f = cc in one)

-- a page that is there is loaded
pub loaded_before : (s : Store) (space page : ℕ) (bytes : List ℕ) → frame_of s.pool space page ≡ Some bytes → IsLoaded s s space page
loaded_before s space page bytes there = record { rest = refl; dirty = refl; others = λ at_space at_page b is. is; there = (bytes, there) }

module _ (s : Store) (is : IsStore s) (space page : ℕ) (has : has_page s.config space page ≡ true) (none : frame_of s.pool space page ≡ None) (image : List ℕ) where
  abbrev now : Store
  now = with_pool s (with_frame s.pool space page image)

  loaded_now : IsLoaded s now space page
  loaded_now = record {
    rest = refl;
    dirty = refl;
    others = λ at_space at_page bytes there. ⊎_elim
        (λ here. not_none bytes (frame_of s.pool at_space at_page) (ap (λ (k : ℕ). frame_of s.pool k at_page) here.1 ∙ ap (λ (k : ℕ). frame_of s.pool space k) here.2 ∙ none) there)
        (λ same. same ∙ there) (item_either None s.pool.spaces space page (Some image) at_space at_page);
    there = (image, let p = is.places space page has in item_same None s.pool.spaces space page (Some image) p.0 p.1);
  }

  pub kept_loaded : {E : Type 0} (new : Store) (result : Result Unit E) → OnOk result (new ≡ now) → OnOk result (IsLoaded s new space page)
  kept_loaded new (Ok u) same = subst (λ (t : Store). IsLoaded s t space page) (sym same) loaded_now
  kept_loaded new (Err e) same = tt

  -- no page that is not in memory is dirty
  pub not_dirty : is_dirty s.pool space page ≡ false
  not_dirty = each (is_dirty s.pool space page) refl
    where
      each : (b : Bool) → is_dirty s.pool space page ≡ b → is_dirty s.pool space page ≡ false
      each false out = out
      each true dirty = let f = is.framed space page dirty in not_none f.0 (frame_of s.pool space page) none f.1

  module _ (old past : Past) (same_past : past ≡ old) (v : Pages) (h : IsOnDisk old s v) (up : v.is_up space ≡ true) (read : image ≡ standing_bytes s.config (seen old) space page) where
    image_now : image ≡ page_bytes (v.now space page)
    image_now = read ∙ h.clean space page (up, has) not_dirty

    stored_now : IsOnDisk old now v
    stored_now = page_loaded old s.config s.pool now.pool s.log s.written v h refl (λ at_space at_page bytes is_up there. ⊎_elim
        (λ here. some_one bytes image (sym there ∙ here.0) ∙ image_now ∙ ap (λ (k : ℕ). page_bytes (v.now k page)) (sym here.1) ∙ ap (λ (k : ℕ). page_bytes (v.now at_space k)) (sym here.2))
        (λ same. h.in_memory at_space at_page bytes is_up (sym same ∙ there)) (item_either None s.pool.spaces space page (Some image) at_space at_page))

    pub kept_stored : {E : Type 0} (new : Store) (result : Result Unit E) → OnOk result (new ≡ now) → OnOk result (IsOnDisk past new v)
    kept_stored new (Ok u) same = subst (λ (p : Past). IsOnDisk p new v) (sym same_past) (subst (λ (t : Store). IsOnDisk old t v) (sym same) stored_now)
    kept_stored new (Err e) same = tt

-- what is read of a loaded page
pub loaded_page : (past : Past) (old new : Store) (v : Pages) (space page : ℕ) → IsLoaded old new space page → IsOnDisk past new v → v.is_up space ≡ true → has_page old.config space page ≡ true → (frame_of new.pool space page ≡ Some (page_bytes (v.now space page))) × IsDataPage (v.now space page)
loaded_page past old new v space page loaded h up has =
    let here : IsUp new.config v space page = (up, subst (λ (c : Config). has_page c space page ≡ true) (sym (ap (λ (t : Store). t.config) loaded.rest)) has) in
    (loaded.there.1 ∙ ap (λ (b : List ℕ). Some b) (h.in_memory space page loaded.there.0 here loaded.there.1), h.pages space page here)

-- a store that begins
pub fresh_stored : (past : Past) (c : Config) (log : Log) (before : Captures) (v : Pages) → IsFresh past c log v → IsOnDisk past (begun c log before) v
fresh_stored past c log before v fresh = record {
  laid = fresh.laid;
  unsettled = λ d rest space page up un. fresh.places d rest space page up ∙ ap page_bytes (fresh.unchanged space page up);
  dirty = λ space page is. absurd (let clash : false ≡ true = is in cc);
  clean = λ space page up not_dirty. fresh.places (seen past) (rest-seen past) space page up;
  synced = λ d rest space page up not_dirty unmarked. fresh.places d rest space page up;
  in_memory = λ space page bytes up there. not_none bytes (frame_of (no_frames c) space page) (each_is (data_pages c) None 0 (length c.spaces) space page) there;
  untouched = λ space page up none. fresh.unchanged space page up;
  pages = fresh.pages;
}
