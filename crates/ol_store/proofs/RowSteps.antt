-- A row is changed in a page that is in memory.
use Rattle.std.proofs.Common.{is_some, None, ◌≡◌, ℕ, ◌<◌, ◌≤◌, ◌^◌, ◌||◌, ◌++◌, ◌∷◌, ⊎_elim, Bool, true, false, Some, Option, IfSome, List, [], length, max, Result, Ok, Err, OnOk, refl, sym, ◌∙◌, ap, subst, if◌then◌else◌}
use Rattle.std.proofs.lemmas.Nat.{from_be_bytes-to_be_bytes_8}
use Rattle.std.proofs.lemmas.List.Folds.{list_any-append}
use Rattle.std.specs.List.{list_any}
use Rattle.ol_values.specs.Config.{Config, has_page, has_place}
use Rattle.ol_values.specs.Image.{IsDataPage, IsPage, page_bytes, with_slot}
use Rattle.ol_values.specs.Pages.{Page}
use Rattle.ol_values.specs.declared.record.Rid.{Rid}
use Rattle.ol_values.specs.declared.row.Row.{Row}
use Rattle.ol_ports.specs.Disk.{Past}
use Rattle.ol_before.specs.Images.{Captures, captured}
use Rattle.ol_pool.specs.Frames.{Frames, HasPlace, frame_of, is_dirty, same_place, with_dirty, with_frame}
use Rattle.ol_pool.proofs.ItemLaws.{item_either, item_same, page_there, space_there}
use Rattle.ol_pool.proofs.PlaceLaws.{same_self, same_tells}
use Rattle.ol_store.specs.Holding.{CleanAreFlushed, IsOnDisk}
use Rattle.ol_store.specs.Pages.{IsUp, Pages, changed}
use Rattle.ol_store.specs.Stores.{IsChanged, IsLoaded, IsStore, Store, image_with, is_touched, stamp_in, with_before, with_entry, with_image, with_log}
use Rattle.ol_store.proofs.EntryLaws.{entry_there}
use Rattle.ol_store.proofs.ChangeLaws.{page_changed, page_elsewhere, slot_set}
use Rattle.ol_store.proofs.LoadLaws.{loaded_page, page_of_place, slot_of_place}
use Rattle.ol_store.proofs.StoreLaws.{some_one, store_changed}

pub before_alone : (s now : Store) (before : Captures) → now ≡ with_before s before → now ≡ with_before s now.before
before_alone s now before same = same ∙ ap (λ (t : Store). with_before s t.before) (sym same)

-- ---- the list of dirty pages

pub dirty_here : (p : Frames) (space page : ℕ) → is_dirty (with_dirty p space page) space page ≡ true
dirty_here p space page = each (is_dirty p space page) refl
  where
    each : (b : Bool) → is_dirty p space page ≡ b → list_any (same_place (space, page)) (if b then p.dirty else p.dirty ++ (space, page) ∷ []) ≡ true
    each true was = was
    each false was = list_any-append (same_place (space, page)) p.dirty ((space, page) ∷ []) ∙ ap (λ (b : Bool). b || (same_place (space, page) (space, page) || false)) was ∙ ap (λ (b : Bool). b || false) (same_self space page)

pub dirty_elsewhere : (p : Frames) (space page at_space at_page : ℕ) → ((space ≡ at_space) × (page ≡ at_page) → ⊥) → is_dirty (with_dirty p space page) at_space at_page ≡ is_dirty p at_space at_page
dirty_elsewhere p space page at_space at_page differ = each (is_dirty p space page)
  where
    other : same_place (at_space, at_page) (space, page) ≡ false
    other = ⊎_elim (λ same. absurd (differ (same.1, same.2))) (λ out. out.0) (same_tells at_space at_page space page)

    or_none : (b : Bool) → (b || false) ≡ b
    or_none true = refl
    or_none false = refl

    each : (b : Bool) → list_any (same_place (at_space, at_page)) (if b then p.dirty else p.dirty ++ (space, page) ∷ []) ≡ is_dirty p at_space at_page
    each true = refl
    each false = list_any-append (same_place (at_space, at_page)) p.dirty ((space, page) ∷ []) ∙ ap (λ (b : Bool). is_dirty p at_space at_page || (b || false)) other ∙ or_none (is_dirty p at_space at_page)

-- a page in memory has a place there
pub place_there : (p : Frames) (space page : ℕ) (bytes : List ℕ) → frame_of p space page ≡ Some bytes → HasPlace p space page
place_there p space page bytes there =
    let within = page_there p.spaces space page (ap is_some there) in
    (space_there p.spaces space page within, within)

pub put_there : (p : Frames) (space page : ℕ) (bytes image : List ℕ) → frame_of p space page ≡ Some bytes → frame_of (with_frame p space page image) space page ≡ Some image
put_there p space page bytes image there = let has = place_there p space page bytes there in item_same None p.spaces space page (Some image) has.0 has.1

put_elsewhere : (p : Frames) (space page : ℕ) (image : List ℕ) (at_space at_page : ℕ) → ((space ≡ at_space) × (page ≡ at_page) → ⊥) → frame_of (with_frame p space page image) at_space at_page ≡ frame_of p at_space at_page
put_elsewhere p space page image at_space at_page differ = ⊎_elim (λ here. absurd (differ (sym here.1, sym here.2))) (λ same. same) (item_either None p.spaces space page (Some image) at_space at_page)

-- ---- a row

-- the stamp in a page's image is the page's
pub stamp_back : (p : Page) → IsPage p → stamp_in (page_bytes p) ≡ p.stamp
stamp_back p is = from_be_bytes-to_be_bytes_8 p.stamp is.stamp

module _ (s : Store) (rid : Rid) (row : Option Row) (stamp : ℕ) (fits : IfSome row (λ r. length r ≤ 63)) (some : 0 < stamp) (limit : stamp ≤ 2 ^ 62) (bytes : List ℕ) (there : frame_of s.pool rid.space rid.page ≡ Some bytes) (slot : rid.slot < 31) where
  abbrev image_of_row : Page → List ℕ
  image_of_row p = page_bytes (with_slot p rid.slot row stamp)

  -- what is always so is kept
  pub row_kept : IsStore s → has_page s.config rid.space rid.page ≡ true → (p : Page) → IsDataPage p → IsStore (with_image s rid.space rid.page (image_of_row p) stamp)
  row_kept is has p good =
      let now = slot_set p rid.slot row stamp good slot fits some limit in
      store_changed s is rid.space rid.page (image_of_row p) stamp has (put_there s.pool rid.space rid.page bytes (image_of_row p) there) (with_slot p rid.slot row stamp, now, refl) (stamp_back (with_slot p rid.slot row stamp) now.page)

  -- and the page is the changed one
  pub row_stored : (past : Past) (v : Pages) → IsOnDisk past s v → v.is_up rid.space ≡ true → has_page s.config rid.space rid.page ≡ true → is_touched s.log rid.space rid.page ≡ true
      → IsOnDisk past (with_image s rid.space rid.page (image_of_row (v.now rid.space rid.page)) stamp) (changed v rid row stamp)
  row_stored past v h up has touched =
      page_changed past s.config s.pool (with_dirty (with_frame s.pool rid.space rid.page (image_of_row (v.now rid.space rid.page))) rid.space rid.page) s.log s.written v h rid row stamp touched
      (λ space page differ. put_elsewhere s.pool rid.space rid.page (image_of_row (v.now rid.space rid.page)) space page differ)
      (put_there s.pool rid.space rid.page bytes (image_of_row (v.now rid.space rid.page)) there)
      (dirty_here (with_frame s.pool rid.space rid.page (image_of_row (v.now rid.space rid.page))) rid.space rid.page)
      (λ space page differ. dirty_elsewhere (with_frame s.pool rid.space rid.page (image_of_row (v.now rid.space rid.page))) rid.space rid.page space page differ)
      (slot_set (v.now rid.space rid.page) rid.slot row stamp (h.pages rid.space rid.page (up, has)) slot fits some limit)

-- ---- the steps of a change

-- an image may be captured, an entry added, and then the page changed
module _ (s one two three : Store) (space page stamp : ℕ) (first : one ≡ with_before s one.before) (second : two ≡ with_log one (with_entry one.log space page)) where
  pub two_is : two ≡ with_log (with_before s one.before) (with_entry s.log space page)
  two_is = second ∙ ap (λ (t : Store). with_log t (with_entry t.log space page)) first

  pub steps_change : (image : List ℕ) → three ≡ with_image two space page image stamp → IsChanged s three space page stamp
  steps_change image third = subst (λ (t : Store). IsChanged s t space page stamp) (sym (third ∙ ap (λ (t : Store). with_image t space page image stamp) two_is))
      (record { config = refl; log = refl; dirty = refl; written = refl; flushed = refl; last = refl })

  pub before_is : (image : List ℕ) → three ≡ with_image two space page image stamp → three.before ≡ one.before
  before_is image third = ap (λ (t : Store). t.before) (third ∙ ap (λ (t : Store). with_image t space page image stamp) two_is)

  -- so the disk holds the changed page
  pub change_stored : (rid : Rid) (row : Option Row) → rid.space ≡ space → rid.page ≡ page → IfSome row (λ r. length r ≤ 63) → 0 < stamp → stamp ≤ 2 ^ 62 → (bytes : List ℕ) → frame_of s.pool rid.space rid.page ≡ Some bytes → has_place s.config rid ≡ true
      → (past : Past) (v : Pages) → IsOnDisk past two v → v.is_up rid.space ≡ true
      → three ≡ with_image two rid.space rid.page (page_bytes (with_slot (v.now rid.space rid.page) rid.slot row stamp)) stamp → IsOnDisk past three (changed v rid row stamp)
  change_stored rid row same_space same_page fits some limit bytes there has past v h up third =
      subst (λ (t : Store). IsOnDisk past t (changed v rid row stamp)) (sym third)
      (row_stored two rid row stamp fits some limit bytes (subst (λ (t : Store). frame_of t.pool rid.space rid.page ≡ Some bytes) (sym two_is) there) (slot_of_place s.config rid has) past v h up
      (subst (λ (t : Store). has_page t.config rid.space rid.page ≡ true) (sym two_is) (page_of_place s.config rid has))
      (subst (λ (t : Store). is_touched t.log rid.space rid.page ≡ true) (sym two_is) (subst (λ (k : ℕ). is_touched (with_entry s.log k page) rid.space rid.page ≡ true) same_space (subst (λ (k : ℕ). is_touched (with_entry s.log rid.space k) rid.space rid.page ≡ true) same_page (entry_there s.log rid.space rid.page)))))

-- the image that was captured is the page's
pub image_captured : {E : Type 0} (past : Past) (old new now : Store) (v : Pages) (space page : ℕ) (result : Result Unit E) → IsLoaded old new space page → IsOnDisk past new v → v.is_up space ≡ true → has_page old.config space page ≡ true
    → OnOk result ((image : List ℕ) × (frame_of new.pool space page ≡ Some image) × (now.before ≡ captured (image_with space page image) new.before)) → OnOk result (now.before ≡ captured (image_with space page (page_bytes (v.now space page))) old.before)
image_captured past old new now v space page (Err e) loaded h up has is = tt
image_captured past old new now v space page (Ok u) loaded h up has is =
    let there = (loaded_page past old new v space page loaded h up has).0 in
    is.2 ∙ ap (λ (b : List ℕ). captured (image_with space page b) new.before) (some_one is.0 (page_bytes (v.now space page)) (sym is.1 ∙ there)) ∙ ap (λ (t : Store). captured (image_with space page (page_bytes (v.now space page))) t.before) loaded.rest

-- a store whose pool and last stamp are those of a page that was changed
pub row_is : (s : Store) (pool : Frames) (last : ℕ) (space page : ℕ) (image : List ℕ) (stamp : ℕ) → pool ≡ with_dirty (with_frame s.pool space page image) space page → last ≡ max s.last stamp
    → (let t : Store = record { config = s.config; pool = pool; log = s.log; before = s.before; written = s.written; flushed = s.flushed; last = last } in t ≡ with_image s space page image stamp)
row_is s pool last space page image stamp put latest =
    ap (λ (p : Frames). let t : Store = record { config = s.config; pool = p; log = s.log; before = s.before; written = s.written; flushed = s.flushed; last = last } in t) put
    ∙ ap (λ (n : ℕ). let t : Store = record { config = s.config; pool = with_dirty (with_frame s.pool space page image) space page; log = s.log; before = s.before; written = s.written; flushed = s.flushed; last = n } in t) latest

-- ---- the log is flushed to the stamps of clean pages

flushed_alike : (old new : Store) (v : Pages) → new.config ≡ old.config → new.flushed ≡ old.flushed → new.pool.dirty ≡ old.pool.dirty → CleanAreFlushed old v → CleanAreFlushed new v
flushed_alike old new v config flushed dirty before space page up clean =
    subst (λ (n : ℕ). (v.now space page).stamp ≤ n) (sym flushed)
    (before space page (subst (λ (k : Config). IsUp k v space page) config up) (ap (λ (l : List (ℕ × ℕ)). list_any (same_place (space, page)) l) (sym dirty) ∙ clean))

pub loaded_flushed : (old new : Store) (v : Pages) (space page : ℕ) → IsLoaded old new space page → CleanAreFlushed old v → CleanAreFlushed new v
loaded_flushed old new v space page loaded before = flushed_alike old new v (ap (λ (t : Store). t.config) loaded.rest) (ap (λ (t : Store). t.flushed) loaded.rest) loaded.dirty before

pub changed_flushed : {E : Type 0} (old new : Store) (v : Pages) (rid : Rid) (row : Option Row) (stamp : ℕ) (result : Result Unit E) → OnOk result (IsChanged old new rid.space rid.page stamp) → CleanAreFlushed old v → OnOk result (CleanAreFlushed new (changed v rid row stamp))
changed_flushed old new v rid row stamp (Err e) is before = tt
changed_flushed old new v rid row stamp (Ok u) is before = λ space page up clean.
    let was : is_dirty (with_dirty old.pool rid.space rid.page) space page ≡ false = ap (λ (l : List (ℕ × ℕ)). list_any (same_place (space, page)) l) (sym is.dirty) ∙ clean in
    let differ : (rid.space ≡ space) × (rid.page ≡ page) → ⊥ = λ both.
    let here = subst (λ (k : ℕ). is_dirty (with_dirty old.pool rid.space rid.page) k page ≡ true) both.0 (subst (λ (k : ℕ). is_dirty (with_dirty old.pool rid.space rid.page) rid.space k ≡ true) both.1 (dirty_here old.pool rid.space rid.page)) in
    let clash : true ≡ false = sym here ∙ was in cc in
    subst (λ (p : Page). p.stamp ≤ new.flushed) (sym (page_elsewhere v.now rid.space rid.page space page (with_slot (v.now rid.space rid.page) rid.slot row stamp) differ))
    (subst (λ (n : ℕ). (v.now space page).stamp ≤ n) (sym is.flushed)
    (before space page (subst (λ (k : Config). IsUp k v space page) is.config up) (sym (dirty_elsewhere old.pool rid.space rid.page space page differ) ∙ was)))
