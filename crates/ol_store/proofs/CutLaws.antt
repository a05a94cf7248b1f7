-- What an archive takes of each page.
use Rattle.std.specs.Prelude.{nat_lt}
use Rattle.std.proofs.Common.{◌≡◌, ℕ, ◌+◌, ◌<◌, ◌≤◌, if◌then◌else◌, inl, inr, Bool, true, false, Some, None, Option, List, [], refl, sym, ◌∙◌, ap, arith}
use Rattle.std.proofs.lemmas.Bool.{cases_eq, ltb-true}
use Rattle.std.proofs.lemmas.Bool.Decides.{nat_tests}
use Rattle.ol_values.specs.Config.{Config, has_page}
use Rattle.ol_values.specs.Image.{page_bytes}
use Rattle.ol_values.specs.Pages.{Page}
use Rattle.ol_ports.specs.Disk.{Past, seen}
use Rattle.ol_before.specs.Images.{Captures, image_of}
use Rattle.ol_cursor.specs.Order.{archives, is_wanted, precedes}
use Rattle.ol_cursor.specs.declared.cursor.Cursor.{Cursor}
use Rattle.ol_data_pages.specs.Places.{standing_bytes}
use Rattle.ol_pool.specs.Frames.{frame_of}
use Rattle.ol_store.specs.Archives.{NoneBefore, captured_or_now, image_at_cut, taken}
use Rattle.ol_store.specs.Holding.{IsOnDisk}
use Rattle.ol_store.specs.Pages.{Pages}
use Rattle.ol_store.specs.Stores.{IsStore, Store}
use Rattle.ol_store.proofs.LoadLaws.{not_dirty}

-- a page is taken where its stamp is wanted
pub taken_as_wanted : (cursor : Cursor) (space : ℕ) (p : Page) (stamp : ℕ) (bytes : List ℕ) (wanted : Bool) → bytes ≡ page_bytes p → stamp ≡ p.stamp → wanted ≡ is_wanted cursor space stamp
    → (if is_wanted cursor space p.stamp then Some (page_bytes p) else None) ≡ taken wanted bytes
taken_as_wanted cursor space p stamp bytes wanted is stamped wants =
    each (is_wanted cursor space p.stamp) (page_bytes p) ∙ ap (λ (b : Bool). taken b (page_bytes p)) (sym (wants ∙ ap (λ (n : ℕ). is_wanted cursor space n) stamped)) ∙ ap (λ (l : List ℕ). taken wanted l) (sym is)
  where
    each : (b : Bool) (l : List ℕ) → (if b then Some l else None) ≡ taken b l
    each true l = refl
    each false l = refl

-- a page of one of the archive's spaces, of which no image is held
pub cut_now : (cursor : Cursor) (b : Captures) (v : Pages) (space page : ℕ) → archives cursor space ≡ true → image_of b.held space page ≡ None → image_at_cut cursor b v space page ≡ captured_or_now None cursor v space page
cut_now cursor b v space page archived none =
    ap (λ (is : Bool). if is then captured_or_now (image_of b.held space page) cursor v space page else None) archived ∙ ap (λ (o : Option (List ℕ)). captured_or_now o cursor v space page) none

-- a page of a space that is up, not in memory, as it was read from its place
pub read_now : (s : Store) → IsStore s → (space page : ℕ) → has_page s.config space page ≡ true → frame_of s.pool space page ≡ None → (past : Past) (v : Pages) → IsOnDisk past s v → v.is_up space ≡ true → (bytes : List ℕ) → bytes ≡ standing_bytes s.config (seen past) space page
    → bytes ≡ page_bytes (v.now space page)
read_now s is space page has none past v h up bytes read = read ∙ h.clean space page (up, has) (not_dirty s is space page has none [])

-- what stands before the next space stands before a place behind all pages of the space
before_end : (p : ℕ × ℕ) (space page : ℕ) → (p.0 ≡ space → p.1 < page) → precedes p (space + 1, 0) ≡ true → precedes p (space, page) ≡ true
before_end p space page within before = elim (cases_eq p.0 space) [
  | inl same ↦ let lt = within same in grind (arith, nat_tests)
  | inr other ↦ grind (arith, nat_tests)
]

-- none of a space, where none up to its end is
pub none_in_space : (c : Config) (cursor : Cursor) (b : Captures) (v : Pages) (space page count : ℕ) → ((at_page : ℕ) → has_page c space at_page ≡ nat_lt at_page count) → count ≤ page → NoneBefore c cursor b v (space, page) → NoneBefore c cursor b v (space + 1, 0)
none_in_space c cursor b v space page count counted end none at_space at_page has ahead before =
    none at_space at_page has ahead (before_end (at_space, at_page) space page
    (λ same. let lt = ltb-true at_page count (sym (counted at_page) ∙ ap (λ (k : ℕ). has_page c k at_page) (sym same) ∙ has) in omega (arith, lt, end)) before)
