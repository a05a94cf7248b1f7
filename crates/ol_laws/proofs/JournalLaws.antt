-- One record more: what places, stamps and pages are after it.
use Rattle.std.specs.List.{enumerate_from, range_with_len}
use Rattle.std.specs.Prelude.{Bool, List, None, Option, [], false, fold, if◌then◌else◌, length, map, true, ℕ, ◌&&◌, ◌++◌, ◌+◌, ◌<◌, ◌==◌, ◌∷◌, ◌≡◌, ◌≤◌, ◌≢◌, refl, slice_index_or, slice_set, suc, zero}
use Rattle.std.proofs.Common.{ap, sym, ◌∙◌, arith, eq-eqb}
use Rattle.std.proofs.lemmas.Bool.{and_parts, eqb-true}
use Rattle.std.proofs.lemmas.List.Sums.{fold-append}
use Rattle.ol_values.specs.declared.record.Record.{Record}
use Rattle.ol_values.specs.declared.record.Record.TheVariants.{Begin as BeginRecord, Change, Commit as CommitRecord, Rolled, Undo}
use Rattle.ol_values.specs.declared.record.Rid.{Rid}
use Rattle.ol_values.specs.declared.row.Row.{Row}
use Rattle.ol_values.specs.Pages.{Page, blank}
use Rattle.ol_values.specs.Pages.{rid_of}
use Rattle.ol_rules.specs.Journal.{page_at, page_from, row_after, row_at, row_from, same_place, stamp_after, stamp_at, touches}
use Rattle.ol_values.specs.Image.{with_slot}

-- ---- places and stamps

pub row_at-push : (j : List Record) (r : Record) (place : Rid) → row_at (j ++ r ∷ []) place ≡ row_after place (row_at j place) r
row_at-push j r place = fold-append (row_after place) None j (r ∷ [])

pub enumerate_from-append : {X : Type 0} (n : ℕ) (xs ys : List X) → enumerate_from n (xs ++ ys) ≡ enumerate_from n xs ++ enumerate_from (n + length xs) ys
enumerate_from-append n [] ys = ap (λ (k : ℕ). enumerate_from k ys) (omega arith)
enumerate_from-append {X = X} n (x ∷ xs) ys =
    ap (λ (l : List (ℕ × X)). (n, x) ∷ l) (enumerate_from-append (n + 1) xs ys
    ∙ ap (λ (k : ℕ). enumerate_from (n + 1) xs ++ enumerate_from k ys) (omega arith))

pub stamp_at-push : (j : List Record) (r : Record) (space page : ℕ) → stamp_at (j ++ r ∷ []) space page ≡ stamp_after space page (stamp_at j space page) (1 + length j, r)
stamp_at-push j r space page =
    ap (λ (l : List (ℕ × Record)). fold (stamp_after space page) 0 l) (enumerate_from-append 1 j (r ∷ []))
    ∙ fold-append (stamp_after space page) 0 (enumerate_from 1 j) (enumerate_from (1 + length j) (r ∷ []))

-- ---- pages

pub map_same : {X : Type 0} (f g : ℕ → X) (a n : ℕ) → ((k : ℕ) → a ≤ k → k < a + n → f k ≡ g k) → map f (range_with_len a n) ≡ map g (range_with_len a n)
map_same f g a zero same = refl
map_same {X = X} f g a (suc n) same =
    ap (λ (x : X). x ∷ map f (range_with_len (a + 1) n)) (same a (omega arith) (omega arith))
    ∙ ap (λ (l : List X). g a ∷ l) (map_same f g (a + 1) n (λ k le lt. same k (omega arith) (omega arith)))

-- a list that is computed from its indexes, with one element replaced
set_range : {X : Type 0} (f g : ℕ → X) (a n i : ℕ) (v : X) → i < n → g (a + i) ≡ v → ((k : ℕ) → k ≢ a + i → f k ≡ g k) → slice_set (map f (range_with_len a n)) i v ≡ map g (range_with_len a n)
set_range f g a zero i v lt here others = absurd (omega arith)
set_range {X = X} f g a (suc n) zero v lt here others =
    let at_first : g a ≡ g (a + 0) = ap g (omega arith) in
    ap (λ (x : X). x ∷ map f (range_with_len (a + 1) n)) (sym here ∙ sym at_first)
    ∙ ap (λ (l : List X). g a ∷ l) (map_same f g (a + 1) n (λ k le lt. others k (omega arith)))
set_range {X = X} f g a (suc n) (suc i) v lt here others =
    let there : g (a + 1 + i) ≡ v = ap g (omega arith) ∙ here in
    ap (λ (x : X). x ∷ slice_set (map f (range_with_len (a + 1) n)) i v) (others a (omega arith))
    ∙ ap (λ (l : List X). g a ∷ l) (set_range f g (a + 1) n i v (omega arith) there (λ k h. others k (omega arith)))

-- a place of the page that a record changes is on the page that it touches
same_page : (rid place : Rid) → same_place rid place ≡ true → ((rid.space == place.space) && (rid.page == place.page)) ≡ true
same_page rid place h =
    let q = and_parts (rid.space == place.space) ((rid.page == place.page) && (rid.slot == place.slot)) h in
    rw (q.0) ((and_parts (rid.page == place.page) (rid.slot == place.slot) q.1).0)

kept_by : (rid place : Rid) (held value : Option Row) → ((rid.space == place.space) && (rid.page == place.page)) ≡ false → (if same_place rid place then value else held) ≡ held
kept_by rid place held value h =
    cases (same_place rid place) refl
  where
    cases : (b : Bool) → same_place rid place ≡ b → (if b then value else held) ≡ held
    cases true e = absurd (let f : true ≡ false = sym (same_page rid place e) ∙ h in cc)
    cases false e = refl

-- what a record leaves a place of a page that it does not touch
pub row_kept : (r : Record) (space page slot : ℕ) (held : Option Row) → touches space page r ≡ false → row_after (rid_of space page slot) held r ≡ held
row_kept (BeginRecord txn) space page slot held h = refl
row_kept (Change txn rid before after) space page slot held h = kept_by rid (rid_of space page slot) held after h
row_kept (Undo txn rid value) space page slot held h = kept_by rid (rid_of space page slot) held value h
row_kept (CommitRecord txn) space page slot held h = refl
row_kept (Rolled txn) space page slot held h = refl

abbrev slot_of : List Record → ℕ → ℕ → ℕ → Option Row
slot_of j space page k = row_from (slice_index_or blank.slots k None) j (rid_of space page k)

slot_of-push : (j : List Record) (r : Record) (space page k : ℕ) → slot_of (j ++ r ∷ []) space page k ≡ row_after (rid_of space page k) (slot_of j space page k) r
slot_of-push j r space page k = fold-append (row_after (rid_of space page k)) (slice_index_or blank.slots k None) j (r ∷ [])

pub same_pages : (stamp stamp' : ℕ) (slots slots' : List (Option Row)) → stamp ≡ stamp' → slots ≡ slots'
    → ◌≡◌ {A = Page} (record { stamp = stamp; slots = slots }) (record { stamp = stamp'; slots = slots' })
same_pages stamp stamp' slots slots' p q =
    ap (λ (s : ℕ). let r : Page = record { stamp = s; slots = slots } in r) p
    ∙ ap (λ (l : List (Option Row)). let r : Page = record { stamp = stamp'; slots = l } in r) q

-- a record that does not touch a page leaves it
pub page_at-untouched : (j : List Record) (r : Record) (space page : ℕ) → touches space page r ≡ false → page_at (j ++ r ∷ []) space page ≡ page_at j space page
unfolding page_from
page_at-untouched j r space page h =
    same_pages _ _ _ _
    (stamp_at-push j r space page ∙ rw (h) refl)
    (map_same (slot_of (j ++ r ∷ []) space page) (slot_of j space page) 0 31 (λ k le lt. slot_of-push j r space page k ∙ row_kept r space page k (slot_of j space page k) h))

pub same_self : (n : ℕ) → (n == n) ≡ true
same_self n = eq-eqb n n refl

other_slot : (rid : Rid) (k : ℕ) → k ≢ rid.slot → same_place rid (rid_of rid.space rid.page k) ≡ false
other_slot rid k ne =
    rw (same_self rid.space, same_self rid.page) (cases (rid.slot == k) refl)
  where
    cases : (b : Bool) → (rid.slot == k) ≡ b → b ≡ false
    cases true e = absurd (ne (sym (eqb-true rid.slot k e)))
    cases false e = refl

-- a Change puts its after value into its slot, and its position on the page
pub page_at-changed : (j : List Record) (txn : ℕ) (rid : Rid) (before after : Option Row) → rid.slot < 31
    → page_at (j ++ Change txn rid before after ∷ []) rid.space rid.page ≡ with_slot (page_at j rid.space rid.page) rid.slot after (length j + 1)
unfolding page_from
page_at-changed j txn rid before after lt =
    let r : Record = Change txn rid before after in
    let new : ℕ → Option Row = slot_of (j ++ r ∷ []) rid.space rid.page in
    let old : ℕ → Option Row = slot_of j rid.space rid.page in
    let here : new (0 + rid.slot) ≡ after =
    ap new (let e : 0 + rid.slot ≡ rid.slot = omega arith in e) ∙ slot_of-push j r rid.space rid.page rid.slot ∙ rw (same_self rid.space, same_self rid.page, same_self rid.slot) refl in
    let others : (k : ℕ) → k ≢ 0 + rid.slot → old k ≡ new k =
    λ k ne. sym (slot_of-push j r rid.space rid.page k ∙ rw (other_slot rid k (λ e. ne (e ∙ omega arith))) refl) in
    same_pages _ _ _ _
    (stamp_at-push j r rid.space rid.page ∙ rw (same_self rid.space, same_self rid.page) (omega arith))
    (sym (set_range old new 0 31 rid.slot after lt here others))
