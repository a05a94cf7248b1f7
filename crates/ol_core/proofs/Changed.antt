-- What is held of a space after a row more on its pages, and of every other space.
use Rattle.std.specs.Prelude.{Bool, List, None, Some, [], false, if◌then◌else◌, is_none, length, nat_le, nat_lt, slice_index_or, slice_set, true, ℕ, ◌%◌, ◌&&◌, ◌*◌, ◌++◌, ◌+◌, ◌/◌, ◌<◌, ◌==◌, ◌^◌, ◌∷◌, ◌≡◌, ◌≢◌, ◌≤◌, refl}
use Rattle.std.proofs.Common.{ap, arith, eq-eqb, subst, sym, ◌∙◌}
use Rattle.std.proofs.Math.ListN.{length-set}
use Rattle.std.proofs.lemmas.Bool.{eqb-true}
use Rattle.std.proofs.lemmas.Bool.Decides.{nat_tests}
use Rattle.std.proofs.lemmas.List.{get_or-set_other, get_or-set_same}
use Rattle.ol_values.specs.declared.record.Record.{Record}
use Rattle.ol_values.specs.declared.record.Record.TheVariants.{Change}
use Rattle.ol_values.specs.declared.row.Row.{Row}
use Rattle.ol_values.specs.Image.{IsPage, page_bytes, with_slot}
use Rattle.ol_values.specs.Pages.{Page}
use Rattle.ol_rules.specs.Journal.{page_at, row_at, same_place, stamp_at, touches}
use Rattle.ol_laws.proofs.JournalLaws.{page_at-changed, page_at-untouched, row_at-push, stamp_at-push}
use Rattle.ol_page.proofs.Slots.{with_slot_page}
use Rattle.ol_core.specs.Filled.{Filled, IsFilled, blank_image, slot_at}
use Rattle.ol_core.proofs.Held.{filled_still, held}
use Rattle.ol_core.proofs.Steps.{differs, unequal}

-- the record of a row that goes into slot `rows` of a space
abbrev pub row_in : ℕ → ℕ → ℕ → Row → Record
row_in n space rows row = Change n (slot_at space rows) None (Some row)

-- ---- other spaces

pub filled_other : (pages : ℕ) (j : List Record) (n space rows : ℕ) (row : Row) (s : ℕ) (f : Filled) → s ≢ space → IsFilled pages j s f → IsFilled pages (j ++ row_in n space rows row ∷ []) s f
filled_other pages j n space rows row s f ne k =
    let apart : (space == s) ≡ false = differs space s (λ e. ne (sym e)) in
    filled_still pages j (row_in n space rows row) s f (λ p. rw apart refl) (λ i was. rw apart refl) k

-- ---- the space of the row

-- two slots are one place only where they are one slot
other_slot : (s a b : ℕ) → a ≢ b → same_place (slot_at s a) (slot_at s b) ≡ false
other_slot s a b ne = rw (eq-eqb s s refl) (cases (a / 31 == b / 31) refl (a % 31 == b % 31) refl)
  where
    cases : (p : Bool) → (a / 31 == b / 31) ≡ p → (q : Bool) → (a % 31 == b % 31) ≡ q → ((a / 31 == b / 31) && (a % 31 == b % 31)) ≡ false
    cases true e true f = absurd (ne (let x : a / 31 ≡ b / 31 = eqb-true (a / 31) (b / 31) e in let y : a % 31 ≡ b % 31 = eqb-true (a % 31) (b % 31) f in omega arith))
    cases true e false f = rw (e, f) refl
    cases false e q f = rw e refl

same_slot : (s a : ℕ) → same_place (slot_at s a) (slot_at s a) ≡ true
same_slot s a = rw (eq-eqb s s refl, eq-eqb (a / 31) (a / 31) refl, eq-eqb (a % 31) (a % 31) refl) refl

slots_after : (j : List Record) (n s rows : ℕ) (row : Row) (i : ℕ) → is_none (row_at j (slot_at s i)) ≡ nat_le rows i → is_none (row_at (j ++ row_in n s rows row ∷ []) (slot_at s i)) ≡ nat_le (rows + 1) i
slots_after j n s rows row i was = ap is_none (row_at-push j (row_in n s rows row) (slot_at s i)) ∙ cases (rows == i) refl
  where
    cases : (b : Bool) → (rows == i) ≡ b → is_none (if same_place (slot_at s rows) (slot_at s i) then Some row else row_at j (slot_at s i)) ≡ nat_le (rows + 1) i
    cases true e =
        let is : rows ≡ i = eqb-true rows i e in
        let hit : same_place (slot_at s rows) (slot_at s i) ≡ true = ap (λ (x : ℕ). same_place (slot_at s rows) (slot_at s x)) (sym is) ∙ same_slot s rows in
        rw hit (let f : false ≡ nat_le (rows + 1) i = grind (arith, nat_tests) in f)
    cases false e =
        let ne : rows ≢ i = unequal rows i e in
        rw (other_slot s rows i ne) (was ∙ (let f : nat_le rows i ≡ nat_le (rows + 1) i = grind (arith, nat_tests, ne) in f))

touches_page : (n s rows : ℕ) (row : Row) (p : ℕ) → touches s p (row_in n s rows row) ≡ (rows / 31 == p)
touches_page n s rows row p = rw (eq-eqb s s refl) refl

stamps_after : (j : List Record) (n s rows : ℕ) (row : Row) (p : ℕ) → nat_lt 0 (stamp_at j s p) ≡ nat_lt (p * 31) rows → nat_lt 0 (stamp_at (j ++ row_in n s rows row ∷ []) s p) ≡ nat_lt (p * 31) (rows + 1)
stamps_after j n s rows row p was = ap (nat_lt 0) (stamp_at-push j (row_in n s rows row) s p) ∙ rw (touches_page n s rows row p) (cases (rows / 31 == p) refl)
  where
    cases : (b : Bool) → (rows / 31 == p) ≡ b → nat_lt 0 (if rows / 31 == p then 1 + length j else stamp_at j s p) ≡ nat_lt (p * 31) (rows + 1)
    cases true e =
        let is : rows / 31 ≡ p = eqb-true (rows / 31) p e in
        rw e (let f : nat_lt 0 (1 + length j) ≡ nat_lt (p * 31) (rows + 1) = grind (arith, nat_tests) in f)
    cases false e =
        let ne : rows / 31 ≢ p = unequal (rows / 31) p e in
        let past : p * 31 ≢ rows = λ is. ne (omega arith) in
        rw e (was ∙ (let f : nat_lt (p * 31) rows ≡ nat_lt (p * 31) (rows + 1) = grind (arith, nat_tests, past) in f))

-- the image that a row makes of another
abbrev pub PutsRow : List Record → ℕ → Row → List ℕ → List ℕ → Type 0
PutsRow j rows row old new = (p : Page) → IsPage p → old ≡ page_bytes p → new ≡ page_bytes (with_slot p (rows % 31) (Some row) (length j + 1))

pub filled_row : (pages : ℕ) (j : List Record) (s n rows : ℕ) (images : List (List ℕ)) (row : Row) (image : List ℕ) → rows < pages * 31 → length row ≤ 63 → length j + 1 < 2 ^ 64 → rows / 31 < length images
    → PutsRow j rows row (slice_index_or images (rows / 31) blank_image) image → IsFilled pages j s (held rows images)
    → IsFilled pages (j ++ row_in n s rows row ∷ []) s (held (rows + 1) (slice_set images (rows / 31) image))
filled_row pages j s n rows images row image lt short fits there puts k =
    let r = row_in n s rows row in
    let q = rows / 31 in
    let slot : rows % 31 < 31 = omega arith in
    let here : page_at (j ++ r ∷ []) s q ≡ with_slot (page_at j s q) (rows % 31) (Some row) (length j + 1) = page_at-changed j n (slot_at s rows) None (Some row) slot in
    record {
      room = omega arith;
      held = omega (arith, k.held, there, length-set images q image);
      images = λ p. (by_page p here (p == q) refl).0;
      sound = λ p. (by_page p here (p == q) refl).1;
      slots = λ i. slots_after j n s rows row i (k.slots i);
      stamps = λ p. stamps_after j n s rows row p (k.stamps p);
    }
  where
    by_page : (p : ℕ) → page_at (j ++ row_in n s rows row ∷ []) s (rows / 31) ≡ with_slot (page_at j s (rows / 31)) (rows % 31) (Some row) (length j + 1) → (b : Bool) → (p == rows / 31) ≡ b
        → (slice_index_or (slice_set images (rows / 31) image) p blank_image ≡ page_bytes (page_at (j ++ row_in n s rows row ∷ []) s p)) × IsPage (page_at (j ++ row_in n s rows row ∷ []) s p)
    by_page p here true e =
        subst (λ (x : ℕ). (slice_index_or (slice_set images (rows / 31) image) x blank_image ≡ page_bytes (page_at (j ++ row_in n s rows row ∷ []) s x)) × IsPage (page_at (j ++ row_in n s rows row ∷ []) s x)) (sym (eqb-true p (rows / 31) e)) (
          get_or-set_same images (rows / 31) image blank_image there ∙ puts (page_at j s (rows / 31)) (k.sound (rows / 31)) (k.images (rows / 31)) ∙ ap page_bytes (sym here),
          subst IsPage (sym here) (with_slot_page (page_at j s (rows / 31)) (rows % 31) (Some row) (length j + 1) (k.sound (rows / 31)) (omega arith) short fits),
        )
    by_page p here false e =
        let ne : p ≢ rows / 31 = unequal p (rows / 31) e in
        let same = page_at-untouched j (row_in n s rows row) s p (touches_page n s rows row p ∙ differs (rows / 31) p (λ e. ne (sym e))) in
        (get_or-set_other images (rows / 31) p image blank_image ne ∙ k.images p ∙ ap page_bytes (sym same), subst IsPage (sym same) (k.sound p))
