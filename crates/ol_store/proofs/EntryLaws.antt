-- The entries of pages, as they are added, settled and emptied.
use Rattle.std.proofs.Common.{◌≡◌, ℕ, ◌≤◌, Bool, true, false, List, [], ◌∷◌, ◌++◌, length, ◌||◌, ◌&&◌, ◌==◌, if◌then◌else◌, refl, sym, ◌∙◌, ap, arith}
use Rattle.std.proofs.lemmas.Bool.{eq-eqb}
use Rattle.std.proofs.lemmas.List.{map-append, take-append-le, take_all}
use Rattle.std.proofs.lemmas.List.Folds.{list_any-append}
use Rattle.std.specs.List.{list_any}
use Rattle.ol_values.specs.Image.{page_bytes}
use Rattle.ol_values.specs.Pages.{Page}
use Rattle.ol_physlog.specs.States.{Log, has_entry, same_page, with_added, with_settled}
use Rattle.ol_physlog.specs.declared.place.Place.{Place}
use Rattle.ol_data_pages.specs.Overlays.{images_of, is_settled}
use Rattle.ol_store.specs.Stores.{is_touched, place_of_entry, with_entry}

-- the images with one more
pub images_added : (saved : ℕ → ℕ → Page) (places : List Place) (p : Place) → images_of saved (places ++ p ∷ []) ≡ images_of saved places ++ page_bytes (saved p.space p.page) ∷ []
images_added saved places p = map-append (λ (q : Place). page_bytes (saved q.space q.page)) places (p ∷ [])

-- an added entry is not settled
pub settled_added : (s : Log) (p : Place) (space page : ℕ) → s.settled ≤ length s.places → is_settled (with_added s p) space page ≡ is_settled s space page
settled_added s p space page le = ap (λ l. list_any (same_page (record { space = space; page = page })) l) (take-append-le s.settled s.places (p ∷ []) le)

-- where all are settled each entry is
pub settled_all : (s : Log) (space page : ℕ) → is_settled (with_settled s) space page ≡ has_entry s (record { space = space; page = page })
settled_all s space page = ap (λ l. list_any (same_page (record { space = space; page = page })) l) (take_all (length s.places) s.places (omega arith))

-- a page with an entry has it still
pub entry_added : (s : Log) (p q : Place) → has_entry (with_added s p) q ≡ false → has_entry s q ≡ false
entry_added s p q none = or_left (has_entry s q) (list_any (same_page q) (p ∷ [])) (sym (list_any-append (same_page q) s.places (p ∷ [])) ∙ none)
  where
    or_left : (a b : Bool) → (a || b) ≡ false → a ≡ false
    or_left false b is = refl
    or_left true b is = is

-- behind a change a page has its entry
pub entry_there : (log : Log) (space page : ℕ) → is_touched (with_entry log space page) space page ≡ true
entry_there log space page = each (is_touched log space page) refl
  where
    here : Place
    here = place_of_entry space page

    same : same_page here here ≡ true
    same = ap (λ (b : Bool). b && (page == page)) (eq-eqb space space refl) ∙ eq-eqb page page refl

    or_true : (b : Bool) → (b || true) ≡ true
    or_true true = refl
    or_true false = refl

    each : (b : Bool) → is_touched log space page ≡ b → is_touched (if b then log else with_added log here) space page ≡ true
    each true is = is
    each false is = list_any-append (same_page here) log.places (here ∷ []) ∙ ap (λ (b : Bool). has_entry log here || (b || false)) same ∙ or_true (has_entry log here)
