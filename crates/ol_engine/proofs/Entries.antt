-- Whether a page has an entry of the physical log, or a checkpoint is made first.
use Rattle.std.specs.Prelude.{Bool, List, [], false, if◌then◌else◌, length, nat_le, not, true, ℕ, ◌&&◌, ◌-◌, ◌+◌, ◌<◌, ◌==◌, ◌||◌, ◌∷◌, ◌≡◌, ◌≤◌, ◌⊎◌}
use Rattle.std.specs.List.{list_any}
use Rattle.std.proofs.lemmas.Bool.Decides.{nat_tests}
use Rattle.std.proofs.Common.{ap, arith, inl, inr, refl, subst, sym, ◌∙◌}
use Rattle.std.proofs.lemmas.List.{length-map}
use Rattle.ol_model.specs.Machine.{Machine, config_of}
use Rattle.ol_model.specs.Steps.{is_page_in, make_checkpoint, needs_checkpoint}
use Rattle.ol_chunks.specs.Places.{physical_area}
use Rattle.ol_physlog.specs.States.{same_page}
use Rattle.ol_physlog.specs.declared.place.Place.{Place}
use Rattle.ol_store.specs.Stores.{IsStore, is_touched, place_of_entry}
use Rattle.ol_storage.specs.Installation.{Installation, IsGoing}
use Rattle.ol_engine.specs.Parts.{HasEntry, HasNoEntry, ShowsStorage, ready_for, touched_in}

-- the pages of the entries are those that the machine has as touched
pub in_places : (places : List Place) (space page : ℕ) → list_any (same_page (place_of_entry space page)) places ≡ is_page_in (space, page) (touched_in places)
in_places [] space page = refl
in_places (q ∷ places) space page = ap (λ b. ((space == q.space) && (page == q.page)) || b) (in_places places space page)

module _ (v : Installation) (m : Machine) (space page : ℕ) (shows : ShowsStorage v m) (going : IsGoing v) (store : IsStore v.store) where
  touched_is : is_touched v.store.log space page ≡ is_page_in (space, page) m.checkpoint.touched
  touched_is = in_places v.store.log.places space page ∙ ap (λ pages. is_page_in (space, page) pages) shows.touched

  count_is : v.store.log.area.count ≡ (config_of m).physical_entries
  count_is = ap (λ a. a.count) store.area ∙ ap (λ c. (physical_area c).count) (going.config ∙ shows.config)

  length_is : length v.store.log.places ≡ length m.checkpoint.touched
  length_is = sym (length-map v.store.log.places (λ (p : Place). let q : ℕ × ℕ = (p.space, p.page) in q)) ∙ ap (λ (l : List (ℕ × ℕ)). length l) shows.touched

  by_touched : (b : Bool) → is_touched v.store.log space page ≡ b → (b ≡ true) ⊎ (length v.store.log.places < v.store.log.area.count) → ready_for (space, page) m ≡ m
  by_touched true e either = let f : is_page_in (space, page) m.checkpoint.touched ≡ true = sym touched_is ∙ e in rw f refl
  by_touched false e (inl clash) = absurd cc
  by_touched false e (inr some) =
      let f : is_page_in (space, page) m.checkpoint.touched ≡ false = sym touched_is ∙ e in
      let low : nat_le (config_of m).physical_entries (length m.checkpoint.touched) ≡ false = grind (arith, nat_tests, some, count_is, length_is) in
      rw (f, low) refl

  -- where the page has an entry, or one is unused, no checkpoint is made
  pub entry_there : HasEntry v.store space page → ready_for (space, page) m ≡ m
  entry_there either = by_touched (is_touched v.store.log space page) refl either

  -- else one is
  pub entry_made : HasNoEntry v.store space page → ready_for (space, page) m ≡ make_checkpoint m
  entry_made (e, none) =
      let f : is_page_in (space, page) m.checkpoint.touched ≡ false = sym touched_is ∙ e in
      let high : nat_le (config_of m).physical_entries (length m.checkpoint.touched) ≡ true = grind (arith, nat_tests, none, count_is, length_is) in
      rw (f, high) refl
