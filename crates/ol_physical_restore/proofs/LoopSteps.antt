-- One entry after another: what was written, and what stands at the places of the first entries.
use Rattle.std.proofs.Common.{◌≡◌, ◌⊎◌, ⊎_elim, Bool, List, [], ap, arith, false, length, subst, sym, true, ℕ, ◌+◌, ◌<◌, ◌∙◌}
use Rattle.std.proofs.lemmas.Bool.{and_from, and_parts, eq-eqb}
use Rattle.std.proofs.lemmas.List.Folds.{list_any_at}
use Rattle.ol_values.specs.Config.{Config, has_page}
use Rattle.ol_chunks.specs.Limits.{IsConfig}
use Rattle.ol_chunks.proofs.PlaceLaws.{false_if}
use Rattle.ol_ports.specs.Disk.{Past, seen}
use Rattle.ol_ports.specs.Frames.{FramedIn, ReadsOutside}
use Rattle.ol_ports.specs.Stops.{Stops}
use Rattle.ol_ports.proofs.FrameLaws.{outside, outside_both, outside_wider}
use Rattle.ol_ports.proofs.StopLaws.{stops_framed, stops_wider}
use Rattle.ol_physlog.specs.Reading.{Found, IsFound, found_place}
use Rattle.ol_physlog.specs.States.{image_at, no_place, same_page}
use Rattle.ol_physlog.specs.declared.place.Place.{Place}
use Rattle.ol_data_pages.specs.Places.{IsMarked, place_of, standing_bytes}
use Rattle.ol_data_pages.proofs.PlaceLaws.{page_same, place_other}
use Rattle.ol_physical_restore.specs.Restores.{AreMarked, ArePut, is_place_of, is_restored}

-- two places that are not one differ in space or page
pub differ : (a b : Place) → same_page a b ≡ false → (a.space ≡ b.space) × (a.page ≡ b.page) → ⊥
differ a b other both =
    let same : same_page a b ≡ true = and_from _ _ (eq-eqb a.space b.space both.0) (eq-eqb a.page b.page both.1) in
    let clash : true ≡ false = sym same ∙ other in
    cc

-- another page stands elsewhere
pub elsewhere : (c : Config) → IsConfig c → (p q : Place) → has_page c q.space q.page ≡ true → ((p.space ≡ q.space) × (p.page ≡ q.page) → ⊥) → is_place_of c p (place_of c q.space q.page).0 (place_of c q.space q.page).1 ≡ false
elsewhere c is p q has other = false_if _ (λ here.
    let both = and_parts _ _ here in
    let clash : true ≡ false = sym both.1 ∙ place_other c is p.space p.page q.space q.page both.0 has other in
    cc)

-- no entry is before the first, and none at all where none counts
pub none_before : (i : ℕ) → i < 0 → ⊥
none_before i lt = omega (arith, lt)

pub none_left : (numbers : List ℕ) (i : ℕ) → numbers ≡ [] → i < length numbers → ⊥
none_left numbers i none lt = omega (arith, lt, ap (λ (l : List ℕ). length l) none)

last_or_before : (j n : ℕ) → j < n + 1 → (j < n) ⊎ (j ≡ n)
last_or_before j n lt = grind (arith, lt)

module _ (c : Config) (f : Found) (found : IsFound f) (i : ℕ) (lt : i < length f.numbers) (p : Place) (at : p ≡ found_place f i) where
  there : i < length f.places
  there = omega (arith, lt, found.paired)

  -- the place of an entry's page is one of those that are restored
  among : (k a : ℕ) → is_restored c f k a ≡ false → is_place_of c p k a ≡ false
  among k a = outside (is_place_of c p k a) (is_restored c f k a)
      (λ here. list_any_at (λ (q : Place). is_place_of c q k a) f.places i no_place there (subst (λ (q : Place). is_place_of c q k a ≡ true) at here))

  pub more_stops : (old mid new : Past) → Stops old mid (FramedIn old (is_restored c f)) → Stops mid new (FramedIn mid (is_place_of c p)) → Stops old new (FramedIn old (is_restored c f))
  more_stops old mid new before now =
      stops_framed old mid new (λ k a b. is_restored c f k a) before (stops_wider mid new (λ k a b. is_place_of c p k a) (λ k a b. is_restored c f k a) (λ k a b out. among k a out) now)

  pub more_reads : (old mid new : Past) → ReadsOutside old mid (is_restored c f) → ReadsOutside mid new (is_place_of c p) → ReadsOutside old new (is_restored c f)
  more_reads old mid new before now = outside_both old mid new (is_restored c f) before (outside_wider mid new (is_place_of c p) (is_restored c f) among now)

  pub more_put : IsConfig c → (mid new : Past) (image : List ℕ) → image ≡ image_at f.images i → (has_page c p.space p.page ≡ true → standing_bytes c (seen new) p.space p.page ≡ image) → ReadsOutside mid new (is_place_of c p) → ArePut c f i (seen mid) → ArePut c f (i + 1) (seen new)
  more_put is mid new image same now reads before j below has = ⊎_elim (λ earlier. kept earlier) (λ here. last here) (last_or_before j i below)
    where
      last : j ≡ i → standing_bytes c (seen new) (found_place f j).space (found_place f j).page ≡ image_at f.images j
      last here =
          let one : p ≡ found_place f j = at ∙ ap (λ (n : ℕ). found_place f n) (sym here) in
          subst (λ (q : Place). standing_bytes c (seen new) q.space q.page ≡ image_at f.images j) one
          (now (subst (λ (q : Place). has_page c q.space q.page ≡ true) (sym one) has) ∙ same ∙ ap (λ (n : ℕ). image_at f.images n) (sym here))

      kept : j < i → standing_bytes c (seen new) (found_place f j).space (found_place f j).page ≡ image_at f.images j
      kept earlier =
          let other : same_page p (found_place f j) ≡ false = ap (λ (q : Place). same_page q (found_place f j)) at ∙ found.pages j i earlier there in
          let out = elsewhere c is p (found_place f j) has (differ p (found_place f j) other) in
          page_same c (seen mid) (seen new) (found_place f j).space (found_place f j).page (λ b. reads (place_of c (found_place f j).space (found_place f j).page).0 (place_of c (found_place f j).space (found_place f j).page).1 b out) ∙ before j earlier has

  pub more_marked : (old new : List Bool) → (has_page c p.space p.page ≡ true → IsMarked new (place_of c p.space p.page).0) → ((chunk : ℕ) → IsMarked old chunk → IsMarked new chunk) → AreMarked c f i old → AreMarked c f (i + 1) new
  more_marked old new now kept before j below has =
      ⊎_elim (λ earlier. kept (place_of c (found_place f j).space (found_place f j).page).0 (before j earlier has))
      (λ here.
      let one : p ≡ found_place f j = at ∙ ap (λ (n : ℕ). found_place f n) (sym here) in
      subst (λ (q : Place). IsMarked new (place_of c q.space q.page).0) one (now (subst (λ (q : Place). has_page c q.space q.page ≡ true) (sym one) has))) (last_or_before j i below)
