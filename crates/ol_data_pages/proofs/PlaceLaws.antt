-- Data pages have places of their own, in the data part of the disk.
use Rattle.std.proofs.Common.{◌≡◌, IsSome, None, Option, Some, ap, false, map, refl, sym, true, unwrap_or, ℕ, ◌<◌, ◌∙◌}
use Rattle.std.specs.List.{range_with_len}
use Rattle.std.proofs.lemmas.Bool.{and_parts, eqb-true, ltb-true}
use Rattle.ol_values.specs.Config.{Config, data_pages, has_page}
use Rattle.ol_chunks.specs.Limits.{IsConfig, chunk_count}
use Rattle.ol_chunks.specs.Places.{Part, chunk_pages, in_spaces, is_in, physical_area, place_in_chunks}
use Rattle.ol_chunks.specs.Places.Part.{Data, Physical}
use Rattle.ol_chunks.proofs.PartLaws.{part_inside, parts_apart, place_in_data}
use Rattle.ol_chunks.proofs.PlaceLaws.{false_if, one_page, place_there}
use Rattle.ol_ports.specs.Disk.{Bytes, page_list}
use Rattle.ol_physlog.specs.Places.{AreApart}
use Rattle.ol_data_pages.specs.Places.{is_place, standing_bytes, place_of}

some_is : (o : Option (ℕ × ℕ)) → IsSome o → o ≡ Some (unwrap_or o (let none : ℕ × ℕ = (0, 0) in none))
some_is (Some p) is = refl
some_is None is = absurd (cc)

-- a page that the configuration has is at its place
pub placed : (c : Config) (space page : ℕ) → has_page c space page ≡ true → place_in_chunks c space page ≡ Some (place_of c space page)
placed c space page has =
    some_is (place_in_chunks c space page) ((place_there c space page).1 (ltb-true page (data_pages c space) (and_parts _ _ has).1))

-- a page of a chunk that is the place of a data page
pub at_place : (c : Config) (space page chunk at : ℕ) → is_place c space page chunk at ≡ true → (chunk ≡ (place_of c space page).0) × (at ≡ (place_of c space page).1)
at_place c space page chunk at is =
    let both = and_parts _ _ is in
    (eqb-true chunk (place_of c space page).0 both.0, eqb-true at (place_of c space page).1 both.1)

module _ (c : Config) (is : IsConfig c) where
  pub in_data : (space page : ℕ) → has_page c space page ≡ true → is_in c Data (place_of c space page).0 (place_of c space page).1 ≡ true
  in_data space page has = place_in_data c is space page (place_of c space page) (placed c space page has)

  pub place_inside : (space page chunk at : ℕ) → has_page c space page ≡ true → is_place c space page chunk at ≡ true → is_in c Data chunk at ≡ true
  place_inside space page chunk at has here =
      let same = at_place c space page chunk at here in
      ap (λ (k : ℕ). is_in c Data k at) same.0 ∙ ap (λ (k : ℕ). is_in c Data (place_of c space page).0 k) same.1 ∙ in_data space page has

  pub place_bounds : (space page : ℕ) → has_page c space page ≡ true → ((place_of c space page).0 < chunk_count c.spaces) × ((place_of c space page).1 < chunk_pages c (place_of c space page).0)
  place_bounds space page has =
      let inside : in_spaces c (place_of c space page).0 (place_of c space page).1 ≡ true = part_inside c is Data (λ e. cc) (place_of c space page).0 (place_of c space page).1 (in_data space page has) in
      let both = and_parts _ _ inside in
      (ltb-true (place_of c space page).0 (chunk_count c.spaces) both.0, ltb-true (place_of c space page).1 (chunk_pages c (place_of c space page).0) both.1)

  -- no page of another part is the place of a data page
  pub place_apart : (part : Part) → (part ≡ Data → ⊥) → (space page chunk at : ℕ) → has_page c space page ≡ true → is_in c part chunk at ≡ true → is_place c space page chunk at ≡ false
  place_apart part other space page chunk at has in_part =
      false_if _ (λ here. let clash : true ≡ false = sym (place_inside space page chunk at has here) ∙ parts_apart c is part Data other chunk at in_part in cc)

  pub place_unlogged : (space page : ℕ) → has_page c space page ≡ true → AreApart (physical_area c) (λ chunk at i. is_place c space page chunk at)
  place_unlogged space page has chunk at i logged = place_apart Physical (λ e. cc) space page chunk at has logged

  -- two pages have two places
  pub place_other : (space page other_space other : ℕ) → has_page c space page ≡ true → has_page c other_space other ≡ true → ((space ≡ other_space) × (page ≡ other) → ⊥)
      → is_place c space page (place_of c other_space other).0 (place_of c other_space other).1 ≡ false
  place_other space page other_space other has has_other differ = false_if _ (λ here.
      let same = at_place c space page (place_of c other_space other).0 (place_of c other_space other).1 here in
      let one : place_of c other_space other ≡ place_of c space page = λ i. (same.0 i, same.1 i) in
      differ (one_page c space page other_space other (place_of c space page) (placed c space page has) (placed c other_space other has_other ∙ ap (λ (p : ℕ × ℕ). Some p) one)))

-- a page that has the same bytes at its place
pub page_same : (c : Config) (e d : Bytes) (space page : ℕ) → ((i : ℕ) → d (place_of c space page).0 (place_of c space page).1 i ≡ e (place_of c space page).0 (place_of c space page).1 i) → standing_bytes c d space page ≡ standing_bytes c e space page
unfolding page_list
page_same c e d space page each = ap (λ (f : ℕ → ℕ). map f (range_with_len 0 2048)) (λ j i. each i j)
