-- The pool as a map from places to images, with the set of those that are dirty.
use Rattle.std.specs.Prelude.{List, None, Option, [], length, nat_lt, not, replicate, slice_index_or, true, ℕ, ◌&&◌, ◌<◌, ◌≡◌, ◌↔◌}
use Rattle.std.proofs.Common.{ap, arith, zero-add, ◌∙◌}
use Rattle.std.proofs.lemmas.Bool.{and_from, and_parts, lt-ltb, ltb-true}
use Rattle.std.proofs.lemmas.List.{length-replicate}
use Rattle.std.proofs.lemmas.List.FromFn.{get_or-map-range_with_len, length-map-range_with_len}
use Rattle.std.proofs.lemmas.Map.Views.{any-filter_same}
use Rattle.ol_values.specs.Config.{Config, data_pages, has_page}
use Rattle.ol_pool.specs.Frames.{Frames, HasPlace, is_dirty, no_frames, same_place, without_dirty}
use Rattle.ol_pool.proofs.PlaceLaws.{same_along}

module _ (c : Config) where
  -- a space has its data pages
  pages_of : (space : ℕ) → space < length c.spaces → length (slice_index_or (no_frames c).spaces space []) ≡ data_pages c space
  pages_of space there =
      ap (λ (r : List (Option (List ℕ))). length r) (get_or-map-range_with_len (λ at. replicate (data_pages c at) None) 0 (length c.spaces) space space [] there (zero-add space))
      ∙ length-replicate (data_pages c space) None

  -- there are the data pages of the configuration
  pub places_are : (space page : ℕ) → HasPlace (no_frames c) space page ↔ (has_page c space page ≡ true)
  places_are space page =
      let spaces : length (no_frames c).spaces ≡ length c.spaces = length-map-range_with_len (λ at. replicate (data_pages c at) None) 0 (length c.spaces) in (
        λ is.
            let there : space < length c.spaces = omega (arith, is.0, spaces) in
            and_from (nat_lt space (length c.spaces)) (nat_lt page (data_pages c space)) (lt-ltb space (length c.spaces) there) (lt-ltb page (data_pages c space) (omega (arith, is.1, pages_of space there))),
        λ is.
            let parts = and_parts (nat_lt space (length c.spaces)) (nat_lt page (data_pages c space)) is in
            let there : space < length c.spaces = ltb-true space (length c.spaces) parts.0 in
            (omega (arith, there, spaces), omega (arith, ltb-true page (data_pages c space) parts.1, pages_of space there)),
      )

-- which pages stay dirty where one is dirty no more
pub clean_is : (p : Frames) (space page at_space at_page : ℕ) → is_dirty (without_dirty p space page) at_space at_page ≡ (not (same_place (space, page) (at_space, at_page)) && is_dirty p at_space at_page)
clean_is p space page at_space at_page =
    any-filter_same (same_place (at_space, at_page)) (λ place. not (same_place (space, page) place)) (not (same_place (space, page) (at_space, at_page))) (λ place same. ap not (same_along (space, page) at_space at_page place same)) p.dirty
