-- What calls keep of how frames are stored.
use Rattle.std.specs.List.{count_by, list_any}
use Rattle.std.specs.Prelude.{Bool, IfSome, List, None, Option, Some, [], false, filter, if◌then◌else◌, is_some, length, not, slice_get, slice_index_or, true, ℕ, ◌++◌, ◌<◌, ◌||◌, ◌∷◌, ◌≡◌, ◌≤◌, refl}
use Rattle.std.proofs.Common.{ap, arith, inl, inr, length-append, subst, sym, ◌∙◌}
use Rattle.std.proofs.lemmas.List.Filters.{length-filter_both}
use Rattle.std.proofs.lemmas.List.Sums.{length-filter, sum_by-append}
use Rattle.ol_values.specs.Config.{Config, data_pages}
use Rattle.ol_pool.specs.Frames.{Frames, IsPool, each_page, frame_of, is_dirty, item_at, no_frames, same_place, with_dirty, with_frame, with_item, without_dirty}
use Rattle.ol_pool.specs.Stored.{IsStored, bit, count_pages}
use Rattle.ol_pool.proofs.CountLaws.{count_set, marks_fewer, none_set, pages_set}
use Rattle.ol_pool.proofs.ItemLaws.{each_alike, each_is, item_either, page_there, pages_stay, space_there}
use Rattle.ol_pool.proofs.ListLaws.{any_is, bit_few, gone, stayed, unchanged}
use Rattle.ol_pool.proofs.PlaceLaws.{item_is, same_along, same_self, same_tells, same_turned}

-- at first no page is marked
pub stored_at_first : (c : Config) (limit : ℕ) → count_pages (each_page c false) ≤ limit → IsStored (no_frames c) (each_page c false) limit
stored_at_first c limit room =
    let pages = data_pages c in
    let n = length c.spaces in
    record {
      alike = λ space. each_alike pages false None 0 n space;
      marked = λ space page. sym (ap bit (each_is pages false 0 n space page));
      framed = λ space page set. let unset = each_is pages false 0 n space page in absurd (cc);
      count = sym (none_set pages 0 n);
      room = room;
    }

-- the same by other names
pub stored_as : {p new : Frames} {marks new_marks : List (List Bool)} {limit new_limit : ℕ} → new ≡ p → new_marks ≡ marks → new_limit ≡ limit → IsStored p marks limit → IsStored new new_marks new_limit
stored_as {p} {new} {marks} {new_marks} {limit} {new_limit} same same_marks same_limit is =
    subst (λ (q : Frames). IsStored q new_marks new_limit) (sym same)
    (subst (λ (m : List (List Bool)). IsStored p m new_limit) (sym same_marks) (subst (λ (l : ℕ). IsStored p marks l) (sym same_limit) is))

first_any : (places : List (ℕ × ℕ)) (place : ℕ × ℕ) → slice_get places 0 ≡ Some place → list_any (same_place (place.0, place.1)) places ≡ true
first_any [] place first = absurd (cc)
first_any (other ∷ places) place first =
    let is : other ≡ place = cc in
    ap (λ (o : ℕ × ℕ). same_place (place.0, place.1) o || list_any (same_place (place.0, place.1)) places) is
    ∙ ap (λ (b : Bool). b || list_any (same_place (place.0, place.1)) places) (same_self place.0 place.1)

-- the first page of the list is in memory
pub first_framed : (p : Frames) → IsPool p → (first : Option (ℕ × ℕ)) → first ≡ slice_get p.dirty 0 → IfSome first (λ place. is_some (frame_of p place.0 place.1) ≡ true)
first_framed p is None none = tt
first_framed p is (Some place) first = is.framed place.0 place.1 (first_any p.dirty place (sym first))

-- the pool with a page at the end of the list
abbrev pub added : Frames → ℕ → ℕ → Frames
added p space page = record { spaces = p.spaces; dirty = p.dirty ++ (space, page) ∷ [] }

pub added_is : (p : Frames) (space page : ℕ) → is_dirty p space page ≡ false → added p space page ≡ with_dirty p space page
added_is p space page clean =
    ap (λ (b : Bool). let q : Frames = record { spaces = p.spaces; dirty = if b then p.dirty else p.dirty ++ (space, page) ∷ [] } in q) (sym clean)

module _ (p : Frames) (marks : List (List Bool)) (limit : ℕ) (is : IsStored p marks limit) where
  -- a page is in the list where it is marked
  pub dirty_is : (space page : ℕ) → is_dirty p space page ≡ item_at false marks space page
  dirty_is space page = any_is (same_place (space, page)) p.dirty (item_at false marks space page) (is.marked space page)

  pub pool_is : IsPool p
  pool_is =
      record {
        once = λ space page. omega (arith, is.marked space page, bit_few (item_at false marks space page));
        framed = λ space page so. is.framed space page (sym (dirty_is space page) ∙ so);
      }

  -- an image more leaves all others in memory
  pub stored_with_frame : (space page : ℕ) (image : List ℕ) → IsStored (with_frame p space page image) marks limit
  stored_with_frame space page image =
      record {
        alike = λ at. is.alike at ∙ sym (pages_stay p.spaces space page (Some image) at);
        marked = is.marked;
        framed = λ at_space at_page set. elim (item_either None p.spaces space page (Some image) at_space at_page) [
          | inl e ↦ ap (λ (o : Option (List ℕ)). is_some o) e.0
          | inr e ↦ ap (λ (o : Option (List ℕ)). is_some o) e ∙ is.framed at_space at_page set
        ];
        count = is.count;
        room = is.room;
      }

  -- where a page is not dirty, none is dropped from the list
  pub clean_stays : (space page : ℕ) → is_dirty p space page ≡ false → p ≡ without_dirty p space page
  clean_stays space page clean =
      ap (λ (l : List (ℕ × ℕ)). let q : Frames = record { spaces = p.spaces; dirty = l } in q)
      (sym (unchanged (same_place (space, page)) p.dirty (is.marked space page ∙ ap bit (sym (dirty_is space page) ∙ clean))))

  module _ (space page : ℕ) (some : is_some (frame_of p space page) ≡ true) where
    -- a page in memory has a mark
    pub mark_there : (space < length marks) × (page < length (slice_index_or marks space []))
    mark_there =
        let within : page < length (slice_index_or marks space []) = omega (arith, is.alike space, page_there p.spaces space page some) in
        (space_there marks space page within, within)

    -- where it is not dirty, the list has room for it
    pub room_for : is_dirty p space page ≡ false → length p.dirty < limit
    room_for clean = omega (arith, is.count, is.room, marks_fewer marks space page mark_there.0 mark_there.1 (sym (dirty_is space page) ∙ clean))

    mark_is : (mark : Bool) (at_space at_page : ℕ) (same : Bool) → same_place (space, page) (at_space, at_page) ≡ same → item_at false (with_item marks space page mark) at_space at_page ≡ (if same then mark else item_at false marks at_space at_page)
    mark_is mark at_space at_page same told =
        item_is false marks space page mark at_space at_page mark_there.0 mark_there.1 ∙ ap (λ (b : Bool). if b then mark else item_at false marks at_space at_page) told

    -- a page that was not dirty is marked, and the last of the list
    pub stored_marked : is_dirty p space page ≡ false → IsStored (added p space page) (with_item marks space page true) limit
    stored_marked clean =
        let unset : item_at false marks space page ≡ false = sym (dirty_is space page) ∙ clean in
        record {
          alike = λ at. pages_stay marks space page true at ∙ is.alike at;
          marked = λ at_space at_page.
              let more = sum_by-append (λ (place : ℕ × ℕ). bit (same_place (at_space, at_page) place)) p.dirty ((space, page) ∷ []) in
              elim (same_tells space page at_space at_page) [
                | inl e ↦
                    let none : bit (item_at false marks at_space at_page) ≡ 0 = ap (λ (n : ℕ). bit (item_at false marks n at_page)) e.1 ∙ ap (λ (n : ℕ). bit (item_at false marks space n)) e.2 ∙ ap bit unset in
                    omega (arith, more, none, ap bit (mark_is true at_space at_page true e.0), ap bit (same_turned space page at_space at_page ∙ e.0), is.marked at_space at_page)
                | inr e ↦ omega (arith, more, ap bit (mark_is true at_space at_page false e.0), ap bit (same_turned space page at_space at_page ∙ e.0), is.marked at_space at_page)
              ];
          framed = λ at_space at_page set. elim (same_tells space page at_space at_page) [
            | inl e ↦ ap (λ (n : ℕ). is_some (frame_of p n at_page)) e.1 ∙ ap (λ (n : ℕ). is_some (frame_of p space n)) e.2 ∙ some
            | inr e ↦ is.framed at_space at_page (sym (mark_is true at_space at_page false e.0) ∙ set)
          ];
          count = omega (arith, length-append p.dirty ((space, page) ∷ []), count_set marks space page true mark_there.0 mark_there.1, ap bit unset, is.count);
          room = omega (arith, pages_set marks space page true mark_there.0, is.room);
        }

    -- a page that was dirty is marked no more, and not in the list
    pub stored_unmarked : is_dirty p space page ≡ true → IsStored (without_dirty p space page) (with_item marks space page false) limit
    stored_unmarked dirty =
        let test : ℕ × ℕ → Bool = same_place (space, page) in
        let left = filter (λ place. not (test place)) p.dirty in
        let set : item_at false marks space page ≡ true = sym (dirty_is space page) ∙ dirty in
        record {
          alike = λ at. pages_stay marks space page false at ∙ is.alike at;
          marked = λ at_space at_page. elim (same_tells space page at_space at_page) [
            | inl e ↦
                ap (λ (n : ℕ). count_by (same_place (n, at_page)) left) e.1
                ∙ ap (λ (n : ℕ). count_by (same_place (space, n)) left) e.2
                ∙ gone test p.dirty
                ∙ sym (ap bit (mark_is false at_space at_page true e.0))
            | inr e ↦
                stayed test (same_place (at_space, at_page)) (λ place same. same_along (space, page) at_space at_page place same ∙ e.0) p.dirty
                ∙ is.marked at_space at_page
                ∙ sym (ap bit (mark_is false at_space at_page false e.0))
          ];
          framed = λ at_space at_page still. elim (same_tells space page at_space at_page) [
            | inl e ↦ let unset = mark_is false at_space at_page true e.0 in absurd (cc)
            | inr e ↦ is.framed at_space at_page (sym (mark_is false at_space at_page false e.0) ∙ still)
          ];
          count = omega (arith, length-filter_both test (λ place. not (test place)) (λ _. refl) p.dirty, length-filter test p.dirty, is.marked space page, ap bit set, count_set marks space page false mark_there.0 mark_there.1, is.count);
          room = omega (arith, pages_set marks space page false mark_there.0, is.room);
        }

  -- a dirty page has a mark
  pub dirty_there : (space page : ℕ) → is_dirty p space page ≡ true → (space < length marks) × (page < length (slice_index_or marks space []))
  dirty_there space page dirty = mark_there space page (pool_is.framed space page dirty)
