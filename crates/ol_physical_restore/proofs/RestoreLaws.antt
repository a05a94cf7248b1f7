-- The images of all counting entries were written: pages are kept under their entries, and then stand at their places.
use Rattle.std.proofs.Common.{◌≡◌, Bool, Err, List, None, Ok, OnOk, Option, Result, Some, ap, arith, false, get_or, length, refl, replicate, suc, sym, true, unwrap_or, zero, ℕ, ◌<◌, ◌==◌, ◌∙◌}
use Rattle.std.specs.List.{find, list_any}
use Rattle.std.specs.Prelude.{option_map, slice_index_or}
use Rattle.std.proofs.lemmas.Bool.{and_parts, eqb-true}
use Rattle.std.proofs.lemmas.List.Folds.{list_any_at, list_any_none}
use Rattle.ol_values.specs.Config.{Config, has_page}
use Rattle.ol_chunks.specs.Limits.{IsConfig}
use Rattle.ol_chunks.specs.Places.{is_in, lies_in, physical_area}
use Rattle.ol_chunks.specs.Places.Part.{Data, Physical}
use Rattle.ol_chunks.proofs.PartLaws.{parts_apart}
use Rattle.ol_chunks.proofs.PlaceLaws.{false_if}
use Rattle.ol_ports.specs.Disk.{Bytes, Past, Rest, seen}
use Rattle.ol_ports.specs.Frames.{FramedIn, ReadsOutside, SameBut}
use Rattle.ol_ports.specs.Stops.{Stops}
use Rattle.ol_ports.proofs.FrameLaws.{outside, outside_wider}
use Rattle.ol_ports.proofs.StopLaws.{stops_both, stops_weaker, stops_wider}
use Rattle.ol_physlog.specs.Reading.{Entry, Found, IsFound, Tells, entries_below, entries_in, entries_on, found_place}
use Rattle.ol_physlog.specs.States.{same_page}
use Rattle.ol_physlog.specs.declared.place.Place.{Place}
use Rattle.ol_data_pages.specs.Overlays.{is_entry_of, overlaid}
use Rattle.ol_data_pages.specs.Places.{IsSynced, place_of, standing_bytes}
use Rattle.ol_data_pages.proofs.PlaceLaws.{page_same, place_inside}
use Rattle.ol_physical_restore.specs.Restores.{AreMarked, ArePut, KeepsPages, StandOverlaid, WereRead, is_place_of, is_restored}
use Rattle.ol_physical_restore.proofs.EntryLaws.{Gives, entries_same, gives}
use Rattle.ol_physical_restore.proofs.LoopSteps.{differ, elsewhere}

-- ---- what is restored lies in the data part

module _ (c : Config) (is : IsConfig c) (f : Found) where
  in_data : (k a : ℕ) → is_in c Data k a ≡ false → is_restored c f k a ≡ false
  in_data k a out = list_any_none (λ (p : Place). is_place_of c p k a) f.places (λ j p lt.
      outside (is_place_of c (get_or f.places j p) k a) (is_in c Data k a)
      (λ here. let both = and_parts _ _ here in place_inside c is (get_or f.places j p).space (get_or f.places j p).page k a both.0 both.1) out)

  pub data_stops : (old new : Past) → Stops old new (FramedIn old (is_restored c f)) → Stops old new (FramedIn old (is_in c Data))
  data_stops old new stops = stops_wider old new (λ k a i. is_restored c f k a) (λ k a i. is_in c Data k a) (λ k a i out. in_data k a out) stops

  pub data_reads : (old new : Past) → ReadsOutside old new (is_restored c f) → ReadsOutside old new (is_in c Data)
  data_reads old new reads = outside_wider old new (is_restored c f) (is_in c Data) in_data reads

-- ---- pages under their entries

-- a page of which an entry counts, or else its bytes
abbrev under : Option Entry → List ℕ → List ℕ
under entry bytes = unwrap_or (option_map (λ (e : Entry). e.image) entry) bytes

module _ (c : Config) (is : IsConfig c) (generation : ℕ) (f : Found) (found : IsFound f) (e : Bytes) (tells : Tells c (physical_area c) generation e f) (all : length f.gates ≡ (physical_area c).count) where
  -- the counting entry of a page
  abbrev entry_of_page : ℕ → ℕ → Option Entry
  entry_of_page space page = find (is_entry_of space page) (entries_in f)

  read_on : entries_in f ≡ entries_on c generation e
  read_on = tells.entries ∙ ap (λ (n : ℕ). entries_below c (physical_area c) generation e n) all

  -- what lies over the pages of a disk with these entries
  under_on : (d : Bytes) → entries_in f ≡ entries_on c generation d → (space page : ℕ) → overlaid c generation d space page ≡ under (entry_of_page space page) (standing_bytes c d space page)
  unfolding overlaid
  under_on d on space page = ap (λ (l : List Entry). under (find (is_entry_of space page) l) (standing_bytes c d space page)) (sym on)

  given : (space page : ℕ) → Gives f.places f.images space page (entry_of_page space page)
  given space page = gives f.numbers f.places f.images found.paired found.imaged space page

  module _ (d : Bytes) (same : SameBut (λ k a i. is_restored c f k a) e d) where
    logged : (k a i : ℕ) → lies_in (physical_area c) k a ≡ true → d k a i ≡ e k a i
    logged k a i lies = same k a i (in_data c is f k a (parts_apart c is Physical Data (λ x. cc) k a lies))

    still_on : entries_in f ≡ entries_on c generation d
    still_on = read_on ∙ sym (entries_same c (physical_area c) refl generation e d logged (physical_area c).count (omega arith))

    -- a page without a counting entry was not written
    unwritten : (space page : ℕ) → has_page c space page ≡ true → list_any (same_page (record { space = space; page = page })) f.places ≡ false → standing_bytes c d space page ≡ standing_bytes c e space page
    unwritten space page has none = page_same c e d space page (λ i. same (place_of c space page).0 (place_of c space page).1 i
        (list_any_none (λ (p : Place). is_place_of c p (place_of c space page).0 (place_of c space page).1) f.places (λ j p lt.
        elsewhere c is (get_or f.places j p) here has (λ both. differ here (get_or f.places j p) (other j p lt) (sym both.0, sym both.1)))))
      where
        here : Place
        here = record { space = space; page = page }

        other : (j : ℕ) (p : Place) → j < length f.places → same_page here (get_or f.places j p) ≡ false
        other j p lt = false_if _ (λ yes. let clash : true ≡ false = sym (list_any_at (same_page here) f.places j p lt yes) ∙ none in cc)

    pub keeps : KeepsPages c generation e d
    keeps space page has = under_on d still_on space page ∙ by (entry_of_page space page) (given space page) ∙ sym (under_on e read_on space page)
      where
        by : (o : Option Entry) → Gives f.places f.images space page o → under o (standing_bytes c d space page) ≡ under o (standing_bytes c e space page)
        by (Some x) g = refl
        by None none = unwritten space page has none

    pub stands : ArePut c f (length f.numbers) d → StandOverlaid c generation e d
    stands put space page has = by (entry_of_page space page) (given space page) ∙ sym (under_on e read_on space page)
      where
        by : (o : Option Entry) → Gives f.places f.images space page o → standing_bytes c d space page ≡ under o (standing_bytes c e space page)
        by None none = unwritten space page has none
        by (Some x) g =
            let both = and_parts (space == (found_place f g.0).space) (page == (found_place f g.0).page) g.2 in
            let one = eqb-true space (found_place f g.0).space both.0 in
            let two = eqb-true page (found_place f g.0).page both.1 in
            ap (λ (k : ℕ). standing_bytes c d k page) one
            ∙ ap (λ (k : ℕ). standing_bytes c d (found_place f g.0).space k) two
            ∙ put g.0 (omega (arith, g.1, found.paired)) (ap (λ (k : ℕ). has_page c k (found_place f g.0).page) (sym one) ∙ ap (λ (k : ℕ). has_page c space k) (sym two) ∙ has)
            ∙ sym g.3

-- ---- the writes, and then the syncs

-- syncs behind a run of calls
pub stops_synced : (old mid new : Past) (P : Bytes → Type 0) → Stops old mid P → Stops mid new (Rest mid) → Stops old new P
stops_synced old mid new P before sync = stops_both old mid new P before (stops_weaker mid new (Rest mid) P before.behind sync)

module _ (c : Config) (is : IsConfig c) (generation : ℕ) (f : Found) (found : IsFound f) (old mid : Past) (read : WereRead c generation old f) (stops : Stops old mid (FramedIn old (is_restored c f))) where
  same_but : (d : Bytes) → FramedIn old (is_restored c f) d → SameBut (λ k a i. is_restored c f k a) (seen old) d
  same_but d framed k a i out = framed.same k a i out ∙ read.quiet framed.origin framed.rest k a i refl

  pub put_stops : Stops old mid (KeepsPages c generation (seen old))
  put_stops = stops_weaker old mid (FramedIn old (is_restored c f)) (KeepsPages c generation (seen old)) (λ d framed. keeps c is generation f found (seen old) read.entries read.all d (same_but d framed)) stops

  pub synced_stand : {E : Type 0} (new : Past) (marks : List Bool) (result : Result Unit E) → ArePut c f (length f.numbers) (seen mid) → AreMarked c f (length f.numbers) marks → Stops mid new (Rest mid) → OnOk result (IsSynced mid new marks)
      → OnOk result ((d : Bytes) → Rest new d → StandOverlaid c generation (seen old) d)
  synced_stand new marks (Err x) put marked sync synced = tt
  synced_stand new marks (Ok u) put marked sync synced = λ d rest.
      stands c is generation f found (seen old) read.entries read.all d (same_but d (stops.behind d (sync.behind d rest)))
      (λ j lt has.
      let p = found_place f j in
      page_same c (seen mid) d p.space p.page (λ i. synced.durable d rest (place_of c p.space p.page).0 (place_of c p.space p.page).1 i (marked j lt has)) ∙ put j lt has)

pub synced_reads : {E : Type 0} (c : Config) → IsConfig c → (f : Found) (old mid new : Past) (marks : List Bool) (result : Result Unit E) → ReadsOutside old mid (is_restored c f) → OnOk result (IsSynced mid new marks) → OnOk result (ReadsOutside old new (is_in c Data))
synced_reads c is f old mid new marks (Err x) reads synced = tt
synced_reads c is f old mid new marks (Ok u) reads synced = data_reads c is f old new (λ k a i out. ap (λ (b : Bytes). b k a i) synced.reads ∙ reads k a i out)

-- at first no chunk is marked
pub unmarked : (n chunk : ℕ) → slice_index_or (replicate n false) chunk false ≡ false
unmarked zero chunk = refl
unmarked (suc n) zero = refl
unmarked (suc n) (suc chunk) = unmarked n chunk
