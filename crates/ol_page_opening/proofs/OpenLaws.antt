-- What the opening of the pages leaves, and what its store stands on.
use Rattle.std.proofs.Common.{◌≡◌, inl, inr, Bool, List, [], ap, arith, length, map, refl, subst, sym, true, ℕ, ◌*◌, ◌+◌, ◌<◌, ◌≤◌, ◌∙◌}
use Rattle.std.specs.List.{range_with_len}
use Rattle.std.specs.Prelude.{slice_index}
use Rattle.std.proofs.lemmas.Bool.Decides.{nat_tests}
use Rattle.std.proofs.lemmas.List.{get_or-map, get_or_default, length-map, same_lists}
use Rattle.ol_values.specs.Config.{Config}
use Rattle.ol_values.specs.Image.{page_bytes}
use Rattle.ol_values.specs.Pages.{Page}
use Rattle.ol_chunks.specs.Limits.{IsConfig}
use Rattle.ol_chunks.specs.Places.{is_in, lies_in, physical_area}
use Rattle.ol_chunks.specs.Places.Part.{Data, Physical}
use Rattle.ol_chunks.proofs.PartLaws.{parts_apart}
use Rattle.ol_ports.specs.Disk.{Bytes, Past, Rest, page_list, seen}
use Rattle.ol_ports.specs.Frames.{FramedIn, IsQuiet, SameBut}
use Rattle.ol_ports.specs.Stops.{Stops}
use Rattle.ol_ports.proofs.FrameLaws.{framed_none}
use Rattle.ol_ports.proofs.StopLaws.{stops_none, stops_weaker, stops_with}
use Rattle.ol_physlog.specs.Heads.{generation_in, head_in}
use Rattle.ol_physlog.specs.Places.{entry_at, entry_of, gate_at, head_list, head_page, image_list}
use Rattle.ol_physlog.specs.Reading.{Found, IsFound, IsRefused, Tells, found_place, log_of}
use Rattle.ol_physlog.specs.States.{IsLaid, image_at, no_place}
use Rattle.ol_physlog.specs.declared.place.Place.{Place}
use Rattle.ol_physlog.proofs.KeptLaws.{settled_kept}
use Rattle.ol_data_pages.specs.Overlays.{images_of}
use Rattle.ol_physical_restore.specs.Restores.{KeepsPages, StandOverlaid, WereRead}
use Rattle.ol_store.specs.Holding.{HoldsPages, IsFresh}
use Rattle.ol_store.specs.Pages.{Pages}
use Rattle.ol_page_opening.specs.Opening.{AreSaved}

-- ---- where nothing was written

-- what a stop leaves of a disk on which all is synced
quiet_same : (past : Past) → IsQuiet past → (d : Bytes) → Rest past d → d ≡ seen past
quiet_same past quiet d rest = λ t k p i. quiet d rest k p i refl t

pub held_unwritten : (c : Config) (g : ℕ) (v : Pages) (old new : Past) → new ≡ old → IsQuiet old → HoldsPages c g v (seen old) → Stops old new (HoldsPages c g v)
held_unwritten c g v old new same quiet h =
    subst (λ (p : Past). Stops old p (HoldsPages c g v)) (sym same) (stops_none old (HoldsPages c g v) (λ d rest. subst (λ (e : Bytes). HoldsPages c g v e) (sym (quiet_same old quiet d rest)) h))

pub framed_unwritten : (a : ℕ → ℕ → Bool) (old new : Past) → new ≡ old → Stops old new (FramedIn old a)
framed_unwritten a old new same = subst (λ (p : Past). Stops old p (FramedIn old a)) (sym same) (stops_none old (FramedIn old a) (framed_none old (λ k p i. a k p)))

-- ---- entries of the same bytes

list_same : (d e : Bytes) (chunk page : ℕ) → ((i : ℕ) → d chunk page i ≡ e chunk page i) → page_list d chunk page ≡ page_list e chunk page
unfolding page_list
list_same d e chunk page same = ap (λ (b : ℕ → ℕ). map b (range_with_len 0 2048)) (λ t i. same i t)

module _ (c : Config) (is : IsConfig c) (g : ℕ) (e d : Bytes) (same : SameBut (λ k p i. is_in c Data k p) e d) where
  logged : (k p i : ℕ) → lies_in (physical_area c) k p ≡ true → d k p i ≡ e k p i
  logged k p i lies = same k p i (parts_apart c is Physical Data (λ x. cc) k p lies)

  inside : (k p : ℕ) → k < (physical_area c).count → head_page (physical_area c) k ≤ p → p ≤ head_page (physical_area c) k + 1 → lies_in (physical_area c) (physical_area c).chunk p ≡ true
  inside k p lt low high =
      let below : p < (physical_area c).first + (physical_area c).count * 2 = omega (arith, lt, high) in
      let above : (physical_area c).first ≤ p = omega (arith, low) in
      grind (arith, nat_tests)

  head_same : (k : ℕ) → k < (physical_area c).count → head_list (physical_area c) d k ≡ head_list (physical_area c) e k
  head_same k lt = list_same d e (physical_area c).chunk (head_page (physical_area c) k) (λ i. logged (physical_area c).chunk (head_page (physical_area c) k) i (inside k (head_page (physical_area c) k) lt (omega arith) (omega arith)))

  entry_same : (k : ℕ) → k < (physical_area c).count → entry_at c (physical_area c) g d k ≡ entry_at c (physical_area c) g e k
  unfolding entry_at
  entry_same k lt =
      ap (λ (l : List ℕ). entry_of (head_in c g l) (image_list (physical_area c) d k)) (head_same k lt)
      ∙ ap (λ (l : List ℕ). entry_of (head_in c g (head_list (physical_area c) e k)) l)
      (list_same d e (physical_area c).chunk (head_page (physical_area c) k + 1) (λ i. logged (physical_area c).chunk (head_page (physical_area c) k + 1) i (inside k (head_page (physical_area c) k + 1) lt (omega arith) (omega arith))))

  refused_same : (k : ℕ) → k < (physical_area c).count → IsRefused c (physical_area c) g d k → IsRefused c (physical_area c) g e k
  refused_same k lt (inl bad) = inl (sym (entry_same k lt) ∙ bad)
  refused_same k lt (inr (earlier, place, old, new, before, first, second)) =
      inr (earlier, place, old, new, before, sym (entry_same earlier (omega (arith, before, lt))) ∙ first, sym (entry_same k lt) ∙ second)

  gate_same : (k : ℕ) → k < (physical_area c).count → gate_at (physical_area c) d k ≡ gate_at (physical_area c) e k
  gate_same k lt = logged (physical_area c).chunk (head_page (physical_area c) k) 0 (inside k (head_page (physical_area c) k) lt (omega arith) (omega arith))

  -- where pages are kept under their entries, and these as they are, all is held
  kept_held : (v : Pages) → KeepsPages c g e d → HoldsPages c g v e → HoldsPages c g v d
  kept_held v keeps h = record {
    pages = λ space page up. keeps space page up.1 ∙ h.pages space page up;
    good = λ k lt refused. h.good k lt (refused_same k lt refused);
    images = λ k place image lt counts. h.images k place image lt (sym (entry_same k lt) ∙ counts);
    older = λ k lt gate. subst (λ (l : List ℕ). generation_in l ≤ g) (sym (head_same k lt)) (h.older k lt (sym (gate_same k lt) ∙ gate));
  }

-- ---- the restore

module _ (c : Config) (is : IsConfig c) (g : ℕ) (f : Found) (old mid new : Past) (same : mid ≡ old) where
  pub were_read : Tells c (physical_area c) g (seen old) f → IsQuiet old → length f.gates ≡ (physical_area c).count → WereRead c g mid f
  were_read tells quiet all = subst (λ (p : Past). WereRead c g p f) (sym same) (record { entries = tells; quiet = quiet; all = all })

  pub frame_from : Stops mid new (FramedIn mid (is_in c Data)) → Stops old new (FramedIn old (is_in c Data))
  frame_from frame = subst (λ (p : Past). Stops p new (FramedIn p (is_in c Data))) same frame

  keeps_from : Stops mid new (KeepsPages c g (seen mid)) → Stops old new (KeepsPages c g (seen old))
  keeps_from keeps = subst (λ (p : Past). Stops p new (KeepsPages c g (seen p))) same keeps

  -- at each moment all pages are held
  pub restored_stops : (v : Pages) → IsQuiet old → Stops mid new (KeepsPages c g (seen mid)) → Stops mid new (FramedIn mid (is_in c Data)) → HoldsPages c g v (seen old) → Stops old new (HoldsPages c g v)
  restored_stops v quiet keeps frame h =
      stops_weaker old new _ (HoldsPages c g v)
      (λ d both. kept_held c is g (seen old) d (λ k p i out. let f = both.1 in f.same k p i out ∙ quiet f.origin f.rest k p i refl) v both.0 h)
      (stops_with old new (KeepsPages c g (seen old)) (FramedIn old (is_in c Data)) (keeps_from keeps) (frame_from frame))

-- ---- the store that begins

-- the images that were read are those of the pages as at the last checkpoint
pub images_read : (c : Config) (g : ℕ) (d : Bytes) (f : Found) (v : Pages) → IsFound f → Tells c (physical_area c) g d f → length f.gates ≡ (physical_area c).count → HoldsPages c g v d → f.images ≡ images_of v.saved f.places
images_read c g d f v found tells all h =
    same_lists f.images (images_of v.saved f.places) (omega (arith, found.imaged, found.paired, length-map f.places image))
    (λ k x lt.
    let there : k < length f.numbers = omega (arith, lt, found.imaged) in
    let placed : k < length f.places = omega (arith, there, found.paired) in
    get_or_default f.images k x [] lt
    ∙ h.images (slice_index f.numbers k) (found_place f k) (image_at f.images k) (omega (arith, found.numbers k there, all)) (tells.counts k there)
    ∙ sym (get_or-map image f.places k no_place x placed))
  where
    image : Place → List ℕ
    image = λ (place : Place). page_bytes (v.saved place.space place.page)

module _ (c : Config) (is : IsConfig c) (g : ℕ) (f : Found) (v : Pages) (old mid new : Past) (same : mid ≡ old) (found : IsFound f) (tells : Tells c (physical_area c) g (seen old) f) (all : length f.gates ≡ (physical_area c).count) (h : HoldsPages c g v (seen old)) where
  laid_on : (laid : IsLaid c old (log_of c g f) f.images) → Stops mid new (FramedIn mid (is_in c Data)) → IsLaid c new (log_of c g f) (images_of v.saved f.places)
  laid_on laid frame =
      subst (λ (images : List (List ℕ)). IsLaid c new (log_of c g f) images) (images_read c g (seen old) f v found tells all h)
      (settled_kept (log_of c g f) laid.is (λ k p i. is_in c Data k p) (λ k p i lies. parts_apart c is Physical Data (λ x. cc) k p lies) c old new f.images (frame_from c is g f old mid new same frame).behind laid (sym found.paired))

  -- all pages stand at their places, and the log is laid
  pub fresh : AreSaved c v → IsLaid c old (log_of c g f) f.images → Stops mid new (FramedIn mid (is_in c Data)) → ((d : Bytes) → Rest new d → StandOverlaid c g (seen mid) d) → IsFresh new c (log_of c g f) v
  fresh saved laid frame stand = record {
    laid = laid_on laid frame;
    places = λ d rest space page up.
        subst (λ (p : Past). StandOverlaid c g (seen p) d) same (stand d rest) space page up.1 ∙ h.pages space page up ∙ ap (λ (p : Page). page_bytes p) (sym (saved.same space page up));
    unchanged = saved.same;
    pages = saved.pages;
  }
