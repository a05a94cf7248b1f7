-- The log files and their uses.
use Rattle.std.specs.List.{AllByRecursion, find, position_from}
use Rattle.std.specs.Option.{option_or}
use Rattle.std.specs.Prelude.{Bool, List, None, Option, Some, [], drop, false, flat_map, if◌then◌else◌, length, map, nat_lt, slice_index_or, slice_set, suc, true, zero, ℕ, ◌||◌, ◌+◌, ◌<◌, ◌==◌, ◌∷◌, ◌≡◌, ◌≤◌}
use Rattle.std.specs.Vec.{with_item}
use Rattle.std.proofs.Common.{ap, arith, cond, ne_eqb, refl, subst, sym, ◌∙◌}
use Rattle.std.proofs.lemmas.Bool.{eqb-false, eqb-true}
use Rattle.std.proofs.lemmas.List.{drop_more, length-append}
use Rattle.std.proofs.lemmas.List.Folds.{find-append}
use Rattle.ol_record.specs.declared.head.LogHead.{LogHead}
use Rattle.ol_rules.specs.Ring.{LogRange, Ring, Use, is_closed, last_range, unwritten}
use Rattle.ol_values.specs.Config.{Config}
use Rattle.ol_log_state.specs.declared.places.NextPage.{NextPage}
use Rattle.ol_log_state.specs.declared.log_files.LogFiles.TheInside.{Inside}
use Rattle.ol_log_state.specs.Files.{current_use, log_config, next_page, page_behind, ring_in}
use Rattle.ol_log_state.specs.StoredFiles.{AreApart, AreNumbered, IsLogFiles, IsRoomy, IsSpare, files_in, helds, uniqs}
use Rattle.ol_log_state.specs.Uses.{HeldUse, Stored, closed_use, emptied, pushed, use_of}
use Rattle.ol_log_state.proofs.ListLaws.{all_at, all_pushed, all_set, all_unmapped, all_wider, located}
use Rattle.ol_log_state.proofs.UseLaws.{last_pushed}

-- ---- a head among those of all uses

abbrev pub heads_of : List HeldUse → List LogHead
heads_of uses = flat_map (λ (u : HeldUse). u.heads) uses

-- the stored uses from an index on
next_stored : (items : List Stored) (i : ℕ) (s : Stored) → i < length items → s ≡ slice_index_or items i s → drop i items ≡ s ∷ drop (i + 1) items
next_stored items i s there is = drop_more items i s there ∙ ap (λ (t : Stored). t ∷ drop (i + 1) items) (sym is)

pub found_first : (p : LogHead → Bool) (items : List Stored) (i : ℕ) (s : Stored) → i < length items → s ≡ slice_index_or items i s
    → find p (heads_of (helds (drop i items))) ≡ option_or (find p s.held.heads) (find p (heads_of (helds (drop (i + 1) items))))
found_first p items i s there is =
    ap (λ (l : List Stored). find p (heads_of (helds l))) (next_stored items i s there is) ∙ find-append p s.held.heads (heads_of (helds (drop (i + 1) items)))

-- ---- spare uses

-- a use that has memory for a file is a spare one once it is emptied
pub emptied_spare : (pages uniq : ℕ) (s : Stored) → IsRoomy pages s → IsSpare pages (emptied uniq s)
emptied_spare pages uniq s roomy = record { none = refl; whole = omega (arith, roomy.whole) }

-- ---- the use of a number

located_use_from : (uniq n i : ℕ) (items : List Stored) → position_from (λ (s : Stored). s.held.uniq == uniq) n items ≡ Some i
    → (k : ℕ) × (i ≡ n + k) × ((d : Stored) → find (λ (u : Use). u.uniq == uniq) (map use_of (helds items)) ≡ Some (use_of (slice_index_or items k d).held))
located_use_from uniq n i [] e = absurd (let g : None ≡ Some i = e in cc)
located_use_from uniq n i (x ∷ items) e =
    elim (x.held.uniq == uniq) as (λ b. cond b (Some n) (position_from (λ (s : Stored). s.held.uniq == uniq) (n + 1) items) ≡ Some i
    → (k : ℕ) × (i ≡ n + k) × ((d : Stored) → cond b (Some (use_of x.held)) (find (λ (u : Use). u.uniq == uniq) (map use_of (helds items))) ≡ Some (use_of (slice_index_or (x ∷ items) k d).held))) [
      | true ↦ λ is. (let same : n ≡ i = cc in (zero, omega (arith, same), λ d. refl))
      | false ↦ λ is. (let (k, same, at) = located_use_from uniq (n + 1) i items is in (suc k, omega (arith, same), at))
    ] e

-- where it stands at an index, it is the current one of that number
pub located_use : (uniq i : ℕ) (items : List Stored) (d : Stored) → position_from (λ (s : Stored). s.held.uniq == uniq) 0 items ≡ Some i
    → find (λ (u : Use). u.uniq == uniq) (map use_of (helds items)) ≡ Some (use_of (slice_index_or items i d).held)
located_use uniq i items d e =
    let (k, same, at) = located_use_from uniq 0 i items e in
    subst (λ j. find (λ (u : Use). u.uniq == uniq) (map use_of (helds items)) ≡ Some (use_of (slice_index_or items j d).held)) (let s : k ≡ i = omega (arith, same) in s) (at d)

pub missed_use : (uniq n : ℕ) (items : List Stored) → position_from (λ (s : Stored). s.held.uniq == uniq) n items ≡ None
    → find (λ (u : Use). u.uniq == uniq) (map use_of (helds items)) ≡ None
missed_use uniq n [] e = refl
missed_use uniq n (x ∷ items) e =
    elim (x.held.uniq == uniq) as (λ b. cond b (Some n) (position_from (λ (s : Stored). s.held.uniq == uniq) (n + 1) items) ≡ None
    → cond b (Some (use_of x.held)) (find (λ (u : Use). u.uniq == uniq) (map use_of (helds items))) ≡ None) [
      | true ↦ λ is. absurd (let g : Some n ≡ None = is in cc)
      | false ↦ λ is. missed_use uniq (n + 1) items is
    ] e

-- ---- one use changes

abbrev pub at_number : ℕ → (HeldUse → HeldUse) → List HeldUse → List HeldUse
at_number uniq f uses = map (λ (u : HeldUse). if u.uniq == uniq then f u else u) uses

-- where no use has the number, none changes
pub none_is_map : (uniq : ℕ) (f : HeldUse → HeldUse) (items : List Stored) → AllByRecursion (λ (s : Stored). (s.held.uniq == uniq) ≡ false) items → helds items ≡ at_number uniq f (helds items)
none_is_map uniq f [] all = refl
none_is_map uniq f (x ∷ items) all =
    ap (λ l. x.held ∷ l) (none_is_map uniq f items all.1) ∙ sym (ap (λ b. (if b then f x.held else x.held) ∷ at_number uniq f (helds items)) all.0)

-- a number that differs from all others differs from that at an index
elsewhere : (n uniq : ℕ) (items : List Stored) (i : ℕ) (d : Stored) → AllByRecursion (λ m. (m == n) ≡ false) (uniqs items) → i < length items → ((slice_index_or items i d).held.uniq == uniq) ≡ true → (n == uniq) ≡ false
elsewhere n uniq [] i d all there is = absurd (omega arith)
elsewhere n uniq (x ∷ items) zero d all there is =
    ne_eqb n uniq (λ same. eqb-false uniq n (subst (λ m. (m == n) ≡ false) (eqb-true x.held.uniq uniq is) all.0) (sym same))
elsewhere n uniq (x ∷ items) (suc i) d all there is = elsewhere n uniq items i d all.1 (omega arith) is

-- the use at an index is the only one of its number
pub set_is_map : (uniq : ℕ) (f : HeldUse → HeldUse) (items : List Stored) (i : ℕ) (s d : Stored) → AreApart (uniqs items) → i < length items → ((slice_index_or items i d).held.uniq == uniq) ≡ true
    → s.held ≡ f (slice_index_or items i d).held → helds (slice_set items i s) ≡ at_number uniq f (helds items)
set_is_map uniq f [] i s d apart there is step = absurd (omega arith)
set_is_map uniq f (x ∷ items) zero s d apart there is step =
    let others = all_wider (λ (t : Stored). (t.held.uniq == x.held.uniq) ≡ false) (λ (t : Stored). (t.held.uniq == uniq) ≡ false) items (λ t off. subst (λ n. (t.held.uniq == n) ≡ false) (eqb-true x.held.uniq uniq is) off) (all_unmapped (λ m. (m == x.held.uniq) ≡ false) (λ (t : Stored). t.held.uniq) items apart.0) in
    ap (λ (u : HeldUse). u ∷ helds items) step ∙ ap (λ l. f x.held ∷ l) (none_is_map uniq f items others) ∙ sym (ap (λ b. (if b then f x.held else x.held) ∷ at_number uniq f (helds items)) is)
set_is_map uniq f (x ∷ items) (suc i) s d apart there is step =
    let rest = set_is_map uniq f items i s d apart.1 (omega arith) is step in
    let other = elsewhere x.held.uniq uniq items i d apart.0 (omega arith) is in
    ap (λ l. x.held ∷ l) rest ∙ sym (ap (λ b. (if b then f x.held else x.held) ∷ at_number uniq f (helds items)) other)

pub uniqs_set : (items : List Stored) (i : ℕ) (s d : Stored) → i < length items → s.held.uniq ≡ (slice_index_or items i d).held.uniq → uniqs (slice_set items i s) ≡ uniqs items
uniqs_set [] i s d there same = absurd (omega arith)
uniqs_set (x ∷ items) zero s d there same = ap (λ n. n ∷ uniqs items) same
uniqs_set (x ∷ items) (suc i) s d there same = ap (λ l. x.held.uniq ∷ l) (uniqs_set items i s d (omega arith) same)

-- one stored use may be replaced by another of its number
pub files_set : (f : Inside) (i : ℕ) (s d : Stored) → IsLogFiles f → i < length f.uses.items → IsRoomy f.area.pages s → s.held.uniq ≡ (slice_index_or f.uses.items i d).held.uniq
    → IsLogFiles (record { area = f.area; uses = with_item f.uses i s; spare = f.spare; uniq = f.uniq })
files_set f i s d is there roomy same = record {
  area = is.area;
  uniq = is.uniq;
  roomy = all_set (IsRoomy f.area.pages) f.uses.items i s is.roomy roomy;
  spares = is.spares;
  numbered = subst (λ l. AreNumbered f.area.count f.uniq l (length f.spare.items)) (sym (uniqs_set f.uses.items i s d there same)) is.numbered;
  capacity = is.capacity;
}

pub closed_roomy : (pages : ℕ) (s : Stored) → IsRoomy pages s → IsRoomy pages (record { held = closed_use s.held; room = s.room })
closed_roomy pages s is = record { placed = is.placed; rest = is.rest; whole = is.whole }

-- the use at an index
pub use_at : (P : Stored → Type 0) (items : List Stored) (i : ℕ) (d : Stored) → i < length items → d ≡ slice_index_or items i d → AllByRecursion P items → P d
use_at P items i d there is all = subst P (sym is) (all_at P items i d there all)

abbrev pub is_numbered : ℕ → Stored → Bool
is_numbered uniq s = s.held.uniq == uniq

pub roomy_at : (f : Inside) (i : ℕ) (d : Stored) → IsLogFiles f → position_from (is_numbered f.uniq) 0 f.uses.items ≡ Some i → d ≡ slice_index_or f.uses.items i d → IsRoomy f.area.pages d
roomy_at f i d is e at = use_at (IsRoomy f.area.pages) f.uses.items i d (located (is_numbered f.uniq) i f.uses.items e).within at is.roomy

-- the current use changes, and keeps its number
pub replaced : (f : Inside) (step : HeldUse → HeldUse) (i : ℕ) (s d : Stored) → IsLogFiles f → position_from (is_numbered f.uniq) 0 f.uses.items ≡ Some i → d ≡ slice_index_or f.uses.items i d
    → s.held ≡ step d.held → (step d.held).uniq ≡ d.held.uniq → IsRoomy f.area.pages s
    → IsLogFiles (record { area = f.area; uses = with_item f.uses i s; spare = f.spare; uniq = f.uniq }) × (helds (slice_set f.uses.items i s) ≡ at_number f.uniq step (helds f.uses.items))
replaced f step i s d is e at stepped same roomy =
    let there = located (is_numbered f.uniq) i f.uses.items e in
    let number = ap (λ (u : HeldUse). u.uniq) stepped ∙ same ∙ ap (λ (t : Stored). t.held.uniq) at in (
      files_set f i s d is there.within roomy number,
      set_is_map f.uniq step f.uses.items i s d is.numbered.apart there.within (there.passes d) (stepped ∙ ap (λ (t : Stored). step t.held) at),
    )

-- ---- the next page

page_open : (c : Config) (r : Ring) (o : Option Use) (p : NextPage) → page_behind c r o ≡ p → p.enters ≡ false → (u : Use) × (o ≡ Some u) × (p.index ≡ (last_range u).index + 1) × (is_closed c r u ≡ false)
page_open c r None p e open_ = absurd (let g : true ≡ false = ap (λ (q : NextPage). q.enters) e ∙ open_ in cc)
page_open c r (Some u) p e open_ =
    elim (is_closed c r u) as (λ b. is_closed c r u ≡ b → (let q : NextPage = (if b then record { uniq = r.uniq + 1; index = 0; enters = true } else record { uniq = r.uniq; index = (last_range u).index + 1; enters = false }) in q) ≡ p
    → (v : Use) × (Some u ≡ Some v) × (p.index ≡ (last_range v).index + 1) × (is_closed c r v ≡ false)) [
      | true ↦ λ t is. absurd (let g : true ≡ false = ap (λ (q : NextPage). q.enters) is ∙ open_ in cc)
      | false ↦ λ t is. (u, refl, sym (ap (λ (q : NextPage). q.index) is), t)
    ] refl e

right_false : (a b : Bool) → (a || b) ≡ false → b ≡ false
right_false true b e = absurd (let g : true ≡ false = e in cc)
right_false false b e = e

some_left : (n : ℕ) → (n == 0) ≡ false → 1 ≤ n
some_left zero e = absurd (let g : true ≡ false = e in cc)
some_left (suc n) e = omega arith

-- where the next page enters no file, the current use is open, and has a page left
pub open_left : (f : Inside) (i n : ℕ) (d : Stored) → IsLogFiles f → position_from (is_numbered f.uniq) 0 f.uses.items ≡ Some i → d ≡ slice_index_or f.uses.items i d
    → next_page (files_in f) ≡ record { uniq = f.uniq; index = n; enters = false } → (n ≡ (last_range (use_of d.held)).index + 1) × (n < f.area.pages) × (1 ≤ d.room)
open_left f i n d is e at place =
    let (u, current, index, opened) = page_open (log_config f.area) (ring_in (files_in f)) (current_use (files_in f)) (record { uniq = f.uniq; index = n; enters = false }) place refl in
    let here : Some u ≡ Some (use_of d.held) = sym current ∙ located_use f.uniq i f.uses.items d e ∙ ap (λ (t : Stored). Some (use_of t.held)) (sym at) in
    let same : u ≡ use_of d.held = cc in
    let left = some_left (unwritten (log_config f.area) u) (right_false (nat_lt u.uniq f.uniq) (unwritten (log_config f.area) u == 0) (right_false u.switched (nat_lt u.uniq f.uniq || (unwritten (log_config f.area) u == 0)) opened)) in
    let last = ap (λ (v : Use). (last_range v).index) same in
    let roomy = roomy_at f i d is e at in
    (omega (arith, index, last), omega (arith, index, left), omega (arith, left, last, roomy.rest))

-- there is such a use
pub open_there : (f : Inside) (n : ℕ) → position_from (is_numbered f.uniq) 0 f.uses.items ≡ None → next_page (files_in f) ≡ record { uniq = f.uniq; index = n; enters = false } → ⊥
open_there f n e place =
    let (u, current, index, opened) = page_open (log_config f.area) (ring_in (files_in f)) (current_use (files_in f)) (record { uniq = f.uniq; index = n; enters = false }) place refl in
    let clash : Some u ≡ None = sym current ∙ missed_use f.uniq 0 f.uses.items e in
    cc

pub pushed_roomy : (pages : ℕ) (h : LogHead) (s : Stored) → IsRoomy pages s → h.index ≡ (last_range (use_of s.held)).index + 1 → h.index < pages → 1 ≤ s.room → IsRoomy pages (pushed h s)
pushed_roomy pages h s is index within some = record {
  placed = all_pushed (λ (g : LogHead). g.index < pages) s.held.heads h is.placed within;
  rest = omega (arith, is.rest, index, ap (λ (p : LogRange). p.index) (last_pushed s.held h));
  whole = omega (arith, is.whole, length-append s.held.heads (h ∷ []));
}
