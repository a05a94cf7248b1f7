-- The ring with heads is the ring by the rules.
use Rattle.std.specs.List.{AllByRecursion, find}
use Rattle.std.specs.Option.{option_map}
use Rattle.std.specs.Prelude.{List, None, Option, Some, [], false, filter, flat_map, if◌then◌else◌, is_none, is_some, map, not, slice_get, true, ℕ, ◌++◌, ◌+◌, ◌==◌, ◌∷◌, ◌≡◌}
use mir.Val.{bool_byte}
use Rattle.std.proofs.Common.{ap, cond, refl, subst, sym, ◌∙◌}
use Rattle.std.proofs.lemmas.Bool.{eqb-true}
use Rattle.ol_chunks.specs.declared.table.Area.{Area}
use Rattle.ol_record.specs.declared.head.LogHead.{LogHead}
use Rattle.ol_rules.specs.Ring.{LogRange, Ring, Use, at_use, file_of, holds_position, is_closed, last_range, open_use, switched_off, with_page_in, with_range}
use Rattle.ol_values.specs.Config.{Config}
use Rattle.ol_log_state.specs.declared.places.NextPage.{NextPage}
use Rattle.ol_log_state.specs.Files.{Files, entered, extended, log_config, page_behind, ring_in, switched_files}
use Rattle.ol_log_state.specs.StoredFiles.{AreApart, helds, uniqs}
use Rattle.ol_log_state.specs.Uses.{HeldUse, Stored, closed_use, fresh, head_holds, range_of_head, use_of, with_head}
use Rattle.ol_log_state.proofs.ListLaws.{all_unmapped, all_wider}

-- ---- positions

ranges_append : (xs ys : List LogHead) → map range_of_head (xs ++ ys) ≡ map range_of_head xs ++ map range_of_head ys
ranges_append [] ys = refl
ranges_append (x ∷ xs) ys = ap (λ l. range_of_head x ∷ l) (ranges_append xs ys)

all_ranges : (uses : List HeldUse) → flat_map (λ (u : Use). u.pages) (map use_of uses) ≡ map range_of_head (flat_map (λ (u : HeldUse). u.heads) uses)
all_ranges [] = refl
all_ranges (u ∷ uses) = ap (λ l. map range_of_head u.heads ++ l) (all_ranges uses) ∙ sym (ranges_append u.heads (flat_map (λ (v : HeldUse). v.heads) uses))

found_range : (position : ℕ) (heads : List LogHead) → find (holds_position position) (map range_of_head heads) ≡ option_map range_of_head (find (head_holds position) heads)
found_range position [] = refl
found_range position (h ∷ heads) =
    elim (head_holds position h) as (λ b. cond b (Some (range_of_head h)) (find (holds_position position) (map range_of_head heads)) ≡ option_map range_of_head (cond b (Some h) (find (head_holds position) heads))) [
      | true ↦ refl
      | false ↦ found_range position heads
    ]

-- a head that holds a position tells the page by the rules
pub page_found : (position : ℕ) (uses : List HeldUse) → option_map range_of_head (find (head_holds position) (flat_map (λ (u : HeldUse). u.heads) uses)) ≡ find (holds_position position) (flat_map (λ (u : Use). u.pages) (map use_of uses))
page_found position uses = sym (ap (λ l. find (holds_position position) l) (all_ranges uses) ∙ found_range position (flat_map (λ (u : HeldUse). u.heads) uses))

-- ---- the buffer

pub byte_is : {X : Type 0} (l : List X) → bool_byte (is_some (slice_get l 0)) ≡ (if is_none (slice_get l 0) then 0 else 1)
byte_is [] = refl
byte_is (x ∷ l) = refl

-- ---- a switch

closed_uses : (uniq : ℕ) (uses : List HeldUse) → map use_of (map (λ (u : HeldUse). if u.uniq == uniq then closed_use u else u) uses) ≡ map (λ (u : Use). if u.uniq == uniq then record u { switched = true } else u) (map use_of uses)
closed_uses uniq [] = refl
closed_uses uniq (u ∷ uses) =
    let rest = closed_uses uniq uses in
    elim (u.uniq == uniq) as (λ b. use_of (if b then closed_use u else u) ∷ map use_of (map (λ (u : HeldUse). if u.uniq == uniq then closed_use u else u) uses)
    ≡ (let v : Use = (if b then record (use_of u) { switched = true } else use_of u) in v) ∷ map (λ (u : Use). if u.uniq == uniq then record u { switched = true } else u) (map use_of uses)) [
      | true ↦ ap (λ l. use_of (closed_use u) ∷ l) rest
      | false ↦ ap (λ l. use_of u ∷ l) rest
    ]

pub switched_ring : (f : Files) → ring_in (switched_files f) ≡ switched_off (ring_in f)
switched_ring f = ap (λ (l : List Use). (let r : Ring = record { uses = l; uniq = f.uniq; buffer = [] } in r)) (closed_uses f.uniq f.uses)

-- ---- a new use

left_uses : (c : Config) (file : ℕ) (uses : List HeldUse) (t : HeldUse)
    → map use_of (filter (λ (u : HeldUse). not (file_of c u.uniq == file)) uses ++ t ∷ []) ≡ filter (λ (u : Use). not (file_of c u.uniq == file)) (map use_of uses) ++ use_of t ∷ []
left_uses c file [] t = refl
left_uses c file (u ∷ uses) t =
    let rest = left_uses c file uses t in
    elim (file_of c u.uniq == file) as (λ b. map use_of (cond (not b) (u ∷ filter (λ (u : HeldUse). not (file_of c u.uniq == file)) uses) (filter (λ (u : HeldUse). not (file_of c u.uniq == file)) uses) ++ t ∷ [])
    ≡ cond (not b) (use_of u ∷ filter (λ (u : Use). not (file_of c u.uniq == file)) (map use_of uses)) (filter (λ (u : Use). not (file_of c u.uniq == file)) (map use_of uses)) ++ use_of t ∷ []) [
      | true ↦ rest
      | false ↦ ap (λ l. use_of u ∷ l) rest
    ]

first_range : (uniq : ℕ) (h : LogHead) → h.index ≡ 0 → use_of (with_head h (fresh uniq)) ≡ (let u : Use = record { uniq = uniq; pages = (let p : LogRange = record { index = 0; first = h.first; count = h.count } in p ∷ []); switched = false } in u)
first_range uniq h e = ap (λ n. (let u : Use = record { uniq = uniq; pages = (let p : LogRange = record { index = n; first = h.first; count = h.count } in p ∷ []); switched = false } in u)) e

pub entered_ring : (f : Files) (uniq : ℕ) (h : LogHead) → h.index ≡ 0
    → ring_in (record { area = f.area; uses = entered f.area uniq h f.uses; uniq = uniq }) ≡ open_use (log_config f.area) (ring_in f) uniq h.first h.count
entered_ring f uniq h e =
    let c = log_config f.area in
    ap (λ (l : List Use). (let r : Ring = record { uses = l; uniq = uniq; buffer = [] } in r))
    (left_uses c (file_of c uniq) f.uses (with_head h (fresh uniq)) ∙ ap (λ (u : Use). filter (λ (v : Use). not (file_of c v.uniq == file_of c uniq)) (map use_of f.uses) ++ u ∷ []) (first_range uniq h e))

-- ---- a page more

abbrev more_range : ℕ → LogHead → Use → Use
more_range uniq h u = if u.uniq == uniq then with_range h.first h.count u else u

more_none : (uniq : ℕ) (h : LogHead) (items : List Stored) → AllByRecursion (λ (s : Stored). (s.held.uniq == uniq) ≡ false) items → map use_of (extended uniq h (helds items)) ≡ map (more_range uniq h) (map use_of (helds items))
more_none uniq h [] all = refl
more_none uniq h (s ∷ items) all =
    let rest = more_none uniq h items all.1 in
    ap (λ b. use_of (if b then with_head h s.held else s.held) ∷ map use_of (extended uniq h (helds items))) all.0
    ∙ ap (λ l. use_of s.held ∷ l) rest
    ∙ sym (ap (λ b. (let u : Use = (if b then with_range h.first h.count (use_of s.held) else use_of s.held) in u) ∷ map (more_range uniq h) (map use_of (helds items))) all.0)

one_more : (u : HeldUse) (h : LogHead) → h.index ≡ (last_range (use_of u)).index + 1 → use_of (with_head h u) ≡ with_range h.first h.count (use_of u)
one_more u h e =
    ap (λ l. (let v : Use = record { uniq = u.uniq; pages = l; switched = u.switched } in v))
    (ranges_append u.heads (h ∷ []) ∙ ap (λ n. map range_of_head u.heads ++ (let p : LogRange = record { index = n; first = h.first; count = h.count } in p ∷ [])) e)

more_uses : (uniq : ℕ) (h : LogHead) (items : List Stored) (v : Use) → AreApart (uniqs items) → find (λ (u : Use). u.uniq == uniq) (map use_of (helds items)) ≡ Some v → h.index ≡ (last_range v).index + 1
    → map use_of (extended uniq h (helds items)) ≡ map (more_range uniq h) (map use_of (helds items))
more_uses uniq h [] v apart found e = refl
more_uses uniq h (s ∷ items) v apart found e =
    elim (s.held.uniq == uniq) as (λ b. (s.held.uniq == uniq) ≡ b → cond b (Some (use_of s.held)) (find (λ (u : Use). u.uniq == uniq) (map use_of (helds items))) ≡ Some v
    → use_of (if b then with_head h s.held else s.held) ∷ map use_of (extended uniq h (helds items)) ≡ (let u : Use = (if b then with_range h.first h.count (use_of s.held) else use_of s.held) in u) ∷ map (more_range uniq h) (map use_of (helds items))) [
      | true ↦ λ here is.
          (let same : use_of s.held ≡ v = cc in
          let others = all_wider (λ (t : Stored). (t.held.uniq == s.held.uniq) ≡ false) (λ (t : Stored). (t.held.uniq == uniq) ≡ false) items (λ t off. subst (λ n. (t.held.uniq == n) ≡ false) (eqb-true s.held.uniq uniq here) off) (all_unmapped (λ m. (m == s.held.uniq) ≡ false) (λ (t : Stored). t.held.uniq) items apart.0) in
          ap (λ l. use_of (with_head h s.held) ∷ l) (more_none uniq h items others)
          ∙ ap (λ (u : Use). u ∷ map (more_range uniq h) (map use_of (helds items))) (one_more s.held h (e ∙ ap (λ (u : Use). (last_range u).index + 1) (sym same))))
      | false ↦ λ off is. ap (λ l. use_of s.held ∷ l) (more_uses uniq h items v apart.1 is e)
    ] refl found

-- the current use, of which there is one, has a page more
pub extended_ring : (area : Area) (uniq : ℕ) (h : LogHead) (items : List Stored) (v : Use) → AreApart (uniqs items) → find (λ (u : Use). u.uniq == uniq) (map use_of (helds items)) ≡ Some v → h.index ≡ (last_range v).index + 1
    → ring_in (record { area = area; uses = extended uniq h (helds items); uniq = uniq }) ≡ at_use uniq (with_range h.first h.count) (ring_in (record { area = area; uses = helds items; uniq = uniq }))
extended_ring area uniq h items v apart found e = ap (λ (l : List Use). (let r : Ring = record { uses = l; uniq = uniq; buffer = [] } in r)) (more_uses uniq h items v apart found e)

-- ---- the next page by the rules

pub page_in_new : (c : Config) (r : Ring) (o : Option Use) (p : NextPage) (first count : ℕ) → page_behind c r o ≡ p → p.enters ≡ true → (p.index ≡ 0) × (with_page_in c r o first count ≡ open_use c r p.uniq first count)
page_in_new c r None p first count e enters = (sym (ap (λ (q : NextPage). q.index) e), ap (λ (q : NextPage). open_use c r q.uniq first count) e)
page_in_new c r (Some u) p first count e enters =
    elim (is_closed c r u) as (λ b. (let q : NextPage = (if b then record { uniq = r.uniq + 1; index = 0; enters = true } else record { uniq = r.uniq; index = (last_range u).index + 1; enters = false }) in q) ≡ p
    → (p.index ≡ 0) × ((let s : Ring = (if b then open_use c r (r.uniq + 1) first count else at_use r.uniq (with_range first count) r) in s) ≡ open_use c r p.uniq first count)) [
      | true ↦ λ is. (sym (ap (λ (q : NextPage). q.index) is), ap (λ (q : NextPage). open_use c r q.uniq first count) is)
      | false ↦ λ is. absurd (let g : false ≡ true = ap (λ (q : NextPage). q.enters) is ∙ enters in cc)
    ] e

pub page_in_old : (c : Config) (r : Ring) (o : Option Use) (p : NextPage) (first count : ℕ) → page_behind c r o ≡ p → p.enters ≡ false → (p.uniq ≡ r.uniq) × (with_page_in c r o first count ≡ at_use r.uniq (with_range first count) r)
page_in_old c r None p first count e stays = absurd (let g : true ≡ false = ap (λ (q : NextPage). q.enters) e ∙ stays in cc)
page_in_old c r (Some u) p first count e stays =
    elim (is_closed c r u) as (λ b. (let q : NextPage = (if b then record { uniq = r.uniq + 1; index = 0; enters = true } else record { uniq = r.uniq; index = (last_range u).index + 1; enters = false }) in q) ≡ p
    → (p.uniq ≡ r.uniq) × ((let s : Ring = (if b then open_use c r (r.uniq + 1) first count else at_use r.uniq (with_range first count) r) in s) ≡ at_use r.uniq (with_range first count) r)) [
      | true ↦ λ is. absurd (let g : true ≡ false = ap (λ (q : NextPage). q.enters) is ∙ stays in cc)
      | false ↦ λ is. (sym (ap (λ (q : NextPage). q.uniq) is), refl)
    ] e
