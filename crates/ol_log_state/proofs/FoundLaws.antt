-- The ring of a run is the one that an opening finds.
use Rattle.std.specs.List.{list_any}
use Rattle.std.specs.Prelude.{List, [], false, fold, if◌then◌else◌, map, max, true, ℕ, ◌||◌, ◌++◌, ◌+◌, ◌==◌, ◌∷◌, ◌≡◌}
use Rattle.std.proofs.Common.{ap, arith, refl, sym, ◌∙◌}
use Rattle.std.proofs.lemmas.List.{map-append}
use Rattle.ol_chunks.specs.declared.table.Area.{Area}
use Rattle.ol_record.specs.LogPages.{head_of}
use Rattle.ol_rules.specs.DiskValue.{AnchorValue, OpenLog, greatest_uniq, new_use, range_of, ring_found, use_with}
use Rattle.ol_rules.specs.Ring.{Ring, Use}
use Rattle.ol_log_state.specs.declared.places.RingStart.{RingStart}
use Rattle.ol_log_state.specs.Files.{extended, greatest_of, use_with_head}
use Rattle.ol_log_state.specs.RingState.{current_uniq, heads_of_logs, ring_of, started}
use Rattle.ol_log_state.specs.Uses.{HeldUse, fresh, range_of_head, use_of, with_head}

-- ---- the uses

same_any : (uniq : ℕ) (uses : List HeldUse) → list_any (λ (u : Use). u.uniq == uniq) (map use_of uses) ≡ list_any (λ (u : HeldUse). u.uniq == uniq) uses
same_any uniq [] = refl
same_any uniq (u ∷ uses) = ap (λ b. (u.uniq == uniq) || b) (same_any uniq uses)

abbrev with_log : OpenLog → Use → Use
with_log l u = if u.uniq == l.page.uniq then record u { pages = u.pages ++ range_of l.page ∷ [] } else u

pages_more : (u : HeldUse) (l : OpenLog) → use_of (with_head (head_of l.page) u) ≡ (let v : Use = record (use_of u) { pages = (use_of u).pages ++ range_of l.page ∷ [] } in v)
pages_more u l = ap (λ p. (let v : Use = record { uniq = u.uniq; pages = p; switched = u.switched } in v)) (map-append range_of_head u.heads (head_of l.page ∷ []))

all_more : (uses : List HeldUse) (l : OpenLog) → map use_of (extended l.page.uniq (head_of l.page) uses) ≡ map (with_log l) (map use_of uses)
all_more [] l = refl
all_more (u ∷ uses) l =
    let rest = all_more uses l in
    elim (u.uniq == l.page.uniq) as (λ b. use_of (if b then with_head (head_of l.page) u else u) ∷ map use_of (extended l.page.uniq (head_of l.page) uses)
    ≡ (let v : Use = (if b then record (use_of u) { pages = (use_of u).pages ++ range_of l.page ∷ [] } else use_of u) in v) ∷ map (with_log l) (map use_of uses)) [
      | true ↦ ap (λ (v : List Use). use_of (with_head (head_of l.page) u) ∷ v) rest ∙ ap (λ (v : Use). v ∷ map (with_log l) (map use_of uses)) (pages_more u l)
      | false ↦ ap (λ (v : List Use). use_of u ∷ v) rest
    ]

one_with : (uses : List HeldUse) (l : OpenLog) → map use_of (use_with_head uses (head_of l.page)) ≡ use_with (map use_of uses) l
one_with uses l =
    let h = head_of l.page in
    elim (list_any (λ (u : HeldUse). u.uniq == l.page.uniq) uses) as (λ b. map use_of (let v : List HeldUse = (if b then extended l.page.uniq h uses else uses ++ with_head h (fresh l.page.uniq) ∷ []) in v)
    ≡ (let v : List Use = (if b then map (with_log l) (map use_of uses) else map use_of uses ++ new_use l.page ∷ []) in v)) [
      | true ↦ all_more uses l
      | false ↦ map-append use_of uses (with_head h (fresh l.page.uniq) ∷ [])
    ]
    ∙ sym (ap (λ b. (let v : List Use = (if b then map (with_log l) (map use_of uses) else map use_of uses ++ new_use l.page ∷ []) in v)) (same_any l.page.uniq uses))

found_uses : (logs : List OpenLog) (uses : List HeldUse) → map use_of (fold use_with_head uses (heads_of_logs logs)) ≡ fold use_with (map use_of uses) logs
found_uses [] uses = refl
found_uses (l ∷ logs) uses = found_uses logs (use_with_head uses (head_of l.page)) ∙ ap (λ (v : List Use). fold use_with v logs) (one_with uses l)

-- ---- the current number

found_greatest : (logs : List OpenLog) (m n : ℕ) → greatest_of (max m n) (heads_of_logs logs) ≡ max m (fold (λ k (l : OpenLog). max k l.page.uniq) n logs)
found_greatest [] m n = refl
found_greatest (l ∷ logs) m n =
    ap (λ k. greatest_of k (heads_of_logs logs)) (let e : max (max m n) l.page.uniq ≡ max m (max n l.page.uniq) = omega arith in e) ∙ found_greatest logs m (max n l.page.uniq)

found_uniq : (a : AnchorValue) (start : RingStart) (logs : List OpenLog) → a.uniq ≡ start.uniq → a.lasting.backed ≡ start.backed
    → current_uniq start (heads_of_logs logs) ≡ max a.uniq (max (greatest_uniq logs) (a.lasting.backed + 1))
found_uniq a start logs uniq backed =
    let m = max start.uniq (start.backed + 1) in
    let none : m ≡ max m 0 = omega arith in
    let e = ap (λ k. greatest_of k (heads_of_logs logs)) none ∙ found_greatest logs m 0 in
    omega (arith, e, uniq, backed)

pub found_ring : (area : Area) (a : AnchorValue) (start : RingStart) (logs : List OpenLog) → a.uniq ≡ start.uniq → a.lasting.backed ≡ start.backed → ring_of (started area start (heads_of_logs logs)) ≡ ring_found a logs
unfolding ring_found
found_ring area a start logs uniq backed =
    ap (λ (l : List Use). (let r : Ring = record { uses = l; uniq = current_uniq start (heads_of_logs logs); buffer = [] } in r)) (found_uses logs [])
    ∙ ap (λ n. (let r : Ring = record { uses = fold use_with [] logs; uniq = n; buffer = [] } in r)) (found_uniq a start logs uniq backed)
