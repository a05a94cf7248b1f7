-- The places of a drive's blocks: what stands first, and what blocks they give.
use Rattle.std.proofs.Common.{◌≡◌, ℕ, ◌+◌, ◌-◌, ◌<◌, List, [], ◌∷◌, ◌++◌, Some, refl, suc, sym, ◌∙◌, ap, arith, drop, get_or, length, map}
use Rattle.std.proofs.Math.ListN.{get_or-map}
use Rattle.std.proofs.Math.Seq.{drop-cons}
use Rattle.std.proofs.lemmas.List.{length-drop, map-append}
use Rattle.std.proofs.lemmas.Simd.{map-map}
use Rattle.std.specs.List.{range_with_len}
use Rattle.ol_ports.specs.Drive.{blocks_in_order}
use Rattle.ol_ports.specs.Shelf.{HasVolume, HasBlock, block_at, block_count, shape_of, volumes_at}
use Rattle.ol_shelf_reader.specs.Streams.{Position, places_from, places_in, places_left, places_of}
use Rattle.ol_shelf_reader.specs.Steps.{IsNext, behind}

-- ---- one step

-- the places that are left in a volume that is there, and those of the later ones
in_volume : (shape : List (List ℕ)) (at : Position) → HasVolume shape at.drive at.volume
    → places_left shape at ≡ places_in at.volume at.block (block_count shape at.drive at.volume) ++ places_from (at.volume + 1) 0 (drop at.volume (get_or shape at.drive []))
in_volume shape at there =
    let counts : List ℕ = get_or shape at.drive [] in
    let e : suc (at.volume - 1) ≡ at.volume = omega (arith, there.0) in
    ap (λ l. places_from at.volume at.block l) (drop-cons counts (at.volume - 1) 0 (omega (arith, there.0, there.1)))
    ∙ ap (λ n. places_in at.volume at.block (block_count shape at.drive at.volume) ++ places_from (at.volume + 1) 0 (drop n counts)) e

-- a block that is there stands first, and the others follow it
pub stands_first : (shape : List (List ℕ)) (at : Position) → HasBlock shape at.drive at.volume at.block → IsNext shape at (Some (at.volume, at.block))
stands_first shape at there =
    let counts : List ℕ = get_or shape at.drive [] in
    let count : ℕ = block_count shape at.drive at.volume in
    let more : count - at.block ≡ suc (count - (at.block + 1)) = omega (arith, there.1) in (
      there,
      in_volume shape at there.0
          ∙ ap (λ n. map (λ b. (at.volume, b)) (range_with_len at.block n) ++ places_from (at.volume + 1) 0 (drop at.volume counts)) more
          ∙ ap (λ l. (at.volume, at.block) ∷ l) (sym (in_volume shape (behind at (at.volume, at.block)) there.0)),
    )

-- ---- the blocks at the places

-- an element of a list, and what follows it
parted : {X : Type 0} (whole : List X) (d : X) (i : ℕ) (x : X) (l : List X) → drop i whole ≡ x ∷ l → (get_or whole i d ≡ x) × (drop (i + 1) whole ≡ l)
parted whole d i x l e =
    let h : i < length whole = omega (arith, simp length-drop at (ap length e)) in
    let s : suc i ≡ i + 1 = omega arith in
    let f = drop-cons whole i d h in
    (cc, cc)

-- a list that is told by its indexes
listed : {X : Type 0} (whole : List X) (d : X) (i : ℕ) (l : List X) → drop i whole ≡ l → map (λ b. get_or whole b d) (range_with_len i (length l)) ≡ l
listed whole d i [] e = refl
listed whole d i (x ∷ l) e =
    let p = parted whole d i x l e in
    λ k. p.0 k ∷ listed whole d (i + 1) l p.1 k

-- the block at a place of these volumes
abbrev placed : List (List (List ℕ)) → ℕ × ℕ → List ℕ
placed volumes p = get_or (get_or volumes (p.0 - 1) []) p.1 []

-- the places of one volume give its blocks
of_volume : (volumes : List (List (List ℕ))) (i : ℕ) (v : List (List ℕ)) → get_or volumes i [] ≡ v → map (placed volumes) (places_in (i + 1) 0 (length v)) ≡ v
of_volume volumes i v e =
    let same : i + 1 - 1 ≡ i = omega arith in
    let whole : length v - 0 ≡ length v = omega arith in
    ap (λ n. map (placed volumes) (map (λ b. (i + 1, b)) (range_with_len 0 n))) whole
    ∙ map-map (placed volumes) (λ b. (i + 1, b)) (range_with_len 0 (length v))
    ∙ ap (λ w. map (λ b. get_or w b []) (range_with_len 0 (length v))) (ap (λ n. get_or volumes n []) same ∙ e)
    ∙ listed v [] 0 v refl

-- the places of the volumes from one on give their blocks
of_volumes : (volumes : List (List (List ℕ))) (i : ℕ) (l : List (List (List ℕ))) → drop i volumes ≡ l
    → map (placed volumes) (places_from (i + 1) 0 (map (λ v. length v) l)) ≡ blocks_in_order l
of_volumes volumes i [] e = refl
of_volumes volumes i (v ∷ l) e =
    let p = parted volumes [] i v l e in
    map-append (placed volumes) (places_in (i + 1) 0 (length v)) (places_from (i + 1 + 1) 0 (map (λ w. length w) l))
    ∙ (λ k. of_volume volumes i v p.0 k ++ of_volumes volumes (i + 1) l p.1 k)

-- the blocks at a drive's places are its volumes laid end to end
pub of_drive : (tapes : List (List (List (List ℕ)))) (drive : ℕ) → map (λ (p : ℕ × ℕ). block_at tapes drive p.0 p.1) (places_of (shape_of tapes) drive) ≡ blocks_in_order (volumes_at tapes drive)
of_drive tapes drive =
    ap (λ counts. map (placed (volumes_at tapes drive)) (places_from 1 0 counts)) (get_or-map (λ volumes. map (λ v. length v) volumes) tapes drive [])
    ∙ of_volumes (volumes_at tapes drive) 0 (volumes_at tapes drive) refl
