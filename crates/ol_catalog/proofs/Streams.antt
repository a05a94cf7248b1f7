-- The blocks of a drive are a stream of the shelf.
use Rattle.std.proofs.Common.{◌≡◌, ℕ, ◌+◌, ◌-◌, ◌<◌, ◌≤◌, ◌++◌, ◌∙◌, List, [], ◌∷◌, Option, ap, arith, drop, flat_map, get_or, length, length-take, map, refl, suc, sym, take}
use Rattle.std.specs.List.{enumerate_from, range_with_len}
use Rattle.std.proofs.Math.ListN.{get_or-map as map_of}
use Rattle.std.proofs.Math.Seq.{drop-cons}
use Rattle.std.proofs.lemmas.List.{get_or_past, length-drop, length-map, map-append, take_all, take_more}
use Rattle.std.proofs.lemmas.Simd.{map-map}
use Rattle.ol_values.specs.Blocks.{Block}
use Rattle.ol_ports.specs.Shelf.{volumes_at}
use Rattle.ol_rules.specs.Shelf.{Placed, placed_blocks, readable_item, stream, streams}
use Rattle.ol_block_values.specs.Items.{item_in, shelf_of}
use Rattle.ol_shelf_reader.specs.Streams.{places_from, places_in}
use Rattle.ol_catalog.specs.Streams.{drive_blocks, shelf_to}

-- ---- one drive

-- an element of a list, and what follows it
parted : {X : Type 0} (whole : List X) (d : X) (i : ℕ) (x : X) (l : List X) → drop i whole ≡ x ∷ l → (get_or whole i d ≡ x) × (drop (i + 1) whole ≡ l)
parted whole d i x l e =
    let h : i < length whole = omega (arith, simp length-drop at (ap length e)) in
    let s : suc i ≡ i + 1 = omega arith in
    let f = drop-cons whole i d h in
    (cc, cc)

-- the block of a volume's number and its own
abbrev placed : ℕ → ℕ → ℕ → Option Block → Placed
placed drive v b item = record { drive = drive; volume = v; block = b; item = readable_item item }

listed : (drive v : ℕ) (whole : List (List ℕ)) (i : ℕ) (l : List (List ℕ)) → drop i whole ≡ l
    → map (λ (b : ℕ). placed drive v b (item_in (get_or whole b []))) (range_with_len i (length l)) ≡ map (λ (b : ℕ × Option Block). placed drive v b.0 b.1) (enumerate_from i (map item_in l))
listed drive v whole i [] e = refl
listed drive v whole i (x ∷ l) e =
    let p = parted whole [] i x l e in
    λ k. placed drive v i (item_in (p.0 k)) ∷ listed drive v whole (i + 1) l p.1 k

-- the block at a place of these volumes
abbrev placed_in : ℕ → List (List (List ℕ)) → ℕ × ℕ → Placed
placed_in drive volumes p = placed drive p.0 p.1 (item_in (get_or (get_or volumes (p.0 - 1) []) p.1 []))

of_volume : (drive : ℕ) (volumes : List (List (List ℕ))) (i : ℕ) (v : List (List ℕ)) → get_or volumes i [] ≡ v
    → map (placed_in drive volumes) (places_in (i + 1) 0 (length v)) ≡ placed_blocks drive (i + 1, map item_in v)
of_volume drive volumes i v e =
    let same : i + 1 - 1 ≡ i = omega arith in
    let whole : length v - 0 ≡ length v = omega arith in
    ap (λ n. map (placed_in drive volumes) (map (λ b. (i + 1, b)) (range_with_len 0 n))) whole
    ∙ map-map (placed_in drive volumes) (λ b. (i + 1, b)) (range_with_len 0 (length v))
    ∙ ap (λ w. map (λ (b : ℕ). placed drive (i + 1) b (item_in (get_or w b []))) (range_with_len 0 (length v))) (ap (λ n. get_or volumes n []) same ∙ e)
    ∙ listed drive (i + 1) v 0 v refl

of_volumes : (drive : ℕ) (volumes : List (List (List ℕ))) (i : ℕ) (l : List (List (List ℕ))) → drop i volumes ≡ l
    → map (placed_in drive volumes) (places_from (i + 1) 0 (map (λ v. length v) l)) ≡ flat_map (placed_blocks drive) (enumerate_from (i + 1) (map (map item_in) l))
of_volumes drive volumes i [] e = refl
of_volumes drive volumes i (v ∷ l) e =
    let p = parted volumes [] i v l e in
    map-append (placed_in drive volumes) (places_in (i + 1) 0 (length v)) (places_from (i + 1 + 1) 0 (map (λ w. length w) l))
    ∙ (λ k. of_volume drive volumes i v p.0 k ++ of_volumes drive volumes (i + 1) l p.1 k)

pub drive_is : (tapes : List (List (List (List ℕ)))) (drive : ℕ) → drive_blocks tapes drive ≡ stream (drive, map (map item_in) (volumes_at tapes drive))
drive_is tapes drive =
    ap (λ counts. map (placed_in drive (volumes_at tapes drive)) (places_from 1 0 counts)) (map_of (λ volumes. map (λ v. length v) volumes) tapes drive [])
    ∙ of_volumes drive (volumes_at tapes drive) 0 (volumes_at tapes drive) refl

-- ---- one drive more

enumerate_push : {X : Type 0} (n : ℕ) (l : List X) (x : X) → enumerate_from n (l ++ x ∷ []) ≡ enumerate_from n l ++ (n + length l, x) ∷ []
enumerate_push n [] x = let e : n ≡ n + 0 = omega arith in λ k. (e k, x) ∷ []
enumerate_push n (y ∷ l) x =
    let e : n + 1 + length l ≡ n + length (y ∷ l) = omega arith in
    ap (λ t. (n, y) ∷ t) (enumerate_push (n + 1) l x) ∙ ap (λ k. (n, y) ∷ (enumerate_from (n + 1) l ++ (k, x) ∷ [])) e

pub streams_more : (tapes : List (List (List (List ℕ)))) (n : ℕ) → n < length tapes → streams (shelf_to tapes (n + 1)) ≡ streams (shelf_to tapes n) ++ drive_blocks tapes n ∷ []
streams_more tapes n h =
    let volumes : List (List (Option Block)) = map (map item_in) (volumes_at tapes n) in
    let long : 0 + length (shelf_to tapes n) ≡ n = omega (arith, length-map (take n tapes) (map (map item_in)), length-take n tapes, h) in
    ap (λ t. streams (shelf_of t)) (take_more tapes n [] h)
    ∙ ap streams (map-append (map (map item_in)) (take n tapes) (volumes_at tapes n ∷ []))
    ∙ ap (map stream) (enumerate_push 0 (shelf_to tapes n) volumes)
    ∙ map-append stream (enumerate_from 0 (shelf_to tapes n)) ((0 + length (shelf_to tapes n), volumes) ∷ [])
    ∙ ap (λ k. streams (shelf_to tapes n) ++ stream (k, volumes) ∷ []) long
    ∙ ap (λ l. streams (shelf_to tapes n) ++ l ∷ []) (sym (drive_is tapes n))

pub streams_end : (tapes : List (List (List (List ℕ)))) (n : ℕ) → length tapes ≤ n → (streams (shelf_to tapes (n + 1)) ≡ streams (shelf_to tapes n)) × (drive_blocks tapes n ≡ [])
streams_end tapes n h = (
  ap (λ t. streams (shelf_of t)) (take_all (n + 1) tapes (omega (arith, h)) ∙ sym (take_all n tapes h)),
  drive_is tapes n ∙ ap (λ v. stream (n, map (map item_in) v)) (get_or_past tapes n [] h),
)
