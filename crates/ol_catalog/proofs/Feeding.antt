-- A scan is fed with a drive's blocks one by one.
use Rattle.std.proofs.Common.{◌≡◌, ℕ, ◌++◌, ◌∙◌, List, [], ◌∷◌, ap, append_assoc, false, map, subst, sym}
use Rattle.std.proofs.lemmas.List.{append-nil}
use Rattle.ol_ports.specs.Shelf.{block_at, shape_of}
use Rattle.ol_rules.specs.Shelf.{Placed}
use Rattle.ol_object_spans.specs.declared.place.Place.{Place}
use Rattle.ol_object_spans.specs.Scans.{IsScanOf, placed}
use Rattle.ol_object_spans.specs.Values.{ScanValue}
use Rattle.ol_block_values.specs.Items.{item_in}
use Rattle.ol_shelf_reader.specs.Streams.{Position, given_last, places_left}
use Rattle.ol_shelf_reader.specs.Steps.{Steps}
use Rattle.ol_catalog.specs.Streams.{IsFed, blocks_left, drive_blocks, placed_at}

-- the place of the block that a reader gave last
abbrev given_place : Position → Place
given_place at = record { drive = at.drive; volume = (given_last at).0; block = (given_last at).1 }

-- what is left is the block that was given, and what is left behind it
left_on : (tapes : List (List (List (List ℕ)))) (shape : List (List ℕ)) (old new : Position) → shape ≡ shape_of tapes → new.drive ≡ old.drive
    → places_left shape old ≡ given_last new ∷ places_left shape new → blocks_left tapes old ≡ placed_at tapes old.drive (given_last new) ∷ blocks_left tapes new
left_on tapes shape old new shaped same step =
    ap (map (placed_at tapes old.drive)) (subst (λ (s : List (List ℕ)). places_left s old ≡ given_last new ∷ places_left s new) shaped step)
    ∙ ap (λ (d : ℕ). placed_at tapes old.drive (given_last new) ∷ map (placed_at tapes d) (places_left (shape_of tapes) new)) (sym same)

pub fed_on : (tapes : List (List (List (List ℕ)))) (shape : List (List ℕ)) (old new : Position) (s t : ScanValue) (bytes : List ℕ) (place : Place)
    → shape ≡ shape_of tapes → new.drive ≡ old.drive → place ≡ given_place new → bytes ≡ block_at tapes old.drive (given_last new).0 (given_last new).1
    → places_left shape old ≡ given_last new ∷ places_left shape new → ((l : List Placed) → IsScanOf l s → IsScanOf (l ++ placed place (item_in bytes) ∷ []) t) → IsFed tapes old s → IsFed tapes new t
fed_on tapes shape old new s t bytes place shaped same at is step feeds (l, was, e) =
    let block : placed place (item_in bytes) ≡ placed_at tapes old.drive (given_last new) =
    (λ i. placed (at i) (item_in (is i))) ∙ ap (λ (d : ℕ). placed (let p : Place = record { drive = d; volume = (given_last new).0; block = (given_last new).1 } in p) (item_in (block_at tapes old.drive (given_last new).0 (given_last new).1))) same in (
      l ++ placed place (item_in bytes) ∷ [],
      feeds l was,
      append_assoc l (placed place (item_in bytes) ∷ []) (blocks_left tapes new)
          ∙ ap (λ (p : Placed). l ++ p ∷ blocks_left tapes new) block
          ∙ ap (λ (m : List Placed). l ++ m) (sym (left_on tapes shape old new shaped same step))
          ∙ e
          ∙ ap (drive_blocks tapes) (sym same),
    )

-- at the end of a drive all of its blocks were fed
pub fed_all : (tapes : List (List (List (List ℕ)))) (shape : List (List ℕ)) (at : Position) (s : ScanValue) (drive : ℕ) → shape ≡ shape_of tapes → at.drive ≡ drive → places_left shape at ≡ []
    → IsFed tapes at s → IsScanOf (drive_blocks tapes drive) s
fed_all tapes shape at s drive shaped same none (l, is, e) =
    let whole : l ≡ drive_blocks tapes drive =
    sym (append-nil l)
    ∙ ap (λ (m : List (ℕ × ℕ)). l ++ map (placed_at tapes at.drive) m) (sym (subst (λ (x : List (List ℕ)). places_left x at ≡ []) shaped none))
    ∙ e
    ∙ ap (drive_blocks tapes) same in
    subst (λ (m : List Placed). IsScanOf m s) whole is

-- where a reader stays, its drive has ended, and the scan was fed all of it
pub fed_end : (tapes seen : List (List (List (List ℕ)))) (shape : List (List ℕ)) (old new : Position) (s t : ScanValue) (drive : ℕ) → shape ≡ shape_of seen → seen ≡ tapes → old.drive ≡ drive → Steps shape old new false
    → (IsFed seen old s → IsFed seen new t) → IsFed tapes old s → IsScanOf (drive_blocks tapes drive) t
fed_end tapes seen shape old new s t drive shaped e same (none, stays) feeds fed =
    let now : IsFed tapes new t = subst (λ (x : List (List (List (List ℕ)))). IsFed x new t) e (feeds (subst (λ (x : List (List (List (List ℕ)))). IsFed x old s) (sym e) fed)) in
    fed_all tapes shape new t drive (shaped ∙ ap shape_of e) (ap (λ (p : Position). p.drive) stays ∙ same) (ap (places_left shape) stays ∙ none) now
