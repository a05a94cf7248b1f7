-- The objects of a shelf with their indexes.
use Rattle.std.proofs.Common.{◌≡◌, ℕ, ◌++◌, ◌∙◌, Bool, Some, None, Option, List, [], ◌∷◌, ap, cond, filter, fold, length, map, refl, subst, true, false}
use Rattle.std.specs.List.{cons_option, enumerate_from}
use Rattle.std.specs.Prelude.{filter_map, find, slice_get}
use Rattle.std.proofs.lemmas.List.{append_assoc, length_push}
use Rattle.ol_rules.specs.Shelf.{Object, Shelf, objects}

abbrev pub Pair : Type 0
Pair = ℕ × Object

abbrev pub value : Pair → Object
value p = p.1

abbrev pub pairs_of : Shelf → List Pair
pairs_of shelf = enumerate_from 0 (objects shelf)

-- the object of a pair stands at its index
abbrev pub IsAt : List Object → Pair → Type 0
IsAt all p = slice_get all p.0 ≡ Some p.1

abbrev pub AllAt : List Object → List Pair → Type 0
AllAt all [] = Unit {0}
AllAt all (p ∷ ps) = IsAt all p × AllAt all ps

abbrev pub IfAt : List Object → Option Pair → Type 0
IfAt all None = Unit {0}
IfAt all (Some p) = IsAt all p

here : (front : List Object) (o : Object) (rest : List Object) → slice_get (front ++ o ∷ rest) (length front) ≡ Some o
here [] o rest = refl
here (x ∷ front) o rest = here front o rest

listed_at : (front xs : List Object) → AllAt (front ++ xs) (enumerate_from (length front) xs)
listed_at front [] = tt
listed_at front (o ∷ xs) =
    let more = listed_at (front ++ o ∷ []) xs in
    (here front o xs, subst (λ n. AllAt (front ++ o ∷ xs) (enumerate_from n xs)) (length_push front o) (subst (λ l. AllAt l (enumerate_from (length (front ++ o ∷ [])) xs)) (append_assoc front (o ∷ []) xs) more))

pub pairs_at : (shelf : Shelf) → AllAt (objects shelf) (pairs_of shelf)
pairs_at shelf = listed_at [] (objects shelf)

pub filter_at : (all : List Object) (t : Pair → Bool) (ps : List Pair) → AllAt all ps → AllAt all (filter t ps)
filter_at all t [] at = tt
filter_at all t (p ∷ ps) at =
    elim (t p) as (λ b. AllAt all (cond b (p ∷ filter t ps) (filter t ps))) [
      | true ↦ (at.0, filter_at all t ps at.1)
      | false ↦ filter_at all t ps at.1
    ]

-- a fold that takes one of the pairs
pub fold_at : (all : List Object) (f : Option Pair → Pair → Option Pair) → ((b : Option Pair) (p : Pair) → IfAt all b → IsAt all p → IfAt all (f b p))
    → (b : Option Pair) (ps : List Pair) → IfAt all b → AllAt all ps → IfAt all (fold f b ps)
fold_at all f keeps b [] has at = has
fold_at all f keeps b (p ∷ ps) has at = fold_at all f keeps (f b p) ps (keeps b p has at.0) at.1

pub find_at : (all : List Object) (t : Pair → Bool) (ps : List Pair) → AllAt all ps → IfAt all (find t ps)
find_at all t [] at = tt
find_at all t (p ∷ ps) at =
    elim (t p) as (λ b. IfAt all (cond b (Some p) (find t ps))) [
      | true ↦ at.0
      | false ↦ find_at all t ps at.1
    ]

added_at : (all : List Object) (o : Option Pair) (ps : List Pair) → IfAt all o → AllAt all ps → AllAt all (cons_option o ps)
added_at all None ps has at = at
added_at all (Some p) ps has at = (has, at)

pub picked_at : (all : List Object) (f : ℕ → Option Pair) → ((n : ℕ) → IfAt all (f n)) → (ns : List ℕ) → AllAt all (filter_map f ns)
picked_at all f each [] = tt
picked_at all f each (n ∷ ns) = added_at all (f n) (filter_map f ns) (each n) (picked_at all f each ns)

-- what stands at the indexes of pairs
pub objects_at : (all : List Object) (ps : List Pair) → AllAt all ps → map (slice_get all) (map (λ (p : Pair). p.0) ps) ≡ map (λ (o : Object). Some o) (map value ps)
objects_at all [] at = refl
objects_at all (p ∷ ps) at = (ap (λ o. o ∷ map (slice_get all) (map (λ (p : Pair). p.0) ps)) at.0) ∙ ap (λ l. Some p.1 ∷ l) (objects_at all ps at.1)
