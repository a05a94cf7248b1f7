-- Volumes on a shelf: what the vectors are of the volumes that contracts see.
use Rattle.std.proofs.Common.{◌≡◌, ℕ, zero, suc, ◌^◌, ◌<◌, Bool, true, false, if◌then◌else◌, List, [], ◌∷◌, ◌++◌, Vec, Global, length, map, get_or, replicate, sym, ap, subst, ◌∙◌, arith}
use Rattle.std.proofs.Math.ListN.{set}
use Rattle.std.proofs.lemmas.List.{map-set, map-append, get_or-map, length-map}
use Rattle.ol_outside.specs.Volumes.{BlocksFit}
use Rattle.ol_outside.specs.Volumes.{VolumesFit}
use Rattle.ol_outside.proofs.LastVolume.{blocks-fit-append}

abbrev pub blocks_of : Vec (List ℕ) Global → List (List ℕ)
blocks_of v = v.items

-- a volume is the one of that number
pub volume-element : (items : List (Vec (List ℕ) Global)) (volumes : List (List (List ℕ))) (i : ℕ) (v : Vec (List ℕ) Global) → map blocks_of items ≡ volumes → i < length items → v ≡ get_or items i v → blocks_of v ≡ get_or volumes i []
volume-element items volumes i v seen lt is =
    ap blocks_of is ∙ sym (get_or-map blocks_of items i v [] lt) ∙ ap (λ l. get_or l i []) seen

pub volumes-count : (items : List (Vec (List ℕ) Global)) (volumes : List (List (List ℕ))) → map blocks_of items ≡ volumes → length items ≡ length volumes
volumes-count items volumes seen = sym (length-map items blocks_of) ∙ ap length seen

-- a volume that is replaced
pub volume-replaced : (items : List (Vec (List ℕ) Global)) (volumes : List (List (List ℕ))) (i : ℕ) (v : Vec (List ℕ) Global) (blocks : List (List ℕ)) → map blocks_of items ≡ volumes → blocks_of v ≡ blocks → map blocks_of (set items i v) ≡ set volumes i blocks
volume-replaced items volumes i v blocks seen is =
    map-set blocks_of items i v ∙ ap (λ l. set l i (blocks_of v)) seen ∙ ap (set volumes i) is

-- a volume with blocks is there
pub volume-there : (volumes : List (List (List ℕ))) (i block : ℕ) → block < length (get_or volumes i []) → i < length volumes
volume-there [] i block lt = absurd (omega arith)
volume-there (v ∷ volumes) zero block lt = omega arith
volume-there (v ∷ volumes) (suc i) block lt = omega (arith, volume-there volumes i block lt)

-- one that is replaced by as many blocks leaves the numbers within a u32
pub blocks-fit-set : (volumes : List (List (List ℕ))) (i : ℕ) (blocks : List (List ℕ)) → BlocksFit volumes → length blocks ≡ length (get_or volumes i []) → BlocksFit (set volumes i blocks)
blocks-fit-set [] i blocks fit same = fit
blocks-fit-set (v ∷ volumes) zero blocks fit same = (omega (arith, fit.0, same), fit.1)
blocks-fit-set (v ∷ volumes) (suc i) blocks fit same = (fit.0, blocks-fit-set volumes i blocks fit.1 same)

-- and so do volumes that are joined, where that is done
pub joined-fit : (done : Bool) (items more new : List (Vec (List ℕ) Global)) → new ≡ (if done then items ++ more else items) → BlocksFit (map blocks_of items) → BlocksFit (map blocks_of more) → BlocksFit (map blocks_of new)
joined-fit true items more new is fit fit_more =
    subst BlocksFit (sym (ap (map blocks_of) is ∙ map-append blocks_of items more)) (blocks-fit-append (map blocks_of items) (map blocks_of more) fit fit_more)
joined-fit false items more new is fit fit_more = subst BlocksFit (sym (ap (map blocks_of) is)) fit

-- a drive whose volumes are replaced by no more than a u32 counts
pub volumes-fit-set : (tapes : List (List (List (List ℕ)))) (drive : ℕ) (volumes : List (List (List ℕ))) → VolumesFit tapes → length volumes < 2 ^ 32 → VolumesFit (set tapes drive volumes)
volumes-fit-set [] drive volumes fit lt = fit
volumes-fit-set (v ∷ tapes) zero volumes fit lt = (lt, fit.1)
volumes-fit-set (v ∷ tapes) (suc drive) volumes fit lt = (fit.0, volumes-fit-set tapes drive volumes fit.1 lt)

pub volumes-fit-at : (tapes : List (List (List (List ℕ)))) (drive : ℕ) → VolumesFit tapes → length (get_or tapes drive []) < 2 ^ 32
volumes-fit-at [] drive fit = omega arith
volumes-fit-at (v ∷ tapes) zero fit = fit.0
volumes-fit-at (v ∷ tapes) (suc drive) fit = volumes-fit-at tapes drive fit.1

pub volumes-fit-none : (n : ℕ) → VolumesFit (replicate n [])
volumes-fit-none zero = tt
volumes-fit-none (suc n) = (omega arith, volumes-fit-none n)
