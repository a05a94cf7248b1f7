-- Chunks in memory: what one of the vectors is of the chunks that contracts see.
use Rattle.std.proofs.Common.{◌≡◌, ℕ, zero, suc, ◌+◌, ◌*◌, ◌<◌, ◌≤◌, List, [], ◌++◌, ◌∷◌, Vec, Global, length, map, take, get_or, refl, sym, ap, ◌∙◌, arith}
use Rattle.std.proofs.Math.ListN.{set}
use Rattle.std.proofs.Math.Seq.{map-set_same}
use Rattle.std.proofs.lemmas.List.{map-set, length-map, get_or-map, take_more}
use Rattle.ol_outside.specs.Chunks.{chunk_bytes, lengths}

-- the bytes of a vector
abbrev pub vec_bytes : Vec ℕ Global → List ℕ
vec_bytes v = v.items

-- an element is the chunk of that number
pub chunk-element : (items : List (Vec ℕ Global)) (chunks : List (List ℕ)) (c : ℕ) (v : Vec ℕ Global) → map vec_bytes items ≡ chunks → c < length items → v ≡ get_or items c v → vec_bytes v ≡ chunk_bytes chunks c
chunk-element items chunks c v seen lt is =
    ap vec_bytes is ∙ sym (get_or-map vec_bytes items c v [] lt) ∙ ap (λ l. get_or l c []) seen

-- there are as many vectors as chunks
pub chunks-count : (items : List (Vec ℕ Global)) (chunks : List (List ℕ)) → map vec_bytes items ≡ chunks → length items ≡ length chunks
chunks-count items chunks seen = sym (length-map items vec_bytes) ∙ ap length seen

-- an element that is replaced is a chunk replaced
pub chunk-replaced : (items : List (Vec ℕ Global)) (chunks : List (List ℕ)) (c : ℕ) (v : Vec ℕ Global) (bytes : List ℕ) → map vec_bytes items ≡ chunks → vec_bytes v ≡ bytes → map vec_bytes (set items c v) ≡ set chunks c bytes
chunk-replaced items chunks c v bytes seen is =
    map-set vec_bytes items c v ∙ ap (λ l. set l c (vec_bytes v)) seen ∙ ap (set chunks c) is

-- an element more
pub chunks-pushed : (items : List (Vec ℕ Global)) (chunks : List (List ℕ)) (i : ℕ) (v : Vec ℕ Global) → map vec_bytes items ≡ take i chunks → i < length chunks → vec_bytes v ≡ chunk_bytes chunks i → map vec_bytes (items ++ v ∷ []) ≡ take (i + 1) chunks
chunks-pushed items chunks i v so_far lt is =
    ap (λ l. l) (map-snoc items v) ∙ ap (λ l. l ++ vec_bytes v ∷ []) so_far ∙ ap (λ b. take i chunks ++ b ∷ []) is ∙ sym (take_more chunks i [] lt)
  where
    map-snoc : (items : List (Vec ℕ Global)) (v : Vec ℕ Global) → map vec_bytes (items ++ v ∷ []) ≡ map vec_bytes items ++ vec_bytes v ∷ []
    map-snoc [] v = refl
    map-snoc (x ∷ items) v = ap (λ l. vec_bytes x ∷ l) (map-snoc items v)

-- chunks of the same lengths are as many, and each is as long
pub lengths-count : (xs ys : List (List ℕ)) → lengths xs ≡ lengths ys → length xs ≡ length ys
lengths-count xs ys same = sym (length-map xs (λ chunk. length chunk)) ∙ ap length same ∙ length-map ys (λ chunk. length chunk)

pub lengths-chunk : (xs ys : List (List ℕ)) (c : ℕ) → lengths xs ≡ lengths ys → length (chunk_bytes xs c) ≡ length (chunk_bytes ys c)
lengths-chunk [] [] c same = refl
lengths-chunk [] (y ∷ ys) c same = absurd (cc)
lengths-chunk (x ∷ xs) [] c same = absurd (cc)
lengths-chunk (x ∷ xs) (y ∷ ys) zero same = cc
lengths-chunk (x ∷ xs) (y ∷ ys) (suc c) same = lengths-chunk xs ys c (cc)

-- a chunk with a page is there
pub chunk-there : (chunks : List (List ℕ)) (c page : ℕ) → 2048 * page + 2048 ≤ length (chunk_bytes chunks c) → c < length chunks
chunk-there [] c page room = absurd (omega arith)
chunk-there (x ∷ chunks) zero page room = omega arith
chunk-there (x ∷ chunks) (suc c) page room = omega (arith, chunk-there chunks c page room)

-- a chunk that is replaced by one as long leaves the lengths
pub lengths-set : (chunks : List (List ℕ)) (c : ℕ) (bytes : List ℕ) → length bytes ≡ length (chunk_bytes chunks c) → lengths (set chunks c bytes) ≡ lengths chunks
lengths-set chunks c bytes same = map-set_same (λ chunk. length chunk) chunks c bytes [] same
