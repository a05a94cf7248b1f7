-- The fields of a disk in memory agree after each of its calls.
use Rattle.std.proofs.Common.{◌≡◌, ◌⊎◌, inl, inr, ℕ, zero, suc, ◌+◌, ◌-◌, ◌*◌, ◌^◌, ◌<◌, ◌≤◌, ◌==◌, min, Bool, true, false, if◌then◌else◌, nat_lt, List, [], ◌∷◌, length, get_or, take, drop, map, replicate, Result, Ok, Err, OnOk, OnErr, is_err, refl, sym, ◌∙◌, ap, subst, arith, length-drop}
use Rattle.std.proofs.lemmas.Bool.{cases_eq}
use Rattle.std.proofs.lemmas.Bool.Decides.{nat_tests}
use Rattle.std.proofs.lemmas.List.{get_or-take, get_or-drop, length-take-le, length-replicate, length-map, get_or-replicate, get_or_past, get_or-set_same, get_or-set_other}
use Rattle.std.proofs.Math.ListN.{set}
use Rattle.ol_ports.specs.Causes.{HasChunkCause}
use Rattle.ol_ports.specs.Disk.{Call, Wrote, Synced, Passed, Past, first_bytes, bytes_after, page_list, seen}
use Rattle.ol_ports.proofs.DiskLaws.{page_list-is}
use Rattle.ol_outside.specs.Chunks.{chunk_bytes, lengths, zero_chunks, with_piece, HasPage, ChunksHold}
use Rattle.ol_outside.specs.Devices.{LeavesNothing}
use Rattle.ol_outside.specs.KeptCalls.{passes, PassesOver, AllFitIn, FitsIn, Agrees}
use Rattle.ol_outside.proofs.ChunkLaws.{lengths-count, lengths-chunk}
use Rattle.ol_outside.proofs.ImageLaws.{fits-lengths, lengths-redone, holds-none, holds-redone}

-- a call more that left nothing
pub passes-over : (calls : List Call) (passed : ℕ) → passed < 2 ^ 64 → PassesOver (passes passed calls) (passes (min (passed + 1) (2 ^ 64 - 1)) calls)
passes-over calls passed lt = elim (cases_eq passed (2 ^ 64 - 1)) [
  | inl full ↦
      let same : min (passed + 1) (2 ^ 64 - 1) ≡ passed = omega arith in
      inr (omega (arith, full, longer passed calls), ap (λ n. passes n calls) same)
  | inr room ↦
      let next : min (passed + 1) (2 ^ 64 - 1) ≡ suc passed = omega arith in
      inl (ap (λ n. passes n calls) next)
]
  where
    longer : (n : ℕ) (calls : List Call) → n ≤ length (passes n calls)
    longer zero calls = omega arith
    longer (suc n) calls = omega (arith, longer n calls)

-- a page of the sizes is there
pub sized-page : (chunks : List (List ℕ)) (sizes : List ℕ) (c page : ℕ) → lengths chunks ≡ map (λ pages. 2048 * pages) sizes → page < get_or sizes c 0 → HasPage chunks c page
sized-page [] [] c page sized lt = absurd (omega arith)
sized-page [] (n ∷ sizes) c page sized lt = absurd (cc)
sized-page (x ∷ chunks) [] c page sized lt = absurd (omega arith)
sized-page (x ∷ chunks) (n ∷ sizes) zero page sized lt =
    let same : length x ≡ 2048 * n = cc in omega arith
sized-page (x ∷ chunks) (n ∷ sizes) (suc c) page sized lt = sized-page chunks sizes c page (cc) lt

pub sized-zero : (sizes : List ℕ) → lengths (zero_chunks sizes) ≡ map (λ pages. 2048 * pages) sizes
sized-zero [] = refl
sized-zero (n ∷ sizes) =
    ap (λ k. k ∷ lengths (zero_chunks sizes)) (length-replicate (2048 * n) 0) ∙ ap (λ l. 2048 * n ∷ l) (sized-zero sizes)

-- the page is there, in the bytes too
pub agrees-page : (base bytes : List (List ℕ)) (calls : List Call) (sizes : List ℕ) (moment c page : ℕ) → Agrees base bytes calls sizes moment → page < min (get_or sizes c 0) (2 ^ 32 - 1) → HasPage bytes c page
agrees-page base bytes calls sizes moment c page agrees lt =
    omega (arith, sized-page base sizes c page agrees.base_sized (omega arith), lengths-chunk bytes base c agrees.bytes_sized)

module _ (base bytes : List (List ℕ)) (calls new : List Call) (sizes : List ℕ) (moment : ℕ) (agrees : Agrees base bytes calls sizes moment) where
  -- a write
  pub agrees-wrote : (chunk page offset : ℕ) (piece : List ℕ) → HasPage bytes chunk page → offset + length piece ≤ 2048 → new ≡ Wrote chunk page offset piece ∷ calls → Agrees base (with_piece bytes chunk (2048 * page + offset) piece) new sizes (min (moment + 1) (2 ^ 64 - 1))
  agrees-wrote chunk page offset piece room range is =
      let call : Call = Wrote chunk page offset piece in
      let fits : FitsIn bytes call = (room, range) in
      subst (λ l. Agrees base (with_piece bytes chunk (2048 * page + offset) piece) l sizes (min (moment + 1) (2 ^ 64 - 1))) (sym is) (record {
        holds = holds-redone base bytes calls call fits agrees.holds;
        base_sized = agrees.base_sized;
        bytes_sized = lengths-redone call bytes fits ∙ agrees.bytes_sized;
        fits = (fits-lengths bytes base call agrees.bytes_sized fits, agrees.fits);
        counted = omega (arith, agrees.counted);
      })

  -- a sync
  pub agrees-synced : (chunk : ℕ) → chunk < length base → new ≡ Synced chunk ∷ calls → Agrees base bytes new sizes (min (moment + 1) (2 ^ 64 - 1))
  agrees-synced chunk there is = subst (λ l. Agrees base bytes l sizes (min (moment + 1) (2 ^ 64 - 1))) (sym is) (record {
    holds = holds-redone base bytes calls (Synced chunk) (omega (arith, there, lengths-count bytes base agrees.bytes_sized)) agrees.holds;
    base_sized = agrees.base_sized;
    bytes_sized = agrees.bytes_sized;
    fits = (there, agrees.fits);
    counted = omega (arith, agrees.counted);
  })

  -- a call that left nothing
  pub agrees-passed : PassesOver calls new → Agrees base bytes new sizes (min (moment + 1) (2 ^ 64 - 1))
  agrees-passed (inl is) = subst (λ l. Agrees base bytes l sizes (min (moment + 1) (2 ^ 64 - 1))) (sym is) (record {
    holds = holds-redone base bytes calls Passed tt agrees.holds;
    base_sized = agrees.base_sized;
    bytes_sized = agrees.bytes_sized;
    fits = (tt, agrees.fits);
    counted = omega (arith, agrees.counted);
  })
  agrees-passed (inr full) = subst (λ l. Agrees base bytes l sizes (min (moment + 1) (2 ^ 64 - 1))) (sym full.1) (record {
    holds = agrees.holds;
    base_sized = agrees.base_sized;
    bytes_sized = agrees.bytes_sized;
    fits = agrees.fits;
    counted = omega (arith, agrees.counted, full.0);
  })

-- a page that is read
pub page-shown : (base bytes : List (List ℕ)) (calls : List Call) (chunk page : ℕ) (buf : List ℕ) → ChunksHold bytes (bytes_after base calls) → HasPage bytes chunk page → buf ≡ take 2048 (drop (2048 * page) (chunk_bytes bytes chunk)) → buf ≡ page_list (seen (record { base = base; calls = calls })) chunk page
unfolding seen first_bytes
page-shown base bytes calls chunk page buf holds room is =
    let chunk_is = chunk_bytes bytes chunk in
    page_list-is (seen (record { base = base; calls = calls })) chunk page buf (ap length is ∙ length-take-le 2048 (drop (2048 * page) chunk_is) (omega (arith, length-drop (2048 * page) chunk_is)))
    (λ i lt. ap (λ l. get_or l i 0) is ∙ get_or-take 2048 (drop (2048 * page) chunk_is) i 0 lt ∙ get_or-drop (2048 * page) chunk_is i 0 ∙ from_start i lt ∙ holds.each chunk page i)
  where
    from_start : (i : ℕ) → i < 2048 → get_or (chunk_bytes bytes chunk) (2048 * page + i) 0 ≡ first_bytes bytes chunk page i
    from_start i lt =
        let low : nat_lt i 2048 ≡ true = grind (arith, nat_tests) in rw low refl

-- a disk that begins with these bytes, after so many calls that have left nothing
fits-passes : (base : List (List ℕ)) (n : ℕ) → AllFitIn base (passes n [])
fits-passes base zero = tt
fits-passes base (suc n) = (tt, fits-passes base n)

pub after-passes : (base : List (List ℕ)) (n c p i : ℕ) → bytes_after base (passes n []) c p i ≡ first_bytes base c p i
unfolding bytes_after
after-passes base zero c p i = refl
after-passes base (suc n) c p i = after-passes base n c p i

holds-passes : (base : List (List ℕ)) (n : ℕ) → ChunksHold base (bytes_after base (passes n []))
holds-passes base n = record { each = λ c p i. sym (after-passes base n c p i) }

count-passes : (n : ℕ) → length (passes n []) ≡ n
count-passes zero = refl
count-passes (suc n) = omega (arith, count-passes n)

pub agrees-begun : (base bytes : List (List ℕ)) (calls : List Call) (sizes : List ℕ) (n : ℕ) → base ≡ bytes → calls ≡ passes n [] → n < 2 ^ 64 → lengths bytes ≡ map (λ pages. 2048 * pages) sizes → Agrees base bytes calls sizes n
agrees-begun base bytes calls sizes n same none lt sized = subst (λ l. Agrees base bytes l sizes n) (sym none) (record {
  holds = subst (λ b. ChunksHold b (bytes_after base (passes n []))) same (holds-passes base n);
  base_sized = ap lengths same ∙ sized;
  bytes_sized = ap lengths (sym same);
  fits = fits-passes base n;
  counted = omega (arith, lt, count-passes n);
})

-- a fault of one chunk is counted
pub counts-cause : {T E : Type 0} (counts new : List ℕ) (chunk : ℕ) (e : E) → chunk < length counts → new ≡ set counts chunk (min (get_or counts chunk 0 + 1) (2 ^ 64 - 1)) → get_or counts chunk 0 ≤ min (get_or counts chunk 0 + 1) (2 ^ 64 - 1)
    → HasChunkCause {T = T} chunk (λ c. get_or counts c 0) (λ c. get_or new c 0) (Err e)
counts-cause counts new chunk e there is up =
    let count : ℕ = min (get_or counts chunk 0 + 1) (2 ^ 64 - 1) in
    let here : get_or new chunk 0 ≡ count = ap (λ l. get_or l chunk 0) is ∙ get_or-set_same counts chunk count 0 there in
    record {
      later = λ c. elim (cases_eq c chunk) [
        | inl same ↦ let at : get_or new c 0 ≡ get_or new chunk 0 = ap (λ k. get_or new k 0) same in let was : get_or counts c 0 ≡ get_or counts chunk 0 = ap (λ k. get_or counts k 0) same in omega (arith, at, was, here, up)
        | inr other ↦ let at : get_or new c 0 ≡ get_or counts c 0 = ap (λ l. get_or l c 0) is ∙ get_or-set_other counts chunk c count 0 other in omega (arith, at)
      ];
      failed = omega (arith, here);
      kept = tt;
      others = λ c other. ap (λ l. get_or l c 0) is ∙ get_or-set_other counts chunk c count 0 other;
    }

-- a chunk with pages is there
pub sized-there : (sizes : List ℕ) (c : ℕ) → 0 < min (get_or sizes c 0) (2 ^ 32 - 1) → c < length sizes
sized-there [] c lt = absurd (omega arith)
sized-there (n ∷ sizes) zero lt = omega arith
sized-there (n ∷ sizes) (suc c) lt = omega (arith, sized-there sizes c lt)

pub sized-count : (base : List (List ℕ)) (sizes : List ℕ) → lengths base ≡ map (λ pages. 2048 * pages) sizes → length base ≡ length sizes
sized-count base sizes sized = sym (length-map base (λ chunk. length chunk)) ∙ ap length sized ∙ length-map sizes (λ pages. 2048 * pages)

-- what a clause on a result says of one that is known
pub from_err : {T E P : Type 0} (r : Result T E) → is_err r ≡ true → OnErr r P → P
from_err (Ok x) is h = absurd (cc)
from_err (Err e) is h = h

pub from_ok : {T E P : Type 0} (r : Result T E) → is_err r ≡ false → OnOk r P → P
from_ok (Ok x) is h = h
from_ok (Err e) is h = absurd (cc)

abbrev past_of : List (List ℕ) → List Call → Past
past_of base calls = record { base = base; calls = calls }

-- the same of a past
pub passes-leaves : (base : List (List ℕ)) (old new : List Call) → PassesOver old new → LeavesNothing (record { base = base; calls = old }) (record { base = base; calls = new })
passes-leaves base old new (inl is) = inl (ap (past_of base) is)
passes-leaves base old new (inr full) = inr (full.0, ap (past_of base) full.1)

abbrev zeroes : ℕ → List ℕ
zeroes n = replicate n 0

zeroes-at : (n j : ℕ) → get_or (zeroes n) j 0 ≡ 0
zeroes-at n j = elim (split j n) [
  | inl lt ↦ get_or-replicate n j 0 0 lt
  | inr le ↦ get_or_past (zeroes n) j 0 (omega (arith, le, length-replicate {A = ℕ} n 0))
]
  where
    split : (j n : ℕ) → (j < n) ⊎ (n ≤ j)
    split j n = grind arith

zeroes-below : (n j : ℕ) (b : Bool) → (if b then get_or (zeroes n) j 0 else 0) ≡ 0
zeroes-below n j true = zeroes-at n j
zeroes-below n j false = refl

-- a chunk that is made zero reads so, and the rest stays
pub began-zero : (chunks : List (List ℕ)) (chunk c p i : ℕ) → chunk < length chunks → first_bytes (set chunks chunk (replicate (length (chunk_bytes chunks chunk)) 0)) c p i ≡ (if c == chunk then 0 else first_bytes chunks c p i)
unfolding first_bytes
began-zero chunks chunk c p i lt =
    let none = zeroes (length (chunk_bytes chunks chunk)) in
    elim (cases_eq c chunk) [
      | inl same ↦
          let is : chunk_bytes (set chunks chunk none) c ≡ none = ap (chunk_bytes (set chunks chunk none)) same ∙ get_or-set_same chunks chunk none [] lt in
          let test : (c == chunk) ≡ true = grind (arith, nat_tests) in
          rw test (ap (λ l. if nat_lt i 2048 then get_or l (2048 * p + i) 0 else 0) is ∙ zeroes-below (length (chunk_bytes chunks chunk)) (2048 * p + i) (nat_lt i 2048))
      | inr other ↦
          let is : chunk_bytes (set chunks chunk none) c ≡ chunk_bytes chunks c = get_or-set_other chunks chunk c none [] other in
          let test : (c == chunk) ≡ false = grind (arith, nat_tests) in
          rw test (ap (λ l. if nat_lt i 2048 then get_or l (2048 * p + i) 0 else 0) is)
    ]
