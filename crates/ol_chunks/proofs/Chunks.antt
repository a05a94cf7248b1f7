-- How chunks are numbered over the spaces, and what lies in them.
use Rattle.std.specs.List.{flat_map}
use Rattle.std.specs.Prelude.{Bool, List, Some, [], cond, false, get_or, if◌then◌else◌, length, nat_lt, refl, slice_index, suc, sum, take, true, zero, ℕ, ◌*◌, ◌++◌, ◌+◌, ◌-◌, ◌<◌, ◌==◌, ◌∷◌, ◌≡◌, ◌≤◌, ◌⊎◌}
use Rattle.std.proofs.Common.{ap, arith, inl, inr, subst, sym, ◌∙◌}
use Rattle.std.proofs.lemmas.Bool.{cases_lt, cond-true, eq-eqb, ltb-false, ltb-true}
use Rattle.std.proofs.lemmas.List.Concat.{get_or-flat_map, length-flat_map}
use Rattle.std.proofs.lemmas.List.Sums.{sum_by-cons, sum_by_more_le}
use Rattle.std.proofs.Math.ListN.{get_or-append}
use Rattle.std.proofs.Math.Seq.{get_or-append_seam}
use Rattle.ol_values.specs.Config.{Config, SpaceConfig, area_pages, space_at, unnamed}
use Rattle.ol_chunks.specs.Limits.{AreInLimits, AreSpaces, IsConfig, IsSpace, chunk_count, first_chunk, reserved_pages}
use Rattle.ol_chunks.specs.Places.{chunk_pages, chunk_sizes, first_chunk_number, place_among}

-- ---- the pages of a chunk

abbrev sizes : List SpaceConfig → List ℕ
sizes spaces = flat_map (λ (s : SpaceConfig). s.chunks) spaces

length-sizes : (spaces : List SpaceConfig) → length (sizes spaces) ≡ chunk_count spaces
length-sizes spaces = length-flat_map (λ (s : SpaceConfig). s.chunks) spaces

pub image_pages : (c : Config) → chunk_pages c (chunk_count c.spaces) ≡ c.image_limit
image_pages c =
    ap (λ n. slice_index (chunk_sizes c) n) (sym (length-sizes c.spaces)) ∙ get_or-append_seam (sizes c.spaces) c.image_limit [] 0

-- the chunks up to those of a space are among all
pub up_to : (c : Config) (space : ℕ) → space < length c.spaces → first_chunk_number c space + length (space_at c space).chunks ≤ chunk_count c.spaces
up_to c space there = sum_by_more_le (λ (s : SpaceConfig). length s.chunks) c.spaces space unnamed there

pub pages_at : (c : Config) (space i : ℕ) → space < length c.spaces → i < length (space_at c space).chunks
    → chunk_pages c (first_chunk_number c space + i) ≡ slice_index (space_at c space).chunks i
pages_at c space i there among =
    let within : first_chunk_number c space + i < length (sizes c.spaces) = omega (arith, up_to c space there, length-sizes c.spaces) in
    get_or-append (sizes c.spaces) (c.image_limit ∷ []) 0 (first_chunk_number c space + i) within
    ∙ ap (λ n. slice_index (sizes c.spaces) (n + i)) (sym (length-sizes (take space c.spaces)))
    ∙ get_or-flat_map (λ (s : SpaceConfig). s.chunks) c.spaces space i unnamed 0 there among

some_chunk : (chunks : List ℕ) (n : ℕ) → n < slice_index chunks 0 → 0 < length chunks
some_chunk [] n lt = absurd (omega arith)
some_chunk (pages ∷ chunks) n lt = omega arith

pub has_chunk : (c : Config) → IsConfig c → (space : ℕ) → space < length c.spaces → 0 < length (space_at c space).chunks
has_chunk c is space there = some_chunk (space_at c space).chunks (area_pages c space) (is.room space there)

-- the first chunk of a space
pub first_pages : (c : Config) → IsConfig c → (space : ℕ) → space < length c.spaces → chunk_pages c (first_chunk_number c space) ≡ first_chunk (space_at c space)
first_pages c is space there =
    ap (λ n. chunk_pages c n) (let e : first_chunk_number c space ≡ first_chunk_number c space + 0 = omega arith in e) ∙ pages_at c space 0 there (has_chunk c is space there)

-- ---- limits

limits-append : (xs ys : List ℕ) → AreInLimits xs → AreInLimits ys → AreInLimits (xs ++ ys)
limits-append [] ys h k = k
limits-append (x ∷ xs) ys h k = (h.0, limits-append xs ys h.1 k)

limits-sizes : (space : ℕ) (spaces : List SpaceConfig) → AreSpaces space spaces → AreInLimits (sizes spaces)
limits-sizes space [] h = tt
limits-sizes space (s ∷ spaces) h = limits-append s.chunks (sizes spaces) h.0.chunks (limits-sizes (space + 1) spaces h.1)

least_at : (xs : List ℕ) (i : ℕ) → AreInLimits xs → i < length xs → 1 ≤ get_or xs i 0
least_at [] i h lt = absurd (omega arith)
least_at (x ∷ xs) zero h lt = h.0.0
least_at (x ∷ xs) (suc i) h lt = least_at xs i h.1 (omega arith)

-- each chunk has a page, the temporary one too
pub some_pages : (c : Config) → IsConfig c → (chunk : ℕ) → chunk ≤ chunk_count c.spaces → 1 ≤ chunk_pages c chunk
some_pages c is chunk le = go (cases_lt chunk (chunk_count c.spaces))
  where
    go : (chunk < chunk_count c.spaces) ⊎ (chunk_count c.spaces ≤ chunk) → 1 ≤ chunk_pages c chunk
    go (inl lt) =
        let within : chunk < length (sizes c.spaces) = omega (arith, length-sizes c.spaces) in
        omega (arith, get_or-append (sizes c.spaces) (c.image_limit ∷ []) 0 chunk within, least_at (sizes c.spaces) chunk (limits-sizes 0 c.spaces is.spaces) within)
    go (inr ge) =
        let last : chunk ≡ chunk_count c.spaces = omega arith in
        omega (arith, ap (λ n. chunk_pages c n) last, image_pages c, is.image_limit.0)

pub space_is : (k : ℕ) (spaces : List SpaceConfig) (i : ℕ) → AreSpaces k spaces → i < length spaces → IsSpace (k + i) (get_or spaces i unnamed)
space_is k [] i h lt = absurd (omega arith)
space_is k (s ∷ spaces) zero h lt = subst (λ (n : ℕ). IsSpace n s) (let e : k ≡ k + 0 = omega arith in e) h.0
space_is k (s ∷ spaces) (suc i) h lt =
    subst (λ (n : ℕ). IsSpace n (get_or spaces i unnamed)) (let e : k + 1 + i ≡ k + suc i = omega arith in e) (space_is (k + 1) spaces i h.1 (omega arith))

pub few_pages : (c : Config) → IsConfig c → (space : ℕ) → space < length c.spaces → sum (space_at c space).chunks - area_pages c space ≤ 65535
few_pages c is space there =
    let s = space_is 0 c.spaces space is.spaces there in
    let e : 0 + space ≡ space = omega arith in
    omega (arith, s.pages, ap reserved_pages e)

-- ---- areas

pub physical_inside : (c : Config) → IsConfig c → reserved_pages c.physical_space + c.physical_entries * 2 < chunk_pages c (first_chunk_number c c.physical_space)
physical_inside c is =
    let own : cond (c.physical_space == c.physical_space) (2 * c.physical_entries) 0 ≡ 2 * c.physical_entries = cond-true _ _ _ (eq-eqb c.physical_space c.physical_space refl) in
    omega (arith, own, is.room c.physical_space is.physical_space, first_pages c is c.physical_space is.physical_space)

pub logs_inside : (c : Config) → IsConfig c
    → reserved_pages c.log_space + (if c.log_space == c.physical_space then 2 * c.physical_entries else 0) + c.log_files * c.log_file_pages < chunk_pages c (first_chunk_number c c.log_space)
logs_inside c is =
    let own : cond (c.log_space == c.log_space) (c.log_files * c.log_file_pages) 0 ≡ c.log_files * c.log_file_pages = cond-true _ _ _ (eq-eqb c.log_space c.log_space refl) in
    omega (arith, own, is.room c.log_space is.log_space, first_pages c is c.log_space is.log_space)

-- ---- places

-- a page of chunks lies in one of them, behind the pages of those before it
pub record IsPlace (chunk : ℕ) (chunks : List ℕ) (page : ℕ) (p : ℕ × ℕ) : Type 0 where
  pub at : ℕ
  pub number : p.0 ≡ chunk + at
  pub there : at < length chunks
  pub inside : p.1 < slice_index chunks at
  pub before : page ≡ sum (take at chunks) + p.1

place_step : (chunk pages page : ℕ) (chunks : List ℕ) (p : ℕ × ℕ) (u : Bool) → nat_lt page pages ≡ u → ((q : ℕ × ℕ) → place_among (chunk + 1) chunks (page - pages) ≡ Some q → IsPlace (chunk + 1) chunks (page - pages) q)
    → (if u then Some (chunk, page) else place_among (chunk + 1) chunks (page - pages)) ≡ Some p → IsPlace chunk (pages ∷ chunks) page p
place_step chunk pages page chunks p true test later e =
    let is : (let q : ℕ × ℕ = (chunk, page) in q) ≡ p = cc in
    let here : IsPlace chunk (pages ∷ chunks) page (chunk, page) = record { at = 0; number = omega arith; there = omega arith; inside = ltb-true page pages test; before = omega arith } in
    subst (λ q. IsPlace chunk (pages ∷ chunks) page q) is here
place_step chunk pages page chunks p false test later e =
    let l = later p e in
    let le : pages ≤ page = ltb-false page pages test in
    record {
      at = suc l.at;
      number = omega (arith, l.number);
      there = omega (arith, l.there);
      inside = l.inside;
      before = omega (arith, l.before, sum_by-cons (λ (n : ℕ). n) pages (take l.at chunks));
    }

pub place_is : (chunk : ℕ) (chunks : List ℕ) (page : ℕ) (p : ℕ × ℕ) → place_among chunk chunks page ≡ Some p → IsPlace chunk chunks page p
place_is chunk [] page p e = cc
place_is chunk (pages ∷ chunks) page p e =
    place_step chunk pages page chunks p (nat_lt page pages) refl (λ q f. place_is (chunk + 1) chunks (page - pages) q f) e

pub place_inside : (c : Config) (space first page : ℕ) (chunks : List ℕ) (p : ℕ × ℕ) → space < length c.spaces → first ≡ first_chunk_number c space → chunks ≡ (space_at c space).chunks
    → place_among first chunks page ≡ Some p → p.1 < chunk_pages c p.0
place_inside c space first page chunks p there at are e =
    let is = place_is first chunks page p e in
    let k : p.0 ≡ first_chunk_number c space + is.at = omega (arith, is.number, at) in
    let n : slice_index chunks is.at ≡ slice_index (space_at c space).chunks is.at = ap (λ l. slice_index l is.at) are in
    omega (arith, is.inside, n, ap (λ m. chunk_pages c m) k, pages_at c space is.at there (omega (arith, is.there, ap (λ (l : List ℕ). length l) are)))
