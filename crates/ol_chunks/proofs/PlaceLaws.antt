-- Each data page has a place of its own.
use Rattle.std.specs.Prelude.{Option, Bool, IsSome, List, Some, [], cond, false, get_or, if◌then◌else◌, length, nat_le, nat_lt, refl, suc, sum, take, true, zero, ℕ, ◌&&◌, ◌*◌, ◌+◌, ◌-◌, ◌<◌, ◌==◌, ◌∷◌, ◌≡◌, ◌≤◌, ◌↔◌, ◌⊎◌}
use Rattle.std.proofs.Common.{ap, arith, inl, inr, sym, ◌∙◌}
use Rattle.std.proofs.lemmas.Bool.{and_parts, cases_lt, cases_order, cond-false, cond-true, eq-eqb, eqb-true, le-ltb, leb-true, lt-ltb, ltb-false, ltb-true}
use Rattle.std.proofs.lemmas.List.{get_or_past}
use Rattle.std.proofs.lemmas.List.Sums.{sum_by-cons}
use Rattle.ol_values.specs.Config.{Config, SpaceConfig, area_pages, data_pages, space_at, unnamed}
use Rattle.ol_chunks.specs.Limits.{IsConfig, chunk_count, reserved_pages}
use Rattle.ol_chunks.specs.Places.{first_chunk_number, holder_from, space_holding, lies_in, log_area, physical_area, place_among, place_in_chunks}
use Rattle.ol_chunks.specs.declared.table.Area.{Area}
use Rattle.ol_chunks.proofs.Chunks.{IsPlace, has_chunk, place_is}

-- ---- which pages have a place

among_step : (chunk pages page : ℕ) (chunks : List ℕ) (u : Bool) → nat_lt page pages ≡ u → IsSome (place_among (chunk + 1) chunks (page - pages)) ↔ (page - pages < sum chunks)
    → IsSome (if u then Some (chunk, page) else place_among (chunk + 1) chunks (page - pages)) ↔ (page < sum (pages ∷ chunks))
among_step chunk pages page chunks true test rest =
    let lt : page < pages = ltb-true page pages test in
    (λ s. omega (arith, sum_by-cons (λ (n : ℕ). n) pages chunks), λ l. refl)
among_step chunk pages page chunks false test rest =
    let le : pages ≤ page = ltb-false page pages test in
    (λ s. omega (arith, rest.0 s, sum_by-cons (λ (n : ℕ). n) pages chunks), λ l. rest.1 (omega (arith, l, sum_by-cons (λ (n : ℕ). n) pages chunks)))

among_there : (chunk : ℕ) (chunks : List ℕ) (page : ℕ) → IsSome (place_among chunk chunks page) ↔ (page < sum chunks)
among_there chunk [] page = (λ s. cc, λ l. absurd (omega arith))
among_there chunk (pages ∷ chunks) page = among_step chunk pages page chunks (nat_lt page pages) refl (among_there (chunk + 1) chunks (page - pages))

pub place_there : (c : Config) (space page : ℕ) → IsSome (place_in_chunks c space page) ↔ (page < data_pages c space)
place_there c space page =
    let t = among_there (first_chunk_number c space) (space_at c space).chunks (area_pages c space + page) in
    (λ s. omega (arith, t.0 s), λ l. t.1 (omega (arith, l)))

-- ---- which space a chunk is of

numbers_rise : (spaces : List SpaceConfig) (i j : ℕ) → i < j → chunk_count (take i spaces) + length (get_or spaces i unnamed).chunks ≤ chunk_count (take j spaces)
numbers_rise [] zero zero lt = absurd (omega arith)
numbers_rise [] zero (suc j) lt = omega arith
numbers_rise [] (suc i) zero lt = absurd (omega arith)
numbers_rise [] (suc i) (suc j) lt = omega arith
numbers_rise (s ∷ spaces) i zero lt = absurd (omega arith)
numbers_rise (s ∷ spaces) zero (suc j) lt = omega (arith, sum_by-cons (λ (t : SpaceConfig). length t.chunks) s (take j spaces))
numbers_rise (s ∷ spaces) (suc i) (suc j) lt =
    omega (arith, sum_by-cons (λ (t : SpaceConfig). length t.chunks) s (take j spaces), sum_by-cons (λ (t : SpaceConfig). length t.chunks) s (take i spaces), numbers_rise spaces i j (omega arith))

-- a chunk is one of one space
one_space : (c : Config) (s t a b : ℕ) → a < length (space_at c s).chunks → b < length (space_at c t).chunks → first_chunk_number c s + a ≡ first_chunk_number c t + b → s ≡ t
one_space c s t a b la lb e = go (cases_order s t)
  where
    go : (s ≡ t) ⊎ ((s < t) ⊎ (t < s)) → s ≡ t
    go (inl same) = same
    go (inr (inl lt)) = absurd (omega (arith, numbers_rise c.spaces s t lt))
    go (inr (inr gt)) = absurd (omega (arith, numbers_rise c.spaces t s gt))

pub place_at : (c : Config) (space page : ℕ) (p : ℕ × ℕ) → place_in_chunks c space page ≡ Some p → IsPlace (first_chunk_number c space) (space_at c space).chunks (area_pages c space + page) p
place_at c space page p e = place_is (first_chunk_number c space) (space_at c space).chunks (area_pages c space + page) p e

pub one_page : (c : Config) (space page other_space other : ℕ) (p : ℕ × ℕ) → place_in_chunks c space page ≡ Some p → place_in_chunks c other_space other ≡ Some p → (space ≡ other_space) × (page ≡ other)
one_page c space page other_space other p e f =
    let a = place_at c space page p e in
    let b = place_at c other_space other p f in
    let same : space ≡ other_space = one_space c space other_space a.at b.at a.there b.there (sym a.number ∙ b.number) in
    let n : first_chunk_number c space ≡ first_chunk_number c other_space = ap (first_chunk_number c) same in
    let at : a.at ≡ b.at = omega (arith, a.number, b.number, n) in
    let before : sum (take a.at (space_at c space).chunks) ≡ sum (take b.at (space_at c other_space).chunks) =
    ap (λ k. sum (take k (space_at c space).chunks)) at ∙ ap (λ k. sum (take b.at (space_at c k).chunks)) same in
    (same, omega (arith, a.before, b.before, before, ap (area_pages c) same))

-- what lies in the first chunk of a space is a data page of it, behind all its areas
first_place : (c : Config) (is : IsConfig c) (owner space page : ℕ) (p : ℕ × ℕ) → owner < length c.spaces → place_in_chunks c space page ≡ Some p → p.0 ≡ first_chunk_number c owner → area_pages c owner ≤ p.1
first_place c is owner space page p there e at =
    let a = place_at c space page p e in
    let same : owner ≡ space = one_space c owner space 0 a.at (has_chunk c is owner there) a.there (omega (arith, a.number, at)) in
    let n : first_chunk_number c owner ≡ first_chunk_number c space = ap (first_chunk_number c) same in
    let zero_at : a.at ≡ 0 = omega (arith, a.number, at, n) in
    let before : sum (take a.at (space_at c space).chunks) ≡ 0 = ap (λ k. sum (take k (space_at c space).chunks)) zero_at in
    omega (arith, a.before, before, ap (area_pages c) same)

-- a page lies in an area, by its numbers
abbrev pub LiesIn : Area → ℕ → ℕ → Type 0
LiesIn a chunk page = (chunk ≡ a.chunk) × (a.first ≤ page) × (page < a.first + a.count * a.pages)

pub lies : (a : Area) (chunk page : ℕ) → lies_in a chunk page ≡ true → LiesIn a chunk page
lies a chunk page e =
    let p = and_parts (chunk == a.chunk) (nat_le a.first page && nat_lt page (a.first + a.count * a.pages)) e in
    let q = and_parts (nat_le a.first page) (nat_lt page (a.first + a.count * a.pages)) p.1 in
    (eqb-true chunk a.chunk p.0, leb-true a.first page q.0, ltb-true page (a.first + a.count * a.pages) q.1)

pub false_if : (b : Bool) → (b ≡ true → ⊥) → b ≡ false
false_if true never = absurd (never refl)
false_if false never = refl

pub past_reserved : (c : Config) → IsConfig c → (space page : ℕ) (p : ℕ × ℕ) → place_in_chunks c space page ≡ Some p → p.0 ≡ 0 → 12 ≤ p.1
past_reserved c is space page p e at = omega (arith, first_place c is 0 space page p (omega (arith, is.log_space)) e at)

pub past_physical : (c : Config) → IsConfig c → (space page : ℕ) (p : ℕ × ℕ) → place_in_chunks c space page ≡ Some p → lies_in (physical_area c) p.0 p.1 ≡ false
past_physical c is space page p e = false_if _ (λ b.
    let a = lies (physical_area c) p.0 p.1 b in
    let le = first_place c is c.physical_space space page p is.physical_space e a.0 in
    let own : cond (c.physical_space == c.physical_space) (2 * c.physical_entries) 0 ≡ 2 * c.physical_entries = cond-true _ _ _ (eq-eqb c.physical_space c.physical_space refl) in
    omega (arith, own, le, a.2))

pub past_logs : (c : Config) → IsConfig c → (space page : ℕ) (p : ℕ × ℕ) → place_in_chunks c space page ≡ Some p → lies_in (log_area c) p.0 p.1 ≡ false
past_logs c is space page p e = false_if _ (λ b.
    let a = lies (log_area c) p.0 p.1 b in
    let le = first_place c is c.log_space space page p is.log_space e a.0 in
    let own : cond (c.log_space == c.log_space) (c.log_files * c.log_file_pages) 0 ≡ c.log_files * c.log_file_pages = cond-true _ _ _ (eq-eqb c.log_space c.log_space refl) in
    omega (arith, own, le, a.2))

-- ---- the space of a chunk

holder_step : (space chunk count : ℕ) (o : Option ℕ) → count ≤ chunk → (if nat_lt chunk count then Some space else o) ≡ o
holder_step space chunk count o le = cond-false (nat_lt chunk count) (Some space) o (le-ltb chunk count le)

holder_at : (k : ℕ) (spaces : List SpaceConfig) (i j : ℕ) → i < length spaces → j < length (get_or spaces i unnamed).chunks → holder_from k spaces (chunk_count (take i spaces) + j) ≡ Some (k + i)
holder_at k [] i j lt among = absurd (omega arith)
holder_at k (s ∷ spaces) zero j lt among =
    let here : 0 + j < length s.chunks = omega arith in
    cond-true (nat_lt (0 + j) (length s.chunks)) (Some k) (holder_from (k + 1) spaces (0 + j - length s.chunks)) (lt-ltb (0 + j) (length s.chunks) here)
    ∙ ap (λ (n : ℕ). Some n) (let e : k ≡ k + 0 = omega arith in e)
holder_at k (s ∷ spaces) (suc i) j lt among =
    let n : chunk_count (take (suc i) (s ∷ spaces)) ≡ length s.chunks + chunk_count (take i spaces) = sum_by-cons (λ (t : SpaceConfig). length t.chunks) s (take i spaces) in
    let later : chunk_count (take (suc i) (s ∷ spaces)) + j - length s.chunks ≡ chunk_count (take i spaces) + j = omega (arith, n) in
    holder_step k (chunk_count (take (suc i) (s ∷ spaces)) + j) (length s.chunks) (holder_from (k + 1) spaces (chunk_count (take (suc i) (s ∷ spaces)) + j - length s.chunks)) (omega (arith, n))
    ∙ ap (holder_from (k + 1) spaces) later
    ∙ holder_at (k + 1) spaces i j (omega arith) among
    ∙ ap (λ (m : ℕ). Some m) (let e : k + 1 + i ≡ k + suc i = omega arith in e)

held_by : (c : Config) (space j : ℕ) → space < length c.spaces → j < length (space_at c space).chunks → space_holding c (first_chunk_number c space + j) ≡ Some space
held_by c space j there among = holder_at 0 c.spaces space j there among ∙ ap (λ (n : ℕ). Some n) (let e : 0 + space ≡ space = omega arith in e)

-- a space that has a chunk is there
pub chunk_there : (c : Config) (space j : ℕ) → j < length (space_at c space).chunks → space < length c.spaces
chunk_there c space j among = go (cases_lt space (length c.spaces))
  where
    go : (space < length c.spaces) ⊎ (length c.spaces ≤ space) → space < length c.spaces
    go (inl lt) = lt
    go (inr ge) = absurd (omega (arith, ap (λ (s : SpaceConfig). length s.chunks) (get_or_past c.spaces space unnamed ge)))

pub place_held : (c : Config) (space page : ℕ) (p : ℕ × ℕ) → place_in_chunks c space page ≡ Some p → space_holding c p.0 ≡ Some space
place_held c space page p e =
    let a = place_at c space page p e in
    ap (λ n. space_holding c n) a.number ∙ held_by c space a.at (chunk_there c space a.at a.there) a.there

pub first_held : (c : Config) → IsConfig c → (space : ℕ) → space < length c.spaces → space_holding c (first_chunk_number c space) ≡ Some space
first_held c is space there =
    ap (λ n. space_holding c n) (let e : first_chunk_number c space ≡ first_chunk_number c space + 0 = omega arith in e) ∙ held_by c space 0 there (has_chunk c is space there)

-- ---- areas

pub areas_apart : (c : Config) → IsConfig c → (chunk page : ℕ) → LiesIn (physical_area c) chunk page → LiesIn (log_area c) chunk page → ⊥
areas_apart c is chunk page a b =
    let same : c.physical_space ≡ c.log_space =
    one_space c c.physical_space c.log_space 0 0 (has_chunk c is c.physical_space is.physical_space) (has_chunk c is c.log_space is.log_space) (omega (arith, a.0, b.0)) in
    let own : cond (c.log_space == c.physical_space) (2 * c.physical_entries) 0 ≡ 2 * c.physical_entries = cond-true _ _ _ (eq-eqb c.log_space c.physical_space (sym same)) in
    omega (arith, own, a.2, b.1, ap reserved_pages same)

first_owner : (c : Config) → IsConfig c → (owner : ℕ) → owner < length c.spaces → first_chunk_number c owner ≡ 0 → owner ≡ 0
first_owner c is owner there at = one_space c owner 0 0 0 (has_chunk c is owner there) (has_chunk c is 0 (omega arith)) (omega (arith, at))

pub physical_past_reserved : (c : Config) → IsConfig c → (chunk page : ℕ) → LiesIn (physical_area c) chunk page → chunk ≡ 0 → 12 ≤ page
physical_past_reserved c is chunk page a at = omega (arith, a.1, ap reserved_pages (first_owner c is c.physical_space is.physical_space (sym a.0 ∙ at)))

pub logs_past_reserved : (c : Config) → IsConfig c → (chunk page : ℕ) → LiesIn (log_area c) chunk page → chunk ≡ 0 → 12 ≤ page
logs_past_reserved c is chunk page a at = omega (arith, a.1, ap reserved_pages (first_owner c is c.log_space is.log_space (sym a.0 ∙ at)))
