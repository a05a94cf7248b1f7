-- The parts of the disk share no page, and each page of the data is one of a space.
use Rattle.std.specs.Prelude.{Bool, List, Some, [], cond, false, get_or, length, nat_lt, not, refl, slice_index, suc, sum, take, true, zero, ℕ, ◌*◌, ◌+◌, ◌-◌, ◌<◌, ◌==◌, ◌∷◌, ◌≡◌, ◌≤◌, ◌⊎◌, ◌||◌}
use Rattle.std.proofs.Common.{ap, arith, inl, inr, sym, ◌∙◌}
use Rattle.std.proofs.lemmas.Bool.{and_from, and_parts, cases_lt, cond-false, cond-true, eq-eqb, eqb-true, le-leb, le-ltb, lt-ltb, ltb-true, not-true, or_from, or_parts}
use Rattle.std.proofs.lemmas.List.Sums.{sum_by-cons}
use Rattle.ol_values.specs.Config.{Config, SpaceConfig, area_pages, space_at, unnamed}
use Rattle.ol_chunks.specs.Limits.{IsConfig, chunk_count, reserved_pages}
use Rattle.ol_chunks.specs.Places.{Part, chunk_pages, first_chunk_number, image_area, in_spaces, is_in, is_reserved, lies_in, log_area, physical_area, place_among, place_in_chunks}
use Rattle.ol_chunks.specs.Places.Part.{Data, Images, Logs, Physical, Reserved}
use Rattle.ol_chunks.specs.declared.table.Area.{Area}
use Rattle.ol_chunks.proofs.Chunks.{first_pages, has_chunk, image_pages, logs_inside, pages_at, physical_inside, place_inside, up_to}
use Rattle.ol_chunks.proofs.PlaceLaws.{areas_apart, chunk_there, false_if, lies, logs_past_reserved, past_logs, past_physical, past_reserved, physical_past_reserved, place_at}

-- ---- tests

reserved_is : (chunk page : ℕ) → is_reserved chunk page ≡ true → (chunk ≡ 0) × (page < 12)
reserved_is chunk page e = let p = and_parts (chunk == 0) (nat_lt page 12) e in (eqb-true chunk 0 p.0, ltb-true page 12 p.1)

-- what a page of the data is
record IsData (c : Config) (chunk page : ℕ) : Type 0 where
  inside : in_spaces c chunk page ≡ true
  reserved : is_reserved chunk page ≡ false
  physical : lies_in (physical_area c) chunk page ≡ false
  logs : lies_in (log_area c) chunk page ≡ false

data_is : (c : Config) (chunk page : ℕ) → is_in c Data chunk page ≡ true → IsData c chunk page
data_is c chunk page e =
    let r = is_reserved chunk page in
    let p = lies_in (physical_area c) chunk page in
    let l = lies_in (log_area c) chunk page in
    let a = and_parts (in_spaces c chunk page) (not (r || (p || l))) e in
    let b = or_parts r (p || l) (not-true _ a.1) in
    let d = or_parts p l b.1 in
    record { inside = a.0; reserved = b.0; physical = d.0; logs = d.1 }

-- ---- inside

inside_spaces : (c : Config) (chunk page : ℕ) → chunk < chunk_count c.spaces → page < chunk_pages c chunk → in_spaces c chunk page ≡ true
inside_spaces c chunk page a b = and_from _ _ (lt-ltb chunk (chunk_count c.spaces) a) (lt-ltb page (chunk_pages c chunk) b)

-- a page of the first chunk of a space
first_inside : (c : Config) → IsConfig c → (space : ℕ) → space < length c.spaces → (chunk page : ℕ) → chunk ≡ first_chunk_number c space → page < chunk_pages c (first_chunk_number c space) → in_spaces c chunk page ≡ true
first_inside c is space there chunk page at lt =
    inside_spaces c chunk page (omega (arith, at, up_to c space there, has_chunk c is space there)) (omega (arith, lt, ap (λ n. chunk_pages c n) at))

pub part_inside : (c : Config) → IsConfig c → (part : Part) → (part ≡ Images → ⊥) → (chunk page : ℕ) → is_in c part chunk page ≡ true → in_spaces c chunk page ≡ true
part_inside c is Reserved other chunk page e =
    let there : 0 < length c.spaces = omega (arith, is.log_space) in
    let r = reserved_is chunk page e in
    first_inside c is 0 there chunk page r.0 (omega (arith, r.1, is.room 0 there, first_pages c is 0 there))
part_inside c is Physical other chunk page e =
    let a = lies (physical_area c) chunk page e in
    first_inside c is c.physical_space is.physical_space chunk page a.0 (omega (arith, a.2, physical_inside c is))
part_inside c is Logs other chunk page e =
    let a = lies (log_area c) chunk page e in
    first_inside c is c.log_space is.log_space chunk page a.0 (omega (arith, a.2, logs_inside c is))
part_inside c is Data other chunk page e = (data_is c chunk page e).inside
part_inside c is Images other chunk page e = absurd (other refl)

pub image_inside : (c : Config) (chunk page : ℕ) → is_in c Images chunk page ≡ true → (chunk ≡ chunk_count c.spaces) × (page < chunk_pages c chunk)
image_inside c chunk page e =
    let a = lies (image_area c) chunk page e in
    (a.0, omega (arith, a.2, ap (λ n. chunk_pages c n) a.0, image_pages c))

-- ---- apart

-- no part of spaces has an image
no_image : (c : Config) → IsConfig c → (part : Part) → (part ≡ Images → ⊥) → (chunk page : ℕ) → is_in c Images chunk page ≡ true → is_in c part chunk page ≡ true → ⊥
no_image c is part other chunk page a b =
    let inside = and_parts (nat_lt chunk (chunk_count c.spaces)) (nat_lt page (chunk_pages c chunk)) (part_inside c is part other chunk page b) in
    omega (arith, (image_inside c chunk page a).0, ltb-true chunk (chunk_count c.spaces) inside.0)

reserved_physical : (c : Config) → IsConfig c → (chunk page : ℕ) → is_in c Reserved chunk page ≡ true → is_in c Physical chunk page ≡ true → ⊥
reserved_physical c is chunk page a b =
    let r = reserved_is chunk page a in omega (arith, r.1, physical_past_reserved c is chunk page (lies (physical_area c) chunk page b) r.0)

reserved_logs : (c : Config) → IsConfig c → (chunk page : ℕ) → is_in c Reserved chunk page ≡ true → is_in c Logs chunk page ≡ true → ⊥
reserved_logs c is chunk page a b =
    let r = reserved_is chunk page a in omega (arith, r.1, logs_past_reserved c is chunk page (lies (log_area c) chunk page b) r.0)

physical_logs : (c : Config) → IsConfig c → (chunk page : ℕ) → is_in c Physical chunk page ≡ true → is_in c Logs chunk page ≡ true → ⊥
physical_logs c is chunk page a b = areas_apart c is chunk page (lies (physical_area c) chunk page a) (lies (log_area c) chunk page b)

unlike : (b : Bool) → b ≡ false → b ≡ true → ⊥
unlike b e f = cc

-- no page is in two parts
clash : (c : Config) → IsConfig c → (one other : Part) → (one ≡ other → ⊥) → (chunk page : ℕ) → is_in c one chunk page ≡ true → is_in c other chunk page ≡ true → ⊥
clash c is Reserved Reserved two chunk page a b = two refl
clash c is Reserved Physical two chunk page a b = reserved_physical c is chunk page a b
clash c is Reserved Logs two chunk page a b = reserved_logs c is chunk page a b
clash c is Reserved Data two chunk page a b = unlike _ (data_is c chunk page b).reserved a
clash c is Reserved Images two chunk page a b = no_image c is Reserved two chunk page b a
clash c is Physical Reserved two chunk page a b = reserved_physical c is chunk page b a
clash c is Physical Physical two chunk page a b = two refl
clash c is Physical Logs two chunk page a b = physical_logs c is chunk page a b
clash c is Physical Data two chunk page a b = unlike _ (data_is c chunk page b).physical a
clash c is Physical Images two chunk page a b = no_image c is Physical two chunk page b a
clash c is Logs Reserved two chunk page a b = reserved_logs c is chunk page b a
clash c is Logs Physical two chunk page a b = physical_logs c is chunk page b a
clash c is Logs Logs two chunk page a b = two refl
clash c is Logs Data two chunk page a b = unlike _ (data_is c chunk page b).logs a
clash c is Logs Images two chunk page a b = no_image c is Logs two chunk page b a
clash c is Data Reserved two chunk page a b = unlike _ (data_is c chunk page a).reserved b
clash c is Data Physical two chunk page a b = unlike _ (data_is c chunk page a).physical b
clash c is Data Logs two chunk page a b = unlike _ (data_is c chunk page a).logs b
clash c is Data Data two chunk page a b = two refl
clash c is Data Images two chunk page a b = no_image c is Data two chunk page b a
clash c is Images other two chunk page a b = no_image c is other (λ e. two (sym e)) chunk page a b

pub parts_apart : (c : Config) → IsConfig c → (one other : Part) → (one ≡ other → ⊥) → (chunk page : ℕ) → is_in c one chunk page ≡ true → is_in c other chunk page ≡ false
parts_apart c is one other two chunk page a = false_if _ (λ b. clash c is one other two chunk page a b)

-- ---- data pages

pub place_in_data : (c : Config) → IsConfig c → (space page : ℕ) (p : ℕ × ℕ) → place_in_chunks c space page ≡ Some p → is_in c Data p.0 p.1 ≡ true
place_in_data c is space page p e =
    let a = place_at c space page p e in
    let there : space < length c.spaces = chunk_there c space a.at a.there in
    let inside : in_spaces c p.0 p.1 ≡ true =
    inside_spaces c p.0 p.1 (omega (arith, a.number, a.there, up_to c space there))
    (place_inside c space (first_chunk_number c space) (area_pages c space + page) (space_at c space).chunks p there refl refl e) in
    let reserved : is_reserved p.0 p.1 ≡ false =
    false_if _ (λ b. let r = reserved_is p.0 p.1 b in omega (arith, r.1, past_reserved c is space page p e r.0)) in
    and_from _ _ inside (ap not (or_from _ _ reserved (or_from _ _ (past_physical c is space page p e) (past_logs c is space page p e))))

-- a chunk of spaces is one of a space
record IsChunk (spaces : List SpaceConfig) (chunk : ℕ) : Type 0 where
  space : ℕ
  at : ℕ
  there : space < length spaces
  among : at < length (get_or spaces space unnamed).chunks
  number : chunk ≡ chunk_count (take space spaces) + at

chunk_step : (s : SpaceConfig) (spaces : List SpaceConfig) (chunk : ℕ) → (chunk < length s.chunks) ⊎ (length s.chunks ≤ chunk)
    → (chunk - length s.chunks < chunk_count spaces → IsChunk spaces (chunk - length s.chunks)) → chunk < chunk_count (s ∷ spaces) → IsChunk (s ∷ spaces) chunk
chunk_step s spaces chunk (inl lt) rest among = record { space = 0; at = chunk; there = omega arith; among = lt; number = omega arith }
chunk_step s spaces chunk (inr ge) rest among =
    let r = rest (omega (arith, among, sum_by-cons (λ (t : SpaceConfig). length t.chunks) s spaces)) in
    record {
      space = suc r.space;
      at = r.at;
      there = omega (arith, r.there);
      among = r.among;
      number = omega (arith, r.number, sum_by-cons (λ (t : SpaceConfig). length t.chunks) s (take r.space spaces));
    }

chunk_is : (spaces : List SpaceConfig) (chunk : ℕ) → chunk < chunk_count spaces → IsChunk spaces chunk
chunk_is [] chunk lt = absurd (omega arith)
chunk_is (s ∷ spaces) chunk lt = chunk_step s spaces chunk (cases_lt chunk (length s.chunks)) (chunk_is spaces (chunk - length s.chunks)) lt

-- a page of a chunk is found there among the pages of chunks
among_at : (chunk : ℕ) (chunks : List ℕ) (at page total : ℕ) → at < length chunks → page < slice_index chunks at → total ≡ sum (take at chunks) + page
    → place_among chunk chunks total ≡ Some (chunk + at, page)
among_at chunk [] at page total lt inside is = absurd (omega arith)
among_at chunk (pages ∷ chunks) zero page total lt inside is =
    let same : total ≡ page = omega (arith, is) in
    let number : chunk ≡ chunk + 0 = omega arith in
    let here : nat_lt total pages ≡ true = lt-ltb total pages (omega (arith, same, inside)) in
    let found : place_among chunk (pages ∷ chunks) total ≡ Some (chunk, total) = cond-true _ _ _ here in
    cc
among_at chunk (pages ∷ chunks) (suc at) page total lt inside is =
    let more : sum (take (suc at) (pages ∷ chunks)) ≡ pages + sum (take at chunks) = sum_by-cons (λ (n : ℕ). n) pages (take at chunks) in
    let number : chunk + 1 + at ≡ chunk + suc at = omega arith in
    let past : nat_lt total pages ≡ false = le-ltb total pages (omega (arith, is, more)) in
    let later : place_among chunk (pages ∷ chunks) total ≡ place_among (chunk + 1) chunks (total - pages) = cond-false _ _ _ past in
    let found = among_at (chunk + 1) chunks at page (total - pages) (omega (arith, lt)) inside (omega (arith, is, more)) in
    cc

past_area : (a : Area) (chunk page : ℕ) → lies_in a chunk page ≡ false → chunk ≡ a.chunk → a.first ≤ page → a.first + a.count * a.pages ≤ page
past_area a chunk page e at first = go (cases_lt page (a.first + a.count * a.pages))
  where
    go : (page < a.first + a.count * a.pages) ⊎ (a.first + a.count * a.pages ≤ page) → a.first + a.count * a.pages ≤ page
    go (inl lt) = absurd (unlike _ e (and_from _ _ (eq-eqb chunk a.chunk at) (and_from _ _ (le-leb a.first page first) (lt-ltb page (a.first + a.count * a.pages) lt))))
    go (inr ge) = ge

-- a data page in the first chunk of a space stands behind each of the areas there
behind_reserved : (c : Config) (space chunk page : ℕ) → IsData c chunk page → chunk ≡ first_chunk_number c space → reserved_pages space ≤ page
behind_reserved c space chunk page d at = go (space == 0) refl (cases_lt page 12)
  where
    go : (u : Bool) → (space == 0) ≡ u → (page < 12) ⊎ (12 ≤ page) → reserved_pages space ≤ page
    go true e (inl lt) =
        let first : chunk ≡ 0 = at ∙ ap (first_chunk_number c) (eqb-true space 0 e) in
        absurd (unlike _ d.reserved (and_from _ _ (eq-eqb chunk 0 first) (lt-ltb page 12 lt)))
    go true e (inr ge) = let own : reserved_pages space ≡ 12 = cond-true _ _ _ e in omega (arith, own)
    go false e which = let own : reserved_pages space ≡ 0 = cond-false _ _ _ e in omega (arith, own)

abbrev physical_in : Config → ℕ → ℕ
physical_in c space = cond (space == c.physical_space) (2 * c.physical_entries) 0

behind_physical : (c : Config) (space chunk page : ℕ) → IsData c chunk page → chunk ≡ first_chunk_number c space → reserved_pages space + physical_in c space ≤ page
behind_physical c space chunk page d at = go (space == c.physical_space) refl
  where
    go : (u : Bool) → (space == c.physical_space) ≡ u → reserved_pages space + physical_in c space ≤ page
    go true e =
        let same : space ≡ c.physical_space = eqb-true space c.physical_space e in
        let own : physical_in c space ≡ 2 * c.physical_entries = cond-true _ _ _ e in
        let reserved = ap reserved_pages same in
        omega (arith, own, reserved, past_area (physical_area c) chunk page d.physical (at ∙ ap (first_chunk_number c) same) (omega (arith, reserved, behind_reserved c space chunk page d at)))
    go false e = let own : physical_in c space ≡ 0 = cond-false _ _ _ e in omega (arith, own, behind_reserved c space chunk page d at)

behind_areas : (c : Config) (space chunk page : ℕ) → IsData c chunk page → chunk ≡ first_chunk_number c space → area_pages c space ≤ page
behind_areas c space chunk page d at = go (space == c.log_space) refl
  where
    go : (u : Bool) → (space == c.log_space) ≡ u → area_pages c space ≤ page
    go true e =
        let same : space ≡ c.log_space = eqb-true space c.log_space e in
        let own : cond (space == c.log_space) (c.log_files * c.log_file_pages) 0 ≡ c.log_files * c.log_file_pages = cond-true _ _ _ e in
        let before : reserved_pages space + physical_in c space ≡ reserved_pages c.log_space + physical_in c c.log_space = ap (λ n. reserved_pages n + physical_in c n) same in
        omega (arith, own, before, past_area (log_area c) chunk page d.logs (at ∙ ap (first_chunk_number c) same) (omega (arith, before, behind_physical c space chunk page d at)))
    go false e =
        let own : cond (space == c.log_space) (c.log_files * c.log_file_pages) 0 ≡ 0 = cond-false _ _ _ e in
        omega (arith, own, behind_physical c space chunk page d at)

first_of_sum : (chunks : List ℕ) (i : ℕ) → slice_index chunks 0 ≤ sum (take (suc i) chunks)
first_of_sum [] i = omega arith
first_of_sum (pages ∷ chunks) i = omega (arith, sum_by-cons (λ (n : ℕ). n) pages (take i chunks))

areas_before : (c : Config) → IsConfig c → (space at chunk page : ℕ) → space < length c.spaces → IsData c chunk page → chunk ≡ first_chunk_number c space + at
    → area_pages c space ≤ sum (take at (space_at c space).chunks) + page
areas_before c is space zero chunk page there d number = omega (arith, behind_areas c space chunk page d (omega (arith, number)))
areas_before c is space (suc at) chunk page there d number = omega (arith, is.room space there, first_of_sum (space_at c space).chunks at)

-- each page of the data is the place of a data page
pub data_has_place : (c : Config) → IsConfig c → (chunk page : ℕ) → is_in c Data chunk page ≡ true
    → (space : ℕ) × (of_space : ℕ) × (space < length c.spaces) × (place_in_chunks c space of_space ≡ Some (chunk, page))
data_has_place c is chunk page e =
    let d = data_is c chunk page e in
    let inside = and_parts (nat_lt chunk (chunk_count c.spaces)) (nat_lt page (chunk_pages c chunk)) d.inside in
    let k = chunk_is c.spaces chunk (ltb-true chunk (chunk_count c.spaces) inside.0) in
    let chunks = (space_at c k.space).chunks in
    let total = sum (take k.at chunks) + page in
    let fits : page < slice_index chunks k.at =
    omega (arith, ltb-true page (chunk_pages c chunk) inside.1, ap (λ n. chunk_pages c n) k.number, pages_at c k.space k.at k.there k.among) in
    let back : area_pages c k.space + (total - area_pages c k.space) ≡ total = omega (arith, areas_before c is k.space k.at chunk page k.there d k.number) in
    let found = among_at (first_chunk_number c k.space) chunks k.at page (area_pages c k.space + (total - area_pages c k.space)) k.among fits back in
    let number : first_chunk_number c k.space + k.at ≡ chunk = sym k.number in
    (k.space, total - area_pages c k.space, k.there, found ∙ ap (λ (n : ℕ). Some (let p : ℕ × ℕ = (n, page) in p)) number)
