-- What holds of all that was read so far.
use Rattle.std.specs.List.{IsDistinct, list_any}
use Rattle.std.specs.Prelude.{Bool, List, Some, [], bytes_eq, codes, cond, false, length, nat_le, nat_lt, not, refl, sum, true, ℕ, ◌&&◌, ◌*◌, ◌++◌, ◌+◌, ◌<◌, ◌==◌, ◌∷◌, ◌≡◌, ◌≤◌, ◌⊎◌, ◌||◌}
use Rattle.std.proofs.Common.{add-zero, ap, arith, inl, inr, length-append, subst, sym, zero-add, ◌∙◌}
use Rattle.std.proofs.lemmas.Bool.{and_parts, cases_lt, cond-false, eq-eqb, eqb-true, leb-true, ltb-true, not-true}
use Rattle.std.proofs.lemmas.Bool.Decides.{Decides-like, same_from_decides}
use Rattle.std.proofs.lemmas.List.{get_or_append_left}
use Rattle.std.proofs.lemmas.List.Sums.{sum_by-append}
use Rattle.std.proofs.lemmas.Map.Keys.{IsDistinct-push}
use Rattle.std.proofs.lemmas.Slice.Eq.{bytes_eq-Decides}
use Rattle.std.proofs.lemmas.List.Quantifiers.{position-Some}
use Rattle.std.proofs.Math.Seq.{get_or-append_seam}
use Rattle.std.specs.Cmp.{IsEquivalence}
use Rattle.ol_values.specs.Config.{Config, SpaceConfig, is_name, space_at, space_named, unnamed}
use Rattle.ol_chunks.specs.Limits.{AreInLimits, AreSpaces, HasDataRoom, IsConfig, IsSpace, chunk_count, first_chunk, names_of, reserved_pages}
use Rattle.ol_chunks.specs.Reading.{Reading, after_line, has_pages, has_place_left, has_room, is_new_name, nothing_read, with_limit, with_logs, with_physical, with_space_read, words_of}
use Rattle.ol_chunks.specs.declared.draft.Due.{Due}
use Rattle.ol_chunks.specs.declared.draft.Due.TheVariants.{Before, Logs, Nothing, Spaces}
use Rattle.ol_chunks.proofs.LineLaws.{BeforeLine, Gives, LogsLine, PhysicalLine, SpaceLine, gives}
use Rattle.ol_chunks.proofs.Numbers.{numbers_are}

-- the spaces that were read
pub record IsBegun (c : Config) : Type 0 where
  pub spaces : AreSpaces 0 c.spaces
  pub distinct : IsDistinct bytes_eq (names_of c.spaces)
  pub few : length c.spaces ≤ 16
  pub chunks : chunk_count c.spaces ≤ 31
  pub room : (space : ℕ) → space < length c.spaces → HasDataRoom c space

pub record IsPhysical (c : Config) : Type 0 where
  pub space : c.physical_space < length c.spaces
  pub entries : (1 ≤ c.physical_entries) × (c.physical_entries ≤ 4096)

pub record AreLogs (c : Config) : Type 0 where
  pub space : c.log_space < length c.spaces
  pub files : (3 ≤ c.log_files) × (c.log_files ≤ 64)
  pub pages : (4 ≤ c.log_file_pages) × (c.log_file_pages ≤ 1000)

-- what is read by the line that is due, and what isn't
abbrev pub IsStage : Due → Config → Type 0
IsStage Spaces c = (c.physical_entries ≡ 0) × (c.log_files ≡ 0)
IsStage Logs c = IsPhysical c × (c.log_files ≡ 0)
IsStage Before c = IsPhysical c × AreLogs c
IsStage Nothing c = IsPhysical c × AreLogs c × (1 ≤ c.image_limit) × (c.image_limit ≤ 4096)

pub record IsRead (r : Reading) : Type 0 where
  pub begun : IsBegun r.config
  pub stage : IsStage r.due r.config

-- ---- one space more

AreSpaces-push : (k : ℕ) (spaces : List SpaceConfig) (s : SpaceConfig) → AreSpaces k spaces → IsSpace (k + length spaces) s → AreSpaces k (spaces ++ s ∷ [])
AreSpaces-push k [] s a is = (subst (λ (n : ℕ). IsSpace n s) (add-zero k) is, tt)
AreSpaces-push k (t ∷ spaces) s a is =
    let at : k + length (t ∷ spaces) ≡ k + 1 + length spaces = omega arith in
    (a.0, AreSpaces-push (k + 1) spaces s a.1 (subst (λ (n : ℕ). IsSpace n s) at is))

pub bytes_eq_equiv : IsEquivalence bytes_eq
bytes_eq_equiv = record {
  refl = λ x. (bytes_eq-Decides x x).1 refl;
  symm = λ x y. same_from_decides (bytes_eq x y) (bytes_eq y x) (bytes_eq-Decides x y) (Decides-like (bytes_eq y x) sym sym (bytes_eq-Decides y x));
  congr = λ x y z e. ap (λ l. bytes_eq l z) ((bytes_eq-Decides x y).0 e);
}

names_push : (spaces : List SpaceConfig) (s : SpaceConfig) → names_of (spaces ++ s ∷ []) ≡ names_of spaces ++ s.name ∷ []
names_push [] s = refl
names_push (t ∷ spaces) s = ap (λ (l : List (List ℕ)). t.name ∷ l) (names_push spaces s)

any_name : (name : List ℕ) (spaces : List SpaceConfig) → list_any (bytes_eq name) (names_of spaces) ≡ list_any (λ (s : SpaceConfig). bytes_eq name s.name) spaces
any_name name [] = refl
any_name name (t ∷ spaces) = ap (λ u. bytes_eq name t.name || u) (any_name name spaces)

distinct_push : (spaces : List SpaceConfig) (s : SpaceConfig) → IsDistinct bytes_eq (names_of spaces) → list_any (λ (t : SpaceConfig). bytes_eq s.name t.name) spaces ≡ false
    → IsDistinct bytes_eq (names_of (spaces ++ s ∷ []))
distinct_push spaces s d new =
    rw (names_push spaces s) (IsDistinct-push bytes_eq_equiv (names_of spaces) s.name d (any_name s.name spaces ∙ new))

nothing_there : (u v : Bool) (n m : ℕ) → cond u (2 * 0) 0 + cond v (0 * m) 0 ≡ 0
nothing_there true true n m = omega arith
nothing_there true false n m = refl
nothing_there false true n m = omega arith
nothing_there false false n m = refl

space_room : (c : Config) (s : SpaceConfig) → IsBegun c → c.physical_entries ≡ 0 → c.log_files ≡ 0 → nat_lt (reserved_pages (length c.spaces)) (first_chunk s) ≡ true
    → (space : ℕ) → space < length (c.spaces ++ s ∷ []) → HasDataRoom (with_space_read c s) space
space_room c s b p l fits space lt = go (cases_lt space (length c.spaces))
  where
    go : (space < length c.spaces) ⊎ (length c.spaces ≤ space) → HasDataRoom (with_space_read c s) space
    go (inl old) = rw (get_or_append_left c.spaces (s ∷ []) unnamed space old) (b.room space old)
    go (inr new) =
        let at : length c.spaces ≡ space = omega (arith, length-append c.spaces (s ∷ []), lt) in
        let seam : space_at (with_space_read c s) (length c.spaces) ≡ s = get_or-append_seam c.spaces s [] unnamed in
        let none : cond (length c.spaces == c.physical_space) (2 * c.physical_entries) 0 + cond (length c.spaces == c.log_space) (c.log_files * c.log_file_pages) 0 ≡ 0 =
        rw (p, l) (nothing_there _ _ 0 c.log_file_pages) in
        let P : ℕ → Type 0 = λ n. HasDataRoom (with_space_read c s) n in
        subst P at (omega (arith, none, ap first_chunk seam, ltb-true (reserved_pages (length c.spaces)) (first_chunk s) fits))

root_named : (u : Bool) (name : List ℕ) → (not u || bytes_eq name (codes "root")) ≡ true → u ≡ true → name ≡ codes "root"
root_named true name e at = (bytes_eq-Decides name (codes "root")).0 e
root_named false name e at = cc

begun_space : (c : Config) (s : SpaceConfig) → IsBegun c → c.physical_entries ≡ 0 → c.log_files ≡ 0 → AreInLimits s.chunks
    → (has_place_left c.spaces (length s.chunks) && (is_new_name c.spaces s.name && has_pages (length c.spaces) s.chunks)) ≡ true → IsBegun (with_space_read c s)
begun_space c s b p l chunks fits =
    let f = and_parts (has_place_left c.spaces (length s.chunks)) (is_new_name c.spaces s.name && has_pages (length c.spaces) s.chunks) fits in
    let place = and_parts (nat_lt (length c.spaces) 16) (nat_le (chunk_count c.spaces + length s.chunks) 31) f.0 in
    let named = and_parts (is_new_name c.spaces s.name) (has_pages (length c.spaces) s.chunks) f.1 in
    let name = and_parts (is_name s.name) ((not (length c.spaces == 0) || bytes_eq s.name (codes "root")) && not (list_any (λ (t : SpaceConfig). bytes_eq s.name t.name) c.spaces)) named.0 in
    let root = and_parts (not (length c.spaces == 0) || bytes_eq s.name (codes "root")) (not (list_any (λ (t : SpaceConfig). bytes_eq s.name t.name) c.spaces)) name.1 in
    let pages = and_parts (nat_lt (reserved_pages (length c.spaces)) (first_chunk s)) (nat_le (sum s.chunks) (65535 + reserved_pages (length c.spaces))) named.1 in
    let is : IsSpace (length c.spaces) s = record {
      name = name.0;
      root = λ z. root_named (length c.spaces == 0) s.name root.0 (eq-eqb (length c.spaces) 0 z);
      chunks = chunks;
      pages = leb-true (sum s.chunks) (65535 + reserved_pages (length c.spaces)) pages.1;
    } in
    record {
      spaces = AreSpaces-push 0 c.spaces s b.spaces (subst (λ (n : ℕ). IsSpace n s) (sym (zero-add (length c.spaces))) is);
      distinct = distinct_push c.spaces s b.distinct (not-true _ root.1);
      few = omega (arith, length-append c.spaces (s ∷ []), ltb-true (length c.spaces) 16 place.0);
      chunks = omega (arith, sum_by-append (λ (t : SpaceConfig). length t.chunks) c.spaces (s ∷ []), leb-true (chunk_count c.spaces + length s.chunks) 31 place.1);
      room = space_room c s b p l pages.0;
    }

-- ---- what stands in the spaces

physical_room : (c : Config) (space entries : ℕ) → has_room (with_physical c space entries) space ≡ true → (i : ℕ) → HasDataRoom c i → HasDataRoom (with_physical c space entries) i
physical_room c space entries fits i old = go (i == space) refl
  where
    go : (u : Bool) → (i == space) ≡ u → HasDataRoom (with_physical c space entries) i
    go true at =
        let P : ℕ → Type 0 = λ n. HasDataRoom (with_physical c space entries) n in
        subst P (sym (eqb-true i space at)) (ltb-true _ _ fits)
    go false at =
        let none : cond (i == space) (2 * entries) 0 ≡ 0 = cond-false (i == space) (2 * entries) 0 at in
        omega (arith, none, old)

logs_room : (c : Config) (space files pages : ℕ) → has_room (with_logs c space files pages) space ≡ true → (i : ℕ) → HasDataRoom c i → HasDataRoom (with_logs c space files pages) i
logs_room c space files pages fits i old = go (i == space) refl
  where
    go : (u : Bool) → (i == space) ≡ u → HasDataRoom (with_logs c space files pages) i
    go true at =
        let P : ℕ → Type 0 = λ n. HasDataRoom (with_logs c space files pages) n in
        subst P (sym (eqb-true i space at)) (ltb-true _ _ fits)
    go false at =
        let none : cond (i == space) (files * pages) 0 ≡ 0 = cond-false (i == space) (files * pages) 0 at in
        omega (arith, none, old)

pub record IsNamed (c : Config) (name : List ℕ) (space : ℕ) : Type 0 where
  pub there : space < length c.spaces
  pub name_is : (space_at c space).name ≡ name

pub named : (c : Config) (name : List ℕ) (space : ℕ) → space_named c name ≡ Some space → IsNamed c name space
named c name space e =
    let h = position-Some (λ (s : SpaceConfig). bytes_eq s.name name) c.spaces space unnamed e in
    record { there = h.0; name_is = (bytes_eq-Decides (space_at c space).name name).0 h.1 }

-- ---- one line more

keeps_space : (c : Config) (words : List (List ℕ)) (r : Reading) → IsBegun c → IsStage Spaces c → SpaceLine c words r → IsRead r
keeps_space c words r b st line =
    let s : SpaceConfig = record { name = line.name; chunks = line.chunks } in
    let read : Reading = record { due = Spaces; config = with_space_read c s } in
    let is : IsRead read = record { begun = begun_space c s b st.0 st.1 (numbers_are line.numbers line.chunks line.chunks_are).limits line.fits; stage = st } in
    subst (λ (q : Reading). IsRead q) (sym line.gives) is

keeps_physical : (c : Config) (words : List (List ℕ)) (r : Reading) → IsBegun c → IsStage Spaces c → PhysicalLine c words r → IsRead r
keeps_physical c words r b st line =
    let f = and_parts (nat_le line.entries 4096) (has_room (with_physical c line.space line.entries) line.space) line.fits in
    let n = (numbers_are line.numbers (line.entries ∷ []) line.numbers_are).limits in
    let read : Reading = record { due = Logs; config = with_physical c line.space line.entries } in
    let begun : IsBegun (with_physical c line.space line.entries) = record {
      spaces = b.spaces;
      distinct = b.distinct;
      few = b.few;
      chunks = b.chunks;
      room = λ i lt. physical_room c line.space line.entries f.1 i (b.room i lt);
    } in
    let physical : IsPhysical (with_physical c line.space line.entries) = record { space = (named c line.name line.space line.space_is).there; entries = (n.0.0, leb-true line.entries 4096 f.0) } in
    let is : IsRead read = record { begun = begun; stage = (physical, st.1) } in
    subst (λ (q : Reading). IsRead q) (sym line.gives) is

keeps_logs : (c : Config) (words : List (List ℕ)) (r : Reading) → IsBegun c → IsStage Logs c → LogsLine c words r → IsRead r
keeps_logs c words r b st line =
    let f = and_parts (nat_le 3 line.files && nat_le line.files 64) ((nat_le 4 line.pages && nat_le line.pages 1000) && has_room (with_logs c line.space line.files line.pages) line.space) line.fits in
    let g = and_parts (nat_le 3 line.files) (nat_le line.files 64) f.0 in
    let h = and_parts (nat_le 4 line.pages && nat_le line.pages 1000) (has_room (with_logs c line.space line.files line.pages) line.space) f.1 in
    let k = and_parts (nat_le 4 line.pages) (nat_le line.pages 1000) h.0 in
    let read : Reading = record { due = Before; config = with_logs c line.space line.files line.pages } in
    let begun : IsBegun (with_logs c line.space line.files line.pages) = record {
      spaces = b.spaces;
      distinct = b.distinct;
      few = b.few;
      chunks = b.chunks;
      room = λ i lt. logs_room c line.space line.files line.pages h.1 i (b.room i lt);
    } in
    let physical : IsPhysical (with_logs c line.space line.files line.pages) = record { space = st.0.space; entries = st.0.entries } in
    let logs : AreLogs (with_logs c line.space line.files line.pages) = record {
      space = (named c line.name line.space line.space_is).there;
      files = (leb-true 3 line.files g.0, leb-true line.files 64 g.1);
      pages = (leb-true 4 line.pages k.0, leb-true line.pages 1000 k.1);
    } in
    let is : IsRead read = record { begun = begun; stage = (physical, logs) } in
    subst (λ (q : Reading). IsRead q) (sym line.gives) is

keeps_before : (c : Config) (words : List (List ℕ)) (r : Reading) → IsBegun c → IsStage Before c → BeforeLine c words r → IsRead r
keeps_before c words r b st line =
    let n = (numbers_are line.numbers (line.limit ∷ []) line.numbers_are).limits in
    let read : Reading = record { due = Nothing; config = with_limit c line.limit } in
    let begun : IsBegun (with_limit c line.limit) = record { spaces = b.spaces; distinct = b.distinct; few = b.few; chunks = b.chunks; room = b.room } in
    let physical : IsPhysical (with_limit c line.limit) = record { space = st.0.space; entries = st.0.entries } in
    let logs : AreLogs (with_limit c line.limit) = record { space = st.1.space; files = st.1.files; pages = st.1.pages } in
    let is : IsRead read = record { begun = begun; stage = (physical, logs, n.0.0, leb-true line.limit 4096 line.fits) } in
    subst (λ (q : Reading). IsRead q) (sym line.gives) is

keeps : (due : Due) (c : Config) (words : List (List ℕ)) (r : Reading) → IsBegun c → IsStage due c → Gives due c words r → IsRead r
keeps Spaces c words r b st (inl line) = keeps_space c words r b st line
keeps Spaces c words r b st (inr line) = keeps_physical c words r b st line
keeps Logs c words r b st line = keeps_logs c words r b st line
keeps Before c words r b st line = keeps_before c words r b st line
keeps Nothing c words r b st line = absurd line

-- what a line gives is read as it should be, where all before it was
pub read_keeps : (r next : Reading) (line : List ℕ) → IsRead r → after_line r line ≡ Some next → IsRead next
read_keeps r next line is e = keeps r.due r.config (words_of line) next is.begun is.stage (gives r.due r.config (words_of line) next e)

no_names : IsDistinct bytes_eq []
unfolding IsDistinct
no_names = tt

pub nothing_is_read : IsRead nothing_read
nothing_is_read = record {
  begun = record { spaces = tt; distinct = no_names; few = omega arith; chunks = omega arith; room = λ i lt. absurd (omega arith) };
  stage = (refl, refl);
}

pub read_config : (c : Config) → IsRead (record { due = Nothing; config = c }) → IsConfig c
read_config c r = record {
  spaces = r.begun.spaces;
  distinct = r.begun.distinct;
  few = r.begun.few;
  chunks = r.begun.chunks;
  room = r.begun.room;
  physical_space = r.stage.0.space;
  physical_entries = r.stage.0.entries;
  log_space = r.stage.1.space;
  log_files = r.stage.1.files;
  log_file_pages = r.stage.1.pages;
  image_limit = (r.stage.2, r.stage.3);
}
