-- The text of a configuration is read as that configuration.
use Rattle.std.specs.Char.{is_ascii_digit}
use Rattle.std.specs.Fmt.{decimal}
use Rattle.std.specs.List.{AllByRecursion, IsDistinct, flat_map, list_all, list_any, position_or_len}
use Rattle.std.specs.Prelude.{Bool, List, None, Ok, Some, [], bytes_eq, codes, cond, false, get_or, length, map, nat_le, nat_lt, not, refl, suc, sum, take, true, zero, ℕ, ◌&&◌, ◌*◌, ◌++◌, ◌+◌, ◌<◌, ◌==◌, ◌∷◌, ◌≡◌, ◌≤◌, ◌||◌}
use Rattle.std.proofs.Common.{ap, append_assoc, arith, length-append, subst, sym, ◌∙◌}
use Rattle.std.proofs.lemmas.Bool.{and_from, and_parts, both_ways, cond-true, eqb-true, le-leb, leb-true, le-ltb, lt-ltb, not_from_false, or_from}
use Rattle.std.proofs.lemmas.Fmt.{digits_decimal, length-decimal-le}
use Rattle.std.proofs.lemmas.List.{append-nil, take_all}
use Rattle.std.proofs.lemmas.List.Elements.{All-from_recursion}
use Rattle.std.proofs.lemmas.List.Splits.{slice_split_at, slice_split_none}
use Rattle.std.proofs.lemmas.List.Sums.{position_or_len_is, sum_by-append, sum_by-cons}
use Rattle.std.proofs.lemmas.Map.Keys.{IsDistinct-head, IsDistinct-tail, apart_from_distinct}
use Rattle.std.proofs.lemmas.Slice.Eq.{bytes_eq-Decides}
use Rattle.ol_values.specs.Config.{Config, SpaceConfig, area_pages, begins_small, config_text, is_digit, is_name, is_small_letter, number_words, space_at, space_line, space_named, unnamed}
use Rattle.ol_chunks.specs.Limits.{AreInLimits, AreSpaces, IsConfig, IsSpace, chunk_count, first_chunk, names_of, reserved_pages}
use Rattle.ol_chunks.specs.Reading.{Reading, after_line, before_read, config_from, config_in_text, has_pages, has_place_left, has_room, is_new_name, line_then, lines_in_text, logs_read, numbers_in_words, nothing_read, physical_read, space_read, with_logs, with_physical, with_space_read, words_of, words_read}
use Rattle.ol_chunks.specs.declared.draft.Due.TheVariants.{Before, Logs, Nothing, Spaces}
use Rattle.ol_chunks.proofs.Chunks.{space_is}
use Rattle.ol_words.proofs.Decimals.{own}
use Rattle.ol_chunks.proofs.Numbers.{numbers_again}
use Rattle.ol_chunks.proofs.Readings.{bytes_eq_equiv}
use Rattle.ol_chunks.proofs.TextLaws.{line_from, lines_cons, logs_text, limit_text, physical_text, spaces_text, whole_text}

-- ---- bytes that a name and a number lack

-- no byte of these is this one
abbrev pub Lacks : ℕ → List ℕ → Type 0
Lacks s bytes = AllByRecursion (λ b. (b == s) ≡ false) bytes

lacks-append : (s : ℕ) (xs ys : List ℕ) → Lacks s xs → Lacks s ys → Lacks s (xs ++ ys)
lacks-append s [] ys h k = k
lacks-append s (x ∷ xs) ys h k = (h.0, lacks-append s xs ys h.1 k)

not_by : (p : ℕ → Bool) (s b : ℕ) → p s ≡ false → p b ≡ true → (b == s) ≡ false
not_by p s b misses hits = go (b == s) refl
  where
    go : (u : Bool) → (b == s) ≡ u → u ≡ false
    go true at = absurd (both_ways (p s) misses (ap p (sym (eqb-true b s at)) ∙ hits))
    go false at = refl

lacks_by : (p : ℕ → Bool) (s : ℕ) → p s ≡ false → (bytes : List ℕ) → list_all p bytes ≡ true → Lacks s bytes
lacks_by p s misses [] h = tt
lacks_by p s misses (b ∷ bytes) h =
    let q = and_parts (p b) (list_all p bytes) h in
    (not_by p s b misses q.0, lacks_by p s misses bytes q.1)

-- a byte of a name
abbrev is_name_byte : ℕ → Bool
is_name_byte b = is_small_letter b || is_digit b

letters : (name : List ℕ) → is_name name ≡ true → list_all is_name_byte name ≡ true
letters name h =
    (and_parts (nat_le (length name) 8) (list_all is_name_byte name) (and_parts (begins_small name) (nat_le (length name) 8 && list_all is_name_byte name) h).1).1

lacks_number : (s n : ℕ) → is_ascii_digit s ≡ false → n ≤ 65535 → Lacks s (decimal n)
lacks_number s n misses le = lacks_by is_ascii_digit s misses (decimal n) (digits_decimal own n (omega arith))

lacks_numbers : (numbers : List ℕ) → AreInLimits numbers → Lacks 10 (number_words numbers)
lacks_numbers [] h = tt
lacks_numbers (n ∷ numbers) h = (refl, lacks-append 10 (decimal n) (number_words numbers) (lacks_number 10 n refl h.0.1) (lacks_numbers numbers h.1))

-- ---- words and lines again

words_again : (word numbers : List ℕ) → Lacks 32 word → AreInLimits numbers → words_of (word ++ number_words numbers) ≡ word ∷ map decimal numbers
words_again word [] lacks h = ap words_of (append-nil word) ∙ slice_split_none (λ b. b == 32) word (All-from_recursion (λ b. (b == 32) ≡ false) word lacks)
words_again word (n ∷ numbers) lacks h =
    slice_split_at (λ b. b == 32) word 32 (decimal n ++ number_words numbers) (All-from_recursion (λ b. (b == 32) ≡ false) word lacks) refl
    ∙ ap (λ (l : List (List ℕ)). word ∷ l) (words_again (decimal n) numbers (lacks_number 32 n refl h.0.1) h.1)

line_again : (k : ℕ) (r next : Reading) (line text : List ℕ) (c : Config) → Lacks 10 line → after_line r line ≡ Some next → config_from false (k + 1) next (lines_in_text text) ≡ Ok c
    → config_from false k r (lines_in_text (line ++ 10 ∷ text)) ≡ Ok c
line_again k r next line text c lacks e then_read =
    ap (config_from false k r) (slice_split_at (λ b. b == 10) line 10 text (All-from_recursion (λ b. (b == 10) ≡ false) line lacks) refl)
    ∙ line_from false k r line (lines_in_text text) (lines_cons text)
    ∙ ap (λ o. line_then k o (λ read. config_from false (k + 1) read (lines_in_text text))) e
    ∙ then_read

-- ---- names again

among : (P : List ℕ → Type 0) (spaces : List SpaceConfig) (s : SpaceConfig) (rest : List SpaceConfig) → AllByRecursion P (names_of (spaces ++ s ∷ rest)) → P s.name
among P [] s rest h = h.0
among P (t ∷ spaces) s rest h = among P spaces s rest h.1

unused : (spaces : List SpaceConfig) (s : SpaceConfig) (rest : List SpaceConfig) → IsDistinct bytes_eq (names_of (spaces ++ s ∷ rest)) → list_any (λ (t : SpaceConfig). bytes_eq s.name t.name) spaces ≡ false
unused [] s rest d = refl
unused (t ∷ spaces) s rest d =
    let P : List ℕ → Type 0 = λ y. bytes_eq t.name y ≡ false in
    let apart : bytes_eq t.name s.name ≡ false = among P spaces s rest (IsDistinct-head bytes_eq t.name (names_of (spaces ++ s ∷ rest)) d) in
    or_from (bytes_eq s.name t.name) (list_any (λ (u : SpaceConfig). bytes_eq s.name u.name) spaces) (bytes_eq_equiv.symm s.name t.name ∙ apart)
    (unused spaces s rest (IsDistinct-tail bytes_eq t.name (names_of (spaces ++ s ∷ rest)) d))

names_at : (spaces : List SpaceConfig) (i : ℕ) → get_or (names_of spaces) i [] ≡ (get_or spaces i unnamed).name
names_at [] i = refl
names_at (s ∷ spaces) zero = refl
names_at (s ∷ spaces) (suc i) = names_at spaces i

length-names : (spaces : List SpaceConfig) → length (names_of spaces) ≡ length spaces
length-names [] = refl
length-names (s ∷ spaces) = ap suc (length-names spaces)

named_again : (c : Config) (space : ℕ) → IsDistinct bytes_eq (names_of c.spaces) → space < length c.spaces → space_named c (space_at c space).name ≡ Some space
named_again c space d there =
    let p : SpaceConfig → Bool = λ s. bytes_eq s.name (space_at c space).name in
    let first : position_or_len p c.spaces ≡ space =
    position_or_len_is p c.spaces space unnamed (omega arith)
    (λ k lt. sym (ap (λ n. bytes_eq n (space_at c space).name) (names_at c.spaces k)) ∙ ap (λ n. bytes_eq (get_or (names_of c.spaces) k []) n) (sym (names_at c.spaces space))
    ∙ apart_from_distinct bytes_eq (names_of c.spaces) k space [] d lt (omega (arith, length-names c.spaces)))
    (λ lt. bytes_eq_equiv.refl (space_at c space).name) in
    ap (λ n. cond (nat_lt n (length c.spaces)) (Some n) None) first ∙ cond-true _ _ _ (lt-ltb space (length c.spaces) there)

-- ---- space lines again

abbrev spaces_in : Config → List SpaceConfig → Config
spaces_in c more = record {
  spaces = c.spaces ++ more;
  physical_space = c.physical_space;
  physical_entries = c.physical_entries;
  log_space = c.log_space;
  log_files = c.log_files;
  log_file_pages = c.log_file_pages;
  image_limit = c.image_limit;
}

-- spaces that may follow those that were read
record Follow (c : Config) (more : List SpaceConfig) : Type 0 where
  spaces : AreSpaces (length c.spaces) more
  distinct : IsDistinct bytes_eq (names_of (c.spaces ++ more))
  few : length c.spaces + length more ≤ 16
  chunks : chunk_count c.spaces + chunk_count more ≤ 31
  room : (i : ℕ) → i < length more → reserved_pages (length c.spaces + i) < first_chunk (get_or more i unnamed)

root_again : (u : Bool) (name : List ℕ) → (u ≡ true → name ≡ codes "root") → (not u || bytes_eq name (codes "root")) ≡ true
root_again true name h = (bytes_eq-Decides name (codes "root")).1 (h refl)
root_again false name h = refl

space_fits : (c : Config) (s : SpaceConfig) (more : List SpaceConfig) → Follow c (s ∷ more)
    → (has_place_left c.spaces (length s.chunks) && (is_new_name c.spaces s.name && has_pages (length c.spaces) s.chunks)) ≡ true
space_fits c s more f =
    let is = f.spaces.0 in
    let first : reserved_pages (length c.spaces) < first_chunk s = subst (λ n. reserved_pages n < first_chunk s) (let e : length c.spaces + 0 ≡ length c.spaces = omega arith in e) (f.room 0 (omega arith)) in
    let count : chunk_count c.spaces + length s.chunks ≤ 31 = omega (arith, f.chunks, sum_by-cons (λ (t : SpaceConfig). length t.chunks) s more) in
    and_from (has_place_left c.spaces (length s.chunks)) (is_new_name c.spaces s.name && has_pages (length c.spaces) s.chunks)
    (and_from (nat_lt (length c.spaces) 16) (nat_le (chunk_count c.spaces + length s.chunks) 31) (lt-ltb (length c.spaces) 16 (omega (arith, f.few))) (le-leb (chunk_count c.spaces + length s.chunks) 31 count))
    (and_from (is_new_name c.spaces s.name) (has_pages (length c.spaces) s.chunks)
    (and_from (is_name s.name) ((not (length c.spaces == 0) || bytes_eq s.name (codes "root")) && not (list_any (λ (t : SpaceConfig). bytes_eq s.name t.name) c.spaces)) is.name
    (and_from (not (length c.spaces == 0) || bytes_eq s.name (codes "root")) (not (list_any (λ (t : SpaceConfig). bytes_eq s.name t.name) c.spaces))
    (root_again (length c.spaces == 0) s.name (λ e. is.root (eqb-true (length c.spaces) 0 e)))
    (not_from_false (list_any (λ (t : SpaceConfig). bytes_eq s.name t.name) c.spaces) (unused c.spaces s more f.distinct))))
    (and_from (nat_lt (reserved_pages (length c.spaces)) (first_chunk s)) (nat_le (sum s.chunks) (65535 + reserved_pages (length c.spaces)))
    (lt-ltb (reserved_pages (length c.spaces)) (first_chunk s) first) (le-leb (sum s.chunks) (65535 + reserved_pages (length c.spaces)) is.pages)))

-- a space's line without its end
abbrev space_words : SpaceConfig → List ℕ
space_words s = codes "space " ++ s.name ++ number_words s.chunks

space_again : (c : Config) (s : SpaceConfig) (more : List SpaceConfig) → Follow c (s ∷ more)
    → after_line (record { due = Spaces; config = c }) (space_words s) ≡ Some (record { due = Spaces; config = with_space_read c s })
space_again c s more f =
    let is = f.spaces.0 in
    let words : words_of (s.name ++ number_words s.chunks) ≡ s.name ∷ map decimal s.chunks = words_again s.name s.chunks (lacks_by is_name_byte 32 refl s.name (letters s.name is.name)) is.chunks in
    ap (λ l. words_read Spaces c (codes "space" ∷ l)) words
    ∙ ap (λ o. space_read c s.name o) (numbers_again s.chunks is.chunks)
    ∙ cond-true _ _ _ (space_fits c s more f)

lacks_space : (s : SpaceConfig) (space : ℕ) → IsSpace space s → Lacks 10 (space_words s)
lacks_space s space is =
    let name : Lacks 10 (s.name ++ number_words s.chunks) = lacks-append 10 s.name (number_words s.chunks) (lacks_by is_name_byte 10 refl s.name (letters s.name is.name)) (lacks_numbers s.chunks is.chunks) in
    (refl, (refl, (refl, (refl, (refl, (refl, name))))))

follow_more : (c : Config) (s : SpaceConfig) (more : List SpaceConfig) → Follow c (s ∷ more) → Follow (with_space_read c s) more
follow_more c s more f =
    let n : length (c.spaces ++ s ∷ []) ≡ length c.spaces + 1 = length-append c.spaces (s ∷ []) in
    let P : List SpaceConfig → Type 0 = λ l. IsDistinct bytes_eq (names_of l) in
    record {
      spaces = subst (λ k. AreSpaces k more) (sym n) f.spaces.1;
      distinct = subst P (sym (append_assoc c.spaces (s ∷ []) more)) f.distinct;
      few = omega (arith, n, f.few);
      chunks = omega (arith, f.chunks, sum_by-append (λ (t : SpaceConfig). length t.chunks) c.spaces (s ∷ []), sum_by-cons (λ (t : SpaceConfig). length t.chunks) s more);
      room = λ i lt. subst (λ k. reserved_pages k < first_chunk (get_or more i unnamed)) (let e : length c.spaces + suc i ≡ length (c.spaces ++ s ∷ []) + i = omega (arith, n) in e) (f.room (suc i) (omega arith));
    }

with_none : (c : Config) → spaces_in c [] ≡ c
with_none c = ap (λ (l : List SpaceConfig). let d : Config = record { spaces = l; physical_space = c.physical_space; physical_entries = c.physical_entries; log_space = c.log_space; log_files = c.log_files; log_file_pages = c.log_file_pages; image_limit = c.image_limit } in d) (append-nil c.spaces)

with_more : (c : Config) (s : SpaceConfig) (more : List SpaceConfig) → spaces_in (with_space_read c s) more ≡ spaces_in c (s ∷ more)
with_more c s more = ap (λ (l : List SpaceConfig). let d : Config = record { spaces = l; physical_space = c.physical_space; physical_entries = c.physical_entries; log_space = c.log_space; log_files = c.log_files; log_file_pages = c.log_file_pages; image_limit = c.image_limit } in d) (append_assoc c.spaces (s ∷ []) more)

-- a text that gives a configuration behind what was read, whatever the number of its first line
abbrev Gives : Reading → List ℕ → Config → Type 0
Gives r text c = (k : ℕ) → config_from false k r (lines_in_text text) ≡ Ok c

spaces_again : (d : Config) (more : List SpaceConfig) (text : List ℕ) (c : Config) → Follow d more → Gives (record { due = Spaces; config = spaces_in d more }) text c
    → Gives (record { due = Spaces; config = d }) (flat_map space_line more ++ text) c
spaces_again d [] text c f g = λ k. subst (λ (e : Config). config_from false k (record { due = Spaces; config = e }) (lines_in_text text) ≡ Ok c) (with_none d) (g k)
spaces_again d (s ∷ more) text c f g = λ k.
    let P : Config → Type 0 = λ e. Gives (record { due = Spaces; config = e }) text c in
    let rest : Gives (record { due = Spaces; config = with_space_read d s }) (flat_map space_line more ++ text) c = spaces_again (with_space_read d s) more text c (follow_more d s more f) (subst P (sym (with_more d s more)) g) in
    let cut : (space_line s ++ flat_map space_line more) ++ text ≡ space_words s ++ (10 ∷ (flat_map space_line more ++ text)) =
    append_assoc (space_line s) (flat_map space_line more) text ∙ append_assoc (space_words s) (10 ∷ []) (flat_map space_line more ++ text) in
    ap (λ l. config_from false k (record { due = Spaces; config = d }) (lines_in_text l)) cut
    ∙ line_again k (record { due = Spaces; config = d }) (record { due = Spaces; config = with_space_read d s }) (space_words s) (flat_map space_line more ++ text) c
    (lacks_space s (length d.spaces) f.spaces.0) (space_again d s more f) (rest (k + 1))

-- ---- the other lines again

abbrev physical_words : Config → List ℕ
physical_words c = codes "physlog " ++ (space_at c c.physical_space).name ++ number_words (c.physical_entries ∷ [])

abbrev logs_words : Config → List ℕ
logs_words c = codes "logs " ++ (space_at c c.log_space).name ++ number_words (c.log_files ∷ c.log_file_pages ∷ [])

abbrev limit_words : Config → List ℕ
limit_words c = codes "before" ++ number_words (c.image_limit ∷ [])

-- what is read of a configuration behind its spaces, its physical log, and its log files
abbrev with_spaces : Config → Config
with_spaces c = spaces_in nothing_read.config c.spaces

abbrev to_physical : Config → Config
to_physical c = with_physical (with_spaces c) c.physical_space c.physical_entries

abbrev to_logs : Config → Config
to_logs c = with_logs (to_physical c) c.log_space c.log_files c.log_file_pages

name_at : (c : Config) → IsConfig c → (space : ℕ) → space < length c.spaces → is_name (space_at c space).name ≡ true
name_at c is space there = (space_is 0 c.spaces space is.spaces there).name

nothing_in : (u : Bool) (n : ℕ) → n ≡ 0 → cond u n 0 ≡ 0
nothing_in true n e = e
nothing_in false n e = refl

physical_again : (c : Config) → IsConfig c → after_line (record { due = Spaces; config = with_spaces c }) (physical_words c) ≡ Some (record { due = Logs; config = to_physical c })
physical_again c is =
    let name = (space_at c c.physical_space).name in
    let good = name_at c is c.physical_space is.physical_space in
    let limits : AreInLimits (c.physical_entries ∷ []) = ((is.physical_entries.0, omega (arith, is.physical_entries.1)), tt) in
    let words : words_of (name ++ number_words (c.physical_entries ∷ [])) ≡ name ∷ map decimal (c.physical_entries ∷ []) =
    words_again name (c.physical_entries ∷ []) (lacks_by is_name_byte 32 refl name (letters name good)) limits in
    let fits : area_pages (to_physical c) c.physical_space < first_chunk (space_at c c.physical_space) =
    omega (arith, is.room c.physical_space is.physical_space, nothing_in (c.physical_space == 0) 0 refl) in
    ap (λ l. words_read Spaces (with_spaces c) (codes "physlog" ∷ l)) words
    ∙ ap (λ o. physical_read (with_spaces c) o (numbers_in_words (map decimal (c.physical_entries ∷ [])))) (named_again c c.physical_space is.distinct is.physical_space)
    ∙ ap (λ o. physical_read (with_spaces c) (Some c.physical_space) o) (numbers_again (c.physical_entries ∷ []) limits)
    ∙ cond-true _ _ _ (and_from (nat_le c.physical_entries 4096) (has_room (to_physical c) c.physical_space) (le-leb c.physical_entries 4096 is.physical_entries.1)
    (lt-ltb (area_pages (to_physical c) c.physical_space) (first_chunk (space_at c c.physical_space)) fits))

logs_again : (c : Config) → IsConfig c → after_line (record { due = Logs; config = to_physical c }) (logs_words c) ≡ Some (record { due = Before; config = to_logs c })
logs_again c is =
    let name = (space_at c c.log_space).name in
    let good = name_at c is c.log_space is.log_space in
    let numbers : List ℕ = c.log_files ∷ c.log_file_pages ∷ [] in
    let limits : AreInLimits numbers =
    ((omega (arith, is.log_files.0), omega (arith, is.log_files.1)), ((omega (arith, is.log_file_pages.0), omega (arith, is.log_file_pages.1)), tt)) in
    let words : words_of (name ++ number_words numbers) ≡ name ∷ map decimal numbers = words_again name numbers (lacks_by is_name_byte 32 refl name (letters name good)) limits in
    ap (λ l. words_read Logs (to_physical c) (codes "logs" ∷ l)) words
    ∙ ap (λ o. logs_read (to_physical c) o (numbers_in_words (map decimal numbers))) (named_again c c.log_space is.distinct is.log_space)
    ∙ ap (λ o. logs_read (to_physical c) (Some c.log_space) o) (numbers_again numbers limits)
    ∙ cond-true _ _ _ (and_from (nat_le 3 c.log_files && nat_le c.log_files 64) ((nat_le 4 c.log_file_pages && nat_le c.log_file_pages 1000) && has_room (to_logs c) c.log_space)
    (and_from (nat_le 3 c.log_files) (nat_le c.log_files 64) (le-leb 3 c.log_files is.log_files.0) (le-leb c.log_files 64 is.log_files.1))
    (and_from (nat_le 4 c.log_file_pages && nat_le c.log_file_pages 1000) (has_room (to_logs c) c.log_space)
    (and_from (nat_le 4 c.log_file_pages) (nat_le c.log_file_pages 1000) (le-leb 4 c.log_file_pages is.log_file_pages.0) (le-leb c.log_file_pages 1000 is.log_file_pages.1))
    (lt-ltb (area_pages c c.log_space) (first_chunk (space_at c c.log_space)) (is.room c.log_space is.log_space))))

limit_again : (c : Config) → IsConfig c → after_line (record { due = Before; config = to_logs c }) (limit_words c) ≡ Some (record { due = Nothing; config = c })
limit_again c is =
    let limits : AreInLimits (c.image_limit ∷ []) = ((is.image_limit.0, omega (arith, is.image_limit.1)), tt) in
    let words : words_of (limit_words c) ≡ codes "before" ∷ map decimal (c.image_limit ∷ []) = words_again (codes "before") (c.image_limit ∷ []) (refl, (refl, (refl, (refl, (refl, (refl, tt)))))) limits in
    ap (λ l. words_read Before (to_logs c) l) words
    ∙ ap (λ o. before_read (to_logs c) o) (numbers_again (c.image_limit ∷ []) limits)
    ∙ cond-true _ _ _ (le-leb c.image_limit 4096 is.image_limit.1)

first_follow : (c : Config) → IsConfig c → Follow nothing_read.config c.spaces
first_follow c is = record {
  spaces = is.spaces;
  distinct = is.distinct;
  few = omega (arith, is.few);
  chunks = omega (arith, is.chunks);
  room = λ i lt. let e : 0 + i ≡ i = omega arith in omega (arith, is.room i lt, ap reserved_pages e);
}

lacks_named : (name : List ℕ) (numbers : List ℕ) → is_name name ≡ true → AreInLimits numbers → Lacks 10 (name ++ number_words numbers)
lacks_named name numbers good limits = lacks-append 10 name (number_words numbers) (lacks_by is_name_byte 10 refl name (letters name good)) (lacks_numbers numbers limits)

line_ends : (s p l b e : List ℕ) → ((s ++ (p ++ e)) ++ (l ++ e)) ++ (b ++ e) ≡ s ++ (p ++ (e ++ (l ++ (e ++ (b ++ e)))))
line_ends s p l b e = simp append_assoc

lines_again : (c : Config) → IsConfig c → Gives nothing_read (spaces_text c ++ (physical_words c ++ (10 ∷ (logs_words c ++ (10 ∷ (limit_words c ++ 10 ∷ [])))))) c
lines_again c is =
    let entries : AreInLimits (c.physical_entries ∷ []) = ((is.physical_entries.0, omega (arith, is.physical_entries.1)), tt) in
    let files : AreInLimits (c.log_files ∷ c.log_file_pages ∷ []) =
    ((omega (arith, is.log_files.0), omega (arith, is.log_files.1)), ((omega (arith, is.log_file_pages.0), omega (arith, is.log_file_pages.1)), tt)) in
    let limit : AreInLimits (c.image_limit ∷ []) = ((is.image_limit.0, omega (arith, is.image_limit.1)), tt) in
    let last : Gives (record { due = Nothing; config = c }) [] c = λ k. refl in
    let before : Gives (record { due = Before; config = to_logs c }) (limit_words c ++ 10 ∷ []) c = λ k.
    line_again k _ _ (limit_words c) [] c (refl, (refl, (refl, (refl, (refl, (refl, lacks_numbers (c.image_limit ∷ []) limit)))))) (limit_again c is) (last (k + 1)) in
    let logs : Gives (record { due = Logs; config = to_physical c }) (logs_words c ++ (10 ∷ (limit_words c ++ 10 ∷ []))) c = λ k.
    line_again k _ _ (logs_words c) (limit_words c ++ 10 ∷ []) c
    (refl, (refl, (refl, (refl, (refl, lacks_named (space_at c c.log_space).name (c.log_files ∷ c.log_file_pages ∷ []) (name_at c is c.log_space is.log_space) files))))) (logs_again c is) (before (k + 1)) in
    let physical : Gives (record { due = Spaces; config = with_spaces c }) (physical_words c ++ (10 ∷ (logs_words c ++ (10 ∷ (limit_words c ++ 10 ∷ []))))) c = λ k.
    line_again k _ _ (physical_words c) (logs_words c ++ (10 ∷ (limit_words c ++ 10 ∷ []))) c
    (refl, (refl, (refl, (refl, (refl, (refl, (refl, (refl, lacks_named (space_at c c.physical_space).name (c.physical_entries ∷ []) (name_at c is c.physical_space is.physical_space) entries))))))))
    (physical_again c is) (logs (k + 1)) in
    spaces_again nothing_read.config c.spaces _ c (first_follow c is) physical

-- ---- the length of a text

length-numbers : (numbers : List ℕ) → AreInLimits numbers → length (number_words numbers) ≤ 6 * length numbers
length-numbers [] h = omega arith
length-numbers (n ∷ numbers) h =
    omega (arith, length-append (decimal n) (number_words numbers), length-decimal-le 5 n (omega arith) (omega (arith, h.0.1)) (omega (arith, h.0.1)), length-numbers numbers h.1)

length-name : (name : List ℕ) → is_name name ≡ true → length name ≤ 8
length-name name h =
    leb-true (length name) 8 (and_parts (nat_le (length name) 8) (list_all is_name_byte name) (and_parts (begins_small name) (nat_le (length name) 8 && list_all is_name_byte name) h).1).0

length-named : (name numbers : List ℕ) → is_name name ≡ true → AreInLimits numbers → length ((name ++ number_words numbers) ++ 10 ∷ []) ≤ 9 + 6 * length numbers
length-named name numbers good limits =
    omega (arith, length-append (name ++ number_words numbers) (10 ∷ []), length-append name (number_words numbers), length-name name good, length-numbers numbers limits)

length-spaces : (space : ℕ) (spaces : List SpaceConfig) → AreSpaces space spaces → length (flat_map space_line spaces) ≤ 15 * length spaces + 6 * chunk_count spaces
length-spaces space [] h = omega arith
length-spaces space (s ∷ spaces) h =
    omega (
      arith,
      length-append (space_line s) (flat_map space_line spaces),
      length-named s.name s.chunks h.0.name h.0.chunks,
      length-spaces (space + 1) spaces h.1,
      sum_by-cons (λ (t : SpaceConfig). length t.chunks) s spaces,
    )

pub length-text : (c : Config) → IsConfig c → length (config_text c) ≤ 488
length-text c is =
    let entries : AreInLimits (c.physical_entries ∷ []) = ((is.physical_entries.0, omega (arith, is.physical_entries.1)), tt) in
    let files : AreInLimits (c.log_files ∷ c.log_file_pages ∷ []) =
    ((omega (arith, is.log_files.0), omega (arith, is.log_files.1)), ((omega (arith, is.log_file_pages.0), omega (arith, is.log_file_pages.1)), tt)) in
    let limit : AreInLimits (c.image_limit ∷ []) = ((is.image_limit.0, omega (arith, is.image_limit.1)), tt) in
    let physical = length-named (space_at c c.physical_space).name (c.physical_entries ∷ []) (name_at c is c.physical_space is.physical_space) entries in
    let logs = length-named (space_at c c.log_space).name (c.log_files ∷ c.log_file_pages ∷ []) (name_at c is c.log_space is.log_space) files in
    let last : length (number_words (c.image_limit ∷ []) ++ 10 ∷ []) ≤ 7 = omega (arith, length-append (number_words (c.image_limit ∷ [])) (10 ∷ []), length-numbers (c.image_limit ∷ []) limit) in
    omega (
      arith,
      ap (λ (l : List ℕ). length l) (whole_text c),
      length-append ((spaces_text c ++ physical_text c) ++ logs_text c) (limit_text c),
      length-append (spaces_text c ++ physical_text c) (logs_text c),
      length-append (spaces_text c) (physical_text c),
      length-spaces 0 c.spaces is.spaces,
      is.few,
      is.chunks,
    )

pub read_again : (c : Config) → IsConfig c → config_in_text (config_text c) ≡ Ok c
read_again c is =
    let limit : length (config_text c) ≤ 1024 = omega (arith, length-text c is) in
    let text : spaces_text c ++ (physical_words c ++ (10 ∷ (logs_words c ++ (10 ∷ (limit_words c ++ 10 ∷ []))))) ≡ config_text c =
    sym (line_ends (spaces_text c) (physical_words c) (logs_words c) (limit_words c) (10 ∷ [])) ∙ whole_text c in
    ap (λ u. config_from u 1 nothing_read (lines_in_text (take 1024 (config_text c)))) (le-ltb 1024 (length (config_text c)) limit)
    ∙ ap (λ l. config_from false 1 nothing_read (lines_in_text l)) (take_all 1024 (config_text c) limit ∙ sym text)
    ∙ lines_again c is 1
