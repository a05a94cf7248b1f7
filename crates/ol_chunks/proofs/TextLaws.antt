-- What was read is the text that it was read from.
use Rattle.std.specs.Fmt.{decimal}
use Rattle.std.specs.List.{flat_map, join_with_byte, onto_first}
use Rattle.std.specs.Prelude.{Bool, Err, List, None, Ok, Option, Result, Some, [], codes, cond, false, if◌then◌else◌, length, map, min, nat_lt, refl, take, true, ℕ, ◌++◌, ◌+◌, ◌==◌, ◌∷◌, ◌≡◌, ◌≤◌, ◌<◌}
use Rattle.std.proofs.Common.{ap, append_assoc, arith, inl, inr, length-take, subst, sym, ◌∙◌}
use Rattle.std.proofs.lemmas.Bool.{le-ltb, ltb-false}
use Rattle.std.proofs.lemmas.Grind.{flat_map-append}
use Rattle.std.proofs.lemmas.List.{append-nil, take_all, take_min}
use Rattle.std.proofs.lemmas.List.Splits.{join_with_byte-slice_split}
use Rattle.ol_values.specs.Config.{Config, SpaceConfig, config_text, number_words, space_at, space_line}
use Rattle.ol_chunks.specs.Limits.{IsConfig}
use Rattle.ol_chunks.specs.Reading.{Reading, after_line, config_from, config_in_text, line_then, lines_in_text, may_end, nothing_read, numbers_in_words, words_of}
use Rattle.ol_chunks.specs.declared.draft.Due.{Due}
use Rattle.ol_chunks.specs.declared.draft.Due.TheVariants.{Before, Logs, Nothing, Spaces}
use Rattle.ol_chunks.proofs.LineLaws.{BeforeLine, Gives, LogsLine, PhysicalLine, SpaceLine, gives}
use Rattle.ol_chunks.proofs.Numbers.{numbers_are}
use Rattle.ol_chunks.proofs.Readings.{IsRead, named, nothing_is_read, read_config, read_keeps}

abbrev pub spaces_text : Config → List ℕ
spaces_text c = flat_map space_line c.spaces

abbrev pub physical_text : Config → List ℕ
physical_text c = codes "physlog " ++ (space_at c c.physical_space).name ++ number_words (c.physical_entries ∷ []) ++ (10 ∷ [])

abbrev pub logs_text : Config → List ℕ
logs_text c = codes "logs " ++ (space_at c c.log_space).name ++ number_words (c.log_files ∷ c.log_file_pages ∷ []) ++ (10 ∷ [])

abbrev pub limit_text : Config → List ℕ
limit_text c = codes "before" ++ number_words (c.image_limit ∷ []) ++ (10 ∷ [])

-- the text of what was read
abbrev pub read_text : Due → Config → List ℕ
read_text Spaces c = spaces_text c
read_text Logs c = spaces_text c ++ physical_text c
read_text Before c = (spaces_text c ++ physical_text c) ++ logs_text c
read_text Nothing c = ((spaces_text c ++ physical_text c) ++ logs_text c) ++ limit_text c

-- ---- one line

-- a word and numbers, with one blank between two
pub joined : (word : List ℕ) (numbers : List ℕ) → join_with_byte 32 (word ∷ map decimal numbers) ≡ word ++ number_words numbers
joined word [] = sym (append-nil word)
joined word (n ∷ numbers) = ap (λ (l : List ℕ). word ++ (32 ∷ l)) (joined (decimal n) numbers)

line_is : (line : List ℕ) (words : List (List ℕ)) → words_of line ≡ words → line ≡ join_with_byte 32 words
line_is line words e = sym (join_with_byte-slice_split 32 line) ∙ ap (join_with_byte 32) e

-- a line of two words and numbers, with its end
named_line : (line word name : List ℕ) (words : List (List ℕ)) (numbers : List ℕ) → words_of line ≡ word ∷ name ∷ words → numbers_in_words words ≡ Some numbers
    → line ++ 10 ∷ [] ≡ word ++ (32 ∷ ((name ++ number_words numbers) ++ 10 ∷ []))
named_line line word name words numbers e is =
    let t : words ≡ map decimal numbers = (numbers_are words numbers is).text in
    ap (λ (l : List ℕ). l ++ 10 ∷ []) (line_is line (word ∷ name ∷ words) e ∙ ap (λ l. word ++ (32 ∷ join_with_byte 32 (name ∷ l))) t ∙ ap (λ l. word ++ (32 ∷ l)) (joined name numbers))
    ∙ append_assoc word (32 ∷ (name ++ number_words numbers)) (10 ∷ [])

limit_line : (line word : List ℕ) (words : List (List ℕ)) (numbers : List ℕ) → words_of line ≡ word ∷ words → numbers_in_words words ≡ Some numbers
    → line ++ 10 ∷ [] ≡ word ++ (number_words numbers ++ 10 ∷ [])
limit_line line word words numbers e is =
    let t : words ≡ map decimal numbers = (numbers_are words numbers is).text in
    ap (λ (l : List ℕ). l ++ 10 ∷ []) (line_is line (word ∷ words) e ∙ ap (λ l. join_with_byte 32 (word ∷ l)) t ∙ joined word numbers)
    ∙ append_assoc word (number_words numbers) (10 ∷ [])

-- what a line adds
abbrev Adds : Due → Config → List ℕ → Reading → Type 0
Adds due c line r = read_text r.due r.config ≡ read_text due c ++ (line ++ 10 ∷ [])

adds_space : (c : Config) (line : List ℕ) (r : Reading) → SpaceLine c (words_of line) r → Adds Spaces c line r
adds_space c line r l =
    let s : SpaceConfig = record { name = l.name; chunks = l.chunks } in
    let is : space_line s ++ [] ≡ line ++ 10 ∷ [] = append-nil (space_line s) ∙ sym (named_line line (codes "space") l.name l.numbers l.chunks l.words_are l.chunks_are) in
    let P : Reading → Type 0 = λ q. Adds Spaces c line q in
    subst P (sym l.gives) (flat_map-append space_line c.spaces (s ∷ []) ∙ ap (λ (t : List ℕ). spaces_text c ++ t) is)

adds_physical : (c : Config) (line : List ℕ) (r : Reading) → PhysicalLine c (words_of line) r → Adds Spaces c line r
adds_physical c line r l =
    let e = named_line line (codes "physlog") l.name l.numbers (l.entries ∷ []) l.words_are l.numbers_are in
    let P : Reading → Type 0 = λ q. Adds Spaces c line q in
    subst P (sym l.gives)
    (ap (λ (name : List ℕ). spaces_text c ++ (codes "physlog " ++ ((name ++ number_words (l.entries ∷ [])) ++ 10 ∷ []))) (named c l.name l.space l.space_is).name_is
    ∙ ap (λ (t : List ℕ). spaces_text c ++ t) (sym e))

adds_logs : (c : Config) (line : List ℕ) (r : Reading) → LogsLine c (words_of line) r → Adds Logs c line r
adds_logs c line r l =
    let e = named_line line (codes "logs") l.name l.numbers (l.files ∷ l.pages ∷ []) l.words_are l.numbers_are in
    let P : Reading → Type 0 = λ q. Adds Logs c line q in
    subst P (sym l.gives)
    (ap (λ (name : List ℕ). (spaces_text c ++ physical_text c) ++ (codes "logs " ++ ((name ++ number_words (l.files ∷ l.pages ∷ [])) ++ 10 ∷ []))) (named c l.name l.space l.space_is).name_is
    ∙ ap (λ (t : List ℕ). (spaces_text c ++ physical_text c) ++ t) (sym e))

adds_before : (c : Config) (line : List ℕ) (r : Reading) → BeforeLine c (words_of line) r → Adds Before c line r
adds_before c line r l =
    let e = limit_line line (codes "before") l.numbers (l.limit ∷ []) l.words_are l.numbers_are in
    let P : Reading → Type 0 = λ q. Adds Before c line q in
    subst P (sym l.gives) (ap (λ (t : List ℕ). ((spaces_text c ++ physical_text c) ++ logs_text c) ++ t) (sym e))

adds : (due : Due) (c : Config) (line : List ℕ) (r : Reading) → Gives due c (words_of line) r → Adds due c line r
adds Spaces c line r (inl l) = adds_space c line r l
adds Spaces c line r (inr l) = adds_physical c line r l
adds Logs c line r l = adds_logs c line r l
adds Before c line r l = adds_before c line r l
adds Nothing c line r l = absurd l

-- ---- all lines

pub record IsTextOf (more : Bool) (text : List ℕ) (c : Config) : Type 0 where
  pub config : IsConfig c
  pub text_is : text ≡ read_text Nothing c
  pub whole : more ≡ false

ends : (more : Bool) (k : ℕ) (due : Due) (d c : Config) (piece : List ℕ) → IsRead (record { due = due; config = d }) → (if may_end more due piece then Ok d else Err k) ≡ Ok c
    → IsTextOf more (read_text due d ++ piece) c
ends true k Nothing d c [] r e = cc
ends false k Nothing d c [] r e =
    let is : d ≡ c = cc in
    subst (λ (q : Config). IsTextOf false (read_text Nothing d ++ []) q) is (record { config = read_config d r; text_is = append-nil (read_text Nothing d); whole = refl })
ends more k Nothing d c (b ∷ piece) r e = cc
ends more k Spaces d c piece r e = cc
ends more k Logs d c piece r e = cc
ends more k Before d c piece r e = cc

goes_on : (more : Bool) (k : ℕ) (r : Reading) (line rest : List ℕ) (c : Config) (o : Option Reading) (f : Reading → Result Config ℕ) → after_line r line ≡ o → IsRead r
    → ((next : Reading) → IsRead next → f next ≡ Ok c → IsTextOf more (read_text next.due next.config ++ rest) c)
    → line_then k o f ≡ Ok c → IsTextOf more (read_text r.due r.config ++ (line ++ (10 ∷ rest))) c
goes_on more k r line rest c None f a is rest_is e = cc
goes_on more k r line rest c (Some next) f a is rest_is e =
    let t : IsTextOf more (read_text next.due next.config ++ rest) c = rest_is next (read_keeps r next line is a) e in
    let more_text : read_text next.due next.config ≡ read_text r.due r.config ++ (line ++ 10 ∷ []) = adds r.due r.config line next (gives r.due r.config (words_of line) next a) in
    let same : read_text next.due next.config ++ rest ≡ read_text r.due r.config ++ (line ++ (10 ∷ rest)) =
    ap (λ (l : List ℕ). l ++ rest) more_text ∙ append_assoc (read_text r.due r.config) (line ++ 10 ∷ []) rest ∙ ap (λ (l : List ℕ). read_text r.due r.config ++ l) (append_assoc line (10 ∷ []) rest) in
    subst (λ (l : List ℕ). IsTextOf more l c) same t

read_back : (more : Bool) (k : ℕ) (r : Reading) (pieces : List (List ℕ)) (c : Config) → IsRead r → config_from more k r pieces ≡ Ok c
    → IsTextOf more (read_text r.due r.config ++ join_with_byte 10 pieces) c
read_back more k r [] c is e = cc
read_back more k r (piece ∷ []) c is e = ends more k r.due r.config c piece is e
read_back more k r (line ∷ next ∷ lines) c is e =
    goes_on more k r line (join_with_byte 10 (next ∷ lines)) c (after_line r line) (λ read. config_from more (k + 1) read (next ∷ lines)) refl is
    (λ read is_read f. read_back more (k + 1) read (next ∷ lines) c is_read f) e

regrouped : (s p pn pw l ln lw b bw e : List ℕ) → ((s ++ (((p ++ pn) ++ pw) ++ e)) ++ (((l ++ ln) ++ lw) ++ e)) ++ ((b ++ bw) ++ e)
    ≡ ((((((((((s ++ p) ++ pn) ++ pw) ++ e) ++ l) ++ ln) ++ lw) ++ e) ++ b) ++ bw) ++ e
regrouped s p pn pw l ln lw b bw e = simp append_assoc

pub whole_text : (c : Config) → read_text Nothing c ≡ config_text c
unfolding config_text
whole_text c =
    regrouped (spaces_text c) (codes "physlog ") (space_at c c.physical_space).name (number_words (c.physical_entries ∷ [])) (codes "logs ") (space_at c c.log_space).name
    (number_words (c.log_files ∷ c.log_file_pages ∷ [])) (codes "before") (number_words (c.image_limit ∷ [])) (10 ∷ [])

pub record IsTextRead (text : List ℕ) (c : Config) : Type 0 where
  pub config : IsConfig c
  pub text_is : text ≡ config_text c
  pub limit : length text ≤ 1024

-- the text that gives a configuration is its own text
pub text_of_read : (text : List ℕ) (c : Config) → config_in_text text ≡ Ok c → IsTextRead text c
text_of_read text c e =
    let t = read_back (nat_lt 1024 (length text)) 1 nothing_read (lines_in_text (take 1024 text)) c nothing_is_read e in
    let le : length text ≤ 1024 = ltb-false 1024 (length text) t.whole in
    let all : join_with_byte 10 (lines_in_text (take 1024 text)) ≡ text = join_with_byte-slice_split 10 (take 1024 text) ∙ take_all 1024 text le in
    record { config = t.config; text_is = sym all ∙ t.text_is ∙ whole_text c; limit = le }

-- ---- where a reader stands

abbrev pub IsCons : List (List ℕ) → Type 0
IsCons [] = ⊥
IsCons (piece ∷ pieces) = Unit {0}

onto_first-cons : (b : ℕ) (pieces : List (List ℕ)) → IsCons (onto_first b pieces)
onto_first-cons b [] = tt
onto_first-cons b (piece ∷ pieces) = tt

pub lines_cons : (text : List ℕ) → IsCons (lines_in_text text)
lines_cons [] = tt
lines_cons (b ∷ text) = go (b == 10)
  where
    go : (u : Bool) → IsCons (cond u ([] ∷ lines_in_text text) (onto_first b (lines_in_text text)))
    go true = tt
    go false = onto_first-cons b (lines_in_text text)

pub line_from : (more : Bool) (k : ℕ) (r : Reading) (line : List ℕ) (lines : List (List ℕ)) → IsCons lines
    → config_from more k r (line ∷ lines) ≡ line_then k (after_line r line) (λ read. config_from more (k + 1) read lines)
line_from more k r line [] c = absurd c
line_from more k r line (next ∷ lines) c = refl

-- of a text this was read, and this is left
pub record IsLeft (text : List ℕ) (k : ℕ) (r : Reading) (left : List ℕ) : Type 0 where
  pub read : IsRead r
  pub rest : config_from (nat_lt 1024 (length text)) k r (lines_in_text left) ≡ config_in_text text
  pub count : k + length left ≤ 1025

pub left_first : (text : List ℕ) → IsLeft text 1 nothing_read (take 1024 text)
left_first text = record { read = nothing_is_read; rest = refl; count = omega (arith, length-take 1024 text) }

line_left : (text : List ℕ) (k : ℕ) (r : Reading) (left line behind : List ℕ) → IsLeft text k r left → lines_in_text left ≡ line ∷ lines_in_text behind
    → line_then k (after_line r line) (λ read. config_from (nat_lt 1024 (length text)) (k + 1) read (lines_in_text behind)) ≡ config_in_text text
line_left text k r left line behind l cut =
    sym (line_from (nat_lt 1024 (length text)) k r line (lines_in_text behind) (lines_cons behind)) ∙ ap (config_from (nat_lt 1024 (length text)) k r) (sym cut) ∙ l.rest

pub left_more : (text : List ℕ) (k : ℕ) (r next : Reading) (left line behind : List ℕ) → IsLeft text k r left → lines_in_text left ≡ line ∷ lines_in_text behind
    → length behind < length left → after_line r line ≡ Some next → IsLeft text (k + 1) next behind
left_more text k r next left line behind l cut shorter e = record {
  read = read_keeps r next line l.read e;
  rest =
      ap (λ o. line_then k o (λ read. config_from (nat_lt 1024 (length text)) (k + 1) read (lines_in_text behind))) (sym e)
      ∙ line_left text k r left line behind l cut;
  count = omega (arith, l.count);
}

pub left_bad : (text : List ℕ) (k : ℕ) (r : Reading) (left line behind : List ℕ) → IsLeft text k r left → lines_in_text left ≡ line ∷ lines_in_text behind
    → after_line r line ≡ None → config_in_text text ≡ Err k
left_bad text k r left line behind l cut e =
    sym (line_left text k r left line behind l cut)
    ∙ ap (λ o. line_then k o (λ read. config_from (nat_lt 1024 (length text)) (k + 1) read (lines_in_text behind))) e

pub left_last : (text : List ℕ) (k : ℕ) (r : Reading) (left : List ℕ) → IsLeft text k r left → lines_in_text left ≡ left ∷ []
    → config_in_text text ≡ (if may_end (nat_lt 1024 (length text)) r.due left then Ok r.config else Err k)
left_last text k r left l cut = sym l.rest ∙ ap (config_from (nat_lt 1024 (length text)) k r) cut

pub front_is : (text : List ℕ) (n : ℕ) → n ≡ min (length text) 1024 → take n text ≡ take 1024 text
front_is text n e = let f : n ≡ min 1024 (length text) = omega arith in ap (λ k. take k text) f ∙ take_min 1024 text

pub left_ends : (text : List ℕ) (k : ℕ) (r : Reading) (left : List ℕ) → IsLeft text k r left → lines_in_text left ≡ left ∷ [] → length text ≤ 1024 → may_end false r.due left ≡ true
    → IsTextRead text r.config
left_ends text k r left l cut few e =
    let whole : nat_lt 1024 (length text) ≡ false = le-ltb 1024 (length text) few in
    text_of_read text r.config (left_last text k r left l cut ∙ ap (λ u. if (may_end u r.due left) then Ok r.config else Err k) whole ∙ ap (λ u. if u then Ok r.config else Err k) e)
