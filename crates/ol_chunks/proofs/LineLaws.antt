-- What a line says that may stand where it stands.
use Rattle.std.specs.Prelude.{Bool, List, None, Option, Some, [], bytes_eq, codes, false, if◌then◌else◌, length, nat_le, refl, true, ℕ, ◌&&◌, ◌∷◌, ◌≡◌, ◌⊎◌}
use Rattle.std.proofs.Common.{inl, inr}
use Rattle.std.proofs.lemmas.Slice.Eq.{bytes_eq-Decides}
use Rattle.ol_values.specs.Config.{Config, space_named}
use Rattle.ol_chunks.specs.Reading.{Reading, before_read, has_pages, has_place_left, has_room, is_new_name, logs_read, numbers_in_words, physical_read, space_read, with_limit, with_logs, with_physical, with_space_read, words_read}
use Rattle.ol_chunks.specs.declared.draft.Due.{Due}
use Rattle.ol_chunks.specs.declared.draft.Due.TheVariants.{Before, Logs, Nothing, Spaces}

pub record SpaceLine (c : Config) (words : List (List ℕ)) (r : Reading) : Type 0 where
  pub name : List ℕ
  pub numbers : List (List ℕ)
  pub chunks : List ℕ
  pub words_are : words ≡ codes "space" ∷ name ∷ numbers
  pub chunks_are : numbers_in_words numbers ≡ Some chunks
  pub fits : (has_place_left c.spaces (length chunks) && (is_new_name c.spaces name && has_pages (length c.spaces) chunks)) ≡ true
  pub gives : r ≡ (let read : Reading = record { due = Spaces; config = with_space_read c (record { name = name; chunks = chunks }) } in read)

pub record PhysicalLine (c : Config) (words : List (List ℕ)) (r : Reading) : Type 0 where
  pub name : List ℕ
  pub numbers : List (List ℕ)
  pub space : ℕ
  pub entries : ℕ
  pub words_are : words ≡ codes "physlog" ∷ name ∷ numbers
  pub space_is : space_named c name ≡ Some space
  pub numbers_are : numbers_in_words numbers ≡ Some (entries ∷ [])
  pub fits : (nat_le entries 4096 && has_room (with_physical c space entries) space) ≡ true
  pub gives : r ≡ (let read : Reading = record { due = Logs; config = with_physical c space entries } in read)

pub record LogsLine (c : Config) (words : List (List ℕ)) (r : Reading) : Type 0 where
  pub name : List ℕ
  pub numbers : List (List ℕ)
  pub space : ℕ
  pub files : ℕ
  pub pages : ℕ
  pub words_are : words ≡ codes "logs" ∷ name ∷ numbers
  pub space_is : space_named c name ≡ Some space
  pub numbers_are : numbers_in_words numbers ≡ Some (files ∷ pages ∷ [])
  pub fits : ((nat_le 3 files && nat_le files 64) && ((nat_le 4 pages && nat_le pages 1000) && has_room (with_logs c space files pages) space)) ≡ true
  pub gives : r ≡ (let read : Reading = record { due = Before; config = with_logs c space files pages } in read)

pub record BeforeLine (c : Config) (words : List (List ℕ)) (r : Reading) : Type 0 where
  pub numbers : List (List ℕ)
  pub limit : ℕ
  pub words_are : words ≡ codes "before" ∷ numbers
  pub numbers_are : numbers_in_words numbers ≡ Some (limit ∷ [])
  pub fits : nat_le limit 4096 ≡ true
  pub gives : r ≡ (let read : Reading = record { due = Nothing; config = with_limit c limit } in read)

abbrev pub Gives : Due → Config → List (List ℕ) → Reading → Type 0
Gives Spaces c words r = SpaceLine c words r ⊎ PhysicalLine c words r
Gives Logs c words r = LogsLine c words r
Gives Before c words r = BeforeLine c words r
Gives Nothing c words r = ⊥

-- ---- from the reading

some_if : {A : Type 0} (b : Bool) (x z : A) → (if b then Some x else None) ≡ Some z → (b ≡ true) × (z ≡ x)
some_if true x z e = (refl, cc)
some_if false x z e = cc

same_word : (word other : List ℕ) → bytes_eq word other ≡ true → word ≡ other
same_word word other e = (bytes_eq-Decides word other).0 e

with_words : (word other name : List ℕ) (words : List (List ℕ)) → bytes_eq word other ≡ true → (let l : List (List ℕ) = word ∷ name ∷ words in l) ≡ other ∷ name ∷ words
with_words word other name words e = let same : word ≡ other = same_word word other e in cc

space_line : (c : Config) (word name : List ℕ) (words : List (List ℕ)) (r : Reading) (o : Option (List ℕ)) → bytes_eq word (codes "space") ≡ true → numbers_in_words words ≡ o
    → space_read c name o ≡ Some r → SpaceLine c (word ∷ name ∷ words) r
space_line c word name words r None first is e = cc
space_line c word name words r (Some chunks) first is e =
    let p = some_if (has_place_left c.spaces (length chunks) && (is_new_name c.spaces name && has_pages (length c.spaces) chunks)) (record { due = Spaces; config = with_space_read c (record { name = name; chunks = chunks }) }) r e in
    record { name = name; numbers = words; chunks = chunks; words_are = with_words word (codes "space") name words first; chunks_are = is; fits = p.0; gives = p.1 }

physical_line : (c : Config) (word name : List ℕ) (words : List (List ℕ)) (r : Reading) (s : Option ℕ) (o : Option (List ℕ)) → bytes_eq word (codes "physlog") ≡ true → space_named c name ≡ s
    → numbers_in_words words ≡ o → physical_read c s o ≡ Some r → PhysicalLine c (word ∷ name ∷ words) r
physical_line c word name words r None o first s is e = cc
physical_line c word name words r (Some space) None first s is e = cc
physical_line c word name words r (Some space) (Some []) first s is e = cc
physical_line c word name words r (Some space) (Some (entries ∷ [])) first s is e =
    let p = some_if (nat_le entries 4096 && has_room (with_physical c space entries) space) (record { due = Logs; config = with_physical c space entries }) r e in
    record { name = name; numbers = words; space = space; entries = entries; words_are = with_words word (codes "physlog") name words first; space_is = s; numbers_are = is; fits = p.0; gives = p.1 }
physical_line c word name words r (Some space) (Some (n ∷ k ∷ numbers)) first s is e = cc

logs_line : (c : Config) (word name : List ℕ) (words : List (List ℕ)) (r : Reading) (s : Option ℕ) (o : Option (List ℕ)) → bytes_eq word (codes "logs") ≡ true → space_named c name ≡ s
    → numbers_in_words words ≡ o → logs_read c s o ≡ Some r → LogsLine c (word ∷ name ∷ words) r
logs_line c word name words r None o first s is e = cc
logs_line c word name words r (Some space) None first s is e = cc
logs_line c word name words r (Some space) (Some []) first s is e = cc
logs_line c word name words r (Some space) (Some (n ∷ [])) first s is e = cc
logs_line c word name words r (Some space) (Some (files ∷ pages ∷ [])) first s is e =
    let p = some_if ((nat_le 3 files && nat_le files 64) && ((nat_le 4 pages && nat_le pages 1000) && has_room (with_logs c space files pages) space)) (record { due = Before; config = with_logs c space files pages }) r e in
    record { name = name; numbers = words; space = space; files = files; pages = pages; words_are = with_words word (codes "logs") name words first; space_is = s; numbers_are = is; fits = p.0; gives = p.1 }
logs_line c word name words r (Some space) (Some (n ∷ k ∷ m ∷ numbers)) first s is e = cc

before_line : (c : Config) (word : List ℕ) (words : List (List ℕ)) (r : Reading) (o : Option (List ℕ)) → bytes_eq word (codes "before") ≡ true
    → numbers_in_words words ≡ o → before_read c o ≡ Some r → BeforeLine c (word ∷ words) r
before_line c word words r None first is e = cc
before_line c word words r (Some []) first is e = cc
before_line c word words r (Some (limit ∷ [])) first is e =
    let p = some_if (nat_le limit 4096) (record { due = Nothing; config = with_limit c limit }) r e in
    let same : word ≡ codes "before" = same_word word (codes "before") first in
    record { numbers = words; limit = limit; words_are = cc; numbers_are = is; fits = p.0; gives = p.1 }
before_line c word words r (Some (n ∷ k ∷ numbers)) first is e = cc

pub gives : (due : Due) (c : Config) (words : List (List ℕ)) (r : Reading) → words_read due c words ≡ Some r → Gives due c words r
gives Spaces c [] r e = cc
gives Spaces c (word ∷ []) r e = cc
gives Spaces c (word ∷ name ∷ words) r e = first (bytes_eq word (codes "space")) (bytes_eq word (codes "physlog")) refl refl e
  where
    first : (u v : Bool) → bytes_eq word (codes "space") ≡ u → bytes_eq word (codes "physlog") ≡ v
        → (if u then space_read c name (numbers_in_words words) else (if v then physical_read c (space_named c name) (numbers_in_words words) else None)) ≡ Some r
        → SpaceLine c (word ∷ name ∷ words) r ⊎ PhysicalLine c (word ∷ name ∷ words) r
    first true v a b e = inl (space_line c word name words r (numbers_in_words words) a refl e)
    first false true a b e = inr (physical_line c word name words r (space_named c name) (numbers_in_words words) b refl refl e)
    first false false a b e = cc
gives Logs c [] r e = cc
gives Logs c (word ∷ []) r e = cc
gives Logs c (word ∷ name ∷ words) r e = first (bytes_eq word (codes "logs")) refl e
  where
    first : (u : Bool) → bytes_eq word (codes "logs") ≡ u → (if u then logs_read c (space_named c name) (numbers_in_words words) else None) ≡ Some r → LogsLine c (word ∷ name ∷ words) r
    first true a e = logs_line c word name words r (space_named c name) (numbers_in_words words) a refl refl e
    first false a e = cc
gives Before c [] r e = cc
gives Before c (word ∷ words) r e = first (bytes_eq word (codes "before")) refl e
  where
    first : (u : Bool) → bytes_eq word (codes "before") ≡ u → (if u then before_read c (numbers_in_words words) else None) ≡ Some r → BeforeLine c (word ∷ words) r
    first true a e = before_line c word words r (numbers_in_words words) a refl e
    first false a e = cc
gives Nothing c words r e = cc
