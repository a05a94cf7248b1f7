-- An archive head is read as it was written, and nothing else is read as one.
use Rattle.std.proofs.Common.{◌≡◌, ℕ, zero, suc, ◌+◌, ◌-◌, ◌*◌, ◌<◌, ◌≤◌, ◌^◌, ◌++◌, ◌∙◌, ◌⊎◌, Bool, false, true, eqb, leb, ltb, List, [], ◌∷◌, Ok, Err, Result, ap, arith, drop, flat_map, get_or, inl, inr, length, length-append, length-drop, length-take, map, refl, replicate, subst, sym, take}
use Rattle.std.specs.Prelude.{◌&&◌}
use Rattle.std.specs.Int.{from_be_bytes, to_be_bytes, w16, w64}
use Rattle.std.proofs.lemmas.Bool.{and_from, and_left, and_parts, and_right, eq-eqb, eqb-true, le-leb, le-ltb, leb-true, lt-leb, lt-ltb, ltb-true}
use Rattle.std.proofs.lemmas.List.{append-nil, append_assoc, drop_at, length-map, take-append-drop, take_all, take_at}
use Rattle.std.proofs.lemmas.Nat.{from_be_bytes-to_be_bytes_8}
use Rattle.ol_values.specs.Blocks.{ArchiveHead, Saved}
use Rattle.ol_values.specs.Config.{Config}
use Rattle.ol_chunks.specs.Reading.{config_in_text}
use Rattle.ol_chunks.proofs.TextLaws.{text_of_read}
use Rattle.ol_values.proofs.Zeros.{zeros_again, zeros_from}
use Rattle.ol_object.specs.Bytes.{archive_head_bytes, padded_to, saved_bytes}
use Rattle.ol_object.specs.Spaces.{saved_of}
use Rattle.ol_record.proofs.Fields.{IsBytes, IsBytes-drop, IsBytes-rest, IsBytes-take, wide16, wide64}
use Rattle.ol_block_reading.specs.Grammar.{AreAscending, IsArchiveHead, IsSaved}
use Rattle.ol_block_reading.specs.Testing.{archive_head_at, archive_head_in, are_saved, are_zeros, is_archive_head, is_head_behind, is_head_of, saved_in, saved_list_in, spaces_of}

-- ---- a space

saved_takes : (bytes : List ℕ) → length bytes ≡ 17 → IsBytes bytes → saved_bytes (saved_in bytes) ≡ bytes
saved_takes [] long fits = absurd (omega arith)
saved_takes (b ∷ rest) long fits =
    let behind = IsBytes-rest b rest fits in
    let tail : length (drop 8 rest) ≡ 8 = omega (arith, length-drop 8 rest) in
    let parent = wide64.back (take 8 rest) (omega (arith, length-take 8 rest)) (IsBytes-take 8 rest behind) in
    let all : take 8 (drop 8 rest) ≡ drop 8 rest = take_all 8 (drop 8 rest) (omega arith) in
    let base = wide64.back (take 8 (drop 8 rest)) (ap length all ∙ tail) (IsBytes-take 8 (drop 8 rest) (IsBytes-drop 8 rest behind)) in
    ap (λ (l : List ℕ). b ∷ (l ++ to_be_bytes w64 (from_be_bytes w64 (take 8 (drop 8 rest))))) parent
    ∙ ap (λ (l : List ℕ). b ∷ (take 8 rest ++ l)) (base ∙ all)
    ∙ ap (λ (l : List ℕ). b ∷ l) (take-append-drop 8 rest)

saved_back : (limit : ℕ) (s : Saved) → IsSaved limit s → saved_in (saved_bytes s) ≡ s
saved_back limit s is = λ i. record {
  space = s.space;
  parent = from_be_bytes-to_be_bytes_8 s.parent is.parent i;
  base = from_be_bytes-to_be_bytes_8 s.base is.base i;
}

-- ---- spaces

record AreTaken (n limit least : ℕ) (bytes : List ℕ) (spaces : List Saved) : Type 0 where
  pub whole : length spaces ≡ n
  pub ascending : AreAscending limit least spaces
  pub spelt : flat_map saved_bytes spaces ≡ bytes

none_left : (bytes : List ℕ) → 0 ≡ length bytes → [] ≡ bytes
none_left [] long = refl
none_left (b ∷ bytes) long = absurd (omega arith)

saved_list_takes : (n limit least : ℕ) (bytes : List ℕ) → 17 * n ≡ length bytes → IsBytes bytes → are_saved n limit least bytes ≡ true → AreTaken n limit least bytes (saved_list_in n bytes)
unfolding are_saved saved_list_in
saved_list_takes zero limit least bytes long fits e = record { whole = refl; ascending = tt; spelt = none_left bytes long }
saved_list_takes (suc n) limit least [] long fits e = absurd (omega arith)
saved_list_takes (suc n) limit least (b ∷ rest) long fits e =
    let both = and_parts (leb least b && ltb b limit) (are_saved n limit (b + 1) (drop 17 (b ∷ rest))) e in
    let bounds = and_parts (leb least b) (ltb b limit) both.0 in
    let first_fits = IsBytes-take 17 (b ∷ rest) fits in
    let first = saved_takes (take 17 (b ∷ rest)) (omega (arith, length-take 17 (b ∷ rest))) first_fits in
    let more = saved_list_takes n limit (b + 1) (drop 17 (b ∷ rest)) (omega (arith, length-drop 17 (b ∷ rest))) (IsBytes-drop 17 (b ∷ rest) fits) both.1 in
    let numbers = IsBytes-drop 1 (take 17 (b ∷ rest)) first_fits in
    let is : IsSaved limit (saved_in (take 17 (b ∷ rest))) = record {
      space = ltb-true b limit bounds.1;
      parent = wide64.below (take 8 (drop 1 (take 17 (b ∷ rest)))) (IsBytes-take 8 (drop 1 (take 17 (b ∷ rest))) numbers);
      base = wide64.below (take 8 (drop 9 (take 17 (b ∷ rest)))) (IsBytes-take 8 (drop 9 (take 17 (b ∷ rest))) (IsBytes-drop 9 (take 17 (b ∷ rest)) first_fits));
    } in
    record {
      whole = ap (λ (k : ℕ). suc k) more.whole;
      ascending = (leb-true least b bounds.0, is, more.ascending);
      spelt = ap (λ (l : List ℕ). l ++ flat_map saved_bytes (saved_list_in n (drop 17 (b ∷ rest)))) first
          ∙ ap (λ (l : List ℕ). take 17 (b ∷ rest) ++ l) more.spelt
          ∙ take-append-drop 17 (b ∷ rest);
    }

saved_list_again : (limit least : ℕ) (spaces : List Saved) → AreAscending limit least spaces → are_saved (length spaces) limit least (flat_map saved_bytes spaces) ≡ true
unfolding are_saved
saved_list_again limit least [] are = refl
saved_list_again limit least (s ∷ spaces) are =
    and_from (leb least s.space && ltb s.space limit) (are_saved (length spaces) limit (s.space + 1) (flat_map saved_bytes spaces))
    (and_from (leb least s.space) (ltb s.space limit) (le-leb least s.space are.0) (lt-ltb s.space limit are.1.space))
    (saved_list_again limit (s.space + 1) spaces are.2)

saved_list_back : (limit least : ℕ) (spaces : List Saved) → AreAscending limit least spaces → saved_list_in (length spaces) (flat_map saved_bytes spaces) ≡ spaces
unfolding saved_list_in
saved_list_back limit least [] are = refl
saved_list_back limit least (s ∷ spaces) are =
    ap (λ (t : Saved). t ∷ saved_list_in (length spaces) (flat_map saved_bytes spaces)) (saved_back limit s are.1)
    ∙ ap (λ (l : List Saved). s ∷ l) (saved_list_back limit (s.space + 1) spaces are.2)

length-saved_list : (spaces : List Saved) → length (flat_map saved_bytes spaces) ≡ 17 * length spaces
length-saved_list [] = refl
length-saved_list (s ∷ spaces) = omega (arith, length-saved_list spaces)

-- ---- an archive head

-- where a space is below the number of a configuration's spaces, there is one
config_known : (r : Result Config ℕ) (n : ℕ) (bytes : List ℕ) → 1 ≤ n → are_saved n (spaces_of r) 0 bytes ≡ true → (c : Config) × (r ≡ Ok c)
unfolding are_saved
config_known (Ok c) n bytes some e = (c, refl)
config_known (Err line) zero bytes some e = absurd (omega arith)
config_known (Err line) (suc n) bytes some e =
    let both = and_parts (leb 0 (get_or bytes 0 0) && ltb (get_or bytes 0 0) 0) (are_saved n 0 (get_or bytes 0 0 + 1) (drop 17 bytes)) e in
    let below : get_or bytes 0 0 < 0 = ltb-true (get_or bytes 0 0) 0 (and_parts (leb 0 (get_or bytes 0 0)) (ltb (get_or bytes 0 0) 0) both.0).1 in
    absurd (omega arith)

pub head_takes : (bytes : List ℕ) → IsBytes bytes → is_archive_head bytes ≡ true → IsArchiveHead (archive_head_in bytes) × (bytes ≡ archive_head_bytes (archive_head_in bytes))
unfolding is_head_of is_head_behind
head_takes [] fits e = absurd cc
head_takes (n ∷ rest) fits e =
    let spaces = take (17 * n) rest in
    let behind = drop (17 * n) rest in
    let text = drop 2 behind in
    let tail_fits = IsBytes-rest n rest fits in
    let limits = and_parts (leb 1 n && leb n 16) (leb (17 * n + 2) (length rest) && ((eqb (from_be_bytes w16 (take 2 behind)) (length text)) && are_saved n (spaces_of (config_in_text text)) 0 spaces)) e in
    let count = and_parts (leb 1 n) (leb n 16) limits.0 in
    let room = and_parts (leb (17 * n + 2) (length rest)) ((eqb (from_be_bytes w16 (take 2 behind)) (length text)) && are_saved n (spaces_of (config_in_text text)) 0 spaces) limits.1 in
    let tested = and_parts (eqb (from_be_bytes w16 (take 2 behind)) (length text)) (are_saved n (spaces_of (config_in_text text)) 0 spaces) room.1 in
    let long : 17 * n + 2 ≤ length rest = leb-true (17 * n + 2) (length rest) room.0 in
    let taken = saved_list_takes n (spaces_of (config_in_text text)) 0 spaces (omega (arith, length-take (17 * n) rest)) (IsBytes-take (17 * n) rest tail_fits) tested.1 in
    let config = config_known (config_in_text text) n spaces (leb-true 1 n count.0) tested.1 in
    let ascending : AreAscending (length config.0.spaces) 0 (saved_list_in n spaces) =
    subst (λ (k : ℕ). AreAscending k 0 (saved_list_in n spaces)) (ap spaces_of config.1) taken.ascending in
    let size : to_be_bytes w16 (length text) ≡ take 2 behind =
    ap (to_be_bytes w16) (sym (eqb-true (from_be_bytes w16 (take 2 behind)) (length text) tested.0))
    ∙ wide16.back (take 2 behind) (omega (arith, length-take 2 behind, length-drop (17 * n) rest)) (IsBytes-take 2 behind (IsBytes-drop (17 * n) rest tail_fits)) in
    let is : IsArchiveHead (archive_head_in (n ∷ rest)) = record {
      some = rw taken.whole (leb-true 1 n count.0);
      few = rw taken.whole (leb-true n 16 count.1);
      spaces = (config.0, config.1, ascending);
    } in
    let parts : rest ≡ flat_map saved_bytes (saved_list_in n spaces) ++ (to_be_bytes w16 (length text) ++ text) =
    sym (take-append-drop (17 * n) rest)
    ∙ ap (λ (l : List ℕ). spaces ++ l) (sym (take-append-drop 2 behind))
    ∙ ap (λ (l : List ℕ). spaces ++ (l ++ text)) (sym size)
    ∙ ap (λ (l : List ℕ). l ++ (to_be_bytes w16 (length text) ++ text)) (sym taken.spelt) in
    (is, ap (λ (l : List ℕ). n ∷ l) parts ∙ ap (λ (k : ℕ). k ∷ (flat_map saved_bytes (saved_list_in n spaces) ++ (to_be_bytes w16 (length text) ++ text))) (sym taken.whole))

-- the text of a head's configuration has at most 1,024 bytes
short_text : (h : ArchiveHead) → IsArchiveHead h → length h.text ≤ 1024
short_text h is = let t = text_of_read h.text is.spaces.0 is.spaces.1 in t.limit

pub head_again : (h : ArchiveHead) → IsArchiveHead h → is_archive_head (archive_head_bytes h) ≡ true
unfolding is_head_of is_head_behind
head_again h is =
    let n = length h.spaces in
    let flat = flat_map saved_bytes h.spaces in
    let behind = to_be_bytes w16 (length h.text) ++ h.text in
    let wide = length-saved_list h.spaces in
    let fits : length h.text < 2 ^ 16 = omega (arith, short_text h is) in
    let limit : spaces_of (config_in_text h.text) ≡ length is.spaces.0.spaces = ap spaces_of is.spaces.1 in
    let spaces : are_saved n (spaces_of (config_in_text h.text)) 0 flat ≡ true = rw limit (saved_list_again (length is.spaces.0.spaces) 0 h.spaces is.spaces.2) in
    let last : is_head_behind n flat behind ≡ true = and_from (eqb (from_be_bytes w16 (to_be_bytes w16 (length h.text))) (length h.text)) (are_saved n (spaces_of (config_in_text h.text)) 0 flat) (eq-eqb _ _ (wide16.again (length h.text) fits)) spaces in
    let parts : is_head_behind n (take (17 * n) (flat ++ behind)) (drop (17 * n) (flat ++ behind)) ≡ true =
    ap (λ (l : List ℕ). is_head_behind n l (drop (17 * n) (flat ++ behind))) (take_at flat behind (17 * n) wide)
    ∙ ap (λ (l : List ℕ). is_head_behind n flat l) (drop_at flat behind (17 * n) wide)
    ∙ last in
    and_from (leb 1 n && leb n 16) (leb (17 * n + 2) (length (flat ++ behind)) && is_head_behind n (take (17 * n) (flat ++ behind)) (drop (17 * n) (flat ++ behind)))
    (and_from (leb 1 n) (leb n 16) (le-leb 1 n is.some) (le-leb n 16 is.few))
    (and_from (leb (17 * n + 2) (length (flat ++ behind))) (is_head_behind n (take (17 * n) (flat ++ behind)) (drop (17 * n) (flat ++ behind)))
    (le-leb _ _ (omega (arith, length-append flat behind, wide)))
    parts)

pub head_back : (h : ArchiveHead) → IsArchiveHead h → archive_head_in (archive_head_bytes h) ≡ h
head_back h is =
    let n = length h.spaces in
    let flat = flat_map saved_bytes h.spaces in
    let behind = to_be_bytes w16 (length h.text) ++ h.text in
    let wide = length-saved_list h.spaces in
    let spaces : saved_list_in n (take (17 * n) (flat ++ behind)) ≡ h.spaces =
    ap (saved_list_in n) (take_at flat behind (17 * n) wide) ∙ saved_list_back (length is.spaces.0.spaces) 0 h.spaces is.spaces.2 in
    let text : drop 2 (drop (17 * n) (flat ++ behind)) ≡ h.text = ap (λ (l : List ℕ). drop 2 l) (drop_at flat behind (17 * n) wide) in
    λ i. record { spaces = spaces i; text = text i }

-- an archive head fits a payload
pub head_is_short : (h : ArchiveHead) → IsArchiveHead h → length (archive_head_bytes h) ≤ 1299
head_is_short h is =
    omega (arith, length-append (flat_map saved_bytes h.spaces) (to_be_bytes w16 (length h.text) ++ h.text), length-saved_list h.spaces, is.few, short_text h is)

-- its bytes stand for it alone
pub same_head : (h k : ArchiveHead) → IsArchiveHead h → IsArchiveHead k → archive_head_bytes h ≡ archive_head_bytes k → h ≡ k
same_head h k is also e = sym (head_back h is) ∙ ap archive_head_in e ∙ head_back k also

-- ---- one space after another

pub goes_on : (n i limit least number : ℕ) (bytes : List ℕ) (total : Bool) → i < n → number ≡ get_or bytes 0 0 → least ≤ number → number < limit → are_saved (n - i) limit least bytes ≡ total → are_saved (n - (i + 1)) limit (number + 1) (drop 17 bytes) ≡ total
unfolding are_saved
goes_on n i limit least number bytes total lt is from below so_far =
    let k : n - i ≡ suc (n - (i + 1)) = omega arith in
    let one : are_saved (n - i) limit least bytes ≡ are_saved (n - (i + 1)) limit (number + 1) (drop 17 bytes) = rw (k, ← is, le-leb least number from, lt-ltb number limit below) refl in
    sym one ∙ so_far

pub stops : (n i limit least number : ℕ) (bytes : List ℕ) (total : Bool) → i < n → number ≡ get_or bytes 0 0 → (number < least) ⊎ (limit ≤ number) → are_saved (n - i) limit least bytes ≡ total → false ≡ total
unfolding are_saved
stops n i limit least number bytes total lt is out so_far =
    let k : n - i ≡ suc (n - (i + 1)) = omega arith in
    let bad : (leb least number && ltb number limit) ≡ false = elim out [
      | inl low ↦ and_left (leb least number) (ltb number limit) (lt-leb least number low)
      | inr high ↦ and_right (leb least number) (ltb number limit) (le-ltb number limit high)
    ] in
    let one : are_saved (n - i) limit least bytes ≡ false = rw (k, ← is, bad) refl in
    sym one ∙ so_far

pub ends : (n i limit least : ℕ) (bytes : List ℕ) (total : Bool) → n ≤ i → are_saved (n - i) limit least bytes ≡ total → true ≡ total
unfolding are_saved
ends n i limit least bytes total le so_far =
    let k : n - i ≡ 0 = omega arith in
    let one : are_saved (n - i) limit least bytes ≡ true = rw k refl in
    sym one ∙ so_far

-- a space more was read
pub read_on : (n i : ℕ) (front : List Saved) (s : Saved) (bytes : List ℕ) (all : List Saved) → i < n → s ≡ saved_in (take 17 bytes) → front ++ saved_list_in (n - i) bytes ≡ all → (front ++ s ∷ []) ++ saved_list_in (n - (i + 1)) (drop 17 bytes) ≡ all
unfolding saved_list_in
read_on n i front s bytes all lt is so_far =
    let k : n - i ≡ suc (n - (i + 1)) = omega arith in
    let one : saved_list_in (n - i) bytes ≡ s ∷ saved_list_in (n - (i + 1)) (drop 17 bytes) = rw (k, ← is) refl in
    append_assoc front (s ∷ []) (saved_list_in (n - (i + 1)) (drop 17 bytes)) ∙ ap (λ (l : List Saved). front ++ l) (sym one) ∙ so_far

-- all spaces were read
pub read_all : (n i : ℕ) (front : List Saved) (bytes : List ℕ) (all : List Saved) → n ≤ i → front ++ saved_list_in (n - i) bytes ≡ all → front ≡ all
unfolding saved_list_in
read_all n i front bytes all le so_far =
    let k : n - i ≡ 0 = omega arith in
    let one : saved_list_in (n - i) bytes ≡ [] = rw k refl in
    sym (append-nil front) ∙ ap (λ (l : List Saved). front ++ l) (sym one) ∙ so_far

length-saved_list_in : (n : ℕ) (bytes : List ℕ) → length (saved_list_in n bytes) ≡ n
unfolding saved_list_in
length-saved_list_in zero bytes = refl
length-saved_list_in (suc n) bytes = ap (λ (k : ℕ). suc k) (length-saved_list_in n (drop 17 bytes))

-- ---- where the parts of an archive head stand

-- so many spaces, few, and a short text stand in the rest of an archive head
pub record HasParts (bytes : List ℕ) (n : ℕ) (rest : List ℕ) : Type 0 where
  pub room : 17 * n + 2 ≤ length rest
  pub few : n ≤ 16
  pub short : length (drop 2 (drop (17 * n) rest)) ≤ 1024
  pub value : archive_head_in bytes ≡ archive_head_at n rest

parts_behind : (n : ℕ) (rest : List ℕ) → IsBytes (n ∷ rest) → is_archive_head (n ∷ rest) ≡ true → HasParts (n ∷ rest) n rest
unfolding is_head_of
parts_behind n rest fits e =
    let is = head_takes (n ∷ rest) fits e in
    let limits = and_parts (leb 1 n && leb n 16) (leb (17 * n + 2) (length rest) && is_head_behind n (take (17 * n) rest) (drop (17 * n) rest)) e in
    let room = and_parts (leb (17 * n + 2) (length rest)) (is_head_behind n (take (17 * n) rest) (drop (17 * n) rest)) limits.1 in
    record {
      room = leb-true (17 * n + 2) (length rest) room.0;
      few = leb-true n 16 (and_parts (leb 1 n) (leb n 16) limits.0).1;
      short = short_text (archive_head_in (n ∷ rest)) is.0;
      value = refl;
    }

pub parts_of : (bytes front rest : List ℕ) → front ≡ take 1 bytes → rest ≡ drop 1 bytes → IsBytes bytes → is_archive_head bytes ≡ true → HasParts bytes (get_or front 0 0) rest
parts_of [] front rest front_is rest_is fits e = absurd cc
parts_of (n ∷ more) front rest front_is rest_is fits e =
    let count : n ≡ get_or front 0 0 = ap (λ (l : List ℕ). get_or l 0 0) (sym front_is) in
    subst (λ (k : ℕ). HasParts (n ∷ more) k rest) count (subst (HasParts (n ∷ more) n) (sym rest_is) (parts_behind n more fits e))

-- so many spaces are few
pub few_read : (n : ℕ) (bytes : List ℕ) (items : List (ℕ × ℕ × ℕ)) → n ≤ 16 → map saved_of items ≡ saved_list_in n bytes → length items ≤ 16
few_read n bytes items few is = omega (arith, length-map items saved_of, ap length is, length-saved_list_in n bytes)

-- ---- a payload

pub payload_takes : (payload : List ℕ) (used : ℕ) → length payload ≡ 2048 → IsBytes payload → used ≤ 2048 → is_archive_head (take used payload) ≡ true → are_zeros (drop used payload) ≡ true
    → IsArchiveHead (archive_head_in (take used payload)) × (payload ≡ padded_to 2048 (archive_head_bytes (archive_head_in (take used payload)))) × (used ≡ length (archive_head_bytes (archive_head_in (take used payload))))
unfolding padded_to
payload_takes payload used whole fits le head zeros =
    let is = head_takes (take used payload) (IsBytes-take used payload fits) head in
    let long : length (take used payload) ≡ used = omega (arith, length-take used payload) in
    let count : length (drop used payload) ≡ 2048 - length (take used payload) = omega (arith, length-drop used payload) in
    let padded : payload ≡ take used payload ++ replicate (2048 - length (take used payload)) 0 =
    sym (take-append-drop used payload) ∙ ap (λ (l : List ℕ). take used payload ++ l) (zeros_from (drop used payload) zeros ∙ ap (λ (n : ℕ). replicate n 0) count) in
    (is.0, padded ∙ ap (padded_to 2048) is.1, sym long ∙ ap length is.1)

pub payload_again : (payload : List ℕ) (used : ℕ) (h : ArchiveHead) → IsArchiveHead h → payload ≡ padded_to 2048 (archive_head_bytes h) → used ≡ length (archive_head_bytes h) → (is_archive_head (take used payload) ≡ true) × (are_zeros (drop used payload) ≡ true)
unfolding padded_to
payload_again payload used h is padded count =
    let bytes = archive_head_bytes h in
    let zeros = replicate (2048 - length bytes) 0 in
    let front : take used payload ≡ bytes = ap (take used) padded ∙ take_at bytes zeros used (sym count) in
    let behind : drop used payload ≡ zeros = ap (drop used) padded ∙ drop_at bytes zeros used (sym count) in
    (ap is_archive_head front ∙ head_again h is, ap are_zeros behind ∙ zeros_again (2048 - length bytes))
