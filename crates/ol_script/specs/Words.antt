-- The words of a line: actors, registers, places, numbers, rows and names of spaces.
use Rattle.std.specs.List.{list_all, list_any}
use Rattle.std.specs.Prelude.{Bool, List, None, Option, Some, [], bytes_eq, false, fold, if◌then◌else◌, length, nat_le, not, option_map, true, ℕ, ◌&&◌, ◌*◌, ◌+◌, ◌-◌, ◌==◌, ◌∷◌}
use Rattle.ol_values.specs.declared.event.Target.{Target}
use Rattle.ol_values.specs.declared.event.Target.TheVariants.{At, Reg}
use Rattle.ol_values.specs.declared.history.Actor.{Actor}
use Rattle.ol_values.specs.declared.history.Actor.TheVariants.{Archiver, Backer, Checkpointer, Flusher, Session, Warmer}
use Rattle.ol_values.specs.declared.row.Row.{Row}
use Rattle.ol_values.specs.Config.{is_digit, is_name}
use Rattle.ol_values.specs.Text.{is_plain}
use Rattle.ol_script.specs.Pieces.{pieces_of, two_of}
use Rattle.ol_bytes.specs.Reading.{◌>>=◌}

-- no zero stands in front of further digits
abbrev pub leads_well : List ℕ → Bool
leads_well [] = false
leads_well (b ∷ []) = true
leads_well (b ∷ c ∷ bytes) = not (b == 48)

-- a number in decimal, without leading zeros
abbrev pub is_decimal : List ℕ → Bool
is_decimal word = leads_well word && list_all is_digit word

-- the number that these digits stand for
abbrev pub value_of : List ℕ → ℕ
value_of word = fold (λ (n b : ℕ). n * 10 + (b - 48)) 0 word

-- a number of a range, its ends included
unfoldable pub number_between : ℕ → ℕ → List ℕ → Option ℕ
number_between least most word =
    if is_decimal word && (nat_le least (value_of word) && nat_le (value_of word) most) then Some (value_of word) else None

-- an actor by its letter and the number behind it: s1 to s16, a1 to a4, l1, f1, c1 and w1
unfoldable pub actor_by : ℕ → List ℕ → Option Actor
actor_by letter number =
    if letter == 115 then option_map (λ k. Session k) (number_between 1 16 number)
    else (if letter == 97 then option_map (λ k. Archiver k) (number_between 1 4 number)
    else (if letter == 108 then option_map (λ k. Backer) (number_between 1 1 number)
    else (if letter == 102 then option_map (λ k. Flusher) (number_between 1 1 number)
    else (if letter == 99 then option_map (λ k. Checkpointer) (number_between 1 1 number)
    else (if letter == 119 then option_map (λ k. Warmer) (number_between 1 1 number) else None)))))

abbrev pub actor_of : List ℕ → Option Actor
actor_of [] = None
actor_of (letter ∷ number) = actor_by letter number

-- a register: r0 to r9
abbrev pub register_of : List ℕ → Option ℕ
register_of [] = None
register_of (letter ∷ number) = if letter == 114 then number_between 0 9 number else None

-- the name of a space
abbrev pub name_of : List ℕ → Option (List ℕ)
name_of word = if is_name word then Some word else None

-- a page of a space, or a slot of a page, as a script may name it: 0 to 99,999
abbrev pub place_number : List ℕ → Option ℕ
place_number word = number_between 0 99999 word

-- a place, as SPACE:PAGE:SLOT, by its first part and those behind it
unfoldable pub place_by_parts : List ℕ → List (List ℕ) → Option Target
place_by_parts word parts = do
  numbers ← two_of parts
  space ← name_of word
  page ← place_number numbers.0
  slot ← place_number numbers.1
  Some (At space page slot)

-- a register, or a place, by its parts round the colons
unfoldable pub target_by_parts : List (List ℕ) → Option Target
target_by_parts [] = None
target_by_parts (word ∷ []) = option_map (λ reg. Reg reg) (register_of word)
target_by_parts (word ∷ next ∷ parts) = place_by_parts word (next ∷ parts)

abbrev pub target_in_text : List ℕ → Option Target
target_in_text word = target_by_parts (pieces_of 58 word)

-- bytes that a row of a script may have
abbrev pub is_row : List ℕ → Bool
is_row bytes = nat_le (length bytes) 63 && list_all is_plain bytes

-- a row, behind an equals sign
abbrev pub row_of : List ℕ → Option Row
row_of [] = None
row_of (sign ∷ bytes) = if (sign == 61) && is_row bytes then Some bytes else None

-- no name stands twice
abbrev pub are_different : List (List ℕ) → Bool
are_different [] = true
are_different (name ∷ names) = not (list_any (bytes_eq name) names) && are_different names

-- 1 to 16 different names of spaces
abbrev pub are_names : List (List ℕ) → Bool
are_names words = nat_le 1 (length words) && (nat_le (length words) 16 && (list_all is_name words && are_different words))

abbrev pub names_in_words : List (List ℕ) → Option (List (List ℕ))
names_in_words words = if are_names words then Some words else None
