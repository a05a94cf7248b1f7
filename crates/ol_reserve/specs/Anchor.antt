-- The anchor: what an installation is as of its last checkpoint, and its 2,048 bytes. Numbers are big-endian.
use Rattle.std.specs.List.{list_all, zip}
use Rattle.std.specs.Prelude.{Bool, List, Ok, [], codes, drop, length, nat_le, replicate, take, true, ℕ, ◌&&◌, ◌++◌, ◌-◌, ◌==◌, ◌^◌, ◌||◌, ◌∷◌, ◌≡◌, ◌≤◌, ◌⊎◌}
use Rattle.std.specs.Int.{to_be_bytes, w16}
use Rattle.ol_bytes.specs.Numbers.{numbers_bytes}
use Rattle.ol_chunks.specs.Reading.{config_in_text}
use Rattle.ol_values.specs.Config.{Config}
use Rattle.ol_reserve.specs.declared.anchor.Anchor.{Anchor}

-- its numbers, in their order
abbrev pub anchor_numbers : Anchor → List ℕ
anchor_numbers a = a.serial ∷ a.incarnation ∷ a.position ∷ a.generation ∷ a.next_archive ∷ a.backed ∷ a.uniq ∷ a.need ∷ []

-- the known levels of each space: number and cut of level 0, number and cut of level 1
abbrev pub known_of : List (ℕ × ℕ) → List (ℕ × ℕ) → List ℕ
known_of [] one = []
known_of (z ∷ zero) [] = []
known_of (z ∷ zero) (o ∷ one) = z.0 ∷ z.1 ∷ o.0 ∷ o.1 ∷ known_of zero one

-- the bytes in front of the text: gate, mark, state, numbers, zeros, and for each space its state, where it went down, and its known levels
unfoldable pub front_bytes : ℕ → Anchor → List ℕ
front_bytes gate a =
    (gate ∷ codes "ANC" ++ (a.state ∷ 0 ∷ 0 ∷ 0 ∷ []))
    ++ numbers_bytes (anchor_numbers a)
    ++ replicate 56 0
    ++ a.states
    ++ numbers_bytes a.down_at
    ++ numbers_bytes (known_of a.zero a.one)

-- an anchor with this gate byte: the front, the length of the text, the text, and zeros
unfoldable pub anchor_bytes : ℕ → Anchor → List ℕ
anchor_bytes gate a =
    front_bytes gate a ++ to_be_bytes w16 (length a.text) ++ a.text ++ replicate (1262 - length a.text) 0

-- a number of an anchor is at most 2^62
abbrev pub is_number : ℕ → Bool
is_number n = nat_le n (2 ^ 62)

abbrev pub is_known : ℕ × ℕ → Bool
is_known k = is_number k.0 && is_number k.1

-- the serial, the incarnation, the generation, the unique numbers and the numbers of archives are at most 2^60: an opening takes no greater ones, so that no command reaches 2^62
unfoldable pub is_low : Anchor → Bool
is_low a =
    list_all (λ n. nat_le n (2 ^ 60)) (a.serial ∷ a.incarnation ∷ a.generation ∷ a.next_archive ∷ a.backed ∷ a.uniq ∷ [])
    && list_all (λ (k : ℕ × ℕ). nat_le k.0 (2 ^ 60)) a.zero
    && list_all (λ (k : ℕ × ℕ). nat_le k.0 (2 ^ 60)) a.one

-- the first spaces are up or down, and no others are there
abbrev pub are_states : ℕ → List ℕ → Bool
are_states spaces states = list_all (λ s. (s == 1) || (s == 2)) (take spaces states) && list_all (λ s. s == 0) (drop spaces states)

-- a space that is not down tells no position
abbrev pub are_downs : List ℕ → List ℕ → Bool
are_downs states down_at = list_all (λ (p : ℕ × ℕ). (p.0 == 2) || (p.1 == 0)) (zip states down_at)

-- an array has a place for each space that may be there
abbrev pub HasEach : Anchor → Type 0
HasEach a = (length a.states ≡ 16) × (length a.down_at ≡ 16) × (length a.zero ≡ 16) × (length a.one ≡ 16)

-- an anchor of the grammar
pub record IsAnchor (a : Anchor) : Type 0 where
  pub state : (a.state ≡ 1) ⊎ (a.state ≡ 2)
  pub numbers : list_all is_number (anchor_numbers a) ≡ true
  pub downs : list_all is_number a.down_at ≡ true
  pub zeros : list_all is_known a.zero ≡ true
  pub ones : list_all is_known a.one ≡ true
  pub down_at : are_downs a.states a.down_at ≡ true
  -- its text is a configuration, whose spaces alone are there
  pub configured : (c : Config) × (config_in_text a.text ≡ Ok c) × (are_states (length c.spaces) a.states ≡ true)
  -- what its type says: an array has a place for each space, and the text is at most 1,024 bytes
  pub each : HasEach a
  pub short : length a.text ≤ 1024

-- the limits of an anchor, but for what its configuration says
unfoldable pub anchor_in_limits : Anchor → Bool
anchor_in_limits a =
    ((a.state == 1) || (a.state == 2))
    && list_all is_number (anchor_numbers a)
    && list_all is_number a.down_at
    && list_all is_known a.zero
    && list_all is_known a.one
    && are_downs a.states a.down_at
