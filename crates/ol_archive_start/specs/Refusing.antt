-- When an archive is refused, by the newest anchor and the running archives.
use Rattle.std.specs.Prelude.{All, Bool, List, None, Option, Some, [], find, length, nat_lt, not, option_map, position, slice_index_or, suc, zero, ℕ, ◌&&◌, ◌+◌, ◌-◌, ◌<◌, ◌==◌, ◌∷◌}
use Rattle.ol_values.specs.declared.event.Reply.{Reply}
use Rattle.ol_values.specs.declared.event.Reply.TheVariants.{Archiving, NoParent, SpaceDown}
use Rattle.ol_values.specs.Config.{Config}
use Rattle.ol_reserve.specs.declared.anchor.Anchor.{Anchor}
use Rattle.ol_running.specs.declared.running.Running.{Running}
use Rattle.ol_storage.specs.Behind.{is_up}
use Rattle.ol_archive_turns.specs.Turns.{runs_in}

-- each of these is the number of a space
abbrev pub AreSpaces : Config → List ℕ → Type 0
AreSpaces c spaces = All (λ s. s < length c.spaces) spaces

-- so many spaces are there at most
abbrev pub AreSmall : List ℕ → Type 0
AreSmall spaces = All (λ s. s < 16) spaces

-- the known archive of a space from which one of this level goes on, by its number and its cut; 0 and 0 where there is none
abbrev pub parent_of : Anchor → ℕ → ℕ → ℕ × ℕ
parent_of a zero space = (0, 0)
parent_of a (suc zero) space = slice_index_or a.zero space (0, 0)
parent_of a (suc (suc level)) space = slice_index_or a.one space (0, 0)

-- whether a space is down
abbrev pub is_down : Anchor → ℕ → Bool
is_down a space = not (is_up a space)

-- whether there is no archive of a space from which one of this level could go on
abbrev pub is_orphan : Anchor → ℕ → ℕ → Bool
is_orphan a level space = nat_lt 0 level && ((parent_of a level space).0 == 0)

-- the archiver whose running archive has a space
abbrev pub archiver_in : List (Option Running) → ℕ → Option ℕ
archiver_in l space = option_map (λ i. i + 1) (position (runs_in space) l)

-- one or else the other
abbrev pub or_else : {A : Type 0} → Option A → Option A → Option A
or_else None other = other
or_else (Some x) other = Some x

-- what is told of the first of these spaces of which something is told
abbrev pub first_told : (ℕ → Option ℕ) → List ℕ → Option ℕ
first_told tells [] = None
first_told tells (s ∷ spaces) = or_else (tells s) (first_told tells spaces)

-- the refusal of an archive of this level of these spaces, if there is one
abbrev pub refusal_of : Anchor → List (Option Running) → ℕ → List ℕ → Option Reply
refusal_of a l level spaces =
    or_else (option_map (λ s. SpaceDown s) (find (is_down a) spaces))
    (or_else (option_map (λ k. Archiving k) (first_told (archiver_in l) spaces))
    (option_map (λ s. NoParent s (level - 1)) (find (is_orphan a level) spaces)))
