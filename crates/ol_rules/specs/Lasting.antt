-- The lasting state of an installation: what its anchor keeps of spaces, archives and log backups.
use Rattle.std.specs.Prelude.{Bool, List, length, replicate, slice_index_or, slice_set, true, ℕ}
use Rattle.ol_values.specs.Config.{Config}

-- a known archive of a space: its number and its cut, 0 and 0 for none
pub record Kept : Type 0 where
  pub number : ℕ
  pub cut : ℕ

-- a space: whether it is up, since which position it is down (0 where it is up), and its known archives of level 0 and 1
pub record SpaceState : Type 0 where
  pub up : Bool
  pub down_at : ℕ
  pub zero : Kept
  pub one : Kept

-- the spaces, the next archive's number, the incarnation, and the greatest unique number of a log file that is backed up with all lower ones
pub record Lasting : Type 0 where
  pub spaces : List SpaceState
  pub next_archive : ℕ
  pub incarnation : ℕ
  pub backed : ℕ

abbrev pub none_kept : Kept
none_kept = record { number = 0; cut = 0 }

abbrev pub space_up : SpaceState
space_up = record { up = true; down_at = 0; zero = none_kept; one = none_kept }

-- the lasting state of a newly formatted disk
abbrev pub new_lasting : Config → Lasting
new_lasting c = record { spaces = replicate (length c.spaces) space_up; next_archive = 1; incarnation = 1; backed = 0 }

abbrev pub space_state : Lasting → ℕ → SpaceState
space_state l space = slice_index_or l.spaces space space_up

abbrev pub is_up : Lasting → ℕ → Bool
is_up l space = (space_state l space).up

abbrev pub with_space : ℕ → SpaceState → Lasting → Lasting
with_space space s l = record l { spaces = slice_set l.spaces space s }
