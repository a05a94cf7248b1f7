-- Rings whose pages were each written at their place, one use in each file.
use Rattle.std.specs.List.{AllByRecursion}
use Rattle.std.specs.Prelude.{List, [], false, ℕ, ◌+◌, ◌<◌, ◌==◌, ◌∷◌, ◌≡◌, ◌≤◌}
use Rattle.ol_rules.specs.Ring.{LogRange, Ring, Use, file_of, last_position}
use Rattle.ol_values.specs.Config.{Config}

-- no two uses stand in one file
abbrev pub HaveFiles : Config → List Use → Type 0
HaveFiles c [] = Unit {0}
HaveFiles c (u ∷ uses) = AllByRecursion (λ (v : Use). (file_of c v.uniq == file_of c u.uniq) ≡ false) uses × HaveFiles c uses

-- no page of a use ends behind its last one
abbrev pub EndsWithLast : Use → Type 0
EndsWithLast u = AllByRecursion (λ (p : LogRange). p.first + p.count ≤ last_position u + 1) u.pages

-- one use in each file, with its last page behind the others
pub record IsRegular (c : Config) (r : Ring) : Type 0 where
  pub files : HaveFiles c r.uses
  pub ends : AllByRecursion EndsWithLast r.uses

-- all uses but this one end before a position
abbrev pub OthersEndBefore : ℕ → ℕ → Ring → Type 0
OthersEndBefore uniq position r = AllByRecursion (λ (v : Use). (v.uniq == uniq) ≡ false → last_position v < position) r.uses

-- all uses end before a position
abbrev pub EndBefore : ℕ → Ring → Type 0
EndBefore position r = AllByRecursion (λ (v : Use). last_position v < position) r.uses
