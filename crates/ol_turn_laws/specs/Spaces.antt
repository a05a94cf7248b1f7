-- Which spaces are up beside running archives and a warm restore.
use Rattle.std.specs.Prelude.{Some, false, true, ℕ, ◌≡◌}
use Rattle.ol_rules.specs.Lasting.{is_up}
use Rattle.ol_model.specs.Machine.{Machine, Warming, archive_of, archives_space}

-- the spaces of running archives are up, and the space of which a warm restore is under way is down
pub record KnowsSpaces (m : Machine) : Type 0 where
  pub archives : (k space : ℕ) → archives_space space (archive_of m k) ≡ true → is_up m.lasting space ≡ true
  pub warm : (w : Warming) → m.warm ≡ Some w → is_up m.lasting w.space ≡ false
