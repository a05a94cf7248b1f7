-- The premises of the laws are met by an archive of a newly formatted installation.
use Rattle.std.specs.Prelude.{List, [], codes, length, refl, ◌∷◌, ◌≡◌}
use Rattle.std.proofs.Common.{arith, inl}
use Rattle.ol_model.specs.History.{Steps, state_after}
use Rattle.ol_model.specs.Machine.{formatted}
use Rattle.ol_model.specs.Waiting.{pages_of}
use Rattle.ol_turn_laws.proofs.KnowsLaws.{formatted_knows}
use Rattle.ol_tape_laws.specs.Example.{began, ended, first_archive, one_space}
use Rattle.ol_tape_laws.specs.Runs.{Begins, RunsToEnd}

pub example_begins : Begins [] 1 first_archive (formatted one_space) began
example_begins = record {
  level = 0;
  names = codes "root" ∷ [];
  within = omega arith;
  none = refl;
  going = refl;
  knows = formatted_knows one_space;
  turn = (refl, refl, refl);
  own = refl;
}

pub example_steps : Steps [] (formatted one_space) 1 (began ∷ ended ∷ [])
unfolding pages_of
example_steps = (refl, refl, (refl, refl, tt))

pub example_runs : RunsToEnd [] 1 (length (pages_of (state_after [] (formatted one_space) began) first_archive)) (state_after [] (formatted one_space) began) (ended ∷ [])
unfolding pages_of
example_runs = inl ((refl, refl, refl), refl)
