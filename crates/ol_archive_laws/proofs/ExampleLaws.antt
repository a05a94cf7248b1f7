-- An archive of a newly formatted installation meets the premises of the laws.
use Rattle.std.specs.List.{range_with_len}
use Rattle.std.specs.Prelude.{List, Ok, [], codes, length, refl, true, ℕ, ◌++◌, ◌∷◌, ◌≡◌}
use Rattle.std.proofs.Common.{arith}
use Rattle.ol_values.specs.Config.{Config}
use Rattle.ol_rules.specs.Journal.{page_at, page_from}
use Rattle.ol_rules.specs.Start.{IsStartOf, new_start, start_page}
use Rattle.ol_model.specs.Machine.{formatted}
use Rattle.ol_chunks.specs.Limits.{IsConfig}
use Rattle.ol_chunks.specs.Reading.{config_in_text}
use Rattle.ol_chunks.proofs.TextLaws.{text_of_read}
use Rattle.ol_turn_laws.proofs.LowLaws.{all_blank}
use Rattle.ol_tape_laws.specs.Example.{began, ended, first_archive, one_space}
use Rattle.ol_tape_laws.proofs.ExampleLaws.{example_begins, example_runs, example_steps}
use Rattle.ol_archive_laws.specs.Archives.{IsTakenBy, MayArchive}

abbrev line : List ℕ → List ℕ → List ℕ
line text rest = text ++ (10 ∷ rest)

abbrev text : List ℕ
text = line (codes "space root 100") (line (codes "physlog root 8") (line (codes "logs root 3 4") (line (codes "before 2") [])))

its_text : config_in_text text ≡ Ok one_space
its_text = refl

its_config : IsConfig one_space
its_config = (text_of_read text one_space its_text).config

-- the start of a newly formatted disk is that of the empty journal
new_page : (c : Config) (space page : ℕ) → start_page (new_start c) space page ≡ page_at [] space page
unfolding page_from
new_page c space page = all_blank c (range_with_len 0 (length c.spaces)) space page

its_start : IsStartOf one_space (λ space. true) [] (new_start one_space)
its_start = record {
  last = refl;
  first = (omega arith, omega arith);
  kept = refl;
  need = omega arith;
  pages = λ space page on there. new_page one_space space page;
}

pub example_may : MayArchive (λ space. true) [] (formatted one_space) first_archive
example_may = record {
  behind = record { config = its_config; start = its_start; sound = tt };
  level = omega arith;
  known = λ space. (omega arith, omega arith);
  incarnation = omega arith;
  next = omega arith;
  some = omega arith;
  up = λ k d h. refl;
}

pub example_taken : IsTakenBy [] 1 first_archive (formatted one_space) began (ended ∷ [])
example_taken = record { begins = example_begins; number = 1; steps = example_steps; runs = example_runs }
