use Rattle.std.specs.Prelude.{Option, is_some}
use Rattle.std.proofs.Common.{ap, ◌∙◌}
use Rattle.ol_values.specs.declared.row.Row.{Row}
use Rattle.ol_storage.specs.declared.storage.StorageFault.TheVariants.{Bad}
use Rattle.ol_free_slots.proofs.Reading.{other_answer}
use Rattle.ol_read_turns.proofs.page.is_full.Goals as goal

pub returns-in-Ok-clause-value : goal.returns-in-Ok-clause-value
returns-in-Ok-clause-value g c tells b stored = c.is_some.ensures ∙ ap (λ (o : Option Row). is_some o) (c.in-Ok.ensures.row tells b stored c.requires.up)

pub returns-in-Err-clause-good : goal.returns-in-Err-clause-good
returns-in-Err-clause-good g c tells b stored chunk at e = c.in-Err.ensures.good tells b stored c.requires.up chunk at (other_answer c.in-Err.fault (Bad chunk at) e)
