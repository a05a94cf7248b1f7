use Rattle.std.specs.Prelude.{Bool, Option}
use Rattle.std.proofs.Common.{ap, ◌∙◌}
use Rattle.ol_values.specs.declared.row.Row.{Row}
use Rattle.ol_storage.specs.declared.storage.StorageFault.TheVariants.{Bad}
use Rattle.ol_free_slots.specs.Slots.{rows_of, slot_of}
use Rattle.ol_free_slots.proofs.Reading.{other_answer}
use Rattle.ol_free_slots.proofs.slots.slot_at.Goals as goal

pub returns-in-Ok-clause-value : goal.returns-in-Ok-clause-value
returns-in-Ok-clause-value g c tells b stored =
    c.told.ensures ∙ ap (λ (o : Option Row). slot_of o c.locked.result) (c.in-Ok.ensures.row tells b stored c.requires.up) ∙ ap (λ (l : Bool). slot_of (rows_of b c.args.rid) l) c.locked.ensures

pub returns-in-Err-clause-good : goal.returns-in-Err-clause-good
returns-in-Err-clause-good g c tells b stored chunk at e = c.in-Err.ensures.good tells b stored c.requires.up chunk at (other_answer c.in-Err.fault (Bad chunk at) e)
