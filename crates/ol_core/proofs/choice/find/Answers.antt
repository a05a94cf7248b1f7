use Rattle.std.proofs.Common.{ap, sym, ◌∙◌}
use Rattle.ol_values.specs.Config.{is_name}
use Rattle.ol_core.proofs.Marks.{no_name}
use Rattle.ol_core.proofs.choice.find.Goals as goal

pub returns-in-None-clause-value : goal.returns-in-None-clause-value
returns-in-None-clause-value c = sym (no_name c.args.table.now c.args.label.now c.requires (λ e. c.in-None.ensures (ap is_name c.as_slice.ensures.value ∙ e)))
