use Rattle.std.proofs.Common.{ap, sym, ◌∙◌}
use Rattle.ol_values.specs.Config.{is_name}
use Rattle.ol_targets.proofs.NameLaws.{no_name}
use Rattle.ol_targets.proofs.names.space_named.Goals as goal

pub returns-in-None-clause-value : goal.returns-in-None-clause-value
returns-in-None-clause-value c = sym (no_name c.args.table.now c.args.name.now c.spaces-spaces.ensures.config (λ e. c.in-None.ensures (ap is_name c.as_slice.ensures.value ∙ e)))
