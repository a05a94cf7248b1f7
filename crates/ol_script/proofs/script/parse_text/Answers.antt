use Rattle.ol_script.proofs.LineLaws.{forms_from, read_script, rising_from}
use Rattle.ol_script.proofs.script.parse_text.Goals as goal

pub invariant_of-result : goal.invariant_of-result
invariant_of-result c = (read_script c.args.text.now c.in-Ok.lines c.in-Ok.ensures).0

pub returns-in-Ok-clause-rising : goal.returns-in-Ok-clause-rising
returns-in-Ok-clause-rising c = rising_from 1 c.in-Ok.lines (read_script c.args.text.now c.in-Ok.lines c.in-Ok.ensures).0

pub returns-in-Ok-clause-forms : goal.returns-in-Ok-clause-forms
returns-in-Ok-clause-forms c = forms_from 1 c.in-Ok.lines (read_script c.args.text.now c.in-Ok.lines c.in-Ok.ensures).0
