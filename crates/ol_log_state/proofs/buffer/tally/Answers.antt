use Rattle.std.proofs.Common.{arith, ◌∙◌}
use Rattle.ol_record.specs.LogPages.{page_in}
use Rattle.ol_record.proofs.Filled.{count_in, used_in}
use Rattle.ol_record.proofs.Several.{few_in}
use Rattle.ol_log_state.proofs.buffer.tally.Goals as goal

pub returns-clause-count : goal.returns-clause-count
returns-clause-count c = c.from_be_bytes-count.ensures ∙ count_in c.args.page.now c.requires

pub returns-clause-used : goal.returns-clause-used
returns-clause-used c = c.from_be_bytes-used.ensures ∙ used_in c.args.page.now c.requires

pub returns-clause-few : goal.returns-clause-few
returns-clause-few c = omega (arith, c.from_be_bytes-count.ensures ∙ count_in c.args.page.now c.requires, few_in (page_in c.args.page.now).records, c.requires.filling.room)

pub returns-clause-room : goal.returns-clause-room
returns-clause-room c = omega (arith, c.from_be_bytes-used.ensures ∙ used_in c.args.page.now c.requires, c.requires.filling.room)
