use Rattle.std.proofs.Common.{ap, slice_index, ◌∙◌}
use Rattle.ol_record.specs.LogPages.{blank_page}
use Rattle.ol_record.proofs.Pages.{gate_back}
use Rattle.ol_log_state.proofs.buffer.PageBuffer.begin.Goals as goal

pub invariant_of-self : goal.invariant_of-self
invariant_of-self c =
    let gate = gate_back 0 (blank_page c.args.index c.args.uniq c.args.incarnation c.args.first) in
    (c.begin_page.ensures.buffer, ap (λ l. slice_index l 0) c.begin_page.ensures.bytes ∙ gate)
