use Rattle.std.proofs.Common.{ap, nat_le, ◌+◌, ◌∙◌}
use Rattle.ol_values.specs.LogPages.{records_length}
use Rattle.ol_values.proofs.Lengths.{records_are}
use Rattle.ol_record.specs.LogPages.{page_in}
use Rattle.ol_values.specs.LogPages.{LogPage}
use Rattle.ol_log_state.proofs.buffer.PageBuffer.fits.Goals as goal

pub returns : goal.returns
returns c =
    let used = c.from.ensures ∙ c.tally-used.ensures.used ∙ records_are (page_in c.self.inside.page).records ∙ ap (λ (p : LogPage). records_length p.records) c.self.view_is in
    ap (λ n. nat_le n 2012) (ap (λ n. n + c.encode-len.result) used ∙ ap (λ n. records_length c.args.self.now.records + n) c.encode-len.ensures.length)
