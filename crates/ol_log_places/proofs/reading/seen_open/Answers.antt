use Rattle.std.proofs.Common.{sym, ◌∙◌}
use Rattle.ol_log_places.proofs.Seen.{seen_open}
use Rattle.ol_log_places.proofs.reading.seen_open.Goals as goal

pub returns-clause-seen : goal.returns-clause-seen
returns-clause-seen c p same =
    let here = c.is_head_of_place.ensures.place p same in
    seen_open c.args.table.now c.args.place _ c.args.head p _ c.logs-logs.ensures.value same (sym here ∙ c.if-not-is_head_of_place.false) here
