use Rattle.std.proofs.Common.{ap, sym, ◌∙◌}
use Rattle.ol_record.specs.declared.head.LogHead.{LogHead}
use Rattle.ol_object_spans.specs.Told.{held_told}
use Rattle.ol_object_spans.specs.declared.block.Held.{Held}
use Rattle.ol_object_spans.specs.declared.block.Held.TheVariants.{Log}
use Rattle.ol_block_values.proofs.Payloads.{log_refused, log_taken}
use Rattle.ol_block_values.proofs.reading.log_page_in.Goals as goal

pub returns-in-None : goal.returns-in-None
returns-in-None c = ap held_told (sym (log_refused c.args.payload.now c.fits-payload c.told-payload (λ gate p is e. let never = c.in-None.ensures.only gate p is e in absurd cc)))

pub returns-in-Some : goal.returns-in-Some
returns-in-Some c =
    let found = c.in-Some.ensures.found in
    (λ i. let l : Held = Log c.in-Some.head.uniq c.in-Some.head.first (c.from.ensures i) in l)
    ∙ ap (λ (h : LogHead). let l : Held = Log h.uniq h.first h.count in l) found.2
    ∙ ap held_told (sym (log_taken c.args.payload.now c.if-payload-ne-OPEN_GATE.false found.0 found.1))
