use Rattle.std.proofs.Common.{ap, sym, ℕ, ◌∙◌}
use Rattle.ol_values.specs.Image.{page_in}
use Rattle.ol_object_spans.specs.Told.{held_told}
use Rattle.ol_object_spans.specs.declared.block.Held.{Held}
use Rattle.ol_object_spans.specs.declared.block.Held.TheVariants.{Page}
use Rattle.ol_block_values.proofs.Payloads.{refused, taken}
use Rattle.ol_block_values.proofs.reading.page_in.Goals as goal

pub returns-in-Ok : goal.returns-in-Ok
returns-in-Ok c =
    let p = c.args.payload.now in
    let found = c.in-Ok.ensures.found in
    ap (λ (n : ℕ). let h : Held = Page n in h) (c.stamp.ensures (page_in p) found.0.page found.1) ∙ ap held_told (sym (taken p found.0 found.1))

pub returns-in-Err : goal.returns-in-Err
returns-in-Err c = ap held_told (sym (refused c.args.payload.now c.told-payload c.fits-payload (λ p is e. let never = c.in-Err.ensures.only p is e in absurd cc)))
