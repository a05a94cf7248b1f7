use Rattle.std.proofs.Common.{ap, subst, sym, IfSome, Option, Some, ◌≡◌, ◌∙◌}
use Rattle.ol_values.specs.Blocks.{Block}
use Rattle.ol_block_values.specs.Items.{payload_at}
use Rattle.std.specs.Option.{option_map}
use Rattle.ol_block_values.specs.Told.{HoldsHead}
use Rattle.ol_object_spans.specs.Told.{told_of}
use Rattle.ol_object_spans.specs.declared.block.ReadBlock.{ReadBlock}
use Rattle.ol_block_values.proofs.Blocks.{no_block, no_item, reads}
use Rattle.ol_block_values.proofs.Payloads.{on_err}
use Rattle.ol_block_values.proofs.reading.read_block.Goals as goal

pub returns-in_default-clause-value : goal.returns-in_default-clause-value
returns-in_default-clause-value c =
    let none = no_block c.args.bytes.now c.told-bytes c.fits-bytes (c.decode.ensures.none c.in_default.is) in
    ap (option_map told_of) (sym (no_item c.args.bytes.now none))

pub returns-in_default-clause-payload : goal.returns-in_default-clause-payload
returns-in_default-clause-payload c =
    let none = no_block c.args.bytes.now c.told-bytes c.fits-bytes (c.decode.ensures.none c.in_default.is) in
    subst (λ (o : Option Block). IfSome o (λ b. c.decode.new.payload ≡ payload_at c.args.bytes.now)) (sym (no_item c.args.bytes.now none)) tt

pub returns-in_err-held-clause-payload : goal.returns-in_err-held-clause-payload
returns-in_err-held-clause-payload c =
    let is = reads c.args.bytes.now c.in-Some.head c.decode.new.payload c.in-Some.ensures.found.0 c.in-Some.ensures.found.1 in
    subst (λ (o : Option Block). IfSome o (λ b. c.decode.new.payload ≡ payload_at c.args.bytes.now)) (sym is.item) (sym is.payload)

pub returns-in_err-held-clause-cause : goal.returns-in_err-held-clause-cause
returns-in_err-held-clause-cause c =
    let is = reads c.args.bytes.now c.in-Some.head c.decode.new.payload c.in-Some.ensures.found.0 c.in-Some.ensures.found.1 in
    on_err c.from_residual.result (subst HoldsHead (sym is.item) c.in_err-held.ensures.cause)

pub returns-clause-value : goal.returns-clause-value
returns-clause-value c =
    let is = reads c.args.bytes.now c.in-Some.head c.decode.new.payload c.in-Some.ensures.found.0 c.in-Some.ensures.found.1 in
    (λ i. let r : ReadBlock = record { head = c.without_used-head.ensures i; held = c.in_ok-held.ensures.value i } in let o : Option ReadBlock = Some r in o) ∙ ap (option_map told_of) (sym is.item)

pub returns-clause-payload : goal.returns-clause-payload
returns-clause-payload c =
    let is = reads c.args.bytes.now c.in-Some.head c.decode.new.payload c.in-Some.ensures.found.0 c.in-Some.ensures.found.1 in
    subst (λ (o : Option Block). IfSome o (λ b. c.decode.new.payload ≡ payload_at c.args.bytes.now)) (sym is.item) (sym is.payload)
