use Rattle.std.proofs.Common.{ap, subst, sym, Err, Ok, Option, IfSome, ◌∙◌}
use Rattle.ol_values.specs.Blocks.{ArchiveHead}
use Rattle.ol_chunks.specs.Reading.{config_in_text}
use Rattle.ol_block_values.specs.Told.{IsHead}
use Rattle.ol_object_spans.specs.Told.{held_told}
use Rattle.ol_block_values.proofs.Payloads.{IsFound, bad_is, config_is, has_head, on_err, read_head}
use Rattle.ol_block_values.proofs.reading.archive_head_in.Goals as goal

pub returns-in_err-archive-clause-cause : goal.returns-in_err-archive-clause-cause
returns-in_err-archive-clause-cause c =
    let has = has_head c.args.head.now c.args.payload.now c.requires.block c.requires.kind in
    on_err c.from_residual.result (subst IsHead (sym has.2.held) tt)

pub returns-in_default-clause-value : goal.returns-in_default-clause-value
returns-in_default-clause-value c =
    let has = has_head c.args.head.now c.args.payload.now c.requires.block c.requires.kind in
    absurd (c.in_ok-archive.ensures.none (ap (λ o. Ok o) c.in_default.is) has.0 has.2.is has.2.padded has.2.used)

pub returns-in-Ok-clause-value : goal.returns-in-Ok-clause-value
returns-in-Ok-clause-value c =
    let found : IsFound c.args.head.now c.args.payload.now c.in-Some.archive =
    subst (λ (o : Option ArchiveHead). IfSome o (IsFound c.args.head.now c.args.payload.now)) c.in-Some.is c.in_ok-archive.ensures.found in
    let held = read_head c.args.head.now c.args.payload.now c.requires.kind c.in-Some.archive found in
    ap held_told (sym (held ∙ config_is c.in-Some.archive c.in-Ok.config (ap config_in_text (sym c.text.ensures.value) ∙ c.in-Ok.ensures.table)))

pub returns-in-Err-BadConfig-clause-value : goal.returns-in-Err-BadConfig-clause-value
returns-in-Err-BadConfig-clause-value c =
    let found : IsFound c.args.head.now c.args.payload.now c.in-Some.archive =
    subst (λ (o : Option ArchiveHead). IfSome o (IsFound c.args.head.now c.args.payload.now)) c.in-Some.is c.in_ok-archive.ensures.found in
    let held = read_head c.args.head.now c.args.payload.now c.requires.kind c.in-Some.archive found in
    ap held_told (sym (held ∙ bad_is c.in-Some.archive c.in-Err-BadConfig.field-0 (λ n e. ap config_in_text (sym c.text.ensures.value) ∙ c.in-Err-BadConfig.ensures.bad n (ap (λ f. Err f) e))))
