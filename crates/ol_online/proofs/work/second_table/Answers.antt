use Rattle.std.proofs.Common.{ap, ◌∙◌}
use Rattle.ol_chunks.specs.Reading.{config_in_text}
use Rattle.ol_online.proofs.CommandLaws.{not_bad, text_again}
use Rattle.ol_online.proofs.work.second_table.Goals as goal

pub unreachable-requires : goal.unreachable-requires
unreachable-requires c =
    let again = text_again c.args.table.now c.text-count.result c.text-count.new.buf _ c.requires c.text-count.ensures.length c.text-count.ensures.text in
    not_bad _ c.split_at.result.0.now c.in_default.field-0 (ap config_in_text c.split_at.ensures.front ∙ again) c.in_default.ensures.bad

pub returns : goal.returns
returns c =
    let again = text_again c.args.table.now c.text-count.result c.text-count.new.buf _ c.requires c.text-count.ensures.length c.text-count.ensures.text in
    let read = ap config_in_text c.split_at.ensures.front ∙ again in
    let found = c.in-Ok.ensures.table in cc
