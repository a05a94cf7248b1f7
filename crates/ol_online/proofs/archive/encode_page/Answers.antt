use Rattle.std.proofs.Common.{◌∙◌}
use Rattle.ol_rules.specs.Journal.{page_at}
use Rattle.ol_core.specs.Machine.{journal_in}
use Rattle.ol_online.proofs.BlockLaws.{page_block_is}
use Rattle.ol_online.proofs.archive.encode_page.Goals as goal

pub returns : goal.returns
returns c =
    c.encode.ensures
    ∙ page_block_is (page_at (journal_in c.args.core.now.machine) c.args.space c.args.page) c.image.result.now c.args.archive.now.number c.args.archive.now.passed c.args.space c.args.page c.stamp.result c.image.ensures.image c.image.ensures.whole c.stamp.ensures
