use Rattle.std.proofs.Common.{refl}
use Rattle.ol_object.specs.Bytes.{block_bytes}
use Rattle.ol_block_values.specs.Items.{head_at, payload_at}
use Rattle.ol_block_values.proofs.Blocks.{reads}
use Rattle.ol_block_values.proofs.ItemLaws.{item_is, item_is_block, item_is_written}
use Rattle.ol_block_values.proofs.ScanLaws.{scanned}
use Rattle.ol_block_values.proofs.laws.items_are_blocks.Goals as goal

pub returns-clause-read : goal.returns-clause-read
returns-clause-read c = λ h p is. let r = reads (block_bytes h p) h p is refl in r.item

pub returns-clause-block : goal.returns-clause-block
returns-clause-block c = λ bytes long fits b there.
    let of = item_is_block bytes long fits b there in
    (head_at bytes, payload_at bytes, of.block, of.bytes_are, of.value)

pub returns-clause-kept : goal.returns-clause-kept
returns-clause-kept c = λ bytes long fits b there. item_is bytes long fits b there

pub returns-clause-written : goal.returns-clause-written
returns-clause-written c = λ bytes long fits b there whole. item_is_written bytes long fits b there whole

pub returns-clause-item : goal.returns-clause-item
returns-clause-item c = scanned
