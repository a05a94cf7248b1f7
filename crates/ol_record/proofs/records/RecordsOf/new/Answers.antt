use Rattle.ol_record.proofs.Counts.{all_left}
use Rattle.ol_record.proofs.records.RecordsOf.new.Goals as goal

pub returns : goal.returns
returns c = all_left c.args.page.now c.from_be_bytes-left.result c.told-page c.from_be_bytes-left.ensures
