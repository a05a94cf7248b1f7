use Rattle.ol_values.proofs.Lengths.{record_is, records_are}
use Rattle.ol_values.proofs.laws.spellings_have_their_length.Goals as goal

pub returns-clause-record : goal.returns-clause-record
returns-clause-record c = λ r. record_is r

pub returns-clause-records : goal.returns-clause-records
returns-clause-records c = λ records. records_are records
