use Rattle.ol_record.proofs.Filled.{gate_first, length_page}
use Rattle.ol_record.proofs.Pages.{page_in_back}
use Rattle.ol_record.proofs.laws.page_is_told_by_its_bytes.Goals as goal

pub returns-clause-told : goal.returns-clause-told
returns-clause-told c = λ gate p is. page_in_back gate p is

pub returns-clause-whole : goal.returns-clause-whole
returns-clause-whole c = λ gate p is. length_page gate p is

pub returns-clause-gate : goal.returns-clause-gate
returns-clause-gate c = λ gate p. gate_first gate p
