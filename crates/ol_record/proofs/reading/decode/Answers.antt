use Rattle.std.proofs.Common.{arith}
use Rattle.ol_record.proofs.Decoded.{nothing_there, is_found, is_only, is_shorter}
use Rattle.ol_record.proofs.reading.decode.Goals as goal

pub returns-in_err-record-clause-only : goal.returns-in_err-record-clause-only
returns-in_err-record-clause-only c = λ r rest is e. nothing_there c.args.bytes.now r rest is e c.in_err-record.ensures

pub overflow_sub-result : goal.overflow_sub-result
overflow_sub-result c = is_shorter c.args.bytes.now (c.in_ok-record.record, c.in_ok-record.rest.now) (λ i. omega (arith, c.type_inv.bytes i)) c.in_ok-record.ensures

pub returns-clause-found : goal.returns-clause-found
returns-clause-found c = is_found c.args.bytes.now (c.in_ok-record.record, c.in_ok-record.rest.now) (λ i. omega (arith, c.type_inv.bytes i)) c.in_ok-record.ensures

pub returns-clause-only : goal.returns-clause-only
returns-clause-only c = is_only c.args.bytes.now (c.in_ok-record.record, c.in_ok-record.rest.now) c.in_ok-record.ensures
