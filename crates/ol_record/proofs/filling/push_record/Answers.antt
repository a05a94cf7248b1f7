use Rattle.std.proofs.Common.{arith, length, refl, take, ap}
use Rattle.ol_values.proofs.Lengths.{record_is, records_are}
use Rattle.ol_record.specs.LogPages.{page_in}
use Rattle.ol_record.proofs.Filled.{pushed}
use Rattle.ol_record.proofs.filling.push_record.Goals as goal

pub returns-clause-buffer : goal.returns-clause-buffer
returns-clause-buffer c =
    (pushed c.args.page.now c.append.new.page (take c.encode-len.result c.encode-len.new.buf) c.args.rec.now c.tally-count.result.0 c.tally-count.result.1 c.requires.buffer c.encode-len.ensures.grammar c.tally-count.ensures.count c.tally-count.ensures.used c.encode-len.ensures.bytes (omega (arith, ap length c.encode-len.ensures.bytes, c.encode-len.ensures.length, record_is c.args.rec.now)) c.append.ensures).buffer

pub returns-clause-value : goal.returns-clause-value
returns-clause-value c =
    (pushed c.args.page.now c.append.new.page (take c.encode-len.result c.encode-len.new.buf) c.args.rec.now c.tally-count.result.0 c.tally-count.result.1 c.requires.buffer c.encode-len.ensures.grammar c.tally-count.ensures.count c.tally-count.ensures.used c.encode-len.ensures.bytes (omega (arith, ap length c.encode-len.ensures.bytes, c.encode-len.ensures.length, record_is c.args.rec.now)) c.append.ensures).value

pub returns-then-used-len-gt-ROOM-clause-room : goal.returns-then-used-len-gt-ROOM-clause-room
returns-then-used-len-gt-ROOM-clause-room c =
    (λ t. absurd cc, λ le. absurd (omega (arith, le, c.if-used-len-gt-ROOM.true, c.tally-count.ensures.used, records_are (page_in c.args.page.now).records, c.encode-len.ensures.length)))

pub returns-clause-room : goal.returns-clause-room
returns-clause-room c =
    (λ t. omega (arith, c.if-used-len-gt-ROOM.false, c.tally-count.ensures.used, records_are (page_in c.args.page.now).records, c.encode-len.ensures.length), λ le. refl)
