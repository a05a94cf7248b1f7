use Rattle.std.proofs.Common.{None, Some}
use Rattle.ol_script.proofs.ScriptLaws.{next_line}
use Rattle.ol_script.proofs.reader.LineReader.next.Goals as goal

pub returns-in_default-line_at-clause-lines : goal.returns-in_default-line_at-clause-lines
returns-in_default-line_at-clause-lines c =
    let r = c.args.self.now in
    next_line r.number r.rest.now c.in-Some.bytes.now c.in-Some.behind.now None c.in-Some.ensures.some c.in_default-line_at.ensures.line

pub returns-clause-lines : goal.returns-clause-lines
returns-clause-lines c =
    let r = c.args.self.now in
    next_line r.number r.rest.now c.in-Some.bytes.now c.in-Some.behind.now (Some c.in-Some-line_at.line) c.in-Some.ensures.some c.in-Some-line_at.ensures.line
