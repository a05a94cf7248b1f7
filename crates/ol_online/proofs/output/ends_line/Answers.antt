use Rattle.ol_online.proofs.OutputLaws.{last_of_line}
use Rattle.ol_online.proofs.output.ends_line.Goals as goal

pub returns-in-Some : goal.returns-in-Some
returns-in-Some c =
    last_of_line c.args.entry.now c.in-Some.next.now c.args.behind.now c.requires c.in-Some.ensures.value
