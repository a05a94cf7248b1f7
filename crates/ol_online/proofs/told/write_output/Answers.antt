use Rattle.ol_online.proofs.CommandLaws.{both_part, front_part}
use Rattle.ol_online.specs.Command.{told_text}
use Rattle.ol_online.specs.Status.{status_text}
use Rattle.ol_online.proofs.told.write_output.Goals as goal

pub returns-in-Ok-clause-err : goal.returns-in-Ok-clause-err
returns-in-Ok-clause-err g c =
    both_part (g.K.Sink.contents c.args.out.now) (g.K.Sink.contents c.write_told.new.out) (g.K.Sink.contents c.write_status.new.sink)
    (told_text c.args.told.now) (status_text c.args.status) c.write_status.result c.in-Ok.ensures.ok c.write_status.ensures.err

pub returns-in-Err-clause-err : goal.returns-in-Err-clause-err
returns-in-Err-clause-err g c =
    front_part (g.K.Sink.contents c.args.out.now) (g.K.Sink.contents c.write_told.new.out) (told_text c.args.told.now) (status_text c.args.status) c.in-Err.ensures.err
