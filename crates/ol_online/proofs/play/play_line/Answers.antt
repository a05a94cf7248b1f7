use Rattle.std.proofs.Common.{refl, ◌∙◌}
use Rattle.ol_online.proofs.LineLaws.{session_turn, waiting_insert}
use Rattle.ol_online.proofs.play.play_line.Goals as goal

pub returns-in-Ok-clause-ok : goal.returns-in-Ok-clause-ok
returns-in-Ok-clause-ok c config lines left reached =
    session_turn c.args.line.now _ c.in-Begin.is c.by_of-by.ensures.actor c.by_of-by.ensures.line refl refl reached c.in-Ok.ensures.ok

pub returns-in-Ok-insert-clause-ok : goal.returns-in-Ok-insert-clause-ok
returns-in-Ok-insert-clause-ok c config lines left reached =
    session_turn c.args.line.now _ c.in-Insert.is c.by_of-by.ensures.actor c.by_of-by.ensures.line refl refl reached c.in-Ok-insert.ensures.ok

pub returns-in-Ok-commit-clause-ok : goal.returns-in-Ok-commit-clause-ok
returns-in-Ok-commit-clause-ok c config lines left reached =
    session_turn c.args.line.now _ c.in-Commit.is c.by_of-by.ensures.actor c.by_of-by.ensures.line refl refl reached c.in-Ok-commit.ensures.ok

pub returns-in-Ok-insert-clause-waiting : goal.returns-in-Ok-insert-clause-waiting
returns-in-Ok-insert-clause-waiting c config waiting =
    waiting_insert c.in-Insert.reg c.in-Insert.space c.in-Insert.row waiting c.in-Ok-insert.ensures.ok (c.by_of-by.ensures.actor ∙ c.requires.line.0)
