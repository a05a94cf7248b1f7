use Rattle.ol_targets.proofs.TurnLaws.{insert_led, list_led}
use Rattle.ol_targets.proofs.laws.names_lead_turns.Goals as goal

pub returns-clause-insert : goal.returns-clause-insert
returns-clause-insert c m n k s txn reg row named = insert_led m n k s txn reg row named

pub returns-clause-list : goal.returns-clause-list
returns-clause-list c m k s page named = list_led m k s page named
