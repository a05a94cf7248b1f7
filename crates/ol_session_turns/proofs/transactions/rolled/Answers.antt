use Rattle.std.proofs.Common.{subst, sym, ◌∙◌}
use Rattle.ol_values.specs.declared.event.Reply.{Reply}
use Rattle.ol_model.specs.Machine.{Machine}
use Rattle.ol_ports.proofs.StopLaws.{stops_none}
use Rattle.ol_ports.specs.Stops.{Stops}
use Rattle.ol_engine.specs.Parts.{behind_of}
use Rattle.ol_engine.specs.Turns.{StandsWithinTurn}
use Rattle.ol_engine.proofs.Stops.{rest_stops}
use Rattle.ol_session_turns.proofs.Ends.{no_end}
use Rattle.ol_session_turns.proofs.transactions.rolled.Goals as goal

pub returns-in-None-clause-stops : goal.returns-in-None-clause-stops
returns-in-None-clause-stops g c tells opened m registers before shows regular stored =
    let v = c.args.storage.now.now in
    let is = no_end opened v c.args.locks.now registers m c.args.session c.requires.session shows (sym c.txn.ensures ∙ c.in-None.is) in
    subst (λ (r : Reply × Machine). Stops (g.D.Disk.past c.args.storage.now.disk) (g.D.Disk.past c.args.storage.now.disk) (StandsWithinTurn v before r.1)) (sym is)
    (stops_none _ _ (λ d rest. rest_stops v before m d shows.storage.next (c.is_stopped-stands.ensures.stands tells (behind_of before m) stored d rest)))
