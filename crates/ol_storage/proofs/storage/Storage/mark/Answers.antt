use Rattle.ol_ports.proofs.StopLaws.{stops_weaker}
use Rattle.ol_storage.specs.Installation.{marked, next_to_back}
use Rattle.ol_storage.proofs.Lists.{between_wider}
use Rattle.ol_storage.proofs.storage.Storage.mark.Goals as goal

pub returns-in-Ok-clause-stops : goal.returns-in-Ok-clause-stops
returns-in-Ok-clause-stops g c tells b is =
    stops_weaker _ _ _ _ (λ d s. between_wider c.args.self.now.now b c.args.self.now.now.anchor (marked c.args.self.now.now (next_to_back c.args.self.now.now)).anchor d s) (c.mark_backed.ensures.stops tells b is)

pub returns-in-Err-clause-stops : goal.returns-in-Err-clause-stops
returns-in-Err-clause-stops g c tells b is =
    stops_weaker _ _ _ _ (λ d s. between_wider c.args.self.now.now b c.args.self.now.now.anchor (marked c.args.self.now.now (next_to_back c.args.self.now.now)).anchor d s) (c.mark_backed.ensures.stops tells b is)
