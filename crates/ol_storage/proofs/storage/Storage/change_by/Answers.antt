use Rattle.std.proofs.Common.{inl}
use Rattle.ol_ports.proofs.StopLaws.{stops_weaker}
use Rattle.ol_storage.proofs.storage.Storage.change_by.Goals as goal

pub returns-clause-stops : goal.returns-clause-stops
returns-clause-stops g c tells b is = stops_weaker _ _ _ _ (λ d s. inl s) (c.change.ensures.stops tells b is)
