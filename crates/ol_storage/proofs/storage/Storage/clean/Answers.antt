use Rattle.std.proofs.Common.{inl}
use Rattle.ol_ports.proofs.StopLaws.{stops_weaker}
use Rattle.ol_storage.proofs.storage.Storage.clean.Goals as goal

pub returns-in-Ok-clause-stops : goal.returns-in-Ok-clause-stops
returns-in-Ok-clause-stops g c tells b is = stops_weaker _ _ _ _ (λ d s. inl s) (c.clean_one.ensures.stops tells b is)

pub returns-in-Err-clause-stops : goal.returns-in-Err-clause-stops
returns-in-Err-clause-stops g c tells b is = stops_weaker _ _ _ _ (λ d s. inl s) (c.clean_one.ensures.stops tells b is)
