use Rattle.std.specs.Prelude.{ℕ}
use Rattle.std.proofs.Common.{arith, subst, sym}
use Rattle.ol_ports.proofs.StopLaws.{stops_none}
use Rattle.ol_ports.specs.Stops.{Stops}
use Rattle.ol_storage.specs.Installation.{config_of, flushed_of, last_of}
use Rattle.ol_storage.specs.Standing.{StandsFrom}
use Rattle.ol_storage.proofs.Images.{stands_wider}
use Rattle.ol_storage.proofs.storage.Storage.clean_one.Goals as goal

pub returns-in-None-clause-stops : goal.returns-in-None-clause-stops
returns-in-None-clause-stops g c tells b is =
    let v = c.args.self.now.now in
    stops_none _ _ (λ d rest. stands_wider (config_of v) b v.anchor (flushed_of v) (flushed_of v) (flushed_of v) (last_of v) d (omega arith) (omega arith) (c.is_stopped-between.ensures.stands tells b is d rest))
