use Rattle.std.specs.Prelude.{Err, IfOk, IsErrOf, None, Ok, OnOk, Option, Some, [], false, true, slice_index_or, ℕ, ◌+◌, ◌<◌, ◌^◌, ◌≡◌}
use Rattle.std.proofs.Common.{ap, arith, inl, refl, subst, sym, ◌∙◌}
use Rattle.ol_loglog.proofs.Readies.{flushed_empty}
use Rattle.ol_storage.specs.Behind.{Behind, is_up, pages_of}
use Rattle.ol_storage.specs.Causes.{HasStorageCause}
use Rattle.ol_storage.specs.declared.storage.StorageFault.TheVariants.{Bad, Failed}
use Rattle.ol_storage.specs.Installation.{HasAll, Held, Installation, IsInstallation, config_of, flushed_of, marked, with_ring, with_store}
use Rattle.ol_storage.specs.Standing.{StandsBetween}
use Rattle.ol_storage.specs.Storing.{IsStored}
use Rattle.ol_storage.proofs.Images.{Known}
use Rattle.ol_storage.proofs.Quiet.{before_stored, loaded_stored, passed_stored, stored_stands, switched_going, switched_stored}
use Rattle.ol_storage.proofs.storage.Storage.switch.Goals as goal

pub close_file-requires-clause-flushed : goal.close_file-requires-clause-flushed
close_file-requires-clause-flushed g c = ap (λ (x : Installation). x.ring.state.buffer) c.in-Ok.ensures.step ∙ flushed_empty c.args.self.now.now.ring.state
