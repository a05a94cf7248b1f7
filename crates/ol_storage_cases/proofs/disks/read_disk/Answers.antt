use Rattle.std.specs.Prelude.{true, ◌≡◌}
use Rattle.std.proofs.Common.{ap, refl, rules, subst, ◌∙◌}
use Rattle.ol_values.specs.Config.{Config}
use Rattle.ol_values.specs.Config.{has_place as has_place_in}
use Rattle.ol_loglog.specs.RingValue.{RingValue}
use Rattle.ol_storage_cases.proofs.disks.read_disk.Goals as goal

pub read-requires-clause-place : goal.read-requires-clause-place
read-requires-clause-place c =
    let config : c.table.result.now ≡ c.in_ok-storage.storage.now.ring.config = c.table.ensures.value ∙ ap (λ (r : RingValue). r.config) c.log.ensures in
    let there : has_place_in c.table.result.now (record { space = 1; page = 0; slot = 0 }) ≡ true = search rules in
    subst (λ (x : Config). has_place_in x (record { space = 1; page = 0; slot = 0 }) ≡ true) config there
