use Rattle.std.proofs.Common.{subst, sym, ℕ}
use Rattle.ol_store_cases.specs.Known.{IsKnown}
use Rattle.ol_store_cases.proofs.KnownLaws.{known_changed}
use Rattle.ol_store_cases.proofs.rig.Rig.change.Goals as goal

pub invariant_of-self : goal.invariant_of-self
invariant_of-self g c =
    subst (λ (n : ℕ). IsKnown c.self-3.inside.table c.change.new.self c.self-3.inside.generation n) (sym c.max.ensures)
    (known_changed c.self-3.inside.table c.self-3.inside.store c.change.new.self c.args.at.0 c.args.at.1 c.from-stamp.result c.self-3.inside.generation c.self-3.inside.last c.self-3.invariant c.in-Ok.ensures.changed)
