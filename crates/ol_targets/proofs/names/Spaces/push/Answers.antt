use Rattle.std.proofs.Common.{ap, arith, length}
use Rattle.ol_values.specs.Held.{held_set, length-held}
use Rattle.ol_targets.proofs.names.Spaces.push.Goals as goal

pub invariant_of-self : goal.invariant_of-self
invariant_of-self c =
    let is = length-held 0 16 c.self.inside.count c.self.inside.numbers c.self.invariant in
    held_set 0 16 c.self.inside.count c.args.space c.self.inside.numbers (omega (arith, is, ap length c.self.view_is)) c.self.invariant
