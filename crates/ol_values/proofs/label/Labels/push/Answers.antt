use Rattle.std.proofs.Common.{◌∷◌, [], ap, length, arith}
use Rattle.ol_values.specs.Held.{held_set, length-held}
use Rattle.ol_values.proofs.label.Labels.push.Goals as goal

pub invariant_of-self : goal.invariant_of-self
invariant_of-self c =
    let is = length-held (46 ∷ []) 16 c.self.inside.count c.self.inside.labels c.self.invariant in
    held_set (46 ∷ []) 16 c.self.inside.count c.args.label c.self.inside.labels (omega (arith, is, ap length c.self.view_is)) c.self.invariant
