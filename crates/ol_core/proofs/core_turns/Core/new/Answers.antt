use Rattle.std.proofs.Common.{refl, sym}
use Rattle.ol_core.proofs.Kept.{kept_new, moved}
use Rattle.ol_core.proofs.core_turns.Core.new.Goals as goal

pub invariant_of-result : goal.invariant_of-result
invariant_of-result c = moved (sym c.new-2.ensures.items) refl refl (sym c.new-3.ensures) (kept_new _ _ _ c.spaces.ensures.config c.spaces.ensures.value c.in_ok-pages.ensures)
