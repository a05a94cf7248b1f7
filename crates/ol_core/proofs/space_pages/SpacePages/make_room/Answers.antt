use Rattle.std.proofs.Common.{subst, sym}
use Rattle.ol_core.specs.Filled.{Filled, IsFilled}
use Rattle.ol_core.proofs.Held.{filled_grown}
use Rattle.ol_core.proofs.space_pages.SpacePages.make_room.Goals as goal

pub returns-in_ok-push-clause-kept : goal.returns-in_ok-push-clause-kept
returns-in_ok-push-clause-kept c pages journal space k =
    filled_grown pages journal space c.self.inside.rows c.self.inside.images.items c.push.new.self.items c.in_ok-push.ensures.items (subst (λ (f : Filled). IsFilled pages journal space f) (sym c.self.view_is) k)
