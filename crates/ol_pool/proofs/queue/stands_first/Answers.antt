use Rattle.std.proofs.Common.{sym, ◌∙◌}
use Rattle.ol_pool.specs.Frames.{same_place}
use Rattle.ol_pool.proofs.ListLaws.{begins, begins_none}
use Rattle.ol_pool.proofs.queue.stands_first.Goals as goal

pub returns-in-Some : goal.returns-in-Some
returns-in-Some c = c.is_same.ensures ∙ sym (begins (same_place c.args.place) c.args.places.now.items c.in-Some.first (sym c.in-Some.ensures))

pub returns-in-None : goal.returns-in-None
returns-in-None c = sym (begins_none (same_place c.args.place) c.args.places.now.items (sym c.in-None.ensures))
