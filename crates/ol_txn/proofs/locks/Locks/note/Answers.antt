use Rattle.ol_txn.proofs.SeatLaws.{one_more, owed_changed, owed_result, sound_set}
use Rattle.ol_txn.proofs.locks.Locks.note.Goals as goal

pub invariant_of-self : goal.invariant_of-self
invariant_of-self c =
    let owes = owed_result c.note.result 1 _ _ _ c.note.ensures.ok c.note.ensures.unchanged (owed_changed _ _) in
    sound_set c.self.inside.seats c.args.session 1 c.index-self-session.result _ c.self.invariant c.requires.session owes (one_more _ _ c.self.view_is c.requires.owed)
