use Rattle.std.proofs.Common.{List, ap, rules, tests, ◌||◌, ◌∙◌}
use Rattle.std.proofs.lemmas.Iterator.{YieldsList-from_slice}
use Rattle.std.proofs.lemmas.Iterator.Search.{any_from_yields_List}
use Rattle.ol_rules.specs.Locks.{is_locked, owns, shares}
use Rattle.ol_txn.specs.Seats.{Seat, table_of}
use Rattle.ol_txn.proofs.SeatLaws.{locked_seats}
use Rattle.ol_txn.proofs.locks.Locks.locked.Goals as goal

pub returns : goal.returns
returns c =
    any_from_yields_List (λ (s : Seat). owns c.args.rid s.holding || shares c.args.rid s.holding) _ _ _ c.any.ensures.ran (YieldsList-from_slice c.self.inside.seats cc) (λ x b q k. search (rules, tests))
    ∙ locked_seats c.args.rid c.self.inside.seats
    ∙ ap (λ (l : List Seat). is_locked (table_of l) c.args.rid) c.self.view_is
