use Rattle.std.proofs.Common.{length, ◌+◌, ◌-◌}
use Rattle.ol_log_state.proofs.RegularLaws.{last_stays, needed_stays}
use Rattle.ol_log_state.proofs.laws.needed_positions_stay.Goals as goal

pub returns-clause-needed : goal.returns-clause-needed
returns-clause-needed c = λ k m r last position is uniq files some needed before.
    needed_stays k m r (last + 1 - length r.buffer) (length r.buffer) position is uniq files some needed before

pub returns-clause-last : goal.returns-clause-last
returns-clause-last c = λ k r last position is uniq files there others before.
    last_stays k r (last + 1 - length r.buffer) (length r.buffer) position is uniq files there others before
