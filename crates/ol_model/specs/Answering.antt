-- How a turn answers: with the first refusal whose condition holds, else with its answer.
use Rattle.std.specs.Prelude.{Bool, List, [], if◌then◌else◌, ◌∷◌}
use Rattle.ol_values.specs.declared.event.Reply.{Reply}
use Rattle.ol_values.specs.declared.event.Reply.TheVariants.{JournalFull, LogsFull}
use Rattle.ol_rules.specs.Ring.{blocker}
use Rattle.ol_model.specs.Machine.{Machine, config_of, journal_full, logs_full, reuse_of}

-- the first of these refusals whose condition holds, which leaves the state as it was, else the answer
abbrev pub unless : Machine → List (Bool × Reply) → Reply × Machine → Reply × Machine
unless m [] answer = answer
unless m (r ∷ rest) answer = if r.0 then (r.1, m) else unless m rest answer

-- the refusals of a turn with a record, for want of room
abbrev pub no_room : Machine → List (Bool × Reply)
no_room m = (journal_full m, JournalFull) ∷ (logs_full m, LogsFull (blocker (config_of m) (reuse_of m) m.log.ring)) ∷ []
