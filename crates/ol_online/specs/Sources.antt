-- How much of its source a command reads.
use Rattle.std.specs.Prelude.{Err, List, Ok, Option, Result, Some, take, ℕ, ◌≡◌, ◌≢◌}
use Rattle.std.specs.Io.KnownBytes.{Consumes}
use Rattle.ol_script.specs.Script.{script_limit}
use Rattle.ol_online.specs.declared.status.Status.{Status}
use Rattle.ol_online.specs.declared.status.Status.TheVariants.{NoMemory, Ok as Done, ReadFault}
use Rattle.ol_online.specs.declared.words.Verb.{Verb}
use Rattle.ol_online.specs.declared.words.Verb.TheVariants.{Init, Play}
use Rattle.ol_online.specs.Initing.{config_limit}

-- the most bytes that a command reads
abbrev pub limit_of : Verb → ℕ
limit_of Init = config_limit
limit_of Play = script_limit

-- but for a fault of the source and want of memory, exactly the first so many of the bytes that were left are gone from it, or all where they are fewer
abbrev pub TakesTo : ℕ → Option (List ℕ) → Option (List ℕ) → Status → Type 0
TakesTo limit old new status =
    status ≢ ReadFault → status ≢ NoMemory → (left : List ℕ) → old ≡ Some left → Consumes old new (take limit left)

-- the status of work that may be refused
abbrev pub status_in : {T : Type 0} → Result T Status → Status
status_in (Ok x) = Done
status_in (Err status) = status
