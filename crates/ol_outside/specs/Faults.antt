-- The faults of a device in memory: the calls that were to fail, and the memory that was refused.
use Rattle.std.specs.Prelude.{ℕ, zero, suc, ◌+◌, ◌-◌, ◌^◌, ◌==◌, ◌≡◌, ◌⊎◌, nat_lt, ◌&&◌, Bool, true, false, if◌then◌else◌, min, List}
use Rattle.std.specs.List.{list_any}
use Rattle.ol_ports.specs.Causes.{risen}

pub record FaultState : Type 0 where
  -- the numbers of the calls that are to fail, from 1
  pub failing : List ℕ
  -- how many calls were made
  pub calls : ℕ
  -- how many faults there were
  pub count : ℕ
  -- how often memory was refused
  pub starved : ℕ

abbrev pub is_listed : List ℕ → ℕ → Bool
is_listed failing call = list_any (λ n. n == call) failing

-- how many of the first calls are listed
abbrev pub listed_among : List ℕ → ℕ → ℕ
listed_among failing zero = 0
listed_among failing (suc calls) = listed_among failing calls + (if is_listed failing (suc calls) then 1 else 0)

-- the faults are the listed calls that were reached and the refusals, as far as a u64 counts
abbrev pub count_of_faults : List ℕ → ℕ → ℕ → ℕ
count_of_faults failing calls starved = min (listed_among failing calls + starved) (2 ^ 64 - 1)

abbrev pub faults_in_all : FaultState → ℕ
faults_in_all s = count_of_faults s.failing s.calls s.starved

-- no call was made yet
abbrev pub no_calls : List ℕ → FaultState
no_calls failing = record { failing = failing; calls = 0; count = 0; starved = 0 }

-- whether the next call is to fail; a call past the greatest u64 has no number
abbrev pub next_fails : FaultState → Bool
next_fails s = nat_lt s.calls (2 ^ 64 - 1) && is_listed s.failing (s.calls + 1)

-- a call more, which failed or not
abbrev pub after_call : Bool → FaultState → FaultState
after_call failed s = record s { calls = risen s.calls; count = if failed then risen s.count else s.count }

-- a refusal of memory more
abbrev pub after_refusal : FaultState → FaultState
after_refusal s = record s { count = risen s.count; starved = risen s.starved }

-- what a call leaves: it failed where its number is listed, or where memory was refused
abbrev pub CountsCall : FaultState → Bool → FaultState → Type 0
CountsCall old false new = (next_fails old ≡ false) × (new ≡ after_call false old)
CountsCall old true new = ((next_fails old ≡ true) × (new ≡ after_call true old)) ⊎ ((next_fails old ≡ false) × (new ≡ after_refusal (after_call false old)))
