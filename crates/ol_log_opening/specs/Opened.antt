-- The log of a disk that is opened.
use Rattle.std.specs.Prelude.{Bool, IsErrOf, List, Result, [], nat_le, nat_lt, ℕ, ◌&&◌, ◌+◌, ◌<◌, ◌^◌, ◌||◌, ◌∷◌, ◌≡◌, ◌≤◌}
use Rattle.ol_values.specs.Config.{Config, log_pages}
use Rattle.ol_values.specs.LogPages.{LogPage}
use Rattle.ol_rules.specs.Ring.{Reuse}
use Rattle.ol_ports.specs.Causes.{HasFailed}
use Rattle.ol_reserve.specs.declared.anchor.Anchor.{Anchor}
use Rattle.ol_log_places.specs.Heads.{end_in}
use Rattle.ol_log_places.specs.Places.{Place}
use Rattle.ol_log_places.specs.Runs.{Stands, end_of}
use Rattle.ol_log_places.specs.declared.heads.Stood.{Stood}
use Rattle.ol_log_state.specs.declared.places.RingStart.{RingStart}
use Rattle.ol_loglog.specs.Ready.{IsNextUnbacked}
use Rattle.ol_loglog.specs.RingValue.{RingValue}
use Rattle.ol_log_opening.specs.declared.log.LogOpenFault.{LogOpenFault}
use Rattle.ol_log_opening.specs.declared.log.LogOpenFault.TheVariants.{DiskFault}

-- the position behind the last of some pages, or another where there are none
abbrev pub end_behind : ℕ → List Stood → ℕ
end_behind end_ [] = end_
end_behind end_ (s ∷ run) = end_behind (end_in s) run

-- the position of the next record: behind a run, or behind the checkpoint where there is none
abbrev pub next_behind : ℕ → List Stood → ℕ
next_behind position run = end_behind (position + 1) run

-- whether a run lacks a position that an anchor with this checkpoint and need wants: one from the need to the checkpoint, or it ends before the checkpoint or begins behind the position after it; no journal has a checkpoint from 2^62 on
abbrev pub lacks_in : ℕ → ℕ → List Stood → Bool
lacks_in position need [] = nat_le need position
lacks_in position need (s ∷ run) = (nat_le need position && nat_lt need s.head.first) || (nat_lt (position + 1) s.head.first || nat_le (end_behind (end_in s) run) position)

abbrev pub lacks : ℕ → ℕ → List Stood → Bool
lacks position need run = nat_le (2 ^ 62) position || lacks_in position need run

-- where some page stands, one ends just before this position
abbrev pub EndsAt : Config → (ℕ → Place) → ℕ → Type 0
EndsAt c r upto = (p : LogPage) → Stands r (log_pages c) p → (q : LogPage) × Stands r (log_pages c) q × (end_of q ≡ upto)

-- the numbers that a ring starts with, for an anchor and the position of the next record
abbrev pub ring_start : Anchor → ℕ → RingStart
ring_start a next = record { incarnation = a.incarnation; uniq = a.uniq; backed = a.backed; need = a.need; next = next }

-- a ring that an opening gives: of this configuration and anchor, with nothing buffered and room for positions behind the checkpoint
pub record IsOpenedLog (c : Config) (a : Anchor) (r : RingValue) : Type 0 where
  pub config : r.config ≡ c
  pub buffer : r.state.buffer ≡ []
  pub reuse : r.state.reuse ≡ (let m : Reuse = record { backed = a.backed; need = a.need } in m)
  pub uniq : a.uniq ≤ r.state.files.uniq
  pub position : a.position < r.state.next
  pub unbacked : IsNextUnbacked r.state

-- counts of faults never fall; a fault of the disk raises that of the log's chunk, and no other answer changes any
pub record HasLogCause {T : Type 0} (log : ℕ) (before now : ℕ → ℕ) (result : Result T LogOpenFault) : Type 0 where
  pub later : (chunk : ℕ) → before chunk ≤ now chunk
  pub fault : (chunk : ℕ) → IsErrOf result (DiskFault chunk) → (chunk ≡ log) × HasFailed chunk before now
  pub kept : ((chunk : ℕ) → IsErrOf result (DiskFault chunk) → ⊥) → now ≡ before
