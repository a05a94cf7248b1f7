-- What an image of the disk stands for, as a stop may leave it.
use Rattle.std.specs.Prelude.{max, ℕ, ◌+◌, ◌≡◌, ◌≤◌, Some, ◌⊎◌}
use Rattle.ol_values.specs.Config.{Config, config_text}
use Rattle.ol_rules.specs.Start.{low_behind, upto}
use Rattle.ol_ports.specs.Disk.{Bytes}
use Rattle.ol_reserve.specs.Pair.{Newest}
use Rattle.ol_reserve.specs.declared.anchor.Anchor.{Anchor}
use Rattle.ol_log_places.specs.Places.{places}
use Rattle.ol_log_places.specs.Runs.{IsLogged, IsNear}
use Rattle.ol_store.specs.Holding.{HoldsPages}
use Rattle.ol_storage.specs.Behind.{Behind, pages_of, record_at}

-- an anchor is that of a checkpoint at one of these positions, with the need there, on line and of this configuration
pub record IsAnchorOf (c : Config) (g : Behind) (a : Anchor) : Type 0 where
  pub online : a.state ≡ 1
  pub text : a.text ≡ config_text c
  pub from : g.start.last ≤ a.position
  pub to : a.position ≤ g.reached
  pub need : a.need ≡ low_behind g.start (upto g.start g.records a.position)

-- the unique number that an opening with this anchor begins with, where no page has a greater one
abbrev pub first_number : Anchor → ℕ
first_number a = max a.uniq (a.backed + 1)

-- an image of the disk: this anchor is the newest, of a checkpoint at or before the last position; each page of a space that is up, overlaid with its counting entry, is as at the checkpoint, and the log pages hold the records from the need on to the last, and nothing behind it; the number that an opening begins with is at most one above the last page's
pub record Stands (c : Config) (g : Behind) (a : Anchor) (last : ℕ) (d : Bytes) : Type 0 where
  pub newest : Newest d (Some a)
  pub checkpoint : IsAnchorOf c g a
  pub position : a.position ≤ last
  pub pages : HoldsPages c a.generation (pages_of a g) d
  pub log : IsLogged c (places c d) (record_at g) a.need (last + 1)
  pub near : IsNear c (places c d) (first_number a) (last + 1)

-- it stands for the records up to some position between two
pub record StandsFrom (c : Config) (g : Behind) (a : Anchor) (flushed total : ℕ) (d : Bytes) : Type 0 where
  pub last : ℕ
  pub from : flushed ≤ last
  pub to : last ≤ total
  pub stands : Stands c g a last d

-- by the one anchor or the other
abbrev pub StandsBetween : Config → Behind → Anchor → Anchor → ℕ → ℕ → Bytes → Type 0
StandsBetween c g old new flushed total d = StandsFrom c g old flushed total d ⊎ StandsFrom c g new flushed total d
