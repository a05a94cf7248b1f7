-- What the calls of a store want to be known of it.
use Rattle.std.specs.Prelude.{ℕ, ◌≡◌, ◌≤◌}
use Rattle.ol_values.specs.Config.{Config}
use Rattle.ol_store.specs.Stores.{Store}

-- its configuration and generation, and a limit of the stamps that changes gave and of the flushed position
pub record IsKnown (c : Config) (s : Store) (number limit : ℕ) : Type 0 where
  pub config : s.config ≡ c
  pub generation : s.log.generation ≡ number
  pub flushed : s.flushed ≤ limit
  pub last : s.last ≤ limit
