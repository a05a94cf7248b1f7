-- What the rules say of the ring's own log files they say of the installation's.
use Rattle.std.specs.Prelude.{None, Option, Some, ℕ, ◌-◌, ◌≡◌}
use Rattle.std.proofs.Common.{ap, refl, ◌∙◌}
use Rattle.ol_values.specs.Config.{Config}
use Rattle.ol_rules.specs.Ring.{Ring, Use, blocker, file_of, following, free, held, is_reusable, to_back_up, use_numbered}
use Rattle.ol_chunks.specs.Places.{log_area}
use Rattle.ol_chunks.specs.declared.table.Area.{Area}
use Rattle.ol_log_state.specs.Files.{is_closed_use, log_config}
use Rattle.ol_log_state.specs.RingState.{RingState, config_of, ring_of}
use Rattle.ol_loglog.proofs.Steps.{room_is}

module _ (c : Config) (s : RingState) (area : s.files.area ≡ log_area c) where
  pub free_is : free (config_of s) s.reuse (ring_of s) ≡ free c s.reuse (ring_of s)
  free_is = ap (λ n. n - held (ring_of s)) (room_is c s area)

  pub following_is : following (config_of s) s.reuse (ring_of s) ≡ following c s.reuse (ring_of s)
  following_is = ap (λ (a : Area). following (log_config a) s.reuse (ring_of s)) area

  pub blocker_is : blocker (config_of s) s.reuse (ring_of s) ≡ blocker c s.reuse (ring_of s)
  blocker_is = ap (λ (a : Area). blocker (log_config a) s.reuse (ring_of s)) area

  pub reusable_is : (uniq : ℕ) → is_reusable (config_of s) s.reuse (ring_of s) (file_of (config_of s) uniq) ≡ is_reusable c s.reuse (ring_of s) (file_of c uniq)
  reusable_is uniq = ap (λ (a : Area). is_reusable (log_config a) s.reuse (ring_of s) (file_of (log_config a) uniq)) area

  pub unbacked_is : to_back_up (config_of s) s.reuse (ring_of s) ≡ to_back_up c s.reuse (ring_of s)
  unbacked_is = ap (λ (a : Area). to_back_up (log_config a) s.reuse (ring_of s)) area

closed_same : (c : Config) (r : Ring) (o : Option Use) → is_closed_use (log_config (log_area c)) r o ≡ is_closed_use c r o
closed_same c r None = refl
closed_same c r (Some u) = refl

pub closed_is : (c : Config) (s : RingState) → s.files.area ≡ log_area c → is_closed_use (config_of s) (ring_of s) (use_numbered (ring_of s) s.files.uniq) ≡ is_closed_use c (ring_of s) (use_numbered (ring_of s) s.files.uniq)
closed_is c s area = ap (λ (a : Area). is_closed_use (log_config a) (ring_of s) (use_numbered (ring_of s) s.files.uniq)) area ∙ closed_same c (ring_of s) (use_numbered (ring_of s) s.files.uniq)
