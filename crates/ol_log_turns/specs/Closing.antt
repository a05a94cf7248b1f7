-- When the current log file may be closed.
use Rattle.std.specs.Prelude.{Bool, None, Option, Some, not, ◌==◌}
use Rattle.ol_values.specs.Config.{Config}
use Rattle.ol_rules.specs.Ring.{Ring, Use, held, is_closed, use_numbered}
use Rattle.ol_log_state.specs.RingState.{ring_of}
use Rattle.ol_loglog.specs.RingValue.{RingValue}

-- it is open, and a page of it is written or a record is buffered
abbrev pub may_close_use : Config → Ring → Option Use → Bool
may_close_use c r None = not (held r == 0)
may_close_use c r (Some u) = not (is_closed c r u)

abbrev pub may_close : RingValue → Bool
may_close v = may_close_use v.config (ring_of v.state) (use_numbered (ring_of v.state) v.state.files.uniq)
