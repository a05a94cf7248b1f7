use Rattle.std.proofs.Common.{List, drop, ◌++◌}
use Rattle.ol_values.specs.declared.line.Line.{Line}
use Rattle.ol_values.specs.Config.{Config}
use Rattle.ol_core.specs.Lines.{First}
use Rattle.ol_core.specs.Core.{IsIdle}
use Rattle.ol_online.specs.Playing.{IsReached, IsWaiting}
use Rattle.ol_online.proofs.play.play_session.Given as goal

abbrev pub invariant-loop-line : goal.invariant-loop-line
invariant-loop-line l = record {
  idle : IsIdle l.core;
  waiting : (c : Config) → IsWaiting c l.fn.core → IsWaiting c l.core;
  reached : (c : Config) (all rest : List Line) → IsReached c all l.fn.core (l.lines ++ rest) First → IsReached c all l.core (drop l.line-index l.lines ++ rest) First;
}
