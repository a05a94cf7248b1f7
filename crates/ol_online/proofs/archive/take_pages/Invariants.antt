use Rattle.std.proofs.Common.{List, ℕ}
use Rattle.ol_values.specs.declared.line.Line.{Line}
use Rattle.ol_volume.specs.Written.{Written}
use Rattle.ol_online.specs.Playing.{IsCopying, Job, pages_ahead}
use Rattle.ol_online.proofs.archive.take_pages.Given as goal

abbrev pub invariant-loop-end : goal.invariant-loop-end
invariant-loop-end g l =
    (lines : List Line) (job : Job) (w : Written) → IsCopying lines l.line job w l.fn.core l.fn.writer 0 → (k : ℕ) × IsCopying lines l.line job w l.core l.writer k

abbrev pub decreases-loop-end : goal.decreases-loop-end
decreases-loop-end g l = pages_ahead l.core
