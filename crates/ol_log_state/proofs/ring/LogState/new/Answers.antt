use Rattle.std.proofs.Common.{List, [], ap, map, subst, ◌∙◌, ◌≡◌}
use Rattle.ol_record.specs.declared.head.LogHead.{LogHead}
use Rattle.ol_rules.specs.DiskValue.{ring_found}
use Rattle.ol_rules.specs.Ring.{Ring}
use Rattle.ol_values.specs.LogPages.{LogPage}
use Rattle.ol_log_state.specs.Files.{Files, greatest_of, uses_of_heads}
use Rattle.ol_log_state.specs.RingState.{ring_of, started}
use Rattle.ol_log_state.specs.StoredFiles.{heads_in}
use Rattle.ol_log_state.specs.Uses.{use_of}
use Rattle.ol_log_state.proofs.FoundLaws.{found_ring}
use Rattle.ol_log_state.proofs.ring.LogState.new.Goals as goal

pub returns-clause-ring : goal.returns-clause-ring
returns-clause-ring c = λ a logs uniq backed heads.
    (let start = c.args.start in
    let run = heads_in c.args.run.now in
    let found = found_ring c.logs-area.result a start logs uniq backed in
    ap (λ (f : Files). (let r : Ring = record { uses = map use_of f.uses; uniq = f.uniq; buffer = c.new-page.result.records } in r)) c.in_ok-files.ensures
    ∙ ap (λ (p : LogPage). (let r : Ring = record { uses = map use_of (uses_of_heads run); uniq = greatest_of c.max-uniq.result run; buffer = p.records } in r)) c.new-page.ensures
    ∙ ap (λ n. (let r : Ring = record { uses = map use_of (uses_of_heads run); uniq = greatest_of n run; buffer = [] } in r)) c.max-uniq.ensures
    ∙ subst (λ (l : List LogHead). ring_of (started c.logs-area.result start l) ≡ ring_found a logs) heads found)
