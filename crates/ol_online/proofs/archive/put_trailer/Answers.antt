use Rattle.std.proofs.Common.{List, subst, sym, ℕ}
use Rattle.ol_values.specs.Blocks.{ArchiveHead}
use Rattle.ol_volume.specs.Written.{EndsPut, Puts}
use Rattle.ol_online.specs.Blocks.{IsHead}
use Rattle.ol_online.proofs.ArchiveLaws.{finished, head_is, sync_refused, trailer_is, trailer_put, trailer_refused}
use Rattle.ol_online.proofs.archive.put_trailer.Goals as goal

pub returns-in-Err-clause-ended : goal.returns-in-Err-clause-ended
returns-in-Err-clause-ended g c lines line job w k head copied =
    let is = trailer_is job k c.args.core.now c.in-Some.archive copied.running c.in-Some.ensures.value in
    let here = subst (λ (h : ArchiveHead). IsHead h c.args.used c.args.payload.now) (sym (head_is job k c.args.core.now c.in-Some.archive copied.running c.in-Some.ensures.value)) head in
    trailer_refused _ _ _ _ _ _ _ _ _ copied (subst (λ (x : List ℕ). EndsPut c.args.writer.now x c.put_end.new.writer c.in-Err.end) is (c.in-Err.ensures.err job.config here))

pub returns-in-Ok-finish-clause-copied : goal.returns-in-Ok-finish-clause-copied
returns-in-Ok-finish-clause-copied g c lines line job w k head copied =
    let is = trailer_is job k c.args.core.now c.in-Some.archive copied.running c.in-Some.ensures.value in
    let here = subst (λ (h : ArchiveHead). IsHead h c.args.used c.args.payload.now) (sym (head_is job k c.args.core.now c.in-Some.archive copied.running c.in-Some.ensures.value)) head in
    finished _ _ _ _ _ _ _ _ _ copied (trailer_put _ _ _ _ _ _ _ _ copied (subst (λ (x : List ℕ). Puts c.args.writer.now x c.put_end.new.writer) is (c.in-Ok.ensures.ok job.config here))) c.in-Ok-finish.ensures.ok

pub returns-in-Err-finish-clause-ended : goal.returns-in-Err-finish-clause-ended
returns-in-Err-finish-clause-ended g c lines line job w k head copied =
    let is = trailer_is job k c.args.core.now c.in-Some.archive copied.running c.in-Some.ensures.value in
    let here = subst (λ (h : ArchiveHead). IsHead h c.args.used c.args.payload.now) (sym (head_is job k c.args.core.now c.in-Some.archive copied.running c.in-Some.ensures.value)) head in
    sync_refused _ _ _ _ _ _ _ _ _ _ copied (trailer_put _ _ _ _ _ _ _ _ copied (subst (λ (x : List ℕ). Puts c.args.writer.now x c.put_end.new.writer) is (c.in-Ok.ensures.ok job.config here))) c.in-Err-finish.ensures.err
