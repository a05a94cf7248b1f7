use Rattle.std.proofs.Common.{ap, arith, drop, subst, sym, ◌<◌, ◌+◌, ◌∙◌}
use Rattle.std.specs.List.{AllByRecursion, find}
use Rattle.std.specs.Option.{option_or}
use Rattle.ol_log_state.specs.StoredFiles.{IsRoomy, helds}
use Rattle.ol_log_state.specs.Uses.{head_holds}
use Rattle.ol_log_state.proofs.FileLaws.{found_first, heads_of, use_at}
use Rattle.ol_log_state.proofs.ListLaws.{all_found}
use Rattle.ol_log_state.specs.Files.{Files}
use Rattle.ol_record.specs.declared.head.LogHead.{LogHead}
use Rattle.ol_log_state.proofs.log_files.LogFiles.find.Goals as goal

pub returns-in-Some-clause-value : goal.returns-in-Some-clause-value
returns-in-Some-clause-value c =
    let p = head_holds c.args.position in
    let items = c.deref-held-items.result.now in
    let later = find p (heads_of (helds (drop (c.loop-held.held-index + 1) items))) in
    let step = found_first p items c.loop-held.held-index c.held-item.result c.loop-held-test.true c.held-item.is in
    sym (sym c.loop-held.invariant ∙ step ∙ ap (λ o. option_or o later) (sym c.in-Some.ensures))

pub returns-in-Some-clause-index : goal.returns-in-Some-clause-index
returns-in-Some-clause-index c =
    let f = c.self.inside in
    let roomy = subst (AllByRecursion (IsRoomy f.area.pages)) (sym c.deref-held-items.ensures.value) c.self.invariant.roomy in
    let one = use_at (IsRoomy f.area.pages) c.deref-held-items.result.now c.loop-held.held-index c.held-item.result c.loop-held-test.true c.held-item.is roomy in
    let below = all_found (λ (h : LogHead). h.index < f.area.pages) (head_holds c.args.position) c.held-item.result.held.heads c.in-Some.head one.placed (sym c.in-Some.ensures) in
    omega (arith, below, ap (λ (g : Files). g.area.pages) c.self.view_is)

pub loop-held-preserved : goal.loop-held-preserved
loop-held-preserved c =
    let p = head_holds c.args.position in
    let items = c.deref-held-items.result.now in
    let later = find p (heads_of (helds (drop (c.loop-held.held-index + 1) items))) in
    let step = found_first p items c.loop-held.held-index c.held-item.result c.loop-held-test.true c.held-item.is in
    sym (step ∙ ap (λ o. option_or o later) (sym c.in_default.ensures)) ∙ c.loop-held.invariant
