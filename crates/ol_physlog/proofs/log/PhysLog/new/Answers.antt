use Rattle.std.proofs.Common.{sym, subst}
use Rattle.ol_physlog.specs.States.{IsLaid, IsLog, Log}
use Rattle.ol_physlog.proofs.BeginLaws.{begun_is, begun_laid, log_begun_by}
use Rattle.ol_physlog.proofs.log.PhysLog.new.Goals as goal

pub invariant_of-result : goal.invariant_of-result
invariant_of-result c = (
  subst (λ (s : Log). IsLog s) (sym (begun_is c.args.table.now c.args.generation c.args.entries.now _ _ _ _ _ c.area_of-area.ensures.value c.in_ok-order.ensures c.in_ok-places.ensures.keys c.count-settled.ensures.value c.in_ok-gates.ensures))
      (log_begun_by c.args.table.now c.args.generation c.args.entries.now c.area_of-area.result c.area_of-area.ensures.value c.count-settled.ensures.found c.requires c.area_of-area.ensures.count.0 c.area_of-area.ensures.pages c.area_of-area.ensures.fits c.ranges.generation.fits),
  c.in_ok-places.ensures.room,
)

pub returns-clause-laid : goal.returns-clause-laid
returns-clause-laid c past tells settled older =
    subst (λ (s : Log). IsLaid c.args.table.now past s c.args.entries.now.images)
    (sym (begun_is c.args.table.now c.args.generation c.args.entries.now _ _ _ _ _ c.area_of-area.ensures.value c.in_ok-order.ensures c.in_ok-places.ensures.keys c.count-settled.ensures.value c.in_ok-gates.ensures))
    (begun_laid c.args.table.now c.args.generation past c.args.entries.now c.count-settled.ensures.found
    (log_begun_by c.args.table.now c.args.generation c.args.entries.now c.area_of-area.result c.area_of-area.ensures.value c.count-settled.ensures.found c.requires c.area_of-area.ensures.count.0 c.area_of-area.ensures.pages c.area_of-area.ensures.fits c.ranges.generation.fits) tells settled older)
