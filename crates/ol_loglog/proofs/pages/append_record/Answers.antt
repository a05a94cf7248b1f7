use Rattle.std.proofs.Common.{ap, subst, sym, ◌∙◌}
use Rattle.ol_log_state.specs.RingState.{RingState}
use Rattle.ol_loglog.specs.RingValue.{ring_value}
use Rattle.ol_loglog.specs.Ready.{IsInOrder, IsReady}
use Rattle.ol_loglog.proofs.Kept.{order_buffered}
use Rattle.ol_loglog.proofs.Readies.{ready_buffered}
use Rattle.ol_loglog.proofs.pages.append_record.Goals as goal

pub returns-in-Ok-clause-ok : goal.returns-in-Ok-clause-ok
returns-in-Ok-clause-ok g c tells r floor j ready free here =
    let t = c.args.table.now in
    let past = g.D.Disk.past c.flush_full_page.new.disk in
    let gates = c.flush_full_page.new.gates.items in
    let next = c.in-Ok.ensures.ok tells r floor j ready free in (
      next.0,
      subst (λ (s : RingState). IsReady past (ring_value t s gates) next.0 floor j) (sym c.push.ensures)
          (ready_buffered t c.flush_full_page.new.state gates past next.0 floor j c.args.rec.now c.in-Ok.ensures.limits.first next.1 (ap j c.in-Ok.ensures.next ∙ here)),
    )

pub returns-in-Ok-clause-order : goal.returns-in-Ok-clause-order
returns-in-Ok-clause-order g c order =
    subst (λ (s : RingState). IsInOrder c.args.table.now s) (sym c.push.ensures) (order_buffered c.args.table.now c.flush_full_page.new.state c.args.rec.now c.in-Ok.ensures.limits.first (c.in-Ok.ensures.order order))
