use Rattle.std.specs.Prelude.{Err, IfOk, ℕ, ◌+◌, ◌≡◌}
use Rattle.std.proofs.Common.{ap, subst, sym, ◌∙◌}
use Rattle.ol_ports.specs.Disk.{seen}
use Rattle.ol_log_places.specs.Places.{places}
use Rattle.ol_log_places.specs.Scanning.{HasScanCause}
use Rattle.ol_loglog.specs.Ready.{IsInOrder, IsReady}
use Rattle.ol_chunks.specs.Places.{log_area}
use Rattle.ol_loglog.specs.RingValue.{RingValue}
use Rattle.ol_log_opening.specs.Opened.{HasLogCause}
use Rattle.ol_log_opening.specs.declared.log.LogOpenFault.TheVariants.{DiskFault}
use Rattle.ol_log_opening.proofs.Causes.{scan_failed}
use Rattle.ol_log_opening.proofs.Opening.{opened_result, ready_result}
use Rattle.ol_log_opening.proofs.Whole.{lacks_clash, none_refused}
use Rattle.ol_log_opening.proofs.log.read_log.Goals as goal

pub returns-in-Ok-clause-opened : goal.returns-in-Ok-clause-opened
returns-in-Ok-clause-opened g c = opened_result c.args.table.now c.args.anchor.now c.in-Ok.standing.run c.in-Ok.standing.gates c.open_ring.result c.open_ring.ensures.value c.open_ring.ensures.whole

pub returns-in-Ok-clause-ready : goal.returns-in-Ok-clause-ready
returns-in-Ok-clause-ready g c tells quiet j last low at log near =
    subst (λ past. IfOk c.open_ring.result (λ ring. (ring.state.next ≡ last + 1) × IsReady past ring (places c.args.table.now (seen (g.D.Disk.past c.args.disk.now))) c.args.anchor.now.need j × IsInOrder c.args.table.now ring.state)) (sym (c.scan.ensures.past tells))
    (ready_result (g.D.Disk.past c.args.disk.now) c.args.table.now c.spaces-spaces.ensures.config c.args.anchor.now quiet j last low at log near c.in-Ok.standing.gates (c.in-Ok.ensures.gates tells)
    c.in-Ok.standing.run c.open_ring.result (c.in-Ok.ensures.run tells) c.in-Ok.ensures.fits c.open_ring.ensures.value c.open_ring.ensures.whole)

pub returns-in-Err-DiskFault-clause-cause : goal.returns-in-Err-DiskFault-clause-cause
returns-in-Err-DiskFault-clause-cause g c =
    subst (λ (k : ℕ). HasLogCause {T = RingValue} (log_area c.args.table.now).chunk (g.D.Disk.fault_counts c.args.disk.now) (g.D.Disk.fault_counts c.scan.new.disk) (Err (DiskFault k))) (sym c.in-Err-DiskFault.chunk-is)
    (scan_failed c.args.table.now (g.D.Disk.fault_counts c.args.disk.now) (g.D.Disk.fault_counts c.scan.new.disk) c.in-Err-DiskFault.chunk
    (subst (λ r. HasScanCause c.args.table.now (g.D.Disk.fault_counts c.args.disk.now) (g.D.Disk.fault_counts c.scan.new.disk) r) (c.in-Err-DiskFault.is ∙ ap Err c.in-Err-DiskFault.field-0-is) c.scan.ensures.cause))

pub returns-in-Ok-clause-whole : goal.returns-in-Ok-clause-whole
returns-in-Ok-clause-whole g c tells j last low at small log ends chunk page is =
    lacks_clash c.args.table.now (places c.args.table.now (seen (g.D.Disk.past c.args.disk.now))) j c.args.anchor.now.need c.args.anchor.now.position last c.in-Ok.standing.run log low at small ends (c.in-Ok.ensures.run tells) (c.open_ring.ensures.lack chunk page is)

pub returns-in-Err-BadDisk-clause-whole : goal.returns-in-Err-BadDisk-clause-whole
returns-in-Err-BadDisk-clause-whole g c tells j last low at small log ends chunk page is =
    none_refused c.args.table.now (places c.args.table.now (seen (g.D.Disk.past c.args.disk.now))) j c.args.anchor.now.need (last + 1) c.in-Err-BadDisk.chunk c.in-Err-BadDisk.page log
    (c.scan.ensures.bad tells c.in-Err-BadDisk.chunk c.in-Err-BadDisk.page (c.in-Err-BadDisk.is ∙ ap Err c.in-Err-BadDisk.field-0-is))
