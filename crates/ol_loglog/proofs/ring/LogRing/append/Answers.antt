use Rattle.std.proofs.Common.{OnOk, subst, ℕ, ◌≡◌}
use Rattle.ol_ports.specs.Frames.{ReadsOutside}
use Rattle.ol_ports.specs.Stops.{Stops}
use Rattle.ol_log_places.specs.Places.{Place, in_log}
use Rattle.ol_log_places.specs.Runs.{HoldsLog}
use Rattle.ol_log_state.specs.Files.{next_page}
use Rattle.ol_loglog.specs.RingValue.{RingValue, first_unwritten, ring_value}
use Rattle.ol_loglog.specs.Ready.{IsNextFree, IsReady}
use Rattle.ol_loglog.proofs.ring.LogRing.append.Goals as goal

pub returns-clause-ok : goal.returns-clause-ok
returns-clause-ok g c tells r floor j ready free here =
    subst (λ (v : RingValue). IsReady (g.D.Disk.past c.args.disk.now) v r floor j → IsNextFree v r floor → j v.state.next ≡ c.args.rec.now
    → OnOk c.append_record.result ((s : ℕ → Place) × IsReady (g.D.Disk.past c.append_record.new.disk) (ring_value c.self.inside.table c.append_record.new.state c.append_record.new.gates.items) s floor j)) c.self.view_is
    (λ is next told. c.append_record.ensures.ok tells r floor j is next told) ready free here

pub returns-clause-stops : goal.returns-clause-stops
returns-clause-stops g c tells r floor j ready free =
    subst (λ (v : RingValue). IsReady (g.D.Disk.past c.args.disk.now) v r floor j → IsNextFree v r floor → Stops (g.D.Disk.past c.args.disk.now) (g.D.Disk.past c.append_record.new.disk) (HoldsLog v.config j floor (first_unwritten v.state) v.state.next (next_page v.state.files).uniq)) c.self.view_is
    (λ is next. c.append_record.ensures.stops tells r floor j is next) ready free

pub returns-clause-reads : goal.returns-clause-reads
returns-clause-reads g c tells =
    subst (λ (v : RingValue). OnOk c.append_record.result (ReadsOutside (g.D.Disk.past c.args.disk.now) (g.D.Disk.past c.append_record.new.disk) (in_log v.config))) c.self.view_is (c.append_record.ensures.reads tells)
