use Rattle.std.specs.Prelude.{Err, ◌≡◌}
use Rattle.std.proofs.Common.{subst, sym, ◌∙◌}
use Rattle.ol_log_places.proofs.Listed.{err_again}
use Rattle.ol_loglog.specs.PageReads.{HoldsPage}
use Rattle.ol_loglog.specs.Ready.{IsReady}
use Rattle.ol_loglog.specs.RingValue.{RingValue, ring_value}
use Rattle.ol_loglog.specs.declared.reading.LogReadFault.TheVariants.{Bad}
use Rattle.ol_loglog.proofs.FoundPages.{bad_failed, held_page, never_wrong}
use Rattle.ol_loglog.proofs.ring.LogRing.read.Goals as goal

pub returns-in-Ok-clause-content : goal.returns-in-Ok-clause-content
returns-in-Ok-clause-content g c tells r floor j ready =
    let v : RingValue = ring_value c.self.inside.table c.self.inside.state c.self.inside.gates.items in
    let holds = sym c.stood.ensures.value ∙ c.in-Some.is in
    let read = c.in-Ok.ensures.bytes tells (λ e. cc) in
    let page = c.in-Ok.ensures.right in
    subst (λ (w : RingValue). IsReady (g.D.Disk.past c.args.disk.now) w r floor j → HoldsPage w.config r j c.in-Some.stood.head c.read_page.new.buf) c.self.view_is
    (λ is. held_page (g.D.Disk.past c.args.disk.now) v r floor j is c.self.invariant.area c.args.position c.in-Some.stood holds c.read_page.new.buf read c.in-Ok.ensures.spelled page.found page.is) ready

pub returns-in-Err-clause-good : goal.returns-in-Err-clause-good
returns-in-Err-clause-good g c tells r floor j ready chunk page is =
    let v : RingValue = ring_value c.self.inside.table c.self.inside.state c.self.inside.gates.items in
    let holds = sym c.stood.ensures.value ∙ c.in-Some.is in
    let same : c.read_page.result ≡ Err (Bad chunk page) = c.in-Err.is ∙ err_again c.in-Err.fault (Bad chunk page) is in
    let bad = c.read_page.ensures.bad chunk page same in
    let read = c.read_page.ensures.bytes tells (λ failed. bad_failed c.read_page.result chunk page same failed) in
    subst (λ (w : RingValue). IsReady (g.D.Disk.past c.args.disk.now) w r floor j → ⊥) c.self.view_is
    (λ ready_there. never_wrong (g.D.Disk.past c.args.disk.now) v r floor j ready_there c.self.invariant.area c.args.position c.in-Some.stood holds c.read_page.new.buf read bad.3 bad.2) ready
