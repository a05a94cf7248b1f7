use Rattle.std.specs.Prelude.{Err, IfSome, IsErrOf, Option, false, ℕ, ◌≡◌}
use Rattle.std.proofs.Common.{ap, subst, ◌∙◌}
use Rattle.ol_ports.specs.Stops.{Stops}
use Rattle.ol_log_places.specs.declared.heads.Stood.{Stood}
use Rattle.ol_storage.specs.Behind.{Behind, record_at}
use Rattle.ol_storage.specs.Causes.{HasStorageCause}
use Rattle.ol_storage.specs.Installation.{Held, Installation, config_of, flushed_of}
use Rattle.ol_storage.specs.LogReads.{HoldsRecords}
use Rattle.ol_storage.specs.Standing.{StandsFrom}
use Rattle.ol_storage.specs.Storing.{IsStored}
use Rattle.ol_storage.specs.declared.storage.StorageFault.TheVariants.{Bad, Failed}
use Rattle.ol_storage.proofs.Images.{Known}
use Rattle.ol_storage.proofs.LogReads.{page_records, read_failed, read_stops}
use Rattle.ol_storage.proofs.storage.Storage.read_log_page.Goals as goal

pub returns-in-Ok-clause-content : goal.returns-in-Ok-clause-content
returns-in-Ok-clause-content g c =
    subst (λ (h : Held _). g.D.Disk.tells → (b : Behind) → IsStored (g.D.Disk.past h.disk) h.now b → IfSome c.in-Ok.found (λ (s : Stood). HoldsRecords b s.head c.read.new.buf)) c.self.view_is
    (λ tells b is. page_records c.self.inside.ring.config is.log.places b c.read.new.buf c.in-Ok.found (c.in-Ok.ensures.content tells is.log.places is.log.floor (record_at b) is.log.ready))

pub returns-in-Ok-clause-stops : goal.returns-in-Ok-clause-stops
returns-in-Ok-clause-stops g c =
    let v : Installation = record { ring = c.self.inside.ring; store = c.self.inside.store; anchor = c.self.inside.anchor; reached = c.self.inside.reached; stopped = c.self.inside.stopped } in
    let stopped : c.self.inside.stopped ≡ false = ap (λ (h : Held _). h.now.stopped) c.self.view_is ∙ c.requires in
    let known : Known v = record { going = c.self.invariant.going stopped; ring = c.reusable.ensures.limits; area = c.spare.ensures.store.area } in
    subst (λ (h : Held _). g.D.Disk.tells → (b : Behind) → IsStored (g.D.Disk.past h.disk) h.now b → Stops (g.D.Disk.past h.disk) (g.D.Disk.past c.read.new.disk) (StandsFrom (config_of h.now) b h.now.anchor (flushed_of h.now) (flushed_of h.now))) c.self.view_is
    (λ tells b is. read_stops (g.D.Disk.past c.self.inside.disk) (g.D.Disk.past c.read.new.disk) v b known is (c.read.ensures.past tells))

pub returns-in-Err-Bad-clause-good : goal.returns-in-Err-Bad-clause-good
returns-in-Err-Bad-clause-good g c =
    subst (λ (h : Held _). g.D.Disk.tells → (b : Behind) → IsStored (g.D.Disk.past h.disk) h.now b → (chunk page : ℕ) → IsErrOf {T = Option Stood} (Err (Bad c.in-Err-Bad.chunk c.in-Err-Bad.page)) (Bad chunk page) → ⊥) c.self.view_is
    (λ tells b is chunk page same. c.read.ensures.good tells is.log.places is.log.floor (record_at b) is.log.ready c.in-Err-Bad.chunk c.in-Err-Bad.page (c.in-Err-Bad.is ∙ ap Err c.in-Err-Bad.field-0-is))

pub returns-in-Err-Bad-clause-stops : goal.returns-in-Err-Bad-clause-stops
returns-in-Err-Bad-clause-stops g c =
    let v : Installation = record { ring = c.self.inside.ring; store = c.self.inside.store; anchor = c.self.inside.anchor; reached = c.self.inside.reached; stopped = c.self.inside.stopped } in
    let stopped : c.self.inside.stopped ≡ false = ap (λ (h : Held _). h.now.stopped) c.self.view_is ∙ c.requires in
    let known : Known v = record { going = c.self.invariant.going stopped; ring = c.reusable.ensures.limits; area = c.spare.ensures.store.area } in
    subst (λ (h : Held _). g.D.Disk.tells → (b : Behind) → IsStored (g.D.Disk.past h.disk) h.now b → Stops (g.D.Disk.past h.disk) (g.D.Disk.past c.read.new.disk) (StandsFrom (config_of h.now) b h.now.anchor (flushed_of h.now) (flushed_of h.now))) c.self.view_is
    (λ tells b is. read_stops (g.D.Disk.past c.self.inside.disk) (g.D.Disk.past c.read.new.disk) v b known is (c.read.ensures.past tells))

pub returns-in-Err-Failed-clause-stops : goal.returns-in-Err-Failed-clause-stops
returns-in-Err-Failed-clause-stops g c =
    let v : Installation = record { ring = c.self.inside.ring; store = c.self.inside.store; anchor = c.self.inside.anchor; reached = c.self.inside.reached; stopped = c.self.inside.stopped } in
    let stopped : c.self.inside.stopped ≡ false = ap (λ (h : Held _). h.now.stopped) c.self.view_is ∙ c.requires in
    let known : Known v = record { going = c.self.invariant.going stopped; ring = c.reusable.ensures.limits; area = c.spare.ensures.store.area } in
    subst (λ (h : Held _). g.D.Disk.tells → (b : Behind) → IsStored (g.D.Disk.past h.disk) h.now b → Stops (g.D.Disk.past h.disk) (g.D.Disk.past c.read.new.disk) (StandsFrom (config_of h.now) b h.now.anchor (flushed_of h.now) (flushed_of h.now))) c.self.view_is
    (λ tells b is. read_stops (g.D.Disk.past c.self.inside.disk) (g.D.Disk.past c.read.new.disk) v b known is (c.read.ensures.past tells))

pub returns-in-Err-Failed-clause-cause : goal.returns-in-Err-Failed-clause-cause
returns-in-Err-Failed-clause-cause g c =
    subst (λ (h : Held _). HasStorageCause {T = Option Stood} (config_of h.now) (g.D.Disk.fault_counts h.disk) (g.D.Disk.fault_counts c.read.new.disk) (Err Failed)) c.self.view_is
    (read_failed c.self.inside.ring.config c.reusable.ensures.limits.config (g.D.Disk.fault_counts c.self.inside.disk) (g.D.Disk.fault_counts c.read.new.disk) c.read.result (c.in-Err-Failed.is ∙ ap Err c.in-Err-Failed.field-0-is) c.read.ensures.cause)
