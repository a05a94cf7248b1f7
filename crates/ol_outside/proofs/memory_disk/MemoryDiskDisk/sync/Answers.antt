use Rattle.std.proofs.Common.{◌<◌, length, sym, ap, ◌∙◌, subst, arith, Err}
use Rattle.std.proofs.lemmas.List.{length-set}
use Rattle.ol_ports.specs.Causes.{HasChunkCause}
use Rattle.ol_outside.specs.Devices.{DiskState, chunk_faults, disk_pages, last_moment, LeavesNothing}
use Rattle.ol_ports.specs.Disk.{Past}
use Rattle.ol_outside.specs.KeptCalls.{calls_of, kept_calls, passes, PassesOver, Agrees}
use Rattle.ol_outside.proofs.AgreeLaws.{passes-over, passes-leaves, agrees-synced, agrees-passed, counts-cause, sized-there, sized-count, from_err, from_ok}
use Rattle.ol_outside.proofs.memory_disk.MemoryDiskDisk.sync.Goals as goal

over-listed : (c : goal.After-count_fault) → PassesOver (calls_of c.self.inside.kept.items c.self.inside.passed) (calls_of c.self.inside.kept.items c.saturating_add-self-inside-then-fails.result)
over-listed c =
    let s = c.self.inside in
    let calls = kept_calls s.kept.items in
    subst (λ n. PassesOver (passes s.passed calls) (passes n calls)) (sym c.saturating_add-self-inside-then-fails.ensures) (passes-over calls s.passed (omega arith))

-- the fields agree where the call is listed
agrees-listed : (c : goal.After-count_fault) → Agrees c.self.inside.base c.self.inside.bytes (calls_of c.self.inside.kept.items c.saturating_add-self-inside-then-fails.result) c.self.inside.sizes.items c.saturating_add-self-inside.result
agrees-listed c =
    let s = c.self.inside in
    let calls = kept_calls s.kept.items in
    let over = over-listed c in
    subst (Agrees s.base s.bytes (passes c.saturating_add-self-inside-then-fails.result calls) s.sizes.items) (sym c.saturating_add-self-inside.ensures)
    (agrees-passed s.base s.bytes (passes s.passed calls) _ s.sizes.items s.moment c.self.invariant.0 over)

pub invariant_of-self : goal.invariant_of-self
invariant_of-self c = (
  agrees-listed c,
  ap length c.count_fault.ensures.counted ∙ length-set c.self.inside.counts.items c.args.chunk _ ∙ c.self.invariant.1,
)

pub returns-then-fails-clause-moment : goal.returns-then-fails-clause-moment
returns-then-fails-clause-moment c =
    let was = ap last_moment c.self.view_is in
    omega (arith, was, (agrees-listed c).counted, c.self.invariant.0.counted, c.saturating_add-self-inside.ensures)

pub returns-then-fails-clause-failed : goal.returns-then-fails-clause-failed
returns-then-fails-clause-failed c =
    let s = c.self.inside in
    let new : Past = record { base = s.base; calls = calls_of s.kept.items c.saturating_add-self-inside-then-fails.result } in
    subst (λ (d : DiskState). LeavesNothing d.past new) c.self.view_is (passes-leaves s.base (calls_of s.kept.items s.passed) new.calls (over-listed c))

pub returns-then-fails-clause-cause : goal.returns-then-fails-clause-cause
returns-then-fails-clause-cause c =
    let s = c.self.inside in
    let sized : 0 < disk_pages c.args.self.now c.args.chunk = c.requires in
    let there : c.args.chunk < length s.counts.items = omega (arith, c.self.invariant.1, ap (λ (d : DiskState). length d.sizes) c.self.view_is, sized-there c.args.self.now.sizes c.args.chunk sized) in
    subst (λ (d : DiskState). HasChunkCause {T = Unit {0}} c.args.chunk (chunk_faults d) (λ k. chunk_faults (record d { counts = c.count_fault.new.counts.items }) k) (Err record {})) c.self.view_is
    (counts-cause s.counts.items c.count_fault.new.counts.items c.args.chunk (record {}) there c.count_fault.ensures.counted c.count_fault.ensures.later)

pub invariant_of-self-then-is_err : goal.invariant_of-self-then-is_err
invariant_of-self-then-is_err c =
    let s = c.self.inside in
    let over = from_err c.sync.result (sym c.is_err.ensures.value ∙ c.if-is_err.true) c.sync.ensures.err in (
      subst (Agrees s.base s.bytes (calls_of c.sync.new.kept.items c.sync.new.passed) s.sizes.items) (sym c.saturating_add-self-inside.ensures)
          (agrees-passed s.base s.bytes (calls_of s.kept.items s.passed) _ s.sizes.items s.moment c.self.invariant.0 over),
      ap length c.count_fault-then-is_err.ensures.counted ∙ length-set s.counts.items c.args.chunk _ ∙ c.self.invariant.1,
    )

pub returns-then-is_err-clause-cause : goal.returns-then-is_err-clause-cause
returns-then-is_err-clause-cause c =
    let s = c.self.inside in
    let sized : 0 < disk_pages c.args.self.now c.args.chunk = c.requires in
    let there : c.args.chunk < length s.counts.items = omega (arith, c.self.invariant.1, ap (λ (d : DiskState). length d.sizes) c.self.view_is, sized-there c.args.self.now.sizes c.args.chunk sized) in
    let new = c.count_fault-then-is_err.new.counts.items in
    subst (λ (d : DiskState). HasChunkCause {T = Unit {0}} c.args.chunk (chunk_faults d) (λ k. chunk_faults (record d { counts = new }) k) (Err record {})) c.self.view_is
    (counts-cause s.counts.items new c.args.chunk (record {}) there c.count_fault-then-is_err.ensures.counted c.count_fault-then-is_err.ensures.later)

pub invariant_of-self-else-is_err : goal.invariant_of-self-else-is_err
invariant_of-self-else-is_err c =
    let s = c.self.inside in
    let is = from_ok c.sync.result (sym c.is_err.ensures.value ∙ c.if-is_err.false) c.sync.ensures.ok in
    let sized : 0 < disk_pages c.args.self.now c.args.chunk = c.requires in
    let there : c.args.chunk < length s.base = omega (arith, sized-count s.base s.sizes.items c.self.invariant.0.base_sized, ap (λ (d : DiskState). length d.sizes) c.self.view_is, sized-there c.args.self.now.sizes c.args.chunk sized) in (
      subst (Agrees s.base s.bytes (calls_of c.sync.new.kept.items c.sync.new.passed) s.sizes.items) (sym c.saturating_add-self-inside.ensures)
          (agrees-synced s.base s.bytes (calls_of s.kept.items s.passed) _ s.sizes.items s.moment c.self.invariant.0 c.args.chunk there is),
      c.self.invariant.1,
    )
