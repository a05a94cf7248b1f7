use Rattle.std.proofs.Common.{◌<◌, length, sym, ap, ◌∙◌, subst, arith, Err}
use Rattle.std.proofs.lemmas.List.{length-set}
use Rattle.ol_ports.specs.Causes.{HasChunkCause}
use Rattle.ol_outside.specs.Devices.{DiskState, chunk_faults, disk_pages}
use Rattle.ol_outside.specs.KeptCalls.{calls_of, Agrees}
use Rattle.ol_outside.proofs.AgreeLaws.{agrees-page, counts-cause, sized-there}
use Rattle.ol_outside.proofs.memory_disk.MemoryDiskDisk.write_at.Goals as goal

pub write-written-requires-clause-page : goal.write-written-requires-clause-page
write-written-requires-clause-page c =
    let s = c.self.inside in
    let page : c.args.page < disk_pages c.args.self.now c.args.chunk = c.requires.page in
    agrees-page s.base s.bytes (calls_of s.kept.items s.passed) s.sizes.items s.moment c.args.chunk c.args.page c.self.invariant.0 (subst (λ (d : DiskState). c.args.page < disk_pages d c.args.chunk) (sym c.self.view_is) page)

pub invariant_of-self : goal.invariant_of-self
invariant_of-self c =
    let s = c.self.inside in (
      subst (Agrees s.base c.write-written.new.bytes (calls_of c.write-written.new.kept.items c.write-written.new.passed) s.sizes.items) (sym c.saturating_add-self-inside.ensures)
          (c.write-written.ensures.agrees s.base s.sizes.items s.moment c.self.invariant.0),
      ap length c.count_fault.ensures.counted ∙ length-set s.counts.items c.args.chunk _ ∙ c.self.invariant.1,
    )

pub returns-then-is_err-clause-cause : goal.returns-then-is_err-clause-cause
returns-then-is_err-clause-cause c =
    let s = c.self.inside in
    let page : c.args.page < disk_pages c.args.self.now c.args.chunk = c.requires.page in
    let there : c.args.chunk < length s.counts.items = omega (arith, c.self.invariant.1, ap (λ (d : DiskState). length d.sizes) c.self.view_is, sized-there c.args.self.now.sizes c.args.chunk (omega (arith, page))) in
    let new = c.count_fault.new.counts.items in
    subst (λ (d : DiskState). HasChunkCause {T = Unit {0}} c.args.chunk (chunk_faults d) (λ k. chunk_faults (record d { counts = new }) k) (Err record {})) c.self.view_is
    (counts-cause s.counts.items new c.args.chunk (record {}) there c.count_fault.ensures.counted c.count_fault.ensures.later)

pub invariant_of-self-then-listed : goal.invariant_of-self-then-listed
invariant_of-self-then-listed c =
    let s = c.self.inside in (
      subst (Agrees s.base c.write-written.new.bytes (calls_of c.write-written.new.kept.items c.write-written.new.passed) s.sizes.items) (sym c.saturating_add-self-inside.ensures)
          (c.write-written.ensures.agrees s.base s.sizes.items s.moment c.self.invariant.0),
      ap length c.count_fault-then-listed.ensures.counted ∙ length-set s.counts.items c.args.chunk _ ∙ c.self.invariant.1,
    )

pub returns-then-listed-clause-cause : goal.returns-then-listed-clause-cause
returns-then-listed-clause-cause c =
    let s = c.self.inside in
    let page : c.args.page < disk_pages c.args.self.now c.args.chunk = c.requires.page in
    let there : c.args.chunk < length s.counts.items = omega (arith, c.self.invariant.1, ap (λ (d : DiskState). length d.sizes) c.self.view_is, sized-there c.args.self.now.sizes c.args.chunk (omega (arith, page))) in
    let new = c.count_fault-then-listed.new.counts.items in
    subst (λ (d : DiskState). HasChunkCause {T = Unit {0}} c.args.chunk (chunk_faults d) (λ k. chunk_faults (record d { counts = new }) k) (Err record {})) c.self.view_is
    (counts-cause s.counts.items new c.args.chunk (record {}) there c.count_fault-then-listed.ensures.counted c.count_fault-then-listed.ensures.later)

pub invariant_of-self-else-listed : goal.invariant_of-self-else-listed
invariant_of-self-else-listed c =
    let s = c.self.inside in (
      subst (Agrees s.base c.write-written.new.bytes (calls_of c.write-written.new.kept.items c.write-written.new.passed) s.sizes.items) (sym c.saturating_add-self-inside.ensures)
          (c.write-written.ensures.agrees s.base s.sizes.items s.moment c.self.invariant.0),
      c.self.invariant.1,
    )
