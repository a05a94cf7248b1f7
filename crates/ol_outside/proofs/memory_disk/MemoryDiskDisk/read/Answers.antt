use Rattle.std.proofs.Common.{◌<◌, ◌≡◌, length, sym, ap, ◌∙◌, subst, arith, Ok, Err, refl}
use Rattle.ol_ports.specs.declared.stream.Failed.{Failed}
use Rattle.ol_ports.specs.Causes.{HasChunkCause}
use Rattle.ol_outside.specs.Devices.{DiskState, chunk_faults, disk_pages}
use Rattle.ol_ports.specs.Disk.{page_list, seen}
use Rattle.ol_outside.specs.KeptCalls.{calls_of}
use Rattle.ol_outside.proofs.AgreeLaws.{agrees-page, page-shown, counts-cause, sized-there}
use Rattle.ol_outside.proofs.memory_disk.MemoryDiskDisk.read.Goals as goal

pub returns-then-fails-clause-cause : goal.returns-then-fails-clause-cause
returns-then-fails-clause-cause c =
    let s = c.self.inside in
    let page : c.args.page < disk_pages c.args.self.now c.args.chunk = c.requires.page in
    let there : c.args.chunk < length s.counts.items = omega (arith, c.self.invariant.1, ap (λ (d : DiskState). length d.sizes) c.self.view_is, sized-there c.args.self.now.sizes c.args.chunk (omega (arith, page))) in
    let new = c.count_fault.new.counts.items in
    subst (λ (d : DiskState). HasChunkCause {T = Unit {0}} c.args.chunk (chunk_faults d) (λ k. chunk_faults (record d { counts = new }) k) (Err record {})) c.self.view_is
    (counts-cause s.counts.items new c.args.chunk (record {}) there c.count_fault.ensures.counted c.count_fault.ensures.later)

pub page-requires : goal.page-requires
page-requires c =
    let s = c.self.inside in
    let page : c.args.page < disk_pages c.args.self.now c.args.chunk = c.requires.page in
    agrees-page s.base s.bytes (calls_of s.kept.items s.passed) s.sizes.items s.moment c.args.chunk c.args.page c.self.invariant.0 (subst (λ (d : DiskState). c.args.page < disk_pages d c.args.chunk) (sym c.self.view_is) page)

pub returns-clause-bytes : goal.returns-clause-bytes
returns-clause-bytes c tells =
    let s = c.self.inside in
    let calls = calls_of s.kept.items s.passed in
    let page : c.args.page < disk_pages c.args.self.now c.args.chunk = c.requires.page in
    let room = agrees-page s.base s.bytes calls s.sizes.items s.moment c.args.chunk c.args.page c.self.invariant.0 (subst (λ (d : DiskState). c.args.page < disk_pages d c.args.chunk) (sym c.self.view_is) page) in
    subst (λ (d : DiskState). c.copy_from_slice.new.self ≡ page_list (seen d.past) c.args.chunk c.args.page) c.self.view_is
    (page-shown s.base s.bytes calls c.args.chunk c.args.page c.copy_from_slice.new.self c.self.invariant.0.holds room (c.copy_from_slice.ensures.after ∙ c.page.ensures.bytes))

pub returns-clause-sizes : goal.returns-clause-sizes
returns-clause-sizes c = ap disk_pages c.self.view_is

pub returns-clause-cause : goal.returns-clause-cause
returns-clause-cause c =
    let s = c.self.inside in
    subst (λ (d : DiskState). HasChunkCause {T = Unit {0}} {E = Failed} c.args.chunk (chunk_faults d) (λ k. chunk_faults (record d { counts = s.counts.items }) k) (Ok tt)) c.self.view_is
    (record { later = λ k. omega arith; failed = tt; kept = refl; others = λ k other. refl })
