use Rattle.std.proofs.Common.{◌<◌, ◌==◌, if◌then◌else◌, replicate, List, length, sym, ap, ◌∙◌, arith}
use Rattle.std.proofs.lemmas.List.{length-replicate}
use Rattle.ol_outside.specs.Chunks.{chunk_bytes, lengths}
use Rattle.ol_outside.specs.Devices.{DiskState, disk_pages}
use Rattle.ol_ports.specs.Disk.{Call, first_bytes, bytes_after, seen}
use Rattle.ol_outside.specs.KeptCalls.{calls_of}
use Rattle.ol_outside.proofs.AgreeLaws.{after-passes, agrees-begun, began-zero, sized-count, sized-there}
use Rattle.ol_outside.proofs.ChunkLaws.{lengths-count, lengths-set}
use Rattle.ol_outside.proofs.memory_disk.MemoryDisk.clear.Goals as goal

pub take_all-requires : goal.take_all-requires
take_all-requires c =
    let s = c.self.inside in
    let same = lengths-set s.bytes c.args.chunk (replicate (length (chunk_bytes s.bytes c.args.chunk)) 0) (length-replicate (length (chunk_bytes s.bytes c.args.chunk)) 0) in
    sym c.self.invariant.0.bytes_sized ∙ sym same ∙ ap lengths (sym c.zero.ensures)

pub invariant_of-self : goal.invariant_of-self
invariant_of-self c =
    let s = c.self.inside in
    let same = lengths-set s.bytes c.args.chunk (replicate (length (chunk_bytes s.bytes c.args.chunk)) 0) (length-replicate (length (chunk_bytes s.bytes c.args.chunk)) 0) in (
      agrees-begun c.take_all.new.self c.zero.new.self (calls_of c.clear.new.self.items s.moment) s.sizes.items s.moment c.take_all.ensures (ap (λ l. calls_of l s.moment) c.clear.ensures.items) (omega arith) (ap lengths c.zero.ensures ∙ same ∙ c.self.invariant.0.bytes_sized ∙ c.self.invariant.0.base_sized),
      c.self.invariant.1,
    )

pub returns-clause-bytes : goal.returns-clause-bytes
unfolding seen
returns-clause-bytes c k p i =
    let s = c.self.inside in
    let calls = calls_of s.kept.items s.passed in
    let sized : 0 < disk_pages c.args.self.now c.args.chunk = c.requires in
    let there : c.args.chunk < length s.bytes = omega (arith, lengths-count s.bytes s.base c.self.invariant.0.bytes_sized, sized-count s.base s.sizes.items c.self.invariant.0.base_sized, ap (λ (d : DiskState). length d.sizes) c.self.view_is, sized-there c.args.self.now.sizes c.args.chunk sized) in
    ap (λ (l : List Call). bytes_after c.take_all.new.self l k p i) (ap (λ kept. calls_of kept s.moment) c.clear.ensures.items)
    ∙ after-passes c.take_all.new.self s.moment k p i
    ∙ ap (λ b. first_bytes b k p i) (c.take_all.ensures ∙ c.zero.ensures)
    ∙ began-zero s.bytes c.args.chunk k p i there
    ∙ ap (λ b. if k == c.args.chunk then 0 else b) (c.self.invariant.0.holds.each k p i ∙ ap (λ (d : DiskState). seen d.past k p i) c.self.view_is)
