use Rattle.std.proofs.Common.{Err, ap, subst, ◌∙◌}
use Rattle.std.proofs.lemmas.Result.{on_ok_weaker}
use Rattle.ol_ports.specs.Disk.{seen}
use Rattle.ol_physlog.specs.Reading.{HasReadCause}
use Rattle.ol_page_opening.proofs.EntryLaws.{are_good, has_area, read_fault}
use Rattle.ol_page_opening.proofs.pages.read_images.Goals as goal

pub read_entries-requires : goal.read_entries-requires
read_entries-requires g c = has_area c.args.table.now c.spaces-spaces.ensures.config _ c.requires.sizes

pub returns-in-Ok-clause-good : goal.returns-in-Ok-clause-good
returns-in-Ok-clause-good g c tells =
    on_ok_weaker c.judge.result (λ images. are_good c.args.table.now c.args.generation (seen (g.D.Disk.past c.args.disk.now)) c.in-Ok.entries c.in-Ok.ensures.found (c.in-Ok.ensures.tells tells) c.in-Ok.ensures.gates (c.in-Ok.ensures.good tells) images) c.judge.ensures.images

pub returns-in-Err-DiskFault-clause-cause : goal.returns-in-Err-DiskFault-clause-cause
returns-in-Err-DiskFault-clause-cause g c =
    read_fault c.args.table.now c.spaces-spaces.ensures.config _ _ c.in-Err-DiskFault.chunk
    (subst (λ r. HasReadCause c.args.table.now (g.D.Disk.fault_counts c.args.disk.now) (g.D.Disk.fault_counts c.read_entries.new.disk) r) (c.in-Err-DiskFault.is ∙ ap Err c.in-Err-DiskFault.field-0-is) c.read_entries.ensures.cause)
