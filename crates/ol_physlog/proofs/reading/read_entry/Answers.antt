use Rattle.std.proofs.Common.{ap, inl, length, subst, sym, ◌∙◌}
use Rattle.ol_chunks.specs.Places.{physical_area}
use Rattle.ol_ports.specs.Disk.{Past, seen}
use Rattle.ol_physlog.specs.Places.{image_list}
use Rattle.ol_physlog.specs.Reading.{Found, IsFound, Tells, with_counting}
use Rattle.ol_physlog.proofs.AddLaws.{on_ok}
use Rattle.ol_physlog.proofs.FoundLaws.{found_counting, found_other}
use Rattle.ol_physlog.proofs.ReadLaws.{entry_read, first_open, good_counting, good_idle, head_here, on_ok_both, read_failed, refused_twice, tells_counting, tells_other}
use Rattle.ol_physlog.proofs.reading.read_entry.Goals as goal

pub returns-in-Err-clause-cause : goal.returns-in-Err-clause-cause
returns-in-Err-clause-cause g c = read_failed c.args.table.now c.area_of-area.result c.area_of-area.ensures.value _ _ c.in-Err.field-0 c.in-Err.ensures.cause

pub returns-in-Idle-clause-found : goal.returns-in-Idle-clause-found
returns-in-Idle-clause-found g c is = on_ok c.take_other.result (λ e. subst (λ (f : Found). IsFound f) (sym e) (found_other c.args.found.now _ is)) c.take_other.ensures.found

pub returns-in-Idle-clause-tells : goal.returns-in-Idle-clause-tells
returns-in-Idle-clause-tells g c tells is told =
    let d = seen (g.D.Disk.past c.args.disk.now) in
    let here = head_here c.args.table.now _ c.area_of-area.ensures.value d _ _ c.count.ensures _ (c.in-Ok.ensures.bytes tells) in
    let at = entry_read c.args.table.now (physical_area c.args.table.now) c.args.generation d (length c.args.found.now.gates) _ _ _ here c.read_head.ensures c.in-Idle.is in
    on_ok c.take_other.result
    (λ e. subst (λ (f : Found). Tells c.args.table.now (physical_area c.args.table.now) c.args.generation d f) (sym e) (tells_other c.args.table.now (physical_area c.args.table.now) c.args.generation d c.args.found.now is told _ (first_open (physical_area c.args.table.now) d (length c.args.found.now.gates) _ here) at))
    c.take_other.ensures.found

pub returns-in-Idle-clause-good : goal.returns-in-Idle-clause-good
returns-in-Idle-clause-good g c tells is told =
    let d = seen (g.D.Disk.past c.args.disk.now) in
    let here = head_here c.args.table.now _ c.area_of-area.ensures.value d _ _ c.count.ensures _ (c.in-Ok.ensures.bytes tells) in
    let at = entry_read c.args.table.now (physical_area c.args.table.now) c.args.generation d (length c.args.found.now.gates) _ _ _ here c.read_head.ensures c.in-Idle.is in
    on_ok c.take_other.result (λ e. good_idle c.args.table.now (physical_area c.args.table.now) c.args.generation d c.args.found.now is told at) c.take_other.ensures.found

pub returns-in-Bad-clause-bad : goal.returns-in-Bad-clause-bad
returns-in-Bad-clause-bad g c tells is told chunk at e =
    let d = seen (g.D.Disk.past c.args.disk.now) in
    let here = head_here c.args.table.now _ c.area_of-area.ensures.value d _ _ c.count.ensures _ (c.in-Ok.ensures.bytes tells) in
    inl (entry_read c.args.table.now (physical_area c.args.table.now) c.args.generation d (length c.args.found.now.gates) _ _ _ here c.read_head.ensures c.in-Bad.is)

pub returns-in-Counts-clause-found : goal.returns-in-Counts-clause-found
returns-in-Counts-clause-found g c is =
    on_ok_both c.take_image.result (λ e fresh. subst (λ (f : Found). IsFound f) (sym e) (found_counting c.args.found.now c.in-Counts.place _ fresh is)) c.take_image.ensures.found c.take_image.ensures.fresh

pub returns-in-Counts-clause-tells : goal.returns-in-Counts-clause-tells
returns-in-Counts-clause-tells g c tells is told =
    let d = seen (g.D.Disk.past c.args.disk.now) in
    let here = head_here c.args.table.now _ c.area_of-area.ensures.value d _ _ c.count.ensures _ (c.in-Ok.ensures.bytes tells) in
    let at = entry_read c.args.table.now (physical_area c.args.table.now) c.args.generation d (length c.args.found.now.gates) _ _ _ here c.read_head.ensures c.in-Counts.is in
    let same = ap (λ (p : Past). with_counting c.args.found.now c.in-Counts.place (image_list (physical_area c.args.table.now) (seen p) (length c.args.found.now.gates))) (c.read.ensures.past tells) in
    on_ok c.take_image.result
    (λ e. subst (λ (f : Found). Tells c.args.table.now (physical_area c.args.table.now) c.args.generation d f) (sym (e ∙ same)) (tells_counting c.args.table.now (physical_area c.args.table.now) c.args.generation d c.args.found.now is told c.in-Counts.place _ at))
    (c.take_image.ensures.image tells)

pub returns-in-Counts-clause-good : goal.returns-in-Counts-clause-good
returns-in-Counts-clause-good g c tells is told =
    let d = seen (g.D.Disk.past c.args.disk.now) in
    let here = head_here c.args.table.now _ c.area_of-area.ensures.value d _ _ c.count.ensures _ (c.in-Ok.ensures.bytes tells) in
    let at = entry_read c.args.table.now (physical_area c.args.table.now) c.args.generation d (length c.args.found.now.gates) _ _ _ here c.read_head.ensures c.in-Counts.is in
    on_ok c.take_image.result (λ fresh. good_counting c.args.table.now (physical_area c.args.table.now) c.args.generation d c.args.found.now is told c.in-Counts.place _ at fresh) c.take_image.ensures.fresh

pub returns-in-Counts-clause-bad : goal.returns-in-Counts-clause-bad
returns-in-Counts-clause-bad g c tells is told chunk page e =
    let d = seen (g.D.Disk.past c.args.disk.now) in
    let here = head_here c.args.table.now _ c.area_of-area.ensures.value d _ _ c.count.ensures _ (c.in-Ok.ensures.bytes tells) in
    let at = entry_read c.args.table.now (physical_area c.args.table.now) c.args.generation d (length c.args.found.now.gates) _ _ _ here c.read_head.ensures c.in-Counts.is in
    refused_twice c.args.table.now (physical_area c.args.table.now) c.args.generation d c.args.found.now is told c.in-Counts.place _ at (c.take_image.ensures.bad chunk page e).1
