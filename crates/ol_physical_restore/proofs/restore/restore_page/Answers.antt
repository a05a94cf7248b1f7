use Rattle.std.proofs.Common.{arith, false, subst, sym, true, ℕ, ◌<◌, ◌≡◌, ◌∙◌}
use Rattle.std.specs.Prelude.{slice_set}
use Rattle.ol_chunks.specs.Limits.{chunk_count}
use Rattle.ol_ports.proofs.FrameLaws.{framed_none}
use Rattle.ol_ports.proofs.StopLaws.{stops_none}
use Rattle.ol_data_pages.specs.Places.{IsMarked, place_of}
use Rattle.ol_physical_restore.proofs.PageSteps.{mark_here, mark_spaces, page_cause, page_chunk, page_missing, page_there, place_reads, place_stops}
use Rattle.ol_physical_restore.proofs.restore.restore_page.Goals as goal

pub returns-in_default-clause-stops : goal.returns-in_default-clause-stops
returns-in_default-clause-stops g c tells = stops_none _ _ (framed_none _ _)

pub returns-in_default-clause-put : goal.returns-in_default-clause-put
returns-in_default-clause-put g c tells has =
    absurd (let clash : false ≡ true = sym (page_missing c.args.table.now c.args.place.space c.args.place.page c.place.result c.place.ensures.value c.in_default.not-Some) ∙ has in cc)

pub returns-in_default-clause-marked : goal.returns-in_default-clause-marked
returns-in_default-clause-marked g c has =
    absurd (let clash : false ≡ true = sym (page_missing c.args.table.now c.args.place.space c.args.place.page c.place.result c.place.ensures.value c.in_default.not-Some) ∙ has in cc)

pub bounds-written-from : goal.bounds-written-from
bounds-written-from g c =
    omega (arith, (page_chunk c.args.table.now c.place.ensures.config c.args.place.space c.args.place.page (c.in-Some.chunk, c.in-Some.field-0-1) (sym c.in-Some.ensures.value) c.from.result c.from.ensures).1, c.place.ensures.config.chunks)

pub write_page-requires-clause-page : goal.write_page-requires-clause-page
write_page-requires-clause-page g c = (page_there c.args.table.now c.args.place.space c.args.place.page (c.in-Some.chunk, c.in-Some.field-0-1) (sym c.in-Some.ensures.value)).0

pub returns-clause-stops : goal.returns-clause-stops
returns-clause-stops g c tells =
    place_stops c.args.table.now c.args.place (page_there c.args.table.now c.args.place.space c.args.place.page (c.in-Some.chunk, c.in-Some.field-0-1) (sym c.in-Some.ensures.value)).0 _ _ (c.write_page.ensures.stops tells)

pub returns-clause-reads : goal.returns-clause-reads
returns-clause-reads g c tells =
    place_reads c.args.table.now c.args.place (page_there c.args.table.now c.args.place.space c.args.place.page (c.in-Some.chunk, c.in-Some.field-0-1) (sym c.in-Some.ensures.value)).0 _ _ c.write_page.result (c.write_page.ensures.reads tells)

pub returns-clause-marks : goal.returns-clause-marks
returns-clause-marks g c spaces =
    let chunk = page_chunk c.args.table.now c.place.ensures.config c.args.place.space c.args.place.page (c.in-Some.chunk, c.in-Some.field-0-1) (sym c.in-Some.ensures.value) c.from.result c.from.ensures in
    mark_spaces c.args.written.now c.from.result (omega (arith, chunk.1, c.place.ensures.config.chunks, c.told-written)) c.args.table.now chunk.1 spaces

pub returns-clause-marked : goal.returns-clause-marked
returns-clause-marked g c has =
    let chunk = page_chunk c.args.table.now c.place.ensures.config c.args.place.space c.args.place.page (c.in-Some.chunk, c.in-Some.field-0-1) (sym c.in-Some.ensures.value) c.from.result c.from.ensures in
    subst (λ (k : ℕ). IsMarked (slice_set c.args.written.now c.from.result true) k) chunk.0 (mark_here c.args.written.now c.from.result (omega (arith, chunk.1, c.place.ensures.config.chunks, c.told-written)))

pub returns-clause-cause : goal.returns-clause-cause
returns-clause-cause g c =
    let chunk = page_chunk c.args.table.now c.place.ensures.config c.args.place.space c.args.place.page (c.in-Some.chunk, c.in-Some.field-0-1) (sym c.in-Some.ensures.value) c.from.result c.from.ensures in
    page_cause c.args.table.now (place_of c.args.table.now c.args.place.space c.args.place.page).0 (subst (λ (k : ℕ). k < chunk_count c.args.table.now.spaces) chunk.0 chunk.1) _ _ c.write_page.result c.write_page.ensures.cause
