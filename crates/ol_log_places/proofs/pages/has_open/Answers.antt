use Rattle.std.proofs.Common.{◌≡◌, ◌<◌, ◌≤◌, ◌+◌, ◌*◌, ap, arith, sym, true, false, ◌∙◌}
use Rattle.ol_chunks.specs.declared.table.Area.{Area}
use Rattle.ol_log_places.proofs.WriteLaws.{file_in, in_file}
use Rattle.ol_log_places.proofs.pages.has_open.Goals as goal

pub returns-then-gates-place : goal.returns-then-gates-place
returns-then-gates-place c shut =
    let pages = ap (λ (a : Area). a.pages) c.logs.ensures.value in
    let low : c.args.file * c.args.table.now.log_file_pages ≤ c.loop-place.place = omega (arith, c.first_place_of_file-start.ensures.value, c.loop-place.auto.place) in
    let high : c.loop-place.place < c.args.file * c.args.table.now.log_file_pages + c.args.table.now.log_file_pages = omega (arith, c.first_place_of_file-start.ensures.value, c.loop-place-test.true, pages) in
    let closed = shut c.loop-place.place (file_in c.args.table.now c.args.file c.loop-place.place low high) in
    let clash : false ≡ true = sym closed ∙ c.if-gates-place.true in
    cc

pub returns : goal.returns
returns c k in_it =
    let pages = ap (λ (a : Area). a.pages) c.logs.ensures.value in
    let both = in_file c.args.table.now c.args.file k in_it in
    c.loop-place.invariant.shut k both.0 (omega (arith, both.1, c.first_place_of_file-start.ensures.value, c.loop-place-test.false, pages))
