use Rattle.ol_data_pages.proofs.WriteLaws.{write_reads, write_stops, write_there}
use Rattle.ol_data_pages.proofs.pages.write_page.Goals as goal

pub returns-clause-stops : goal.returns-clause-stops
returns-clause-stops g c tells =
    write_stops c.args.table.now c.args.space c.args.page c.place-chunk.result c.place-chunk.ensures.value _ _ c.args.image.now c.write_at.result (c.write_at.ensures.past tells)

pub returns-clause-ok : goal.returns-clause-ok
returns-clause-ok g c tells =
    write_there c.args.table.now c.args.space c.args.page c.place-chunk.result c.place-chunk.ensures.value _ _ c.args.image.now c.told-image c.write_at.result (c.write_at.ensures.past tells)

pub returns-clause-reads : goal.returns-clause-reads
returns-clause-reads g c tells =
    write_reads c.args.table.now c.args.space c.args.page c.place-chunk.result c.place-chunk.ensures.value _ _ c.args.image.now c.write_at.result (c.write_at.ensures.past tells)
