use Rattle.ol_store.proofs.LoadLaws.{err_moved, loaded_page, page_of_place}
use Rattle.ol_store.proofs.store.Store.read.Goals as goal

pub returns-in-Ok-clause-row : goal.returns-in-Ok-clause-row
returns-in-Ok-clause-row g c tells v h up =
    let p = loaded_page _ c.args.self.now c.load.new.self v c.args.rid.space c.args.rid.page c.in-Ok.ensures.loaded (c.in-Ok.ensures.stored tells v h up) up (page_of_place c.args.self.now.config c.args.rid c.requires.place) in
    c.row.ensures (v.now c.args.rid.space c.args.rid.page) p.1.page p.0

pub returns-in-Err-clause-good : goal.returns-in-Err-clause-good
returns-in-Err-clause-good g c tells v h flushed up chunk at bad = c.in-Err.ensures.good tells v h flushed up chunk at (err_moved _ _ bad)
