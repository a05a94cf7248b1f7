use Rattle.ol_store.proofs.LoadLaws.{err_moved, loaded_page}
use Rattle.ol_store.proofs.store.Store.stamp.Goals as goal

pub returns-in-Ok-clause-stamp : goal.returns-in-Ok-clause-stamp
returns-in-Ok-clause-stamp g c tells v h up =
    let p = loaded_page _ c.args.self.now c.load.new.self v c.args.space c.args.page c.in-Ok.ensures.loaded (c.in-Ok.ensures.stored tells v h up) up c.requires.page in
    c.stamp_in_memory.ensures (v.now c.args.space c.args.page) p.1.page p.0

pub returns-in-Err-clause-good : goal.returns-in-Err-clause-good
returns-in-Err-clause-good g c tells v h flushed up chunk at bad = c.in-Err.ensures.good tells v h flushed up chunk at (err_moved _ _ bad)
