use Rattle.ol_store.proofs.LoadLaws.{is_none, kept_loaded, kept_stored}
use Rattle.ol_store.proofs.store.Store.load.Goals as goal

pub returns-in-Ok-clause-loaded : goal.returns-in-Ok-clause-loaded
returns-in-Ok-clause-loaded g c = kept_loaded c.args.self.now c.is_in_memory.ensures.store c.args.space c.args.page c.requires.page (is_none _ c.is_in_memory.result c.is_in_memory.ensures.value c.if-is_in_memory.false) c.read_place.new.buf c.keep.new.self c.keep.result c.keep.ensures.value

pub returns-in-Ok-clause-stored : goal.returns-in-Ok-clause-stored
returns-in-Ok-clause-stored g c tells v h up =
    kept_stored c.args.self.now c.is_in_memory.ensures.store c.args.space c.args.page c.requires.page (is_none _ c.is_in_memory.result c.is_in_memory.ensures.value c.if-is_in_memory.false) c.read_place.new.buf _ _ (c.read_place.ensures.past tells) v h up (c.in-Ok.ensures.bytes tells (λ e. cc)) c.keep.new.self c.keep.result c.keep.ensures.value
