use Rattle.std.specs.Prelude.{None, OnOk, Some, ℕ}
use Rattle.ol_ports.proofs.StopLaws.{stops_weaker}
use Rattle.ol_storage.specs.Behind.{Behind}
use Rattle.ol_storage.specs.Storing.{IsStored}
use Rattle.ol_engine.specs.Parts.{anchor_made}
use Rattle.std.proofs.Common.{subst}
use Rattle.ol_row_turns.proofs.Inserts.{insert_answers, insert_behind, insert_leaves, insert_stands}
use Rattle.ol_row_turns.proofs.insertion.insert.Goals as goal

pub returns-clause-answer : goal.returns-clause-answer
returns-clause-answer g c register m registers long shows regular =
    insert_answers c.args.opened c.write_row.new.storage.now c.write_row.new.locks registers m c.args.owner register c.args.rid c.args.row c.write_row.result c.requires.session long (c.write_row.ensures.answer m registers shows regular)

pub returns-clause-archives : goal.returns-clause-archives
returns-clause-archives g c tells register m registers earlier shows regular stored archives =
    insert_leaves c.write_row.new.archives c.write_row.new.storage.now.store.before m c.args.owner register c.args.rid c.args.row c.write_row.result (c.write_row.ensures.archives tells m registers earlier shows regular stored archives)

pub returns-clause-stops : goal.returns-clause-stops
returns-clause-stops g c tells register m registers earlier shows regular stored =
    stops_weaker _ _ _ _ (λ d s. insert_stands c.args.storage.now.now (anchor_made c.args.storage.now.now c.args.locks.now) earlier m c.args.owner register c.args.rid c.args.row d s) (c.write_row.ensures.stops tells m registers earlier shows regular stored)

pub returns-clause-stored : goal.returns-clause-stored
returns-clause-stored g c tells register m registers earlier shows regular stored =
    subst (λ (b : Behind). OnOk c.write_row.result (IsStored (g.D.Disk.past c.write_row.new.storage.disk) c.write_row.new.storage.now b)) (insert_behind earlier m c.args.owner register c.args.rid c.args.row) (c.write_row.ensures.stored tells m registers earlier shows regular stored)
