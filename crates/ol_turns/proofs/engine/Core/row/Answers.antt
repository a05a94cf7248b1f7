use Rattle.std.specs.Prelude.{true, ◌≡◌}
use Rattle.std.proofs.Common.{subst}
use Rattle.ol_values.specs.Config.{Config, has_place}
use Rattle.ol_model.specs.Machine.{row_in}
use Rattle.ol_engine.specs.Parts.{behind_of}
use Rattle.ol_row_turns.proofs.Changes.{row_read}
use Rattle.ol_turns.proofs.RowReads.{read_runs, row_told}
use Rattle.ol_turns.specs.Cores.{machine_of}
use Rattle.ol_turns.proofs.engine.Core.row.Goals as goal

pub returns-clause-row : goal.returns-clause-row
returns-clause-row g c tells earlier begun runs =
    let s = c.args.self.now.state in
    let v = c.args.self.now.storage.now in
    let told = runs.told c.requires.going in
    let m = machine_of begun s in
    let place = subst (λ (x : Config). has_place x c.args.rid ≡ true) told.shown.shows.storage.config c.requires.place in
    row_told c.read.result _ (row_in m c.args.rid) (row_read v.anchor earlier m c.args.rid place) (c.read.ensures.row tells (behind_of earlier m) told.shown.stored c.requires.up)

pub returns-clause-runs : goal.returns-clause-runs
returns-clause-runs g c tells earlier begun runs ok =
    let s = c.args.self.now.state in
    let told = runs.told c.requires.going in
    let m = machine_of begun s in
    read_runs earlier begun (g.D.Disk.past c.args.self.now.storage.disk) (g.D.Disk.past c.read.new.self.disk) c.args.self.now.storage.now c.read.new.self.now s c.args.rid c.read.result (c.read.ensures.past tells) c.read.ensures.step c.read.ensures.loaded (c.read.ensures.stored tells (behind_of earlier m) told.shown.stored c.requires.up) c.read.ensures.unchanged c.requires.going ok runs

pub returns-clause-good : goal.returns-clause-good
returns-clause-good g c tells earlier begun runs chunk page e =
    let told = runs.told c.requires.going in
    c.read.ensures.good tells (behind_of earlier (machine_of begun c.args.self.now.state)) told.shown.stored c.requires.up chunk page e
