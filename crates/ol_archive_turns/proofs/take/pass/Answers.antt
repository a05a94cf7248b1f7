use Rattle.std.proofs.Common.{ap, subst, sym, ◌≡◌}
use Rattle.ol_running.specs.declared.running.Running.{Running}
use Rattle.ol_archive_turns.proofs.Spaces.{numbered_at, numbered_with, up_passed}
use Rattle.ol_archive_turns.specs.Ending.{IsNumbered}
use Rattle.std.specs.Prelude.{Some}
use Rattle.ol_archive_turns.proofs.take.pass.Goals as goal

pub returns-clause-up : goal.returns-clause-up
returns-clause-up c a up =
    let same : c.from.result ≡ c.args.archiver = c.from.ensures in
    rw same (up_passed a c.args.archives.now c.args.archiver c.args.running c.pass.new.self c.requires.held (ap (λ (r : Running). r.cursor.spaces) c.pass.ensures) up)

pub returns-clause-numbers : goal.returns-clause-numbers
returns-clause-numbers c all =
    let same : c.from.result ≡ c.args.archiver = c.from.ensures in
    rw same (numbered_with c.args.archives.now c.args.archiver (Some c.pass.new.self) (subst (λ (r : Running). IsNumbered (Some r)) (sym c.pass.ensures) (numbered_at c.args.archives.now c.args.archiver c.args.running c.requires.held all)) all)
