use Rattle.std.specs.Prelude.{List, None, Option, Some, ℕ, ◌≡◌}
use Rattle.std.proofs.Common.{ap, rules, subst, sym, ◌∙◌}
use Rattle.ol_values.specs.declared.event.Reply.{Reply}
use Rattle.ol_values.specs.Config.{Config}
use Rattle.ol_archive_start.specs.Starting.{start_turn}
use Rattle.ol_archive_turns.specs.Turns.{Tells}
use Rattle.ol_engine.specs.Turns.{Answers}
use Rattle.ol_model.specs.ArchiveTurns.{spaces_named, start_at, start_with}
use Rattle.ol_model.specs.Machine.{Archive, Machine, archive_of, config_of}
use Rattle.ol_running.proofs.TurnLaws.{no_archive}
use Rattle.ol_running.specs.Running.{running_of}
use Rattle.ol_turns.proofs.archive_starts.start_named.Goals as goal

pub returns-in-Some-clause-answer : goal.returns-in-Some-clause-answer
returns-in-Some-clause-answer g c tells opened m registers before told regular stored =
    let k = c.args.archiver in
    let v = c.args.storage.now.now in
    let none : running_of c.args.archives.now k ≡ None = search rules in
    let named : spaces_named (config_of m) c.args.names.now ≡ Some c.as_slice.result.now =
    ap (λ (x : Config). spaces_named x c.args.names.now) (sym (c.requires.table ∙ told.0.storage.config)) ∙ sym c.in-Some.ensures.value ∙ ap (λ (l : List ℕ). Some l) (sym c.as_slice.ensures.value) in
    let is : start_at m k c.args.level c.args.names.now (archive_of m k) ≡ start_turn m k c.args.level c.as_slice.result.now =
    ap (λ (o : Option Archive). start_at m k c.args.level c.args.names.now o) (no_archive c.args.archives.now v.store.before m k c.requires.archiver.0 told.1 none) ∙ ap (λ (o : Option (List ℕ)). start_with m k c.args.level o) named in
    subst (λ (r : Reply × Machine). Answers m (Tells opened c.start.new.storage.now c.args.locks.now registers c.start.new.archives) r c.start.result) (sym is) (c.start.ensures.answer tells opened m registers before told regular stored)

pub returns-in-Some-clause-stored : goal.returns-in-Some-clause-stored
returns-in-Some-clause-stored g c tells opened m registers before told regular stored ok = c.start.ensures.stored tells opened m registers before told.0 regular stored ok
