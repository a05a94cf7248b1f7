use Rattle.std.specs.Prelude.{Option, ◌≡◌}
use Rattle.std.proofs.Common.{ap, inl, refl, subst, sym, ◌∙◌}
use Rattle.ol_values.specs.declared.event.Reply.{Reply}
use Rattle.ol_model.specs.ArchiveTurns.{saved_of, started}
use Rattle.ol_model.specs.Machine.{Machine}
use Rattle.ol_ports.proofs.StopLaws.{stops_none}
use Rattle.ol_reserve.specs.declared.anchor.Anchor.{Anchor}
use Rattle.ol_engine.specs.Parts.{behind_of}
use Rattle.ol_archive_turns.specs.Turns.{Tells}
use Rattle.ol_archive_turns.proofs.Ends.{either_rest}
use Rattle.ol_archive_start.specs.Refusing.{refusal_of}
use Rattle.ol_archive_start.specs.Starting.{start_turn}
use Rattle.ol_archive_start.proofs.Refused.{answered, start_is}
use Rattle.ol_engine.proofs.Going.{goes_same}
use Rattle.ol_archive_start.proofs.archive.start.Goals as goal

pub returns-in-Some-clause-answer : goal.returns-in-Some-clause-answer
returns-in-Some-clause-answer g c tells opened m registers before told regular stored =
    let v = c.args.storage.now.now in
    let l = c.args.archives.now in
    let refused : start_turn m c.args.archiver c.args.level c.args.spaces.now ≡ (c.in-Some.reply, m) =
    start_is v l v.store.before m c.args.archiver c.args.level c.args.spaces.now told.0.storage told.1 c.requires.spaces
    ∙ ap (λ (o : Option Reply). answered m (started m c.args.archiver c.args.level (saved_of m c.args.level c.args.spaces.now)) o) (ap (λ (a : Anchor). refusal_of a l c.args.level c.args.spaces.now) (sym c.anchor.ensures) ∙ sym c.refusal.ensures ∙ c.in-Some.is) in
    subst (λ (t : Reply × Machine). (c.in-Some.reply ≡ t.0) × Tells opened v c.args.locks.now registers l t.1) (sym refused) (refl, told)

pub returns-in-Some-clause-stops : goal.returns-in-Some-clause-stops
returns-in-Some-clause-stops g c tells opened m registers before shows regular is =
    stops_none _ _ (λ d rest. either_rest c.args.storage.now.now _ before m d is.next (inl (c.is_stopped-stands.ensures.stands tells (behind_of before m) is d rest)))

pub returns-in-Some-clause-goes : goal.returns-in-Some-clause-goes
returns-in-Some-clause-goes g c = goes_same c.args.storage.now.now c.requires.going
