use Rattle.std.specs.Prelude.{◌≡◌}
use Rattle.std.proofs.Common.{ap, arith, inl, subst, sym, ◌∙◌}
use Rattle.std.proofs.lemmas.Bool.Decides.{nat_tests}
use Rattle.ol_ports.proofs.StopLaws.{stops_none}
use Rattle.ol_ports.specs.Stops.{Stops}
use Rattle.ol_reserve.specs.Anchor.{IsAnchor}
use Rattle.ol_reserve.specs.declared.anchor.Anchor.{Anchor}
use Rattle.ol_storage.specs.declared.lasting.Lasting.{Lasting}
use Rattle.ol_storage.specs.Installation.{Installation, config_of, flushed_of, lasting_anchor, with_lasting}
use Rattle.ol_storage.specs.Standing.{StandsBetween}
use Rattle.ol_engine.proofs.Results.{when_false}
use Rattle.ol_archive_turns.specs.Ending.{known_at, lasting_ended}
use Rattle.ol_archive_turns.proofs.Ends.{none_known, some_known}
use Rattle.ol_archive_turns.proofs.KnownLaws.{ended_is_anchor}
use Rattle.ol_archive_turns.proofs.known.make_known.Goals as goal

pub returns-then-cursor-ge2-clause-step : goal.returns-then-cursor-ge2-clause-step
returns-then-cursor-ge2-clause-step g c =
    sym (none_known c.args.storage.now.now c.args.cursor.now c.args.cursor.now.level (omega (arith, c.if-cursor-ge2.true)))

pub returns-then-cursor-ge2-clause-stops : goal.returns-then-cursor-ge2-clause-stops
returns-then-cursor-ge2-clause-stops g c tells b is = stops_none _ _ (λ d rest. inl (c.is_stopped-whole.ensures.stands tells b is d rest))

pub set_lasting-requires-clause-anchor : goal.set_lasting-requires-clause-anchor
set_lasting-requires-clause-anchor g c =
    let v = c.args.storage.now.now in
    let going = when_false _ _ c.is_stopped-whole.ensures.going (c.is_stopped-whole.ensures.value ∙ c.requires.going) in
    subst (λ (l : Lasting). IsAnchor (lasting_anchor v.anchor l v.ring.state.files.uniq)) (sym (c.lasting_ended-lasting.ensures ∙ ap (λ (a : Anchor). lasting_ended a c.args.cursor.now c.args.cursor.now.level) c.anchor.ensures))
    (ended_is_anchor v.anchor c.args.cursor.now v.ring.state.files.uniq c.requires.low c.is_stopped-whole.ensures.ring.limits.uniq.1 (grind (arith, nat_tests, c.requires.number, c.requires.cut)) going.anchor c.args.cursor.now.level)

pub returns-clause-stops : goal.returns-clause-stops
returns-clause-stops g c tells b is =
    let v = c.args.storage.now.now in
    let same : with_lasting v c.lasting_ended-lasting.result ≡ known_at v c.args.cursor.now c.args.cursor.now.level =
    ap (λ (l : Lasting). with_lasting v l) (c.lasting_ended-lasting.ensures ∙ ap (λ (a : Anchor). lasting_ended a c.args.cursor.now c.args.cursor.now.level) c.anchor.ensures)
    ∙ sym (some_known v c.args.cursor.now c.args.cursor.now.level (omega (arith, c.if-cursor-ge2.false))) in
    subst (λ (w : Installation). Stops (g.D.Disk.past c.args.storage.now.disk) (g.D.Disk.past c.set_lasting.new.self.disk) (StandsBetween (config_of v) b v.anchor w.anchor (flushed_of v) (flushed_of v))) same
    (c.set_lasting.ensures.stops tells b is)
