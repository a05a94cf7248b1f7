use Rattle.std.specs.Prelude.{[], ◌+◌, ◌-◌, ◌≡◌, ◌≤◌}
use Rattle.std.proofs.Common.{ap, arith, refl, rules, subst, sym, ◌∙◌}
use Rattle.ol_rules.specs.Start.{low_behind, upto}
use Rattle.ol_model.specs.Machine.{last_of}
use Rattle.ol_ports.specs.Stops.{Stops}
use Rattle.ol_reserve.specs.declared.anchor.Anchor.{Anchor}
use Rattle.ol_storage.proofs.Agreeing.{upto_all}
use Rattle.ol_storage.specs.Behind.{Behind}
use Rattle.ol_storage.specs.Installation.{checkpointed, config_of, flushed_of}
use Rattle.ol_storage.specs.Standing.{StandsBetween}
use Rattle.ol_engine.specs.Parts.{behind_of, need_of}
use Rattle.ol_engine.proofs.Lows.{need_is, need_within}
use Rattle.ol_engine.proofs.Results.{ok_from, ok_weaker, when_false}
use Rattle.ol_engine.proofs.Seats.{same_shows}
use Rattle.ol_archive_start.specs.Starting.{anchor_started}
use Rattle.ol_archive_start.proofs.Marked.{marked_rises, marked_shows, marked_turns}
use Rattle.ol_archive_start.proofs.marking.mark_start.Goals as goal

pub checkpoint-requires-clause-need : goal.checkpoint-requires-clause-need
checkpoint-requires-clause-need g c =
    let v = c.args.storage.now.now in
    let low : 1 ≤ v.ring.state.next = omega (arith, c.is_stopped-going.ensures.ring.limits.first) in
    let bounds = need_within c.requires.turns.0 v c.args.locks.now low c.requires.turns.1 in
    let need : c.unwrap_or-need.result ≡ need_of v c.args.locks.now = search rules in
    (omega (arith, need, bounds.0), omega (arith, need, bounds.1, c.requires.turns.1.at_end))

pub returns-clause-shows : goal.returns-clause-shows
returns-clause-shows g c opened m registers shows regular =
    let v = c.args.storage.now.now in
    ok_from c.checkpoint.result c.checkpoint.ensures.step c.checkpoint.ensures.ring (λ step ring.
    let need : c.unwrap_or-need.result ≡ need_of v c.args.locks.now = search rules in
    let archive : c.anchor.result.now.next_archive ≡ v.anchor.next_archive = ap (λ (a : Anchor). a.next_archive) c.anchor.ensures in
    record {
      storage = marked_shows v c.checkpoint.new.self.now c.unwrap_or-need.result m (subst (λ k. c.checkpoint.new.self.now ≡ checkpointed v c.unwrap_or-need.result (k + 1) c.checkpoint.new.self.now.ring.gates) archive step) ring
          (need ∙ need_is opened v c.args.locks.now registers m shows regular.orderly.ascending) shows.storage;
      sessions = same_shows c.args.locks.now registers m _ refl shows.sessions;
      since = shows.since;
    })

pub returns-clause-turns : goal.returns-clause-turns
returns-clause-turns g c opened turns =
    let v = c.args.storage.now.now in
    ok_from c.checkpoint.result c.checkpoint.ensures.step c.checkpoint.ensures.ring (λ step ring.
    let need : c.unwrap_or-need.result ≡ need_of v c.args.locks.now = search rules in
    let low : 1 ≤ v.ring.state.next = omega (arith, c.is_stopped-going.ensures.ring.limits.first) in
    let going = when_false _ _ c.is_stopped-going.ensures.going (c.is_stopped-going.ensures.value ∙ c.requires.going) in
    let archive : c.anchor.result.now.next_archive ≡ v.anchor.next_archive = ap (λ (a : Anchor). a.next_archive) c.anchor.ensures in
    marked_turns opened v c.checkpoint.new.self.now c.args.locks.now low going
    (subst (λ n. c.checkpoint.new.self.now ≡ checkpointed v n (v.anchor.next_archive + 1) c.checkpoint.new.self.now.ring.gates) need
    (subst (λ k. c.checkpoint.new.self.now ≡ checkpointed v c.unwrap_or-need.result (k + 1) c.checkpoint.new.self.now.ring.gates) archive step))
    ring turns)

pub returns-clause-risen : goal.returns-clause-risen
returns-clause-risen g c =
    let v = c.args.storage.now.now in
    ok_weaker c.checkpoint.result c.checkpoint.ensures.step (λ step.
    let archive : c.anchor.result.now.next_archive ≡ v.anchor.next_archive = ap (λ (a : Anchor). a.next_archive) c.anchor.ensures in
    marked_rises v c.checkpoint.new.self.now c.unwrap_or-need.result (subst (λ k. c.checkpoint.new.self.now ≡ checkpointed v c.unwrap_or-need.result (k + 1) c.checkpoint.new.self.now.ring.gates) archive step))

pub returns-clause-stops : goal.returns-clause-stops
returns-clause-stops g c tells opened m registers before shows regular is =
    let v = c.args.storage.now.now in
    let b : Behind = behind_of before m in
    let need : c.unwrap_or-need.result ≡ need_of v c.args.locks.now = search rules in
    let all : upto b.start b.records b.reached ≡ b.records = upto_all b.start b.records b.reached (omega arith) in
    let low : c.unwrap_or-need.result ≡ low_behind b.start (upto b.start b.records b.reached) = need ∙ need_is opened v c.args.locks.now registers m shows regular.orderly.ascending ∙ ap (λ l. low_behind b.start l) (sym all) in
    let archive : c.anchor.result.now.next_archive ≡ v.anchor.next_archive = ap (λ (a : Anchor). a.next_archive) c.anchor.ensures in
    let last : v.ring.state.next - 1 ≡ last_of m = omega (arith, shows.storage.next) in
    subst (λ n. Stops (g.D.Disk.past c.args.storage.now.disk) (g.D.Disk.past c.checkpoint.new.self.disk) (StandsBetween (config_of v) b v.anchor (anchor_started v c.args.locks.now) (flushed_of v) n)) last
    (subst (λ n. Stops (g.D.Disk.past c.args.storage.now.disk) (g.D.Disk.past c.checkpoint.new.self.disk) (StandsBetween (config_of v) b v.anchor (checkpointed v n (v.anchor.next_archive + 1) []).anchor (flushed_of v) (v.ring.state.next - 1))) need
    (subst (λ k. Stops (g.D.Disk.past c.args.storage.now.disk) (g.D.Disk.past c.checkpoint.new.self.disk) (StandsBetween (config_of v) b v.anchor (checkpointed v c.unwrap_or-need.result (k + 1) []).anchor (flushed_of v) (v.ring.state.next - 1))) archive
    (c.checkpoint.ensures.stops tells b is low)))

pub returns-clause-stored : goal.returns-clause-stored
returns-clause-stored g c tells opened m registers before shows regular is =
    let v = c.args.storage.now.now in
    let b : Behind = behind_of before m in
    let need : c.unwrap_or-need.result ≡ need_of v c.args.locks.now = search rules in
    let all : upto b.start b.records b.reached ≡ b.records = upto_all b.start b.records b.reached (omega arith) in
    let low : c.unwrap_or-need.result ≡ low_behind b.start (upto b.start b.records b.reached) = need ∙ need_is opened v c.args.locks.now registers m shows regular.orderly.ascending ∙ ap (λ l. low_behind b.start l) (sym all) in
    c.checkpoint.ensures.stored tells b is low
