use Rattle.std.specs.Prelude.{Err, None, Ok, Some, true, ◌≡◌}
use Rattle.std.proofs.Common.{ap, refl, subst, sym, ◌∙◌}
use Rattle.ol_values.specs.declared.event.Reply.{Reply}
use Rattle.ol_values.specs.declared.event.Reply.TheVariants.{NoRow, RowLocked}
use Rattle.ol_values.specs.Config.{Config, has_place}
use Rattle.ol_model.specs.Machine.{Machine, row_in, seat_of}
use Rattle.ol_model.specs.SessionTurns.{read_at}
use Rattle.ol_store.specs.Stores.{Store}
use Rattle.ol_storage.specs.Installation.{Installation}
use Rattle.ol_storage.specs.declared.storage.StorageFault.TheVariants.{Bad}
use Rattle.ol_engine.specs.Parts.{Shows, behind_of}
use Rattle.ol_engine.specs.Turns.{Answers}
use Rattle.ol_read_turns.proofs.RowTurns.{faulted, free_read, locked_read, no_owner, read_shown, read_turns, read_yields, row_held, shared_answer, shared_room, slot_within}
use Rattle.ol_read_turns.proofs.reading.read.Goals as goal

pub returns-in-Some-clause-answer : goal.returns-in-Some-clause-answer
returns-in-Some-clause-answer g c tells opened m registers earlier shows regular stored =
    let is = locked_read c.args.locks.now registers m c.args.session c.args.rid c.in-Some.holder regular shows.sessions (sym c.holder.ensures ∙ c.in-Some.is) in
    subst (λ (r : Reply × Machine). (RowLocked c.in-Some.holder ≡ r.0) × Shows opened c.args.storage.now.now c.args.locks.now registers r.1) (sym is) (refl, shows)

pub returns-in-Ok-Some-clause-answer : goal.returns-in-Ok-Some-clause-answer
returns-in-Ok-Some-clause-answer g c tells opened m registers earlier shows regular stored =
    let v = c.args.storage.now.now in
    let w = c.read.new.self.now in
    let log = ap (λ (s : Store). s.log) c.in-Ok-Some.ensures.loaded.rest in
    let slot = slot_within m c.args.rid (subst (λ (x : Config). has_place x c.args.rid ≡ true) shows.storage.config c.requires.place) in
    let row : row_in m c.args.rid ≡ Some c.in-Ok-Some.row = sym (row_held v.anchor earlier m c.args.rid slot) ∙ sym (c.in-Ok-Some.ensures.row tells (behind_of earlier m) stored c.requires.up) ∙ c.in-Ok-Some.field-0-is in
    let is = free_read c.args.locks.now registers m c.args.session c.args.rid (Some c.in-Ok-Some.row) regular shows.sessions (sym c.holder.ensures ∙ no_owner c.holder.result c.in_default.not-Some) row in
    subst (λ (r : Reply × Machine). Answers m (Shows opened w c.share_read.new.locks registers) r c.share_read.result) (sym is)
    (shared_answer opened w c.args.locks.now c.share_read.new.locks registers m c.args.session c.args.rid c.in-Ok-Some.row c.share_read.result c.requires.session c.requires.open (read_shown opened v w c.args.locks.now registers m c.in-Ok-Some.ensures.step log shows) c.share_read.ensures.answer c.share_read.ensures.ok c.share_read.ensures.unchanged c.share_read.ensures.only)

pub returns-in-Ok-Some-clause-turns : goal.returns-in-Ok-Some-clause-turns
returns-in-Ok-Some-clause-turns g c opened turns ok =
    shared_room opened c.read.new.self.now c.args.locks.now c.share_read.new.locks c.args.session c.args.rid c.share_read.result c.share_read.ensures.sessions c.requires.session c.requires.open (read_turns opened c.args.storage.now.now c.read.new.self.now c.args.locks.now c.in-Ok-Some.ensures.step turns) c.share_read.ensures.ok c.share_read.ensures.unchanged

pub returns-in-Ok-None-clause-answer : goal.returns-in-Ok-None-clause-answer
returns-in-Ok-None-clause-answer g c tells opened m registers earlier shows regular stored =
    let v = c.args.storage.now.now in
    let w = c.read.new.self.now in
    let log = ap (λ (s : Store). s.log) c.in-Ok-None.ensures.loaded.rest in
    let slot = slot_within m c.args.rid (subst (λ (x : Config). has_place x c.args.rid ≡ true) shows.storage.config c.requires.place) in
    let row : row_in m c.args.rid ≡ None = sym (row_held v.anchor earlier m c.args.rid slot) ∙ sym (c.in-Ok-None.ensures.row tells (behind_of earlier m) stored c.requires.up) ∙ c.in-Ok-None.field-0-is in
    let is = free_read c.args.locks.now registers m c.args.session c.args.rid None regular shows.sessions (sym c.holder.ensures ∙ no_owner c.holder.result c.in_default.not-Some) row in
    subst (λ (r : Reply × Machine). (NoRow ≡ r.0) × Shows opened w c.args.locks.now registers r.1) (sym is) (refl, read_shown opened v w c.args.locks.now registers m c.in-Ok-None.ensures.step log shows)

pub returns-in-Err-clause-answer : goal.returns-in-Err-clause-answer
returns-in-Err-clause-answer g c tells opened m registers earlier shows regular stored =
    faulted m (Shows opened c.read.new.self.now c.args.locks.now registers) (read_at m c.args.session (seat_of m c.args.session) (Ok c.args.rid)) c.in-Err.fault (λ e. c.in-Err.ensures.only (ap (λ f. Err f) e)) (read_yields m c.args.session c.args.rid)
    (λ e. subst (λ (x : Installation). Shows opened x c.args.locks.now registers m) (sym (c.in-Err.ensures.unchanged (λ failed. absurd cc))) shows)

pub returns-in-Err-clause-good : goal.returns-in-Err-clause-good
returns-in-Err-clause-good g c tells behind stored chunk page e =
    let same : c.in-Err.fault ≡ Bad chunk page = cc in
    c.in-Err.ensures.good tells behind stored c.requires.up chunk page (ap (λ f. Err f) same)
