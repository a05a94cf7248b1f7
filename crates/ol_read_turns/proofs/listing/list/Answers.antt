use Rattle.std.specs.Prelude.{Err, None, Some, true, ◌≡◌}
use Rattle.std.proofs.Common.{ap, refl, subst, sym, ◌∙◌}
use Rattle.ol_values.specs.declared.event.Reply.{Reply}
use Rattle.ol_values.specs.declared.event.Reply.TheVariants.{RowLocked}
use Rattle.ol_values.specs.Config.{Config, has_page}
use Rattle.ol_model.specs.Machine.{Machine, seat_of}
use Rattle.ol_model.specs.SessionTurns.{full_slots, list_at}
use Rattle.ol_storage.specs.declared.storage.StorageFault.TheVariants.{Bad}
use Rattle.ol_engine.specs.Parts.{Shows, behind_of}
use Rattle.ol_engine.specs.Turns.{Answers}
use Rattle.ol_free_slots.proofs.Reading.{other_answer, read_shows}
use Rattle.ol_read_turns.specs.PageSlots.{full_among, is_set}
use Rattle.ol_read_turns.proofs.ListTurns.{bits_told, list_answer, list_is, list_turns, list_yields, owner_told, set_told, up_told}
use Rattle.ol_read_turns.proofs.RowTurns.{faulted, no_owner, read_turns}
use Rattle.ol_read_turns.specs.PageSlots.{full_among, is_set}
use Rattle.ol_read_turns.proofs.SharedPlaces.{slots_pending}
use Rattle.ol_read_turns.proofs.listing.list.Goals as goal

pub returns-in-Some-clause-answer : goal.returns-in-Some-clause-answer
returns-in-Some-clause-answer g c tells opened m registers earlier shows regular stored =
    let there = subst (λ (x : Config). has_page x c.args.space c.args.page ≡ true) shows.storage.config c.requires.page in
    let up = up_told c.args.storage.now.now m c.args.space c.args.page shows.storage there c.requires.up in
    let owner = sym (owner_told c.args.locks.now registers m c.args.session c.args.space c.args.page regular shows.sessions) ∙ sym c.page_owner.ensures ∙ c.in-Some.is in
    let is = list_is m c.args.session c.args.space c.args.page (Some c.in-Some.holder) there up owner in
    subst (λ (r : Reply × Machine). (RowLocked c.in-Some.holder ≡ r.0) × Shows opened c.args.storage.now.now c.args.locks.now registers r.1) (sym is) (refl, shows)

pub returns-in-Ok-clause-answer : goal.returns-in-Ok-clause-answer
returns-in-Ok-clause-answer g c tells opened m registers earlier shows regular stored =
    let v = c.args.storage.now.now in
    let w = c.full_slots.new.storage.now in
    let k = c.args.session in
    let space = c.args.space in
    let page = c.args.page in
    let there = subst (λ (x : Config). has_page x space page ≡ true) shows.storage.config c.requires.page in
    let up = up_told v m space page shows.storage there c.requires.up in
    let owner = sym (owner_told c.args.locks.now registers m k space page regular shows.sessions) ∙ sym c.page_owner.ensures ∙ no_owner c.page_owner.result c.in_default.not-Some in
    let is = list_is m k space page None there up owner in
    let bits = c.in-Ok.ensures.bits tells (behind_of earlier m) stored in
    subst (λ (r : Reply × Machine). Answers m (Shows opened w c.share_slots.new.locks registers) r c.share_slots.result) (sym is)
    (list_answer opened w c.args.locks.now c.share_slots.new.locks registers m k c.in-Ok.bits (full_among (is_set c.in-Ok.bits) space page 31) (full_slots m space page) c.share_slots.result c.requires.session c.requires.open
    (read_shows opened v w c.args.locks.now registers m (c.in-Ok.ensures.still (λ e. absurd cc)) shows)
    (bits_told earlier m space page c.in-Ok.bits there bits) (set_told earlier m space page c.in-Ok.bits there bits) c.share_slots.ensures.answer c.share_slots.ensures.ok c.share_slots.ensures.unchanged c.share_slots.ensures.only)

pub returns-in-Ok-clause-turns : goal.returns-in-Ok-clause-turns
returns-in-Ok-clause-turns g c opened turns none =
    list_turns opened c.full_slots.new.storage.now c.args.locks.now c.share_slots.new.locks c.args.session (full_among (is_set c.in-Ok.bits) c.args.space c.args.page 31) c.share_slots.result c.share_slots.ensures.sessions c.requires.session c.requires.open
    (read_turns opened c.args.storage.now.now c.full_slots.new.storage.now c.args.locks.now (c.in-Ok.ensures.still (λ e. absurd cc)).step turns) c.share_slots.ensures.ok c.share_slots.ensures.unchanged

pub returns-in-Err-clause-answer : goal.returns-in-Err-clause-answer
returns-in-Err-clause-answer g c tells opened m registers earlier shows regular stored =
    let v = c.args.storage.now.now in
    let there = subst (λ (x : Config). has_page x c.args.space c.args.page ≡ true) shows.storage.config c.requires.page in
    let up = up_told v m c.args.space c.args.page shows.storage there c.requires.up in
    faulted m (Shows opened c.full_slots.new.storage.now c.args.locks.now registers) (list_at m c.args.session (seat_of m c.args.session) c.args.page (Some c.args.space)) c.in-Err.fault (λ e. c.in-Err.ensures.only (ap (λ f. Err f) e)) (list_yields m c.args.session c.args.space c.args.page there up)
    (λ e. read_shows opened v c.full_slots.new.storage.now c.args.locks.now registers m (c.in-Err.ensures.still (λ failed. absurd cc)) shows)

pub returns-in-Err-clause-good : goal.returns-in-Err-clause-good
returns-in-Err-clause-good g c tells b stored chunk at e = c.in-Err.ensures.good tells b stored chunk at (other_answer c.in-Err.fault (Bad chunk at) e)

pub returns-in-Ok-clause-places : goal.returns-in-Ok-clause-places
returns-in-Ok-clause-places g c test are =
    slots_pending test c.args.locks.now c.share_slots.new.locks c.args.session 31 (full_among (is_set c.in-Ok.bits) c.args.space c.args.page 31) c.share_slots.result c.share_slots.ensures.ok c.share_slots.ensures.unchanged c.requires.session c.share_slots.ensures.sessions are
