use Rattle.std.specs.Prelude.{OnOk, false, ℕ, ◌-◌, ◌≡◌, ◌≤◌}
use Rattle.std.proofs.Common.{ap, arith, inl, refl, subst, sym, ◌∙◌}
use Rattle.ol_model.specs.Machine.{Machine, last_of}
use Rattle.ol_ports.proofs.StopLaws.{stops_none}
use Rattle.ol_storage.proofs.Images.{stands_wider}
use Rattle.ol_storage.specs.Installation.{Installation, IsGoing, config_of, flushed_of}
use Rattle.ol_store.specs.Stores.{IsStore, Store}
use Rattle.ol_engine.specs.Parts.{HasEntry, HasNoEntry, Shows, behind_of}
use Rattle.ol_engine.proofs.Entries.{entry_made, entry_there}
use Rattle.ol_engine.proofs.Results.{when_false}
use Rattle.ol_engine.proofs.change.make_entry.Goals as goal

pub returns-then-may_touch-clause-shows : goal.returns-then-may_touch-clause-shows
returns-then-may_touch-clause-shows g c opened m registers shows regular =
    let v = c.args.storage.now.now in
    let going = when_false _ _ c.is_stopped-stands.ensures.going (c.is_stopped-stands.ensures.value ∙ c.requires.going) in
    let store : IsStore v.store = subst (λ (s : Store). IsStore s) c.pages.ensures c.may_touch.ensures.store in
    let there : HasEntry v.store c.args.space c.args.page = subst (λ (s : Store). HasEntry s c.args.space c.args.page) c.pages.ensures c.if-may_touch.ensures.there in
    subst (λ n. Shows opened v c.args.locks.now registers n) (sym (entry_there v m c.args.space c.args.page shows.storage going store there)) shows

pub returns-then-may_touch-clause-stops : goal.returns-then-may_touch-clause-stops
returns-then-may_touch-clause-stops g c tells opened m registers before shows regular is =
    let v = c.args.storage.now.now in
    let low : flushed_of v ≤ last_of m = omega (arith, shows.storage.next) in
    stops_none _ _ (λ d rest. inl (stands_wider (config_of v) (behind_of before m) v.anchor (flushed_of v) (flushed_of v) (flushed_of v) (last_of m) d (omega arith) low (c.is_stopped-stands.ensures.stands tells (behind_of before m) is d rest)))

pub returns-clause-shows : goal.returns-clause-shows
returns-clause-shows g c opened m registers shows regular =
    let v = c.args.storage.now.now in
    let going = when_false _ _ c.is_stopped-stands.ensures.going (c.is_stopped-stands.ensures.value ∙ c.requires.going) in
    let store : IsStore v.store = subst (λ (s : Store). IsStore s) c.pages.ensures c.may_touch.ensures.store in
    let none : HasNoEntry v.store c.args.space c.args.page = subst (λ (s : Store). HasNoEntry s c.args.space c.args.page) c.pages.ensures c.if-may_touch.ensures.none in
    subst (λ n. OnOk c.make_checkpoint.result (Shows opened c.make_checkpoint.new.storage.now c.args.locks.now registers n)) (sym (entry_made v m c.args.space c.args.page shows.storage going store none)) (c.make_checkpoint.ensures.shows opened m registers shows regular)
