use Rattle.std.specs.Prelude.{Err, IfOk, IsErrOf, None, Ok, OnErr, OnOk, Option, Some, [], false, true, slice_index_or, ℕ, ◌+◌, ◌<◌, ◌^◌, ◌≡◌}
use Rattle.std.proofs.Common.{ap, arith, inl, refl, subst, sym, ◌∙◌}
use Rattle.ol_values.specs.Config.{Config, has_page}
use Rattle.ol_cursor.specs.Order.{archives}
use Rattle.ol_store.specs.Archives.{AreUp}
use Rattle.ol_store.specs.Stores.{IsBadAt}
use Rattle.ol_store.specs.declared.store.StoreFault.TheVariants.{Bad as StoreBad}
use Rattle.ol_storage.specs.Behind.{Behind, is_up, pages_of}
use Rattle.ol_storage.specs.Causes.{HasStorageCause}
use Rattle.ol_storage.specs.declared.storage.StorageFault.TheVariants.{Bad, Failed}
use Rattle.ol_storage.specs.Installation.{HasAll, Held, Installation, IsInstallation, config_of, flushed_of, marked, next_to_back, with_ring, with_store}
use Rattle.ol_storage.specs.Standing.{StandsBetween}
use Rattle.ol_storage.specs.Storing.{IsStored}
use Rattle.ol_storage.proofs.Images.{Known}
use Rattle.ol_storage.proofs.Quiet.{before_stored, loaded_stored, passed_stored, room_stored, stored_stands, switched_going, switched_stored}
use Rattle.ol_storage.proofs.storage.Storage.image_at_cut.Goals as goal

pub returns-in-Err-Bad-clause-bad : goal.returns-in-Err-Bad-clause-bad
returns-in-Err-Bad-clause-bad g c =
    let v : Installation = record { ring = c.self.inside.ring; store = c.self.inside.store; anchor = c.self.inside.anchor; reached = c.self.inside.reached; stopped = c.self.inside.stopped } in
    let stopped : c.self.inside.stopped ≡ false = ap (λ (h : Held _). h.now.stopped) c.self.view_is ∙ c.requires.going in
    let known : Known v = record { going = c.self.invariant.going stopped; ring = c.reusable.ensures.limits; area = c.spare.ensures.store.area } in
    subst (λ (h : Held _). (chunk at : ℕ) → IsErrOf {T = Option (ℕ × ℕ)} (Err (Bad c.in-Err-Bad.chunk c.in-Err-Bad.page)) (Bad chunk at) → (space : ℕ) × (page : ℕ) × (has_page (config_of h.now) space page ≡ true) × (archives c.args.cursor.now space ≡ true) × IsBadAt h.now.store space page chunk at) c.self.view_is
    (λ chunk at same.
    let one : c.in-Err-Bad.chunk ≡ chunk = cc in
    let two : c.in-Err-Bad.page ≡ at = cc in
    let bad = c.image_at_cut.ensures.bad chunk at (c.in-Err-Bad.is ∙ ap Err (c.in-Err-Bad.field-0-is ∙ ap (λ (n : ℕ). StoreBad n c.in-Err-Bad.page) one ∙ ap (λ (n : ℕ). StoreBad chunk n) two)) in
    (bad.0, bad.1, subst (λ (k : Config). has_page k bad.0 bad.1 ≡ true) known.going.config bad.2, bad.3, bad.4))

pub returns-in-Err-Bad-clause-good : goal.returns-in-Err-Bad-clause-good
returns-in-Err-Bad-clause-good g c =
    subst (λ (h : Held _). g.D.Disk.tells → (b : Behind) → IsStored (g.D.Disk.past h.disk) h.now b → AreUp c.args.cursor.now (pages_of h.now.anchor b) → (chunk at : ℕ) → IsErrOf {T = Option (ℕ × ℕ)} (Err (Bad c.in-Err-Bad.chunk c.in-Err-Bad.page)) (Bad chunk at) → ⊥) c.self.view_is
    (λ tells b is up chunk at same. c.image_at_cut.ensures.good tells (pages_of c.self.inside.anchor b) is.pages.on_disk is.pages.flushed up c.in-Err-Bad.chunk c.in-Err-Bad.page (c.in-Err-Bad.is ∙ ap Err c.in-Err-Bad.field-0-is))
