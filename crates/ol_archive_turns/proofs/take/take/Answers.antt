use Rattle.std.specs.Prelude.{Err, Option, ℕ, ◌≡◌}
use Rattle.std.proofs.Common.{ap, subst, ◌∙◌}
use Rattle.ol_storage.specs.declared.storage.StorageFault.TheVariants.{Bad}
use Rattle.ol_storage.specs.Behind.{pages_of}
use Rattle.ol_storage.specs.Installation.{config_of, with_store}
use Rattle.ol_store.specs.Archives.{IsGiven, with_passed}
use Rattle.ol_engine.specs.Parts.{behind_of}
use Rattle.ol_archive_turns.specs.Turns.{Tells}
use Rattle.ol_archive_turns.proofs.Takes.{none_tells, none_told, one_up, page_image, page_tells, some_left, take_fails}
use Rattle.ol_archive_turns.proofs.take.take.Goals as goal

pub returns-in-Ok-Some-clause-answer : goal.returns-in-Ok-Some-clause-answer
returns-in-Ok-Some-clause-answer g c t opened seats registers m earlier tells up stored =
    let v = c.args.storage.now.now in
    let l = c.args.archives.now in
    let k = c.args.archiver in
    let r = c.args.running in
    let b = behind_of earlier m in
    let given = c.in-Ok-Some.ensures.next t b stored (one_up v b l k r up c.requires.held) (some_left r.cursor.left (λ e. cc (c.in-Ok-Some.ensures.done e, c.in-Ok-Some.field-0-is))) in
    page_tells opened v seats registers l m earlier k r c.requires.archiver.0 c.requires.archiver.1 tells up c.requires.held c.requires.whole c.image_at_cut.new.self.now c.pass.new.archives (c.in-Ok-Some.space, c.in-Ok-Some.page) c.image_at_cut.new.buf
    (subst (λ (p : Option (ℕ × ℕ)). IsGiven (config_of v) r.cursor v.store.before (pages_of v.anchor b) p c.image_at_cut.new.buf) c.in-Ok-Some.field-0-is given)
    (c.in-Ok-Some.ensures.step ∙ ap (λ (p : Option (ℕ × ℕ)). with_store v (with_passed v.store p)) c.in-Ok-Some.field-0-is) c.pass.ensures.passed

pub returns-in-Ok-Some-clause-image : goal.returns-in-Ok-Some-clause-image
returns-in-Ok-Some-clause-image g c t opened seats registers m earlier tells up stored =
    let v = c.args.storage.now.now in
    let l = c.args.archives.now in
    let k = c.args.archiver in
    let r = c.args.running in
    let b = behind_of earlier m in
    let given = c.in-Ok-Some.ensures.next t b stored (one_up v b l k r up c.requires.held) (some_left r.cursor.left (λ e. cc (c.in-Ok-Some.ensures.done e, c.in-Ok-Some.field-0-is))) in
    page_image opened v seats registers l m earlier k r c.requires.archiver.0 c.requires.archiver.1 tells up c.requires.held c.requires.whole (c.in-Ok-Some.space, c.in-Ok-Some.page) c.image_at_cut.new.buf
    (subst (λ (p : Option (ℕ × ℕ)). IsGiven (config_of v) r.cursor v.store.before (pages_of v.anchor b) p c.image_at_cut.new.buf) c.in-Ok-Some.field-0-is given)

pub returns-in-Ok-None-clause-answer : goal.returns-in-Ok-None-clause-answer
returns-in-Ok-None-clause-answer g c t opened seats registers m earlier tells up stored =
    let v = c.args.storage.now.now in
    let l = c.args.archives.now in
    let k = c.args.archiver in
    let r = c.args.running in
    let b = behind_of earlier m in
    let turn = none_tells opened v seats registers l m earlier k r c.requires.archiver.0 c.requires.archiver.1 tells up c.requires.held c.requires.whole
    (λ some. subst (λ (p : Option (ℕ × ℕ)). IsGiven (config_of v) r.cursor v.store.before (pages_of v.anchor b) p c.image_at_cut.new.buf) c.in-Ok-None.field-0-is (c.in-Ok-None.ensures.next t b stored (one_up v b l k r up c.requires.held) some)) in
    none_told opened v seats registers l m earlier k r c.requires.archiver.0 c.requires.archiver.1 tells up c.requires.held c.requires.whole c.image_at_cut.new.self.now
    (c.in-Ok-None.ensures.step ∙ ap (λ (p : Option (ℕ × ℕ)). with_store v (with_passed v.store p)) c.in-Ok-None.field-0-is) turn

pub returns-in-Err-clause-answer : goal.returns-in-Err-clause-answer
returns-in-Err-clause-answer g c t opened seats registers m earlier tells up stored =
    take_fails (Tells opened c.image_at_cut.new.self.now seats registers c.args.archives.now) c.args.archives.now c.args.storage.now.now.store.before m c.args.archiver c.args.running c.in-Err.fault c.requires.archiver.0 tells.1 c.requires.held c.requires.whole (λ e. c.in-Err.ensures.memory (ap (λ f. Err f) e)) (λ e. c.in-Err.ensures.only (ap (λ f. Err f) e))

pub returns-in-Err-clause-good : goal.returns-in-Err-clause-good
returns-in-Err-clause-good g c t b stored up chunk at e =
    let same : c.in-Err.fault ≡ Bad chunk at = cc in
    c.in-Err.ensures.good t b stored (one_up c.args.storage.now.now b c.args.archives.now c.args.archiver c.args.running up c.requires.held) chunk at (ap (λ f. Err f) same)
