use Rattle.std.specs.Prelude.{true, ℕ, ◌+◌, ◌≡◌}
use Rattle.std.proofs.Common.{ap, arith, refl, subst, sym, ◌∙◌}
use Rattle.ol_before.specs.Images.{Captures, is_in_space, without}
use Rattle.ol_cursor.specs.declared.cursor.Cursor.{Cursor}
use Rattle.ol_cursor.specs.Order.{archives}
use Rattle.ol_running.specs.Running.{dropped_upto, is_of_archive}
use Rattle.ol_running.proofs.EndLaws.{drop_all, drop_next, drop_none, drop_other}
use Rattle.ol_storage.specs.Installation.{Held, Installation, with_store}
use Rattle.ol_storage.specs.Storing.{IsStored}
use Rattle.ol_store.specs.Stores.{with_before}
use Rattle.ol_captures.proofs.drop_images_of.Goals as goal
use Rattle.ol_captures.proofs.drop_images_of.Goals.{then-archives, else-archives}

-- one space more
dropped_more : (v u w : Installation) (c : Cursor) (n : ℕ) → archives c n ≡ true → u ≡ with_store v (with_before v.store (dropped_upto c v.store.before n)) → w ≡ with_store u (with_before u.store (without (is_in_space n) u.store.before))
    → w ≡ with_store v (with_before v.store (dropped_upto c v.store.before (n + 1)))
dropped_more v u w c n is before step =
    step
    ∙ ap (λ (x : Installation). with_store x (with_before x.store (without (is_in_space n) x.store.before))) before
    ∙ ap (λ (b : Captures). with_store v (with_before v.store b)) (drop_next c v.store.before n is)

pub loop-space-init : goal.loop-space-init
loop-space-init g c =
    let v = c.args.storage.now.now in (
      ap (λ (b : Captures). with_store v (with_before v.store b)) (sym (drop_none c.args.cursor.now v.store.before)),
      refl,
      λ tells b s. s,
    )

pub loop-space-preserved : goal.loop-space-preserved
loop-space-preserved g c =
    let v = c.args.storage.now.now in
    elim c.if-archives.branch [
      | then-archives w ↦ (
        ap (λ (h : Held _). h.now) w.storage-is ∙ dropped_more v c.loop-space.storage.now w.drop_images.new.self.now c.args.cursor.now c.loop-space.space (sym c.archives.ensures.value ∙ w.if-archives.true) c.loop-space.invariant.0 w.drop_images.ensures.step,
        ap (λ (h : Held _). h.disk) w.storage-is ∙ w.drop_images.ensures.disk ∙ c.loop-space.invariant.1,
        λ tells b s. subst (λ (h : Held _). IsStored (g.D.Disk.past h.disk) h.now b) (sym w.storage-is) (w.drop_images.ensures.stored tells b (c.loop-space.invariant.2 tells b s)),
      )
      | else-archives w ↦ (
        ap (λ (h : Held _). h.now) w.storage-is ∙ c.loop-space.invariant.0 ∙ ap (λ (b : Captures). with_store v (with_before v.store b)) (drop_other c.args.cursor.now v.store.before c.loop-space.space (sym c.archives.ensures.value ∙ w.if-archives.false)),
        ap (λ (h : Held _). h.disk) w.storage-is ∙ c.loop-space.invariant.1,
        λ tells b s. subst (λ (h : Held _). IsStored (g.D.Disk.past h.disk) h.now b) (sym w.storage-is) (c.loop-space.invariant.2 tells b s),
      )
    ]

pub returns-clause-step : goal.returns-clause-step
returns-clause-step g c =
    let v = c.args.storage.now.now in
    let last : c.loop-space.space ≡ 16 = omega (arith, c.loop-space.auto.space-end, c.loop-space-test.false) in
    c.loop-space.invariant.0
    ∙ ap (λ (n : ℕ). with_store v (with_before v.store (dropped_upto c.args.cursor.now v.store.before n))) last
    ∙ ap (λ (b : Captures). with_store v (with_before v.store b)) (drop_all c.args.cursor.now v.store.before c.count_of-count.ensures)
