use Rattle.std.proofs.Common.{List, ap, refl, sym, ℕ, ◌∙◌}
use Rattle.ol_pool.specs.Frames.{Frames, without_dirty}
use Rattle.ol_pool.proofs.StoreLaws.{clean_stays, dirty_there, pool_is, stored_as, stored_unmarked}
use Rattle.ol_pool.proofs.pool.Pool.unmark.Goals as goal

pub returns-then-not-is_dirty : goal.returns-then-not-is_dirty
returns-then-not-is_dirty c =
    let stored = stored_as (sym c.self.view_is) refl refl c.self.invariant in
    clean_stays _ _ _ stored c.args.space c.args.page (sym c.is_dirty.ensures ∙ c.if-not-is_dirty.true)

pub set-requires-clause-space : goal.set-requires-clause-space
set-requires-clause-space c =
    let stored = stored_as (sym c.self.view_is) refl refl c.self.invariant in
    (dirty_there _ _ _ stored c.args.space c.args.page (sym c.is_dirty.ensures ∙ c.if-not-is_dirty.false)).0

pub set-requires-clause-page : goal.set-requires-clause-page
set-requires-clause-page c =
    let stored = stored_as (sym c.self.view_is) refl refl c.self.invariant in
    (dirty_there _ _ _ stored c.args.space c.args.page (sym c.is_dirty.ensures ∙ c.if-not-is_dirty.false)).1

pub drop_place-requires : goal.drop_place-requires
drop_place-requires c = (pool_is _ _ _ c.self.invariant).once c.args.space c.args.page

pub returns : goal.returns
returns c =
    ap (λ (l : List (ℕ × ℕ)). let p : Frames = record { spaces = c.self.inside.spaces; dirty = l } in p) c.drop_place.ensures.items
    ∙ ap (λ (p : Frames). without_dirty p c.args.space c.args.page) c.self.view_is

pub invariant_of-self : goal.invariant_of-self
invariant_of-self c =
    let stored = stored_as (sym c.self.view_is) refl refl c.self.invariant in
    let dirty = sym c.is_dirty.ensures ∙ c.if-not-is_dirty.false in
    stored_as (returns c) c.set.ensures c.drop_place.ensures.capacity (stored_unmarked _ _ _ stored c.args.space c.args.page ((pool_is _ _ _ stored).framed c.args.space c.args.page dirty) dirty)
