use Rattle.std.proofs.Common.{List, ap, arith, false, length, refl, sym, ℕ, ◌∙◌, ◌≡◌}
use Rattle.ol_pool.specs.Frames.{Frames, is_dirty}
use Rattle.ol_pool.proofs.StoreLaws.{added, added_is, mark_there, room_for, stored_as, stored_marked}
use Rattle.ol_pool.proofs.pool.Pool.mark.Goals as goal

pub set-requires-clause-space : goal.set-requires-clause-space
set-requires-clause-space c =
    let stored = stored_as (sym c.self.view_is) refl refl c.self.invariant in
    (mark_there _ _ _ stored c.args.space c.args.page c.requires).0

pub add_place-requires : goal.add_place-requires
add_place-requires c =
    let stored = stored_as (sym c.self.view_is) refl refl c.self.invariant in
    omega (arith, ap (λ (p : Frames). length p.dirty) c.self.view_is, room_for _ _ _ stored c.args.space c.args.page c.requires (sym c.is_dirty.ensures ∙ c.if-is_dirty.false))

pub returns : goal.returns
returns c =
    ap (λ (l : List (ℕ × ℕ)). let p : Frames = record { spaces = c.self.inside.spaces; dirty = l } in p) c.add_place.ensures.items
    ∙ ap (λ (p : Frames). added p c.args.space c.args.page) c.self.view_is
    ∙ added_is c.args.self.now c.args.space c.args.page (sym c.is_dirty.ensures ∙ c.if-is_dirty.false)

pub invariant_of-self : goal.invariant_of-self
invariant_of-self c =
    let stored = stored_as (sym c.self.view_is) refl refl c.self.invariant in
    let clean : is_dirty c.args.self.now c.args.space c.args.page ≡ false = sym c.is_dirty.ensures ∙ c.if-is_dirty.false in
    stored_as (returns c ∙ sym (added_is c.args.self.now c.args.space c.args.page clean)) c.set.ensures c.add_place.ensures.capacity (stored_marked _ _ _ stored c.args.space c.args.page c.requires clean)
