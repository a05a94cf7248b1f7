use Rattle.std.proofs.Common.{ap, arith, subst, sym, true, unwrap_or, Option, ℕ, ◌≡◌, ◌∙◌}
use Rattle.std.specs.Prelude.{slice_set}
use Rattle.ol_values.specs.Config.{has_page}
use Rattle.ol_pool.specs.Frames.{Frames}
use Rattle.ol_data_pages.specs.Places.{place_of}
use Rattle.ol_data_pages.proofs.PlaceLaws.{place_bounds}
use Rattle.ol_store.specs.Stores.{IsStore, Store}
use Rattle.ol_store.proofs.StoreLaws.{store_cleaned}
use Rattle.ol_store.proofs.store.Store.note_clean.Goals as goal
use Rattle.ol_store.proofs.store.Store.note_clean.Goals.{After-set_dirty, After-way_told-1}

has : (c : After-way_told-1) → has_page c.self.inside.table c.args.space c.args.page ≡ true
has c = subst (λ (s : Store). has_page s.config c.args.space c.args.page ≡ true) (sym c.self.view_is) c.requires.page

chunk : (c : After-way_told-1) → c.from.result ≡ (place_of c.self.inside.table c.args.space c.args.page).0
chunk c = c.from.ensures ∙ ap (λ (p : ℕ × ℕ). p.0) (c.unwrap_or-chunk.ensures ∙ ap (λ (o : Option (ℕ × ℕ)). unwrap_or o (let none : ℕ × ℕ = (0, 0) in none)) c.place.ensures.value)

pub bounds-self-inside-from : goal.bounds-self-inside-from
bounds-self-inside-from c = omega (arith, chunk c, (place_bounds c.self.inside.table c.self.invariant.config c.args.space c.args.page (has c)).0, c.self.invariant.config.chunks)

has_later : (c : After-set_dirty) → has_page c.self.inside.table c.args.space c.args.page ≡ true
has_later c = subst (λ (s : Store). has_page s.config c.args.space c.args.page ≡ true) (sym c.self.view_is) c.requires.page

chunk_later : (c : After-set_dirty) → c.from.result ≡ (place_of c.self.inside.table c.args.space c.args.page).0
chunk_later c = c.from.ensures ∙ ap (λ (p : ℕ × ℕ). p.0) (c.unwrap_or-chunk.ensures ∙ ap (λ (o : Option (ℕ × ℕ)). unwrap_or o (let none : ℕ × ℕ = (0, 0) in none)) c.place.ensures.value)

pub invariant_of-self : goal.invariant_of-self
invariant_of-self c =
    subst (λ (n : ℕ). IsStore (record { config = c.self.inside.table; pool = c.set_dirty.new.self; log = c.self.inside.log; before = c.self.inside.before; written = slice_set c.self.inside.written n true; flushed = c.self.inside.flushed; last = c.self.inside.last })) (sym (chunk_later c))
    (subst (λ (p : Frames). IsStore (record { config = c.self.inside.table; pool = p; log = c.self.inside.log; before = c.self.inside.before; written = slice_set c.self.inside.written (place_of c.self.inside.table c.args.space c.args.page).0 true; flushed = c.self.inside.flushed; last = c.self.inside.last })) (sym c.set_dirty.ensures)
    (store_cleaned _ c.self.invariant c.args.space c.args.page (has_later c)))
