use Rattle.std.proofs.Common.{Option, ap, subst, sym, unwrap_or, ◌∙◌, ◌<◌, ℕ}
use Rattle.ol_chunks.specs.Limits.{chunk_count}
use Rattle.ol_chunks.specs.Places.{chunk_pages}
use Rattle.ol_data_pages.proofs.PlaceLaws.{place_bounds}
use Rattle.ol_data_pages.proofs.pages.place.Goals as goal

pub returns-clause-value : goal.returns-clause-value
returns-clause-value c = c.unwrap_or.ensures ∙ ap (λ (o : Option (ℕ × ℕ)). unwrap_or o (let none : ℕ × ℕ = (0, 0) in none)) c.place.ensures.value

pub returns-clause-chunk : goal.returns-clause-chunk
returns-clause-chunk c =
    subst (λ (p : ℕ × ℕ). p.0 < chunk_count c.args.table.now.spaces) (sym (returns-clause-value c)) (place_bounds c.args.table.now c.place.ensures.config c.args.space c.args.page c.requires).0

pub returns-clause-inside : goal.returns-clause-inside
returns-clause-inside c =
    subst (λ (p : ℕ × ℕ). p.1 < chunk_pages c.args.table.now p.0) (sym (returns-clause-value c)) (place_bounds c.args.table.now c.place.ensures.config c.args.space c.args.page c.requires).1
