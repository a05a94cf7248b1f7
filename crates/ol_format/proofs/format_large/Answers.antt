use Rattle.std.proofs.Common.{inl, inr, subst, sym, ⊎_elim, ℕ, ◌≤◌}
use Rattle.ol_format.proofs.Formatting.{root_size}
use Rattle.ol_ports.proofs.StopLaws.{stops_both, stops_framed, stops_weaker}
use Rattle.ol_format.proofs.format_large.Goals as goal

pub clear-requires-clause-pair : goal.clear-requires-clause-pair
clear-requires-clause-pair g c = root_size _ c.args.table.now c.make_first-anchor.ensures.config c.requires

pub write_first-requires : goal.write_first-requires
write_first-requires g c =
    subst (λ (sizes : ℕ → ℕ). 2 ≤ sizes 0) (sym c.in-Ok.ensures.sizes) (root_size _ c.args.table.now c.make_first-anchor.ensures.config c.requires)

pub returns-in-Ok-clause-stops : goal.returns-in-Ok-clause-stops
returns-in-Ok-clause-stops g c tells =
    stops_both _ _ _ _ (stops_weaker _ _ _ _ (λ d closing. ⊎_elim (λ gates. inl gates) (λ none. inr (inl none)) closing) (c.in-Ok.ensures.stops tells))
    (stops_weaker _ _ _ _ (λ d one. inr one) (c.write_first.ensures.stops tells c.args.table.now (c.make_first-anchor.ensures.config, c.make_first-anchor.ensures.value) (c.in-Ok.ensures.ok tells)))

pub returns-in-Ok-clause-frame : goal.returns-in-Ok-clause-frame
returns-in-Ok-clause-frame g c tells =
    stops_framed _ _ _ _ (c.in-Ok.ensures.frame tells) (c.write_first.ensures.frame tells c.args.table.now c.make_first-anchor.ensures.config)

pub returns-in-Err-clause-stops : goal.returns-in-Err-clause-stops
returns-in-Err-clause-stops g c tells = stops_weaker _ _ _ _ (λ d closing. ⊎_elim (λ gates. inl gates) (λ none. inr (inl none)) closing) (c.in-Err.ensures.stops tells)
