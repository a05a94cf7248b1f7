use Rattle.std.proofs.Common.{◌≡◌, ◌∙◌, ap, false, sym, true}
use Rattle.std.specs.Prelude.{bytes_eq, drop}
use Rattle.ol_chunks.specs.Reading.{config_in_text}
use Rattle.ol_reserve.specs.Anchor.{anchor_bytes, anchor_in_limits}
use Rattle.ol_reserve.specs.declared.anchor.Anchor.{Anchor}
use Rattle.ol_reserve.proofs.Grammar.{anchor_from, limits_again, spelled_again, spelled_from}
use Rattle.ol_reserve.proofs.Results.{anchor_is}
use Rattle.ol_reserve.proofs.anchor.Anchor.decode.Goals as goal
use Rattle.ol_reserve.proofs.anchor.Anchor.decode.Goals.{then-not-is_spelled-via-then-not-is_spelled, then-not-is_spelled-via-else-not-is_spelled+then-not-is_in_limits}

pub returns-then-not-is_spelled-clause-bad : goal.returns-then-not-is_spelled-clause-bad
returns-then-not-is_spelled-clause-bad c bad gate a is e =
    let same : c.in-Some.anchor ≡ a = anchor_is c.in-Some.anchor a (sym c.in-Some.is ∙ c.told.ensures gate a is e) in
    elim c.then-not-is_spelled.branch [
      | then-not-is_spelled-via-then-not-is_spelled w ↦
          let never : false ≡ true = sym w.if-not-is_spelled.true ∙ c.is_spelled.ensures ∙ ap (λ (x : Anchor). bytes_eq (drop 1 c.args.page.now) (drop 1 (anchor_bytes 1 x))) same ∙ spelled_again c.args.page.now gate a e in
          absurd (cc)
      | then-not-is_spelled-via-else-not-is_spelled+then-not-is_in_limits w ↦
          let never : false ≡ true = sym w.if-not-is_in_limits.true ∙ w.is_in_limits.ensures.limits ∙ ap anchor_in_limits same ∙ limits_again a is in
          absurd (cc)
    ]

pub returns-then-are_states-clause-found : goal.returns-then-are_states-clause-found
returns-then-are_states-clause-found c =
    let a = c.in-Some.anchor in
    let text = c.bytes.ensures.value in
    let config = c.in-Ok.ensures.found in (
      anchor_from a c.in-Ok.spaces (sym c.is_in_limits.ensures.limits ∙ c.if-not-is_in_limits.false) c.is_in_limits.ensures.each c.bytes.ensures.limit
          (config.0, ap config_in_text (sym text) ∙ config.1, config.2) (sym c.are_states.ensures ∙ c.if-are_states.true),
      spelled_from c.args.page.now a c.told-page (sym c.is_spelled.ensures ∙ c.if-not-is_spelled.false),
    )
