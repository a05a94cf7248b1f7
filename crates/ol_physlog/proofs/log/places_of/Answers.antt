use Rattle.std.proofs.Common.{List, [], ap, arith, false, subst, sym, take, ◌++◌, ◌∙◌, ◌∷◌, ◌≡◌}
use Rattle.std.specs.List.{list_any}
use Rattle.ol_physlog.specs.States.{same_page}
use Rattle.ol_physlog.specs.declared.place.Place.{Place}
use Rattle.ol_physlog.proofs.BeginLaws.{none_earlier, pages_more}
use Rattle.ol_physlog.proofs.StateLaws.{by_false}
use Rattle.ol_physlog.proofs.log.places_of.Goals as goal

pub loop-index-preserved : goal.loop-index-preserved
loop-index-preserved c =
    let f = c.args.entries.now in
    let fresh = none_earlier f c.loop-index.index c.count-index-end.ensures.found (omega (arith, c.loop-index-test.true, c.count-index-end.ensures.value)) in
    let here = subst (λ (p : Place). list_any (same_page p) (take c.loop-index.index f.places) ≡ false) (sym c.place.ensures) fresh in
    let none = subst (λ (l : List Place). list_any (same_page c.place.result) l ≡ false) (sym c.loop-index.invariant.keys) here in
    record {
      keys = c.in_ok-insert.ensures.keys
          ∙ by_false _ _ _ none
          ∙ ap (λ (l : List Place). l ++ c.place.result ∷ []) c.loop-index.invariant.keys
          ∙ ap (λ (p : Place). take c.loop-index.index f.places ++ p ∷ []) c.place.ensures
          ∙ pages_more f c.loop-index.index c.count-index-end.ensures.found (omega (arith, c.loop-index-test.true, c.count-index-end.ensures.value));
    }
