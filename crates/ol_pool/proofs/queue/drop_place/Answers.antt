use Rattle.std.proofs.Common.{not, rules, sym, ◌∙◌}
use Rattle.std.proofs.lemmas.Fn.{filter_same}
use Rattle.ol_pool.specs.Frames.{same_place}
use Rattle.ol_pool.proofs.ListLaws.{first_dropped}
use Rattle.ol_pool.proofs.queue.drop_place.Goals as goal

pub returns-then-stands_first-clause-items : goal.returns-then-stands_first-clause-items
returns-then-stands_first-clause-items c =
    c.pop_front-first.ensures.rest ∙ first_dropped (same_place c.args.place) c.args.places.now.items (sym c.stands_first.ensures ∙ c.if-stands_first.true) c.requires

pub returns-clause-items : goal.returns-clause-items
returns-clause-items c = filter_same _ (λ other. not (same_place c.args.place other)) _ (λ x b f' k. search rules) _ _ c.retain.ensures.filtered
