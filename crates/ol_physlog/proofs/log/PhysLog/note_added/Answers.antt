use Rattle.std.proofs.Common.{ap, arith, length, List, ◌<◌, ◌≡◌, ◌∙◌, ◌++◌, [], ◌∷◌, sym, subst, false, length-append}
use Rattle.std.specs.List.{list_any}
use Rattle.ol_physlog.specs.States.{Log, has_entry, same_page}
use Rattle.ol_physlog.specs.declared.place.Place.{Place}
use Rattle.ol_physlog.proofs.StateLaws.{by_false, if_ok, inserted_is, log_inserted}
use Rattle.ol_physlog.proofs.log.PhysLog.note_added.Goals as goal
use Rattle.ol_physlog.proofs.log.PhysLog.note_added.Goals.{After-unwrap}

room : (c : After-unwrap) → length c.self.inside.places.keys < c.self.inside.area.count
room c = subst (λ (s : Log). length s.places < s.area.count) (sym c.self.view_is) c.requires.room

fresh : (c : After-unwrap) → list_any (same_page c.args.place) c.self.inside.places.keys ≡ false
fresh c = subst (λ (s : Log). has_entry s c.args.place ≡ false) (sym c.self.view_is) c.requires.fresh

keys : (c : After-unwrap) → c.insert.new.self.keys ≡ c.self.inside.places.keys ++ c.args.place ∷ []
keys c = if_ok c.insert.result (c.insert.ensures.succeeds (omega (arith, room c, c.self.invariant.1))) c.insert.ensures.keys ∙ by_false _ _ _ (fresh c)

pub invariant_of-self : goal.invariant_of-self
invariant_of-self c = (
  log_inserted _ c.args.place _ c.self.invariant.0 (room c) (fresh c) (keys c),
  omega (arith, c.self.invariant.1, c.insert.ensures.spare, ap (λ (l : List Place). length l) (keys c), length-append c.self.inside.places.keys (c.args.place ∷ []), room c),
)

pub returns : goal.returns
returns c = inserted_is _ _ c.args.place _ (keys c) c.self.view_is
