use Rattle.std.proofs.Common.{ap, arith, length, sym, ◌∙◌, ◌≤◌}
use Rattle.std.proofs.lemmas.List.{get_or_past}
use Rattle.ol_core.specs.Filled.{Filled, blank_image, image_at}
use Rattle.ol_core.proofs.Held.{blank_is}
use Rattle.ol_core.proofs.space_pages.SpacePages.image.Goals as goal

pub returns-in-None : goal.returns-in-None
returns-in-None c =
    let past : length c.self.inside.images.items ≤ c.args.page = omega (arith, c.in-None.ensures.lookup, ap length c.deref.ensures.value) in
    sym blank_is ∙ sym (get_or_past c.self.inside.images.items c.args.page blank_image past) ∙ ap (λ (f : Filled). image_at f c.args.page) c.self.view_is
