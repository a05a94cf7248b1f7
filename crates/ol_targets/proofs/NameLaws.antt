-- Spaces by their names.
use Rattle.std.specs.Prelude.{List, None, Option, Some, [], bytes_eq, length, refl, true, ℕ, ◌++◌, ◌<◌, ◌∷◌, ◌≡◌}
use Rattle.std.proofs.Common.{ap, arith, subst, sym, ◌∙◌}
use Rattle.std.proofs.lemmas.List.Quantifiers.{position-Some}
use Rattle.std.proofs.lemmas.Slice.Eq.{bytes_eq-Decides}
use Rattle.ol_values.specs.Config.{Config, SpaceConfig, is_name, space_at, space_named, unnamed}
use Rattle.ol_chunks.specs.Limits.{IsConfig}
use Rattle.ol_chunks.proofs.Chunks.{space_is}

-- what is no name is no space's
pub no_name : (c : Config) (label : List ℕ) → IsConfig c → ¬ (is_name label ≡ true) → space_named c label ≡ None
no_name c label limits bad = cases (space_named c label) refl
  where
    cases : (found : Option ℕ) → space_named c label ≡ found → found ≡ None
    cases None e = refl
    cases (Some s) e =
        let at = position-Some (λ (t : SpaceConfig). bytes_eq t.name label) c.spaces s unnamed e in
        let name = (space_at c s).name in
        let same : name ≡ label = (bytes_eq-Decides name label).0 at.1 in
        absurd (bad (ap is_name (sym same) ∙ (space_is 0 c.spaces s limits.spaces at.0).name))
