use Rattle.std.proofs.Common.{◌≡◌, ℕ, List, [], ◌∷◌, ◌++◌, Vec, Global, map, sym, ap, ◌∙◌, subst}
use Rattle.std.proofs.lemmas.List.{map-append}
use Rattle.ol_outside.specs.Volumes.{BlocksFit, last_length}
use Rattle.ol_outside.proofs.LastVolume.{blocks-fit-added, last_length-added}
use Rattle.ol_outside.proofs.memory_drive.Volumes.add.Goals as goal

abbrev blocks_of : Vec (List ℕ) Global → List (List ℕ)
blocks_of v = v.items

-- the volumes with the new one
added : (c : goal.In_ok-push) → map blocks_of c.push.new.self.items ≡ c.args.self.now ++ [] ∷ []
added c =
    ap (map blocks_of) c.in_ok-push.ensures.items ∙ map-append blocks_of c.self.inside.volumes.items (c.new.result ∷ [])
    ∙ ap (λ l. l ++ blocks_of c.new.result ∷ []) c.self.view_is ∙ ap (λ (v : List (List ℕ)). c.args.self.now ++ v ∷ []) c.new.ensures.items

pub invariant_of-self-2 : goal.invariant_of-self-2
invariant_of-self-2 c =
    subst BlocksFit (sym (added c)) (blocks-fit-added c.args.self.now (subst BlocksFit c.self.view_is c.self.invariant))

pub returns-clause-last : goal.returns-clause-last
returns-clause-last c = ap last_length (added c) ∙ last_length-added c.args.self.now
