-- Chains as the code makes them.
use Rattle.std.proofs.Common.{◌≡◌, ℕ, ◌+◌, ◌<◌, ◌++◌, ◌∙◌, Option, Result, Ok, Err, List, ◌∷◌, ap, drop, get_or, length, map, subst, sym, take}
use Rattle.std.proofs.lemmas.List.{drop_more, map_more}
use Rattle.std.proofs.lemmas.List.Sums.{fold_push}
use Rattle.ol_object_spans.specs.declared.object.Object.{Object}
use Rattle.ol_plan.specs.declared.archives.Link.{Link}
use Rattle.ol_plan.specs.declared.chain.SpaceChain.{SpaceChain}
use Rattle.ol_plan.specs.declared.fault.PlanFault.{PlanFault}
use Rattle.ol_plan.specs.declared.fault.PlanFault.TheVariants.{DamagedVolume, MissingLevel, MissingLog, NoMemory}
use Rattle.ol_plan.specs.Chains.{Chain, IsCause, chain, chain_of, chains, cons_chain, last_of, least_low, lower}

-- chains with those behind them
abbrev pub behind : List Chain → Result (List Chain) PlanFault → Result (List Chain) PlanFault
behind done (Err fault) = Err fault
behind done (Ok rest) = Ok (done ++ rest)

pub low_more : (end_ : ℕ) (chains : List SpaceChain) (i : ℕ) (c : SpaceChain) (low : ℕ) (last : Option Link) → i < length chains → c ≡ get_or chains i c
    → low ≡ least_low end_ (map chain_of (take i chains)) → last ≡ last_of c.links.items → lower low last ≡ least_low end_ (map chain_of (take (i + 1) chains))
low_more end_ chains i c low last below at is last_is =
    ap (lower low) last_is
    ∙ ap (λ x. lower x (last_of c.links.items)) is
    ∙ ap (λ (x : SpaceChain). lower (least_low end_ (map chain_of (take i chains))) (last_of x.links.items)) at
    ∙ sym (fold_push (λ low (c : Chain). lower low (last_of c.links)) (end_ + 1) (map chain_of (take i chains)) (chain_of (get_or chains i c)))
    ∙ ap (least_low end_) (sym (map_more chain_of chains i c below))

fails : (l : List Object) (end_ s : ℕ) (spaces : List ℕ) (done : List Chain) (e : PlanFault) → IsCause (chain l end_ s) e → IsCause (behind done (chains l end_ (s ∷ spaces))) e
fails l end_ s spaces done NoMemory why = tt
fails l end_ s spaces done (MissingLevel space level archive) why = ap (λ r. behind done (cons_chain s r (chains l end_ spaces))) why
fails l end_ s spaces done (MissingLog position) why = ap (λ r. behind done (cons_chain s r (chains l end_ spaces))) why
fails l end_ s spaces done (DamagedVolume drive volume block) why = ap (λ r. behind done (cons_chain s r (chains l end_ spaces))) why

-- the first space that lacks a chain refuses all
pub lacking : (l : List Object) (end_ : ℕ) (spaces : List ℕ) (i : ℕ) (done : List Chain) (e : PlanFault) → i < length spaces → behind done (chains l end_ (drop i spaces)) ≡ chains l end_ spaces
    → IsCause (chain l end_ (get_or spaces i 0)) e → IsCause (chains l end_ spaces) e
lacking l end_ spaces i done e below is why =
    let next : behind done (chains l end_ (get_or spaces i 0 ∷ drop (i + 1) spaces)) ≡ chains l end_ spaces = ap (λ t. behind done (chains l end_ t)) (sym (drop_more spaces i 0 below)) ∙ is in
    subst (λ r. IsCause r e) next (fails l end_ (get_or spaces i 0) (drop (i + 1) spaces) done e why)
