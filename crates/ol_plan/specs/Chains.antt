-- The chains of spaces, over archives that count.
use Rattle.std.specs.Prelude.{Bool, Err, List, None, Ok, Option, Result, Some, [], find, fold, if◌then◌else◌, length, min, nat_le, nat_lt, slice_get, ℕ, ◌&&◌, ◌+◌, ◌-◌, ◌==◌, ◌||◌, ◌≡◌, ◌∷◌}
use Rattle.ol_object_spans.specs.declared.object.Object.{Object}
use Rattle.ol_plan.specs.declared.archives.Link.{Link}
use Rattle.ol_plan.specs.declared.chain.SpaceChain.{SpaceChain}
use Rattle.ol_plan.specs.declared.fault.PlanFault.{PlanFault}
use Rattle.ol_plan.specs.declared.fault.PlanFault.TheVariants.{MissingLevel, NoMemory}
use Rattle.ol_plan.specs.Archives.{links}

-- the cause of a fault, where this is what there should be: memory was refused, or there should be the same fault
abbrev pub IsCause : {A : Type 0} → Result A PlanFault → PlanFault → Type 0
IsCause expected NoMemory = Unit {0}
IsCause expected fault = expected ≡ Err fault

-- a chain of links, from level 0 on
pub record Chain : Type 0 where
  pub space : ℕ
  pub links : List Link

-- the value of a chain of the program
abbrev pub chain_of : SpaceChain → Chain
chain_of c = record { space = c.space; links = c.links.items }

-- a greater cut, then a higher number
abbrev pub is_later : Link → Link → Bool
is_later k best = nat_lt best.cut k.cut || ((best.cut == k.cut) && nat_lt best.number k.number)

-- of equals the first stands
abbrev pub later_of : Option Link → Link → Option Link
later_of None k = Some k
later_of (Some best) k = if is_later k best then Some k else Some best

-- the better of two, where the second is at most at the end
abbrev pub with_later : ℕ → Option Link → Link → Option Link
with_later end_ best k = if nat_le k.cut end_ then later_of best k else best

-- the last archive: the one with the greatest cut at most the end
abbrev pub last_link : List Link → ℕ → Option Link
last_link links end_ = fold (with_later end_) None links

-- the parent has the number that the child names, one level less, and the child's base as its cut
abbrev pub is_parent : Link → Link → Bool
is_parent child k = (k.number == child.parent) && ((k.level + 1 == child.level) && (k.cut == child.base))

-- a chain with a parent in front, or the level that is missing
abbrev pub with_parent : ℕ → List Link → Link → Option Link → Result (List Link) PlanFault
with_parent space chain child None = Err (MissingLevel space (min (child.level - 1) 255) child.parent)
with_parent space chain child (Some k) = Ok (k ∷ chain)

-- a chain so far with the parent of its first archive, unless that is of level 0
abbrev pub one_up : List Link → ℕ → List Link → Result (List Link) PlanFault
one_up links space [] = Ok []
one_up links space (k ∷ chain) = if k.level == 0 then Ok (k ∷ chain) else with_parent space (k ∷ chain) k (find (is_parent k) links)

-- the same behind a step that may have been refused
abbrev pub and_up : List Link → ℕ → Result (List Link) PlanFault → Result (List Link) PlanFault
and_up links space (Err fault) = Err fault
and_up links space (Ok chain) = one_up links space chain

-- a chain of the last archive alone
abbrev pub first_link : ℕ → Option Link → Result (List Link) PlanFault
first_link space None = Err (MissingLevel space 0 0)
first_link space (Some k) = Ok (k ∷ [])

-- the chain over the links of a space; no archive has a level above 2
abbrev pub chain_over : List Link → ℕ → ℕ → Result (List Link) PlanFault
chain_over links end_ space = and_up links space (and_up links space (first_link space (last_link links end_)))

-- the chain of a space
abbrev pub chain : List Object → ℕ → ℕ → Result (List Link) PlanFault
chain l end_ space = chain_over (links l space) end_ space

-- one more chain in front, or the first refusal
abbrev pub cons_chain : ℕ → Result (List Link) PlanFault → Result (List Chain) PlanFault → Result (List Chain) PlanFault
cons_chain space (Err fault) rest = Err fault
cons_chain space (Ok chain) (Err fault) = Err fault
cons_chain space (Ok chain) (Ok rest) = Ok ((let c : Chain = record { space = space; links = chain } in c) ∷ rest)

-- the chains of these spaces, or the refusal of the first that lacks one
abbrev pub chains : List Object → ℕ → List ℕ → Result (List Chain) PlanFault
chains l end_ [] = Ok []
chains l end_ (s ∷ spaces) = cons_chain s (chain l end_ s) (chains l end_ spaces)

-- the lesser of a position and an archive's low
abbrev pub lower : ℕ → Option Link → ℕ
lower low None = low
lower low (Some k) = min low k.low

-- the last archive of a chain
abbrev pub last_of : List Link → Option Link
last_of links = slice_get links (length links - 1)

-- the least low of the chains' last archives, at most the position behind the end
abbrev pub least_low : ℕ → List Chain → ℕ
least_low end_ chains = fold (λ low (c : Chain). lower low (last_of c.links)) (end_ + 1) chains
