-- The plan of a restore over a shelf.
use Rattle.std.specs.Prelude.{Err, List, None, Ok, Option, Result, Some, [], if◌then◌else◌, length, map, min, nat_eq, slice_get, fold, ℕ, ◌++◌, ◌-◌, ◌^◌, ◌≡◌, ◌∷◌}
use Rattle.ol_values.specs.declared.event.Reply.{Reply}
use Rattle.ol_values.specs.declared.event.Reply.TheVariants.{DamagedVolume, MissingLevel, MissingLog}
use Rattle.ol_rules.specs.Plan as rules
use Rattle.ol_rules.specs.Plan.{plan_of, plan_to}
use Rattle.ol_rules.specs.Shelf.{Object, Shelf}
use Rattle.ol_plan.specs.declared.fault.PlanFault.{PlanFault}
use Rattle.ol_plan.specs.declared.fault.PlanFault.TheVariants as fault
use Rattle.ol_plan.specs.declared.plan.Chain.{Chain}
use Rattle.ol_plan.specs.declared.plan.Plan.{Plan}

-- up to an end, or else up to the end of the logs
abbrev pub planned : Shelf → List ℕ → Option ℕ → Result rules.Plan Reply
planned shelf spaces None = plan_of shelf spaces
planned shelf spaces (Some end_) = plan_to shelf spaces end_

-- the objects of a list at these indexes
abbrev pub AreAt : List Object → List ℕ → List Object → Type 0
AreAt all indexes found = map (slice_get all) indexes ≡ map (λ (o : Object). Some o) found

-- the chains of the same spaces, with the same archives
abbrev pub AreChains : List Object → List Chain → List rules.Chain → Type 0
AreChains all [] [] = Unit {0}
AreChains all [] (d ∷ ds) = ⊥
AreChains all (c ∷ cs) [] = ⊥
AreChains all (c ∷ cs) (d ∷ ds) = (c.space ≡ d.space) × (AreAt all c.archives.items d.archives × AreChains all cs ds)

-- the last of some indexes
abbrev pub last_of : List ℕ → Option ℕ
last_of indexes = slice_get indexes (length indexes - 1)

-- what is added for an index behind a last one
abbrev pub differs : Option ℕ → ℕ → List ℕ
differs None i = i ∷ []
differs (Some last) i = if nat_eq last i then [] else i ∷ []

-- a list in which consecutive equal ones stand once
abbrev pub once : List ℕ → List ℕ
once indexes = fold (λ l i. l ++ differs (last_of l) i) [] indexes

-- indexes of the log objects of each position, with consecutive equal ones taken once
pub record AreLogs (all : List Object) (taken : List ℕ) (logs : List Object) : Type 0 where
  pub each : List ℕ
  pub at : AreAt all each logs
  pub runs : taken ≡ once each

-- a plan of the program tells a plan of the rules
pub record IsPlanOf (all : List Object) (p : rules.Plan) (q : Plan) : Type 0 where
  pub last : q.end ≡ p.end_
  pub low : q.low ≡ min p.low (2 ^ 64 - 1)
  pub chains : AreChains all q.chains.items p.chains
  pub logs : AreLogs all q.logs.items p.logs
  pub missing : q.short ≡ p.short

-- a refusal, with a level above 255 told as 255
abbrev pub IsReply : Reply → PlanFault → Type 0
IsReply (MissingLevel space level archive) f = f ≡ fault.MissingLevel space (min level 255) archive
IsReply (MissingLog position) f = f ≡ fault.MissingLog position
IsReply (DamagedVolume drive volume block) f = f ≡ fault.DamagedVolume drive volume block
IsReply _ f = ⊥

-- a refusal of the program tells the refusal of the rules, or memory was refused
abbrev pub IsRefusal : Result rules.Plan Reply → PlanFault → Type 0
IsRefusal expected fault.NoMemory = Unit {0}
IsRefusal (Ok p) f = ⊥
IsRefusal (Err reply) f = IsReply reply f

-- a plan of the program tells the plan of the rules
abbrev pub IsPlan : List Object → Result rules.Plan Reply → Plan → Type 0
IsPlan all (Ok p) q = IsPlanOf all p q
IsPlan all (Err reply) q = ⊥

-- the answer tells the plan of the rules, or memory was refused
abbrev pub IsPlanned : List Object → Result rules.Plan Reply → Result Plan PlanFault → Type 0
IsPlanned all expected (Ok q) = IsPlan all expected q
IsPlanned all expected (Err f) = IsRefusal expected f
