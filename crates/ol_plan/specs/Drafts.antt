-- The parts of a plan, over the objects as they are told.
use Rattle.std.specs.Prelude.{Bool, Err, List, None, Ok, Option, Result, Some, false, map, min, option_map, true, ℕ, ◌-◌, ◌^◌, ◌≡◌}
use Rattle.ol_object_spans.specs.declared.object.Object.{Object}
use Rattle.ol_object_spans.specs.declared.place.Place.{Place}
use Rattle.ol_plan.specs.declared.fault.PlanFault.{PlanFault}
use Rattle.ol_plan.specs.declared.fault.PlanFault.TheVariants.{DamagedVolume, MissingLog}
use Rattle.ol_plan.specs.declared.logs.LogSpan.{LogSpan}
use Rattle.ol_plan.specs.declared.plan.Draft as code
use Rattle.ol_plan.specs.declared.plan.Chain as code_chain
use Rattle.ol_plan.specs.declared.plan.Plan.{Plan}
use Rattle.ol_plan.specs.Archives.{index_of_link}
use Rattle.ol_plan.specs.Chains.{Chain, chain_of, chains, least_low}
use Rattle.ol_plan.specs.Damage.{first_bad}
use Rattle.ol_plan.specs.Logs.{index_of_log, logs, runs, short}

-- chains, the first position that they need, the log objects from there on, and the first needed position that has none
pub record Draft : Type 0 where
  pub low : ℕ
  pub chains : List Chain
  pub logs : List LogSpan
  pub missing : Option ℕ

-- the value of a draft of the program
abbrev pub draft_of : code.Draft → Draft
draft_of d = record { low = d.low; chains = map chain_of d.chains.items; logs = d.runs.logs.items; missing = d.runs.short }

-- the draft of chains
abbrev pub draft_with : List Object → ℕ → List Chain → Draft
draft_with l end_ chains = record {
  low = least_low end_ chains;
  chains = chains;
  logs = runs (logs l) (least_low end_ chains) end_;
  missing = short (logs l) (least_low end_ chains) end_;
}

-- the draft of chains, unless one was refused
abbrev pub drafted_with : List Object → ℕ → Result (List Chain) PlanFault → Result Draft PlanFault
drafted_with l end_ (Err fault) = Err fault
drafted_with l end_ (Ok chains) = Ok (draft_with l end_ chains)

-- the draft for these spaces up to an end
abbrev pub drafted : List Object → ℕ → List ℕ → Result Draft PlanFault
drafted l end_ spaces = drafted_with l end_ (chains l end_ spaces)

-- the first bad block of a draft
abbrev pub damage_in : Draft → Option PlanFault
damage_in d = option_map (λ (p : Place). DamagedVolume p.drive p.volume p.block) (first_bad d.chains d.logs)

-- the same, with the missing position by itself
abbrev pub fault_with : Draft → Bool → Option ℕ → Option PlanFault
fault_with d true (Some position) = Some (MissingLog position)
fault_with d true None = damage_in d
fault_with d false missing = damage_in d

-- why a draft is no plan: a log that may not be missing, then damage
abbrev pub fault_in : Bool → Draft → Option PlanFault
fault_in is_whole d = fault_with d is_whole d.missing

-- a space and the indexes of its archives
pub record Archives : Type 0 where
  pub space : ℕ
  pub indexes : List ℕ

-- the value of a chain of the program, by indexes
abbrev pub archives_of : code_chain.Chain → Archives
archives_of c = record { space = c.space; indexes = c.archives.items }

-- a chain by the indexes of its links
abbrev pub links_in : Chain → Archives
links_in c = record { space = c.space; indexes = map index_of_link c.links }

-- a plan of the program tells a draft
pub record IsDraftTold (end_ : ℕ) (d : Draft) (p : Plan) : Type 0 where
  pub last : p.end ≡ end_
  pub low : p.low ≡ min d.low (2 ^ 64 - 1)
  pub chains : map archives_of p.chains.items ≡ map links_in d.chains
  pub logs : p.logs.items ≡ map index_of_log d.logs
  pub missing : p.short ≡ d.missing
