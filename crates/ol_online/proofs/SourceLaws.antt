-- How much of a source was read, carried over to the status of the command.
use Rattle.std.specs.Prelude.{List, Option, Some, ℕ, ◌≡◌}
use Rattle.std.proofs.Common.{inl, inr, subst, sym}
use Rattle.ol_online.specs.Command.{IsReported}
use Rattle.ol_online.specs.Sources.{TakesTo, limit_of}
use Rattle.ol_online.specs.declared.status.Status.{Status}
use Rattle.ol_online.specs.declared.status.Status.TheVariants.{Ok as Done}
use Rattle.ol_online.specs.declared.words.Verb.{Verb}

-- what was read well stays read, whatever comes behind
pub takes_on : (limit : ℕ) (old new : Option (List ℕ)) (status : Status) → TakesTo limit old new Done → TakesTo limit old new status
takes_on limit old new status takes no_fault no_memory = takes (λ is. cc) (λ is. cc)

-- the same of the command's status
pub takes_reported : (limit before after : ℕ) (old new : Option (List ℕ)) (ended status : Status) → IsReported before after ended status → TakesTo limit old new ended → TakesTo limit old new status
takes_reported limit before after old new ended status (inl same) takes = subst (λ (s : Status). TakesTo limit old new s) (sym same) takes
takes_reported limit before after old new ended status (inr (done, write, rose)) takes =
    takes_on limit old new status (subst (λ (s : Status). TakesTo limit old new s) done takes)

-- the limit is that of the verb
pub takes_verb : (told : Option Verb) (asked verb : Verb) (old new : Option (List ℕ)) (status : Status) → told ≡ Some asked → told ≡ Some verb → TakesTo (limit_of asked) old new status → TakesTo (limit_of verb) old new status
takes_verb told asked verb old new status given is takes =
    let same : asked ≡ verb = cc in subst (λ (v : Verb). TakesTo (limit_of v) old new status) same takes
