use Rattle.std.specs.Prelude.{refl}
use Rattle.ol_online.proofs.CommandLaws.{ends_unplayed}
use Rattle.ol_script.specs.Script.{script_limit}
use Rattle.ol_online.proofs.SourceLaws.{takes_on, takes_verb}
use Rattle.ol_online.specs.Words.{verb_told}
use Rattle.ol_online.specs.declared.words.Verb.TheVariants.{Init, Play}
use Rattle.ol_online.proofs.work.work.Goals as goal

pub returns-in-Err-prepare-clause-ended : goal.returns-in-Err-prepare-clause-ended
returns-in-Err-prepare-clause-ended g c d = ends_unplayed _ _ _ _ _ c.in-Err-prepare.status (search) refl c.in-Err-prepare.ensures.err

pub returns-in-Ok-clause-reads : goal.returns-in-Ok-clause-reads
returns-in-Ok-clause-reads g c verb is = takes_verb (verb_told c.args.words.now) Init verb _ _ _ (search) is c.in-Ok.ensures.reads

pub returns-in-Err-clause-reads : goal.returns-in-Err-clause-reads
returns-in-Err-clause-reads g c verb is = takes_verb (verb_told c.args.words.now) Init verb _ _ _ (search) is c.in-Err.ensures.reads

pub returns-in-Ok-prepare-clause-reads : goal.returns-in-Ok-prepare-clause-reads
returns-in-Ok-prepare-clause-reads g c verb is =
    takes_verb (verb_told c.args.words.now) Play verb _ _ _ (search) is (takes_on script_limit _ _ c.play_prepared.result.1 c.in-Ok-prepare.ensures.reads)

pub returns-in-Err-prepare-clause-reads : goal.returns-in-Err-prepare-clause-reads
returns-in-Err-prepare-clause-reads g c verb is = takes_verb (verb_told c.args.words.now) Play verb _ _ _ (search) is c.in-Err-prepare.ensures.reads
