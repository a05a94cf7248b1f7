-- Scripts that a source gives.
use Rattle.std.specs.Prelude.{Err, Ok, Result}
use Rattle.ol_script.specs.declared.script.Script.{Script}
use Rattle.ol_script.specs.declared.script.ScriptFault.{ScriptFault}
use Rattle.ol_script.specs.declared.script.ScriptFault.TheVariants.{BadScript, NoMemory, ReadFault}

-- the text was read: there is a script, or a line off the grammar
abbrev pub WasRead : Result Script ScriptFault → Type 0
WasRead (Ok script) = Unit {0}
WasRead (Err (BadScript n)) = Unit {0}
WasRead (Err ReadFault) = ⊥
WasRead (Err NoMemory) = ⊥
