-- The command that the words of a command line give.
use Rattle.std.specs.Prelude.{List, None, Option, Some, [], bytes_eq, codes, if◌then◌else◌, ℕ, ◌∷◌}
use Rattle.ol_online.specs.declared.words.Verb.{Verb}
use Rattle.ol_online.specs.declared.words.Verb.TheVariants.{Init, Play}

-- the command of one word
abbrev pub verb_in : List ℕ → Option Verb
verb_in word = if bytes_eq word (codes "init") then Some Init else (if bytes_eq word (codes "play") then Some Play else None)

-- the command of all words: one word alone
abbrev pub verb_told : List (List ℕ) → Option Verb
verb_told [] = None
verb_told (word ∷ []) = verb_in word
verb_told (word ∷ next ∷ words) = None
