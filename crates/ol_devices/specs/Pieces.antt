-- What the parser of options holds, and the words that it stands for.
use Rattle.std.specs.Global.{Global}
use Rattle.std.specs.Prelude.{List, String, Vec, ℕ}
use denote.Ref.{Bor}
use Rattle.ol_devices.specs.OptionLine.{texts}

-- a number, and the words behind it
abbrev pub with_texts : ℕ × Bor (List (String Global)) → ℕ × List (List ℕ)
with_texts p = (p.0, texts p.1.now)

-- a list, and the words behind it
abbrev pub list_with_texts : Vec ℕ Global × Bor (List (String Global)) → List ℕ × List (List ℕ)
list_with_texts p = (p.0.items, texts p.1.now)
