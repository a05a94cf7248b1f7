-- The slots of a page, one by one.
use Rattle.std.specs.Prelude.{List, [], decimal, if◌then◌else◌, ℕ, ◌%◌, ◌/◌, ◌==◌, ◌^◌, ◌∷◌}

-- the number of a slot behind a blank, where its bit is set
abbrev pub slot_text : ℕ → ℕ → List ℕ
slot_text bits slot = if (bits / 2 ^ slot) % 2 == 1 then 32 ∷ decimal slot else []
