-- Bytes that are appended in several pieces.
use Rattle.std.proofs.Common.{◌≡◌, ℕ, ◌+◌, ◌-◌, List, ◌++◌, length, take, drop, Option, Some, None, ◌∙◌, ap, sym, arith, length-drop, append_assoc}
use Rattle.std.proofs.Math.Seq.{take-add}
use Rattle.std.proofs.lemmas.List.{take_all}
use Rattle.std.specs.Io.KnownBytes.{Appends}

-- two pieces that are appended one after the other are appended as one
pub appends_both : (old middle new : Option (List ℕ)) (front back whole : List ℕ) → whole ≡ front ++ back → Appends old middle front → Appends middle new back → Appends old new whole
appends_both None middle new front back whole split first then_rest = tt
appends_both (Some a) None new front back whole split first then_rest = absurd first
appends_both (Some a) (Some b) None front back whole split first then_rest = absurd then_rest
appends_both (Some a) (Some b) (Some c) front back whole split first then_rest =
    then_rest ∙ ap (λ l. l ++ back) first ∙ append_assoc a front back ∙ ap (λ l. a ++ l) (sym split)

-- after the first n bytes the first k of the piece that is left
pub appends_piece : (old middle new : Option (List ℕ)) (n k : ℕ) (bytes : List ℕ) → Appends old middle (take n bytes)
    → Appends middle new (take k (take (length bytes - n) (drop n bytes))) → Appends old new (take (n + k) bytes)
appends_piece old middle new n k bytes first then_rest =
    let left_over : take (length bytes - n) (drop n bytes) ≡ drop n bytes = take_all (length bytes - n) (drop n bytes) (omega (arith, length-drop n bytes)) in
    appends_both old middle new (take n bytes) (take k (take (length bytes - n) (drop n bytes))) (take (n + k) bytes)
    (take-add n k bytes ∙ ap (λ l. take n bytes ++ take k l) (sym left_over)) first then_rest
