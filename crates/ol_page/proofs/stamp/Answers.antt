use Rattle.std.proofs.Common.{ap, take, ◌∙◌}
use Rattle.std.specs.Int.{from_be_bytes, w64}
use Rattle.std.proofs.lemmas.Nat.{from_be_bytes-to_be_bytes_8}
use Rattle.ol_page.proofs.stamp.Goals as goal

pub returns : goal.returns
returns c p is was =
    c.number.ensures ∙ ap (from_be_bytes w64) (ap (take 8) was) ∙ from_be_bytes-to_be_bytes_8 p.stamp is.stamp
