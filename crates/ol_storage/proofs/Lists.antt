-- Operations one after another: what a stop leaves within one stands within the list.
use Rattle.std.specs.Prelude.{List, [], true, ℕ, ◌-◌, ◌+◌, ◌∷◌, ◌≡◌, ◌≤◌}
use Rattle.std.proofs.Common.{arith, inl, inr, ⊎_elim}
use Rattle.ol_values.specs.Config.{Config}
use Rattle.ol_ports.specs.Disk.{Bytes, Past, Rest}
use Rattle.ol_ports.specs.Stops.{Stops}
use Rattle.ol_ports.proofs.StopLaws.{stops_both, stops_none, stops_weaker}
use Rattle.ol_reserve.specs.declared.anchor.Anchor.{Anchor}
use Rattle.ol_storage.specs.declared.operations.Operation.{Operation}
use Rattle.ol_storage.specs.Behind.{Behind}
use Rattle.ol_storage.specs.Installation.{Installation, config_of, flushed_of, last_of}
use Rattle.ol_storage.specs.Operations.{IsStep, StandsWithin, StandsWithinOne, anchor_after, behind_after}
use Rattle.ol_storage.specs.Standing.{StandsBetween, StandsFrom}
use Rattle.ol_storage.proofs.Images.{stands_wider}

-- no more is flushed than there is
flushed_low : (v : Installation) → flushed_of v ≤ last_of v
flushed_low v = omega arith

-- a later last position
pub between_wider : (v : Installation) (g : Behind) (a b : Anchor) (d : Bytes) → StandsBetween (config_of v) g a b (flushed_of v) (flushed_of v) d → StandsBetween (config_of v) g a b (flushed_of v) (last_of v) d
between_wider v g a b d s =
    ⊎_elim
    (λ one. inl (stands_wider (config_of v) g a (flushed_of v) (flushed_of v) (flushed_of v) (last_of v) d (omega arith) (flushed_low v) one))
    (λ other. inr (stands_wider (config_of v) g b (flushed_of v) (flushed_of v) (flushed_of v) (last_of v) d (omega arith) (flushed_low v) other)) s

-- between two calls an image stands as one within the next does
pub before_one : (o : Operation) (v : Installation) (g : Behind) (d : Bytes) → StandsFrom (config_of v) g v.anchor (flushed_of v) (flushed_of v) d → StandsWithin o v g d
before_one o v g d s = inl (stands_wider (config_of v) g v.anchor (flushed_of v) (flushed_of v) (flushed_of v) (last_of v) d (omega arith) (flushed_low v) s)

-- and so for a list
pub at_rest : (l : List Operation) (v : Installation) (g : Behind) (d : Bytes) → StandsFrom (config_of v) g v.anchor (flushed_of v) (flushed_of v) d → StandsWithinOne l v g d
at_rest [] v g d s = s
at_rest (o ∷ rest) v g d s = inl (before_one o v g d s)

-- an operation and those behind it
pub one_more : (old mid new : Past) (o : Operation) (rest : List Operation) (v w : Installation) (g : Behind) → Stops old mid (StandsWithin o v g) → IsStep o v w → Stops mid new (StandsWithinOne rest w (behind_after o g)) → Stops old new (StandsWithinOne (o ∷ rest) v g)
one_more old mid new o rest v w g first step more =
    stops_both old mid new (StandsWithinOne (o ∷ rest) v g)
    (stops_weaker old mid (StandsWithin o v g) (StandsWithinOne (o ∷ rest) v g) (λ d s. inl s) first)
    (stops_weaker mid new (StandsWithinOne rest w (behind_after o g)) (StandsWithinOne (o ∷ rest) v g) (λ d s. inr (w, step, s)) more)
