-- Places of blocks, and runs of consecutive ones.
use Rattle.std.specs.Prelude.{Bool, List, None, Option, Some, [], false, fold, if◌then◌else◌, length, min, nat_le, slice_get, ℕ, ◌&&◌, ◌++◌, ◌+◌, ◌-◌, ◌==◌, ◌^◌, ◌∷◌}
use Rattle.ol_object_spans.specs.declared.place.Place.{Place}
use Rattle.ol_object_spans.specs.declared.place.Run.{Run}

-- two places are one
abbrev pub same_place : Place → Place → Bool
same_place p q = (p.drive == q.drive) && ((p.volume == q.volume) && (p.block == q.block))

-- the place of the block of an index, as one of a run
abbrev pub moved : Run → ℕ → Place
moved r index = record { drive = r.place.drive; volume = r.place.volume; block = r.place.block + min (index - r.first) (2 ^ 32 - 1 - r.place.block) }

-- the place that no run gives
abbrev pub nowhere : Place
nowhere = record { drive = 0; volume = 0; block = 0 }

-- the place of the block of an index: that in the last run which begins at it or before
abbrev pub place_in : List Run → ℕ → Place
place_in runs index = fold (λ (place : Place) (r : Run). if nat_le r.first index then moved r index else place) nowhere runs

-- the block of an index stands behind the last run
abbrev pub goes_on : Option Run → ℕ → Place → Bool
goes_on None index place = false
goes_on (Some r) index place = nat_le r.first index && same_place (moved r index) place

-- runs with the place of the next block: one more run, where it does not stand behind the last one
abbrev pub runs_with : List Run → ℕ → Place → List Run
runs_with runs index place =
    if goes_on (slice_get runs (length runs - 1)) index place then runs
    else runs ++ (let r : Run = record { first = index; place = place } in r) ∷ []
