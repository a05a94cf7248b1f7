-- The first bad block of what a plan takes, over the objects as they are told.
use Rattle.std.specs.Prelude.{Bool, List, None, Option, Some, fold, if◌then◌else◌, nat_lt, ◌&&◌, ◌==◌, ◌||◌}
use Rattle.ol_object_spans.specs.declared.place.Place.{Place}
use Rattle.ol_plan.specs.declared.archives.Link.{Link}
use Rattle.ol_plan.specs.declared.logs.LogSpan.{LogSpan}
use Rattle.ol_plan.specs.Chains.{Chain}

-- the order of places: by drive, volume and block
abbrev pub is_before : Place → Place → Bool
is_before p q = nat_lt p.drive q.drive || ((p.drive == q.drive) && (nat_lt p.volume q.volume || ((p.volume == q.volume) && nat_lt p.block q.block)))

-- the first of two bad blocks
abbrev pub earlier : Option Place → Option Place → Option Place
earlier best None = best
earlier None (Some p) = Some p
earlier (Some best) (Some p) = if is_before p best then Some p else Some best

-- the first of a bad block and those of links
abbrev pub bad_of_links : Option Place → List Link → Option Place
bad_of_links best links = fold (λ b (k : Link). earlier b k.bad) best links

-- the first bad block of chains
abbrev pub bad_of_chains : List Chain → Option Place
bad_of_chains chains = fold (λ b (c : Chain). bad_of_links b c.links) None chains

-- the first bad block of chains and logs
abbrev pub first_bad : List Chain → List LogSpan → Option Place
first_bad chains logs = fold (λ b (s : LogSpan). earlier b s.bad) (bad_of_chains chains) logs
