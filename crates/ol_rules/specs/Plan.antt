-- The plan of a restore: for each space its chain of archives, and the log objects that are needed.
use Rattle.std.specs.List.{last_or, list_any, range_with_len}
use Rattle.std.specs.Prelude.{Bool, Err, List, None, Ok, Option, Result, Some, [], filter, filter_map, find, flat_map, fold, if◌then◌else◌, is_none, is_some, min, nat_le, nat_lt, not, option_map, position, slice_get, take_while, unwrap_or, ℕ, ◌&&◌, ◌++◌, ◌+◌, ◌-◌, ◌==◌, ◌||◌, ◌∷◌}
use Rattle.ol_values.specs.declared.event.Known.{Known}
use Rattle.ol_values.specs.declared.event.Reply.{Reply}
use Rattle.ol_values.specs.declared.event.Reply.TheVariants.{DamagedVolume, MissingLevel, MissingLog}
use Rattle.ol_values.specs.Blocks.{Saved}
use Rattle.ol_rules.specs.Lasting.{Kept, none_kept}
use Rattle.ol_rules.specs.Shelf.{Object, Placed, Shelf, bad_blocks, counting_archives, end_of, head_of, log_counts_at, logs_on, objects, reach_of, saved_in, streams}

pub record Chain : Type 0 where
  pub space : ℕ
  pub archives : List Object

-- short is the least needed position that no log object counts for
pub record Plan : Type 0 where
  pub end_ : ℕ
  pub low : ℕ
  pub chains : List Chain
  pub logs : List Object
  pub short : Option ℕ

abbrev pub saved_by : ℕ → Object → Option Saved
saved_by space o = saved_in space (head_of o.head.payload).spaces

-- whether the archive is a better last one: a greater cut, then a higher number; of equals the first stands
abbrev pub is_later : Object → Object → Bool
is_later o best = nat_lt best.head.a o.head.a || ((best.head.a == o.head.a) && nat_lt best.head.number o.head.number)

abbrev pub later_of : Option Object → Object → Option Object
later_of None o = Some o
later_of (Some best) o = if is_later o best then Some o else Some best

-- the counting archive that holds the space with the greatest cut at most the end
abbrev pub last_archive : Shelf → ℕ → ℕ → Option Object
last_archive shelf space end_ =
    fold later_of None (filter (λ (o : Object). is_some (saved_by space o) && nat_le o.head.a end_) (counting_archives shelf))

abbrev pub is_parent : ℕ → Object → Saved → Object → Bool
is_parent space child s o =
    (o.head.number == s.parent) && (is_some (saved_by space o) && ((o.head.c + 1 == child.head.c) && (o.head.a == s.base)))

abbrev pub nothing_saved : Saved
nothing_saved = record { space = 0; parent = 0; base = 0 }

abbrev pub parent_of : Shelf → ℕ → Object → Option Object
parent_of shelf space child =
    find (is_parent space child (unwrap_or (saved_by space child) nothing_saved)) (counting_archives shelf)

-- a chain so far, from its lowest level on, or the refusal
abbrev pub with_parent : ℕ → List Object → Object → Option Object → Result (List Object) Reply
with_parent space chain child None =
    Err (MissingLevel space (child.head.c - 1) (unwrap_or (saved_by space child) nothing_saved).parent)
with_parent space chain child (Some o) = Ok (o ∷ chain)

abbrev pub one_up : Shelf → ℕ → List Object → Result (List Object) Reply
one_up shelf space [] = Ok []
one_up shelf space (o ∷ chain) =
    if o.head.c == 0 then Ok (o ∷ chain) else with_parent space (o ∷ chain) o (parent_of shelf space o)

abbrev pub and_up : Shelf → ℕ → Result (List Object) Reply → Result (List Object) Reply
and_up shelf space (Err refusal) = Err refusal
and_up shelf space (Ok chain) = one_up shelf space chain

abbrev pub first_link : ℕ → Option Object → Result (List Object) Reply
first_link space None = Err (MissingLevel space 0 0)
first_link space (Some o) = Ok (o ∷ [])

-- the chain of a space from level 0 on; no archive has a level above 2
abbrev pub chain_of : Shelf → ℕ → ℕ → Result (List Object) Reply
chain_of shelf end_ space =
    and_up shelf space (and_up shelf space (first_link space (last_archive shelf space end_)))

abbrev pub cons_chain : ℕ → Result (List Object) Reply → Result (List Chain) Reply → Result (List Chain) Reply
cons_chain space (Err refusal) rest = Err refusal
cons_chain space (Ok chain) (Err refusal) = Err refusal
cons_chain space (Ok chain) (Ok rest) = Ok ((let c : Chain = record { space = space; archives = chain } in c) ∷ rest)

-- the chains of these spaces, or the refusal of the first that lacks one
abbrev pub chains_of : Shelf → ℕ → List ℕ → Result (List Chain) Reply
chains_of shelf end_ [] = Ok []
chains_of shelf end_ (s ∷ spaces) = cons_chain s (chain_of shelf end_ s) (chains_of shelf end_ spaces)

abbrev pub last_of_chain : Chain → Option Object
last_of_chain c = last_or None c.archives

-- the least low of the chains' last archives
abbrev pub lower : ℕ → Option Object → ℕ
lower low None = low
lower low (Some o) = min low o.head.b

abbrev pub least_low : ℕ → List Chain → ℕ
least_low end_ chains = fold (λ low (c : Chain). lower low (last_of_chain c)) (end_ + 1) chains

-- of the log objects that count at a position the one that reaches furthest; of equals the first stands
abbrev pub further_of : Shelf → Option Object → Object → Option Object
further_of shelf None o = Some o
further_of shelf (Some best) o = if nat_lt (reach_of shelf best) (reach_of shelf o) then Some o else Some best

abbrev pub log_at : Shelf → ℕ → Option Object
log_at shelf position = fold (further_of shelf) None (filter (log_counts_at shelf position) (logs_on shelf))

-- the needed positions up to the first that no log object counts for, and that one
abbrev pub needed : ℕ → ℕ → List ℕ
needed low end_ = range_with_len low (end_ + 1 - low)

abbrev pub is_on_shelf : Shelf → ℕ → Bool
is_on_shelf shelf position = is_some (log_at shelf position)

abbrev pub logs_for : Shelf → ℕ → ℕ → List Object
logs_for shelf low end_ = filter_map (log_at shelf) (take_while (is_on_shelf shelf) (needed low end_))

abbrev pub short_of : Shelf → ℕ → ℕ → Option ℕ
short_of shelf low end_ = find (λ position. not (is_on_shelf shelf position)) (needed low end_)

-- ---- damage

abbrev pub is_before : Placed → Placed → Bool
is_before p q =
    nat_lt p.drive q.drive || ((p.drive == q.drive) && (nat_lt p.volume q.volume || ((p.volume == q.volume) && nat_lt p.block q.block)))

abbrev pub earlier_of : Option Placed → Placed → Option Placed
earlier_of None p = Some p
earlier_of (Some best) p = if is_before p best then Some p else Some best

-- the first bad block of these objects, by place
abbrev pub first_bad : List Object → Option Placed
first_bad used = fold earlier_of None (flat_map bad_blocks used)

abbrev pub used_by : Plan → List Object
used_by p = flat_map (λ (c : Chain). c.archives) p.chains ++ p.logs

abbrev pub damage : Placed → Reply
damage p = DamagedVolume p.drive p.volume p.block

abbrev pub sound_plan : Plan → Option Placed → Result Plan Reply
sound_plan p None = Ok p
sound_plan p (Some bad) = Err (damage bad)

abbrev pub plan_with : Shelf → ℕ → Result (List Chain) Reply → Result Plan Reply
plan_with shelf end_ (Err refusal) = Err refusal
plan_with shelf end_ (Ok chains) =
    let low = least_low end_ chains in
    let p : Plan = record { end_ = end_; low = low; chains = chains; logs = logs_for shelf low end_; short = short_of shelf low end_ } in
    sound_plan p (first_bad (used_by p))

-- the plan up to an end, in which logs may stop short
unfoldable pub plan_to : Shelf → List ℕ → ℕ → Result Plan Reply
plan_to shelf spaces end_ = plan_with shelf end_ (chains_of shelf end_ spaces)

-- the plan up to the end of the logs on tape: none may be missing, which is refused before damage
abbrev pub plan_at : Shelf → ℕ → Result (List Chain) Reply → Result Plan Reply
plan_at shelf end_ (Err refusal) = Err refusal
plan_at shelf end_ (Ok chains) =
    elim (short_of shelf (least_low end_ chains) end_) [ None ↦ plan_with shelf end_ (Ok chains) | Some position ↦ Err (MissingLog position) ]

unfoldable pub plan_of : Shelf → List ℕ → Result Plan Reply
plan_of shelf spaces = plan_at shelf (end_of shelf) (chains_of shelf (end_of shelf) spaces)

-- the archive of a chain that becomes the known one of its level
abbrev pub kept_at : List Object → ℕ → Kept
kept_at archives level =
    unwrap_or (option_map (λ (o : Object). let r : Kept = record { number = o.head.number; cut = o.head.a } in r) (slice_get archives level)) none_kept

-- the same as a warm restore tells it
abbrev pub known_by : List Object → Known
known_by archives =
    let zero_ = kept_at archives 0 in
    let one_ = kept_at archives 1 in
    record { zero = (let p : ℕ × ℕ = (zero_.number, zero_.cut) in p); one = (let p : ℕ × ℕ = (one_.number, one_.cut) in p) }

-- a bad block outside: bytes that are no block in no span
abbrev pub covers : List Object → Placed → Bool
covers all p = list_any (λ (o : Object). list_any (λ (q : Placed). not (is_before p q || is_before q p)) o.span) all

abbrev pub bad_outside : Shelf → Option Placed
bad_outside shelf =
    find (λ (p : Placed). is_none p.item && not (covers (objects shelf) p)) (flat_map (λ s. s) (streams shelf))
