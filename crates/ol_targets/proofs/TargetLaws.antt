-- What a line names over the storage is what it names in the machine.
use Rattle.std.specs.Prelude.{Bool, bytes_eq, Err, List, None, Ok, Option, Result, Some, false, if◌then◌else◌, length, nat_lt, refl, slice_index_or, true, ℕ, ◌<◌, ◌≡◌}
use Rattle.std.proofs.Common.{ap, arith, sym, ◌∙◌}
use Rattle.std.proofs.lemmas.Bool.{and_parts}
use Rattle.std.proofs.lemmas.Bool.Decides.{nat_tests}
use Rattle.std.proofs.lemmas.List.FromFn.{get_or-map-range_with_len}
use Rattle.std.proofs.lemmas.List.Quantifiers.{position-Some}
use Rattle.ol_values.specs.declared.event.Reply.{Reply}
use Rattle.ol_values.specs.declared.event.Reply.TheVariants.{BadRid, SpaceDown}
use Rattle.ol_values.specs.declared.event.Target.{Target}
use Rattle.ol_values.specs.declared.event.Target.TheVariants.{At, Reg}
use Rattle.ol_values.specs.declared.record.Rid.{Rid}
use Rattle.ol_values.specs.Config.{Config, SpaceConfig, data_pages, has_page, has_place, space_named, unnamed}
use Rattle.ol_values.specs.Pages.{rid_of}
use Rattle.ol_rules.specs.Lasting.{Lasting, SpaceState, is_up, space_up}
use Rattle.ol_model.specs.Machine.{Machine, Seat, config_of}
use Rattle.ol_model.specs.SessionTurns.{place_held, place_in, place_of, target_of}
use Rattle.ol_reserve.specs.declared.anchor.Anchor.{Anchor}
use Rattle.ol_storage.specs.Behind.{is_up as is_up_in}
use Rattle.ol_storage.specs.Installation.{Installation}
use Rattle.ol_storage.specs.Installation.{config_of as config_in}
use Rattle.ol_engine.specs.Parts.{ShowsStorage, space_in}
use Rattle.ol_targets.specs.Naming.{held_place, named_place, page_among, page_of, place_among, space_among, space_of, target_among}

-- ---- the machine's

-- a space is up in the machine where the anchor has it as up
up_told : (v : Installation) (m : Machine) (space : ℕ) → ShowsStorage v m → space < length (config_of m).spaces → is_up_in v.anchor space ≡ is_up m.lasting space
up_told v m space shows within =
    sym
    (ap (λ (l : Lasting). is_up l space) (sym shows.lasting)
    ∙ ap (λ (s : SpaceState). s.up) (get_or-map-range_with_len (space_in v.anchor) 0 (length (config_of m).spaces) space space space_up within (omega arith)))

page_within : (c : Config) (space page : ℕ) → has_page c space page ≡ true → space < length c.spaces
page_within c space page there = grind (arith, nat_tests, and_parts (nat_lt space (length c.spaces)) (nat_lt page (data_pages c space)) there)

place_page : (c : Config) (rid : Rid) → has_place c rid ≡ true → has_page c rid.space rid.page ≡ true
place_page c rid there = (and_parts (has_page c rid.space rid.page) (nat_lt rid.slot 31) there).0

named_within : (c : Config) (name : List ℕ) (space : ℕ) → space_named c name ≡ Some space → space < length c.spaces
named_within c name space is = (position-Some (λ (s : SpaceConfig). bytes_eq s.name name) c.spaces space unnamed is).0

pub space_told : (v : Installation) (m : Machine) (c : Config) (a : Anchor) (name : List ℕ) → c ≡ config_in v → a ≡ v.anchor → ShowsStorage v m
    → space_among (is_up_in a) (space_named c name) ≡ space_of m (space_named (config_of m) name)
space_told v m c a name table anchor shows =
    ap (λ (d : Config). space_among (is_up_in a) (space_named d name)) (table ∙ shows.config) ∙ ap (λ (b : Anchor). space_among (is_up_in b) (space_named (config_of m) name)) anchor ∙ go (space_named (config_of m) name) refl
  where
    go : (named : Option ℕ) → space_named (config_of m) name ≡ named → space_among (is_up_in v.anchor) named ≡ space_of m named
    go None e = refl
    go (Some space) e = ap (λ b. let r : Result ℕ Reply = if b then Ok space else Err (SpaceDown space) in r) (up_told v m space shows (named_within (config_of m) name space e))

-- where a test holds only where two answers are one
if_same : {A : Type 0} (b : Bool) (x y other : A) → (b ≡ true → x ≡ y) → (if b then x else other) ≡ (if b then y else other)
if_same true x y other same = same refl
if_same false x y other same = refl

pub page_told : (v : Installation) (m : Machine) (c : Config) (a : Anchor) (name : List ℕ) (page : ℕ) → c ≡ config_in v → a ≡ v.anchor → ShowsStorage v m
    → page_among c (is_up_in a) page (space_named c name) ≡ page_of m page (space_named (config_of m) name)
page_told v m c a name page table anchor shows =
    ap (λ (d : Config). page_among d (is_up_in a) page (space_named d name)) (table ∙ shows.config)
    ∙ ap (λ (b : Anchor). page_among (config_of m) (is_up_in b) page (space_named (config_of m) name)) anchor
    ∙ go (space_named (config_of m) name)
  where
    go : (named : Option ℕ) → page_among (config_of m) (is_up_in v.anchor) page named ≡ page_of m page named
    go None = refl
    go (Some space) =
        if_same (has_page (config_of m) space page) _ _ _
        (λ there. ap (λ b. let r : Result (ℕ × ℕ) Reply = if b then Ok (space, page) else Err (SpaceDown space) in r) (up_told v m space shows (page_within (config_of m) space page there)))

place_told : (v : Installation) (m : Machine) (rid : Rid) → ShowsStorage v m → place_among (config_of m) (is_up_in v.anchor) rid ≡ place_of m rid
place_told v m rid shows =
    if_same (has_place (config_of m) rid) _ _ _
    (λ there. ap (λ b. let r : Result Rid Reply = if b then Ok rid else Err (SpaceDown rid.space) in r) (up_told v m rid.space shows (page_within (config_of m) rid.space rid.page (place_page (config_of m) rid there))))

pub target_told : (v : Installation) (m : Machine) (s : Seat) (c : Config) (a : Anchor) (registers : List (Option Rid)) (target : Target) → c ≡ config_in v → a ≡ v.anchor → s.registers ≡ registers → ShowsStorage v m
    → target_among c (is_up_in a) registers target ≡ target_of m s target
target_told v m s c a registers target table anchor same shows =
    ap (λ (d : Config). target_among d (is_up_in a) registers target) (table ∙ shows.config)
    ∙ ap (λ (b : Anchor). target_among (config_of m) (is_up_in b) registers target) anchor
    ∙ ap (λ l. target_among (config_of m) (is_up_in v.anchor) l target) (sym same)
    ∙ go target
  where
    held : (o : Option Rid) → held_place (config_of m) (is_up_in v.anchor) o ≡ place_held m o
    held None = refl
    held (Some rid) = place_told v m rid shows

    named : (page slot : ℕ) (o : Option ℕ) → named_place (config_of m) (is_up_in v.anchor) page slot o ≡ place_in m page slot o
    named page slot None = refl
    named page slot (Some space) = place_told v m (rid_of space page slot) shows

    go : (t : Target) → target_among (config_of m) (is_up_in v.anchor) s.registers t ≡ target_of m s t
    go (Reg reg) = held (slice_index_or s.registers reg None)
    go (At name page slot) = named page slot (space_named (config_of m) name)
