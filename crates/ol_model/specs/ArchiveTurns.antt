-- The turns of archivers, by archiver k: what they answer and leave, with their refusals in order.
use Rattle.std.specs.List.{list_any, range_with_len}
use Rattle.std.specs.Prelude.{Bool, List, None, Option, Some, [], filter, find, fold, is_some, length, map, nat_lt, not, suc, unwrap_or, zero, ℕ, ◌&&◌, ◌+◌, ◌-◌, ◌==◌, ◌∷◌}
use Rattle.ol_values.specs.declared.event.Reply.{Reply}
use Rattle.ol_values.specs.declared.event.Reply.TheVariants.{AllTaken, Archived, Archiving, BeforeFull, Cancelled, NoArchive, NoParent, NoSpace, OutOfTape, PageIs, PagesLeft, SpaceDown, Started, TapeFault}
use Rattle.ol_values.specs.declared.event.Why.{Why}
use Rattle.ol_values.specs.declared.event.Why.TheVariants.{Asked, Fault, Full}
use Rattle.ol_values.specs.Blocks.{Saved}
use Rattle.ol_values.specs.Config.{Config, space_named}
use Rattle.ol_rules.specs.Lasting.{Kept, Lasting, SpaceState, is_up, none_kept, space_state, with_space}
use Rattle.ol_model.specs.Answering.{unless}
use Rattle.ol_model.specs.Machine.{Archive, Machine, archive_of, archiver_of, config_of, last_of, low_in, with_archive, with_lasting}
use Rattle.ol_model.specs.Steps.{make_checkpoint}
use Rattle.ol_model.specs.Waiting.{left_of, pages_of}

-- the first of these spaces at which the test holds, with what is answered there
abbrev pub first_space : (ℕ → Bool) → (ℕ → Reply) → List ℕ → Bool × Reply
first_space test answer spaces =
    let found = find test spaces in
    (is_some found, answer (unwrap_or found 0))

-- the known archive of a space from which an archive of this level goes on
abbrev pub kept_at : Machine → ℕ → ℕ → Kept
kept_at m zero space = none_kept
kept_at m (suc zero) space = (space_state m.lasting space).zero
kept_at m (suc (suc level)) space = (space_state m.lasting space).one

-- the spaces of an archive in ascending order, each with its parent and base
abbrev pub saved_of : Machine → ℕ → List ℕ → List Saved
saved_of m level spaces =
    map (λ s. let r : Saved = record { space = s; parent = (kept_at m level s).number; base = (kept_at m level s).cut } in r)
    (filter (λ s. list_any (λ t. t == s) spaces) (range_with_len 0 (length (config_of m).spaces)))

abbrev pub started : Machine → ℕ → ℕ → List Saved → Reply × Machine
started m k level spaces =
    let a : Archive = record { number = m.lasting.next_archive; level = level; cut = last_of m; low = low_in m; spaces = spaces; passed = 0; broken = None } in
    (Started a.number a.cut (length (pages_of m a)), with_archive k (Some a) (with_lasting (record m.lasting { next_archive = a.number + 1 }) (make_checkpoint m)))

-- ---- start

-- the spaces of these names, none where one of them is no space
abbrev pub cons_space : Option ℕ → Option (List ℕ) → Option (List ℕ)
cons_space (Some s) (Some spaces) = Some (s ∷ spaces)
cons_space _ _ = None

abbrev pub spaces_named : Config → List (List ℕ) → Option (List ℕ)
spaces_named c [] = Some []
spaces_named c (name ∷ names) = cons_space (space_named c name) (spaces_named c names)

abbrev pub start_with : Machine → ℕ → ℕ → Option (List ℕ) → Reply × Machine
start_with m k level None = (NoSpace, m)
start_with m k level (Some spaces) =
    unless m
    (first_space (λ s. not (is_up m.lasting s)) SpaceDown spaces
    ∷ first_space (λ s. is_some (archiver_of m s)) (λ s. Archiving (unwrap_or (archiver_of m s) 0)) spaces
    ∷ first_space (λ s. nat_lt 0 level && ((kept_at m level s).number == 0)) (λ s. NoParent s (level - 1)) spaces
    ∷ [])
    (started m k level (saved_of m level spaces))

abbrev pub start_at : Machine → ℕ → ℕ → List (List ℕ) → Option Archive → Reply × Machine
start_at m k level names (Some a) = (Archiving k, m)
start_at m k level names None = start_with m k level (spaces_named (config_of m) names)

-- ---- the next page

abbrev pub take_page : Machine → ℕ → Archive → List (ℕ × ℕ) → Reply × Machine
take_page m k a [] = (AllTaken, m)
take_page m k a (p ∷ rest) = (PageIs p.0 p.1, with_archive k (Some (record a { passed = a.passed + 1 })) m)

abbrev pub take_unless : Machine → ℕ → Archive → Option ℕ → Reply × Machine
take_unless m k a (Some entry) = (BeforeFull entry, with_archive k None m)
take_unless m k a None = take_page m k a (left_of m a)

abbrev pub take_at : Machine → ℕ → Option Archive → Reply × Machine
take_at m k None = (NoArchive, m)
take_at m k (Some a) = take_unless m k a a.broken

-- ---- end

-- an ended level 0 is known and clears level 1, an ended level 1 is known, an ended level 2 sets nothing
abbrev pub kept_after : ℕ → Kept → SpaceState → SpaceState
kept_after zero kept s = record s { zero = kept; one = none_kept }
kept_after (suc zero) kept s = record s { one = kept }
kept_after (suc (suc level)) kept s = s

-- the spaces of an archive that ended
abbrev pub keep : Archive → Lasting → Lasting
keep a l =
    fold (λ (n : Lasting) (s : Saved). with_space s.space (kept_after a.level (record { number = a.number; cut = a.cut }) (space_state n s.space)) n) l a.spaces

abbrev pub end_with : Machine → ℕ → Archive → ℕ → Reply × Machine
end_with m k a zero = (Archived a.number a.cut a.passed, with_archive k None (with_lasting (keep a m.lasting) m))
end_with m k a (suc n) = (PagesLeft (suc n), m)

abbrev pub end_unless : Machine → ℕ → Archive → Option ℕ → Reply × Machine
end_unless m k a (Some entry) = (BeforeFull entry, with_archive k None m)
end_unless m k a None = end_with m k a (length (left_of m a))

abbrev pub end_at : Machine → ℕ → Option Archive → Reply × Machine
end_at m k None = (NoArchive, m)
end_at m k (Some a) = end_unless m k a a.broken

-- ---- cancel

-- what giving up answers: drive, count of its faults, and what was given up
abbrev pub given_up : ℕ → ℕ → ℕ → Why → Reply
given_up drive count number Asked = Cancelled number
given_up drive count number (Fault since) = TapeFault drive count
given_up drive count number Full = OutOfTape drive

abbrev pub cancel_at : ℕ → Machine → ℕ → Why → Option Archive → Reply × Machine
cancel_at count m k why None = (NoArchive, m)
cancel_at count m k why (Some a) = (given_up k count a.number why, with_archive k None m)
