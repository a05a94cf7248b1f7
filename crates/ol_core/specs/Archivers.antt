-- The turns of archivers: what they answer and leave, with their refusals in order.
use Rattle.std.specs.List.{list_any, range_with_len}
use Rattle.std.specs.Prelude.{List, None, Option, Some, [], filter, length, map, suc, zero, ℕ, ◌+◌, ◌==◌, ◌∷◌}
use Rattle.ol_values.specs.declared.event.Reply.{Reply}
use Rattle.ol_values.specs.declared.event.Reply.TheVariants.{AllTaken, Archived, Archiving, Cancelled, NoArchive, NoSpace, OutOfTape, PageIs, PagesLeft, Started, TapeFault}
use Rattle.ol_values.specs.declared.event.Why.{Why}
use Rattle.ol_values.specs.declared.event.Why.TheVariants.{Asked, Fault, Full}
use Rattle.ol_values.specs.Config.{Config, space_named}
use Rattle.ol_core.specs.Machine.{Archive, Machine, archive_of, config_of, journal_in, last_of, left_of, pages_of, with_archive}
use Rattle.ol_values.specs.Blocks.{Saved}
use Rattle.ol_rules.specs.Transactions.{low_at}

-- ---- start

abbrev pub cons_space : Option ℕ → Option (List ℕ) → Option (List ℕ)
cons_space (Some s) (Some spaces) = Some (s ∷ spaces)
cons_space _ _ = None

-- the spaces of these names, none where one of them is no space
abbrev pub spaces_named : Config → List (List ℕ) → Option (List ℕ)
spaces_named c [] = Some []
spaces_named c (name ∷ names) = cons_space (space_named c name) (spaces_named c names)

-- these spaces in ascending order, as an archive of level 0 has them
abbrev pub saved_of : Config → List ℕ → List Saved
saved_of c spaces =
    map (λ s. let r : Saved = record { space = s; parent = 0; base = 0 } in r)
    (filter (λ s. list_any (λ t. t == s) spaces) (range_with_len 0 (length c.spaces)))

abbrev pub started : Machine → ℕ → ℕ → List Saved → Reply × Machine
started m k level spaces =
    let a : Archive = record { number = m.next_archive; level = level; cut = last_of m; low = low_at (journal_in m); spaces = spaces; passed = 0 } in
    (Started a.number a.cut (length (pages_of m a)), with_archive k (Some a) (record m { next_archive = a.number + 1 }))

abbrev pub start_with : Machine → ℕ → ℕ → Option (List ℕ) → Reply × Machine
start_with m k level None = (NoSpace, m)
start_with m k level (Some spaces) = started m k level (saved_of (config_of m) spaces)

abbrev pub start_at : Machine → ℕ → ℕ → List (List ℕ) → Option Archive → Reply × Machine
start_at m k level names (Some a) = (Archiving k, m)
start_at m k level names None = start_with m k level (spaces_named (config_of m) names)

abbrev pub start_turn : Machine → ℕ → ℕ → List (List ℕ) → Reply × Machine
start_turn m k level names = start_at m k level names (archive_of m k)

-- ---- the next page

abbrev pub take_page : Machine → ℕ → Archive → List (ℕ × ℕ) → Reply × Machine
take_page m k a [] = (AllTaken, m)
take_page m k a (p ∷ rest) = (PageIs p.0 p.1, with_archive k (Some (record a { passed = a.passed + 1 })) m)

abbrev pub take_at : Machine → ℕ → Option Archive → Reply × Machine
take_at m k None = (NoArchive, m)
take_at m k (Some a) = take_page m k a (left_of m a)

abbrev pub take_turn : Machine → ℕ → Reply × Machine
take_turn m k = take_at m k (archive_of m k)

-- ---- end

abbrev pub end_with : Machine → ℕ → Archive → ℕ → Reply × Machine
end_with m k a zero = (Archived a.number a.cut a.passed, with_archive k None m)
end_with m k a (suc n) = (PagesLeft (suc n), m)

abbrev pub end_at : Machine → ℕ → Option Archive → Reply × Machine
end_at m k None = (NoArchive, m)
end_at m k (Some a) = end_with m k a (length (left_of m a))

abbrev pub end_turn : Machine → ℕ → Reply × Machine
end_turn m k = end_at m k (archive_of m k)

-- ---- cancel

-- what giving up answers: the drive's number and its count of faults, or the archive's number
abbrev pub given_up : ℕ → ℕ → ℕ → Why → Reply
given_up drive count number Asked = Cancelled number
given_up drive count number (Fault since) = TapeFault drive count
given_up drive count number Full = OutOfTape drive

abbrev pub cancel_at : ℕ → Machine → ℕ → Why → Option Archive → Reply × Machine
cancel_at count m k why None = (NoArchive, m)
cancel_at count m k why (Some a) = (given_up k count a.number why, with_archive k None m)

abbrev pub cancel_turn : ℕ → Machine → ℕ → Why → Reply × Machine
cancel_turn count m k why = cancel_at count m k why (archive_of m k)
