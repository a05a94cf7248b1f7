-- What the plays of archives put on drive 1, written from the rules.
use Rattle.std.specs.Prelude.{List, Option, Some, [], codes, ℕ, ◌∷◌}
use Rattle.ol_values.specs.declared.row.Row.{Row}
use Rattle.ol_values.specs.Blocks.{Saved}

-- header, page 0 of space 1 with the stamp 2, and trailer of the first archive, with the cut 3 and the low 4
abbrev pub one_page_tape : List (List ℕ)
one_page_tape =
    (1 ∷ 1 ∷ 1 ∷ 1 ∷ 0 ∷ 3 ∷ 4 ∷ 0 ∷ [])
    ∷ (2 ∷ 1 ∷ 1 ∷ 1 ∷ 1 ∷ 1 ∷ 0 ∷ 2 ∷ [])
    ∷ (4 ∷ 1 ∷ 1 ∷ 1 ∷ 2 ∷ 3 ∷ 4 ∷ 0 ∷ [])
    ∷ []

-- an archive of no page is a header and a trailer of index 1
abbrev pub no_page_tape : List (List ℕ)
no_page_tape =
    (1 ∷ 1 ∷ 1 ∷ 1 ∷ 0 ∷ 0 ∷ 1 ∷ 0 ∷ [])
    ∷ (4 ∷ 1 ∷ 1 ∷ 1 ∷ 1 ∷ 0 ∷ 1 ∷ 0 ∷ [])
    ∷ []

-- an archive that has not ended has no trailer
abbrev pub not_ended_tape : List (List ℕ)
not_ended_tape =
    (1 ∷ 1 ∷ 1 ∷ 1 ∷ 0 ∷ 3 ∷ 4 ∷ 0 ∷ [])
    ∷ (2 ∷ 1 ∷ 1 ∷ 1 ∷ 1 ∷ 1 ∷ 0 ∷ 2 ∷ [])
    ∷ []

-- behind the first archive the one of level 1, with the cut 6 and the page's stamp 5
abbrev pub two_levels_tape : List (List ℕ)
two_levels_tape =
    (1 ∷ 1 ∷ 1 ∷ 1 ∷ 0 ∷ 3 ∷ 4 ∷ 0 ∷ [])
    ∷ (2 ∷ 1 ∷ 1 ∷ 1 ∷ 1 ∷ 1 ∷ 0 ∷ 2 ∷ [])
    ∷ (4 ∷ 1 ∷ 1 ∷ 1 ∷ 2 ∷ 3 ∷ 4 ∷ 0 ∷ [])
    ∷ (1 ∷ 1 ∷ 1 ∷ 2 ∷ 0 ∷ 6 ∷ 7 ∷ 1 ∷ [])
    ∷ (2 ∷ 1 ∷ 1 ∷ 2 ∷ 1 ∷ 1 ∷ 0 ∷ 5 ∷ [])
    ∷ (4 ∷ 1 ∷ 1 ∷ 2 ∷ 2 ∷ 6 ∷ 7 ∷ 1 ∷ [])
    ∷ []

-- the low is the number of the transaction that is open at the cut
abbrev pub open_at_cut_tape : List (List ℕ)
open_at_cut_tape =
    (1 ∷ 1 ∷ 1 ∷ 1 ∷ 0 ∷ 5 ∷ 4 ∷ 0 ∷ [])
    ∷ (2 ∷ 1 ∷ 1 ∷ 1 ∷ 1 ∷ 1 ∷ 0 ∷ 5 ∷ [])
    ∷ (4 ∷ 1 ∷ 1 ∷ 1 ∷ 2 ∷ 5 ∷ 4 ∷ 0 ∷ [])
    ∷ []

-- an archive that breaks before its first page is a header alone
abbrev pub broken_tape : List (List ℕ)
broken_tape = (1 ∷ 1 ∷ 1 ∷ 1 ∷ 0 ∷ 4 ∷ 5 ∷ 0 ∷ []) ∷ []

-- a page of this stamp with this row in its first slot
abbrev pub page_with : ℕ → List ℕ → ℕ × Option Row
page_with stamp row = (stamp, Some row)

abbrev pub ann_page : List (ℕ × Option Row)
ann_page = page_with 2 (codes "ann") ∷ []

-- the page as at the cut, whatever changed it since
abbrev pub old_page : List (ℕ × Option Row)
old_page = page_with 2 (codes "old") ∷ []

abbrev pub old_and_new_pages : List (ℕ × Option Row)
old_and_new_pages = page_with 2 (codes "old") ∷ page_with 5 (codes "new") ∷ []

abbrev pub changed_page : List (ℕ × Option Row)
changed_page = page_with 5 (codes "b") ∷ []

-- space 1 with its parent's number and its base
abbrev pub data1_with : ℕ → ℕ → List Saved
data1_with parent base = (let s : Saved = record { space = 1; parent = parent; base = base } in s) ∷ []

-- level 0 has neither, and level 1 goes on from archive 1 and its cut
abbrev pub two_levels_spaces : List (List Saved)
two_levels_spaces = data1_with 0 0 ∷ data1_with 0 0 ∷ data1_with 1 3 ∷ data1_with 1 3 ∷ []
