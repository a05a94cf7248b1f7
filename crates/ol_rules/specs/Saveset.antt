-- The pages that an archive holds, and what archives laid over one another give.
use Rattle.std.specs.List.{list_any, range_with_len}
use Rattle.std.specs.Prelude.{All, Bool, List, [], filter, flat_map, fold, if◌then◌else◌, length, map, nat_lt, take, true, ℕ, ◌&&◌, ◌==◌, ◌∷◌, ◌≡◌, ◌≤◌}
use Rattle.ol_values.specs.declared.record.Record.{Record}
use Rattle.ol_values.specs.Config.{Config, data_pages}
use Rattle.ol_values.specs.Blocks.{Saved, SavedPage}
use Rattle.ol_values.specs.Pages.{Page, blank}
use Rattle.ol_rules.specs.Journal.{page_at, stamp_at}

-- the pages of a space that the journal changed above its base
abbrev pub changed_pages : Config → List Record → Saved → List (ℕ × ℕ)
changed_pages c journal s =
    map (λ p. let r : ℕ × ℕ = (s.space, p) in r) (filter (λ p. nat_lt s.base (stamp_at journal s.space p)) (range_with_len 0 (data_pages c s.space)))

-- the same of all these spaces, in order of space and page
unfoldable pub places : Config → List Record → List Saved → List (ℕ × ℕ)
places c journal spaces = flat_map (changed_pages c journal) spaces

-- each with its image, as they were at the cut
abbrev pub saveset : Config → List Record → List Saved → ℕ → List SavedPage
saveset c journal spaces cut =
    let past = take cut journal in
    map (λ (p : ℕ × ℕ). let r : SavedPage = record { space = p.0; page = p.1; image = page_at past p.0 p.1 } in r) (places c past spaces)

-- ---- archives laid over one another

-- a page after one saved page more
abbrev pub lay_after : ℕ → ℕ → Page → SavedPage → Page
lay_after space page under p = if (p.space == space) && (p.page == page) then p.image else under

-- the image of a page in the last of these savesets that has it, else what lay there before
abbrev pub lay_from : Page → List (List SavedPage) → ℕ → ℕ → Page
lay_from under laid space page = fold (λ (u : Page) (pages : List SavedPage). fold (lay_after space page) u pages) under laid

-- the same, over blank pages
abbrev pub lay : List (List SavedPage) → ℕ → ℕ → Page
lay laid space page = lay_from blank laid space page

-- an archive of a chain: its cut and its spaces
pub record Level : Type 0 where
  pub cut : ℕ
  pub spaces : List Saved

-- the space has this base wherever it is among these
abbrev pub HasBase : ℕ → ℕ → List Saved → Type 0
HasBase space base saved = All (λ (s : Saved). s.space ≡ space → s.base ≡ base) saved

-- whether the space is among these
abbrev pub has_saved : ℕ → List Saved → Bool
has_saved space saved = list_any (λ (s : Saved). s.space == space) saved

-- each archive has the space, with the cut before its own as the base, and cuts never fall
abbrev pub IsChain : Config → List Record → ℕ → ℕ → List Level → Type 0
IsChain c journal space base [] = Unit {0}
IsChain c journal space base (l ∷ levels) =
    HasBase space base l.spaces × (has_saved space l.spaces ≡ true) × (base ≤ l.cut) × (l.cut ≤ length journal) × IsChain c journal space l.cut levels

-- the cut of the last archive, or this
abbrev pub last_cut : ℕ → List Level → ℕ
last_cut base levels = fold (λ n (l : Level). l.cut) base levels

-- the saveset of each archive
abbrev pub savesets : Config → List Record → List Level → List (List SavedPage)
savesets c journal levels = map (λ (l : Level). saveset c journal l.spaces l.cut) levels
