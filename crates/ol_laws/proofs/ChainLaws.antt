-- Archives laid over one another give each page of a space as it was at the last cut.
use Rattle.std.specs.List.{list_any, range_with_len}
use Rattle.std.specs.Prelude.{Bool, List, [], drop, false, filter, flat_map, fold, length, map, nat_lt, refl, suc, take, true, zero, ℕ, ◌&&◌, ◌++◌, ◌+◌, ◌<◌, ◌==◌, ◌∷◌, ◌≡◌, ◌≢◌, ◌≤◌}
use Rattle.std.proofs.Common.{ap, arith, inl, inr, length-take, sym, take-append-drop, take-take, ◌∙◌}
use Rattle.std.proofs.lemmas.Bool.{and_parts, cases_Bool, eqb-true, ltb-false, or_parts}
use Rattle.std.proofs.lemmas.Bool.Decides.{eqb_tells}
use Rattle.std.proofs.lemmas.List.Elements.{All-head, All-tail}
use Rattle.std.proofs.lemmas.List.Folds.{list_any-append}
use Rattle.ol_values.specs.declared.record.Record.{Record}
use Rattle.ol_values.specs.Config.{Config, data_pages}
use Rattle.ol_values.specs.Pages.{Page, blank}
use Rattle.ol_rules.specs.Journal.{page_at, page_from, stamp_at}
use Rattle.ol_rules.specs.Saveset.{HasBase, IsChain, Level, changed_pages, has_saved, last_cut, lay, lay_after, lay_from, places, saveset, savesets}
use Rattle.ol_values.specs.Blocks.{Saved, SavedPage}
use Rattle.ol_laws.proofs.JournalLaws.{same_self}
use Rattle.ol_laws.proofs.PageLaws.{page_below}

-- ---- pages laid over what was there

abbrev is_at : ℕ → ℕ → ℕ × ℕ → Bool
is_at space page r = (r.0 == space) && (r.1 == page)

abbrev saved_from : List Record → ℕ × ℕ → SavedPage
saved_from past p = record { space = p.0; page = p.1; image = page_at past p.0 p.1 }

page_there : (past : List Record) (space page : ℕ) (r : ℕ × ℕ) → is_at space page r ≡ true → page_at past r.0 r.1 ≡ page_at past space page
page_there past space page r h =
    let q = and_parts (r.0 == space) (r.1 == page) h in
    ap (λ (s : ℕ). page_at past s r.1) (eqb-true r.0 space q.0) ∙ ap (λ (p : ℕ). page_at past space p) (eqb-true r.1 page q.1)

lay_hit : (past : List Record) (space page : ℕ) (u : Page) (r : ℕ × ℕ) → is_at space page r ≡ true → lay_after space page u (saved_from past r) ≡ page_at past space page
lay_hit past space page u r h = rw (h) (page_there past space page r h)

lay_miss : (past : List Record) (space page : ℕ) (u : Page) (r : ℕ × ℕ) → is_at space page r ≡ false → lay_after space page u (saved_from past r) ≡ u
lay_miss past space page u r h = rw (h)

lay_stays : (past : List Record) (space page : ℕ) (rs : List (ℕ × ℕ)) (u : Page) → u ≡ page_at past space page → fold (lay_after space page) u (map (saved_from past) rs) ≡ page_at past space page
lay_stays past space page [] u h = h
lay_stays past space page (r ∷ rs) u h =
    lay_stays past space page rs (lay_after space page u (saved_from past r))
    (elim (cases_Bool (is_at space page r)) [ inl e ↦ lay_hit past space page u r e | inr e ↦ lay_miss past space page u r e ∙ h ])

-- a page that is among those saved has its image
lay_there : (past : List Record) (space page : ℕ) (rs : List (ℕ × ℕ)) (u : Page) → list_any (is_at space page) rs ≡ true → fold (lay_after space page) u (map (saved_from past) rs) ≡ page_at past space page
lay_there past space page [] u h = absurd (let e : false ≡ true = h in cc)
lay_there past space page (r ∷ rs) u h =
    elim (cases_Bool (is_at space page r)) [
      | inl e ↦ lay_stays past space page rs (lay_after space page u (saved_from past r)) (lay_hit past space page u r e)
      | inr e ↦ lay_there past space page rs (lay_after space page u (saved_from past r)) (rw (e) at h)
    ]

-- another page stays as it was
lay_not_there : (past : List Record) (space page : ℕ) (rs : List (ℕ × ℕ)) (u : Page) → list_any (is_at space page) rs ≡ false → fold (lay_after space page) u (map (saved_from past) rs) ≡ u
lay_not_there past space page [] u h = refl
lay_not_there past space page (r ∷ rs) u h =
    let q = or_parts (is_at space page r) (list_any (is_at space page) rs) h in
    lay_not_there past space page rs (lay_after space page u (saved_from past r)) q.1 ∙ lay_miss past space page u r q.0

-- ---- which pages are saved

any_filtered : (test : ℕ → Bool) (page : ℕ) (ps : List ℕ) → test page ≡ false → list_any (λ p. p == page) (filter test ps) ≡ false
any_filtered test page [] h = refl
any_filtered test page (p ∷ ps) h =
    elim (cases_Bool (test p)) [
      | inl e ↦ rw (e) (elim (eqb_tells p page) [ inl f ↦ absurd (let g : true ≡ false = sym e ∙ ap test f.1 ∙ h in cc) | inr f ↦ rw (f.0) (any_filtered test page ps h) ])
      | inr e ↦ rw (e) (any_filtered test page ps h)
    ]

any_kept : (test : ℕ → Bool) (page : ℕ) (ps : List ℕ) → test page ≡ true → list_any (λ p. p == page) ps ≡ true → list_any (λ p. p == page) (filter test ps) ≡ true
any_kept test page [] h k = k
any_kept test page (p ∷ ps) h k =
    elim (eqb_tells p page) [
      | inl f ↦ (let e : test p ≡ true = ap test f.1 ∙ h in rw (e, f.0) refl)
      | inr f ↦ (let rest = any_kept test page ps h (rw (f.0) at k) in elim (cases_Bool (test p)) [ inl e ↦ rw (e, f.0) rest | inr e ↦ rw (e) rest ])
    ]

any_in_range : (page n first : ℕ) → first ≤ page → page < first + n → list_any (λ p. p == page) (range_with_len first n) ≡ true
any_in_range page zero first le lt = absurd (omega arith)
any_in_range page (suc n) first le lt =
    elim (eqb_tells first page) [ inl f ↦ rw (f.0) refl | inr f ↦ rw (f.0) (any_in_range page n (first + 1) (let g : first ≢ page = f.1 in omega arith) (omega arith)) ]

any_of_space : (space page : ℕ) (ps : List ℕ) → list_any (is_at space page) (map (λ p. let r : ℕ × ℕ = (space, p) in r) ps) ≡ list_any (λ p. p == page) ps
any_of_space space page [] = refl
any_of_space space page (p ∷ ps) = rw (same_self space, any_of_space space page ps) refl

any_of_other : (other space page : ℕ) (ps : List ℕ) → (other == space) ≡ false → list_any (is_at space page) (map (λ p. let r : ℕ × ℕ = (other, p) in r) ps) ≡ false
any_of_other other space page [] h = refl
any_of_other other space page (p ∷ ps) h = rw (h) (any_of_other other space page ps h)

-- ---- the pages of an archive

abbrev IsBase : ℕ → ℕ → Saved → Type 0
IsBase space base s = s.space ≡ space → s.base ≡ base

abbrev above : List Record → ℕ → ℕ → ℕ → Bool
above past space base page = nat_lt base (stamp_at past space page)

-- the pages of one space
page_of_one : (c : Config) (past : List Record) (s : Saved) (page : ℕ) → page < data_pages c s.space → above past s.space s.base page ≡ true → list_any (is_at s.space page) (changed_pages c past s) ≡ true
page_of_one c past s page lt h =
    any_of_space s.space page (filter (above past s.space s.base) (range_with_len 0 (data_pages c s.space)))
    ∙ any_kept (above past s.space s.base) page (range_with_len 0 (data_pages c s.space)) h (any_in_range page (data_pages c s.space) 0 (omega arith) (omega arith))

page_not_of_one : (c : Config) (past : List Record) (s : Saved) (page : ℕ) → above past s.space s.base page ≡ false → list_any (is_at s.space page) (changed_pages c past s) ≡ false
page_not_of_one c past s page h =
    any_of_space s.space page (filter (above past s.space s.base) (range_with_len 0 (data_pages c s.space)))
    ∙ any_filtered (above past s.space s.base) page (range_with_len 0 (data_pages c s.space)) h

is_saved : (c : Config) (past : List Record) (space base page : ℕ) (saved : List Saved) → HasBase space base saved → has_saved space saved ≡ true → page < data_pages c space → above past space base page ≡ true
    → list_any (is_at space page) (flat_map (changed_pages c past) saved) ≡ true
is_saved c past space base page [] b h lt k = absurd (let e : false ≡ true = h in cc)
is_saved c past space base page (s ∷ saved) b h lt k =
    list_any-append (is_at space page) (changed_pages c past s) (flat_map (changed_pages c past) saved)
    ∙ elim (eqb_tells s.space space) [
      | inl e ↦ (let f : s.base ≡ base = All-head (IsBase space base) s saved b e.1 in let g : list_any (is_at space page) (changed_pages c past s) ≡ true = rw (← e.1) (page_of_one c past s page (rw (e.1) lt) (rw (e.1, f) k)) in rw (g) refl)
      | inr e ↦ (let rest = is_saved c past space base page saved (All-tail (IsBase space base) s saved b) (rw (e.0) at h) lt k in rw (any_of_other s.space space page (filter (above past s.space s.base) (range_with_len 0 (data_pages c s.space))) e.0) rest)
    ]

is_not_saved : (c : Config) (past : List Record) (space base page : ℕ) (saved : List Saved) → HasBase space base saved → above past space base page ≡ false
    → list_any (is_at space page) (flat_map (changed_pages c past) saved) ≡ false
is_not_saved c past space base page [] b k = refl
is_not_saved c past space base page (s ∷ saved) b k =
    list_any-append (is_at space page) (changed_pages c past s) (flat_map (changed_pages c past) saved)
    ∙ elim (eqb_tells s.space space) [
      | inl e ↦ (let f : s.base ≡ base = All-head (IsBase space base) s saved b e.1 in let g : list_any (is_at space page) (changed_pages c past s) ≡ false = rw (← e.1) (page_not_of_one c past s page (rw (e.1, f) k)) in rw (g) (is_not_saved c past space base page saved (All-tail (IsBase space base) s saved b) k))
      | inr e ↦ rw (any_of_other s.space space page (filter (above past s.space s.base) (range_with_len 0 (data_pages c s.space))) e.0) (is_not_saved c past space base page saved (All-tail (IsBase space base) s saved b) k)
    ]

-- one archive laid over its base
lay_one : (c : Config) (base_part more : List Record) (space page : ℕ) (saved : List Saved) (u : Page) → HasBase space (length base_part) saved → has_saved space saved ≡ true → page < data_pages c space
    → u ≡ page_at base_part space page → fold (lay_after space page) u (map (saved_from (base_part ++ more)) (places c (base_part ++ more) saved)) ≡ page_at (base_part ++ more) space page
unfolding places
lay_one c base_part more space page saved u b h lt e =
    let past = base_part ++ more in
    elim (cases_Bool (above past space (length base_part) page)) [
      | inl k ↦ lay_there past space page (flat_map (changed_pages c past) saved) u (is_saved c past space (length base_part) page saved b h lt k)
      | inr k ↦ lay_not_there past space page (flat_map (changed_pages c past) saved) u (is_not_saved c past space (length base_part) page saved b k)
          ∙ e ∙ sym (page_below base_part more space page (ltb-false (length base_part) (stamp_at past space page) k))
    ]

-- ---- a chain

take_none : (journal : List Record) → take 0 journal ≡ []
take_none [] = refl
take_none (r ∷ journal) = refl

split_at : (journal : List Record) (base cut : ℕ) → base ≤ cut → take cut journal ≡ take base journal ++ drop base (take cut journal)
split_at journal base cut h =
    sym (take-append-drop base (take cut journal)) ∙ ap (λ (l : List Record). l ++ drop base (take cut journal)) (take-take base cut journal h)

lay_one_at : (c : Config) (journal : List Record) (space page base : ℕ) (l : Level) (u : Page) → HasBase space base l.spaces → has_saved space l.spaces ≡ true → base ≤ l.cut → l.cut ≤ length journal → page < data_pages c space
    → u ≡ page_at (take base journal) space page → fold (lay_after space page) u (saveset c journal l.spaces l.cut) ≡ page_at (take l.cut journal) space page
lay_one_at c journal space page base l u b h le len lt e =
    let length_is : length (take base journal) ≡ base = omega (arith, length-take base journal) in
    let one = lay_one c (take base journal) (drop base (take l.cut journal)) space page l.spaces u (rw (length_is) b) h lt e in
    rw (← split_at journal base l.cut le) at one

lay_chain : (c : Config) (journal : List Record) (space page base : ℕ) (levels : List Level) (u : Page) → IsChain c journal space base levels → page < data_pages c space
    → u ≡ page_at (take base journal) space page → lay_from u (savesets c journal levels) space page ≡ page_at (take (last_cut base levels) journal) space page
lay_chain c journal space page base [] u h lt e = e
lay_chain c journal space page base (l ∷ levels) u h lt e =
    lay_chain c journal space page l.cut levels (fold (lay_after space page) u (saveset c journal l.spaces l.cut)) h.4 lt
    (lay_one_at c journal space page base l u h.0 h.1 h.2 h.3 lt e)

blank_is : (space page : ℕ) → blank ≡ page_at [] space page
unfolding page_from
blank_is space page = refl

-- where the first base is 0, each further base is the cut before it and the cuts never fall, each page is as at the last cut
pub lay_is : (c : Config) (journal : List Record) (space page : ℕ) (levels : List Level) → IsChain c journal space 0 levels → page < data_pages c space
    → lay (savesets c journal levels) space page ≡ page_at (take (last_cut 0 levels) journal) space page
lay_is c journal space page levels h lt = lay_chain c journal space page 0 levels blank h lt (rw (take_none journal) (blank_is space page))
