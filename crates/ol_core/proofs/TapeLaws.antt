-- What the turns of an archive put on tape: its blocks, from the header on.
use Rattle.std.specs.Prelude.{List, [], flat_map, length, refl, suc, take, zero, ℕ, ◌++◌, ◌+◌, ◌∷◌, ◌≡◌, ◌≤◌}
use Rattle.std.proofs.Common.{ap, arith, ◌∙◌}
use Rattle.std.proofs.lemmas.Grind.{flat_map-append}
use Rattle.std.proofs.lemmas.List.{append-nil, take-append-le}
use Rattle.ol_values.specs.declared.history.Entry.{Entry}
use Rattle.ol_values.specs.declared.record.Record.{Record}
use Rattle.ol_values.specs.Blocks.{Block, archive_page, header_kind, trailer_kind}
use Rattle.ol_core.specs.History.{Turned, state_after, state_at, turned}
use Rattle.ol_core.specs.Machine.{Archive, Fixed, Machine}
use Rattle.ol_values.specs.Blocks.{SavedPage}
use Rattle.ol_rules.specs.Saveset.{saveset}
use Rattle.ol_core.specs.Tape.{archive_blocks, end_block, page_blocks, put_in, tape}

turned-push : (m : Machine) (h : List Entry) (e : Entry) → turned m (h ++ e ∷ []) ≡ turned m h ++ (let t : Turned = record { machine = state_at m h; entry = e } in t) ∷ []
turned-push m [] e = refl
turned-push m (d ∷ h) e = ap (λ (l : List Turned). (let t : Turned = record { machine = m; entry = d } in t) ∷ l) (turned-push (state_after m d) h e)

-- one entry more
pub tape-push : (m : Machine) (h : List Entry) (e : Entry) (drive : ℕ) → tape m (h ++ e ∷ []) drive ≡ tape m h drive ++ put_in drive (record { machine = state_at m h; entry = e })
tape-push m h e drive =
    let t : Turned = record { machine = state_at m h; entry = e } in
    ap (λ (l : List Turned). flat_map (put_in drive) l) (turned-push m h e)
    ∙ flat_map-append (put_in drive) (turned m h) (t ∷ [])
    ∙ ap (λ (l : List Block). tape m h drive ++ l) (append-nil (put_in drive t))

pub length-page_blocks : (i n k : ℕ) (pages : List SavedPage) → length (page_blocks i n k pages) ≡ length pages
length-page_blocks i n k [] = refl
length-page_blocks i n k (p ∷ pages) = ap suc (length-page_blocks i n (k + 1) pages)

-- a page more
pub page_blocks-push : (i n k : ℕ) (pages : List SavedPage) (p : SavedPage) → page_blocks i n k (pages ++ p ∷ []) ≡ page_blocks i n k pages ++ archive_page i n (k + length pages) p ∷ []
page_blocks-push i n k [] p = ap (λ (x : ℕ). archive_page i n x p ∷ []) (omega arith)
page_blocks-push i n k (q ∷ pages) p =
    ap (λ (l : List Block). archive_page i n k q ∷ l) (page_blocks-push i n (k + 1) pages p
    ∙ ap (λ (x : ℕ). page_blocks i n (k + 1) pages ++ archive_page i n x p ∷ []) (omega arith))

take-page_blocks : (i n k m : ℕ) (pages : List SavedPage) → take m (page_blocks i n k pages) ≡ page_blocks i n k (take m pages)
take-page_blocks i n k zero pages = refl
take-page_blocks i n k (suc m) [] = refl
take-page_blocks i n k (suc m) (p ∷ pages) = ap (λ (l : List Block). archive_page i n k p ∷ l) (take-page_blocks i n (k + 1) m pages)

-- the header of an archive and its first pages
abbrev pub front : Fixed → List Record → Archive → ℕ → List Block
front f journal a k = end_block f header_kind 0 a ∷ page_blocks f.incarnation a.number 1 (take k (saveset f.config journal a.spaces a.cut))

pub front_taken : (f : Fixed) (journal : List Record) (a : Archive) (k : ℕ) → k ≤ length (saveset f.config journal a.spaces a.cut) → take (suc k) (archive_blocks f journal a) ≡ front f journal a k
front_taken f journal a k le =
    let pages = saveset f.config journal a.spaces a.cut in
    let blocks = page_blocks f.incarnation a.number 1 pages in
    let trailer = end_block f trailer_kind (length pages + 1) a in
    let short : k ≤ length blocks = omega (arith, length-page_blocks f.incarnation a.number 1 pages) in
    ap (λ (l : List Block). end_block f header_kind 0 a ∷ l) (take-append-le k blocks (trailer ∷ []) short ∙ take-page_blocks f.incarnation a.number 1 k pages)
