-- A block that follows in a span on what is told is one that belongs there.
use Rattle.std.proofs.Common.{◌≡◌, ℕ, ◌+◌, ◌≤◌, ◌∙◌, Bool, Some, None, Option, [], ap, arith, eqb, inl, inr, leb, ltb, option_map, refl, sym, suc, zero, true, false}
use Rattle.std.specs.Prelude.{if◌then◌else◌, ◌&&◌, ◌||◌}
use Rattle.std.proofs.lemmas.Bool.{cases_Bool, eq-eqb, le-leb, lt-leb, lt-ltb, ltb-false, ltb-true, ne_eqb}
use Rattle.ol_values.specs.Blocks.{ArchiveHead, Block, Empty, HeadHeld, LogHeld, PageHeld, Payload, Saved, archive_object, header_kind, page_kind, records_kind, trailer_kind}
use Rattle.ol_values.specs.Config.{Config, has_page}
use Rattle.ol_rules.specs.Shelf.{Reached, belongs, end_belongs, has_all, head_of, inner_belongs, is_after, log_belongs, page_belongs, reached_by, same_payload, saved_in, stamp_is}
use Rattle.ol_object_spans.specs.declared.header.Header.{Header}
use Rattle.ol_object_spans.specs.declared.header.Progress.{Progress}
use Rattle.ol_object_spans.specs.Follows.{advanced, ends_as, follows, inner_follows, is_behind, page_fits, page_of, records_of}
use Rattle.ol_object_spans.specs.Scans.{page_behind, reached, space_of}
use Rattle.ol_object_spans.specs.Told.{head_told, held_told, same_held, stamp_in, told_of}

-- a header as it is told
abbrev pub header_told : ℕ → Block → Header
header_told s h = record { start = s; head = head_told h; held = held_told h.payload }

-- ---- pages

behind_is : (last : Option (ℕ × ℕ)) (position space page : ℕ)
    → is_behind last space page ≡ is_after (record { space = space_of last; page = page_behind last; position = position; sure = true; bad = [] }) space page
behind_is None position zero page = sym (le-leb 0 page (omega arith))
behind_is None position (suc space) page = ap (λ t. t || (eqb 0 (suc space) && leb 0 page)) (sym (lt-ltb 0 (suc space) (omega arith)))
behind_is (Some last) position space page =
    let same : ltb last.1 page ≡ leb (last.1 + 1) page = elim (cases_Bool (ltb last.1 page)) as (λ _. ltb last.1 page ≡ leb (last.1 + 1) page) [
      | inl t ↦ t ∙ sym (le-leb (last.1 + 1) page (omega (arith, ltb-true last.1 page t)))
      | inr f ↦ f ∙ sym (lt-leb (last.1 + 1) page (omega (arith, ltb-false last.1 page f)))
    ] in
    ap (λ t. ltb last.0 space || ((eqb last.0 space) && t)) same

stamp_same : (payload : Payload) (stamp : ℕ) → stamp_in (held_told payload) stamp ≡ stamp_is payload stamp
stamp_same Empty stamp = refl
stamp_same (HeadHeld head config) stamp = refl
stamp_same (PageHeld page) stamp = refl
stamp_same (LogHeld page) stamp = refl

abbrev with_payload : Block → Payload → Block
with_payload h payload = record h { payload = payload }

fits_same : (s : ℕ) (h b : Block) (p : Progress) (head : ArchiveHead) (config : Config) (saved : Option Saved)
    → page_fits (header_told s (with_payload h (HeadHeld head config))) config p (told_of b) (option_map (λ (x : Saved). x.base) saved)
    ≡ page_belongs (reached p) (with_payload h (HeadHeld head config)) b saved
fits_same s h b p head config None = refl
fits_same s h b p head config (Some x) = λ i.
    behind_is p.last p.position b.a b.b i
    && (has_page config b.a b.b && (ltb x.base b.c && (leb b.c h.a && stamp_same b.payload b.c i)))

page_same : (s : ℕ) (h b : Block) (p : Progress) (payload : Payload)
    → page_of (header_told s (with_payload h payload)) (held_told payload) p (told_of b)
    ≡ page_belongs (reached p) (with_payload h payload) b (saved_in b.a (head_of payload).spaces)
page_same s h b p Empty = refl
page_same s h b p (HeadHeld head config) = fits_same s h b p head config (saved_in b.a head.spaces)
page_same s h b p (PageHeld page) = refl
page_same s h b p (LogHeld page) = refl

records_same : (s : ℕ) (h b : Block) (p : Progress) (payload : Payload)
    → records_of (header_told s h) p (head_told b) (held_told payload) ≡ log_belongs (reached p) h b payload
records_same s h b p Empty = refl
records_same s h b p (HeadHeld head config) = refl
records_same s h b p (PageHeld page) = refl
records_same s h b p (LogHeld page) = refl

inner_same : (s : ℕ) (h b : Block) (p : Progress) → inner_follows (header_told s h) p (told_of b) ≡ inner_belongs (reached p) h b
inner_same s h b p = λ i.
    if eqb h.object archive_object then (eqb b.kind page_kind && page_same s h b p h.payload i)
    else (eqb b.kind records_kind && records_same s h b p b.payload i)

regroup : (x y z r : Bool) → ((x && (y && z)) && r) ≡ (x && (y && (z && r)))
regroup true true z r = refl
regroup true false z r = refl
regroup false y z r = refl

-- a block of an index from 1 on belongs exactly where it follows
pub follows_same : (s : ℕ) (h b : Block) (p : Progress) (i : ℕ) → h.index ≡ 0 → 1 ≤ i → follows (header_told s h) p i (told_of b) ≡ belongs h (reached p) i b
follows_same s h b p i zero_ some =
    let first : eqb i 0 ≡ false = ne_eqb i 0 (λ e. omega arith) in
    let last : eqb i h.index ≡ false = ne_eqb i h.index (λ e. omega arith) in
    regroup (eqb b.object h.object) (eqb b.incarnation h.incarnation) (eqb b.number h.number) (eqb b.index i && inner_follows (header_told s h) p (told_of b))
    ∙ ap (λ t. eqb b.object h.object && (eqb b.incarnation h.incarnation && (eqb b.number h.number && (eqb b.index i && t))))
    (inner_same s h b p
    ∙ sym (ap (λ t. if t then end_belongs header_kind h b else (if eqb i h.index then (end_belongs trailer_kind h b && has_all (reached p) h) else inner_belongs (reached p) h b)) first
    ∙ ap (λ t. if t then (end_belongs trailer_kind h b && has_all (reached p) h) else inner_belongs (reached p) h b) last))

-- ---- how far it has come

pub advanced_same : (p : Progress) (b : Block) → reached_by (reached p) b ≡ reached (advanced p (head_told b))
advanced_same p b =
    elim (eqb b.kind page_kind) as (λ t.
    (if t then record (reached p) { space = b.a; page = b.b + 1 } else (if eqb b.kind records_kind then record (reached p) { position = b.a + b.b; sure = true } else reached p))
    ≡ reached (if t then record p { last = Some (b.a, b.b) } else (if eqb b.kind records_kind then record p { position = b.a + b.b } else p))) [
      | true ↦ refl
      | false ↦ elim (eqb b.kind records_kind) as (λ t.
          (if t then record (reached p) { position = b.a + b.b; sure = true } else reached p) ≡ reached (if t then record p { position = b.a + b.b } else p)) [
            | true ↦ refl
            | false ↦ refl
          ]
    ]

-- ---- headers and trailers

pub held_same : (p q : Payload) → same_held (held_told p) (held_told q) ≡ same_payload p q
held_same Empty Empty = refl
held_same Empty (HeadHeld _ _) = refl
held_same Empty (PageHeld _) = refl
held_same Empty (LogHeld _) = refl
held_same (HeadHeld _ _) Empty = refl
held_same (HeadHeld _ _) (HeadHeld _ _) = refl
held_same (HeadHeld _ _) (PageHeld _) = refl
held_same (HeadHeld _ _) (LogHeld _) = refl
held_same (PageHeld _) Empty = refl
held_same (PageHeld _) (HeadHeld _ _) = refl
held_same (PageHeld _) (PageHeld _) = refl
held_same (PageHeld _) (LogHeld _) = refl
held_same (LogHeld _) Empty = refl
held_same (LogHeld _) (HeadHeld _ _) = refl
held_same (LogHeld _) (PageHeld _) = refl
held_same (LogHeld _) (LogHeld _) = refl

-- a header belongs at the front of an object exactly where that ends as the header says
pub ends_same : (s : ℕ) (h b : Block) (r : Reached) → h.kind ≡ header_kind → h.index ≡ 0 → belongs b r 0 h ≡ ends_as (header_told s h) (told_of b)
ends_same s h b r kind index =
    let rest : Bool = eqb h.a b.a && (eqb h.b b.b && (eqb h.c b.c && same_payload h.payload b.payload)) in
    (λ i. eqb h.object b.object && (eqb h.incarnation b.incarnation && (eqb h.number b.number && (eq-eqb h.index 0 index i && (eq-eqb h.kind header_kind kind i && rest)))))
    ∙ sym (regroup (eqb h.object b.object) (eqb h.incarnation b.incarnation) (eqb h.number b.number) rest)
    ∙ (λ i. (eqb h.object b.object && (eqb h.incarnation b.incarnation && eqb h.number b.number))
    && (eqb h.a b.a && (eqb h.b b.b && (eqb h.c b.c && sym (held_same h.payload b.payload) i))))
