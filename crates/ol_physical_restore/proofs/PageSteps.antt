-- One image is written to the place of its page.
use Rattle.std.proofs.Common.{◌≡◌, inl, inr, Bool, Err, IsSome, List, Ok, OnOk, Option, Result, Some, ap, false, length, refl, subst, sym, true, unwrap_or, ℕ, ◌<◌, ◌∙◌}
use Rattle.std.specs.Prelude.{slice_set, ◌&&◌}
use Rattle.std.proofs.lemmas.Bool.{and_from, cases_eq, lt-ltb}
use Rattle.std.proofs.lemmas.List.{get_or-set_other, get_or-set_same}
use Rattle.ol_values.specs.Config.{Config, data_pages, has_page}
use Rattle.ol_chunks.specs.Limits.{IsConfig, chunk_count}
use Rattle.ol_chunks.specs.Places.{place_in_chunks}
use Rattle.ol_chunks.proofs.PlaceLaws.{chunk_there, false_if, place_at, place_there}
use Rattle.ol_ports.specs.Causes.{HasChunkCause}
use Rattle.ol_ports.specs.Disk.{Past}
use Rattle.ol_ports.specs.Frames.{FramedIn, ReadsOutside}
use Rattle.ol_ports.specs.Stops.{Stops}
use Rattle.ol_ports.proofs.FrameLaws.{outside_wider}
use Rattle.ol_ports.proofs.StopLaws.{stops_wider}
use Rattle.ol_physlog.specs.declared.place.Place.{Place}
use Rattle.ol_data_pages.specs.Places.{HasSpaceCause, IsMarked, MarkSpaces, is_place, place_of}
use Rattle.ol_data_pages.proofs.PlaceLaws.{place_bounds, placed}
use Rattle.ol_physical_restore.specs.Restores.{is_place_of}

-- a page that has a place is one of the configuration
pub page_there : (c : Config) (space page : ℕ) (p : ℕ × ℕ) → place_in_chunks c space page ≡ Some p → (has_page c space page ≡ true) × (place_of c space page ≡ p)
page_there c space page p is =
    let at = place_at c space page p is in
    let some : IsSome (place_in_chunks c space page) = subst (λ (o : Option (ℕ × ℕ)). IsSome o) (sym is) (let there : IsSome (Some p) = refl in there) in (
      and_from _ _ (lt-ltb space (length c.spaces) (chunk_there c space at.at at.there)) (lt-ltb page (data_pages c space) ((place_there c space page).0 some)),
      ap (λ (o : Option (ℕ × ℕ)). unwrap_or o (let none : ℕ × ℕ = (0, 0) in none)) is,
    )

-- and its chunk is one of a space
pub page_chunk : (c : Config) → IsConfig c → (space page : ℕ) (p : ℕ × ℕ) → place_in_chunks c space page ≡ Some p → (n : ℕ) → n ≡ p.0 → (n ≡ (place_of c space page).0) × (n < chunk_count c.spaces)
page_chunk c is space page p at n same =
    let there = page_there c space page p at in
    let here : n ≡ (place_of c space page).0 = same ∙ ap (λ (q : ℕ × ℕ). q.0) (sym there.1) in
    (here, subst (λ (k : ℕ). k < chunk_count c.spaces) (sym here) (place_bounds c is space page there.0).0)

-- and one that has none is not
pub page_missing : (c : Config) (space page : ℕ) (o : Option (ℕ × ℕ)) → o ≡ place_in_chunks c space page → ((p : ℕ × ℕ) → o ≡ Some p → ⊥) → has_page c space page ≡ false
page_missing c space page o is none = false_if _ (λ has. none (place_of c space page) (is ∙ placed c space page has))

-- ---- what is written

module _ (c : Config) (place : Place) (has : has_page c place.space place.page ≡ true) (old new : Past) where
  place_out : (k p : ℕ) → is_place_of c place k p ≡ false → is_place c place.space place.page k p ≡ false
  place_out k p out = ap (λ (b : Bool). b && is_place c place.space place.page k p) (sym has) ∙ out

  pub place_stops : Stops old new (FramedIn old (is_place c place.space place.page)) → Stops old new (FramedIn old (is_place_of c place))
  place_stops stops = stops_wider old new (λ k p i. is_place c place.space place.page k p) (λ k p i. is_place_of c place k p) (λ k p i out. place_out k p out) stops

  pub place_reads : {E : Type 0} (result : Result Unit E) → OnOk result (ReadsOutside old new (is_place c place.space place.page)) → OnOk result (ReadsOutside old new (is_place_of c place))
  place_reads (Err e) reads = tt
  place_reads (Ok u) reads = outside_wider old new (is_place c place.space place.page) (is_place_of c place) (λ k p out. place_out k p out) reads

-- ---- marks

module _ (marks : List Bool) (n : ℕ) (small : n < length marks) where
  pub mark_here : IsMarked (slice_set marks n true) n
  mark_here = get_or-set_same marks n true false small

  pub mark_spaces : (c : Config) → n < chunk_count c.spaces → MarkSpaces c marks → MarkSpaces c (slice_set marks n true)
  mark_spaces c lt spaces chunk is = elim (cases_eq chunk n) [
    | inl same ↦ subst (λ (k : ℕ). k < chunk_count c.spaces) (sym same) lt
    | inr differs ↦ spaces chunk (sym (get_or-set_other marks n chunk true false differs) ∙ is)
  ]

-- ---- faults

pub page_cause : {E : Type 0} (c : Config) (chunk : ℕ) → chunk < chunk_count c.spaces → (before now : ℕ → ℕ) (result : Result Unit E) → HasChunkCause chunk before now result → HasSpaceCause c before now result
page_cause c chunk lt before now (Err e) cause = record { later = cause.later; failed = (chunk, lt, record { later = cause.later chunk; rose = cause.failed; others = cause.others }); kept = tt }
page_cause c chunk lt before now (Ok u) cause = record { later = cause.later; failed = tt; kept = cause.kept }
