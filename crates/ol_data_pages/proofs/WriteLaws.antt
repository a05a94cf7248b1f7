-- What a write to the place of a data page leaves.
use Rattle.std.proofs.Common.{◌≡◌, Err, List, Ok, OnOk, Result, ap, arith, false, get_or, length, refl, subst, sym, ℕ, ◌+◌, ◌<◌, ◌∙◌}
use Rattle.std.proofs.lemmas.Bool.{and_from, eq-eqb}
use Rattle.ol_values.specs.Config.{Config}
use Rattle.ol_ports.specs.Disk.{Past, Writes, is_within, page_list, seen}
use Rattle.ol_ports.specs.Frames.{FramedIn, ReadsOutside}
use Rattle.ol_ports.specs.Stops.{Stops}
use Rattle.ol_ports.proofs.DiskLaws.{page_list-is, within-place}
use Rattle.ol_ports.proofs.DiskSteps.{write_seen}
use Rattle.ol_ports.proofs.FrameLaws.{outside, outside_write}
use Rattle.ol_ports.proofs.StopLaws.{stops_wider, stops_write}
use Rattle.ol_data_pages.specs.Places.{is_place, standing_bytes, place_of}

-- it takes no bytes of other pages
within_page : (c : Config) (space page : ℕ) (p : ℕ × ℕ) → p ≡ place_of c space page → (size k q i : ℕ) → is_place c space page k q ≡ false → is_within p.0 p.1 0 size k q i ≡ false
within_page c space page p at size k q i = outside (is_within p.0 p.1 0 size k q i) (is_place c space page k q) (λ is.
    let here = within-place p.0 p.1 0 size k q i is in
    and_from _ _ (eq-eqb k (place_of c space page).0 (here.0 ∙ ap (λ (r : ℕ × ℕ). r.0) at)) (eq-eqb q (place_of c space page).1 (here.1 ∙ ap (λ (r : ℕ × ℕ). r.1) at)))

module _ {E : Type 0} (c : Config) (space page : ℕ) (p : ℕ × ℕ) (at : p ≡ place_of c space page) (old new : Past) (bytes : List ℕ) where
  pub write_stops : (result : Result Unit E) → Writes old new p.0 p.1 0 bytes result → Stops old new (FramedIn old (is_place c space page))
  write_stops result w = stops_wider old new (is_within p.0 p.1 0 (length bytes)) (λ k q i. is_place c space page k q) (within_page c space page p at (length bytes)) (stops_write old new p.0 p.1 0 bytes result w)

  pub write_reads : (result : Result Unit E) → Writes old new p.0 p.1 0 bytes result → OnOk result (ReadsOutside old new (is_place c space page))
  write_reads (Err e) w = tt
  write_reads (Ok u) w = outside_write old new (is_place c space page) p.0 p.1 0 bytes (Ok u) w refl (within_page c space page p at (length bytes))

  pub write_there : length bytes ≡ 2048 → (result : Result Unit E) → Writes old new p.0 p.1 0 bytes result → OnOk result (standing_bytes c (seen new) space page ≡ bytes)
  write_there size (Err e) w = tt
  write_there size (Ok u) w = subst (λ (r : ℕ × ℕ). page_list (seen new) r.0 r.1 ≡ bytes) at (sym (page_list-is (seen new) p.0 p.1 bytes size each))
    where
      each : (i : ℕ) → i < 2048 → get_or bytes i 0 ≡ seen new p.0 p.1 i
      each i lt = sym (subst (λ (k : ℕ). seen new p.0 p.1 k ≡ get_or bytes i 0) (let front : 0 + i ≡ i = omega arith in front) ((write_seen old new p.0 p.1 0 bytes (Ok u) w refl).1 i (omega (arith, lt, size))))
