-- What the code sees of a place.
use Rattle.std.proofs.Common.{◌≡◌, ℕ, ◌+◌, Bool, true, ◌==◌, if◌then◌else◌, List, length, Option, Some, None, refl, sym, ◌∙◌, ap, subst, arith}
use Rattle.std.specs.Prelude.{◌&&◌, is_some, slice_index}
use Rattle.std.proofs.lemmas.Bool.Decides.{nat_tests}
use Rattle.ol_values.specs.Config.{Config}
use Rattle.ol_values.specs.LogPages.{LogPage}
use Rattle.ol_record.specs.declared.head.LogHead.{LogHead}
use Rattle.ol_record.specs.LogPages.{IsImage, IsLogPage, head_of, log_page_bytes, page_in}
use Rattle.ol_record.specs.PageReading.{page_at}
use Rattle.ol_record.proofs.Fields.{IsBytes}
use Rattle.ol_record.proofs.Whole.{page_again, page_takes}
use Rattle.ol_chunks.specs.Places.{log_area}
use Rattle.ol_chunks.specs.declared.table.Area.{Area}
use Rattle.ol_log_places.specs.declared.reading.Seen.{Seen}
use Rattle.ol_log_places.specs.declared.reading.Seen.TheVariants as seen
use Rattle.ol_log_places.specs.Places.{Bad, Open, is_of_place, place_in}
use Rattle.ol_log_places.specs.Scanning.{seen_of}
use Rattle.ol_log_places.proofs.PlaceLaws.{place_bad, place_of}

pub found_place : (c : Config) (k : ℕ) (bytes : List ℕ) → slice_index bytes 0 ≡ 1 → IsLogPage (page_in bytes) → IsImage bytes → place_in c k bytes ≡ (if is_of_place c k (page_in bytes) then Open (page_in bytes) else Bad)
unfolding place_in
found_place c k bytes gate is image =
    let opened : (slice_index bytes 0 == 1) ≡ true = grind (arith, nat_tests) in
    let found : is_some (page_at bytes) ≡ true = ap (λ (l : List ℕ). is_some (page_at l)) image ∙ ap is_some (page_again (slice_index bytes 0) (page_in bytes) is) in
    rw (opened, found) refl

pub no_place : (c : Config) (k : ℕ) (bytes : List ℕ) → slice_index bytes 0 ≡ 1 → IsBytes bytes → length bytes ≡ 2048 → ((gate : ℕ) (p : LogPage) → IsLogPage p → bytes ≡ log_page_bytes gate p → ⊥) → place_in c k bytes ≡ Bad
no_place c k bytes gate fits long none = by_found (page_at bytes) refl
  where
    by_found : (o : Option LogHead) → page_at bytes ≡ o → place_in c k bytes ≡ Bad
    by_found (Some h) e = absurd (let f = page_takes bytes h fits long e in none (slice_index bytes 0) (page_in bytes) f.page f.image)
    by_found None e = place_bad c k bytes gate (ap (λ (o : Option LogHead). is_some o && is_of_place c k (page_in bytes)) e)

abbrev make : ℕ → ℕ → LogHead → Seen
make chunk page head = seen.Open (record { chunk = chunk; page = page; head = head })

pub seen_open : (c : Config) (k : ℕ) (a : Area) (head : LogHead) (p : LogPage) (t : Bool) → a ≡ log_area c → head ≡ head_of p → is_of_place c k p ≡ true → t ≡ is_of_place c k p → seen.Open (record { chunk = a.chunk; page = a.first + k; head = head }) ≡ seen_of c (if is_of_place c k p then Open p else Bad)
seen_open c k a head p t area same here is =
    let parts = place_of c k p here in
    subst (λ (b : Bool). seen.Open (record { chunk = a.chunk; page = a.first + k; head = head }) ≡ seen_of c (if b then Open p else Bad)) (sym here)
    (ap (λ (x : Area). make x.chunk (x.first + k) head) area ∙ ap (make (log_area c).chunk ((log_area c).first + k)) same ∙ ap (λ (n : ℕ). make (log_area c).chunk ((log_area c).first + n) (head_of p)) parts.1)
