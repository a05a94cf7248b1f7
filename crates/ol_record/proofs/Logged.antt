-- What the test of a log page answers.
use Rattle.std.proofs.Common.{◌≡◌, ℕ, List, length, Option, Some, None, ap, sym, ◌∙◌}
use Rattle.std.specs.Prelude.{IfSome}
use Rattle.ol_record.specs.declared.head.LogHead.{LogHead}
use Rattle.ol_values.specs.LogPages.{LogPage}
use Rattle.ol_record.specs.LogPages.{IsImage, IsLogPage, head_of, log_page_bytes, page_in}
use Rattle.ol_record.specs.PageReading.{page_at}
use Rattle.ol_bytes.specs.Reading.{Gives}
use Rattle.ol_record.proofs.Fields.{IsBytes}
use Rattle.ol_record.proofs.Whole.{page_again, page_takes}

abbrev same : LogHead → LogHead
same h = h

pub is_found : (bytes : List ℕ) (r : Option LogHead) → IsBytes bytes → length bytes ≡ 2048 → Gives same r (page_at bytes) → IfSome r (λ h. IsLogPage (page_in bytes) × IsImage bytes × (h ≡ head_of (page_in bytes)))
is_found bytes None fits long e = tt
is_found bytes (Some h) fits long e =
    let f = page_takes bytes h fits long e in
    (f.page, f.image, f.head)

pub is_only : (bytes : List ℕ) (r : Option LogHead) → Gives same r (page_at bytes) → (gate : ℕ) (p : LogPage) → IsLogPage p → bytes ≡ log_page_bytes gate p → r ≡ Some (head_of p)
is_only bytes None e gate p is image =
    let there : page_at bytes ≡ Some (head_of p) = ap page_at image ∙ page_again gate p is in
    absurd cc
is_only bytes (Some h) e gate p is image = sym e ∙ ap page_at image ∙ page_again gate p is
