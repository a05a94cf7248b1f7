-- The blocks of archives, of log objects and marks may be written.
use Rattle.std.proofs.Common.{◌≡◌, ℕ, ◌<◌, ◌≤◌, ◌^◌, ◌⊎◌, Ok, arith, inl, inr, refl}
use Rattle.ol_values.specs.Blocks.{ArchiveHead, SavedPage, archive_end, archive_page, header_kind, log_end, log_records, mark, trailer_kind}
use Rattle.ol_values.specs.Config.{Config}
use Rattle.ol_values.specs.Image.{IsDataPage}
use Rattle.ol_values.specs.LogPages.{LogPage}
use Rattle.ol_chunks.specs.Reading.{config_in_text}
use Rattle.ol_record.specs.LogPages.{IsLogPage}
use Rattle.ol_block_reading.specs.Grammar.{IsArchiveHead}
use Rattle.ol_block_values.specs.Items.{IsWritten}

pub archive_end_written : (kind incarnation number index cut low level : ℕ) (head : ArchiveHead) (config : Config) → (kind ≡ header_kind) ⊎ (kind ≡ trailer_kind)
    → incarnation ≤ 2 ^ 62 → number ≤ 2 ^ 62 → index < 2 ^ 32 → cut < 2 ^ 62 → low < 2 ^ 64 → level ≤ 2 → IsArchiveHead head → config_in_text head.text ≡ Ok config
    → IsWritten (archive_end kind incarnation number index cut low level head config)
archive_end_written kind incarnation number index cut low level head config end_ i n x c l v is text = record {
  numbers = record { incarnation = i; number = n; index = x; first = omega (arith, c); second = l; third = omega (arith, v) };
  holds = record { object = refl; kind = end_; cut = c; level = v; archive = is; text = text };
}

pub archive_page_written : (incarnation number index : ℕ) (p : SavedPage) → incarnation ≤ 2 ^ 62 → number ≤ 2 ^ 62 → index < 2 ^ 32 → p.space < 2 ^ 64 → p.page < 2 ^ 64 → IsDataPage p.image
    → IsWritten (archive_page incarnation number index p)
archive_page_written incarnation number index p i n x s k is = record {
  numbers = record { incarnation = i; number = n; index = x; first = s; second = k; third = is.page.stamp };
  holds = ((refl, refl), is);
}

pub log_end_written : (kind incarnation uniq index first last : ℕ) → (kind ≡ header_kind) ⊎ (kind ≡ trailer_kind) → incarnation ≤ 2 ^ 62 → uniq ≤ 2 ^ 62 → index < 2 ^ 32 → first < 2 ^ 62 → last < 2 ^ 62
    → IsWritten (log_end kind incarnation uniq index first last)
log_end_written kind incarnation uniq index first last end_ i n x f l = record {
  numbers = record { incarnation = i; number = n; index = x; first = omega (arith, f); second = omega (arith, l); third = omega arith };
  holds = inl (record { object = refl; kind = end_; first = f; last = l; no_more = refl; used = refl });
}

pub log_records_written : (index : ℕ) (p : LogPage) → index < 2 ^ 32 → IsLogPage p → IsWritten (log_records index p)
log_records_written index p x is = record {
  numbers = record { incarnation = is.incarnation.1; number = is.uniq.1; index = x; first = omega (arith, is.last); second = omega (arith, is.last); third = omega arith };
  holds = ((refl, refl, refl), is);
}

pub mark_written : (incarnation end_ : ℕ) → incarnation ≤ 2 ^ 62 → end_ < 2 ^ 62 → IsWritten (mark incarnation end_)
mark_written incarnation end_ i e = record {
  numbers = record { incarnation = i; number = i; index = omega arith; first = omega (arith, e); second = omega arith; third = omega arith };
  holds = inr (record { object = refl; kind = refl; end_ = e; no_second = refl; no_third = refl; used = refl });
}
