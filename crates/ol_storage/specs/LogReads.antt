-- What a log page that is read has of the records.
use Rattle.std.specs.Prelude.{List, length, ℕ, ◌≡◌}
use Rattle.ol_values.specs.LogPages.{LogPage}
use Rattle.ol_record.specs.LogPages.{head_of, log_page_bytes}
use Rattle.ol_record.specs.declared.head.LogHead.{LogHead}
use Rattle.ol_log_places.specs.Runs.{journal_at}
use Rattle.ol_storage.specs.Behind.{Behind, record_at}

-- the bytes are a log page of this head with its gate open, and have the records at its positions
pub record HoldsRecords (g : Behind) (h : LogHead) (bytes : List ℕ) : Type 0 where
  pub page : LogPage
  pub head : head_of page ≡ h
  pub spelled : bytes ≡ log_page_bytes 1 page
  pub records : page.records ≡ journal_at (record_at g) page.first (length page.records)
