-- The bytes of a log page stand for it alone.
use Rattle.std.proofs.Common.{◌≡◌, ℕ, List, ◌++◌, length, refl, arith}
use Rattle.std.specs.Prelude.{slice_index, slice_range, drop}
use Rattle.std.specs.Int.{w16, w32, w64, from_be_bytes}
use Rattle.ol_values.specs.declared.record.Record.{Record}
use Rattle.ol_values.specs.LogPages.{LogPage}
use Rattle.ol_record.specs.LogPages.{IsFilling, IsLogPage, fixed_bytes, log_page_bytes, padding, page_in, tally_bytes}
use Rattle.ol_values.specs.Spelling.{records_bytes}
use Rattle.ol_record.specs.Reading.{records_in}
use Rattle.ol_record.proofs.Fields.{wide16, wide32, wide64}
use Rattle.ol_record.proofs.Several.{few_in, records_again}

pub filling_from : (p : LogPage) → IsLogPage p → IsFilling p
filling_from p is = record {
  records = is.records;
  room = is.room;
  index = is.index;
  uniq = omega (arith, is.uniq.1);
  incarnation = omega (arith, is.incarnation.1);
  first = omega (arith, is.last);
}

pub gate_back : (gate : ℕ) (p : LogPage) → slice_index (log_page_bytes gate p) 0 ≡ gate
unfolding log_page_bytes fixed_bytes tally_bytes
gate_back gate p = refl

index_back : (gate : ℕ) (p : LogPage) → IsFilling p → from_be_bytes w32 (slice_range (log_page_bytes gate p) 4 8) ≡ p.index
unfolding log_page_bytes fixed_bytes tally_bytes
index_back gate p is = wide32.again p.index is.index

uniq_back : (gate : ℕ) (p : LogPage) → IsFilling p → from_be_bytes w64 (slice_range (log_page_bytes gate p) 8 16) ≡ p.uniq
unfolding log_page_bytes fixed_bytes tally_bytes
uniq_back gate p is = wide64.again p.uniq is.uniq

incarnation_back : (gate : ℕ) (p : LogPage) → IsFilling p → from_be_bytes w64 (slice_range (log_page_bytes gate p) 16 24) ≡ p.incarnation
unfolding log_page_bytes fixed_bytes tally_bytes
incarnation_back gate p is = wide64.again p.incarnation is.incarnation

first_back : (gate : ℕ) (p : LogPage) → IsFilling p → from_be_bytes w64 (slice_range (log_page_bytes gate p) 24 32) ≡ p.first
unfolding log_page_bytes fixed_bytes tally_bytes
first_back gate p is = wide64.again p.first is.first

pub count_back : (gate : ℕ) (p : LogPage) → IsFilling p → from_be_bytes w16 (slice_range (log_page_bytes gate p) 32 34) ≡ length p.records
unfolding log_page_bytes fixed_bytes tally_bytes
count_back gate p is = wide16.again (length p.records) (omega (arith, few_in p.records, is.room))

pub used_back : (gate : ℕ) (p : LogPage) → IsFilling p → from_be_bytes w16 (slice_range (log_page_bytes gate p) 34 36) ≡ length (records_bytes p.records)
unfolding log_page_bytes fixed_bytes tally_bytes
used_back gate p is = wide16.again (length (records_bytes p.records)) (omega (arith, is.room))

pub records_behind_front : (gate : ℕ) (p : LogPage) → drop 36 (log_page_bytes gate p) ≡ records_bytes p.records ++ padding (length (records_bytes p.records))
unfolding log_page_bytes fixed_bytes tally_bytes
records_behind_front gate p = refl

records_back : (gate : ℕ) (p : LogPage) → IsFilling p → records_in (from_be_bytes w16 (slice_range (log_page_bytes gate p) 32 34)) (drop 36 (log_page_bytes gate p)) ≡ p.records
records_back gate p is = rw (count_back gate p is, records_behind_front gate p) (records_again p.records (padding (length (records_bytes p.records))) is.records)

abbrev page_of : ℕ → ℕ → ℕ → ℕ → List Record → LogPage
page_of index uniq incarnation first records = record { index = index; uniq = uniq; incarnation = incarnation; first = first; records = records }

pub page_in_back : (gate : ℕ) (p : LogPage) → IsFilling p → page_in (log_page_bytes gate p) ≡ p
unfolding page_in
page_in_back gate p is = rw (index_back gate p is, uniq_back gate p is, incarnation_back gate p is, first_back gate p is, records_back gate p is) refl
