-- A log page as a value, and its 2,048 bytes. Numbers are big-endian.
use Rattle.std.specs.Prelude.{Bool, List, [], codes, drop, false, length, replicate, slice_index, slice_range, true, ℕ, ◌++◌, ◌+◌, ◌-◌, ◌<◌, ◌^◌, ◌∷◌, ◌≡◌, ◌≤◌}
use Rattle.std.specs.List.{AllByRecursion}
use Rattle.std.specs.Int.{w16, w32, w64, from_be_bytes, to_be_bytes}
use Rattle.ol_values.specs.declared.record.Record.{Record}
use Rattle.ol_values.specs.declared.record.Record.TheVariants.{Begin, Change, Commit, Rolled, Undo}
use Rattle.ol_values.specs.LogPages.{LogPage}
use Rattle.ol_record.specs.declared.head.LogHead.{LogHead}
use Rattle.ol_record.specs.Reading.{records_in}
use Rattle.ol_values.specs.Spelling.{IsRecord, records_bytes}

-- the 32 bytes that stay as records come: the gate, a mark of the format, and the numbers of the page
unfoldable pub fixed_bytes : ℕ → LogPage → List ℕ
fixed_bytes gate p =
    (gate ∷ codes "LOG")
    ++ to_be_bytes w32 p.index
    ++ to_be_bytes w64 p.uniq
    ++ to_be_bytes w64 p.incarnation
    ++ to_be_bytes w64 p.first

-- how many records there are, and how many bytes they have
unfoldable pub tally_bytes : List Record → List ℕ
tally_bytes records = to_be_bytes w16 (length records) ++ to_be_bytes w16 (length (records_bytes records))

-- zeros up to the end of a page, behind so many bytes of records
unfoldable pub padding : ℕ → List ℕ
padding used = replicate (2012 - used) 0

-- a page with this gate byte: 36 bytes, the records, and zeros
unfoldable pub log_page_bytes : ℕ → LogPage → List ℕ
log_page_bytes gate p =
    fixed_bytes gate p ++ tally_bytes p.records ++ records_bytes p.records ++ padding (length (records_bytes p.records))

-- a page that may stand on disk: its last position is below 2^62
pub record IsLogPage (p : LogPage) : Type 0 where
  pub records : AllByRecursion IsRecord p.records
  pub some : 1 ≤ length p.records
  pub room : length (records_bytes p.records) ≤ 2012
  pub index : p.index < 2 ^ 32
  pub uniq : (1 ≤ p.uniq) × (p.uniq ≤ 2 ^ 62)
  pub incarnation : (1 ≤ p.incarnation) × (p.incarnation ≤ 2 ^ 62)
  pub first : 1 ≤ p.first
  pub last : p.first + length p.records ≤ 2 ^ 62

-- a page that is being filled, perhaps with no record yet; its numbers are any that their fields hold
pub record IsFilling (p : LogPage) : Type 0 where
  pub records : AllByRecursion IsRecord p.records
  pub room : length (records_bytes p.records) ≤ 2012
  pub index : p.index < 2 ^ 32
  pub uniq : p.uniq < 2 ^ 64
  pub incarnation : p.incarnation < 2 ^ 64
  pub first : p.first < 2 ^ 64

-- the page that bytes stand for, where they stand for one
unfoldable pub page_in : List ℕ → LogPage
page_in bytes = record {
  index = from_be_bytes w32 (slice_range bytes 4 8);
  uniq = from_be_bytes w64 (slice_range bytes 8 16);
  incarnation = from_be_bytes w64 (slice_range bytes 16 24);
  first = from_be_bytes w64 (slice_range bytes 24 32);
  records = records_in (from_be_bytes w16 (slice_range bytes 32 34)) (drop 36 bytes);
}

-- the bytes are those of the page that they stand for, whatever the gate byte is
abbrev pub IsImage : List ℕ → Type 0
IsImage bytes = bytes ≡ log_page_bytes (slice_index bytes 0) (page_in bytes)

-- the bytes are a page that is being filled
pub record IsBuffer (bytes : List ℕ) : Type 0 where
  pub image : IsImage bytes
  pub filling : IsFilling (page_in bytes)

-- the page with one record more
abbrev pub with_record : LogPage → Record → LogPage
with_record p r = record {
  index = p.index;
  uniq = p.uniq;
  incarnation = p.incarnation;
  first = p.first;
  records = p.records ++ r ∷ [];
}

-- what the front of a page tells
abbrev pub head_of : LogPage → LogHead
head_of p = record {
  index = p.index;
  uniq = p.uniq;
  incarnation = p.incarnation;
  first = p.first;
  count = length p.records;
  used = length (records_bytes p.records);
}

-- a page that holds no record yet
abbrev pub blank_page : ℕ → ℕ → ℕ → ℕ → LogPage
blank_page index uniq incarnation first = record {
  index = index;
  uniq = uniq;
  incarnation = incarnation;
  first = first;
  records = [];
}

-- whether a record says what a slot of a page holds
abbrev pub touches_page : Record → Bool
touches_page (Begin txn) = false
touches_page (Change txn rid before after) = true
touches_page (Undo txn rid value) = true
touches_page (Commit txn) = false
touches_page (Rolled txn) = false
