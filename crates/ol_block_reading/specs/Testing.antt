-- Reading the fields of a head and of an archive head from their places, and testing them.
use Rattle.std.specs.List.{list_all}
use Rattle.std.specs.Prelude.{Bool, Err, List, Ok, Result, [], bytes_eq, codes, drop, false, length, nat_le, nat_lt, slice_index, suc, take, true, zero, ℕ, ◌&&◌, ◌*◌, ◌+◌, ◌==◌, ◌^◌, ◌||◌, ◌∷◌}
use Rattle.std.specs.Int.{from_be_bytes, w16, w32, w64}
use Rattle.ol_values.specs.Blocks.{ArchiveHead, Saved, archive_object, header_kind, log_object, mark_kind, mark_object, page_kind, records_kind, trailer_kind}
use Rattle.ol_values.specs.Config.{Config}
use Rattle.ol_chunks.specs.Reading.{config_in_text}
use Rattle.ol_object.specs.declared.block.Block.{Block}

-- nothing but zeros
abbrev pub are_zeros : List ℕ → Bool
are_zeros bytes = list_all (λ b. b == 0) bytes

-- ---- archive heads

-- how many spaces a configuration has that was read, 0 where there is none
abbrev pub spaces_of : Result Config ℕ → ℕ
spaces_of (Ok c) = length c.spaces
spaces_of (Err line) = 0

-- a space of 17 bytes
abbrev pub saved_in : List ℕ → Saved
saved_in bytes = record {
  space = slice_index bytes 0;
  parent = from_be_bytes w64 (take 8 (drop 1 bytes));
  base = from_be_bytes w64 (take 8 (drop 9 bytes));
}

-- so many spaces, one after the other
unfoldable pub saved_list_in : ℕ → List ℕ → List Saved
saved_list_in zero bytes = []
saved_list_in (suc n) bytes = saved_in (take 17 bytes) ∷ saved_list_in n (drop 17 bytes)

-- whether the numbers of so many spaces ascend from this one, and stay below a limit
unfoldable pub are_saved : ℕ → ℕ → ℕ → List ℕ → Bool
are_saved zero limit least bytes = true
are_saved (suc n) limit least bytes =
    (nat_le least (slice_index bytes 0) && nat_lt (slice_index bytes 0) limit) && are_saved n limit (slice_index bytes 0 + 1) (drop 17 bytes)

-- the text's length and the text behind the spaces, which are some of those of its configuration
unfoldable pub is_head_behind : ℕ → List ℕ → List ℕ → Bool
is_head_behind n spaces rest =
    (from_be_bytes w16 (take 2 rest) == length (drop 2 rest)) && are_saved n (spaces_of (config_in_text (drop 2 rest))) 0 spaces

-- so many spaces and a text
unfoldable pub is_head_of : ℕ → List ℕ → Bool
is_head_of n bytes =
    (nat_le 1 n && nat_le n 16) && (nat_le (17 * n + 2) (length bytes) && is_head_behind n (take (17 * n) bytes) (drop (17 * n) bytes))

-- whether bytes are an archive head
abbrev pub is_archive_head : List ℕ → Bool
is_archive_head [] = false
is_archive_head (n ∷ rest) = is_head_of n rest

-- so many spaces, and the text behind its length
abbrev pub archive_head_at : ℕ → List ℕ → ArchiveHead
archive_head_at n bytes = record { spaces = saved_list_in n (take (17 * n) bytes); text = drop 2 (drop (17 * n) bytes) }

-- the archive head that bytes are
abbrev pub archive_head_in : List ℕ → ArchiveHead
archive_head_in [] = record { spaces = []; text = [] }
archive_head_in (n ∷ rest) = archive_head_at n rest

-- ---- blocks

-- the fields of a head
abbrev pub head_in : List ℕ → Block
head_in fields = record {
  kind = slice_index fields 4;
  object = slice_index fields 5;
  incarnation = from_be_bytes w64 (take 8 (drop 8 fields));
  number = from_be_bytes w64 (take 8 (drop 16 fields));
  index = from_be_bytes w32 (take 4 (drop 24 fields));
  used = from_be_bytes w32 (take 4 (drop 28 fields));
  a = from_be_bytes w64 (take 8 (drop 32 fields));
  b = from_be_bytes w64 (take 8 (drop 40 fields));
  c = from_be_bytes w64 (take 8 (drop 48 fields));
}

-- the mark of the format, and zeros where there is no field
unfoldable pub has_marks : List ℕ → Bool
has_marks fields = bytes_eq (take 4 fields) (codes "OLB1") && (are_zeros (take 2 (drop 6 fields)) && are_zeros (drop 56 fields))

-- the kinds that `IsEnd` to `IsMark` speak of, as tests
abbrev pub is_end : Block → Bool
is_end h = (h.kind == header_kind) || (h.kind == trailer_kind)

abbrev pub is_archive_end : Block → List ℕ → Bool
is_archive_end h used =
    (h.object == archive_object) && (is_end h && (nat_lt h.a (2 ^ 62) && (nat_le h.c 2 && is_archive_head used)))

abbrev pub is_archive_page : Block → Bool
is_archive_page h = (h.object == archive_object) && ((h.kind == page_kind) && (h.used == 2048))

abbrev pub is_log_end : Block → Bool
is_log_end h =
    (h.object == log_object)
    && (is_end h && (nat_lt h.a (2 ^ 62) && (nat_lt h.b (2 ^ 62) && ((h.c == 0) && (h.used == 0)))))

abbrev pub is_log_records : Block → Bool
is_log_records h = (h.object == log_object) && ((h.kind == records_kind) && ((h.c == 0) && (h.used == 2048)))

abbrev pub is_mark : Block → Bool
is_mark h =
    (h.object == mark_object)
    && ((h.kind == mark_kind) && (nat_lt h.a (2 ^ 62) && ((h.b == 0) && ((h.c == 0) && (h.used == 0)))))

-- one of the five kinds
unfoldable pub has_kind : Block → List ℕ → Bool
has_kind h used = is_archive_end h used || (is_archive_page h || (is_log_end h || (is_log_records h || is_mark h)))

-- limits, zeros behind the used bytes, and one of the kinds
unfoldable pub keeps_rules : Block → List ℕ → Bool
keeps_rules h payload =
    (nat_le h.used 2048 && (nat_le h.incarnation (2 ^ 62) && nat_le h.number (2 ^ 62)))
    && (are_zeros (drop h.used payload) && has_kind h (take h.used payload))
