-- Whether a block follows in the span of a header, on what is told.
use Rattle.std.specs.Prelude.{Bool, None, Option, Some, false, if◌then◌else◌, nat_le, nat_lt, not, option_map, true, ℕ, ◌&&◌, ◌+◌, ◌==◌, ◌||◌}
use Rattle.ol_values.specs.Blocks.{Saved, archive_object, log_object, page_kind, records_kind}
use Rattle.ol_values.specs.Config.{Config, has_page}
use Rattle.ol_rules.specs.Shelf.{saved_in}
use Rattle.ol_object_spans.specs.declared.block.BlockHead.{BlockHead}
use Rattle.ol_object_spans.specs.declared.block.Held.{Held}
use Rattle.ol_object_spans.specs.declared.block.Held.TheVariants.{Archive, Log}
use Rattle.ol_object_spans.specs.declared.block.ReadBlock.{ReadBlock}
use Rattle.ol_object_spans.specs.declared.header.Header.{Header}
use Rattle.ol_object_spans.specs.declared.header.Progress.{Progress}
use Rattle.ol_object_spans.specs.Told.{same_held, same_object, stamp_in}

-- a block has the fields and the payload of a header
abbrev pub ends_as : Header → ReadBlock → Bool
ends_as h b =
    same_object h.head b.head && ((h.head.a == b.head.a) && ((h.head.b == b.head.b) && ((h.head.c == b.head.c) && same_held h.held b.held)))

-- a log has come to its last position
abbrev pub has_come : BlockHead → Progress → Bool
has_come head p = not (head.object == log_object) || (p.position == head.b + 1)

-- a page comes behind the last one
abbrev pub is_behind : Option (ℕ × ℕ) → ℕ → ℕ → Bool
is_behind None space page = true
is_behind (Some last) space page = nat_lt last.0 space || ((last.0 == space) && nat_lt last.1 page)

-- a page of an archive that holds its space from this base on
abbrev pub page_fits : Header → Config → Progress → ReadBlock → Option ℕ → Bool
page_fits h config p b None = false
page_fits h config p b (Some base) =
    is_behind p.last b.head.a b.head.b
    && (has_page config b.head.a b.head.b && (nat_lt base b.head.c && (nat_le b.head.c h.head.a && stamp_in b.held b.head.c)))

-- the same, by what the header holds
abbrev pub page_of : Header → Held → Progress → ReadBlock → Bool
page_of h (Archive archive config) p b = page_fits h config p b (option_map (λ (s : Saved). s.base) (saved_in b.head.a archive.spaces))
page_of h _ p b = false

-- a page follows in an archive
abbrev pub page_follows : Header → Progress → ReadBlock → Bool
page_follows h p b = page_of h h.held p b

-- records that follow the last position and end within the log
abbrev pub records_of : Header → Progress → BlockHead → Held → Bool
records_of h p b (Log uniq first count) =
    (b.a == p.position) && ((uniq == h.head.number) && ((first == b.a) && ((count == b.b) && nat_le (b.a + b.b) (h.head.b + 1))))
records_of h p b _ = false

-- records follow in a log
abbrev pub records_follow : Header → Progress → ReadBlock → Bool
records_follow h p b = records_of h p b.head b.held

-- pages of an archive, and records of a log
abbrev pub inner_follows : Header → Progress → ReadBlock → Bool
inner_follows h p b =
    if h.head.object == archive_object then (b.head.kind == page_kind) && page_follows h p b
    else (b.head.kind == records_kind) && records_follow h p b

-- a block of this index belongs in the span of a header that has come so far
abbrev pub follows : Header → Progress → ℕ → ReadBlock → Bool
follows h p index b = same_object b.head h.head && ((b.head.index == index) && inner_follows h p b)

-- how far the span has come behind it
abbrev pub advanced : Progress → BlockHead → Progress
advanced p b =
    if b.kind == page_kind then record p { last = Some (b.a, b.b) }
    else if b.kind == records_kind then record p { position = b.a + b.b }
    else p
