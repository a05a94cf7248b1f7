-- A disk that was cleared, and that holds the first anchor, is formatted.
use Rattle.std.specs.Prelude.{Bool, None, Option, Some, Result, false, nat_lt, true, Err, IsErrOf, length, suc, zero, ℕ, ◌*◌, ◌+◌, ◌<◌, ◌≡◌, ◌≤◌, ◌⊎◌}
use Rattle.std.proofs.Common.{ap, arith, inl, inr, refl, subst, sym, ◌∙◌}
use Rattle.std.proofs.lemmas.Bool.{and_parts, cases_lt}
use Rattle.std.proofs.lemmas.Bool.Decides.{nat_tests}
use Rattle.std.proofs.lemmas.List.{get_or_past}
use Rattle.std.proofs.lemmas.List.Sums.{sum_by_more_le}
use Rattle.ol_chunks.specs.Limits.{IsConfig, chunk_count}
use Rattle.ol_chunks.specs.Places.{chunk_pages, first_chunk_number, in_spaces, log_area, physical_area, place_in_chunks}
use Rattle.ol_chunks.proofs.Chunks.{IsPlace, first_pages, has_chunk, logs_inside, physical_inside, place_inside, place_is}
use Rattle.ol_chunks.proofs.PlaceLaws.{logs_past_reserved, past_reserved, physical_past_reserved}
use Rattle.ol_values.specs.Config.{Config, SpaceConfig, area_pages, space_at, unnamed}
use Rattle.ol_ports.specs.Causes.{HasChunkCause, HasFailed}
use Rattle.ol_ports.specs.Disk.{Bytes, Past, Rest, seen}
use Rattle.ol_ports.specs.Frames.{FramedIn, IsSettledIn, in_pages}
use Rattle.ol_ports.specs.Stops.{Stops}
use Rattle.ol_ports.proofs.DiskLaws.{rest-seen}
use Rattle.ol_ports.proofs.StopLaws.{stops_weaker, stops_with}
use Rattle.ol_reserve.specs.Anchor.{IsAnchor}
use Rattle.ol_reserve.specs.Pair.{IsAbove, IsOneOf, IsReady, IsReadyAt, Newest, is_pair}
use Rattle.ol_reserve.specs.declared.anchor.Anchor.{Anchor}
use Rattle.ol_reserve.proofs.PairLaws.{newest_seen}
use Rattle.ol_format.specs.Causes.{HasFormatCause}
use Rattle.ol_format.specs.First.{AreLarge, IsFirstOf, chunks_of, first_anchor}
use Rattle.ol_format.specs.Formatted.{AreZeroed, IsBlankOrFormatted, IsFormatted, IsZero, first_page, in_first}
use Rattle.ol_format.specs.declared.FormatFault.{FormatFault}
use Rattle.ol_format.specs.declared.FormatFault.TheVariants.{DiskFault}
use Rattle.ol_format.proofs.FirstAnchor.{is_first}

-- ---- the chunks of spaces

some_space : (c : Config) → IsConfig c → 0 < length c.spaces
some_space c is = omega (arith, is.log_space)

-- a chunk of a space is one of those of all spaces
chunk_among : (c : Config) (space at : ℕ) → space < length c.spaces → at < length (space_at c space).chunks → first_chunk_number c space + at < chunk_count c.spaces
chunk_among c space at there among = omega (arith, among, sum_by_more_le (λ (s : SpaceConfig). length s.chunks) c.spaces space unnamed there)

first_among : (c : Config) → IsConfig c → (space : ℕ) → space < length c.spaces → first_chunk_number c space < chunk_count c.spaces
first_among c is space there = omega (arith, chunk_among c space 0 there (has_chunk c is space there))

pub some_chunk : (c : Config) → IsConfig c → 0 < chunk_count c.spaces
some_chunk c is = omega (arith, first_among c is 0 (some_space c is))

-- the first chunk has pages behind those that are reserved
pub root_pages : (c : Config) → IsConfig c → 12 < chunk_pages c 0
root_pages c is = omega (arith, is.room 0 (some_space c is), first_pages c is 0 (some_space c is))

pub root_size : (sizes : ℕ → ℕ) (c : Config) → IsConfig c → AreLarge sizes c (chunks_of c) → 2 ≤ sizes 0
root_size sizes c is large = omega (arith, root_pages c is, large 0 (omega (arith, some_chunk c is)))

-- ---- what is zero once the first anchor is written

behind_pair : (chunk page : ℕ) → (chunk ≡ 0 → 2 ≤ page) → (first_page chunk ≤ page) × (is_pair chunk page ≡ false)
behind_pair zero page past = let le = past refl in (le, grind (arith, nat_tests))
behind_pair (suc chunk) page past = (omega arith, grind (arith, nat_tests))

zero_there : (old : Past) (c : Config) → AreZeroed old c (chunk_count c.spaces) → (d : Bytes) → FramedIn old is_pair d
    → (chunk page : ℕ) → chunk < chunk_count c.spaces → (chunk ≡ 0 → 2 ≤ page) → page < chunk_pages c chunk → IsZero d chunk page
zero_there old c zeroed d f chunk page among past lt i inside =
    let behind = behind_pair chunk page past in
    let le : first_page chunk ≤ page = behind.0 in
    let cleared : in_pages chunk (first_page chunk) (chunk_pages c chunk) chunk page ≡ true = grind (arith, nat_tests) in
    f.same chunk page i behind.1 ∙ zeroed.chunks chunk among f.origin f.rest chunk page i cleared inside

-- where a data page lies
placed : (c : Config) → IsConfig c → (space page : ℕ) (p : ℕ × ℕ) → place_in_chunks c space page ≡ Some p → (p.0 < chunk_count c.spaces) × (p.1 < chunk_pages c p.0)
placed c is space page p e = go (cases_lt space (length c.spaces))
  where
    at : IsPlace (first_chunk_number c space) (space_at c space).chunks (area_pages c space + page) p
    at = place_is (first_chunk_number c space) (space_at c space).chunks (area_pages c space + page) p e

    go : (space < length c.spaces) ⊎ (length c.spaces ≤ space) → (p.0 < chunk_count c.spaces) × (p.1 < chunk_pages c p.0)
    go (inl there) = (
      omega (arith, at.number, chunk_among c space at.at there at.there),
      place_inside c space (first_chunk_number c space) (area_pages c space + page) (space_at c space).chunks p there refl refl e,
    )
    go (inr ge) = absurd (omega (arith, at.there, ap (λ (s : SpaceConfig). length s.chunks) (get_or_past c.spaces space unnamed ge)))

-- where only the pair differs from a cleared disk, and holds the first anchor
formatted_image : (old : Past) (c : Config) → IsConfig c → AreZeroed old c (chunk_count c.spaces) → (d : Bytes) → FramedIn old is_pair d → Newest d (Some (first_anchor c)) → IsFormatted d c
formatted_image old c is zeroed d f newest = record {
  anchor = newest;
  reserved = λ page le lt. zero_reserved page le lt;
  logs = λ k lt opened.
      let area = log_area c in
      let e : d area.chunk (area.first + k) 0 ≡ 0 =
      zero_at area.chunk (area.first + k) (first_among c is c.log_space is.log_space)
      (λ at. logs_past_reserved c is area.chunk (area.first + k) (refl, omega arith, omega (arith, lt)) at)
      (omega (arith, lt, logs_inside c is)) 0 (omega arith) in
      omega (arith, e, opened);
  physical = λ k lt opened.
      let area = physical_area c in
      let e : d area.chunk (area.first + 2 * k) 0 ≡ 0 =
      zero_at area.chunk (area.first + 2 * k) (first_among c is c.physical_space is.physical_space)
      (λ at. physical_past_reserved c is area.chunk (area.first + 2 * k) (refl, omega arith, omega (arith, lt)) at)
      (omega (arith, lt, physical_inside c is)) 0 (omega arith) in
      omega (arith, e, opened);
  rows = λ space page place e.
      let p = placed c is space page place e in
      zero_at place.0 place.1 p.0 (λ at. past_reserved c is space page place e at) p.1;
}
  where
    -- pages 2 to 11 are zero as well
    zero_reserved : (page : ℕ) → 2 ≤ page → page < 12 → IsZero d 0 page
    zero_reserved page le lt = zero_there old c zeroed d f 0 page (some_chunk c is) (λ at. le) (omega (arith, lt, root_pages c is))

    zero_at : (chunk page : ℕ) → chunk < chunk_count c.spaces → (chunk ≡ 0 → 12 ≤ page) → page < chunk_pages c chunk → IsZero d chunk page
    zero_at chunk page among past lt = zero_there old c zeroed d f chunk page among (λ at. omega (arith, past at)) lt

pub formatted_from : (old new : Past) (c : Config) → IsConfig c → AreZeroed old c (chunk_count c.spaces) → IsReadyAt new 0 (first_anchor c) → ((d : Bytes) → Rest new d → FramedIn old is_pair d)
    → (d : Bytes) → Rest new d → IsFormatted d c
formatted_from old new c is zeroed ready frame d rest =
    formatted_image old c is zeroed d (frame d rest) (newest_seen new (Some (first_anchor c)) d (record { settled = ready.settled; newest = (0, ready.newest) }) rest)

-- a cleared disk has an empty pair
pub blank_ready : (past : Past) (c : Config) → IsConfig c → AreZeroed past c (chunk_count c.spaces) → IsReady past None
blank_ready past c is zeroed = record {
  settled = λ d rest k p i pair.
      let among : in_first (chunk_count c.spaces) k p ≡ true = among_first k p pair in zeroed.settled d rest k p i among;
  newest = (zeroed.blank (seen past) (rest-seen past) 0 (omega arith), zeroed.blank (seen past) (rest-seen past) 1 (omega arith));
}
  where
    among_first : (k p : ℕ) → is_pair k p ≡ true → in_first (chunk_count c.spaces) k p ≡ true
    among_first k p pair =
        let some = some_chunk c is in
        let first : k ≡ 0 = grind (arith, nat_tests) in
        grind (arith, nat_tests)

pub ready_from : (old new : Past) (c : Config) (a : Anchor) → IsFirstOf c a → AreZeroed old c (chunk_count c.spaces) → (IsReady old None → IsAnchor a → IsReadyAt new 0 a) → IsReadyAt new 0 (first_anchor c)
ready_from old new c a first zeroed wrote =
    let is : IsAnchor a = subst (λ (b : Anchor). IsAnchor b) (sym first.1) (is_first c first.0) in
    subst (λ (b : Anchor). IsReadyAt new 0 b) first.1 (wrote (blank_ready old c first.0 zeroed) is)

-- all pages of the configuration are settled, those of the pair by its write
pub settled_from : (old new : Past) (c : Config) → AreZeroed old c (chunk_count c.spaces) → IsSettledIn new is_pair → ((d : Bytes) → Rest new d → FramedIn old is_pair d) → IsSettledIn new (in_spaces c)
settled_from old new c zeroed pair frame d rest k p i is = by (is_pair k p) refl
  where
    by : (b : Bool) → is_pair k p ≡ b → d k p i ≡ seen new k p i
    by true is_in = pair d rest k p i is_in
    by false is_out =
        let f = frame d rest in
        let g = frame (seen new) (rest-seen new) in
        let first = (and_parts (nat_lt k (chunk_count c.spaces)) (nat_lt p (chunk_pages c k)) is).0 in
        f.same k p i is_out ∙ zeroed.settled f.origin f.rest k p i first ∙ sym (zeroed.settled g.origin g.rest k p i first) ∙ sym (g.same k p i is_out)

pub stops_first : (old new : Past) (c : Config) (a : Anchor) → IsFirstOf c a → AreZeroed old c (chunk_count c.spaces)
    → ((now : Option Anchor) → IsReady old now → IsAnchor a → IsAbove now a.serial → Stops old new (IsOneOf now (Some a))) → Stops old new (IsOneOf None (Some (first_anchor c)))
stops_first old new c a first zeroed stops =
    let is : IsAnchor a = subst (λ (b : Anchor). IsAnchor b) (sym first.1) (is_first c first.0) in
    subst (λ (b : Anchor). Stops old new (IsOneOf None (Some b))) first.1 (stops None (blank_ready old c first.0 zeroed) is tt)

-- a stop within the write of the first anchor leaves none, or a formatted disk
pub stops_formatted : (old new : Past) (c : Config) → IsConfig c → AreZeroed old c (chunk_count c.spaces) → Stops old new (IsOneOf None (Some (first_anchor c))) → Stops old new (FramedIn old is_pair) → Stops old new (IsBlankOrFormatted c)
stops_formatted old new c is zeroed one frame =
    stops_weaker old new (λ d. IsOneOf None (Some (first_anchor c)) d × FramedIn old is_pair d) (IsBlankOrFormatted c) (λ d both. image d both.0 both.1)
    (stops_with old new (IsOneOf None (Some (first_anchor c))) (FramedIn old is_pair) one frame)
  where
    image : (d : Bytes) → IsOneOf None (Some (first_anchor c)) d → FramedIn old is_pair d → IsBlankOrFormatted c d
    image d (inl none) f = inl none
    image d (inr first) f = inr (formatted_image old c is zeroed d f first)

-- ---- causes

abbrev failed : ℕ → Result (Unit {0}) FormatFault
failed chunk = Err (DiskFault chunk)

pub failed_from : {E : Type 0} (before now : ℕ → ℕ) (chunk : ℕ) (e : E) → HasChunkCause {T = Unit {0}} {E = E} chunk before now (Err e) → HasFormatCause before now (Err (DiskFault chunk))
failed_from before now chunk e cause = record {
  later = cause.later;
  fault = λ k is. subst (λ (n : ℕ). HasFailed n before now) (fault_is k is) (record { later = cause.later chunk; rose = cause.failed; others = cause.others });
  kept = λ other. absurd (other chunk refl);
}
  where
    fault_is : (k : ℕ) → IsErrOf (failed chunk) (DiskFault k) → chunk ≡ k
    fault_is k is = cc
