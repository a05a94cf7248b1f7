-- What an anchor keeps of an archive that ended.
use Rattle.std.specs.List.{range_with_len}
use Rattle.std.specs.Prelude.{List, None, Option, Some, if◌then◌else◌, map, slice_index_or, suc, zero, ℕ, ◌≤◌, ◌^◌}
use Rattle.ol_cursor.specs.declared.cursor.Cursor.{Cursor}
use Rattle.ol_cursor.specs.Order.{archives}
use Rattle.ol_reserve.specs.declared.anchor.Anchor.{Anchor}
use Rattle.ol_running.specs.declared.running.Running.{Running}
use Rattle.ol_running.specs.Running.{running_of}
use Rattle.ol_storage.specs.declared.lasting.Lasting.{Lasting}
use Rattle.ol_storage.specs.Installation.{Installation, with_lasting}

-- the number and the cut of an archive
abbrev pub kept_of : Cursor → ℕ × ℕ
kept_of c = (c.number, c.cut)

-- the known archive of a space, which becomes this one where the space is one of the archive's
abbrev pub known_in : Cursor → ℕ × ℕ → List (ℕ × ℕ) → ℕ → ℕ × ℕ
known_in c kept known space = if archives c space then kept else slice_index_or known space (0, 0)

-- the known archives of the spaces, where those of an archive's spaces become this one
unfoldable pub known_with : Cursor → ℕ × ℕ → List (ℕ × ℕ) → List (ℕ × ℕ)
known_with c kept known = map (known_in c kept known) (range_with_len 0 16)

-- the lasting state of an anchor, with other known archives of level 0 and of level 1
abbrev pub lasting_with : Anchor → List (ℕ × ℕ) → List (ℕ × ℕ) → Lasting
lasting_with a zeros ones = record { next_archive = a.next_archive; states = a.states; down_at = a.down_at; zero = zeros; one = ones }

-- behind the end of an archive of level 0, which clears level 1, and of one of level 1
abbrev pub lasting_ended : Anchor → Cursor → ℕ → Lasting
lasting_ended a c zero = lasting_with a (known_with c (kept_of c) a.zero) (known_with c (0, 0) a.one)
lasting_ended a c (suc level) = lasting_with a a.zero (known_with c (kept_of c) a.one)

-- the storage with its anchor; one of level 2 sets nothing
abbrev pub known_at : Installation → Cursor → ℕ → Installation
known_at v c zero = with_lasting v (lasting_ended v.anchor c 0)
known_at v c (suc zero) = with_lasting v (lasting_ended v.anchor c 1)
known_at v c (suc (suc level)) = v

-- the anchor that the end of an archiver's archive writes, or the one that stands where there is none
abbrev pub anchor_ended : Installation → Option Running → Anchor
anchor_ended v None = v.anchor
anchor_ended v (Some r) = (known_at v r.cursor r.cursor.level).anchor

-- an archive's number and cut fit an anchor
abbrev pub IsNumbered : Option Running → Type 0
IsNumbered None = Unit {0}
IsNumbered (Some r) = (r.cursor.number ≤ 2 ^ 62) × (r.cursor.cut ≤ 2 ^ 62)

-- so do those of all running archives
abbrev pub AreNumbered : List (Option Running) → Type 0
AreNumbered l = (k : ℕ) → IsNumbered (running_of l k)
