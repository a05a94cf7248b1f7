-- The turns of archivers over the storage and the running archives: what both show.
use Rattle.std.specs.Prelude.{Bool, List, None, Option, Some, false, true, ℕ, ◌≡◌, ◌≤◌}
use Rattle.ol_values.specs.declared.event.Reply.{Reply}
use Rattle.ol_values.specs.declared.event.Reply.TheVariants.{PageIs}
use Rattle.ol_values.specs.declared.event.Why.{Why}
use Rattle.ol_model.specs.ArchiveTurns.{cancel_at, end_at, take_at}
use Rattle.ol_model.specs.Machine.{Archive, Machine, archive_of}
use Rattle.ol_cursor.specs.Order.{archives}
use Rattle.ol_reserve.specs.declared.anchor.Anchor.{Anchor}
use Rattle.ol_running.specs.declared.running.Running.{Running}
use Rattle.ol_running.specs.Running.{ShowsArchives, image_at, running_of}
use Rattle.ol_storage.specs.Behind.{is_up}
use Rattle.ol_storage.specs.Installation.{Installation}
use Rattle.ol_txn.specs.Seats.{Seat}
use Rattle.ol_engine.specs.Parts.{Registers, Shows}

-- archivers are numbered from 1 to 4
abbrev pub IsArchiver : ℕ → Type 0
IsArchiver k = (1 ≤ k) × (k ≤ 4)

-- ---- what is shown

-- the parts, and the running archives beside the captured images, show the machine
abbrev pub Tells : ℕ → Installation → List Seat → Registers → List (Option Running) → Machine → Type 0
Tells opened v seats registers l m = Shows opened v seats registers m × ShowsArchives l v.store.before m

-- whether an archive that may run has a space
abbrev pub runs_in : ℕ → Option Running → Bool
runs_in space None = false
runs_in space (Some r) = archives r.cursor space

-- the spaces of all running archives are up
abbrev pub AreAllUp : Anchor → List (Option Running) → Type 0
AreAllUp a l = (k space : ℕ) → runs_in space (running_of l k) ≡ true → is_up a space ≡ true

-- these are the bytes of a page as at the cut of the archive
abbrev pub IsImageOf : Machine → Option Archive → ℕ → ℕ → List ℕ → Type 0
IsImageOf m None space page bytes = ⊥
IsImageOf m (Some a) space page bytes = bytes ≡ image_at m a space page

-- where a page is answered these are its bytes
abbrev pub IsImage : Machine → Option Archive → Reply → List ℕ → Type 0
IsImage m o (PageIs space page) bytes = IsImageOf m o space page bytes
IsImage m o _ bytes = Unit {0}

-- ---- turns

-- the next page of an archiver's archive
abbrev pub take_turn : Machine → ℕ → Reply × Machine
take_turn m k = take_at m k (archive_of m k)

-- it ends
abbrev pub end_turn : Machine → ℕ → Reply × Machine
end_turn m k = end_at m k (archive_of m k)

-- it is given up
abbrev pub cancel_turn : ℕ → Machine → ℕ → Why → Reply × Machine
cancel_turn count m k why = cancel_at count m k why (archive_of m k)
