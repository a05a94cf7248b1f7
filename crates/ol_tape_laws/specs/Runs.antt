-- The entries that take the pages of an archive to its end, and the blocks that they put on its drive.
use Rattle.std.specs.Prelude.{List, None, Some, [], false, length, map, suc, zero, ℕ, ◌++◌, ◌+◌, ◌-◌, ◌<◌, ◌∷◌, ◌≡◌, ◌≤◌, ◌⊎◌}
use Rattle.ol_values.specs.declared.event.Event.{Event}
use Rattle.ol_values.specs.declared.event.Event.TheVariants.{ArchiveEnd, ArchiveStart, ArchiveTurn}
use Rattle.ol_values.specs.declared.history.Actor.TheVariants.{Archiver}
use Rattle.ol_values.specs.declared.history.Entry.{Entry}
use Rattle.ol_values.specs.Blocks.{Block, SavedPage, archive_page, header_kind, trailer_kind}
use Rattle.ol_rules.specs.Shelf.{Shelf}
use Rattle.ol_model.specs.History.{state_after}
use Rattle.ol_model.specs.Machine.{Archive, Machine, archive_of, last_of}
use Rattle.ol_model.specs.Tape.{archive_end_at, is_at_drive, saved_at}
use Rattle.ol_model.specs.Turns.{given_by}
use Rattle.ol_model.specs.Waiting.{pages_of}
use Rattle.ol_turn_laws.specs.Spaces.{KnowsSpaces}

-- the entry is a turn of archiver k in which no device failed
abbrev pub IsTurnOf : ℕ → Event → Entry → Type 0
IsTurnOf k event e = (e.actor ≡ Archiver k) × (e.event ≡ event) × ((given_by e.reply).fault ≡ None)

-- the entry is a turn of another actor that leaves the archive running, and the engine too
pub record IsBeside (shelf : Shelf) (k : ℕ) (m : Machine) (e : Entry) : Type 0 where
  pub other : is_at_drive k e.actor ≡ false
  pub running : archive_of (state_after shelf m e) k ≡ archive_of m k
  pub going : (state_after shelf m e).stopped ≡ m.stopped

-- from a state on, archiver k takes so many pages and then ends its archive; between its turns others take theirs
abbrev pub RunsToEnd : Shelf → ℕ → ℕ → Machine → List Entry → Type 0
RunsToEnd shelf k n m [] = ⊥
RunsToEnd shelf k zero m (e ∷ h) = (IsTurnOf k ArchiveEnd e × (h ≡ [])) ⊎ (IsBeside shelf k m e × RunsToEnd shelf k zero (state_after shelf m e) h)
RunsToEnd shelf k (suc n) m (e ∷ h) = (IsTurnOf k ArchiveTurn e × RunsToEnd shelf k n (state_after shelf m e) h) ⊎ (IsBeside shelf k m e × RunsToEnd shelf k (suc n) (state_after shelf m e) h)

-- the blocks of these saved pages of an archive, from this index on
abbrev pub saved_blocks : ℕ → ℕ → ℕ → List SavedPage → List Block
saved_blocks incarnation number index [] = []
saved_blocks incarnation number index (p ∷ rest) = archive_page incarnation number index p ∷ saved_blocks incarnation number (index + 1) rest

-- the same of these pages with their images at its cut
abbrev pub page_blocks : Machine → Archive → ℕ → List (ℕ × ℕ) → List Block
page_blocks m a index pages = saved_blocks m.lasting.incarnation a.number index (map (λ (p : ℕ × ℕ). saved_at m a p.0 p.1) pages)

-- the trailer of an archive
abbrev pub trailer_of : Machine → Archive → Block
trailer_of m a = archive_end_at m trailer_kind (length (pages_of m a) + 1) a

-- the blocks of an archive behind its header: its pages in order, and its trailer
abbrev pub rest_blocks : Machine → Archive → List Block
rest_blocks m a = page_blocks m a 1 (pages_of m a) ++ trailer_of m a ∷ []

-- all its blocks
abbrev pub whole_blocks : Machine → Archive → List Block
whole_blocks m a = archive_end_at m header_kind 0 a ∷ rest_blocks m a

-- archiver k has this archive, of which no page has passed, and nothing keeps it from going on
pub record HasNew (k : ℕ) (a : Archive) (m : Machine) : Type 0 where
  pub own : archive_of m k ≡ Some a
  pub fresh : a.passed ≡ 0
  pub whole : a.broken ≡ None
  pub going : m.stopped ≡ None
  pub knows : KnowsSpaces m
  pub cut : a.cut ≤ last_of m

-- archiver k, one of those of the machine, had none, and by this entry begins this one
pub record Begins (shelf : Shelf) (k : ℕ) (a : Archive) (m : Machine) (e : Entry) : Type 0 where
  pub level : ℕ
  pub names : List (List ℕ)
  pub within : k - 1 < length m.archives
  pub none : archive_of m k ≡ None
  pub going : m.stopped ≡ None
  pub knows : KnowsSpaces m
  pub turn : IsTurnOf k (ArchiveStart level names) e
  pub own : archive_of (state_after shelf m e) k ≡ Some a
