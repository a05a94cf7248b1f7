-- What is shown, and what a stop leaves, while pages are read and nothing else changes.
use Rattle.std.specs.Prelude.{Err, IsErrOf, List, Option, ℕ, ◌≡◌}
use Rattle.std.proofs.Common.{ap, subst, sym, ◌∙◌}
use Rattle.ol_values.specs.declared.record.Record.{Record}
use Rattle.ol_values.specs.Config.{has_page}
use Rattle.ol_model.specs.Machine.{Machine}
use Rattle.ol_before.specs.Images.{Captures}
use Rattle.ol_ports.specs.Disk.{Past}
use Rattle.ol_ports.specs.Stops.{Stops}
use Rattle.ol_running.specs.declared.running.Running.{Running}
use Rattle.ol_running.specs.Running.{ShowsArchives}
use Rattle.ol_storage.specs.declared.storage.StorageFault.{StorageFault}
use Rattle.ol_storage.specs.declared.storage.StorageFault.TheVariants.{Failed, NoMemory}
use Rattle.ol_storage.specs.Installation.{Installation, config_of}
use Rattle.ol_txn.specs.Seats.{Seat}
use Rattle.ol_engine.specs.Parts.{HasTurns, Registers}
use Rattle.ol_engine.specs.Turns.{StandsWithinEither}
use Rattle.ol_free_slots.specs.Slots.{IsRead}
use Rattle.ol_free_slots.proofs.Reading.{read_bad, read_shows, read_unframed}
use Rattle.ol_archive_turns.specs.Turns.{Tells}
use Rattle.ol_archive_turns.proofs.Shown.{store_turns}
use Rattle.ol_archive_start.specs.Starting.{HasUnread, IsBadIn, anchor_started}

pub read_tells : (opened : ℕ) (v w : Installation) (seats : List Seat) (registers : Registers) (l : List (Option Running)) (m : Machine) → IsRead v w → Tells opened v seats registers l m → Tells opened w seats registers l m
read_tells opened v w seats registers l m read tells = (read_shows opened v w seats registers m read tells.0, subst (λ (b : Captures). ShowsArchives l b m) (sym read.before) tells.1)

pub read_turns : (opened : ℕ) (v w : Installation) (seats : List Seat) → IsRead v w → HasTurns opened v seats → HasTurns opened w seats
read_turns opened v w seats read is = store_turns opened v w seats w.store read.step is

pub read_stops : (v w : Installation) (seats : List Seat) (before : ℕ → Record) (m : Machine) (past now : Past) → IsRead v w → Stops past now (StandsWithinEither w (anchor_started w seats) before m) → Stops past now (StandsWithinEither v (anchor_started v seats) before m)
read_stops v w seats before m past now read stops = subst (λ (x : Installation). Stops past now (StandsWithinEither x (anchor_started x seats) before m)) read.step stops

-- want of memory is no failed call
pub not_failed : {T : Type 0} (f : StorageFault) → f ≡ NoMemory → IsErrOf {T = T} (Err f) Failed → ⊥
not_failed f is e = let same : f ≡ Failed = cc in absurd (let clash : NoMemory ≡ Failed = sym is ∙ same in cc)

-- a page that can't be read now could not before
pub bad_before : (v w : Installation) (chunk at : ℕ) → IsRead v w → IsBadIn w chunk at → IsBadIn v chunk at
bad_before v w chunk at read (space, page, there, bad) = (space, page, ap (λ (x : Installation). has_page (config_of x) space page) (sym read.step) ∙ there, read_bad v w space page chunk at read bad)

pub unread_before : (v w : Installation) → IsRead v w → HasUnread w → HasUnread v
unread_before v w read (space, page, there, none) = (space, page, ap (λ (x : Installation). has_page (config_of x) space page) (sym read.step) ∙ there, read_unframed v w space page read none)
