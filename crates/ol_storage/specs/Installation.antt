-- The storage as plain data, and the steps that its calls make.
use Rattle.std.specs.Prelude.{Bool, List, None, Option, Some, false, option_map, ℕ, ◌+◌, ◌-◌, ◌<◌, ◌≡◌, ◌≤◌}
use Rattle.ol_values.specs.declared.record.Record.{Record}
use Rattle.ol_values.specs.Config.{Config, config_text}
use Rattle.ol_rules.specs.Ring.{Reuse, Ring, Use, to_back_up}
use Rattle.ol_rules.specs.Ring.{flushed as flushed_ring}
use Rattle.ol_reserve.specs.Anchor.{IsAnchor}
use Rattle.ol_reserve.specs.declared.anchor.Anchor.{Anchor}
use Rattle.ol_log_places.specs.Places.{HasLog}
use Rattle.ol_data_pages.specs.Places.{HasSpaces}
use Rattle.ol_log_state.specs.RingState.{RingState, ring_of, switched, with_backed, with_need}
use Rattle.ol_physlog.specs.States.{emptied}
use Rattle.ol_loglog.specs.Ready.{IsNextUnbacked}
use Rattle.ol_loglog.specs.RingValue.{RingValue, first_unwritten, flushed_state, logged_state, ring_value}
use Rattle.ol_storage.specs.declared.lasting.Lasting.{Lasting}
use Rattle.ol_store.specs.Stores.{Store, checkpointed_of, cleaned_of, with_flushed, with_log}

-- the log ring, the store of pages, the newest anchor, the position up to which the pages have the records, and whether a call of the disk has failed
pub record Installation : Type 0 where
  pub ring : RingValue
  pub store : Store
  pub anchor : Anchor
  pub reached : ℕ
  pub stopped : Bool

-- the disk and what stands on it
pub record Held (X : Type 0) : Type 0 where
  pub disk : X
  pub now : Installation

abbrev pub config_of : Installation → Config
config_of v = v.ring.config

-- how many positions are flushed: the last that is written
abbrev pub flushed_of : Installation → ℕ
flushed_of v = first_unwritten v.ring.state - 1

-- the position of the last record
abbrev pub last_of : Installation → ℕ
last_of v = v.ring.state.next - 1

-- the disk has all pages of the installation
pub record HasAll (c : Config) (sizes : ℕ → ℕ) : Type 0 where
  pub log : HasLog c sizes
  pub spaces : HasSpaces c sizes
  pub pair : 2 ≤ sizes 0

-- what is always so, as long as no call of the disk has failed
pub record IsGoing (v : Installation) : Type 0 where
  pub config : v.store.config ≡ v.ring.config
  pub generation : v.store.log.generation ≡ v.anchor.generation
  pub reuse : v.ring.state.reuse ≡ (let m : Reuse = record { backed = v.anchor.backed; need = v.anchor.need } in m)
  pub anchor : IsAnchor v.anchor
  pub text : v.anchor.text ≡ config_text v.ring.config
  pub flushed : v.store.flushed < first_unwritten v.ring.state
  pub reached : v.reached < v.ring.state.next
  -- the anchor has no greater unique number than the ring, and the next page's file is not backed up
  pub uniq : v.anchor.uniq ≤ v.ring.state.files.uniq
  pub unbacked : IsNextUnbacked v.ring.state

pub record IsInstallation (sizes : ℕ → ℕ) (v : Installation) : Type 0 where
  pub disk : HasAll (config_of v) sizes
  pub going : v.stopped ≡ false → IsGoing v
  -- no page has a stamp behind the last record
  pub stamps : v.stopped ≡ false → v.store.last < v.ring.state.next

-- ---- steps

-- another state of the ring, with gates that only the disk knows
abbrev pub with_ring : Installation → RingState → List Bool → Installation
with_ring v state gates = record { ring = ring_value v.ring.config state gates; store = v.store; anchor = v.anchor; reached = v.reached; stopped = v.stopped }

-- another store
abbrev pub with_store : Installation → Store → Installation
with_store v store = record { ring = v.ring; store = store; anchor = v.anchor; reached = v.reached; stopped = v.stopped }

-- the pages have come to this position
abbrev pub with_reached : Installation → ℕ → Installation
with_reached v reached = record { ring = v.ring; store = v.store; anchor = v.anchor; reached = reached; stopped = v.stopped }

-- a record that changes no page of a space that is up is appended
abbrev pub appended : Installation → Record → List Bool → Installation
appended v r gates = with_reached (with_ring v (logged_state r v.ring.state) gates) (v.reached + 1)

-- all records are written, and the store knows it
abbrev pub flushed : Installation → List Bool → Installation
flushed v gates = with_store (with_ring v (flushed_state v.ring.state) gates) (with_flushed v.store (last_of v))

-- a dirty page is cleaned behind a flush
abbrev pub flushed_and_cleaned : Installation → List Bool → Option (ℕ × ℕ) → Installation
flushed_and_cleaned v gates place = with_store (flushed v gates) (cleaned_of (with_flushed v.store (last_of v)) place)

-- the same, where there is a dirty page; else nothing is done
abbrev pub cleaned : Installation → List Bool → Option (ℕ × ℕ) → Installation
cleaned v gates None = v
cleaned v gates (Some place) = flushed_and_cleaned v gates (Some place)

-- the ring behind that
abbrev pub cleaned_ring : Installation → Option (ℕ × ℕ) → Ring
cleaned_ring v None = ring_of v.ring.state
cleaned_ring v (Some place) = flushed_ring (config_of v) (ring_of v.ring.state) (last_of v)

-- another anchor
abbrev pub with_anchor : Installation → Anchor → Installation
with_anchor v a = record { ring = v.ring; store = v.store; anchor = a; reached = v.reached; stopped = v.stopped }

-- the anchor of another lasting state, at the same checkpoint
abbrev pub lasting_anchor : Anchor → Lasting → ℕ → Anchor
lasting_anchor a l uniq =
    record a { serial = a.serial + 1; next_archive = l.next_archive; uniq = uniq; states = l.states; down_at = l.down_at; zero = l.zero; one = l.one }

-- the same, of an installation
abbrev pub with_lasting : Installation → Lasting → Installation
with_lasting v l = with_anchor v (lasting_anchor v.anchor l v.ring.state.files.uniq)

-- the anchor of a greater backed number, at the same checkpoint
abbrev pub backed_anchor : Anchor → ℕ → ℕ → Anchor
backed_anchor a backed uniq = record a { serial = a.serial + 1; backed = backed; uniq = uniq }

-- the uses up to this one are backed up
abbrev pub backed_up : Installation → ℕ → Installation
backed_up v uniq = with_anchor (with_ring v (with_backed uniq v.ring.state) v.ring.gates) (backed_anchor v.anchor uniq v.ring.state.files.uniq)

-- the least closed use that is not backed up
abbrev pub next_to_back : Installation → Option ℕ
next_to_back v = option_map (λ (u : Use). u.uniq) (to_back_up (config_of v) v.ring.state.reuse (ring_of v.ring.state))

-- it is backed up, where there is one
abbrev pub marked : Installation → Option ℕ → Installation
marked v None = v
marked v (Some uniq) = backed_up v uniq

-- all records are written, and the current file is closed
abbrev pub closed : Installation → List Bool → Installation
closed v gates = with_ring (flushed v gates) (switched (flushed_state v.ring.state)) gates

-- the anchor of a checkpoint at this position, with this need and this number for the next archive
abbrev pub checkpoint_anchor : Anchor → ℕ → ℕ → ℕ → ℕ → Anchor
checkpoint_anchor a position need archive uniq =
    record a { serial = a.serial + 1; position = position; generation = a.generation + 1; next_archive = archive; uniq = uniq; need = need }

-- the checkpoint has moved to where the pages are, and the physical log begins a new generation
abbrev pub moved : Installation → ℕ → ℕ → Installation
moved v need archive = record {
  ring = ring_value v.ring.config (with_need need v.ring.state) v.ring.gates;
  store = with_log v.store (emptied v.store.log (v.anchor.generation + 1));
  anchor = checkpoint_anchor v.anchor v.reached need archive v.ring.state.files.uniq;
  reached = v.reached;
  stopped = v.stopped;
}

-- a checkpoint: all is flushed and written first
abbrev pub checkpointed : Installation → ℕ → ℕ → List Bool → Installation
checkpointed v need archive gates = moved (with_store (flushed v gates) (checkpointed_of (with_flushed v.store (last_of v)))) need archive
