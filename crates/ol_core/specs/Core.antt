-- What contracts see of the engine, and what it keeps true.
use Rattle.std.specs.Prelude.{List, None, Option, Some, [], length, map, option_to_list, replicate, ℕ, ◌++◌, ◌+◌, ◌<◌, ◌∷◌, ◌≡◌, ◌≤◌}
use Rattle.std.specs.Option.{option_map}
use Rattle.ol_values.specs.declared.event.Event.{Event}
use Rattle.ol_values.specs.declared.event.Reply.{Reply}
use Rattle.ol_values.specs.declared.event.Reply.TheVariants.{PageIs, TapeFault}
use Rattle.ol_values.specs.declared.history.By.{By}
use Rattle.ol_values.specs.declared.history.Entry.{Entry}
use Rattle.ol_values.specs.declared.record.Record.{Record}
use Rattle.ol_values.specs.declared.record.Rid.{Rid}
use Rattle.ol_values.specs.Config.{Config, data_pages}
use Rattle.ol_core.specs.Machine.{Archive, Machine, formatted, no_seat, pages_of}
use Rattle.ol_rules.specs.Transactions.{Txn, open_at}
use Rattle.ol_core.specs.Turns.{given_by, turn}
use Rattle.ol_chunks.specs.Limits.{IsConfig}
use Rattle.ol_core.specs.declared.running.Running.{Running}
use Rattle.ol_core.specs.Filled.{AreFilled, Filled, saved_in, used_from}

pub record Seen : Type 0 where
  pub machine : Machine
  pub history : List Entry

-- ---- what contracts see

abbrev pub archive_in : Running → Archive
archive_in a = record { number = a.number; level = 0; cut = a.cut; low = a.low; spaces = saved_in a.spaces; passed = a.passed }

-- the machine of a configuration: one session and one archiver work
abbrev pub machine_in : Config → List Record → Option ℕ → List (Option Rid) → ℕ → Option Running → Machine
machine_in c journal txn registers next archive = record (formatted c) {
  work = record { journal = journal; sessions = record { txn = txn; registers = registers } ∷ replicate 15 no_seat };
  next_archive = next;
  archives = option_map archive_in archive ∷ replicate 3 None;
}

abbrev pub entry_of : ℕ → By → Event → Reply → Entry
entry_of number by event reply = record { number = number; actor = by.actor; line = by.line; event = event; reply = reply; start = 0; calls = 0 }

-- a turn is a step of the machine, and appends one entry
pub record Takes (old : Seen) (by : By) (event : Event) (reply : Reply) (new : Seen) : Type 0 where
  pub step : ◌≡◌ {A = Reply × Machine} (reply, new.machine) (turn (given_by reply) old.machine by.actor event)
  pub told : new.history ≡ old.history ++ entry_of (length old.history + 1) by event reply ∷ []

-- no archive is running
abbrev pub IsIdle : Seen → Type 0
IsIdle s = s.machine.archives ≡ replicate 4 None

-- no more pages have passed than the archive has
abbrev pub IsWithin : Machine → Running → Type 0
IsWithin m a = a.passed ≤ length (pages_of m (archive_in a))

-- ---- what it keeps true

-- nothing was appended since a running archive's cut, so that its pages are those that rows lie on
abbrev pub IsStill : List Record → List Filled → Option Running → Type 0
IsStill journal spaces None = Unit {0}
IsStill journal spaces (Some a) = (a.cut ≡ length journal) × (a.passed ≤ length (used_from spaces a.spaces 0))

pub record IsKept (config : Config) (journal : List Record) (txn : Option ℕ) (spaces : List Filled) (next : ℕ) (archive : Option Running) (history : List Entry) : Type 0 where
  pub limits : IsConfig config
  -- the session's transaction is the one that is open
  pub open_txn : map (λ (t : Txn). t.number) (open_at journal) ≡ option_to_list txn
  -- the pages of all spaces are held
  pub whole : length spaces ≡ length config.spaces
  pub filled : AreFilled config journal spaces
  -- each archive has an entry
  pub number : next ≤ length history + 1
  pub still : IsStill journal spaces archive

-- ---- what replies tell

-- the page that a reply names is a data page of the configuration
abbrev pub IsThere : Config → Reply → Type 0
IsThere c (PageIs space page) = (space < length c.spaces) × (page < data_pages c space)
IsThere c _ = Unit {0}

-- a fault's count is the one that the drive shows
abbrev pub ShowsCount : ℕ → Reply → Type 0
ShowsCount faults (TapeFault drive count) = count ≡ faults
ShowsCount faults _ = Unit {0}
