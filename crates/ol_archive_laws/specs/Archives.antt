-- A running archive as the archive that stands on its drive when it has ended, and what it has of a journal.
use Rattle.std.specs.Prelude.{All, Bool, List, length, map, true, ℕ, ◌+◌, ◌++◌, ◌<◌, ◌^◌, ◌∷◌, ◌≡◌, ◌≤◌}
use Rattle.ol_values.specs.declared.history.Entry.{Entry}
use Rattle.ol_values.specs.declared.record.Record.{Record}
use Rattle.ol_values.specs.Blocks.{Saved}
use Rattle.ol_values.specs.Config.{Config, config_text}
use Rattle.ol_rules.specs.Saveset.{saveset}
use Rattle.ol_rules.specs.Shelf.{Shelf}
use Rattle.ol_rules.specs.Sound.{Sound}
use Rattle.ol_rules.specs.Start.{IsStartOf}
use Rattle.ol_model.specs.ArchiveTurns.{kept_at}
use Rattle.ol_model.specs.History.{Steps, state_after}
use Rattle.ol_model.specs.Machine.{Archive, Machine, config_of, last_of}
use Rattle.ol_model.specs.Tape.{head_at, saved_at}
use Rattle.ol_model.specs.Waiting.{pages_of}
use Rattle.ol_chunks.specs.Limits.{IsConfig}
use Rattle.ol_block_reading.specs.Grammar.{AreAscending}
use Rattle.ol_tape_laws.specs.Runs.{Begins, RunsToEnd}
use Rattle.ol_catalog.specs.Written.{Archived}

-- its head, and its pages with their images at the cut
abbrev pub archived_by : Machine → Archive → Archived
archived_by m a = record {
  incarnation = m.lasting.incarnation;
  number = a.number;
  cut = a.cut;
  low = a.low;
  level = a.level;
  head = head_at m a;
  config = config_of m;
  pages = map (λ (p : ℕ × ℕ). saved_at m a p.0 p.1) (pages_of m a);
}

-- the archive has the saveset of a journal at its cut as its pages, its spaces are of the configuration and in ascending order, and its numbers are within limits
pub record IsOfJournal (c : Config) (journal : List Record) (x : Archived) : Type 0 where
  pub config : x.config ≡ c
  pub text : x.head.text ≡ config_text c
  pub pages : x.pages ≡ saveset c journal x.head.spaces x.cut
  pub some : 1 ≤ length x.head.spaces
  pub spaces : AreAscending (length c.spaces) 0 x.head.spaces
  pub cut : x.cut ≤ length journal
  pub low : x.low ≤ x.cut + 1
  pub level : x.level ≤ 2
  pub incarnation : x.incarnation ≤ 2 ^ 60
  pub number : x.number ≤ 2 ^ 60

-- the machine stands behind the start of a sound journal, with a configuration within its limits
pub record IsBehind (on : ℕ → Bool) (journal : List Record) (m : Machine) : Type 0 where
  pub config : IsConfig (config_of m)
  pub start : IsStartOf (config_of m) on journal m.work.start
  pub sound : Sound (config_of m) (journal ++ m.work.records)

-- behind the start of a sound journal, an archive may begin: its level, the incarnation and the numbers of archives are within limits, no known archive that it goes on from has a cut behind the last position, and it has a space and none but spaces that are up
pub record MayArchive (on : ℕ → Bool) (journal : List Record) (m : Machine) (a : Archive) : Type 0 where
  pub behind : IsBehind on journal m
  pub level : a.level ≤ 2
  pub known : (space : ℕ) → ((kept_at m a.level space).number < 2 ^ 64) × ((kept_at m a.level space).cut ≤ last_of m)
  pub incarnation : m.lasting.incarnation ≤ 2 ^ 60
  pub next : m.lasting.next_archive ≤ 2 ^ 60
  pub some : 1 ≤ length a.spaces
  pub up : All (λ (v : Saved). on v.space ≡ true) a.spaces

-- by an entry archiver k begins this archive, and takes it to its end by some of those that follow
pub record IsTakenBy (shelf : Shelf) (k : ℕ) (a : Archive) (m : Machine) (e : Entry) (h : List Entry) : Type 0 where
  pub begins : Begins shelf k a m e
  pub number : ℕ
  pub steps : Steps shelf m number (e ∷ h)
  pub runs : RunsToEnd shelf k (length (pages_of (state_after shelf m e) a)) (state_after shelf m e) h
