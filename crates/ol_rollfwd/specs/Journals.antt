-- A roll forward by the records of a sound journal.
use Rattle.std.specs.Prelude.{List, None, Option, Some, length, map, max, slice_index_or, take, true, ℕ, ◌++◌, ◌+◌, ◌<◌, ◌≡◌, ◌≤◌}
use Rattle.ol_values.specs.declared.record.Record.{Record}
use Rattle.ol_values.specs.Config.{Config, has_page}
use Rattle.ol_values.specs.Pages.{Page}
use Rattle.ol_rules.specs.Journal.{page_at}
use Rattle.ol_rules.specs.Sound.{Sound}
use Rattle.ol_rules.specs.Transactions.{Txn, low_at}
use Rattle.ol_rollfwd.specs.Feeding.{Fed, fed_from}
use Rattle.ol_rollfwd.specs.Losers.{Loser}
use Rattle.ol_rollfwd.specs.Rolls.{least_cut, rolling}

-- an open transaction of a journal, as a roll forward keeps it
abbrev pub loser_of : Txn → Loser
loser_of t = record { txn = t.number; changes = t.pending; undone = t.undone }

abbrev pub losers_of : List Txn → List Loser
losers_of txns = map loser_of txns

-- each page of a space that gets records is as behind those of the journal up to a position, or to the space's cut, where that is greater
abbrev pub ArePagesAt : Config → List Record → List (Option ℕ) → ℕ → (ℕ → ℕ → Page) → Type 0
ArePagesAt c journal cuts position pages =
    (space page cut : ℕ) → has_page c space page ≡ true → slice_index_or cuts space None ≡ Some cut → pages space page ≡ page_at (take (max cut position) journal) space page

-- a sound journal is read from behind its first part on, which ends at the least cut or before; no transaction that is open at that cut began in it, and each page is as at the cut of its space
pub record IsReadOf (c : Config) (past read : List Record) (cuts : List (Option ℕ)) (pages : ℕ → ℕ → Page) : Type 0 where
  pub sound : Sound c (past ++ read)
  pub within : length past ≤ least_cut cuts
  pub low : length past < low_at (take (least_cut cuts) (past ++ read))
  pub pages_are : ArePagesAt c (past ++ read) cuts 0 pages

-- before the first record that is read
abbrev pub reading : Config → List Record → List (Option ℕ) → (ℕ → ℕ → Page) → Fed
reading c past cuts pages = fed_from (rolling c (length past + 1) cuts) pages
