-- That the store's pages are those of the machine.
use Rattle.std.specs.Prelude.{true, ℕ, ◌≡◌}
use Rattle.ol_model.specs.Machine.{Machine, last_of, page_upto}
use Rattle.ol_store.specs.Pages.{Pages}

-- each page of a space that is up is the machine's, as at the last position
abbrev pub ShowsPages : Pages → Machine → Type 0
ShowsPages v m = (space page : ℕ) → v.is_up space ≡ true → v.now space page ≡ page_upto m (last_of m) space page
