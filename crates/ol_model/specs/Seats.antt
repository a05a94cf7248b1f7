-- Seats of the turnstile: what the holder of one has seen of the history, and which of its entries are its own.
use Rattle.std.specs.Prelude.{List, None, Option, Some, [], filter, length, take, ℕ, ◌≡◌, ◌≤◌}
use Rattle.ol_values.specs.declared.history.Actor.{Actor}
use Rattle.ol_values.specs.declared.history.Entry.{Entry}
use Rattle.ol_values.specs.Text.{same_actor}

-- a seat: the entries that its holder has seen, and those of its own turns
pub record SeatView : Type 0 where
  pub seen : List Entry
  pub own : List Entry

-- the entries of an actor in a history; the first seat is nobody's
abbrev pub own_in : Option Actor → List Entry → List Entry
own_in None h = []
own_in (Some actor) h = filter (λ (e : Entry). same_actor e.actor actor) h

-- what was seen is a first part of the history, and what is own are all entries of the actor
pub record IsSeatOf (actor : Option Actor) (h : List Entry) (view : SeatView) : Type 0 where
  pub seen : view.seen ≡ take (length view.seen) h
  pub own : view.own ≡ own_in actor h
