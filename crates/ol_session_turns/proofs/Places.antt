-- The changes that are not taken back, where a transaction begins or ends.
use Rattle.std.specs.List.{All}
use Rattle.std.specs.Prelude.{Bool, List, None, Option, Some, [], length, true, ℕ, ◌-◌, ◌≡◌}
use Rattle.std.proofs.Common.{ap, inl, inr, subst, sym, ⊎_elim, ◌∙◌}
use Rattle.std.proofs.lemmas.List.Elements.{All-nil}
use Rattle.ol_values.specs.declared.record.Rid.{Rid}
use Rattle.ol_values.specs.declared.row.Row.{Row}
use Rattle.ol_rules.specs.Locks.{Holding}
use Rattle.ol_txn.specs.Seats.{IsSession, Seat, begun, begun_seat, forgotten_seat}
use Rattle.ol_txn.specs.Seats.{seat_of as locks_of, with_seat as with_locks}
use Rattle.ol_engine.proofs.Tables.{held_seat, held_set}
use Rattle.ol_session_turns.specs.Pending.{ArePending, HoldsNoMore}

-- what holds of the place of each change still holds of each behind it
pub pending_kept : (test : Rid → Bool) (before now : List Seat) → HoldsNoMore before now → ArePending test before → ArePending test now
pending_kept test before now keeps are k h e =
    ⊎_elim
    (λ (none : h.pending ≡ []). subst (λ (l : List (Rid × Option Row)). All (λ (p : Rid × Option Row). test p.0 ≡ true) l) (sym none) (All-nil (λ (p : Rid × Option Row). test p.0 ≡ true)))
    (λ (old : (locks_of before k).holding ≡ Some h). are k h old)
    (keeps k h e)

module _ (seats : List Seat) (k : ℕ) (session : IsSession k) (sixteen : length seats ≡ 16) where
  -- session k has another seat, without a change
  set_held : (s : Seat) → ((h : Holding) → s.holding ≡ Some h → h.pending ≡ []) → HoldsNoMore seats (with_locks seats k s)
  set_held s none j h e =
      ⊎_elim (λ (own : s.holding ≡ Some h). inl (none h own)) (λ old. inr (sym (held_seat seats j) ∙ old))
      (held_set seats k (j - 1) s h sixteen session (held_seat (with_locks seats k s) j ∙ e))

  -- a transaction that begins has no change
  pub begun_held : (txn : ℕ) → HoldsNoMore seats (with_locks seats k (begun_seat txn (locks_of seats k)))
  begun_held txn = set_held (begun_seat txn (locks_of seats k)) (λ h e. let same : begun txn ≡ h = (let c : Some (begun txn) ≡ Some h = e in cc) in ap (λ (x : Holding). x.pending) (sym same))

  -- one that ends leaves none
  pub forgotten_held : HoldsNoMore seats (with_locks seats k (forgotten_seat (locks_of seats k)))
  forgotten_held = set_held (forgotten_seat (locks_of seats k)) (λ h e. absurd (let c : None ≡ Some h = e in cc))

module _ (test : Rid → Bool) (seats : List Seat) (k : ℕ) (session : IsSession k) (sixteen : length seats ≡ 16) (are : ArePending test seats) where
  -- session k has another seat, of whose changes it holds
  pub set_pending : (s : Seat) → ((h : Holding) → s.holding ≡ Some h → All (λ (p : Rid × Option Row). test p.0 ≡ true) h.pending) → ArePending test (with_locks seats k s)
  set_pending s own j h e =
      ⊎_elim (λ (mine : s.holding ≡ Some h). own h mine) (λ old. are j h (sym (held_seat seats j) ∙ old))
      (held_set seats k (j - 1) s h sixteen session (held_seat (with_locks seats k s) j ∙ e))
